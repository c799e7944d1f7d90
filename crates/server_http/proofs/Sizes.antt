-- A head has more bytes than twice its field lines, so the room for lines is never too small.
use Rattle.std.proofs.Common.{ℕ, ◌*◌, ◌≤◌, List, [], ◌∷◌, length, ap, arith}
use Rattle.std.proofs.lemmas.List.{length-append}
use Rattle.std.specs.List.{flat_map}
use Rattle.httparse.specs.Grammar.{LineEnd, crlf, lf, print_end, Field, print_field, RequestHead, print_request}
use Rattle.httparse.specs.Spans.{RequestExceeds}

end_size : (e : LineEnd) → 1 ≤ length (print_end e)
end_size crlf = omega arith
end_size lf = omega arith

field_size : (f : Field) → 2 ≤ length (print_field f)
field_size f = simp length-append (let e = end_size f.end in omega (arith, e))

fields_size : (fs : List Field) → length fs * 2 ≤ length (flat_map print_field fs)
fields_size [] = omega arith
fields_size (f ∷ fs) =
    let whole = length-append (print_field f) (flat_map print_field fs) in
    let e = field_size f in
    let r = fields_size fs in
    omega (arith, whole, e, r)

request_size : (h : RequestHead) → length h.fields * 2 ≤ length (print_request h)
unfolding print_request
request_size h =
    let e = fields_size h.fields in
    simp length-append (omega (arith, e))

pub never_too_many : (bytes : List ℕ) (room : ℕ) → length bytes ≤ 16384 → 16384 ≤ room → RequestExceeds room bytes → ⊥
never_too_many bytes room size enough (front, rest, e, h, reads, over) =
    let whole = ap length e in
    let text = ap length reads.1 in
    let parts = length-append front rest in
    let cut = length-append front (print_end lf) in
    let tail = length-append (print_request h) [] in
    let least = request_size h in
    omega (arith, whole, text, parts, cut, tail, least)
