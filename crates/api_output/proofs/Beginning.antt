-- How rows begin: an id behind the front of its object makes the first member.
use Rattle.std.proofs.Common.{◌≡◌, ◌∙◌, ◌<◌, ◌≤◌, ◌^◌, ◌-◌, ℕ, zero, suc, true, List, [], ◌∷◌, ◌++◌, length, take, drop, refl, sym, ap, append_assoc, arith, lit<, inr}
use Rattle.std.proofs.lemmas.Bool.Decides.{nat_tests}
use Rattle.std.proofs.lemmas.Grind.{flat_map-append}
use Rattle.std.proofs.Math.Seq.{take-append_seam}
use Rattle.std.proofs.lemmas.List.{length-append, length-take}
use Rattle.std.proofs.lemmas.List.Folds.{list_all-append}
use Rattle.std.proofs.lemmas.Str.{encodes-append}
use Rattle.std.proofs.lemmas.Str.Ascii.{encodes-IsAscii}
use Rattle.std.proofs.Math.Nat.{one-le-pow, pow-succ'}
use Rattle.std.specs.Char.{encode_utf8}
use Rattle.std.specs.List.{flat_map, list_all}
use Rattle.std.specs.Prelude.{◌==◌, codes, IsTrue}
use Rattle.std.specs.Str.{chars, encode_utf8_all}
use Rattle.std.proofs.lemmas.Bool.{and_parts as both}
use Rattle.base_lemmas.proofs.Bools.{cond_at_most_one as one_or_none}
use Rattle.base_json.specs.Printing.{escaped, is_plain, printed_text}
use Rattle.base_json.proofs.Plain.{all_plain}
use Rattle.base_value.specs.Id.{capitals, is_capital, is_digit62, is_id, print18, suffix, suffix_char}
use Rattle.base_value.proofs.Spelled.{text_ascii}
use Rattle.model.specs.RowsJson.{member_json}
use Rattle.api_output.specs.Rows.{addresses, attributes_member, row_front}
use Rattle.api_output.proofs.Written.{after}

-- ---- the characters of an id stand for themselves

digit_plain : (c : ℕ) → is_digit62 c ≡ true → is_plain c ≡ true
digit_plain c h = grind (arith, nat_tests, h)

digits_plain : (cs : List ℕ) → list_all is_digit62 cs ≡ true → list_all is_plain cs ≡ true
digits_plain [] h = refl
digits_plain (c ∷ cs) h =
    let p = both (is_digit62 c) (list_all is_digit62 cs) h in
    rw (digit_plain c p.0, digits_plain cs p.1) refl

few_capitals : (k : ℕ) (cs : List ℕ) → length cs ≤ k → capitals cs < 2 ^ k
few_capitals k [] h = one-le-pow k 2 (lit< tt)
few_capitals zero (c ∷ cs) h = absurd (omega arith)
few_capitals (suc k) (c ∷ cs) h =
    let rest = few_capitals k cs (omega arith) in
    let first = one_or_none (is_capital c) in
    rw (pow-succ' 2 k) (omega (arith, rest, first))

last_plain : (n : ℕ) → n < 32 → is_plain (suffix_char n) ≡ true
last_plain n h = grind (arith, nat_tests)

group_plain : (cs : List ℕ) → is_plain (suffix_char (capitals (take 5 cs))) ≡ true
group_plain cs =
    let short : length (take 5 cs) ≤ 5 = rw (length-take 5 cs) (omega arith) in
    last_plain (capitals (take 5 cs)) (few_capitals 5 (take 5 cs) short)

suffix_plain : (id : List ℕ) → list_all is_plain (suffix id) ≡ true
suffix_plain id = rw (group_plain id, group_plain (drop 5 id), group_plain (drop 10 id)) refl

id_plain : (id : List ℕ) → IsTrue (is_id id) → flat_map escaped (print18 id) ≡ print18 id
id_plain id h =
    let digits = digits_plain id (both (length id == 15) (list_all is_digit62 id) h).1 in
    all_plain (print18 id) (list_all-append is_plain id (suffix id) ∙ rw (digits, suffix_plain id) refl)

-- ---- the characters

-- the first member from its pieces: its name, the type, the name of the address, what the address begins with, and the id
pieces : (n t m e i : List ℕ)
    → 44 ∷ 123 ∷ (n ++ ((123 ∷ (t ++ 44 ∷ (m ++ 34 ∷ ((e ++ i) ++ 34 ∷ [])))) ++ 125 ∷ []))
    ≡ (((((codes ",{" ++ n) ++ codes "{") ++ t) ++ codes ",") ++ ((m ++ codes "\"") ++ e)) ++ (i ++ codes "\"}")
pieces n t m e i =
    let tail = i ++ codes "\"}" in
    let closed : ((e ++ i) ++ 34 ∷ []) ++ 125 ∷ [] ≡ e ++ tail = append_assoc (e ++ i) (34 ∷ []) (125 ∷ []) ∙ append_assoc e i (codes "\"}") in
    let address : (m ++ 34 ∷ ((e ++ i) ++ 34 ∷ [])) ++ 125 ∷ [] ≡ m ++ 34 ∷ (e ++ tail) =
    append_assoc m (34 ∷ ((e ++ i) ++ 34 ∷ [])) (125 ∷ []) ∙ ap (λ (x : List ℕ). m ++ 34 ∷ x) closed in
    let left : (t ++ 44 ∷ (m ++ 34 ∷ ((e ++ i) ++ 34 ∷ []))) ++ 125 ∷ [] ≡ t ++ 44 ∷ (m ++ 34 ∷ (e ++ tail)) =
    append_assoc t (44 ∷ (m ++ 34 ∷ ((e ++ i) ++ 34 ∷ []))) (125 ∷ []) ∙ ap (λ (x : List ℕ). t ++ 44 ∷ x) address in
    let front = (((codes ",{" ++ n) ++ codes "{") ++ t) ++ codes "," in
    let last : ((m ++ codes "\"") ++ e) ++ tail ≡ m ++ 34 ∷ (e ++ tail) = append_assoc (m ++ codes "\"") e tail ∙ append_assoc m (codes "\"") (e ++ tail) in
    let rest = m ++ 34 ∷ (e ++ tail) in
    let right : (front ++ ((m ++ codes "\"") ++ e)) ++ tail ≡ 44 ∷ 123 ∷ (n ++ 123 ∷ (t ++ 44 ∷ rest)) =
    append_assoc front ((m ++ codes "\"") ++ e) tail ∙ ap (λ (x : List ℕ). front ++ x) last
    ∙ append_assoc (((codes ",{" ++ n) ++ codes "{") ++ t) (codes ",") rest ∙ append_assoc ((codes ",{" ++ n) ++ codes "{") t (44 ∷ rest)
    ∙ append_assoc (codes ",{" ++ n) (codes "{") (t ++ 44 ∷ rest) in
    ap (λ (x : List ℕ). 44 ∷ 123 ∷ (n ++ 123 ∷ x)) left ∙ sym right

-- the id of a record behind the front of its object
member_is : (object id : List ℕ) → IsTrue (is_id id) → 44 ∷ 123 ∷ attributes_member object id ≡ row_front object ++ (print18 id ++ codes "\"}")
member_is object id h =
    let name = printed_text (codes "attributes") ++ codes ":" in
    let kind = member_json (codes "type") (printed_text object) in
    let place = printed_text (codes "url") ++ codes ":" in
    let front = flat_map escaped (addresses object) in
    let id_is = flat_map-append escaped (addresses object) (print18 id) ∙ ap (λ (t : List ℕ). front ++ t) (id_plain id h) in
    ap (λ (t : List ℕ). 44 ∷ 123 ∷ (name ++ ((123 ∷ (kind ++ 44 ∷ (place ++ 34 ∷ (t ++ 34 ∷ [])))) ++ 125 ∷ []))) id_is
    ∙ pieces name kind place front (print18 id)

-- ---- the bytes

mark_behind : encode_utf8_all (codes "\"") ≡ codes "\""
unfolding encode_utf8
mark_behind = refl

marks_behind : encode_utf8_all (codes "\"}") ≡ codes "\"}"
unfolding encode_utf8
marks_behind = refl

-- a row is begun
pub begun : (object id front w0 w1 : List ℕ) → IsTrue (is_id id) → front ≡ encode_utf8_all (row_front object) → w1 ≡ ((w0 ++ front) ++ print18 id) ++ codes "\"}"
    → w1 ≡ w0 ++ encode_utf8_all (44 ∷ 123 ∷ attributes_member object id)
begun object id front w0 w1 h is e =
    let text = print18 id in
    e ∙ append_assoc (w0 ++ front) text (codes "\"}") ∙ append_assoc w0 front (text ++ codes "\"}")
    ∙ ap (λ (f : List ℕ). w0 ++ (f ++ (text ++ codes "\"}"))) is
    ∙ ap (λ (m : List ℕ). w0 ++ (encode_utf8_all (row_front object) ++ (text ++ m))) (sym marks_behind)
    ∙ ap (λ (t : List ℕ). w0 ++ (encode_utf8_all (row_front object) ++ (t ++ encode_utf8_all (codes "\"}")))) (sym (encodes-IsAscii text (text_ascii id text h (inr refl))))
    ∙ ap (λ (t : List ℕ). w0 ++ (encode_utf8_all (row_front object) ++ t)) (sym (encodes-append text (codes "\"}")))
    ∙ ap (λ (t : List ℕ). w0 ++ t) (sym (encodes-append (row_front object) (text ++ codes "\"}")))
    ∙ ap (λ (t : List ℕ). w0 ++ encode_utf8_all t) (sym (member_is object id h))

-- the front is what was written without the mark behind it
pub without_mark : (front written kept : List ℕ) → written ≡ [] ++ encode_utf8_all (front ++ codes "\"") → kept ≡ take (length written - 1) written → kept ≡ encode_utf8_all front
without_mark front written kept e cut =
    let is : written ≡ encode_utf8_all front ++ codes "\"" = e ∙ encodes-append front (codes "\"") ∙ ap (λ (t : List ℕ). encode_utf8_all front ++ t) mark_behind in
    let long : length written - 1 ≡ length (encode_utf8_all front) = (let n = ap length is ∙ length-append (encode_utf8_all front) (codes "\"") in omega (arith, n)) in
    cut ∙ ap (λ (n : ℕ). take n written) long ∙ ap (take (length (encode_utf8_all front))) is ∙ take-append_seam (encode_utf8_all front) (codes "\"")

-- the front is written piece by piece
pub front_written : (object w0 w1 w2 w3 w4 w5 w6 w8 : List ℕ) → w1 ≡ w0 ++ encode_utf8_all (44 ∷ []) → w2 ≡ w1 ++ encode_utf8_all (123 ∷ [])
    → w3 ≡ w2 ++ encode_utf8_all (printed_text (chars (codes "attributes")) ++ codes ":") → w4 ≡ w3 ++ encode_utf8_all (123 ∷ [])
    → w5 ≡ w4 ++ encode_utf8_all (member_json (chars (codes "type")) (printed_text object)) → w6 ≡ w5 ++ encode_utf8_all (44 ∷ [])
    → w8 ≡ w6 ++ encode_utf8_all (member_json (chars (codes "url")) (printed_text (addresses object))) → w8 ≡ w0 ++ encode_utf8_all (row_front object ++ codes "\"")
unfolding chars
front_written object w0 w1 w2 w3 w4 w5 w6 w8 e1 e2 e3 e4 e5 e6 e7 =
    let name = printed_text (codes "attributes") ++ codes ":" in
    let kind = member_json (codes "type") (printed_text object) in
    let place = printed_text (codes "url") ++ codes ":" in
    let front = flat_map escaped (addresses object) in
    let two = after w0 w1 w2 (44 ∷ []) (123 ∷ []) e1 e2 in
    let three = after w0 w2 w3 (codes ",{") name two e3 in
    let four = after w0 w3 w4 (codes ",{" ++ name) (codes "{") three e4 in
    let five = after w0 w4 w5 ((codes ",{" ++ name) ++ codes "{") kind four e5 in
    let six = after w0 w5 w6 (((codes ",{" ++ name) ++ codes "{") ++ kind) (codes ",") five e6 in
    let before = (((codes ",{" ++ name) ++ codes "{") ++ kind) ++ codes "," in
    let shape : before ++ (place ++ 34 ∷ (front ++ 34 ∷ [])) ≡ (before ++ ((place ++ codes "\"") ++ front)) ++ codes "\"" =
    sym (append_assoc before ((place ++ codes "\"") ++ front) (codes "\"")
    ∙ ap (λ (t : List ℕ). before ++ t) (append_assoc (place ++ codes "\"") front (codes "\"") ∙ append_assoc place (codes "\"") (front ++ codes "\""))) in
    after w0 w6 w8 before (place ++ 34 ∷ (front ++ 34 ∷ [])) six e7 ∙ ap (λ (t : List ℕ). w0 ++ encode_utf8_all t) shape
