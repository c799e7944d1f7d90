-- The body of rows: what comes before them, the rows, and what comes behind.
use Rattle.std.proofs.Common.{◌≡◌, ◌∙◌, ◌≤◌, ◌+◌, ◌-◌, ℕ, List, [], ◌∷◌, ◌++◌, length, drop, true, refl, sym, ap, append_assoc, append-nil, arith}
use Rattle.std.proofs.lemmas.List.{length-append, length-drop}
use Rattle.std.specs.Prelude.{codes}
use Rattle.std.specs.Char.{encode_utf8}
use Rattle.std.specs.Fmt.{decimal}
use Rattle.std.specs.Str.{chars, encode_utf8_all}
use Rattle.std.proofs.lemmas.Str.{encodes-append}
use Rattle.base_json.specs.Printing.{printed_text, printed_truth}
use Rattle.base_json.specs.Whole.{joined}
use Rattle.model.specs.RowsJson.{member_json, rows_json}
use Rattle.api_output.specs.Rows.{behind_commas, rows_front}
use Rattle.api_output.proofs.Written.{after}

-- texts with commas between them, of which the first comes without one
pub commas : (text : List ℕ) (texts : List (List ℕ)) → text ++ behind_commas texts ≡ joined (text ∷ texts)
commas text [] = append-nil text
commas text (next ∷ texts) = ap (λ (t : List ℕ). text ++ 44 ∷ t) (commas next texts)

pub without_comma : (texts : List (List ℕ)) → drop 1 (encode_utf8_all (behind_commas texts)) ≡ encode_utf8_all (joined texts)
unfolding encode_utf8
without_comma [] = refl
without_comma (text ∷ texts) = ap encode_utf8_all (commas text texts)

-- ---- the characters

front_is : (a b r rest : List ℕ)
    → (codes "{" ++ (a ++ (codes "," ++ (b ++ (codes "," ++ (r ++ codes "[")))))) ++ rest
    ≡ codes "{" ++ (a ++ (codes "," ++ (b ++ (codes "," ++ (r ++ (codes "[" ++ rest))))))
front_is a b r rest =
    let third = ap (λ (t : List ℕ). codes "," ++ t) (append_assoc r (codes "[") rest) in
    let second = append_assoc b (codes "," ++ (r ++ codes "[")) rest ∙ ap (λ (t : List ℕ). b ++ t) third in
    let first = append_assoc a (codes "," ++ (b ++ (codes "," ++ (r ++ codes "[")))) rest ∙ ap (λ (t : List ℕ). a ++ (codes "," ++ t)) second in
    ap (λ (t : List ℕ). codes "{" ++ t) first

whole_is : (a b r rows : List ℕ)
    → (codes "{" ++ (a ++ 44 ∷ (b ++ 44 ∷ (r ++ (codes "[" ++ rows ++ codes "]"))))) ++ codes "}"
    ≡ codes "{" ++ (a ++ (codes "," ++ (b ++ (codes "," ++ (r ++ (codes "[" ++ (rows ++ codes "]}")))))))
whole_is a b r rows =
    let listed = ap (λ (t : List ℕ). codes "[" ++ t) (append_assoc rows (codes "]") (codes "}")) in
    let third = append_assoc r (codes "[" ++ rows ++ codes "]") (codes "}") ∙ ap (λ (t : List ℕ). r ++ t) listed in
    let second = append_assoc b (44 ∷ (r ++ (codes "[" ++ rows ++ codes "]"))) (codes "}") ∙ ap (λ (t : List ℕ). b ++ 44 ∷ t) third in
    let first = append_assoc a (44 ∷ (b ++ 44 ∷ (r ++ (codes "[" ++ rows ++ codes "]")))) (codes "}") ∙ ap (λ (t : List ℕ). a ++ 44 ∷ t) second in
    ap (λ (t : List ℕ). codes "{" ++ t) first

pub characters : (texts : List (List ℕ)) → rows_front (length texts) ++ (joined texts ++ codes "]}") ≡ rows_json texts
characters texts =
    let a = member_json (codes "totalSize") (decimal (length texts)) in
    let b = member_json (codes "done") (printed_truth true) in
    let r = printed_text (codes "records") ++ codes ":" in
    front_is a b r (joined texts ++ codes "]}") ∙ sym (whole_is a b r (joined texts))

end_bytes : encode_utf8_all (codes "]}") ≡ codes "]}"
unfolding encode_utf8
end_bytes = refl

-- ---- the bytes

pub body_of_rows : (front rows body : List ℕ) (n : ℕ) (texts : List (List ℕ)) → n ≡ length texts → front ≡ encode_utf8_all (rows_front n) → rows ≡ encode_utf8_all (behind_commas texts)
    → body ≡ (front ++ drop 1 rows) ++ codes "]}" → body ≡ encode_utf8_all (rows_json texts)
body_of_rows front rows body n texts count before are is =
    let j = joined texts in
    is
    ∙ ap (λ (w : List ℕ). (w ++ drop 1 rows) ++ codes "]}") (before ∙ ap (λ (k : ℕ). encode_utf8_all (rows_front k)) count)
    ∙ ap (λ (w : List ℕ). (encode_utf8_all (rows_front (length texts)) ++ w) ++ codes "]}") (ap (λ (w : List ℕ). drop 1 w) are ∙ without_comma texts)
    ∙ append_assoc (encode_utf8_all (rows_front (length texts))) (encode_utf8_all j) (codes "]}")
    ∙ ap (λ (w : List ℕ). encode_utf8_all (rows_front (length texts)) ++ (encode_utf8_all j ++ w)) (sym end_bytes)
    ∙ ap (λ (w : List ℕ). encode_utf8_all (rows_front (length texts)) ++ w) (sym (encodes-append j (codes "]}")))
    ∙ sym (encodes-append (rows_front (length texts)) (j ++ codes "]}"))
    ∙ ap encode_utf8_all (characters texts)

-- ---- written piece by piece

pub front_written : (w0 w1 w2 w3 w4 w5 w6 w7 : List ℕ) (n : ℕ) → w1 ≡ w0 ++ encode_utf8_all (123 ∷ []) → w2 ≡ w1 ++ encode_utf8_all (member_json (chars (codes "totalSize")) (decimal n))
    → w3 ≡ w2 ++ encode_utf8_all (44 ∷ []) → w4 ≡ w3 ++ encode_utf8_all (member_json (chars (codes "done")) (printed_truth true)) → w5 ≡ w4 ++ encode_utf8_all (44 ∷ [])
    → w6 ≡ w5 ++ encode_utf8_all (printed_text (chars (codes "records")) ++ codes ":") → w7 ≡ w6 ++ encode_utf8_all (91 ∷ []) → w7 ≡ w0 ++ encode_utf8_all (rows_front n)
unfolding chars
front_written w0 w1 w2 w3 w4 w5 w6 w7 n e1 e2 e3 e4 e5 e6 e7 =
    let a = member_json (codes "totalSize") (decimal n) in
    let b = member_json (codes "done") (printed_truth true) in
    let r = printed_text (codes "records") ++ codes ":" in
    let listed = after w5 w6 w7 r (91 ∷ []) e6 e7 in
    let third = after w4 w5 w7 (44 ∷ []) (r ++ codes "[") e5 listed in
    let second = after w3 w4 w7 b (44 ∷ (r ++ codes "[")) e4 third in
    let rest = after w2 w3 w7 (44 ∷ []) (b ++ 44 ∷ (r ++ codes "[")) e3 second in
    let first = after w1 w2 w7 a (44 ∷ (b ++ 44 ∷ (r ++ codes "["))) e2 rest in
    after w0 w1 w7 (123 ∷ []) (a ++ 44 ∷ (b ++ 44 ∷ (r ++ codes "["))) e1 first

-- ---- the rows are no longer than the body

sizes : (front rows body : List ℕ) → body ≡ (front ++ drop 1 rows) ++ codes "]}" → length rows ≤ length body
sizes front rows body is =
    let all : length body ≡ length (front ++ drop 1 rows) + length (codes "]}") = ap length is ∙ length-append (front ++ drop 1 rows) (codes "]}") in
    let both : length (front ++ drop 1 rows) ≡ length front + length (drop 1 rows) = length-append front (drop 1 rows) in
    let dropped : length (drop 1 rows) ≡ length rows - 1 = length-drop 1 rows in
    omega (arith, all, both, dropped)

pub longer : (texts : List (List ℕ)) → length (encode_utf8_all (behind_commas texts)) ≤ length (encode_utf8_all (rows_json texts))
longer texts =
    let front = encode_utf8_all (rows_front (length texts)) in
    let rows = encode_utf8_all (behind_commas texts) in
    sizes front rows (encode_utf8_all (rows_json texts)) (sym (body_of_rows front rows ((front ++ drop 1 rows) ++ codes "]}") (length texts) texts refl refl refl refl))
