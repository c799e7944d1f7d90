-- What is written, piece by piece.
use Rattle.std.proofs.Common.{◌≡◌, ℕ, ◌<◌, ◌*◌, ◌/◌, ◌%◌, ◌^◌, List, [], ◌∷◌, ◌++◌, true, refl, sym, ap, ◌∙◌, append_assoc, append-nil, lit<, arith, to_z, of_z, Bool}
use Rattle.std.specs.Prelude.{codes, if◌then◌else◌, ℤ, pos, Result, Ok, Err, OnOk}
use Rattle.std.specs.Char.{encode_utf8}
use Rattle.std.specs.Fmt.{decimal}
use Rattle.std.specs.Int.{w128}
use Rattle.std.specs.Str.{chars, encode_utf8_all, is_utf8, IsUtf8}
use Rattle.std.proofs.Math.Nat.{mul-div_cancel, mul-mod_left}
use Rattle.std.proofs.lemmas.Fmt.{IsAscii-decimal}
use Rattle.std.proofs.lemmas.Int.{ints}
use Rattle.std.proofs.lemmas.Str.{encodes-append, chars-append, IsUtf8-append, IsUtf8-from_is_utf8}
use Rattle.std.proofs.lemmas.Str.Ascii.{encodes-IsAscii}
use Rattle.base_value.specs.Printing.{print_fraction, print_number, print_size}
use Rattle.base_json.specs.Printing.{mark_of, printed_text, printed_truth}
use Rattle.base_json.specs.Whole.{joined}
use Rattle.base_json.specs.declared.writer.Mark.{Mark}
use Rattle.base_json.specs.declared.writer.Mark.TheVariants.{OpenList, CloseList, OpenObject, CloseObject, Comma, Colon}
use Rattle.base_value.specs.Id.{print18}
use Rattle.model.specs.Paths.{Asked}
use Rattle.model.specs.Replies.{id_json, made_members, reply_of}
use Rattle.model.specs.RowsJson.{list_json, member_json, object_json, url}
use Rattle.model.specs.Verdict.{made_new, upserted}
use Rattle.api_output.specs.inner.Parts.{upserted_members}
use Rattle.api_output.specs.Rows.{addresses, attributes_member}

-- one piece behind another
pub after : (w0 w1 w2 a b : List ℕ) → w1 ≡ w0 ++ encode_utf8_all a → w2 ≡ w1 ++ encode_utf8_all b → w2 ≡ w0 ++ encode_utf8_all (a ++ b)
after w0 w1 w2 a b e f =
    f ∙ ap (λ w. w ++ encode_utf8_all b) e ∙ append_assoc w0 (encode_utf8_all a) (encode_utf8_all b)
    ∙ ap (λ t. w0 ++ t) (sym (encodes-append a b))

pub mark_bytes : (m : Mark) → encode_utf8_all (mark_of m ∷ []) ≡ mark_of m ∷ []
unfolding encode_utf8
mark_bytes OpenList = refl
mark_bytes CloseList = refl
mark_bytes OpenObject = refl
mark_bytes CloseObject = refl
mark_bytes Comma = refl
mark_bytes Colon = refl

-- a list in its brackets
pub in_list : (w0 w1 w2 w3 : List ℕ) (rows : List (List ℕ)) → w1 ≡ w0 ++ encode_utf8_all (91 ∷ []) → w2 ≡ w1 ++ encode_utf8_all (joined rows) → w3 ≡ w2 ++ encode_utf8_all (93 ∷ [])
    → w3 ≡ w0 ++ encode_utf8_all (list_json rows)
in_list w0 w1 w2 w3 rows e1 e2 e3 =
    after w0 w2 w3 (codes "[" ++ joined rows) (93 ∷ []) (after w0 w1 w2 (91 ∷ []) (joined rows) e1 e2) e3

-- two members in their braces
pub of_two : (w0 w1 w2 w3 w4 w5 a b : List ℕ) → w1 ≡ w0 ++ encode_utf8_all (123 ∷ []) → w2 ≡ w1 ++ encode_utf8_all a → w3 ≡ w2 ++ encode_utf8_all (44 ∷ [])
    → w4 ≡ w3 ++ encode_utf8_all b → w5 ≡ w4 ++ encode_utf8_all (125 ∷ []) → w5 ≡ w0 ++ encode_utf8_all (object_json (a ∷ b ∷ []))
of_two w0 w1 w2 w3 w4 w5 a b e1 e2 e3 e4 e5 =
    let first = after w0 w2 w3 (123 ∷ a) (44 ∷ []) (after w0 w1 w2 (123 ∷ []) a e1 e2) e3 in
    let second = after w0 w3 w4 ((123 ∷ a) ++ 44 ∷ []) b first e4 in
    after w0 w4 w5 (123 ∷ (a ++ 44 ∷ b)) (125 ∷ []) (second ∙ ap (λ t. w0 ++ encode_utf8_all t) (append_assoc (123 ∷ a) (44 ∷ []) b)) e5

-- members in their braces
pub in_object : (w0 w1 w2 w3 : List ℕ) (members : List (List ℕ)) → w1 ≡ w0 ++ encode_utf8_all (123 ∷ []) → w2 ≡ w1 ++ encode_utf8_all (joined members) → w3 ≡ w2 ++ encode_utf8_all (125 ∷ [])
    → w3 ≡ w0 ++ encode_utf8_all (object_json members)
in_object w0 w1 w2 w3 members e1 e2 e3 =
    after w0 w2 w3 (codes "{" ++ joined members) (125 ∷ []) (after w0 w1 w2 (123 ∷ []) (joined members) e1 e2) e3

-- three of them, with commas between them
pub three : (w0 w1 w2 w3 w4 w5 a b c : List ℕ) → w1 ≡ w0 ++ encode_utf8_all a → w2 ≡ w1 ++ encode_utf8_all (44 ∷ []) → w3 ≡ w2 ++ encode_utf8_all b
    → w4 ≡ w3 ++ encode_utf8_all (44 ∷ []) → w5 ≡ w4 ++ encode_utf8_all c → w5 ≡ w0 ++ encode_utf8_all (joined (a ∷ b ∷ c ∷ []))
three w0 w1 w2 w3 w4 w5 a b c e1 e2 e3 e4 e5 =
    let first = after w0 w1 w2 a (44 ∷ []) e1 e2 in
    let second = after w0 w2 w3 (a ++ 44 ∷ []) b first e3 ∙ ap (λ t. w0 ++ encode_utf8_all t) (append_assoc a (44 ∷ []) b) in
    let comma = after w0 w3 w4 (a ++ 44 ∷ b) (44 ∷ []) second e4 in
    let third = after w0 w4 w5 ((a ++ 44 ∷ b) ++ 44 ∷ []) c comma e5 in
    let shape : ((a ++ 44 ∷ b) ++ 44 ∷ []) ++ c ≡ a ++ 44 ∷ (b ++ 44 ∷ c) = append_assoc (a ++ 44 ∷ b) (44 ∷ []) c ∙ append_assoc a (44 ∷ b) (44 ∷ c) in
    third ∙ ap (λ t. w0 ++ encode_utf8_all t) shape

-- one more behind a comma
joined_behind : (a : List ℕ) (members : List (List ℕ)) (b : List ℕ) → joined (a ∷ members) ++ 44 ∷ b ≡ joined (a ∷ (members ++ b ∷ []))
joined_behind a [] b = refl
joined_behind a (c ∷ cs) b = append_assoc a (44 ∷ joined (c ∷ cs)) (44 ∷ b) ∙ ap (λ t. a ++ 44 ∷ t) (joined_behind c cs b)

-- a member whose value is written behind its name
pub member : (w0 w1 w2 name v : List ℕ) → w1 ≡ w0 ++ encode_utf8_all (printed_text name ++ codes ":") → w2 ≡ w1 ++ encode_utf8_all v → w2 ≡ w0 ++ encode_utf8_all (member_json name v)
member w0 w1 w2 name v e f = after w0 w1 w2 (printed_text name ++ codes ":") v e f

-- ---- a whole number, as it is written by a count of 10^-8
widened : (n : ℕ) → n < 2 ^ 64 → to_z w128 (of_z w128 (pos (n * 100000000))) ≡ pos (n * 100000000)
widened n few = omega (arith, ints)

pub counted : (w0 w1 : List ℕ) (z : ℤ) (n : ℕ) → n < 2 ^ 64 → z ≡ pos (n * 100000000) → w1 ≡ w0 ++ print_number (to_z w128 (of_z w128 z)) → w1 ≡ w0 ++ encode_utf8_all (decimal n)
unfolding print_size
counted w0 w1 z n few e h =
    let whole : n * 100000000 / 100000000 ≡ n = mul-div_cancel n (lit< tt) in
    let none : n * 100000000 % 100000000 ≡ 0 = mul-mod_left n 100000000 in
    h ∙ ap (λ k. w0 ++ print_number (to_z w128 (of_z w128 k))) e ∙ ap (λ k. w0 ++ print_number k) (widened n few)
    ∙ ap (λ k. w0 ++ (decimal k ++ print_fraction (n * 100000000 % 100000000))) whole
    ∙ ap (λ k. w0 ++ (decimal n ++ print_fraction k)) none
    ∙ ap (λ t. w0 ++ t) (append-nil (decimal n))
    ∙ ap (λ t. w0 ++ t) (sym (encodes-IsAscii (decimal n) (IsAscii-decimal n few)))

-- ---- the address
front_utf8 : IsUtf8 (codes "/services/data/v59.0/sobjects/")
unfolding is_utf8 chars encode_utf8
front_utf8 = IsUtf8-from_is_utf8 (codes "/services/data/v59.0/sobjects/") refl

pub addressed : (object : List ℕ) → IsUtf8 object → chars ((codes "/services/data/v59.0/sobjects/" ++ object) ++ codes "/") ≡ addresses (chars object)
unfolding chars
addressed object own =
    let front = codes "/services/data/v59.0/sobjects/" in
    chars-append (front ++ object) (codes "/") (IsUtf8-append front object front_utf8 own)
    ∙ ap (λ t. t ++ chars (codes "/")) (chars-append front object front_utf8)

-- ---- where the last piece is written by the call that is returned
module _ {A E : Type 0} where
  pub on_ok : (r : Result A E) (P Q : Type 0) → (P → Q) → OnOk r P → OnOk r Q
  on_ok (Ok x) P Q f h = f h
  on_ok (Err e) P Q f h = h

-- ---- whole parts
module _ (w0 w1 w2 w3 w4 w5 w6 : List ℕ) where
  pub attributes_written : (object id place : List ℕ) → place ≡ url object id → w1 ≡ w0 ++ encode_utf8_all (printed_text (chars (codes "attributes")) ++ codes ":")
      → w2 ≡ w1 ++ encode_utf8_all (123 ∷ []) → w3 ≡ w2 ++ encode_utf8_all (member_json (chars (codes "type")) (printed_text object)) → w4 ≡ w3 ++ encode_utf8_all (44 ∷ [])
      → w5 ≡ w4 ++ encode_utf8_all (member_json (chars (codes "url")) (printed_text place)) → w6 ≡ w5 ++ encode_utf8_all (125 ∷ []) → w6 ≡ w0 ++ encode_utf8_all (attributes_member object id)
  unfolding chars
  attributes_written object id place same e1 e2 e3 e4 e5 e6 =
      let kind = member_json (codes "type") (printed_text object) in
      let place_member = member_json (codes "url") (printed_text (url object id)) in
      member w0 w1 w6 (codes "attributes") (object_json (kind ∷ place_member ∷ [])) e1
      (of_two w1 w2 w3 w4 w5 w6 kind place_member e2 e3 e4 (e5 ∙ ap (λ p. w4 ++ encode_utf8_all (member_json (codes "url") (printed_text p))) same) e6)

-- ---- what was made
pub no_errors_written : (w0 w1 w2 w3 : List ℕ) → w1 ≡ w0 ++ encode_utf8_all (printed_text (chars (codes "errors")) ++ codes ":") → w2 ≡ w1 ++ encode_utf8_all (91 ∷ [])
    → w3 ≡ w2 ++ encode_utf8_all (93 ∷ []) → w3 ≡ w0 ++ encode_utf8_all (member_json (codes "errors") (list_json []))
unfolding chars
no_errors_written w0 w1 w2 w3 e1 e2 e3 = member w0 w1 w3 (codes "errors") (list_json []) e1 (in_list w1 w2 w2 w3 [] e2 (sym (append-nil w2)) e3)

pub made_written : (w0 w1 w2 w3 w4 w5 id text : List ℕ) → text ≡ print18 id
    → w1 ≡ w0 ++ encode_utf8_all (member_json (chars (codes "id")) (printed_text text)) → w2 ≡ w1 ++ encode_utf8_all (44 ∷ [])
    → w3 ≡ w2 ++ encode_utf8_all (member_json (chars (codes "success")) (printed_truth true)) → w4 ≡ w3 ++ encode_utf8_all (44 ∷ [])
    → w5 ≡ w4 ++ encode_utf8_all (member_json (codes "errors") (list_json [])) → w5 ≡ w0 ++ encode_utf8_all (joined (made_members id))
unfolding chars
made_written w0 w1 w2 w3 w4 w5 id text is e1 e2 e3 e4 e5 =
    three w0 w1 w2 w3 w4 w5 (member_json (codes "id") (printed_text (print18 id))) (member_json (codes "success") (printed_truth true)) (member_json (codes "errors") (list_json []))
    (e1 ∙ ap (λ t. w0 ++ encode_utf8_all (member_json (codes "id") (printed_text t))) is) e2 e3 e4 e5

pub upserted_written : (w0 w1 w2 w3 w4 w5 id : List ℕ) (created : Bool) → w1 ≡ w0 ++ encode_utf8_all (123 ∷ []) → w2 ≡ w1 ++ encode_utf8_all (joined (made_members id))
    → w3 ≡ w2 ++ encode_utf8_all (44 ∷ []) → w4 ≡ w3 ++ encode_utf8_all (member_json (chars (codes "created")) (printed_truth created)) → w5 ≡ w4 ++ encode_utf8_all (125 ∷ [])
    → w5 ≡ w0 ++ encode_utf8_all (object_json (upserted_members id created))
unfolding chars
upserted_written w0 w1 w2 w3 w4 w5 id created e1 e2 e3 e4 e5 =
    let m = member_json (codes "created") (printed_truth created) in
    let comma = after w1 w2 w3 (joined (made_members id)) (44 ∷ []) e2 e3 in
    let last = after w1 w3 w4 (joined (made_members id) ++ 44 ∷ []) m comma e4 in
    let shape : (joined (made_members id) ++ 44 ∷ []) ++ m ≡ joined (upserted_members id created) =
    append_assoc (joined (made_members id)) (44 ∷ []) m ∙ joined_behind (member_json (codes "id") (id_json id)) (member_json (codes "success") (printed_truth true) ∷ member_json (codes "errors") (list_json []) ∷ []) m in
    in_object w0 w1 w4 w5 (upserted_members id created) e1 (last ∙ ap (λ t. w1 ++ encode_utf8_all t) shape) e5

pub upserted_reply : (w0 w1 body id : List ℕ) (created : Bool) → w0 ≡ [] → w1 ≡ w0 ++ encode_utf8_all (object_json (upserted_members id created)) → body ≡ w1
    → (a : Asked) → reply_of a (Ok (upserted id created)) ≡ record { status = if created then 201 else 200; body = body }
upserted_reply w0 w1 body id created none e same a =
    ap (λ (b : List ℕ). record { status = if created then 201 else 200; body = b }) (sym (same ∙ e ∙ ap (λ w. w ++ encode_utf8_all (object_json (upserted_members id created))) none))

pub made_reply : (w0 w1 body id : List ℕ) → w0 ≡ [] → w1 ≡ w0 ++ encode_utf8_all (object_json (made_members id)) → body ≡ w1
    → (a : Asked) → reply_of a (Ok (made_new id)) ≡ record { status = 201; body = body }
made_reply w0 w1 body id none e same a =
    ap (λ (b : List ℕ). record { status = 201; body = b }) (sym (same ∙ e ∙ ap (λ w. w ++ encode_utf8_all (object_json (made_members id))) none))
