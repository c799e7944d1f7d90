-- What is written, piece by piece.
use Rattle.std.proofs.Common.{◌≡◌, ◌∙◌, ℕ, false, List, [], ◌∷◌, ◌++◌, map, length, refl, sym, ap, append_assoc, append-nil}
use Rattle.std.specs.Prelude.{◌==◌, Result, Ok, Err, codes}
use Rattle.std.specs.Result.{IsErrAnd}
use Rattle.std.specs.Str.{encode_utf8_all}
use Rattle.std.proofs.lemmas.List.{length-map}
use Rattle.std.proofs.lemmas.Str.{encodes-append}
use Rattle.base_json.specs.Whole.{joined}
use Rattle.model.specs.RowsJson.{children_json, rows_json}
use Rattle.store_codec.specs.declared.fail.CodecFail.{CodecFail}
use Rattle.store_codec.specs.declared.fail.CodecFail.TheVariants.{Damaged, Memory}
use Rattle.api_output.specs.Rows.{behind_commas, rows_front}
use Rattle.api_output.proofs.Bodies.{characters, commas}
use Rattle.api_output.proofs.Written.{after}
use Rattle.query_json.specs.row.Written.{Puts}

-- ---- one piece behind another

pub puts_after : (w0 w1 w2 a b : List ℕ) (r : Result (Unit {0}) CodecFail) → w1 ≡ w0 ++ encode_utf8_all a → Puts (encode_utf8_all b) w1 w2 r → Puts (encode_utf8_all (a ++ b)) w0 w2 r
puts_after w0 w1 w2 a b (Ok x) e f = after w0 w1 w2 a b e f
puts_after w0 w1 w2 a b (Err Damaged) e f = f
puts_after w0 w1 w2 a b (Err Memory) e f = tt

-- a text for another that is the same
pub puts_same : {a b : List ℕ} (w0 w1 : List ℕ) (r : Result (Unit {0}) CodecFail) → a ≡ b → Puts (encode_utf8_all a) w0 w1 r → Puts (encode_utf8_all b) w0 w1 r
puts_same w0 w1 (Ok x) e f = f ∙ ap (λ (t : List ℕ). w0 ++ encode_utf8_all t) e
puts_same w0 w1 (Err Damaged) e f = f
puts_same w0 w1 (Err Memory) e f = tt

-- what failed before fails here
pub puts_failed : (a b w0 w1 w2 w3 : List ℕ) (r : Result (Unit {0}) CodecFail) (e : CodecFail) → IsErrAnd r (λ f. f ≡ e) → Puts a w0 w1 (Err e) → Puts b w2 w3 r
puts_failed a b w0 w1 w2 w3 (Ok x) e is h = absurd is
puts_failed a b w0 w1 w2 w3 (Err Damaged) Damaged is h = h
puts_failed a b w0 w1 w2 w3 (Err Damaged) Memory is h = absurd cc
puts_failed a b w0 w1 w2 w3 (Err Memory) e is h = tt

-- ---- texts behind commas

module _ {X : Type 0} (f : X → List ℕ) where
  -- a writer behind which these are to be written
  abbrev pub with_rest : (w : List ℕ) → List X → List ℕ
  with_rest w xs = w ++ encode_utf8_all (behind_commas (map f xs))

  -- one more
  pub one_more : (w w1 : List ℕ) (x : X) (more : List X) → w1 ≡ w ++ encode_utf8_all (44 ∷ f x) → with_rest w1 more ≡ with_rest w (x ∷ more)
  one_more w w1 x more e =
      let texts = behind_commas (map f more) in
      ap (λ (t : List ℕ). t ++ encode_utf8_all texts) e ∙ append_assoc w (encode_utf8_all (44 ∷ f x)) (encode_utf8_all texts)
      ∙ ap (λ (t : List ℕ). w ++ t) (sym (encodes-append (44 ∷ f x) texts))

  -- the first, and those behind it
  pub first_and_more : (w0 w1 w2 : List ℕ) (x : X) (more all : List X) (r : Result (Unit {0}) CodecFail) → all ≡ x ∷ more → w1 ≡ w0 ++ encode_utf8_all (f x)
      → Puts (encode_utf8_all (behind_commas (map f more))) w1 w2 r → Puts (encode_utf8_all (joined (map f all))) w0 w2 r
  first_and_more w0 w1 w2 x more all r split e h =
      puts_same w0 w2 r (commas (f x) (map f more) ∙ ap (λ (xs : List X). joined (map f xs)) (sym split)) (puts_after w0 w1 w2 (f x) (behind_commas (map f more)) r e h)

-- ---- a record: what begins it, its members, and its end

pub record_written : (w0 w1 w2 w3 before first : List ℕ) (members : List (List ℕ)) → w1 ≡ w0 ++ encode_utf8_all (before ++ first) → w2 ≡ w1 ++ encode_utf8_all (behind_commas members)
    → w3 ≡ w2 ++ encode_utf8_all (125 ∷ []) → w3 ≡ w0 ++ encode_utf8_all ((before ++ joined (first ∷ members)) ++ codes "}")
record_written w0 w1 w2 w3 before first members e1 e2 e3 =
    after w0 w2 w3 ((before ++ first) ++ behind_commas members) (125 ∷ []) (after w0 w1 w2 (before ++ first) (behind_commas members) e1 e2) e3
    ∙ ap (λ (t : List ℕ). w0 ++ encode_utf8_all (t ++ codes "}")) (append_assoc before first (behind_commas members) ∙ ap (λ (t : List ℕ). before ++ t) (commas first members))

-- a row behind its front, by a writer of its own
pub row_appended : (o0 o1 w0 w1 w2 o2 first : List ℕ) (members : List (List ℕ)) → o1 ≡ o0 ++ encode_utf8_all (44 ∷ 123 ∷ first) → w0 ≡ []
    → w1 ≡ w0 ++ encode_utf8_all (behind_commas members) → w2 ≡ w1 ++ encode_utf8_all (125 ∷ []) → o2 ≡ o1 ++ w2
    → o2 ≡ o0 ++ encode_utf8_all (44 ∷ ((123 ∷ joined (first ∷ members)) ++ codes "}"))
row_appended o0 o1 w0 w1 w2 o2 first members e1 none e2 e3 e =
    let rest = encode_utf8_all (behind_commas members) in
    let written : o2 ≡ (o1 ++ rest) ++ encode_utf8_all (125 ∷ []) =
    e ∙ ap (λ (w : List ℕ). o1 ++ w) (e3 ∙ ap (λ (w : List ℕ). w ++ encode_utf8_all (125 ∷ [])) (e2 ∙ ap (λ (w : List ℕ). w ++ rest) none))
    ∙ sym (append_assoc o1 rest (encode_utf8_all (125 ∷ []))) in
    record_written o0 o1 (o1 ++ rest) o2 (44 ∷ 123 ∷ []) first members e1 refl written

-- ---- rows

pub rows_written : (w0 w1 w2 w3 : List ℕ) (n : ℕ) (texts : List (List ℕ)) → n ≡ length texts → w1 ≡ w0 ++ encode_utf8_all (rows_front n) → w2 ≡ w1 ++ encode_utf8_all (joined texts)
    → w3 ≡ w2 ++ encode_utf8_all (codes "]}") → w3 ≡ w0 ++ encode_utf8_all (rows_json texts)
rows_written w0 w1 w2 w3 n texts count e1 e2 e3 =
    after w0 w1 w3 (rows_front n) (joined texts ++ codes "]}") e1 (after w1 w2 w3 (joined texts) (codes "]}") e2 e3)
    ∙ ap (λ (k : ℕ). w0 ++ encode_utf8_all (rows_front k ++ (joined texts ++ codes "]}"))) count
    ∙ ap (λ (t : List ℕ). w0 ++ encode_utf8_all t) (characters texts)

module _ {X : Type 0} (f : X → List ℕ) where
  -- none
  pub none_joined : (w : List ℕ) (xs : List X) → length xs ≡ 0 → w ≡ w ++ encode_utf8_all (joined (map f xs))
  none_joined w [] none = sym (append-nil w)
  none_joined w (x ∷ xs) none = absurd cc

  -- those of a subquery that finds some
  pub some_children : (w0 w1 w2 w3 : List ℕ) (xs : List X) → (length xs == 0) ≡ false → w1 ≡ w0 ++ encode_utf8_all (rows_front (length xs)) → w2 ≡ w1 ++ encode_utf8_all (joined (map f xs))
      → w3 ≡ w2 ++ encode_utf8_all (codes "]}") → w3 ≡ w0 ++ encode_utf8_all (children_json (map f xs))
  some_children w0 w1 w2 w3 [] some e1 e2 e3 = absurd cc
  some_children w0 w1 w2 w3 (x ∷ xs) some e1 e2 e3 = rows_written w0 w1 w2 w3 (length (x ∷ xs)) (map f (x ∷ xs)) (sym (length-map (x ∷ xs) f)) e1 e2 e3
