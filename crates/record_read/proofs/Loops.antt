-- The loops over fields and slots: what was read is before what is still to be read.
use Rattle.std.proofs.Common.{◌≡◌, ℕ, ◌+◌, ◌<◌, true, List, [], ◌∷◌, ◌++◌, map, length, drop, take, get_or, Option, Some, None, refl, sym, ap, subst, ◌∙◌, append_assoc, arith}
use Rattle.std.specs.List.{range_with_len}
use Rattle.std.specs.Option.{option_map}
use Rattle.std.proofs.lemmas.List.FromFn.{map-range_with_len_more}
use Rattle.base_value.specs.declared.value.Value.{Value}
use Rattle.store_codec.specs.Plain.{◌>>=◌}
use Rattle.record_read.specs.Decoding.{each_from, kinds_in}
use Rattle.model.specs.SoundRecords.{all_valid}
use Rattle.std.proofs.lemmas.List.{take_more}
use Rattle.base_lemmas.proofs.Lists.{drop-cons_read as front}
use Rattle.base_lemmas.proofs.Bools.{and_first as and_left, and_second as and_right}
use Rattle.base_value.specs.Values.{valid}
use Rattle.base_value.specs.declared.value.FieldType.{FieldType}
use Rattle.base_value.specs.declared.value.FieldType.TheVariants as type
use Rattle.store_abstraction.specs.declared.layout.FieldPlace.{FieldPlace}

-- these before what is made, if it is
abbrev pub onto : {Y : Type 0} → List Y → Option (List Y) → Option (List Y)
onto done made = option_map (λ ys. done ++ ys) made

-- ---- what is made of each

more_onto : {Y : Type 0} (done : List Y) (y : Y) (made : Option (List Y)) → onto (done ++ y ∷ []) made ≡ onto done (made >>= λ ys. Some (y ∷ ys))
more_onto done y None = refl
more_onto done y (Some ys) = ap Some (append_assoc done (y ∷ []) ys)

pub goes_on : {X Y : Type 0} (make : X → Option Y) (xs : List X) (i : ℕ) (x : X) (done next : List Y) (y : Y) (whole : Option (List Y))
    → i < length xs → x ≡ get_or xs i x → make x ≡ Some y → next ≡ done ++ y ∷ []
    → onto done (each_from make (drop i xs)) ≡ whole → onto next (each_from make (drop (i + 1) xs)) ≡ whole
goes_on make xs i x done next y whole lt is e n h =
    let g = rw (front xs i x lt is) at h in
    let g2 = rw e at g in
    rw n (more_onto done y (each_from make (drop (i + 1) xs)) ∙ g2)

-- ---- valid values

valid_more : (ks : List FieldType) (vs : List Value) (k : FieldType) (v : Value) → all_valid ks vs ≡ true → valid k v ≡ true → all_valid (ks ++ k ∷ []) (vs ++ v ∷ []) ≡ true
valid_more [] [] k v h e = rw e refl
valid_more [] (w ∷ vs) k v h e = absurd cc
valid_more (j ∷ ks) [] k v h e = absurd cc
valid_more (j ∷ ks) (w ∷ vs) k v h e =
    rw (and_left (valid j w) (all_valid ks vs) h) (valid_more ks vs k v (and_right (valid j w) (all_valid ks vs) h) e)

kinds_more : (fields : List FieldPlace) (f : FieldPlace) → kinds_in (fields ++ f ∷ []) ≡ kinds_in fields ++ f.kind ∷ []
kinds_more fields f = ap (λ (ks : List FieldType). type.Text 80 ∷ ks) (by fields)
  where
    by : (xs : List FieldPlace) → map (λ x. x.kind) (xs ++ f ∷ []) ≡ map (λ x. x.kind) xs ++ f.kind ∷ []
    by [] = refl
    by (x ∷ xs) = ap (λ (ks : List FieldType). x.kind ∷ ks) (by xs)

pub valids_go_on : (fields : List FieldPlace) (i : ℕ) (f : FieldPlace) (done next : List Value) (v : Value)
    → i < length fields → f ≡ get_or fields i f → valid f.kind v ≡ true → next ≡ done ++ v ∷ []
    → all_valid (kinds_in (take i fields)) done ≡ true → all_valid (kinds_in (take (i + 1) fields)) next ≡ true
valids_go_on fields i f done next v lt is e n h =
    let taken : take (i + 1) fields ≡ take i fields ++ f ∷ [] = take_more fields i f lt ∙ ap (λ (x : FieldPlace). take i fields ++ x ∷ []) (sym is) in
    let kinds : kinds_in (take (i + 1) fields) ≡ kinds_in (take i fields) ++ f.kind ∷ [] = ap kinds_in taken ∙ kinds_more (take i fields) f in
    let more = valid_more (kinds_in (take i fields)) done f.kind v h e in
    subst (λ (ks : List FieldType). all_valid ks next ≡ true) (sym kinds)
    (subst (λ (vs : List Value). all_valid (kinds_in (take i fields) ++ f.kind ∷ []) vs ≡ true) (sym n) more)

-- ---- the texts of slots

pub texts_go_on : (text : ℕ → Option (List ℕ)) (slot : ℕ) (done next : List (Option (List ℕ))) (x : Option (List ℕ))
    → done ≡ map text (range_with_len 0 slot) → x ≡ text slot → next ≡ done ++ x ∷ [] → next ≡ map text (range_with_len 0 (slot + 1))
texts_go_on text slot done next x d e n = rw (n, d, e) (sym (map-range_with_len_more text 0 slot slot (omega arith)))
