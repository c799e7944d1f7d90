-- Lists, tests of two parts, and records that are found by their ids.
use Rattle.std.proofs.Common.{◌≡◌, ℕ, zero, suc, Bool, true, false, cond, eqb, T, List, [], ◌∷◌, map, filter, take, Some, refl, sym, ap, ◌∙◌, subst, inl, inr, Ordering}
use Rattle.std.specs.Prelude.{slice_get}
use Rattle.std.specs.FinMap.{is_sorted}
use Rattle.std.specs.FinMap.Entries.{below_all}
use Rattle.std.specs.List.{AllByRecursion, list_all}
use Rattle.std.specs.Ordering.{is_lt, nat_cmp}
use Rattle.std.specs.Cmp.Lexicographic.{slice_cmp}
use Rattle.std.specs.Str.{bytes_eq}
use Rattle.std.proofs.lemmas.Bool.{eqb-false, eqb-true, false≢true as clash}
use Rattle.std.proofs.lemmas.Cmp.{nat_list_cmp_total, tied_itself}
use Rattle.std.proofs.lemmas.Slice.Eq.{bytes_eq-Decides}
use Rattle.base_lemmas.proofs.Bools.{and_first, and_second, T-and_first as t_first, T-and_second as t_second, true_from_T as t_true, by_answer as pick}
use Rattle.std.proofs.lemmas.Option.{same_Some as some_is}
use Rattle.model.specs.declared.record.Record.{Record}
use Rattle.model.specs.Membership.{Has}
use Rattle.model.specs.SoundPeople.{ids_rise}
use Rattle.model.specs.SoundRecords.{record_id}
use Rattle.model.specs.World.{having_id}

-- ---- tests

pub flip : (a b : ℕ) → eqb a b ≡ false → eqb b a ≡ false
flip a b e = pick (eqb b a) (λ c. c ≡ false) (λ f. absurd (eqb-false a b e (sym (eqb-true b a f)))) (λ _. refl)

-- ---- lists

pub of_has : {X : Type 0} (P : X → Type 0) (xs : List X) (x : X) → AllByRecursion P xs → Has xs x → P x
of_has P [] x all h = absurd h
of_has P (y ∷ xs) x all (inl e) = subst P (sym e) all.0
of_has P (y ∷ xs) x all (inr h) = of_has P xs x all.1 h

pub all_has : {X : Type 0} (f : X → Bool) (xs : List X) (x : X) → list_all f xs ≡ true → Has xs x → f x ≡ true
all_has f [] x e h = absurd h
all_has f (y ∷ xs) x e (inl is) = ap f is ∙ and_first (f y) (list_all f xs) e
all_has f (y ∷ xs) x e (inr h) = all_has f xs x (and_second (f y) (list_all f xs) e) h

pub take_none : (xs : List Record) → take 100 xs ≡ [] → xs ≡ []
take_none [] e = refl
take_none (x ∷ xs) e = absurd cc

pub get_mapped : {X Y : Type 0} (f : X → Y) (xs : List X) (i : ℕ) (x : X) → slice_get xs i ≡ Some x → slice_get (map f xs) i ≡ Some (f x)
get_mapped f [] i x e = absurd cc
get_mapped f (y ∷ xs) zero x e = ap (λ z. Some (f z)) (some_is y x e)
get_mapped f (y ∷ xs) (suc i) x e = get_mapped f xs i x e

pub filter_has : {X : Type 0} (p : X → Bool) (xs : List X) (x : X) → Has xs x → p x ≡ true → Has (filter p xs) x
filter_has p [] x h so = absurd h
filter_has {X = X} p (y ∷ ys) x (inl e) so = rw (subst (λ (z : X). p z ≡ true) e so) (inl e)
filter_has p (y ∷ ys) x (inr h) so =
    pick (p y) (λ b. Has (cond b (y ∷ filter p ys) (filter p ys)) x) (λ _. inr (filter_has p ys x h so)) (λ _. filter_has p ys x h so)

-- ---- ids

-- what is found by an id has it
pub found_id : (rs : List Record) (id : List ℕ) (r : Record) → having_id (λ r. r.id) rs id ≡ Some r → (r.id ≡ id) × Has rs r
found_id [] id r e = absurd cc
found_id (x ∷ rs) id r e =
    pick (bytes_eq id x.id)
    (λ b. bytes_eq id x.id ≡ b → cond b (Some x) (having_id (λ r. r.id) rs id) ≡ Some r → (r.id ≡ id) × Has (x ∷ rs) r)
    (λ same _ is. (ap record_id (sym (some_is x r is)) ∙ sym ((bytes_eq-Decides id x.id).0 same), inl (sym (some_is x r is))))
    (λ _ _ there. let (same, has) = found_id rs id r there in (same, inr has))
    refl e

abbrev id_cmp : List ℕ → List ℕ → Ordering
id_cmp = slice_cmp nat_cmp

abbrev with_ids : List Record → List (List ℕ × Record)
with_ids rs = map (λ (r : Record). (record_id r, r)) rs

below_has : (k : List ℕ) (rs : List Record) (r : Record) → T (below_all id_cmp k (with_ids rs)) → Has rs r → is_lt (id_cmp k r.id) ≡ true
below_has k [] r h has = absurd has
below_has k (x ∷ rs) r h (inl e) =
    subst (λ (y : Record). is_lt (id_cmp k y.id) ≡ true) (sym e)
    (t_true (is_lt (id_cmp k x.id)) (t_first (is_lt (id_cmp k x.id)) (below_all id_cmp k (with_ids rs)) h))
below_has k (x ∷ rs) r h (inr has) = below_has k rs r (t_second (is_lt (id_cmp k x.id)) (below_all id_cmp k (with_ids rs)) h) has

not_less : (a : List ℕ) → is_lt (id_cmp a a) ≡ true → ⊥
not_less a h = clash (sym (ap is_lt (tied_itself nat_list_cmp_total a)) ∙ h)

-- where ids rise, a record is found by its own
pub found_itself : (rs : List Record) (r : Record) → T (ids_rise record_id rs) → Has rs r → having_id (λ r. r.id) rs r.id ≡ Some r
found_itself [] r h has = absurd has
found_itself (x ∷ rs) r h (inl e) =
    subst (λ (y : Record). having_id (λ r. r.id) (x ∷ rs) y.id ≡ Some y) (sym e) (rw ((bytes_eq-Decides x.id x.id).1 refl) refl)
found_itself (x ∷ rs) r h (inr has) =
    let above = t_first (below_all id_cmp x.id (with_ids rs)) (is_sorted id_cmp (with_ids rs)) h in
    let rest = found_itself rs r (t_second (below_all id_cmp x.id (with_ids rs)) (is_sorted id_cmp (with_ids rs)) h) has in
    pick (bytes_eq r.id x.id) (λ b. bytes_eq r.id x.id ≡ b → cond b (Some x) (having_id (λ r. r.id) rs r.id) ≡ Some r)
    (λ same _.
    absurd
    (not_less x.id
    (subst (λ (i : List ℕ). is_lt (id_cmp x.id i) ≡ true) ((bytes_eq-Decides r.id x.id).0 same) (below_has x.id rs r above has))))
    (λ _ _. rest)
    refl
