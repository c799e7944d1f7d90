-- The references of all objects, and what is kept of a list.
use Rattle.std.proofs.Common.{◌≡◌, ◌∙◌, inl, inr, ℕ, zero, suc, ◌+◌, Bool, true, false, cond, List, [], ◌∷◌, filter, Option, Some, None, refl, sym, ap, arith}
use Rattle.std.specs.Prelude.{slice_get}
use Rattle.std.specs.List.{enumerate_from}
use Rattle.std.proofs.lemmas.Option.{same_Some as some_is}
use Rattle.record_cascade.proofs.Among.{flat_has, has_flat}
use Rattle.model.specs.Cases.{in_case}
use Rattle.model.specs.Membership.{Has}
use Rattle.model.specs.Objects.{numbered}
use Rattle.model.specs.Relationships.{Reference, reference_at, references, references_of, target_of}
use Rattle.model.specs.Tenant.{Field, Object, Tenant}
use Rattle.record_delete.proofs.Lists.{has_there, there_of}

-- ---- what is kept of a list

pub kept_is : {X : Type 0} (p : X → Bool) (xs : List X) (y : X) → Has (filter p xs) y → Has xs y × (p y ≡ true)
kept_is p [] y h = absurd h
kept_is {X = X} p (x ∷ xs) y h = by (p x) refl h (kept_is p xs y)
  where
    by : (b : Bool) → p x ≡ b → Has (cond b (x ∷ filter p xs) (filter p xs)) y → (Has (filter p xs) y → Has xs y × (p y ≡ true)) → Has (x ∷ xs) y × (p y ≡ true)
    by true e (inl same) more = (inl same, ap p same ∙ e)
    by true e (inr g) more = (inr (more g).0, (more g).1)
    by false e g more = (inr (more g).0, (more g).1)

pub is_kept : {X : Type 0} (p : X → Bool) (xs : List X) (y : X) → Has xs y → p y ≡ true → Has (filter p xs) y
is_kept p [] y h e = absurd h
is_kept {X = X} p (x ∷ xs) y (inl same) e = let so : p x ≡ true = ap p (sym same) ∙ e in rw so (inl same)
is_kept {X = X} p (x ∷ xs) y (inr h) e = by (p x) (is_kept p xs y h e)
  where
    by : (b : Bool) → Has (filter p xs) y → Has (cond b (x ∷ filter p xs) (filter p xs)) y
    by true g = inr g
    by false g = g

-- ---- what is numbered

numbered_has : {X : Type 0} (k : ℕ) (xs : List X) (y : ℕ × X) → Has (enumerate_from k xs) y → (i : ℕ) × (k + i ≡ y.0) × (slice_get xs i ≡ Some y.1)
numbered_has k [] y h = absurd h
numbered_has {X = X} k (x ∷ xs) y (inl e) = let place : y.0 ≡ k = ap (λ (z : ℕ × X). z.0) e in (zero, omega (arith, place), ap (λ (z : ℕ × X). Some z.1) (sym e))
numbered_has k (x ∷ xs) y (inr h) = let more = numbered_has (k + 1) xs y h in (suc more.0, omega (arith, more.1), more.2)

has_numbered : {X : Type 0} (k i n : ℕ) (xs : List X) (x : X) → k + i ≡ n → slice_get xs i ≡ Some x → Has (enumerate_from k xs) (n, x)
has_numbered k i n [] x e at = absurd cc
has_numbered {X = X} k zero n (y ∷ xs) x e at =
    let same : n ≡ k = omega (arith, e) in
    inl (ap (λ (m : ℕ). (m, x)) same ∙ ap (λ (z : X). (k, z)) (sym (some_is y x at)))
has_numbered k (suc i) n (y ∷ xs) x e at = inr (has_numbered (k + 1) i n xs x (omega (arith, e)) at)

-- ---- references

-- where a reference of an object has its field
pub record IsAt (o : Object) (f : Reference) : Type 0 where
  pub place : ℕ
  pub is : f.position ≡ suc place
  pub field : slice_get o.fields place ≡ Some f.field

reference_of : (n : ℕ) (y : ℕ × Field) (f : Reference) → Has (reference_at n y) f → (f.object ≡ n) × (f.position ≡ y.0) × (f.field ≡ y.1)
reference_of n y f h = by (target_of y.1.kind) h
  where
    by : (target : Option ℕ) → Has (in_case target [] (λ z. record { object = n; position = y.0; field = y.1; target = z } ∷ [])) f → (f.object ≡ n) × (f.position ≡ y.0) × (f.field ≡ y.1)
    by None g = absurd g
    by (Some z) (inl e) = (ap (λ (x : Reference). x.object) e, ap (λ (x : Reference). x.position) e, ap (λ (x : Reference). x.field) e)
    by (Some z) (inr g) = absurd g

pub reference_is : (t : Tenant) (f : Reference) → Has (references t.objects) f → (n : ℕ) (o : Object) → f.object ≡ n → slice_get t.objects n ≡ Some o → IsAt o f
reference_is t f h n o of there =
    let x = flat_has references_of (numbered t.objects) f h in
    let place = there_of 0 t.objects x.0 x.1 in
    let y = flat_has (reference_at x.0.number) (enumerate_from 1 x.0.object.fields) f x.2 in
    let at = numbered_has 1 x.0.object.fields y.0 y.1 in
    let is = reference_of x.0.number y.0 f y.2 in
    let number : place.0 ≡ n = omega (arith, place.1, is.0, of) in
    let same : x.0.object ≡ o = some_is x.0.object o (sym place.2 ∙ ap (slice_get t.objects) number ∙ there) in
    record {
      place = at.0;
      is = omega (arith, is.1, at.1);
      field = ap (λ (z : Object). slice_get z.fields at.0) (sym same) ∙ at.2 ∙ ap (λ (z : Field). Some z) (sym is.2);
    }

pub has_reference : (t : Tenant) (n : ℕ) (o : Object) → slice_get t.objects n ≡ Some o → (i : ℕ) (g : Field) (target : ℕ) → slice_get o.fields i ≡ Some g → target_of g.kind ≡ Some target
    → Has (references t.objects) (record { object = n; position = suc i; field = g; target = target })
has_reference t n o there i g target at to =
    let f : Reference = record { object = n; position = suc i; field = g; target = target } in
    let here : Has (reference_at n (suc i, g)) f = rw to (inl refl) in
    let own = has_flat (reference_at n) (enumerate_from 1 o.fields) (suc i, g) f (has_numbered 1 i (suc i) o.fields g (omega arith) at) here in
    has_flat references_of (numbered t.objects) (record { number = n; object = o }) f (has_there 0 t.objects n n o (omega arith) there) own
