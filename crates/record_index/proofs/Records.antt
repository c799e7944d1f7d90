-- What is found in a list, and which record is behind what is kept.
use Rattle.std.proofs.Common.{◌≡◌, inl, inr, ℕ, Bool, true, false, cond, List, [], ◌∷◌, filter, Option, Some, None, refl, sym, ap, subst, ◌∙◌, bytes_eq}
use Rattle.std.specs.Prelude.{if◌then◌else◌}
use Rattle.std.specs.List.{find}
use Rattle.std.specs.Option.{option_and_then, option_map}
use Rattle.std.proofs.lemmas.Bool.{true≢false as clash}
use Rattle.base_lemmas.proofs.Bools.{by_answer as pick}
use Rattle.base_lemmas.proofs.Texts.{same_from_bytes_eq as same_exact}
use Rattle.std.proofs.lemmas.Option.{same_Some as some_is}
use Rattle.model.specs.declared.record.Record.{Record}
use Rattle.model.specs.Membership.{Has}
use Rattle.model.specs.Objects.{is_of, object_numbered, record_at}
use Rattle.model.specs.Tenant as model
use Rattle.model.specs.Tenant.{Tenant}
use Rattle.model.specs.World.{having_id}
use Rattle.record_index.specs.Changed.{kept_entry}
use Rattle.store_abstraction.specs.Entries.{is_unique, slot_entry}
use Rattle.store_abstraction.specs.Plan.{OrgPlan}
use Rattle.store_abstraction.specs.Stands.{Kept, kept_at, kept_in}

-- ---- what is found in a list

module _ {X : Type 0} (f : X → Bool) where
  pub is_found : (xs : List X) (x : X) → find f xs ≡ Some x → Has xs x × (f x ≡ true)
  is_found [] x e = absurd cc
  is_found (y ∷ xs) x e =
      pick (f y) (λ b. f y ≡ b → cond b (Some y) (find f xs) ≡ Some x → Has (y ∷ xs) x × (f x ≡ true))
      (λ _ g h. let same = some_is y x h in (inl (sym same), ap f (sym same) ∙ g))
      (λ _ _ h. let more = is_found xs x h in (inr more.0, more.1))
      refl e

  pub none_found : (xs : List X) → find f xs ≡ None → (x : X) → Has xs x → f x ≡ false
  none_found [] e x m = absurd m
  none_found (y ∷ xs) e x m =
      pick (f y) (λ b. f y ≡ b → cond b (Some y) (find f xs) ≡ None → f x ≡ false)
      (λ _ _ h. absurd cc)
      (λ _ g h. elim m [ inl same ↦ ap f same ∙ g | inr rest ↦ none_found xs h x rest ])
      refl e

  pub kept_has : (xs : List X) (x : X) → Has (filter f xs) x → Has xs x × (f x ≡ true)
  kept_has [] x m = absurd m
  kept_has (y ∷ xs) x m =
      pick (f y) (λ b. f y ≡ b → Has (cond b (y ∷ filter f xs) (filter f xs)) x → Has (y ∷ xs) x × (f x ≡ true))
      (λ _ g h. elim h [ inl same ↦ (inl same, ap f same ∙ g) | inr rest ↦ let more = kept_has xs x rest in (inr more.0, more.1) ])
      (λ _ _ h. let more = kept_has xs x h in (inr more.0, more.1))
      refl m

  pub has_kept : (xs : List X) (x : X) → Has xs x → f x ≡ true → Has (filter f xs) x
  has_kept [] x m g = absurd m
  has_kept (y ∷ xs) x m g =
      pick (f y) (λ b. f y ≡ b → Has (cond b (y ∷ filter f xs) (filter f xs)) x)
      (λ _ _. elim m [ inl same ↦ inl same | inr rest ↦ inr (has_kept xs x rest g) ])
      (λ _ e. elim m [ inl same ↦ absurd (clash (sym (ap f (sym same) ∙ g) ∙ e)) | inr rest ↦ has_kept xs x rest g ])
      refl

-- a record that an id names has it
pub named : (rs : List Record) (i : List ℕ) (y : Record) → having_id (λ r. r.id) rs i ≡ Some y → Has rs y × (y.id ≡ i)
named [] i y e = absurd cc
named (r ∷ rs) i y e =
    pick (bytes_eq i r.id) (λ b. bytes_eq i r.id ≡ b → cond b (Some r) (having_id (λ r. r.id) rs i) ≡ Some y → Has (r ∷ rs) y × (y.id ≡ i))
    (λ _ g h. let same = some_is r y h in (inl (sym same), ap (λ (x : Record). x.id) (sym same) ∙ sym (same_exact i r.id g)))
    (λ _ _ h. let more = named rs i y h in (inr more.0, more.1))
    refl e

-- a record of an object is kept with what is in its slots
pub kept_is : (p : OrgPlan) (v : Tenant) (n : ℕ) (o : model.Object) (y : Record) → object_numbered v n ≡ Some o → record_at v y.id ≡ Some y → is_of n y ≡ true → kept_at p v n y.id ≡ Some (kept_in p v n o y)
unfolding kept_at
kept_is p v n o y here at of = rw (at, of, here) refl

-- what is in a slot of a record that is kept is that of a record of the object
pub entry_of_kept : (p : OrgPlan) (v : Tenant) (n : ℕ) (o : model.Object) (i : List ℕ) (s : ℕ) (key : List ℕ) → object_numbered v n ≡ Some o → is_unique key (kept_entry (kept_at p v n i) s) ≡ true
    → (y : Record) × (Has v.records y) × (y.id ≡ i) × (is_of n y ≡ true) × (is_unique key (slot_entry p v.job n o y s) ≡ true)
unfolding kept_at
entry_of_kept p v n o i s key here e = by (record_at v i) refl e
  where
    by : (x : Option Record) → record_at v i ≡ x → is_unique key (kept_entry (option_and_then (λ (r : Record). if is_of n r then option_map (λ o. kept_in p v n o r) (object_numbered v n) else None) x) s) ≡ true
        → (y : Record) × (Has v.records y) × (y.id ≡ i) × (is_of n y ≡ true) × (is_unique key (slot_entry p v.job n o y s) ≡ true)
    by None at h = absurd cc
    by (Some y) at h =
        let m = named v.records i y at in
        pick (is_of n y) (λ b. is_of n y ≡ b → is_unique key (kept_entry (cond b (option_map (λ o. kept_in p v n o y) (object_numbered v n)) None) s) ≡ true → (y : Record) × (Has v.records y) × (y.id ≡ i) × (is_of n y ≡ true) × (is_unique key (slot_entry p v.job n o y s) ≡ true))
        (λ _ of g. (y, m.0, m.1, of, subst (λ (x : Option model.Object). is_unique key (kept_entry (option_map (λ o. kept_in p v n o y) x) s) ≡ true) here g))
        (λ _ _ g. absurd cc)
        refl h

-- without the object nothing is kept
pub no_kept : (p : OrgPlan) (v : Tenant) (n s : ℕ) (i k : List ℕ) → object_numbered v n ≡ None → is_unique k (kept_entry (kept_at p v n i) s) ≡ true → ⊥
unfolding kept_at
no_kept p v n s i k none e =
    clash (sym e ∙ ap (λ (o : Option model.Object). is_unique k (kept_entry (option_and_then (λ (r : Record). if is_of n r then option_map (λ o. kept_in p v n o r) o else None) (record_at v i)) s)) none ∙ by (record_at v i))
  where
    by : (x : Option Record) → is_unique k (kept_entry (option_and_then (λ (r : Record). if is_of n r then option_map (λ o. kept_in p v n o r) None else None) x) s) ≡ false
    by None = refl
    by (Some r) = pick (is_of n r) (λ b. is_unique k (kept_entry (cond {A = Option Kept} b None None) s) ≡ false) (λ _. refl) (λ _. refl)
