-- An edit of one record takes no unique value from another.
use Rattle.std.proofs.Common.{◌≡◌, ℕ, Bool, true, false, ◌||◌, List, [], ◌∷◌, Option, Some, None, refl, sym, ap, subst, ◌∙◌, bytes_eq}
use Rattle.std.proofs.lemmas.Bool.{true≢false as clash}
use Rattle.base_lemmas.proofs.Bools.{by_answer as pick}
use Rattle.base_lemmas.proofs.Texts.{same_from_bytes_eq as same_exact}
use Rattle.model.specs.Objects.{object_numbered}
use Rattle.model.specs.Tenant as model
use Rattle.model.specs.Tenant.{Tenant}
use Rattle.record_index.specs.Changed.{kept_entry}
use Rattle.store_abstraction.specs.Entries.{is_unique}
use Rattle.store_abstraction.specs.Plan.{OrgPlan}
use Rattle.store_abstraction.specs.Stands.{kept_at}
use Rattle.record_index.proofs.Records.{entry_of_kept, no_kept}
use Rattle.record_index.proofs.Same.{entries_same, other}
use Rattle.record_index.specs.diff.Touched.{HasSoundRows, IsTouched, NoneTakes, has}

-- the one id
one_id : (id i : List ℕ) → has (id ∷ []) i ≡ true → id ≡ i
one_id id i h = pick (bytes_eq id i) (λ b. (b || false) ≡ true → id ≡ i) (λ g _. same_exact id i g) (λ _ g. absurd (clash (sym g))) h

pub single : (p q : OrgPlan) (t u : Tenant) (id : List ℕ) → IsTouched p q t u (id ∷ []) → HasSoundRows p t → NoneTakes p q t u (id ∷ [])
single p q t u id is kept n s key i j h had lost =
    pick (has (id ∷ []) j) (λ b. is_unique key (kept_entry (kept_at q u n j) s) ≡ false)
    (λ g. subst (λ (x : List ℕ). is_unique key (kept_entry (kept_at q u n x) s) ≡ false) (sym (one_id id i h) ∙ one_id id j g) lost)
    (λ g. by g (is_unique key (kept_entry (kept_at q u n j) s)) refl)
  where
    by : has (id ∷ []) j ≡ false → (b : Bool) → is_unique key (kept_entry (kept_at q u n j) s) ≡ b → is_unique key (kept_entry (kept_at q u n j) s) ≡ false
    by g false e = e
    by g true e =
        let before = sym (ap (is_unique key) (entries_same (kept_at q u n j) (kept_at p t n j) s (other p q t u (id ∷ []) is n j g))) ∙ e in
        absurd (two g before (object_numbered t n) refl)
      where
        two : has (id ∷ []) j ≡ false → is_unique key (kept_entry (kept_at p t n j) s) ≡ true → (x : Option model.Object) → object_numbered t n ≡ x → ⊥
        two g before None none = no_kept p t n s j key none before
        two g before (Some o) here =
            let y = entry_of_kept p t n o i s key here had in
            let z = entry_of_kept p t n o j s key here before in
            let same = sym y.2 ∙ kept.one n o s key y.0 z.0 here y.1 z.1 y.3 z.3 y.4 z.4 ∙ z.2 in
            clash (sym h ∙ ap (has (id ∷ [])) same ∙ g)
