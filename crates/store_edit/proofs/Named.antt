-- The layout of the object that an edit names.
use Rattle.std.proofs.Common.{◌≡◌, ◌∙◌, ℕ, List, Option, Some, None, ap, refl, subst, sym}
use Rattle.std.specs.Prelude.{Ok, Result}
use Rattle.std.specs.Option.{option_map}
use Rattle.std.proofs.lemmas.Option.{same_Some as some_is}
use Rattle.store_kv.specs.Tables.{Tables}
use Rattle.store_rows.specs.declared.fail.StoreFail.{StoreFail}
use Rattle.model.specs.Objects.{Numbered, object_named}
use Rattle.model.specs.Tenant.{Tenant}
use Rattle.store_abstraction.specs.declared.layout.Layout.{Layout}
use Rattle.store_abstraction.specs.Layouts.{layout_of, own_layout_named}
use Rattle.store_abstraction.specs.Local.{FindsIn, StandsIn}
use Rattle.store_abstraction.specs.Plan.{OrgPlan}

-- it is asked for in other words
pub layout_present : (org : ℕ) (q : OrgPlan) (t : Tenant) (m : Tables) (asked name : List ℕ) (r : Result (Option Layout) StoreFail) (found : Option Layout) (l : Layout)
    → asked ≡ name → FindsIn org (own_layout_named org asked) m r → r ≡ Ok found → found ≡ Some l → StandsIn org q m (Some t) → (o : Numbered) × (object_named t name ≡ Some o) × (l ≡ layout_of org q t o)
unfolding own_layout_named
layout_present org q t m asked name r found l same h was is s =
    by (object_named t name) refl
    (sym is ∙ subst (FindsIn org (own_layout_named org asked) m) was h q (Some t) s ∙ ap (λ (x : List ℕ). option_map (layout_of org q t) (object_named t x)) same)
  where
    by : (x : Option Numbered) → object_named t name ≡ x → Some l ≡ option_map (layout_of org q t) (object_named t name) → (o : Numbered) × (object_named t name ≡ Some o) × (l ≡ layout_of org q t o)
    by None e h = absurd (absent (h ∙ ap (option_map (layout_of org q t)) e))
      where
        absent : ◌≡◌ {A = Option Layout} (Some l) None → ⊥
        absent e = cc
    by (Some o) e h = (o, e, some_is l (layout_of org q t o) (h ∙ ap (option_map (layout_of org q t)) e))

-- there is none
pub layout_absent : (org : ℕ) (q : OrgPlan) (t : Tenant) (m : Tables) (asked name : List ℕ) (r : Result (Option Layout) StoreFail) (found : Option Layout)
    → asked ≡ name → FindsIn org (own_layout_named org asked) m r → r ≡ Ok found → found ≡ None → StandsIn org q m (Some t) → object_named t name ≡ None
unfolding own_layout_named
layout_absent org q t m asked name r found same h was is s =
    by (object_named t name) refl
    (sym is ∙ subst (FindsIn org (own_layout_named org asked) m) was h q (Some t) s ∙ ap (λ (x : List ℕ). option_map (layout_of org q t) (object_named t x)) same)
  where
    by : (x : Option Numbered) → object_named t name ≡ x → None ≡ option_map (layout_of org q t) (object_named t name) → object_named t name ≡ None
    by None e h = e
    by (Some o) e h = absurd (present (h ∙ ap (option_map (layout_of org q t)) e))
      where
        present : ◌≡◌ {A = Option Layout} None (Some (layout_of org q t o)) → ⊥
        present e = cc
