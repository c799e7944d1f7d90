-- The way that names spell, one name after the other.
use Rattle.std.proofs.Common.{◌≡◌, ℕ, suc, ◌+◌, ◌<◌, List, [], ◌∷◌, ◌++◌, drop, length, get_or, Option, Some, None, refl, sym, ap, subst, ◌∙◌, append_assoc, add-one, drop-cons}
use Rattle.std.specs.Option.{option_map}
use Rattle.std.proofs.lemmas.Option.{same_Some as some_is}
use Rattle.model.specs.Cases.{in_case}
use Rattle.model.specs.Objects.{object_numbered}
use Rattle.model.specs.Relationships.{Reference, parent_named}
use Rattle.model.specs.Sound.{IsSound}
use Rattle.model.specs.Tenant.{Tenant}
use Rattle.store_abstraction.specs.declared.layout.Layout.{Layout}
use Rattle.store_abstraction.specs.Layouts.{IsLayout, own_layout}
use Rattle.store_abstraction.specs.Plan.{OrgPlan}
use Rattle.query_plan.specs.declared.paths.parents.ParentStep.{ParentStep}
use Rattle.query_plan.specs.paths.Ways.{parent_step, path_end}
use Rattle.query_plan.proofs.ByLayout.{layout_is, none_is, read_is}
use Rattle.query_plan.proofs.Ends.{End, with_first}
use Rattle.query_plan.proofs.Owned.{parent_has}
use Rattle.query_plan.proofs.Sound.{target_there}

-- steps, and then those of an end
abbrev pub after : List ParentStep → End → End
after steps e = (steps ++ e.0, e.1)

-- these steps came of the first names, and the layout is that of the object at their end
pub record HasCome (q : OrgPlan) (t : Tenant) (n : ℕ) (names : List (List ℕ)) (steps : List ParentStep) (l : Layout) (rest : List (List ℕ)) : Type 0 where
  pub layout : IsLayout q t l
  pub whole : path_end t n names ≡ option_map (after steps) (path_end t l.object rest)

-- the name at a place, and those behind it
pub next_name : (names : List (List ℕ)) (i : ℕ) (name : List ℕ) → i < length names → name ≡ get_or names i name → drop i names ≡ name ∷ drop (i + 1) names
next_name names i name lt is =
    drop-cons names i name lt
    ∙ ap (λ (x : List ℕ). x ∷ drop (suc i) names) (sym is)
    ∙ ap (λ (k : ℕ). name ∷ drop k names) (sym (add-one i))

module _ (q : OrgPlan) (t : Tenant) (n : ℕ) (names : List (List ℕ)) (steps : List ParentStep) (l : Layout) where
  abbrev to_parent : List (List ℕ) → Option Reference → Option End
  to_parent rest f = in_case f None (λ f. option_map (with_first (parent_step f)) (path_end t f.target rest))

  -- a name that is there
  pub record IsStep (name : List ℕ) (s : ParentStep) : Type 0 where
    pub reference : Reference
    pub named : parent_named t l.object name ≡ Some reference
    pub step : s ≡ parent_step reference

  pub step_is : (name : List ℕ) (s : ParentStep) → Some s ≡ option_map parent_step (parent_named t l.object name) → IsStep name s
  step_is name s e = by (parent_named t l.object name) refl e
    where
      by : (f : Option Reference) → parent_named t l.object name ≡ f → Some s ≡ option_map parent_step f → IsStep name s
      by None is e = absurd cc
      by (Some f) is e = record { reference = f; named = is; step = some_is s (parent_step f) e }

  joined : (s : ParentStep) (e : Option End) → option_map (after steps) (option_map (with_first s) e) ≡ option_map (after (steps ++ s ∷ [])) e
  joined s None = refl
  joined s (Some e) = ap (λ (all : List ParentStep). Some (all, e.1)) (sym (append_assoc steps (s ∷ []) e.0))

  pub one_more : (name : List ℕ) (rest : List (List ℕ)) (s : ParentStep) (org : ℕ) (next : Layout) → HasCome q t n names steps l (name ∷ rest) → IsStep name s → own_layout org s.target q (Some t) ≡ Some next
      → HasCome q t n names (steps ++ s ∷ []) next rest
  one_more name rest s org next come is at =
      let read = read_is org s.target q t next at in
      let target : is.reference.target ≡ next.object = sym (read.number ∙ ap (λ (x : ParentStep). x.target) is.step) in
      record {
        layout = read.layout;
        whole = come.whole
            ∙ ap (λ (f : Option Reference). option_map (after steps) (to_parent rest f)) is.named
            ∙ joined (parent_step is.reference) (path_end t is.reference.target rest)
            ∙ ap (λ (x : ParentStep). option_map (after (steps ++ x ∷ [])) (path_end t is.reference.target rest)) (sym is.step)
            ∙ ap (λ (m : ℕ). option_map (after (steps ++ s ∷ [])) (path_end t m rest)) target;
      }

  -- its object is there
  pub target_read : (name : List ℕ) (s : ParentStep) (org : ℕ) → IsSound t → IsLayout q t l → IsStep name s → own_layout org s.target q (Some t) ≡ None → ⊥
  target_read name s org sound layout is none =
      let it = layout_is q t l layout in
      target_there t sound l.object it.object is.reference it.there (parent_has t l.object it.object name is.reference it.there is.named)
      (subst (λ (x : ParentStep). object_numbered t x.target ≡ None) is.step ((none_is org s.target q t).0 none))
