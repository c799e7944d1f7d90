-- What is found for one more that is given.
use Rattle.std.proofs.Common.{◌≡◌, ◌∙◌, ◌⊎◌, ℕ, ◌+◌, ◌<◌, Bool, true, false, ◌||◌, cond, List, [], ◌∷◌, ◌++◌, get_or, length, take, Option, Some, None, Result, Ok, Err, refl, sym, ap, subst, inl, inr}
use Rattle.std.specs.Prelude.{OnOk}
use Rattle.base_lemmas.proofs.Texts.{bytes_eq-self as same_itself}
use Rattle.record_input.specs.Given.{finds_none}
use Rattle.model.specs.declared.record_bodies.Assignment.{Assignment}
use Rattle.model.specs.declared.record_bodies.Given.{Given}
use Rattle.model.specs.declared.record_bodies.Given.TheVariants as gives
use Rattle.model.specs.Cases.{in_case}
use Rattle.model.specs.Fields.{same_name}
use Rattle.model.specs.Membership.{Has}
use Rattle.model.specs.Tenant.{Tenant}
use Rattle.store_abstraction.specs.declared.layout.Layout.{Layout}
use Rattle.base_value.specs.Texts.{lower}
use Rattle.cmd_load_row.specs.declared.parents.Parent.{Parent}
use Rattle.cmd_load_row.specs.inner.Finding.{FindsFor, ParentFor}
use Rattle.cmd_load_row.specs.inner.Parents.{Adds, AllFound, IsFoundBy, has_parent, parent_named}
use Rattle.cmd_load_row.proofs.Lists.{found_in_both, of_last, taken}

-- none has the name
pub none_named : (parents : List Parent) (name : List ℕ) → has_parent parents name ≡ false → parent_named parents name ≡ None
none_named [] name without = refl
none_named (p ∷ parents) name without = by (same_name p.name name) refl without (none_named parents name)
  where
    by : (b : Bool) → same_name p.name name ≡ b → (b || has_parent parents name) ≡ false → (has_parent parents name ≡ false → parent_named parents name ≡ None)
        → cond b (Some p) (parent_named parents name) ≡ None
    by true is without rest = absurd cc
    by false is without rest = rest without

module _ (t : Tenant) (l : Layout) (before : List Parent) where
  -- one that was found stays first
  still_first : (more : List Parent) (name : List ℕ) (p : Parent) → parent_named before name ≡ Some p → parent_named (before ++ more) name ≡ Some p
  still_first more name p e =
      found_in_both (λ (p : Parent). same_name p.name name) before more ∙ ap (λ (x : Option Parent). in_case x (parent_named more name) (λ x. Some x)) e

  kept : (more : List Parent) (name : List ℕ) (g : Given) → IsFoundBy t l before name g → IsFoundBy t l (before ++ more) name g
  kept more name (gives.Find place text) is = (is.0, still_first more name is.0 is.1, is.2)
  kept more name (gives.Json j) is = tt
  kept more name (gives.Read v) is = tt

  -- one that finds no record
  none_sought : (name : List ℕ) (g : Given) → finds_none g ≡ true → IsFoundBy t l before name g
  none_sought name (gives.Find place text) none = absurd cc
  none_sought name (gives.Json j) none = tt
  none_sought name (gives.Read v) none = tt

  -- one that is found
  now_first : (p : Parent) → parent_named before p.name ≡ None → parent_named (before ++ p ∷ []) p.name ≡ Some p
  now_first p none =
      found_in_both (λ (x : Parent). same_name x.name p.name) before (p ∷ []) ∙ ap (λ (x : Option Parent). in_case x (parent_named (p ∷ []) p.name) (λ x. Some x)) none
      ∙ ap (λ (b : Bool). cond b (Some p) None) (same_itself (lower p.name))

  one_sought : (name : List ℕ) (g : Given) (p : Parent) → ParentFor t l name g p → parent_named before p.name ≡ None → IsFoundBy t l (before ++ p ∷ []) name g
  one_sought name (gives.Find place text) p is none =
      (p, subst (λ (n : List ℕ). parent_named (before ++ p ∷ []) n ≡ Some p) is.name_is (now_first p none), is)
  one_sought name (gives.Json j) p is none = tt
  one_sought name (gives.Read v) p is none = tt

  -- all that is given up to one
  pub found_on : (given : List Assignment) (i : ℕ) (x : Assignment) (found : Option Parent) (after : List Parent) → i < length given → x ≡ get_or given i x
      → AllFound t l before (take i given) → FindsFor t l x (Ok found) → Adds before found after → AllFound t l after (take (i + 1) given)
  found_on given i x found after lt is all finds adds y has = by (of_last (take i given) x y (subst (λ (xs : List Assignment). Has xs y) (taken given i x lt is) has))
    where
      old : (found : Option Parent) → Adds before found after → IsFoundBy t l before y.field y.given → IsFoundBy t l after y.field y.given
      old None adds known = subst (λ (ps : List Parent). IsFoundBy t l ps y.field y.given) (sym adds) known
      old (Some p) adds known = subst (λ (ps : List Parent). IsFoundBy t l ps y.field y.given) (sym adds.1) (kept (p ∷ []) y.field y.given known)

      new : (found : Option Parent) → FindsFor t l x (Ok found) → Adds before found after → IsFoundBy t l after x.field x.given
      new None finds adds = subst (λ (ps : List Parent). IsFoundBy t l ps x.field x.given) (sym adds) (none_sought x.field x.given finds)
      new (Some p) finds adds = subst (λ (ps : List Parent). IsFoundBy t l ps x.field x.given) (sym adds.1) (one_sought x.field x.given p finds adds.0)

      by : (Has (take i given) y) ⊎ (y ≡ x) → IsFoundBy t l after y.field y.given
      by (inl more) = old found adds (all y more)
      by (inr e) = subst (λ (z : Assignment). IsFoundBy t l after z.field z.given) (sym e) (new found finds adds)

-- one that is put behind the others
pub adds_one : {E : Type 0} (before : List Parent) (found : Option Parent) (p : Parent) (after : List Parent) (r : Result (Unit {0}) E) → found ≡ Some p → has_parent before p.name ≡ false
    → OnOk r (after ≡ before ++ p ∷ []) → OnOk r (Adds before found after)
adds_one before found p after (Ok x) is without put = subst (λ (f : Option Parent). Adds before f after) (sym is) (none_named before p.name without, put)
adds_one before found p after (Err e) is without put = tt
