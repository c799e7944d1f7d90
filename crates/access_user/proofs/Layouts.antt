-- The object of a layout.
use Rattle.std.proofs.Common.{◌≡◌, ℕ, Option, Some, None, refl, sym, ap, subst}
use Rattle.std.specs.Option.{option_map}
use Rattle.std.proofs.lemmas.Option.{same_Some as some_is}
use Rattle.model.specs.Objects.{object_numbered}
use Rattle.model.specs.Tenant as model
use Rattle.model.specs.Tenant.{Tenant}
use Rattle.store_abstraction.specs.declared.layout.Layout.{Layout}
use Rattle.store_abstraction.specs.Layouts.{IsLayout, layout_of, own_layout}
use Rattle.store_abstraction.specs.Plan.{OrgPlan}

pub record IsOf (q : OrgPlan) (t : Tenant) (l : Layout) : Type 0 where
  pub object : model.Object
  pub there : object_numbered t l.object ≡ Some object
  pub made : layout_of l.org q t (record { number = l.object; object = object }) ≡ l

pub layout_is : (q : OrgPlan) (t : Tenant) (l : Layout) → IsLayout q t l → IsOf q t l
unfolding own_layout
layout_is q t l h = by (object_numbered t l.object) refl h
  where
    by : (o : Option model.Object) → object_numbered t l.object ≡ o
        → option_map (layout_of l.org q t) (option_map (λ x. record { number = l.object; object = x }) o) ≡ Some l → IsOf q t l
    by None there h = absurd cc
    by (Some o) there h = record {
      object = o;
      there = there;
      made = some_is (layout_of l.org q t (record { number = l.object; object = o })) l h;
    }

-- what is read of the object with a number is its layout
pub record IsRead (org n : ℕ) (q : OrgPlan) (t : Tenant) (l : Layout) : Type 0 where
  pub its_org : l.org ≡ org
  pub number : l.object ≡ n
  pub layout : IsLayout q t l

pub read_is : (org n : ℕ) (q : OrgPlan) (t : Tenant) (l : Layout) → own_layout org n q (Some t) ≡ Some l → IsRead org n q t l
unfolding own_layout
read_is org n q t l h = by (object_numbered t n) refl h
  where
    by : (o : Option model.Object) → object_numbered t n ≡ o
        → option_map (layout_of org q t) (option_map (λ x. record { number = n; object = x }) o) ≡ Some l → IsRead org n q t l
    by None there h = absurd cc
    by (Some o) there g =
        let made : layout_of org q t (record { number = n; object = o }) ≡ l = some_is (layout_of org q t (record { number = n; object = o })) l g in
        let at : own_layout org n q (Some t) ≡ Some l = h in
        record {
          its_org = ap (λ (k : Layout). k.org) (sym made);
          number = ap (λ (k : Layout). k.object) (sym made);
          layout = subst (λ (k : Layout). own_layout k.org k.object q (Some t) ≡ Some k) made (rw there refl);
        }

-- it is there where the object is
pub none_is : (org n : ℕ) (q : OrgPlan) (t : Tenant) → None ≡ own_layout org n q (Some t) → object_numbered t n ≡ None
unfolding own_layout
none_is org n q t h = by (object_numbered t n) h
  where
    by : (o : Option model.Object) → None ≡ option_map (layout_of org q t) (option_map (λ x. record { number = n; object = x }) o) → o ≡ None
    by None e = refl
    by (Some o) e = absurd cc
