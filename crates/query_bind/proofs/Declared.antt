-- The name of a parent relationship, as it is declared.
use Rattle.std.proofs.Common.{◌≡◌, ◌∙◌, ℕ, zero, suc, ◌+◌, ◌-◌, List, [], ◌∷◌, ◌++◌, length, map, take, Option, Some, None, sym, ap, subst, arith, inl, inr}
use Rattle.std.specs.Prelude.{codes, encode_utf8_all, slice_get}
use Rattle.std.specs.List.{enumerate_from, flat_map}
use Rattle.std.specs.Option.{option_map}
use Rattle.std.specs.Str.{IsUtf8, chars}
use Rattle.std.proofs.lemmas.Str.{chars-append, chars_from_encodes}
use Rattle.model.specs.Cases.{in_case}
use Rattle.model.specs.Membership.{Has}
use Rattle.model.specs.Relationships.{Reference, parent_name, parent_named, reference_at, target_of}
use Rattle.model.specs.Tenant.{Field, Tenant}
use Rattle.store_abstraction.specs.declared.layout.FieldPlace.{FieldPlace}
use Rattle.store_abstraction.specs.declared.layout.Layout.{Layout}
use Rattle.store_abstraction.specs.Layouts.{IsLayout, place_of}
use Rattle.store_abstraction.specs.Plan.{OrgPlan}
use Rattle.query_plan.specs.declared.paths.parents.ParentStep.{ParentStep}
use Rattle.query_plan.specs.paths.Ways.{parent_step}
use Rattle.query_plan.proofs.ByLayout.{layout_is, parent_by_layout}
use Rattle.query_plan.proofs.Owned.{parent_has}
use Rattle.query_check.specs.Columns.{custom_name}
use Rattle.query_bind.specs.Names.{relationship_name}
use Rattle.query_plan.proofs.Lists.{at_number}

-- ---- texts

-- the last three characters of a field's name are replaced
pub parent_is : (field kept name ending : List ℕ) → kept ≡ take (length field - 3) field → IsUtf8 name → name ≡ encode_utf8_all kept → ending ≡ codes "__r"
    → chars (name ++ ending) ≡ parent_name field
unfolding parent_name chars
parent_is field kept name ending cut u spelled e =
    ap (λ (x : List ℕ). chars (name ++ x)) e
    ∙ chars-append name (codes "__r") u
    ∙ ap (λ (x : List ℕ). x ++ codes "__r") (sym (chars_from_encodes kept name u (sym spelled)) ∙ cut)

-- ---- the field of a reference

-- a reference among those of numbered fields is the one with its position
record IsFieldAt (k : ℕ) (fs : List Field) (f : Reference) : Type 0 where
  number : ℕ
  position : k + number ≡ f.position
  there : slice_get fs number ≡ Some f.field

field_at : (n k : ℕ) (fs : List Field) (f : Reference) → Has (flat_map (reference_at n) (enumerate_from k fs)) f → IsFieldAt k fs f
field_at n k [] f h = absurd h
field_at n k (g ∷ fs) f h = by (target_of g.kind) h (field_at n (k + 1) fs f)
  where
    later : IsFieldAt (k + 1) fs f → IsFieldAt k (g ∷ fs) f
    later it = record { number = suc it.number; position = omega (arith, it.position); there = it.there }

    by : (target : Option ℕ)
        → Has (in_case target [] (λ target. record { object = n; position = k; field = g; target = target } ∷ []) ++ flat_map (reference_at n) (enumerate_from (k + 1) fs)) f
        → (Has (flat_map (reference_at n) (enumerate_from (k + 1) fs)) f → IsFieldAt (k + 1) fs f) → IsFieldAt k (g ∷ fs) f
    by None h more = later (more h)
    by (Some target) (inl e) more = record {
      number = zero;
      position = subst (λ (r : Reference). k + 0 ≡ r.position) (sym e) (omega arith);
      there = ap (λ (r : Reference). Some r.field) (sym e);
    }
    by (Some target) (inr h) more = later (more h)

-- by the layout of its object the name is the one of the reference's field
pub declared_is : (q : OrgPlan) (t : Tenant) (l : Layout) (name : List ℕ) (f : Reference) → IsLayout q t l → parent_named t l.object name ≡ Some f
    → relationship_name l name ≡ parent_name f.field.name
declared_is q t l name f laid is =
    let it = layout_is q t l laid in
    let at = field_at l.object 1 it.object.fields f (parent_has t l.object it.object name f it.there is) in
    let place = at_number (place_of q l.object) it.object.fields 0 at.number at.number f.field (omega arith) at.there in
    let less : f.position - 1 ≡ at.number = omega (arith, at.position) in
    let named : custom_name l.fields f.position ≡ f.field.name =
    ap (λ (k : Layout). custom_name k.fields f.position) (sym it.made)
    ∙ ap (λ (m : ℕ). in_case (slice_get (map (place_of q l.object) (enumerate_from 0 it.object.fields)) m) (chars (codes "")) (λ (f : FieldPlace). f.name)) less
    ∙ ap (λ (x : Option FieldPlace). in_case x (chars (codes "")) (λ (f : FieldPlace). f.name)) place in
    ap (λ (s : Option ParentStep). in_case s name (λ (s : ParentStep). parent_name (custom_name l.fields s.position))) (parent_by_layout q t l name laid ∙ ap (option_map parent_step) is)
    ∙ ap parent_name named
