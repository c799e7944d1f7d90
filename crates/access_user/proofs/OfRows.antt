-- What the rows of sharing rules and the layout of an object say is what the rules of their tenant and the object say.
use Rattle.std.proofs.Common.{◌≡◌, ◌∙◌, ℕ, Bool, true, cond, List, [], ◌∷◌, map, Some, None, refl, sym, ap, ap₂, subst}
use Rattle.std.specs.Prelude.{filter_map}
use Rattle.std.specs.List.{cons_option}
use Rattle.std.specs.Option.{ok_or}
use Rattle.std.proofs.lemmas.Option.{same_Some as some_is}
use Rattle.formula.specs.grammar.Spelling.{formula_in, place_in}
use Rattle.base_grammar.specs.Tokens.{byte_len}
use Rattle.store_rows.specs.declared.sharing.SharingRow.{SharingRow}
use Rattle.model.specs.FormulaTexts.{formula_fields, reads_text}
use Rattle.model.specs.Levels.{by_access}
use Rattle.model.specs.Objects.{object_numbered}
use Rattle.model.specs.Tenant.{Field, Object, SharingRule, Source, owned, meets, Tenant, User}
use Rattle.schema_rules.specs.Objects.{field_of_place, object_of_layout}
use Rattle.schema_rules.proofs.Objects.{fields_back}
use Rattle.schema_rules.proofs.Read.{layout_is}
use Rattle.store_abstraction.specs.Layouts.{IsLayout}
use Rattle.store_abstraction.specs.Metadata.{sharing_of, source_part}
use Rattle.store_abstraction.specs.Plan.{OrgPlan}
use Rattle.store_abstraction.specs.declared.layout.Layout.{Layout}
use Rattle.base_value.specs.declared.sharing.Level.{Level}
use Rattle.access_closure.specs.declared.people.People.{People}
use Rattle.access_user.specs.declared.level.knowing.OwnLevels.{OwnLevels}
use Rattle.access_user.specs.level.Own.{IsOwnLevels, MembersFor, counts, criterion_by, criterion_read, owner_by, spelled_criterion}
use Rattle.access_user.specs.level.inner.Parts.{criterion_by_row, owner_by_row}

-- ---- the object of a layout: its validation rules don't matter to formulas

reads_same : (o p : Object) (text : List ℕ) → o.fields ≡ p.fields → reads_text o true text ≡ reads_text p true text
unfolding reads_text
reads_same o p text e = ap (λ (fs : List Field). ok_or (formula_in true (formula_fields fs) text) (place_in true (formula_fields fs) text (byte_len text))) e

module _ (q : OrgPlan) (t : Tenant) (l : Layout) (o : Object) (there : object_numbered t l.object ≡ Some o) (is : IsLayout q t l) where
  same_object : (layout_is q t l is).object ≡ o
  same_object = some_is (layout_is q t l is).object o (sym (layout_is q t l is).there ∙ there)

  fields_are : (object_of_layout l).fields ≡ o.fields
  fields_are =
      ap (λ (k : Layout). map field_of_place k.fields) (sym (layout_is q t l is).made)
      ∙ fields_back q l.object 0 (layout_is q t l is).object.fields
      ∙ ap (λ (p : Object). p.fields) same_object

  access_is : l.access ≡ o.access
  access_is = ap (λ (k : Layout). k.access) (sym (layout_is q t l is).made) ∙ ap (λ (p : Object). p.access) same_object

  hierarchy_is : l.hierarchy ≡ o.hierarchy
  hierarchy_is = ap (λ (k : Layout). k.hierarchy) (sym (layout_is q t l is).made) ∙ ap (λ (p : Object). p.hierarchy) same_object

  -- ---- rules

  module _ (h : Bool) (u : User) (org n : ℕ) where
    spelled : (level : Level) (source : Source) → spelled_criterion (object_of_layout l) level (source_part source) ≡ spelled_criterion o level (source_part source)
    spelled level (owned p) = refl
    spelled level (meets text) = ap (criterion_read level) (reads_same (object_of_layout l) o text fields_are)

    criteria_are : (rules : List SharingRule) → filter_map (criterion_by_row h t u n (object_of_layout l)) (map (sharing_of org) rules) ≡ filter_map (criterion_by h t u n o) rules
    criteria_are [] = refl
    criteria_are (r ∷ rules) = ap₂ cons_option (ap (λ c. cond (counts h t u n r.state r.object r.to) c None) (spelled r.level r.source)) (criteria_are rules)

    owners_are : (rules : List SharingRule) → filter_map (owner_by_row h t u n) (map (sharing_of org) rules) ≡ filter_map (owner_by h t u n) rules
    owners_are [] = refl
    owners_are (r ∷ rules) = ap (cons_option (owner_by h t u n r)) (owners_are rules)

  pub known_is : (people : People) (u : User) (org : ℕ) (own : OwnLevels) (rows : List SharingRow) → rows ≡ map (sharing_of org) t.sharing_rules
      → own.base ≡ by_access l.access → MembersFor l.hierarchy people u.id own.members
      → own.criteria ≡ filter_map (criterion_by_row l.hierarchy t u l.object (object_of_layout l)) rows → own.owners ≡ filter_map (owner_by_row l.hierarchy t u l.object) rows
      → IsOwnLevels people t u l.object o own
  known_is people u org own rows e base members criteria owners = record {
    base = base ∙ ap by_access access_is;
    members = subst (λ (h : Bool). MembersFor h people u.id own.members) hierarchy_is members;
    criteria =
        criteria ∙ ap (filter_map (criterion_by_row l.hierarchy t u l.object (object_of_layout l))) e ∙ criteria_are l.hierarchy u org l.object t.sharing_rules
        ∙ ap (λ (h : Bool). filter_map (criterion_by h t u l.object o) t.sharing_rules) hierarchy_is;
    owners =
        owners ∙ ap (filter_map (owner_by_row l.hierarchy t u l.object)) e ∙ owners_are l.hierarchy u org l.object t.sharing_rules
        ∙ ap (λ (h : Bool). filter_map (owner_by h t u l.object) t.sharing_rules) hierarchy_is;
  }
