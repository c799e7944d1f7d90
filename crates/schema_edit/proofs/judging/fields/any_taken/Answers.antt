use Rattle.std.proofs.Common.{◌≡◌, ◌∙◌, ℕ, Bool, List, [], ◌∷◌, map, Option, None, sym, ap}
use Rattle.std.specs.List.{list_any}
use Rattle.base_lemmas.proofs.Results.{IfOk-same as if_ok}
use Rattle.model.specs.declared.refusal.Refusal.TheVariants.{NameTaken}
use Rattle.model.specs.Cases.{in_case}
use Rattle.model.specs.Fields.{same_name}
use Rattle.model.specs.Names.{taken}
use Rattle.model.specs.NewFields.{name_taken, parent_taken}
use Rattle.model.specs.Rules.{refuse_if}
use Rattle.model.specs.Tenant.{Field}
use Rattle.store_abstraction.specs.declared.layout.FieldPlace.{FieldPlace}
use Rattle.schema_edit.proofs.JudgedFields.{all_layouts, number_is}
use Rattle.schema_edit.proofs.Steps.{field_taken, first_of_all, second_of}
use Rattle.schema_edit.proofs.judging.fields.any_taken.Goals as goal

pub returns-in-Some : goal.returns-in-Some
returns-in-Some c =
    λ t o h.
    let s = c.args.names.now in
    let b = s.new.now in
    let l = s.layout.now in
    let ls = s.layouts.now in
    let has : c.has_name-is_taken.result ≡ list_any (same_name b.name) (map (λ (f : FieldPlace). f.name) l.fields) =
    c.has_name-is_taken.ensures
    ∙ ap (λ (n : List ℕ). list_any (same_name n) (map (λ (f : FieldPlace). f.name) c.as_slice.result.now)) c.as_str.ensures.characters
    ∙ ap (λ (fs : List FieldPlace). list_any (same_name b.name) (map (λ (f : FieldPlace). f.name) fs)) c.as_slice.ensures in
    let first : taken (map (λ (f : Field). f.name) o.object.fields) b.name ≡ c.in_ok-refusal.field-0 =
    sym (field_taken t o ls l h b.name) ∙ ap (λ (x : Bool). refuse_if x (NameTaken b.name)) (sym has) ∙ sym c.in_ok-refusal.ensures in
    first_of_all (taken (map (λ (f : Field). f.name) o.object.fields) b.name) (in_case s.target None (parent_taken t o.number b) ∷ []) c.in-Some.refusal (first ∙ c.in-Some.is)

pub returns-in-None : goal.returns-in-None
returns-in-None c =
    λ t o h.
    let s = c.args.names.now in
    let b = s.new.now in
    let l = s.layout.now in
    let ls = s.layouts.now in
    let has : c.has_name-is_taken.result ≡ list_any (same_name b.name) (map (λ (f : FieldPlace). f.name) l.fields) =
    c.has_name-is_taken.ensures
    ∙ ap (λ (n : List ℕ). list_any (same_name n) (map (λ (f : FieldPlace). f.name) c.as_slice.result.now)) c.as_str.ensures.characters
    ∙ ap (λ (fs : List FieldPlace). list_any (same_name b.name) (map (λ (f : FieldPlace). f.name) fs)) c.as_slice.ensures in
    let first : taken (map (λ (f : Field). f.name) o.object.fields) b.name ≡ c.in_ok-refusal.field-0 =
    sym (field_taken t o ls l h b.name) ∙ ap (λ (x : Bool). refuse_if x (NameTaken b.name)) (sym has) ∙ sym c.in_ok-refusal.ensures in
    ap (λ (x : Option ℕ). in_case x None (parent_taken t o.number b)) (sym c.in-None.is)
    ∙ second_of (taken (map (λ (f : Field). f.name) o.object.fields) b.name) (in_case s.target None (parent_taken t o.number b)) (first ∙ c.in_default.is)

pub returns-in-Some-target : goal.returns-in-Some-target
returns-in-Some-target c =
    λ t o h.
    let s = c.args.names.now in
    let b = s.new.now in
    let l = s.layout.now in
    let ls = s.layouts.now in
    let has : c.has_name-is_taken.result ≡ list_any (same_name b.name) (map (λ (f : FieldPlace). f.name) l.fields) =
    c.has_name-is_taken.ensures
    ∙ ap (λ (n : List ℕ). list_any (same_name n) (map (λ (f : FieldPlace). f.name) c.as_slice.result.now)) c.as_str.ensures.characters
    ∙ ap (λ (fs : List FieldPlace). list_any (same_name b.name) (map (λ (f : FieldPlace). f.name) fs)) c.as_slice.ensures in
    let first : taken (map (λ (f : Field). f.name) o.object.fields) b.name ≡ c.in_ok-refusal.field-0 =
    sym (field_taken t o ls l h b.name) ∙ ap (λ (x : Bool). refuse_if x (NameTaken b.name)) (sym has) ∙ sym c.in_ok-refusal.ensures in
    if_ok c.parent_taken.result (parent_taken t l.object b c.in-Some-target.target) (name_taken t o s.target b)
    (ap (λ (n : ℕ). parent_taken t n b c.in-Some-target.target) (number_is t o ls l h)
    ∙ ap (λ (x : Option ℕ). in_case x None (parent_taken t o.number b)) (sym c.in-Some-target.is)
    ∙ second_of (taken (map (λ (f : Field). f.name) o.object.fields) b.name) (in_case s.target None (parent_taken t o.number b)) (first ∙ c.in_default.is))
    (c.parent_taken.ensures t (all_layouts t o ls l h))
