use Rattle.std.proofs.Common.{◌≡◌, ◌∙◌, List, None, Some, ap, suc, sym, ℕ}
use Rattle.std.proofs.lemmas.Option.{none-some as none_is, same_Some as some_is}
use Rattle.model.specs.Upserts.{unique_named}
use Rattle.schema_rules.specs.Objects.{field_of_place, object_of_layout}
use Rattle.store_abstraction.specs.declared.layout.FieldPlace.{FieldPlace}
use Rattle.cmd_load_plan.proofs.Planning.{key_found, key_is, no_first}
use Rattle.cmd_load_plan.proofs.heading.first_key.Goals as goal

pub returns-in_default : goal.returns-in_default
returns-in_default c = no_first (object_of_layout c.args.layout.now) c.args.columns.now c.in_default.ensures.value

pub returns-then-is_some : goal.returns-then-is_some
returns-then-is_some c =
    key_found (object_of_layout c.args.layout.now) c.args.columns.now c.in-Some.column.now c.in-Some.ensures.value (sym c.is_some.ensures ∙ c.if-is_some.true)

pub returns-in_default-unique_named : goal.returns-in_default-unique_named
returns-in_default-unique_named c =
    let o = object_of_layout c.args.layout.now in
    key_is o c.args.columns.now c.in-Some.column.now c.in-Some.ensures.value None (sym c.is_some.ensures ∙ c.if-is_some.false)
    (ap (unique_named o) (sym c.as_str.ensures.characters) ∙ c.in_default-unique_named.ensures)

pub returns-in_default-get : goal.returns-in_default-get
returns-in_default-get c =
    let named = c.in-Some-unique_named.ensures in
    absurd (none_is named.0 (c.in_default-get.ensures.value ∙ named.1))

pub returns : goal.returns
returns c =
    let o = object_of_layout c.args.layout.now in
    let named = c.in-Some-unique_named.ensures in
    let same : c.in-Some-get.field.now ≡ named.0 = some_is c.in-Some-get.field.now named.0 (c.in-Some-get.ensures.value ∙ named.1) in
    ap (λ (name : List ℕ). Some name) (c.in_ok-name.ensures ∙ ap (λ (f : FieldPlace). f.name) same)
    ∙ key_is o c.args.columns.now c.in-Some.column.now c.in-Some.ensures.value (Some (suc c.in-Some-unique_named.number, field_of_place named.0))
    (sym c.is_some.ensures ∙ c.if-is_some.false) (ap (unique_named o) (sym c.as_str.ensures.characters) ∙ named.2)
