use Rattle.std.proofs.Common.{◌≡◌, ℕ, List, Option, Result, refl, sym, subst}
use Rattle.model.specs.Edits.{given_owner, given_to}
use Rattle.model.specs.Fields.{column, its_owner, of_type, owner_column, owner_columns}
use Rattle.base_value.specs.declared.value.FieldType.TheVariants as type
use Rattle.base_value.specs.declared.value.OnDelete.TheVariants.{Clear}
use Rattle.schema_rules.specs.Objects.{object_of_layout}
use Rattle.record_input.specs.declared.unread.Unread.{Unread}
use Rattle.record_input.specs.Given.{FindsFor, all_given, key_of}
use Rattle.record_input.specs.inner.Read.{ValueOrRefusal, ReadsGiven, refused_among}
use Rattle.record_input.proofs.Names.{owner_text}
use Rattle.record_input.proofs.Known.{of_object, owner_there}
use Rattle.record_input.proofs.Owners.{detail_owner, finds_alike, own_owner}
use Rattle.record_input.proofs.given.owner_given.Goals as goal

pub returns-then-is_detail : goal.returns-then-is_detail
returns-then-is_detail c t finds = detail_owner t (object_of_layout c.args.layout.now) (all_given c.args.given.now) (sym c.if-is_detail.ensures)

pub returns-else-is_detail : goal.returns-else-is_detail
returns-else-is_detail c t finds =
    let o = object_of_layout c.args.layout.now in
    let x = c.args.given.now in
    let given = all_given x in
    let own = sym c.if-is_detail.ensures in
    let owners = finds owner_column (of_object o (key_of x) owner_column (owner_there o own)) in
    let lookups = subst (λ (name : List ℕ). FindsFor t x.found.now x.body.now (column name (of_type (type.Lookup 0 Clear)) its_owner)) (sym owner_text) (finds_alike t x.found.now x.body.now owners) in
    let read = subst (λ (name : List ℕ). ReadsGiven (given_to t given (column name (of_type (type.Lookup 0 Clear)) its_owner)) c.value_to.result) owner_text (c.value_to.ensures refl t its_owner lookups) in
    subst (λ (r : Result (Option (List ℕ)) Unread). ValueOrRefusal (refused_among t given (owner_columns o)) (λ owner. owner ≡ given_owner t o given) r) (sym c.owner_in.ensures)
    (own_owner t o x.found.now (key_of x) x.body.now owners own c.value_to.result read)
