-- An owner's id is read as that of a lookup is.
use Rattle.std.proofs.Common.{◌≡◌, ◌⊎◌, inl, inr, ℕ, Bool, true, false, IsTrue, List, [], ◌∷◌, Option, Some, None, Result, Ok, Err, refl, sym, ap, subst, ◌∙◌}
use Rattle.std.specs.Prelude.{codes}
use Rattle.std.specs.List.{find}
use Rattle.std.specs.Option.{option_map}
use Rattle.std.proofs.lemmas.Option.{none-some as no_target}
use Rattle.base_json.specs.declared.tree.Json.{Json}
use Rattle.base_json.specs.declared.tree.Json.TheVariants as json
use Rattle.base_value.specs.Id.{id_in}
use Rattle.base_value.specs.Reading.{Read, as_id, as_value}
use Rattle.base_value.specs.declared.fail.ValueFail.{ValueFail}
use Rattle.base_value.specs.declared.fail.ValueFail.TheVariants as fail
use Rattle.base_value.specs.declared.value.FieldType.{FieldType}
use Rattle.base_value.specs.declared.value.FieldType.TheVariants as type
use Rattle.base_value.specs.declared.value.OnDelete.TheVariants.{Clear}
use Rattle.base_value.specs.declared.value.Value.{Value}
use Rattle.base_value.specs.declared.value.Value.TheVariants as value
use Rattle.model.specs.declared.record_bodies.Assignment.{Assignment}
use Rattle.model.specs.declared.record_bodies.Given.{Given}
use Rattle.model.specs.declared.record_bodies.Given.TheVariants as gives
use Rattle.model.specs.declared.refusal.Refusal.{Refusal}
use Rattle.model.specs.Edits.{given_owner, given_to, value_or}
use Rattle.model.specs.Fields.{Column, column, is_detail, its_owner, of_ids, of_type, owner_column, owner_columns, ref_of, same_name}
use Rattle.model.specs.Given.{ReadOr, json_text, or_refusal, read_given, read_json, value_refusal}
use Rattle.model.specs.Keys.{Key, with_key}
use Rattle.model.specs.Membership.{Has}
use Rattle.model.specs.Rules.{first_refusal}
use Rattle.model.specs.Tenant.{Object, Tenant}
use Rattle.record_input.specs.declared.unread.Unread.{Unread}
use Rattle.record_input.specs.declared.unread.Unread.TheVariants.{Refused, Memory}
use Rattle.record_input.specs.declared.found.Found.{Found}
use Rattle.record_input.specs.Given.{FindsFor, IsKnown}
use Rattle.record_input.specs.inner.Read.{ValueOrRefusal, ReadsGiven, owner_in, refused, refused_among}
use Rattle.record_input.proofs.Searching.{found_has}
use Rattle.record_input.proofs.Keys.{by_body_or_key}

abbrev lookup : FieldType
lookup = type.Lookup 0 Clear

abbrev pub owner_as_lookup : Column
owner_as_lookup = column (codes "OwnerId") (of_type lookup) its_owner

refusal_alike : (name text : List ℕ) (why : ValueFail) → value_refusal name of_ids text why ≡ value_refusal name (of_type lookup) text why
refusal_alike name text fail.WrongType = refl
refusal_alike name text fail.TooLong = refl
refusal_alike name text fail.OutOfRange = refl
refusal_alike name text fail.NotListed = refl
refusal_alike name text fail.NotAnId = refl
refusal_alike name text fail.Memory = refl

or_alike : (name text : List ℕ) (r : Read) → or_refusal name of_ids text r ≡ or_refusal name (of_type lookup) text r
or_alike name text (Ok v) = refl
or_alike name text (Err why) = ap (λ (r : Refusal). Err r) (refusal_alike name text why)

json_alike : (name : List ℕ) (j : Json) → or_refusal name of_ids (json_text j) (read_json of_ids j) ≡ or_refusal name (of_type lookup) (json_text j) (read_json (of_type lookup) j)
json_alike name (json.Text []) = refl
json_alike name (json.Text (c ∷ cs)) = or_alike name (c ∷ cs) (as_value (λ id. value.Ref id) (as_id (id_in (c ∷ cs))))
json_alike name json.Null = refl
json_alike name (json.Number n) = refl
json_alike name (json.Bool b) = refl
json_alike name _ = refl

read_alike : (t : Tenant) (found : List Found) (g : Given) → IsKnown t found owner_column g → read_given t owner_column g ≡ read_given t owner_as_lookup g
read_alike t found (gives.Read v) known = refl
read_alike t found (gives.Json j) known = json_alike owner_column.name j
read_alike t found (gives.Find field text) known = absurd (no_target known.2.object known.2.target)

known_alike : (t : Tenant) (found : List Found) (g : Given) → IsKnown t found owner_column g → IsKnown t found owner_as_lookup g
known_alike t found (gives.Read v) known = tt
known_alike t found (gives.Json j) known = tt
known_alike t found (gives.Find field text) known = absurd (no_target known.2.object known.2.target)

pub finds_alike : (t : Tenant) (found : List Found) (body : List Assignment) → FindsFor t found body owner_column → FindsFor t found body owner_as_lookup
finds_alike t found body finds x has same = known_alike t found x.given (finds x has same)

abbrev is_owner : Assignment → Bool
is_owner x = same_name x.field owner_column.name

given_alike : (t : Tenant) (found : List Found) (key : Option Key) (body : List Assignment) → FindsFor t found body owner_column
    → given_to t (with_key key body) owner_column ≡ given_to t (with_key key body) owner_as_lookup
given_alike t found key body finds = by (find is_owner (with_key key body)) refl
  where
    one : (x : Assignment) → (Has body x) ⊎ ((v : Value) × (x.given ≡ gives.Read v)) → IsTrue (is_owner x)
        → read_given t owner_column x.given ≡ read_given t owner_as_lookup x.given
    one x (inl has) same = read_alike t found x.given (finds x has same)
    one x (inr (v, is)) same = ap (read_given t owner_column) is ∙ sym (ap (read_given t owner_as_lookup) is)

    by : (first : Option Assignment) → find is_owner (with_key key body) ≡ first
        → option_map (λ x. read_given t owner_column x.given) first ≡ option_map (λ x. read_given t owner_as_lookup x.given) first
    by None is = refl
    by (Some x) is =
        let there = found_has is_owner (with_key key body) x is in
        ap (λ (r : ReadOr). Some r) (one x (by_body_or_key key body x there.0) there.1)

pub detail_owner : (t : Tenant) (o : Object) (given : List Assignment) → is_detail o ≡ true
    → (refused_among t given (owner_columns o) ≡ None) × (None ≡ given_owner t o given)
detail_owner t o given detail = rw detail (refl, refl)

own_column : (o : Object) → is_detail o ≡ false → owner_columns o ≡ owner_column ∷ []
own_column o own = rw own refl

own_given : (t : Tenant) (o : Object) (given : List Assignment) → is_detail o ≡ false
    → given_owner t o given ≡ ref_of (value_or value.Null (given_to t given owner_column))
own_given t o given own = rw own refl

-- what one column gives
judged_owner : (g : Option ReadOr) (r : Option (Result Value Unread)) → ReadsGiven g r
    → ValueOrRefusal (first_refusal (refused g ∷ [])) (λ owner. owner ≡ ref_of (value_or value.Null g)) (owner_in r)
judged_owner g None none = rw none (refl, refl)
judged_owner g (Some (Ok v)) (read, is, reads) = rw (is ∙ ap (λ (x : ReadOr). Some x) reads) (refl, refl)
judged_owner g (Some (Err (Refused refusal))) (read, is, reads) = rw (is ∙ ap (λ (x : ReadOr). Some x) reads) refl
judged_owner g (Some (Err Memory)) reads = tt

pub own_owner : (t : Tenant) (o : Object) (found : List Found) (key : Option Key) (body : List Assignment) → FindsFor t found body owner_column → is_detail o ≡ false
    → (r : Option (Result Value Unread)) → ReadsGiven (given_to t (with_key key body) owner_as_lookup) r
    → ValueOrRefusal (refused_among t (with_key key body) (owner_columns o)) (λ owner. owner ≡ given_owner t o (with_key key body)) (owner_in r)
own_owner t o found key body finds own r reads =
    let given = with_key key body in
    subst (λ (cs : List Column). ValueOrRefusal (refused_among t given cs) (λ owner. owner ≡ given_owner t o given) (owner_in r)) (sym (own_column o own))
    (subst (λ (x : Option (List ℕ)). ValueOrRefusal (refused_among t given (owner_column ∷ [])) (λ owner. owner ≡ x) (owner_in r)) (sym (own_given t o given own))
    (judged_owner (given_to t given owner_column) r (subst (λ (g : Option ReadOr). ReadsGiven g r) (sym (given_alike t found key body finds)) reads)))
