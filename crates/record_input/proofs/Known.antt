-- What a text finds for a reference of which the record is told.
use Rattle.std.proofs.Common.{◌≡◌, inl, inr, ℕ, Bool, true, false, if◌then◌else◌, IsTrue, List, [], ◌∷◌, ◌++◌, suc, Option, Some, None, Ok, Err, refl, sym, ap, subst, ◌∙◌}
use Rattle.std.specs.List.{list_all}
use Rattle.std.specs.Option.{option_map}
use Rattle.base_lemmas.proofs.Bools.{and_first as and_left, and_second as and_right}
use Rattle.base_value.specs.Digits.{digits}
use Rattle.base_value.specs.Id.{made}
use Rattle.base_value.specs.Reading.{Read, read_value}
use Rattle.base_value.specs.Types.{is_type}
use Rattle.base_value.specs.declared.value.FieldType.{FieldType}
use Rattle.base_value.specs.declared.value.Value.{Value}
use Rattle.base_value.specs.declared.value.Value.TheVariants as value
use Rattle.model.specs.declared.record.Record.{Record}
use Rattle.model.specs.declared.record_bodies.Assignment.{Assignment}
use Rattle.model.specs.declared.record_bodies.Given.{Given}
use Rattle.model.specs.declared.record_bodies.Given.TheVariants as gives
use Rattle.model.specs.declared.refusal.Refusal.TheVariants as refusal
use Rattle.model.specs.Cases.{in_case}
use Rattle.model.specs.Fields.{Column, Content, custom_columns, is_detail, is_null, of_type, owner_column, owner_columns, writable_columns}
use Rattle.model.specs.Given.{ReadOr, field_at, found_with, no_record, or_refusal, read_found, record_by_value, reference_to}
use Rattle.model.specs.Keys.{Key}
use Rattle.model.specs.Membership.{Has}
use Rattle.model.specs.Tenant.{Field, Object, Tenant}
use Rattle.record_input.specs.declared.found.Found.{Found}
use Rattle.record_input.specs.Given.{FindNone, Finds, IsFound, IsInJson, IsKnown, finds_none, given_columns, is_json}
use Rattle.record_input.specs.inner.Found as inner
use Rattle.record_input.proofs.Searching.{all_pass}

-- ---- the reference

-- an id that no record has
pub none_made : value.Ref (made (48 ∷ 48 ∷ 48 ∷ []) 0) ≡ no_record
unfolding made digits
none_made = refl

to_found : (found : Option Record) → reference_to found ≡ inner.reference_by_id (option_map (λ r. r.id) found)
to_found None = refl
to_found (Some r) = refl

module _ (t : Tenant) (name text : List ℕ) (object field : ℕ) (kind : Content) (x : Found) where
  abbrev KnowsId : Value → Type 0
  KnowsId v = is_null v ≡ false → x.id ≡ option_map (λ r. r.id) (record_by_value t object (suc field) v)

  for_value : (v : Value) → KnowsId v → (if is_null v then value.Null else reference_to (record_by_value t object (suc field) v)) ≡ inner.reference_for x v
  for_value v known = by (is_null v) (record_by_value t object (suc field) v) known
    where
      by : (null : Bool) (found : Option Record) → (null ≡ false → x.id ≡ option_map (λ r. r.id) found)
          → (if null then value.Null else reference_to found) ≡ (if null then value.Null else inner.reference_by_id x.id)
      by true found known = refl
      by false found known = to_found found ∙ ap inner.reference_by_id (sym (known refl))

  for_read : (r : Read) → ((v : Value) → r ≡ Ok v → KnowsId v)
      → found_with t object field (or_refusal name kind text r) ≡ inner.found_or_refusal x (or_refusal name kind text r)
  for_read (Ok v) known = ap (λ (w : Value). Ok w) (for_value v (known v refl))
  for_read (Err fail) known = refl

-- by the unique field, and by the target
abbrev by_field : Tenant → Column → (field : ℕ) → (text : List ℕ) → ℕ → Option Field → ReadOr
by_field t c field text object f =
    in_case f (Err (refusal.WrongType c.name)) (λ f. found_with t object field (or_refusal c.name (of_type f.kind) text (read_value f.kind text)))

abbrev by_object : Tenant → Column → (field : ℕ) → (text : List ℕ) → Option ℕ → ReadOr
by_object t c field text o = in_case o (Err (refusal.WrongType c.name)) (λ object. by_field t c field text object (field_at t object field))

pub found_is : (t : Tenant) (c : Column) (field : ℕ) (text : List ℕ) (x : Found) → IsFound t c field text x → read_found t c field text ≡ inner.found_by x c.name text
found_is t c field text x is =
    ap (by_object t c field text) is.target ∙ ap (by_field t c field text is.object) is.there
    ∙ for_read t c.name text is.object field (of_type is.unique.kind) x (read_value is.unique.kind text) is.id
    ∙ ap (λ (kind : FieldType). inner.found_or_refusal x (or_refusal c.name (of_type kind) text (read_value kind text))) (sym is.kind)

-- the type is that of the unique field
pub type_is : (t : Tenant) (c : Column) (field : ℕ) (text : List ℕ) (x : Found) → IsFound t c field text x → IsTrue (is_type x.kind.now)
type_is t c field text x is = subst (λ (kind : FieldType). IsTrue (is_type kind)) (sym is.kind) is.types

-- ---- columns

has_behind : {X : Type 0} (xs ys : List X) (x : X) → Has ys x → Has (xs ++ ys) x
has_behind [] ys x has = has
has_behind (y ∷ xs) ys x has = inr (has_behind xs ys x has)

pub owner_there : (o : Object) → is_detail o ≡ false → Has (writable_columns o) owner_column
owner_there o own = rw own (inr (inl refl))

pub custom_there : (o : Object) (c : Column) → Has (custom_columns o) c → Has (writable_columns o) c
custom_there o c has = inr (has_behind (owner_columns o) (custom_columns o) c has)

-- those of the object
pub of_object : (o : Object) (key : Option Key) (c : Column) → Has (writable_columns o) c → Has (given_columns o key) c
of_object o None c has = has
of_object o (Some k) c has = inr has

-- that of the key
pub of_key : (o : Object) (key : Option Key) (k : Key) → key ≡ Some k → Has (given_columns o key) k.column
of_key o None k is = absurd cc
of_key o (Some j) k is = inl (same is)
  where
    same : ◌≡◌ {A = Option Key} (Some j) (Some k) → k.column ≡ j.column
    same is = cc

-- ---- where nothing finds a record

known_so : (t : Tenant) (found : List Found) (c : Column) (g : Given) → IsTrue (finds_none g) → IsKnown t found c g
known_so t found c (gives.Read v) none = tt
known_so t found c (gives.Json j) none = tt
known_so t found c (gives.Find field text) none = absurd cc

pub none_found : (t : Tenant) (o : Object) (key : Option Key) (found : List Found) (body : List Assignment) → FindNone body → Finds t o key found body
none_found t o key found body none c has x member same = known_so t found c x.given (all_pass (λ y. finds_none y.given) body x none member)

one_json : (g : Given) → IsTrue (is_json g) → IsTrue (finds_none g)
one_json (gives.Json j) json = refl
one_json (gives.Read v) json = refl
one_json (gives.Find field text) json = absurd cc

-- as in JSON
pub none_in_json : (body : List Assignment) → IsInJson body → FindNone body
none_in_json [] json = refl
none_in_json (x ∷ body) json =
    let rest = list_all (λ (y : Assignment). is_json y.given) body in
    rw (one_json x.given (and_left (is_json x.given) rest json)) (none_in_json body (and_right (is_json x.given) rest json))
