-- What a row gives reads as values of its fields' types, also where it finds a record.
use Rattle.std.proofs.Common.{◌≡◌, ◌∙◌, ℕ, suc, ◌+◌, Bool, true, false, cond, IsTrue, List, [], ◌∷◌, ◌++◌, map, Option, Some, None, Ok, Err, refl, sym, ap, subst, inl, inr, append-nil}
use Rattle.std.specs.Prelude.{codes, if◌then◌else◌}
use Rattle.std.specs.List.{enumerate_from, find, list_all}
use Rattle.std.specs.Option.{option_map}
use Rattle.std.specs.Str.{all_scalars}
use Rattle.base_lemmas.proofs.Bools.{and_first as and_left, and_second as and_right}
use Rattle.std.proofs.lemmas.Bool.{and_from as both}
use Rattle.cmd_load_plan.specs.Rows.{has_characters}
use Rattle.record_input.proofs.Known.{custom_there}
use Rattle.record_input.proofs.Searching.{all_pass, found_has}
use Rattle.base_json.specs.declared.tree.Json.{Json}
use Rattle.base_json.specs.declared.tree.Json.TheVariants as json
use Rattle.base_json.specs.declared.tree.Num.{Num}
use Rattle.base_json.specs.declared.tree.Num.TheVariants as num
use Rattle.base_value.specs.Id.{is_id}
use Rattle.base_value.specs.Reading.{Read, as_value, read_value}
use Rattle.base_value.specs.Values.{is_number, valid}
use Rattle.base_value.specs.declared.fail.ValueFail.TheVariants.{OutOfRange}
use Rattle.base_value.specs.declared.value.FieldType.{FieldType}
use Rattle.base_value.specs.declared.value.FieldType.TheVariants as type
use Rattle.base_value.specs.declared.value.Value.{Value}
use Rattle.base_value.specs.declared.value.Value.TheVariants as value
use Rattle.model.specs.declared.record.Record.{Record}
use Rattle.model.specs.declared.record_bodies.Assignment.{Assignment}
use Rattle.model.specs.declared.record_bodies.Given.{Given}
use Rattle.model.specs.declared.record_bodies.Given.TheVariants as gives
use Rattle.model.specs.declared.refusal.Refusal.TheVariants as refusal
use Rattle.model.specs.Cases.{in_case}
use Rattle.model.specs.Edits.{bad_value, given_to, refusal_in, value_or}
use Rattle.model.specs.Fields.{Column, Site, column, custom_columns, is_null, name_column, of_type, same_name, value_in, value_site, writable_columns}
use Rattle.model.specs.Given.{ReadOr, field_at, found_with, has_value, json_text, or_refusal, read_found, read_given, read_json, read_json_number, record_by_value, reference_to}
use Rattle.model.specs.Membership.{Has}
use Rattle.model.specs.Objects.{is_of, records_of}
use Rattle.model.specs.Paths.{Asked}
use Rattle.model.specs.Relationships.{target_of}
use Rattle.model.specs.Rules.{Rule, first_of, first_refusal}
use Rattle.model.specs.SoundRecords.{all_valid, kinds_of}
use Rattle.model.specs.Tenant.{Field, Object, Tenant}
use Rattle.model_invariant.specs.Fit.{ReadsWell, ReadsWellByKey}
use Rattle.cmd_load_row.proofs.Lists.{found_in_both, kept_has}

-- what `base_value` says of a value that was read
abbrev pub ReadLaw : Type 0
ReadLaw = (kind : FieldType) (text : List ℕ) (v : Value) → IsTrue (all_scalars text) → read_value kind text ≡ Ok v → IsTrue (valid kind v)

-- the ids of a tenant's records are ids
abbrev pub HasIds : Tenant → Type 0
HasIds t = (r : Record) → Has t.records r → IsTrue (is_id r.id)

-- ---- lists

-- none of these rules refuses
none_of : {X : Type 0} (rule : X → Rule) (xs : List X) → first_of rule xs ≡ None → (x : X) → Has xs x → rule x ≡ None
none_of rule [] none x has = absurd has
none_of {X = X} rule (y ∷ xs) none x has = by (rule y) refl none has (λ fine more. none_of rule xs fine x more)
  where
    by : (r : Rule) → rule y ≡ r → first_refusal (r ∷ map rule xs) ≡ None → Has (y ∷ xs) x → (first_of rule xs ≡ None → Has xs x → rule x ≡ None) → rule x ≡ None
    by None is none (inl e) rest = ap rule e ∙ is
    by None is none (inr has) rest = rest none has
    by (Some why) is none has rest = absurd cc

each_none : {X : Type 0} (rule : X → Rule) (xs : List X) → ((x : X) → rule x ≡ None) → first_of rule xs ≡ None
each_none rule [] none = refl
each_none rule (x ∷ xs) none = ap (λ (r : Rule). first_refusal (r ∷ map rule xs)) (none x) ∙ each_none rule xs none

-- ---- values

abbrev was_read : Value → Read
was_read v = Ok v

read_is : (v w : Value) → was_read v ≡ was_read w → v ≡ w
read_is v w e = cc

abbrev was_given : Value → ReadOr
was_given v = Ok v

given_is : (v w : Value) → was_given v ≡ was_given w → v ≡ w
given_is v w e = cc

-- a reference holds ids, and null
reference_valid : (k : FieldType) (object : ℕ) → target_of k ≡ Some object → (id : List ℕ) → is_id id ≡ true → valid k (value.Ref id) ≡ true
reference_valid (type.Lookup o on_delete) object e id is = is
reference_valid (type.Master o) object e id is = is
reference_valid _ object e id is = absurd cc

null_valid : (k : FieldType) (object : ℕ) → target_of k ≡ Some object → valid k value.Null ≡ true
null_valid (type.Lookup o on_delete) object e = refl
null_valid (type.Master o) object e = refl
null_valid _ object e = absurd cc

module _ (law : ReadLaw) where
  number_valid : (k : FieldType) (n : Num) (v : Value) → read_json_number (of_type k) n ≡ Ok v → valid k v ≡ true
  number_valid (type.Number digits decimals) (num.Exact count) v e = by (is_number digits decimals count) refl e
    where
      by : (b : Bool) → is_number digits decimals count ≡ b → as_value (λ n. value.Num n) (cond b (Ok count) (Err OutOfRange)) ≡ Ok v → valid (type.Number digits decimals) v ≡ true
      by true w e = subst (λ (z : Value). valid (type.Number digits decimals) z ≡ true) (read_is (value.Num count) v e) w
      by false w e = absurd cc
  number_valid (type.Number digits decimals) num.Beyond v e = absurd cc
  number_valid k n v e = absurd cc

  json_valid : (k : FieldType) (j : Json) (v : Value) → all_scalars (json_text j) ≡ true → read_json (of_type k) j ≡ Ok v → valid k v ≡ true
  json_valid k (json.Text text) v h e = law k text v h e
  json_valid k json.Null v h e = law k [] v refl e
  json_valid k (json.Number n) v h e = number_valid k n v e
  json_valid type.Checkbox (json.Bool truth) v h e = subst (λ (z : Value). valid type.Checkbox z ≡ true) (read_is (value.Bool truth) v e) refl
  json_valid k (json.Bool truth) v h e = absurd cc
  json_valid k j v h e = absurd cc

  module _ (t : Tenant) (ids : HasIds t) where
    record_has_id : (object position : ℕ) (v : Value) (r : Record) → record_by_value t object position v ≡ Some r → is_id r.id ≡ true
    unfolding record_by_value
    record_has_id object position v r e = ids r (kept_has (is_of object) t.records r (found_has (has_value position v) (records_of t object) r e).0)

    reference_is_valid : (k : FieldType) (object position : ℕ) → target_of k ≡ Some object → (w v : Value) (b : Bool)
        → was_given (if b then value.Null else reference_to (record_by_value t object position w)) ≡ was_given v → valid k v ≡ true
    reference_is_valid k object position target w v true e = subst (λ (z : Value). valid k z ≡ true) (given_is value.Null v e) (null_valid k object target)
    reference_is_valid k object position target w v false e = by (record_by_value t object position w) refl e
      where
        by : (found : Option Record) → record_by_value t object position w ≡ found → was_given (reference_to found) ≡ was_given v → valid k v ≡ true
        by None is e = subst (λ (z : Value). valid k z ≡ true) (given_is _ v e) (reference_valid k object target _ refl)
        by (Some r) is e = subst (λ (z : Value). valid k z ≡ true) (given_is _ v e) (reference_valid k object target r.id (record_has_id object position w r is))

    module _ (k : FieldType) (name : List ℕ) (at : Site) where
      abbrev its : Column
      its = column name (of_type k) at

      abbrev reads : (text : List ℕ) → Field → ReadOr
      reads text f = or_refusal name (of_type f.kind) text (read_value f.kind text)

      found_valid : (place : ℕ) (text : List ℕ) (v : Value) → read_found t its place text ≡ Ok v → valid k v ≡ true
      found_valid place text v e = by (target_of k) refl e
        where
          of_read : (object : ℕ) → target_of k ≡ Some object → (r : ReadOr) → found_with t object place r ≡ Ok v → valid k v ≡ true
          of_read object target (Ok w) e = reference_is_valid k object (suc place) target w v (is_null w) e
          of_read object target (Err why) e = absurd cc

          of_field : (object : ℕ) → target_of k ≡ Some object → (f : Option Field) → in_case f (Err (refusal.WrongType name)) (λ f. found_with t object place (reads text f)) ≡ Ok v → valid k v ≡ true
          of_field object target None e = absurd cc
          of_field object target (Some f) e = of_read object target (reads text f) e

          by : (target : Option ℕ) → target_of k ≡ target
              → in_case target (Err (refusal.WrongType name)) (λ object. in_case (field_at t object place) (Err (refusal.WrongType name)) (λ f. found_with t object place (reads text f))) ≡ Ok v
              → valid k v ≡ true
          by None is e = absurd cc
          by (Some object) is e = of_field object is (field_at t object place) e

      of_json : (j : Json) (text : List ℕ) (r : Read) (v : Value) → all_scalars (json_text j) ≡ true → read_json (of_type k) j ≡ r → or_refusal name (of_type k) text r ≡ Ok v → valid k v ≡ true
      of_json j text (Ok w) v h is e = json_valid k j v h (is ∙ ap was_read (given_is w v e))
      of_json j text (Err why) v h is e = absurd cc

      given_valid : (x : Given) (v : Value) → has_characters x ≡ true → read_given t its x ≡ Ok v → valid k v ≡ true
      given_valid (gives.Json j) v h e = of_json j (json_text j) (read_json (of_type k) j) v h refl e
      given_valid (gives.Read w) v h e = absurd cc
      given_valid (gives.Find place text) v h e = found_valid place text v e

    -- ---- the values of a record, of what is given and of more behind it

    module _ (given last : List Assignment) (old : Record) (spelled : list_all (λ x. has_characters x.given) given ≡ true) where
      abbrev value_with : List Assignment → Column → Value
      value_with gs c = value_or (value_in c.at old) (given_to t gs c)

      abbrev unrefused : List Assignment → Column → Type 0
      unrefused gs c = in_case (given_to t gs c) None refusal_in ≡ None

      abbrev given_by : Column → Option Assignment → Option ReadOr
      given_by c x = option_map (λ (y : Assignment). read_given t c y.given) x

      one_valid : (k : FieldType) (name : List ℕ) (at : Site) → unrefused (given ++ last) (its k name at) → valid k (value_with last (its k name at)) ≡ true
          → valid k (value_with (given ++ last) (its k name at)) ≡ true
      one_valid k name at fine h =
          by (find (λ x. same_name x.field name) given) refl
        where
          split : find (λ (x : Assignment). same_name x.field name) (given ++ last) ≡ in_case (find (λ (x : Assignment). same_name x.field name) given) (find (λ (x : Assignment). same_name x.field name) last) (λ x. Some x)
          split = found_in_both (λ (x : Assignment). same_name x.field name) given last

          of_read : (x : Assignment) → has_characters x.given ≡ true → (r : ReadOr) → read_given t (its k name at) x.given ≡ r → refusal_in r ≡ None → valid k (value_or (value_in at old) (Some r)) ≡ true
          of_read x h (Ok v) is none = given_valid k name at x.given v h is
          of_read x h (Err why) is none = absurd cc

          by : (found : Option Assignment) → find (λ x. same_name x.field name) given ≡ found → valid k (value_with (given ++ last) (its k name at)) ≡ true
          by None is =
              let all : given_to t (given ++ last) (its k name at) ≡ given_to t last (its k name at) =
              ap (given_by (its k name at)) (split ∙ ap (λ (x : Option Assignment). in_case x (find (λ (x : Assignment). same_name x.field name) last) (λ x. Some x)) is) in
              subst (λ (r : Option ReadOr). valid k (value_or (value_in at old) r) ≡ true) (sym all) h
          by (Some x) is =
              let all : given_to t (given ++ last) (its k name at) ≡ Some (read_given t (its k name at) x.given) =
              ap (given_by (its k name at)) (split ∙ ap (λ (x : Option Assignment). in_case x (find (λ (x : Assignment). same_name x.field name) last) (λ x. Some x)) is) in
              let none : refusal_in (read_given t (its k name at) x.given) ≡ None = sym (ap (λ (r : Option ReadOr). in_case r None refusal_in) all) ∙ fine in
              let its_characters = all_pass (λ x. has_characters x.given) given x spelled (found_has (λ x. same_name x.field name) given x is).0 in
              subst (λ (r : Option ReadOr). valid k (value_or (value_in at old) r) ≡ true) (sym all) (of_read x its_characters (read_given t (its k name at) x.given) refl none)

      abbrev custom : ℕ × Field → Column
      custom f = column f.1.name (of_type f.1.kind) (value_site f.0)

      rest_valid : (i : ℕ) (fs : List Field) → ((c : Column) → Has (map custom (enumerate_from i fs)) c → unrefused (given ++ last) c)
          → all_valid (map (λ (f : Field). f.kind) fs) (map (value_with last) (map custom (enumerate_from i fs))) ≡ true
          → all_valid (map (λ (f : Field). f.kind) fs) (map (value_with (given ++ last)) (map custom (enumerate_from i fs))) ≡ true
      rest_valid i [] fine h = refl
      rest_valid i (f ∷ fs) fine h =
          let first = valid f.kind (value_with last (custom (i, f))) in
          let others = all_valid (map (λ (f : Field). f.kind) fs) (map (value_with last) (map custom (enumerate_from (i + 1) fs))) in
          both (valid f.kind (value_with (given ++ last) (custom (i, f)))) (all_valid (map (λ (f : Field). f.kind) fs) (map (value_with (given ++ last)) (map custom (enumerate_from (i + 1) fs))))
          (one_valid f.kind f.name (value_site i) (fine (custom (i, f)) (inl refl)) (and_left first others h))
          (rest_valid (i + 1) fs (λ c has. fine c (inr has)) (and_right first others h))

      values_valid : (o : Object) → bad_value t o (given ++ last) ≡ None
          → all_valid (kinds_of o) (map (value_with last) (name_column ∷ custom_columns o)) ≡ true
          → all_valid (kinds_of o) (map (value_with (given ++ last)) (name_column ∷ custom_columns o)) ≡ true
      values_valid o fine h =
          let first = valid (type.Text 80) (value_with last name_column) in
          let others = all_valid (map (λ (f : Field). f.kind) o.fields) (map (value_with last) (custom_columns o)) in
          let each = none_of (λ (c : Column). in_case (given_to t (given ++ last) c) None refusal_in) (writable_columns o) fine in
          both (valid (type.Text 80) (value_with (given ++ last) name_column)) (all_valid (map (λ (f : Field). f.kind) o.fields) (map (value_with (given ++ last)) (custom_columns o)))
          (one_valid (type.Text 80) (codes "Name") (value_site 0) (each name_column (inl refl)) (and_left first others h))
          (rest_valid 1 o.fields (λ c has. each c (custom_there o c has)) (and_right first others h))

-- ---- what is given reads well

nothing_refused : (t : Tenant) (o : Object) → bad_value t o [] ≡ None
nothing_refused t o = each_none (λ (c : Column). in_case (given_to t [] c) None refusal_in) (writable_columns o) (λ c. refl)

abbrev read_to : (name : List ℕ) → Value → Assignment
read_to name v = record { field = name; given = gives.Read v }

-- a value that was read isn't
value_unrefused : (t : Tenant) (o : Object) (name : List ℕ) (v : Value) → bad_value t o (read_to name v ∷ []) ≡ None
value_unrefused t o name v = each_none (λ (c : Column). in_case (given_to t (read_to name v ∷ []) c) None refusal_in) (writable_columns o) (λ c. by c (same_name name c.name))
  where
    by : (c : Column) (b : Bool) → in_case (option_map (λ (y : Assignment). read_given t c y.given) (cond b (Some (read_to name v)) None)) None refusal_in ≡ None
    by c true = refl
    by c false = refl

module _ (law : ReadLaw) (a : Asked) (ids : HasIds a.tenant) (given : List Assignment) (spelled : list_all (λ x. has_characters x.given) given ≡ true) where
  reads_behind : (o : Object) (last : List Assignment) → bad_value a.tenant o last ≡ None → ReadsWell a o last → ReadsWell a o (given ++ last)
  reads_behind o last fine base refused old h = values_valid law a.tenant ids given last old spelled o refused (base fine old h)

  pub reads_well : (o : Object) → ReadsWell a o [] → ReadsWell a o given
  reads_well o base = subst (ReadsWell a o) (append-nil given) (reads_behind o [] (nothing_refused a.tenant o) base)

  pub reads_well_by_key : (key : List ℕ) (text : Option (List ℕ)) (o : Object) → ReadsWellByKey a key text o [] → ReadsWellByKey a key text o given
  reads_well_by_key key text o base f v named read = reads_behind o _ (value_unrefused a.tenant o f.1.name v) (base f v named read)
