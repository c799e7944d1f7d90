-- The records that hold one that goes by one field, those that restrict and those that lose a lookup, by the layouts of their
-- objects. No public contract reaches these words.
use Rattle.std.specs.Prelude.{◌≡◌, ◌≢◌, ◌==◌, ℕ, Bool, not, ◌&&◌, if◌then◌else◌, List, [], filter, length, None, Some, Result, Ok, Err}
use Rattle.std.specs.List.{enumerate_from, flat_map}
use Rattle.store_kv.specs.Tables.{Tables}
use Rattle.store_rows.specs.declared.fail.StoreFail.TheVariants.{Damaged}
use Rattle.model.specs.declared.record.Record.{Record}
use Rattle.model.specs.declared.refusal.Refusal.TheVariants.{DeleteFailed}
use Rattle.model.specs.Cases.{in_case}
use Rattle.model.specs.Deletes.{has_id, is_cleared, restricts}
use Rattle.model.specs.Relationships.{target_of}
use Rattle.model.specs.Rules.{Rule, first_of, first_refusal, refuse_if}
use Rattle.model.specs.Tenant.{Tenant}
use Rattle.record_references.specs.Referring.{all_referring}
use Rattle.store_abstraction.specs.declared.fail.EditFail.{EditFail}
use Rattle.store_abstraction.specs.declared.fail.EditFail.TheVariants.{Refused, Store}
use Rattle.store_abstraction.specs.declared.layout.FieldPlace.{FieldPlace}
use Rattle.store_abstraction.specs.declared.layout.Layout.{Layout}
use Rattle.store_abstraction.specs.Layouts.{own_layouts}
use Rattle.store_abstraction.specs.Local.{StandsIn}
use Rattle.store_abstraction.specs.Plan.{OrgPlan}
use Rattle.record_cascade.specs.Deletion.{cleared_ids, deletion_rules}
use Rattle.record_cascade.specs.inner.Masters.{ids_of, is_among}

-- ---- by one field

-- those of these that aren't among what goes
abbrev pub staying : (gone : List (List ℕ)) → List (List ℕ) → List (List ℕ)
staying gone ids = filter (λ id. not (is_among gone id)) ids

-- the ids of an object's records that stay and refer by a field with its number to one that goes
abbrev pub holders : Layout → (number : ℕ) → FieldPlace → (gone : List (List ℕ)) → Tenant → List (List ℕ)
holders l k f gone t =
    in_case (target_of f.kind) [] (λ object. staying gone (flat_map (λ id. all_referring l.object k id t) (ids_of object gone)))

-- ---- the fields that restrict

-- there is any
abbrev pub is_any : List (List ℕ) → Bool
is_any ids = not (length ids == 0)

-- DELETE_FAILED: the field restricts, and a record that stays holds by it one that goes
abbrev pub restricted_at : Layout → (number : ℕ) → FieldPlace → (gone : List (List ℕ)) → Tenant → Rule
restricted_at l k f gone t = refuse_if (restricts f.kind && is_any (holders l k f gone t)) (DeleteFailed l.name f.name)

-- the same of the first of these fields, the first of which has this number; of an object's; and of these objects'
abbrev pub restricted_from : Layout → ℕ → List FieldPlace → (gone : List (List ℕ)) → Tenant → Rule
restricted_from l k fields gone t = first_of (λ (f : ℕ × FieldPlace). restricted_at l f.0 f.1 gone t) (enumerate_from k fields)

abbrev pub restricted_in : (gone : List (List ℕ)) → Tenant → Layout → Rule
restricted_in gone t l = restricted_from l 0 l.fields gone t

abbrev pub restricted_of : List Layout → (gone : List (List ℕ)) → Tenant → Rule
restricted_of layouts gone t = first_of (restricted_in gone t) layouts

-- ---- the lookups that are cleared

-- the ids of the records that lose this lookup
abbrev pub cleared_at : Layout → (number : ℕ) → FieldPlace → (gone : List (List ℕ)) → Tenant → List (List ℕ)
cleared_at l k f gone t = if is_cleared f.kind then holders l k f gone t else []

abbrev pub cleared_from : Layout → ℕ → List FieldPlace → (gone : List (List ℕ)) → Tenant → List (List ℕ)
cleared_from l k fields gone t = flat_map (λ (f : ℕ × FieldPlace). cleared_at l f.0 f.1 gone t) (enumerate_from k fields)

abbrev pub cleared_in : (gone : List (List ℕ)) → Tenant → Layout → List (List ℕ)
cleared_in gone t l = cleared_from l 0 l.fields gone t

abbrev pub cleared_of : List Layout → (gone : List (List ℕ)) → Tenant → List (List ℕ)
cleared_of layouts gone t = flat_map (cleared_in gone t) layouts

-- ---- what is judged

-- these have the ids that go
abbrev pub HaveIds : List Record → (gone : List (List ℕ)) → Type 0
HaveIds rs gone = (id : List ℕ) → has_id rs id ≡ is_among gone id

-- the ids of the records that lose a lookup where no rule refuses that these go, or the refusal of the first that does
abbrev pub Judges : Tenant → List Record → Result (List (List ℕ)) EditFail → Type 0
Judges t rs (Ok cleared) = (None ≡ first_refusal (deletion_rules t rs)) × (cleared ≡ cleared_ids t rs)
Judges t rs (Err (Refused x)) = Some x ≡ first_refusal (deletion_rules t rs)
Judges t rs (Err (Store e)) = e ≢ Damaged

-- the same for each tenant for which the organisation's rows stand and whose layouts these are, and for so many records that have
-- these ids
abbrev pub JudgesBy : (org : ℕ) → List Layout → (count : ℕ) → (gone : List (List ℕ))
    → Tables → Result (List (List ℕ)) EditFail → Type 0
JudgesBy org layouts count gone m result =
    (q : OrgPlan) (t : Tenant) → StandsIn org q m (Some t) → own_layouts org q (Some t) ≡ layouts
    → (rs : List Record) → HaveIds rs gone → length rs ≡ count → Judges t rs result
