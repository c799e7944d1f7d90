-- A deletion as changes of rows: those that count the records, those of their manual shares, and those of the records that go and of
-- the records that lose a lookup.
use Rattle.std.specs.Prelude.{◌≡◌, ◌-◌, ◌==◌, ℕ, ℤ, if◌then◌else◌, List, [], ◌∷◌, ◌++◌, length, map, filter, None}
use Rattle.std.specs.List.{flat_map}
use Rattle.record_cascade.specs.Deletion.{cleared_ids, gone_ids}
use Rattle.store_edit.specs.Rows.{change_to}
use Rattle.store_rows.specs.Keys.{Share}
use Rattle.store_rows.specs.Rows.{object_form, org_form}
use Rattle.model.specs.Deletes.{without}
use Rattle.model.specs.Objects.{Numbered, numbered, object_number, records_of}
use Rattle.model.specs.Paths.{Asked}
use Rattle.model.specs.Shares.{shares_of}
use Rattle.model.specs.Tenant.{Tenant}
use Rattle.model.specs.declared.record.Record.{Record}
use Rattle.access_traits.specs.Rights.{Whose}
use Rattle.model_invariant.specs.Fit.{IsCaller}
use Rattle.store_abstraction.specs.Changes.{Change}
use Rattle.store_abstraction.specs.Metadata.{org_of, row_of_object}
use Rattle.store_abstraction.specs.Plan.{OrgPlan}
use Rattle.record_index.specs.diff.Touched.{touched_changes}

-- ---- who deletes

-- the rights are those of who asks, at this moment of the calendar
pub record IsDeleting (whose : Whose) (moment : ℤ) (a : Asked) : Type 0 where
  pub rights : whose a.tenant a.user
  pub caller : IsCaller a
  pub now : a.now ≡ moment

-- ---- the rows

-- how many of these are ids of records of the object with this number
abbrev pub count_among : (object : ℕ) → (ids : List (List ℕ)) → ℕ
count_among n ids = length (filter (λ i. object_number i == n) ids)

-- the row of an object that counts the records with these ids no more, if there are any
abbrev pub object_less : (org : ℕ) → Tenant → (ids : List (List ℕ)) → Numbered → List Change
object_less org t ids o =
    if count_among o.number ids == 0 then []
    else change_to object_form (record (row_of_object org t o.number o.object) {
      records = length (records_of t o.number) - count_among o.number ids;
    }) ∷ []

-- the rows that count records, once those with these ids are counted no more
abbrev pub counts_less : (org : ℕ) → Tenant → (ids : List (List ℕ)) → List Change
counts_less org t ids =
    change_to org_form (record (org_of org t) { records = length t.records - length ids })
    ∷ flat_map (object_less org t ids) (numbered t.objects)

-- the rows of the manual shares of records with these ids, which end
abbrev pub shares_ended : (org : ℕ) → Tenant → (ids : List (List ℕ)) → List Change
shares_ended org t ids = flat_map (λ i. map (λ s. (Share org s.item s.to, None)) (shares_of i t.shares)) ids

-- all rows that differ
abbrev pub deleted_changes : (org : ℕ) → OrgPlan → (now : ℤ) → Tenant → (gone : List Record) → List Change
deleted_changes org q now t gone =
    (counts_less org t (gone_ids t gone) ++ shares_ended org t (gone_ids t gone))
    ++ touched_changes org q q t (without now gone t) (gone_ids t gone ++ cleared_ids t gone)

-- how the rows are kept then: as before
abbrev pub PlansKept : OrgPlan → Tenant → OrgPlan → Type 0
PlansKept q t next = next ≡ q
