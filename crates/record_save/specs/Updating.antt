-- A record with other values as changes of rows: its own, and those of its manual shares, which end where it gets another owner.
use Rattle.std.specs.Prelude.{◌≡◌, ℕ, false, if◌then◌else◌, List, [], ◌∷◌, ◌++◌, map, Option, None, Some, Result, ℤ}
use Rattle.store_edit.specs.Edits.{ChangesIn, DecidesTo}
use Rattle.store_edit.specs.declared.decided.Decided.{Decided}
use Rattle.record_input.specs.Given.{FindsAll, all_given, key_of}
use Rattle.record_input.specs.declared.key.AllGiven.{AllGiven}
use Rattle.store_kv.specs.Tables.{Tables}
use Rattle.store_rows.specs.Keys.{Share}
use Rattle.model.specs.Cases.{in_case}
use Rattle.model.specs.Edits.{same_owner}
use Rattle.model.specs.Keys.{Key}
use Rattle.model.specs.Objects.{Numbered}
use Rattle.model.specs.Paths.{Asked}
use Rattle.model.specs.Shares.{shares_of}
use Rattle.model.specs.Sound.{IsSound}
use Rattle.model.specs.Tenant.{Tenant}
use Rattle.model.specs.Updates.{update_on, with_changed}
use Rattle.model.specs.Verdict.{Done, done, upserted}
use Rattle.model.specs.declared.record.Record.{Record}
use Rattle.record_target.specs.Kept.{IsKept}
use Rattle.record_target.specs.declared.kept.KeptRecord.{KeptRecord}
use Rattle.access_traits.specs.Rights.{Whose}
use Rattle.model_invariant.specs.Fit.{ReadsWell}
use Rattle.store_abstraction.specs.Changes.{Change}
use Rattle.store_abstraction.specs.Local.{StandsIn}
use Rattle.store_abstraction.specs.Plan.{OrgPlan}
use Rattle.store_abstraction.specs.declared.fail.EditFail.{EditFail}
use Rattle.store_abstraction.specs.declared.layout.Layout.{Layout}
use Rattle.record_save.specs.Creating.{IsObject}
use Rattle.record_index.specs.diff.Touched.{touched_changes}

-- the rows of the shares that end
abbrev pub shares_gone : (org : ℕ) → Tenant → (old new : Record) → List Change
shares_gone org t old new = if same_owner old new then [] else map (λ s. (Share org s.item s.to, None)) (shares_of new.id t.shares)

-- all rows that differ
abbrev pub updated_changes : (org : ℕ) → OrgPlan → Tenant → (old new : Record) → List Change
updated_changes org q t old new = shares_gone org t old new ++ touched_changes org q q t (with_changed old new t) (new.id ∷ [])

-- how the rows are kept then: as before
abbrev pub PlansSame : OrgPlan → Tenant → OrgPlan → Type 0
PlansSame q t next = next ≡ q

-- ---- an update, decided

-- the answer to an update, or to an upsert with a key
abbrev pub answered_changed : Option Key → (id : List ℕ) → Done
answered_changed key id = in_case key done (λ k. upserted id false)

-- over these tables, whatever they have, only rows of the organisation are changed; and where these stand for the tenant of who
-- asks, whose rights and record these are, valid values stay valid with what is given, and what finds a record finds one that is told,
-- it comes to the verdict
pub record DecidesChanged (l : Layout) (whose : Whose) (now : ℤ) (given : AllGiven) (kept : KeptRecord) (m : Tables)
    (result : Result (Decided (Unit {0})) EditFail) : Type 0 where
  pub own : ChangesIn l.org result
  pub decided : (q : OrgPlan) (a : Asked) (o : Numbered) (id : List ℕ) → StandsIn l.org q m (Some a.tenant)
      → IsObject l.org q a.tenant o l → IsKept q a.tenant l id kept → whose a.tenant a.user → a.now ≡ now
      → ReadsWell a o.object (all_given given) → FindsAll a.tenant o.object given → IsSound (update_on a o (key_of given) given.body.now kept.item).tenant
      → DecidesTo l.org q a.tenant (update_on a o (key_of given) given.body.now kept.item)
      (λ _. answered_changed (key_of given) kept.item.id) PlansSame result
