-- A new record as changes of rows: those of the organisation and of its object, which count it, and those of its own.
use Rattle.std.specs.Prelude.{◌≡◌, ℕ, true, List, [], ◌∷◌, ◌++◌, Option, None, Some, Result, ℤ}
use Rattle.store_edit.specs.Edits.{ChangesIn, DecidesTo}
use Rattle.store_edit.specs.Rows.{change_to}
use Rattle.store_edit.specs.declared.decided.Decided.{Decided}
use Rattle.record_input.specs.Given.{Finds, FindsAll, all_given, key_of}
use Rattle.record_input.specs.declared.found.Found.{Found}
use Rattle.record_input.specs.declared.key.AllGiven.{AllGiven}
use Rattle.store_kv.specs.Tables.{Tables}
use Rattle.store_rows.specs.Rows.{object_form, org_form}
use Rattle.model.specs.Cases.{in_case}
use Rattle.model.specs.Creates.{create_on, empty_record, with_record}
use Rattle.model.specs.Edits.{with_given}
use Rattle.model.specs.declared.record_bodies.Assignment.{Assignment}
use Rattle.model.specs.Keys.{Key}
use Rattle.model.specs.Objects.{Numbered, object_named, object_numbered}
use Rattle.model.specs.Paths.{Asked}
use Rattle.model.specs.Sound.{IsSound}
use Rattle.model.specs.Tenant.{Object, Tenant}
use Rattle.model.specs.Verdict.{Done, made_new, upserted}
use Rattle.model.specs.declared.record.Record.{Record}
use Rattle.access_traits.specs.Rights.{Whose}
use Rattle.model_invariant.specs.Fit.{IsCaller, OfObjects, ReadsWell}
use Rattle.store_abstraction.specs.Changes.{Change}
use Rattle.store_abstraction.specs.Layouts.{layout_of}
use Rattle.store_abstraction.specs.Local.{StandsIn}
use Rattle.store_abstraction.specs.Metadata.{org_of, row_of_object}
use Rattle.store_abstraction.specs.Plan.{OrgPlan}
use Rattle.store_abstraction.specs.declared.fail.EditFail.{EditFail}
use Rattle.store_abstraction.specs.declared.layout.Layout.{Layout}
use Rattle.record_index.specs.diff.Touched.{fresh_plan, touched_changes}

-- ---- who gives values to a record

-- who asks is the user with this id whose rights these are, at this moment
pub record IsAsker (whose : Whose) (id : List ℕ) (moment : ℤ) (a : Asked) : Type 0 where
  pub rights : whose a.tenant a.user
  pub user : a.user.id ≡ id
  pub now : a.now ≡ moment

-- the same, a user of the organisation at a moment of the calendar, and what is given reads so in each object
pub record IsGiving (whose : Whose) (id : List ℕ) (moment : ℤ) (well : Asked → Object → Type 0) (a : Asked) : Type 0 where
  pub asker : IsAsker whose id moment a
  pub caller : IsCaller a
  pub reads : OfObjects a (well a)

-- what is given reads well in an object, and if it is the one with this name, what finds a record finds one that is told
pub record ReadsFound (name : List ℕ) (found : List Found) (given : List Assignment) (a : Asked) (o : Object) : Type 0 where
  pub reads : ReadsWell a o given
  pub finds : (x : Numbered) → object_named a.tenant name ≡ Some x → x.object ≡ o → Finds a.tenant o None found given

-- ---- the object

-- it is the object with this layout, in an organisation
pub record IsObject (org : ℕ) (q : OrgPlan) (t : Tenant) (o : Numbered) (l : Layout) : Type 0 where
  pub there : object_numbered t o.number ≡ Some o.object
  pub layout : l ≡ layout_of org q t o

-- ---- the record

-- the record that a create makes
abbrev pub new_record : Asked → Numbered → List Assignment → Record
new_record a o given = with_given a o.object given (empty_record a o)

-- ---- its rows

-- the rows of the organisation and of the object, once the record is counted
abbrev pub counts_with : (org : ℕ) → Tenant → Numbered → Record → List Change
counts_with org t o r =
    change_to org_form (org_of org (with_record r t)) ∷ change_to object_form (row_of_object org (with_record r t) o.number o.object) ∷ []

-- all rows that differ
abbrev pub created_changes : (org : ℕ) → OrgPlan → Tenant → Numbered → Record → List Change
created_changes org q t o r = counts_with org t o r ++ touched_changes org q (fresh_plan r.id q) t (with_record r t) (r.id ∷ [])

-- how the rows are kept then: nothing was left of the new id
abbrev pub PlansNew : OrgPlan → Tenant → OrgPlan → Type 0
PlansNew q t next = (id : List ℕ) × (next ≡ fresh_plan id q)

-- ---- a create, decided

-- the answer to a create, or to an upsert with a key
abbrev pub answered_new : Option Key → (id : List ℕ) → Done
answered_new key id = in_case key (made_new id) (λ k. upserted id true)

-- over these tables, whatever they have, only rows of the organisation are changed; and where these stand for the tenant of who
-- asks, whose rights these are, valid values stay valid with what is given, and what finds a record finds one that is told, it comes
-- to the verdict
pub record DecidesNew (l : Layout) (whose : Whose) (user : List ℕ) (now : ℤ) (given : AllGiven) (m : Tables)
    (result : Result (Decided (List ℕ)) EditFail) : Type 0 where
  pub own : ChangesIn l.org result
  pub decided : (q : OrgPlan) (a : Asked) (o : Numbered) → StandsIn l.org q m (Some a.tenant) → IsObject l.org q a.tenant o l
      → IsAsker whose user now a → ReadsWell a o.object (all_given given) → FindsAll a.tenant o.object given
      → IsSound (create_on a o (key_of given) given.body.now).tenant
      → DecidesTo l.org q a.tenant (create_on a o (key_of given) given.body.now) (answered_new (key_of given)) PlansNew result
