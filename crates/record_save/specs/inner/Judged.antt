-- A create, judged: by other records and rules, and by limits.
use Rattle.std.specs.Prelude.{◌≡◌, ◌≢◌, ℕ, ◌+◌, List, [], ◌∷◌, ◌++◌, Option, None, Some, Result, Ok, Err, IsTrue}
use Rattle.std.specs.List.{AllByRecursion}
use Rattle.record_read.specs.Decoding.{kinds_in}
use Rattle.store_edit.specs.Edits.{FailsBy}
use Rattle.store_edit.specs.Rows.{change_to}
use Rattle.store_rows.specs.declared.fail.StoreFail.TheVariants.{Damaged}
use Rattle.store_rows.specs.declared.object.ObjectRow.{ObjectRow}
use Rattle.store_rows.specs.declared.org.OrgRow.{OrgRow}
use Rattle.store_rows.specs.Keys.{FitsKey}
use Rattle.store_rows.specs.Rows.{object_form, org_form}
use Rattle.model.specs.Creates.{create_on, create_rules, empty_record}
use Rattle.model.specs.declared.limit.Limit.TheVariants as limit
use Rattle.model.specs.declared.record.Record.{Record}
use Rattle.model.specs.declared.record_bodies.Assignment.{Assignment}
use Rattle.model.specs.Edits.{bad_target, duplicate}
use Rattle.model.specs.Keys.{Key, with_key}
use Rattle.model.specs.Objects.{Numbered}
use Rattle.model.specs.Paths.{Asked}
use Rattle.model.specs.Rules.{Rule, first_refusal, over_limit}
use Rattle.model.specs.SoundRecords.{all_valid}
use Rattle.record_index.specs.Made.{made_changes}
use Rattle.schema_rules.specs.Failing.{rule_failed}
use Rattle.schema_rules.specs.Objects.{numbered_in}
use Rattle.store_abstraction.specs.Changes.{Change}
use Rattle.store_abstraction.specs.declared.fail.EditFail.{EditFail}
use Rattle.store_abstraction.specs.declared.fail.EditFail.TheVariants.{Refused, Store}
use Rattle.store_abstraction.specs.declared.layout.Layout.{Layout}
use Rattle.record_save.specs.Creating.{new_record}
use Rattle.record_save.specs.declared.creating.Accepted.{Accepted}
use Rattle.record_save.specs.declared.object.Counts.{Counts}
use Rattle.record_save.specs.inner.Levels.{below_master}
use Rattle.record_save.specs.inner.Object.{CountsOf, FitsCounts, HasRoom, object_with, row_with}

-- ---- rules

-- the object's own, told what the record was unless it is new, and that on unique values
abbrev pub own_rules : Layout → (old : Option Record) → (new : Record) → Asked → List Rule
own_rules l old new a = rule_failed a l.object new old a.tenant ∷ duplicate a (numbered_in l) new ∷ []

-- the same of a new record behind that on its master
abbrev pub master_rules : Layout → (new : Record) → Asked → List Rule
master_rules l new a = below_master l new a.tenant a.user ∷ own_rules l None new a

-- the same behind that on what the record refers to
abbrev pub others_rules : Layout → (old new : Record) → Asked → List Rule
others_rules l old new a = bad_target a (numbered_in l) old new ∷ master_rules l new a

-- the limits of what is counted
abbrev pub limit_rule : OrgRow → ObjectRow → Rule
limit_rule row object =
    over_limit
    ((limit.RecordsPerObject, object.records + 1) ∷ (limit.Records, row.records + 1) ∷ (limit.Ids, row.counter + 1) ∷ [])

-- neither others nor rules nor limits refuse the new record, or the refusal of the first that does
abbrev pub admit_rules : Asked → Layout → Counts → (new : Record) → List Rule
admit_rules a l x new = others_rules l (empty_record a (numbered_in l)) new a ++ limit_rule x.row x.object ∷ []

abbrev pub Admits : Asked → Layout → Counts → (new : Record) → Result (Unit {0}) EditFail → Type 0
Admits a l x new (Ok done) = None ≡ first_refusal (admit_rules a l x new)
Admits a l x new (Err (Refused r)) = Some r ≡ first_refusal (admit_rules a l x new)
Admits a l x new (Err (Store e)) = e ≢ Damaged

-- ---- what judging finds

-- the record that a create makes, which no rule refuses
pub record IsAccepted (org : ℕ) (a : Asked) (o : Numbered) (key : Option Key) (given : List Assignment) (x : Accepted) : Type 0 where
  pub counts : CountsOf org a.tenant o x.counts
  pub new : x.new ≡ new_record a o (with_key key given)
  pub free : None ≡ first_refusal (create_rules a o key given x.new)

-- the same, or why there is none
abbrev pub Accepts : (org : ℕ) → Asked → Numbered → Option Key → List Assignment → Result Accepted EditFail → Type 0
Accepts org a o key given (Ok x) = IsAccepted org a o key given x
Accepts org a o key given (Err e) = FailsBy (create_on a o key given) e

-- what its rows are made of fits
pub record FitsRows (l : Layout) (x : Accepted) : Type 0 where
  pub counts : FitsCounts l.org x.counts
  pub room : HasRoom x.counts
  pub values : IsTrue (all_valid (kinds_in l.fields) x.new.values)

-- ---- changes

abbrev pub changes_of : Layout → Accepted → List Change
changes_of l x =
    change_to org_form (row_with x.counts.row) ∷ change_to object_form (object_with x.counts.object) ∷ made_changes l x.new

-- their keys have spellings
abbrev pub HaveKeys : List Change → Type 0
HaveKeys changes = AllByRecursion (λ c. FitsKey c.0) changes
