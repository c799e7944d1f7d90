-- What finding what a share names comes to: its record, and its principal. No public contract reaches these words.
-- Source: Salesforce, "Record-Level Security", "Manual Sharing". The order of the rules is this product's own.
use Rattle.std.specs.Prelude.{◌≡◌, ◌≢◌, if◌then◌else◌, List, [], ◌∷◌, IsTrue, codes, ℕ, Option, Some, None, Result, Ok, Err}
use Rattle.access_shares.specs.Shareable.{readable_at}
use Rattle.store_rows.specs.declared.fail.StoreFail.{StoreFail}
use Rattle.store_rows.specs.declared.fail.StoreFail.TheVariants.{Damaged}
use Rattle.model.specs.declared.record.Record.{Record}
use Rattle.model.specs.declared.refusal.Refusal.TheVariants.{NotFound}
use Rattle.model.specs.Levels.{at_least, level}
use Rattle.model.specs.Objects.{record_at}
use Rattle.model.specs.Paths.{Asked}
use Rattle.model.specs.Principals.{bad_id, spelled_id}
use Rattle.model.specs.Rules.{MemberRules}
use Rattle.model.specs.declared.sharing_bodies.NewShare.{NewShare}
use Rattle.store_abstraction.specs.declared.fail.EditFail.{EditFail}
use Rattle.store_abstraction.specs.declared.fail.EditFail.TheVariants.{Refused, Store}
use Rattle.base_value.specs.Id.{is_id}
use Rattle.base_value.specs.declared.sharing.Level.{Level}
use Rattle.base_value.specs.declared.sharing.Level.TheVariants.{Read}

-- ---- the body

-- the rules on the ids of a body, each under the name of the member that spells it
abbrev pub member_rules : NewShare → MemberRules
member_rules b = (codes "record", bad_id b.item) ∷ (codes "to", bad_id b.to.text) ∷ []

-- the id that a text spells; where it spells none, as where no record has it
abbrev pub NamesItem : (text : List ℕ) → Result (List ℕ) EditFail → Type 0
NamesItem text (Ok id) = (id ≡ spelled_id text) × IsTrue (is_id id)
NamesItem text (Err e) = (e ≡ Refused NotFound) × (spelled_id text ≡ [])

-- ---- the record

-- the level, if the record may be read by it
abbrev pub readable_or_none : Result Level StoreFail → Result Level EditFail
readable_or_none (Ok l) = if at_least Read l then Ok l else Err (Refused NotFound)
readable_or_none (Err e) = Err (Store e)

-- there is a record with this id that the user may read, and this is the user's level on it
pub record IsLevelOn (a : Asked) (id : List ℕ) (l : Level) : Type 0 where
  pub item : Record
  pub there : record_at a.tenant id ≡ Some item
  pub readable : readable_at a id ≡ Some item
  pub is : l ≡ level a.tenant a.user item

-- that level; or there is no such record, or why the work on the tables stopped
abbrev pub FindsLevel : Asked → (id : List ℕ) → Result Level EditFail → Type 0
FindsLevel a id (Ok l) = IsLevelOn a id l
FindsLevel a id (Err (Refused r)) = (readable_at a id ≡ None) × (r ≡ NotFound)
FindsLevel a id (Err (Store e)) = e ≢ Damaged
