-- The object and the record that a request names.
use Rattle.std.specs.Prelude.{◌≡◌, ◌≢◌, ℕ, true, List, Option, None, Some, Result, Ok, Err}
use Rattle.store_edit.specs.Edits.{FailsBy}
use Rattle.store_rows.specs.declared.fail.StoreFail.{StoreFail}
use Rattle.store_rows.specs.declared.fail.StoreFail.TheVariants.{Damaged, Memory}
use Rattle.model.specs.Levels.{can_read}
use Rattle.model.specs.Objects.{Numbered, object_named}
use Rattle.model.specs.Paths.{Asked}
use Rattle.model.specs.Rights.{denied, on_named, record_of_object}
use Rattle.model.specs.Tenant.{Tenant}
use Rattle.model.specs.Verdict.{Verdict, on_object}
use Rattle.model.specs.declared.record.Record.{Record}
use Rattle.model.specs.declared.refusal.Refusal.{Refusal}
use Rattle.model.specs.declared.refusal.Refusal.TheVariants.{MalformedId, NotFound}
use Rattle.record_target.specs.declared.kept.KeptRecord.{KeptRecord}
use Rattle.record_target.specs.declared.named.Named.{Named}
use Rattle.record_target.specs.Kept.{FitsKept, IsKept}
use Rattle.record_target.specs.Usable.{IsReady}
use Rattle.store_abstraction.specs.Layouts.{layout_of}
use Rattle.store_abstraction.specs.Plan.{OrgPlan}
use Rattle.store_abstraction.specs.declared.fail.EditFail.{EditFail}
use Rattle.store_abstraction.specs.declared.fail.EditFail.TheVariants.{Refused, Store}
use Rattle.store_abstraction.specs.declared.layout.Layout.{Layout}
use Rattle.base_value.specs.Id.{id_in}
use Rattle.base_value.specs.declared.sharing.Level.{Level}

-- ---- the record

-- the id that a text spells, or MALFORMED_ID
abbrev pub SpellsId : (text : List ℕ) → Result (List ℕ) EditFail → Type 0
SpellsId text (Ok id) = id_in text ≡ Some id
SpellsId text (Err (Refused r)) = (id_in text ≡ None) × (r ≡ MalformedId text)
SpellsId text (Err (Store e)) = e ≡ Memory

-- the record that was found, or NOT_FOUND
abbrev pub record_or_none : Result (Option KeptRecord) StoreFail → Result KeptRecord EditFail
record_or_none (Ok (Some k)) = Ok k
record_or_none (Ok None) = Err (Refused NotFound)
record_or_none (Err e) = Err (Store e)

-- why a text names no record of the object
abbrev pub NamesNone : Tenant → Layout → (text : List ℕ) → Option (List ℕ) → Refusal → Type 0
NamesNone t l text None r = r ≡ MalformedId text
NamesNone t l text (Some id) r = (record_of_object t l.object id ≡ None) × (r ≡ NotFound)

-- the object's record that a text names, or why there is none
abbrev pub NamesRecord : OrgPlan → Tenant → Layout → (text : List ℕ) → Result KeptRecord EditFail → Type 0
NamesRecord q t l text (Ok k) = (id : List ℕ) × (id_in text ≡ Some id) × IsKept q t l id k
NamesRecord q t l text (Err (Refused r)) = NamesNone t l text (id_in text) r
NamesRecord q t l text (Err (Store e)) = e ≢ Damaged

-- ---- the object and the record

-- these are the object with this name in this tenant and the record that the key names
pub record IsNamed (org : ℕ) (q : OrgPlan) (t : Tenant) (name key : List ℕ) (x : Named) : Type 0 where
  pub numbered : Numbered
  pub there : object_named t name ≡ Some numbered
  pub layout : x.layout ≡ layout_of org q t numbered
  pub id : List ℕ
  pub spelled : id_in key ≡ Some id
  pub kept : IsKept q t x.layout id x.kept

-- the same, or why a request on that record fails, whatever it is and whatever level it needs
abbrev pub FindsNamed : (org : ℕ) → OrgPlan → Asked → (name key : List ℕ) → Result Named EditFail → Type 0
FindsNamed org q a name key (Ok x) = IsNamed org q a.tenant name key x
FindsNamed org q a name key (Err e) =
    (least : Level) (verdict : Numbered → Record → Verdict) → FailsBy (on_object a.tenant name (λ o. on_named a o key least (verdict o))) e

-- ---- what the user may do with it

-- the user may read the record, and has this level on it
pub record IsPermitted (a : Asked) (least : Level) (r : Record) : Type 0 where
  pub readable : can_read a.tenant a.user r ≡ true
  pub allowed : denied a least r ≡ None

-- these are the object and the record, on which the user has this level, or why a request that needs it fails there, whatever it is
abbrev pub FindsPermitted : (org : ℕ) → OrgPlan → Asked → (name key : List ℕ) → (least : Level) → Result Named EditFail → Type 0
FindsPermitted org q a name key least (Ok x) = IsNamed org q a.tenant name key x × IsPermitted a least x.kept.item
FindsPermitted org q a name key least (Err e) =
    (verdict : Numbered → Record → Verdict) → FailsBy (on_object a.tenant name (λ o. on_named a o key least (verdict o))) e

-- ---- whatever the tables have

-- the object is one of the organisation with this number that can be changed, and what the record's rows
-- are made of fits
pub record FitsNamed (org : ℕ) (x : Named) : Type 0 where
  pub ready : IsReady org x.layout
  pub kept : FitsKept x.layout x.kept
