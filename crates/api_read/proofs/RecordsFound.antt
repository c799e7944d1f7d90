-- The record that a read finds, and what is told of it.
use Rattle.std.proofs.Common.{◌≡◌, ◌∙◌, ℕ, ◌≤◌, Bool, true, false, cond, List, length, Option, Some, None, refl, sym, ap, subst}
use Rattle.std.specs.Prelude.{Result, Ok, Err}
use Rattle.std.specs.Option.{option_and_then}
use Rattle.access_traits.specs.Rights.{FindsFor, Whose, level_there}
use Rattle.base_json.specs.declared.tree.Json.{Json}
use Rattle.base_value.specs.declared.sharing.Level.{Level}
use Rattle.base_value.specs.declared.sharing.Level.TheVariants.{Nothing, Read}
use Rattle.model.specs.Cases.{in_case}
use Rattle.model.specs.Levels.{at_least, level}
use Rattle.model.specs.Objects.{Numbered, record_at}
use Rattle.model.specs.Paths.{Asked, if_readable}
use Rattle.model.specs.Rights.{record_of_object}
use Rattle.model.specs.Sound.{IsSound}
use Rattle.model.specs.Tenant.{Tenant}
use Rattle.model.specs.declared.record.Record.{Record}
use Rattle.model.specs.declared.refusal.Refusal.TheVariants.{NotFound}
use Rattle.model_reads.specs.RecordJson.{record_asked}
use Rattle.model_reads.specs.Told.{Telling, of_readable}
use Rattle.query_json.proofs.Found.{Printable, site_printable}
use Rattle.record_read.proofs.Standing.{Found, found_of}
use Rattle.record_target.proofs.Spelled.{its_layout}
use Rattle.record_target.specs.Kept.{IsKept, Keeps}
use Rattle.record_target.specs.declared.kept.KeptRecord.{KeptRecord}
use Rattle.store_abstraction.specs.Calls.{done, ended, ended_edit}
use Rattle.store_abstraction.specs.Layouts.{IsLayout, layout_of}
use Rattle.store_abstraction.specs.Local.{StandsIn}
use Rattle.store_abstraction.specs.Plan.{OrgPlan}
use Rattle.store_abstraction.specs.declared.fail.EditFail.{EditFail}
use Rattle.store_abstraction.specs.declared.fail.EditFail.TheVariants.{Refused, Store}
use Rattle.store_abstraction.specs.declared.layout.Layout.{Layout}
use Rattle.store_kv.specs.Tables.{Tables}
use Rattle.store_rows.specs.declared.fail.StoreFail.{StoreFail}
use Rattle.store_rows.specs.declared.fail.StoreFail.TheVariants.{Damaged, Keeper, Memory}
use Rattle.api_read.proofs.ColumnsPlaced.{as_many}
use Rattle.api_read.proofs.RecordsShown.{asked_shown}
use Rattle.api_read.specs.Tells.{TellsSo}
use Rattle.api_read.specs.declared.records.finding.Readable.{Readable}
use Rattle.api_read.specs.inner.RecordParts.{FindsReadable, IsFound, IsOf, IsReadable, asked_by, readable_by}

-- ---- the level on it

abbrev as_read : KeptRecord → Level → Readable
as_read k lv = record { kept = k; level = lv }

module _ (a : Asked) (l : Layout) (x : Option Record) (k : KeptRecord) (found : IsFound a.tenant l x (Some k)) where
  level_is : level_there a.tenant a.user l.object k.item.id ≡ level a.tenant a.user k.item
  level_is = ap (λ (r : Option Record). in_case r Nothing (level a.tenant a.user)) found.1

  pub found_by : (whose : Whose) (m : Tables) (q : OrgPlan) → StandsIn l.org q m (Some a.tenant) → whose a.tenant a.user → (read : Result Level StoreFail)
      → FindsFor l.org whose (λ t u. level_there t u l.object k.item.id) m read → FindsReadable a l.object x (readable_by k read)
  found_by whose m q stands hers (Err Damaged) finds = absurd (finds q a.tenant a.user stands hers)
  found_by whose m q stands hers (Err Keeper) finds = λ e. absurd cc
  found_by whose m q stands hers (Err Memory) finds = λ e. absurd cc
  found_by whose m q stands hers (Ok lv) finds = by (at_least Read lv) refl
    where
      has : lv ≡ level a.tenant a.user k.item
      has = finds q a.tenant a.user stands hers ∙ level_is

      read_as : (b : Bool) → at_least Read lv ≡ b → option_and_then (if_readable a) x ≡ cond b (Some k.item) None
      read_as b e =
          ap (λ (y : Option Record). option_and_then (if_readable a) y) found.0
          ∙ ap (λ (c : Bool). cond c (Some k.item) None) (subst (λ (v : Level). at_least Read v ≡ b) has e)

      by : (b : Bool) → at_least Read lv ≡ b → FindsReadable a l.object x (cond b (Ok (as_read k lv)) (Err (Refused NotFound)))
      by true e = record { is = read_as true e; there = found.1; level = has }
      by false e = (read_as false e, refl)

-- where there is none
pub found_none : (a : Asked) (n : ℕ) (x : Option Record) → x ≡ None → FindsReadable a n x (Err (Refused NotFound))
found_none a n x e = (ap (λ (y : Option Record). option_and_then (if_readable a) y) e, refl)

-- how it ends is how the level's reading ended
pub readable_ends : (k : KeptRecord) (read : Result Level StoreFail) → ended_edit (readable_by k read) ≡ ended read
readable_ends k (Err e) = refl
readable_ends k (Ok lv) = by (at_least Read lv)
  where
    by : (b : Bool) → ended_edit (cond b (Ok (as_read k lv)) (Err (Refused NotFound))) ≡ done
    by true = refl
    by false = refl

-- ---- what is told

module _ (a : Asked) (n : ℕ) (x : Option Record) (tell : Record → Telling) where
  -- why it isn't found is why nothing is told
  pub none_told : (e : EditFail) → FindsReadable a n x (Err e) → TellsSo (of_readable a x tell) (Err e)
  none_told (Refused r) h = ap (λ (y : Option Record). in_case y (Err NotFound) tell) h.0 ∙ ap Err (sym h.1)
  none_told (Store e) h = h

  one_told : (y : Readable) → IsReadable a n x y → of_readable a x tell ≡ tell y.kept.item
  one_told y is = ap (λ (z : Option Record). in_case z (Err NotFound) tell) is.is

-- so few fields as the layout has
pub few_fields : (q : OrgPlan) (t : Tenant) (o : Numbered) (l : Layout) → IsOf q t o l → length l.fields ≤ 40 → length o.object.fields ≤ 40
few_fields q t o l of few = subst (λ (n : ℕ). n ≤ 40) (ap (λ (k : Layout). length k.fields) of.laid ∙ as_many q o.number 0 o.object.fields) few

-- of the record that was found
pub record_told_so : (q : OrgPlan) (a : Asked) (o : Numbered) (l : Layout) (x : Option Record) (y : Readable) (pairs : List ℕ) (out : Result Json EditFail) → IsSound a.tenant → Printable
    → IsOf q a.tenant o l → length l.fields ≤ 40 → IsReadable a l.object x y → TellsSo (asked_by l pairs y) out → TellsSo (of_readable a x (record_asked a o.object pairs)) out
record_told_so q a o l x y pairs out sound printable of few is told =
    let it : Found a.tenant l.object y.kept.item.id y.kept.item = found_of a.tenant l.object y.kept.item.id y.kept.item (record_at a.tenant y.kept.item.id) refl is.there in
    subst (λ (telling : Telling). TellsSo telling out)
    (ap (λ (k : Layout). asked_by k pairs y) of.laid
    ∙ asked_shown l.org q a o (few_fields q a.tenant o l of few) pairs y (site_printable a.tenant y.kept.item sound it.has printable) is.level
    ∙ sym (one_told a l.object x (record_asked a o.object pairs) y is))
    told

-- ---- by its id

pub laid_so : (q : OrgPlan) (t : Tenant) (o : Numbered) (l : Layout) → IsOf q t o l → IsLayout q t l
laid_so q t o l of = subst (IsLayout q t) (sym of.laid) (its_layout l.org q t o of.there)

-- the object's record with an id, as it is kept
pub kept_found : (q : OrgPlan) (t : Tenant) (o : Numbered) (l : Layout) (id : List ℕ) (found : Option KeptRecord) → IsOf q t o l → Keeps q t l id (Ok found) → IsFound t l (record_of_object t o.number id) found
kept_found q t o l id None of h = ap (λ (n : ℕ). record_of_object t n id) (sym (ap (λ (k : Layout). k.object) of.laid)) ∙ h
kept_found q t o l id (Some k) of h =
    let it : Found t l.object id k.item = found_of t l.object id k.item (record_at t id) refl h.is in (
      ap (λ (n : ℕ). record_of_object t n id) (sym (ap (λ (k : Layout). k.object) of.laid)) ∙ h.is,
      ap (record_of_object t l.object) it.same ∙ h.is,
    )
