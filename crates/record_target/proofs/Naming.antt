-- The object and the record that a request names, found or not.
use Rattle.std.proofs.Common.{◌≡◌, ◌∙◌, ℕ, Bool, true, false, not, cond, List, [], ◌∷◌, Option, Some, None, refl, sym, ap, subst}
use Rattle.std.specs.Prelude.{IfOk, Result, Ok, Err, IsErrAnd}
use Rattle.std.specs.Option.{option_and_then}
use Rattle.base_lemmas.proofs.Bools.{by_answer as pick}
use Rattle.record_read.proofs.Standing.{Found, found_of}
use Rattle.store_edit.specs.Naming.{NamesLayout}
use Rattle.store_kv.specs.Tables.{Tables}
use Rattle.store_rows.specs.declared.fail.StoreFail.{StoreFail}
use Rattle.store_rows.specs.declared.fail.StoreFail.TheVariants.{Damaged, Keeper, Memory}
use Rattle.model.specs.Cases.{in_case}
use Rattle.model.specs.Levels.{at_least, can_read, level}
use Rattle.model.specs.Objects.{Numbered, is_of, object_named, record_at}
use Rattle.model.specs.Paths.{Asked}
use Rattle.model.specs.Rights.{denied, on_named, on_readable, record_of_object}
use Rattle.model.specs.Rules.{refuse_if}
use Rattle.model.specs.Tenant.{Tenant}
use Rattle.model.specs.Verdict.{Verdict, judged, on_object, refuse}
use Rattle.model.specs.declared.record.Record.{Record}
use Rattle.model.specs.declared.refusal.Refusal.{Refusal}
use Rattle.model.specs.declared.refusal.Refusal.TheVariants.{InsufficientAccess, InvalidType, MalformedId, NotFound}
use Rattle.record_target.specs.declared.kept.KeptRecord.{KeptRecord}
use Rattle.record_target.specs.declared.named.Named.{Named}
use Rattle.record_target.specs.Named.{FindsNamed, FindsPermitted, FitsNamed, IsNamed, IsPermitted, NamesNone, NamesRecord}
use Rattle.record_target.specs.inner.Permitting.{permit}
use Rattle.record_target.proofs.Objects.{IsOn}
use Rattle.access_traits.specs.Rights.{FindsFor, Whose, level_there}
use Rattle.store_abstraction.specs.Calls.{done, ended, ended_edit}
use Rattle.store_abstraction.specs.Local.{StandsIn}
use Rattle.store_abstraction.specs.Plan.{OrgPlan}
use Rattle.store_abstraction.specs.declared.fail.EditFail.{EditFail}
use Rattle.store_abstraction.specs.declared.fail.EditFail.TheVariants.{Refused, Store}
use Rattle.store_abstraction.specs.declared.layout.Layout.{Layout}
use Rattle.base_value.specs.Id.{id_in}
use Rattle.base_value.specs.declared.sharing.Level.{Level}
use Rattle.base_value.specs.declared.sharing.Level.TheVariants.{Nothing, Read}

-- ---- the record of an object

module _ (a : Asked) (o : Numbered) (key : List ℕ) (least : Level) (verdict : Record → Verdict) where
  abbrev on : Option Record → Verdict
  on found = on_readable a found (λ r. judged a.tenant (denied a least r ∷ []) (verdict r))

  abbrev by_id : Option (List ℕ) → Verdict
  by_id id = in_case id (refuse a.tenant (MalformedId key)) (λ id. on (record_of_object a.tenant o.number id))

  -- what it comes to on this record, by whether it may be read and whether the level is enough
  abbrev by_level : Record → (readable allowed : Bool) → Verdict
  by_level r false allowed = refuse a.tenant NotFound
  by_level r true allowed = judged a.tenant (refuse_if (not allowed) InsufficientAccess ∷ []) (verdict r)

  comes_to : (id : List ℕ) (r : Record) → id_in key ≡ Some id → record_of_object a.tenant o.number id ≡ Some r → (readable allowed : Bool)
      → can_read a.tenant a.user r ≡ readable → at_least least (level a.tenant a.user r) ≡ allowed → on_named a o key least verdict ≡ by_level r readable allowed
  comes_to id r is found readable allowed reads has = ap by_id is ∙ ap on found ∙ by readable reads
    where
      by : (b : Bool) → can_read a.tenant a.user r ≡ b
          → in_case (cond (can_read a.tenant a.user r) (Some r) None) (refuse a.tenant NotFound) (λ r. judged a.tenant (denied a least r ∷ []) (verdict r)) ≡ by_level r b allowed
      by true e =
          ap (λ (b : Bool). in_case (cond b (Some r) None) (refuse a.tenant NotFound) (λ r. judged a.tenant (denied a least r ∷ []) (verdict r))) e
          ∙ ap (λ (b : Bool). judged a.tenant (refuse_if (not b) InsufficientAccess ∷ []) (verdict r)) has
      by false e = ap (λ (b : Bool). in_case (cond b (Some r) None) (refuse a.tenant NotFound) (λ r. judged a.tenant (denied a least r ∷ []) (verdict r))) e

  -- there is none
  comes_to_none : (x : Refusal) (l : Layout) → l.object ≡ o.number → NamesNone a.tenant l key (id_in key) x → (on_named a o key least verdict).answer ≡ Err x
  comes_to_none x l same h = by (id_in key) h
    where
      by : (id : Option (List ℕ)) → NamesNone a.tenant l key id x → (by_id id).answer ≡ Err x
      by None h = ap Err (sym h)
      by (Some id) h =
          ap (λ (n : ℕ). (on (record_of_object a.tenant n id)).answer) (sym same)
          ∙ ap (λ (found : Option Record). (on found).answer) h.0 ∙ ap Err (sym h.1)

-- ---- the object with a name, and its record

-- what a request comes to, by the object that is found
abbrev on_found : (a : Asked) (name key : List ℕ) → Level → (Numbered → Record → Verdict) → Option Numbered → Verdict
on_found a name key least verdict found = in_case found (refuse a.tenant (InvalidType name)) (λ o. on_named a o key least (verdict o))

module _ (org : ℕ) (q : OrgPlan) (a : Asked) (name key : List ℕ) where
  -- it is passed on
  pub named_passed : (e : EditFail) (out : Result Named EditFail) → IsErrAnd out (λ y. y ≡ e) → FindsNamed org q a name key (Err e) → FindsNamed org q a name key out
  named_passed e (Ok x) is h = absurd is
  named_passed e (Err y) is h = subst (λ (z : EditFail). FindsNamed org q a name key (Err z)) (sym is) h

  -- there is no such object
  pub unnamed : (r : Result Layout EditFail) (e : EditFail) → NamesLayout org q a.tenant name r → r ≡ Err e → FindsNamed org q a name key (Err e)
  unnamed r e h was = by e (subst (NamesLayout org q a.tenant name) was h)
    where
      by : (e : EditFail) → NamesLayout org q a.tenant name (Err e) → FindsNamed org q a name key (Err e)
      by (Refused x) h = λ least verdict. none least verdict (object_named a.tenant name) h.0 x h.1
        where
          none : (least : Level) (verdict : Numbered → Record → Verdict) (found : Option Numbered) → found ≡ None → (x : Refusal) → x ≡ InvalidType name
              → (in_case found (refuse a.tenant (InvalidType name)) (λ o. on_named a o key least (verdict o))).answer ≡ Err x
          none least verdict found is x e = rw (is, e) refl
      by (Store f) h = λ least verdict. h

  module _ (l : Layout) (at : IsOn org q a.tenant name l) where
    on_it : (least : Level) (verdict : Numbered → Record → Verdict) → on_object a.tenant name (λ o. on_named a o key least (verdict o)) ≡ on_named a at.0 key least (verdict at.0)
    on_it least verdict = ap (on_found a name key least verdict) at.1

    -- there is no such record
    pub unfound : (r : Result KeptRecord EditFail) (e : EditFail) → NamesRecord q a.tenant l key r → r ≡ Err e → FindsNamed org q a name key (Err e)
    unfound r e h was = by e (subst (NamesRecord q a.tenant l key) was h)
      where
        by : (e : EditFail) → NamesRecord q a.tenant l key (Err e) → FindsNamed org q a name key (Err e)
        by (Refused x) h = λ least verdict. ap (λ (v : Verdict). v.answer) (on_it least verdict) ∙ comes_to_none a at.0 key least (verdict at.0) x l (ap (λ (k : Layout). k.object) at.2) h
        by (Store f) h = λ least verdict. h

    pub named_is : (r : Result KeptRecord EditFail) (k : KeptRecord) → NamesRecord q a.tenant l key r → r ≡ Ok k → IsNamed org q a.tenant name key (record { layout = l; kept = k })
    named_is r k h was =
        let found = subst (NamesRecord q a.tenant l key) was h in
        record { numbered = at.0; there = at.1; layout = at.2; id = found.0; spelled = found.1; kept = found.2 }

at_found : (n : ℕ) (x : Option Record) (r : Record) → option_and_then (λ (y : Record). cond (is_of n y) (Some y) None) x ≡ Some r → x ≡ Some r
at_found n None r e = absurd cc
at_found n (Some s) r e = pick (is_of n s) (λ b. cond b (Some s) None ≡ Some r → ◌≡◌ {A = Option Record} (Some s) (Some r)) (λ _ h. h) (λ _ h. absurd cc) e

-- a level that isn't refused is enough
is_allowed : (b : Bool) → refuse_if (not b) InsufficientAccess ≡ None → b ≡ true
is_allowed true e = refl
is_allowed false e = absurd cc

-- what is named, once it is found
module _ (org : ℕ) (q : OrgPlan) (a : Asked) (name key : List ℕ) (x : Named) (is : IsNamed org q a.tenant name key x) where
  named_of : record_of_object a.tenant is.numbered.number is.id ≡ Some x.kept.item
  named_of = ap (λ (l : Layout). record_of_object a.tenant l.object is.id) (sym is.layout) ∙ is.kept.is

  -- it has that id, is one of the tenant's, and is of the object
  pub named_found : Found a.tenant is.numbered.number is.id x.kept.item
  named_found = found_of a.tenant is.numbered.number is.id x.kept.item (record_at a.tenant is.id) refl named_of

  -- the record is the one that its id names
  pub named_there : record_at a.tenant x.kept.item.id ≡ Some x.kept.item
  named_there = ap (record_at a.tenant) named_found.same ∙ at_found is.numbered.number (record_at a.tenant is.id) x.kept.item named_of

  -- what a request on it comes to, by whether it may be read and whether the level is enough
  comes_to_named : (least : Level) (verdict : Numbered → Record → Verdict) (readable allowed : Bool) → can_read a.tenant a.user x.kept.item ≡ readable → at_least least (level a.tenant a.user x.kept.item) ≡ allowed
      → on_object a.tenant name (λ o. on_named a o key least (verdict o)) ≡ by_level a is.numbered key least (verdict is.numbered) x.kept.item readable allowed
  comes_to_named least verdict readable allowed reads has =
      ap (on_found a name key least verdict) is.there ∙ comes_to a is.numbered key least (verdict is.numbered) is.id x.kept.item is.spelled named_of readable allowed reads has

  -- a request comes to its verdict, where the user has the level that it needs
  pub named_verdict : (least : Level) → IsPermitted a least x.kept.item → (verdict : Numbered → Record → Verdict)
      → on_object a.tenant name (λ o. on_named a o key least (verdict o)) ≡ verdict is.numbered x.kept.item
  named_verdict least permitted verdict = comes_to_named least verdict true true permitted.readable (is_allowed (at_least least (level a.tenant a.user x.kept.item)) permitted.allowed)

  -- the level on it, by its own id
  level_named : level_there a.tenant a.user x.layout.object x.kept.item.id ≡ level a.tenant a.user x.kept.item
  level_named = ap (λ (r : Option Record). in_case r Nothing (level a.tenant a.user)) (ap (record_of_object a.tenant x.layout.object) named_found.same ∙ is.kept.is)

  -- it is found, if the level that was read is enough
  pub permitted : (least : Level) (whose : Whose) (m : Tables) → StandsIn org q m (Some a.tenant) → whose a.tenant a.user → (read : Result Level StoreFail)
      → FindsFor org whose (λ t u. level_there t u x.layout.object x.kept.item.id) m read → FindsPermitted org q a name key least (permit x least read)
  permitted least whose m stands hers (Err Damaged) finds = absurd (finds q a.tenant a.user stands hers)
  permitted least whose m stands hers (Err Keeper) finds = λ verdict e. absurd cc
  permitted least whose m stands hers (Err Memory) finds = λ verdict e. absurd cc
  permitted least whose m stands hers (Ok l) finds = by (at_least Read l) refl (at_least least l) refl
    where
      has : l ≡ level a.tenant a.user x.kept.item
      has = finds q a.tenant a.user stands hers ∙ level_named

      at : (needs : Level) (b : Bool) → at_least needs l ≡ b → at_least needs (level a.tenant a.user x.kept.item) ≡ b
      at needs b e = subst (λ (k : Level). at_least needs k ≡ b) has e

      by : (readable : Bool) → at_least Read l ≡ readable → (allowed : Bool) → at_least least l ≡ allowed
          → FindsPermitted org q a name key least (cond readable (cond allowed (Ok x) (Err (Refused InsufficientAccess))) (Err (Refused NotFound)))
      by true reads true enough = (is, record { readable = at Read true reads; allowed = ap (λ (b : Bool). refuse_if (not b) InsufficientAccess) (at least true enough) })
      by true reads false enough = λ verdict. ap (λ (v : Verdict). v.answer) (comes_to_named least verdict true false (at Read true reads) (at least false enough))
      by false reads allowed enough = λ verdict. ap (λ (v : Verdict). v.answer) (comes_to_named least verdict false allowed (at Read false reads) (at least allowed enough))

-- how it ends is how the level's reading ended
pub permit_ends : (x : Named) (least : Level) (read : Result Level StoreFail) → ended_edit (permit x least read) ≡ ended read
permit_ends x least (Err e) = refl
permit_ends x least (Ok l) = by (at_least Read l) (at_least least l)
  where
    by : (readable allowed : Bool) → ended_edit (cond readable (cond allowed (Ok x) (Err (Refused InsufficientAccess))) (Err (Refused NotFound))) ≡ done
    by true true = refl
    by true false = refl
    by false allowed = refl

pub permit_fits : (org : ℕ) (x : Named) (least : Level) (read : Result Level StoreFail) → FitsNamed org x → IfOk (permit x least read) (FitsNamed org)
permit_fits org x least (Err e) fits = tt
permit_fits org x least (Ok l) fits = by (at_least Read l) (at_least least l)
  where
    by : (readable allowed : Bool) → IfOk (cond readable (cond allowed (Ok x) (Err (Refused InsufficientAccess))) (Err (Refused NotFound))) (FitsNamed org)
    by true true = fits
    by true false = tt
    by false allowed = tt

-- why nothing was found is why nothing is permitted
pub permitted_passed : (org : ℕ) (q : OrgPlan) (a : Asked) (name key : List ℕ) (least : Level) (e : EditFail) (out : Result Named EditFail)
    → IsErrAnd out (λ y. y ≡ e) → FindsNamed org q a name key (Err e) → FindsPermitted org q a name key least out
permitted_passed org q a name key least e (Ok x) is h = absurd is
permitted_passed org q a name key least e (Err y) is h = subst (λ (z : EditFail). FindsPermitted org q a name key least (Err z)) (sym is) (h least)
