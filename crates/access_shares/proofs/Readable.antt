-- The record that is to be shared: whether who asks may read it, and whether it is a detail.
use Rattle.std.proofs.Common.{◌≡◌, ◌∙◌, ℕ, ◌<◌, Bool, true, false, cond, ◌||◌, eqb, List, [], ◌∷◌, length, filter, Option, Some, None, refl, sym, ap, subst, arith}
use Rattle.std.specs.List.{list_any}
use Rattle.std.specs.Option.{option_and_then, option_map}
use Rattle.std.specs.Prelude.{Err, Ok, Result}
use Rattle.base_lemmas.proofs.Numbers.{eqb-self as eqb_same}
use Rattle.base_lemmas.proofs.Bools.{by_answer as pick}
use Rattle.std.proofs.lemmas.Option.{same_Some as some_is}
use Rattle.record_read.proofs.Sound.{sound_record}
use Rattle.record_read.proofs.Standing.{found_id}
use Rattle.store_kv.specs.Draft.{Held}
use Rattle.store_kv.specs.State.{KeeperState}
use Rattle.store_kv.specs.Tables.{Tables}
use Rattle.store_rows.specs.declared.fail.StoreFail.{StoreFail}
use Rattle.store_rows.specs.declared.fail.StoreFail.TheVariants.{Damaged, Keeper, Memory}
use Rattle.store_rows.specs.declared.object.ObjectRow.{ObjectRow}
use Rattle.model.specs.Cases.{in_case}
use Rattle.model.specs.declared.record.Record.{Record}
use Rattle.model.specs.declared.refusal.Refusal.TheVariants.{InvalidType, NotFound}
use Rattle.model.specs.Fields.{by_parent, is_detail, is_master}
use Rattle.model.specs.Levels.{at_least, level}
use Rattle.model.specs.Objects.{is_of, object_number, object_numbered, record_at}
use Rattle.model.specs.Paths.{Asked, if_readable}
use Rattle.model.specs.Rules.{refuse_if}
use Rattle.model.specs.Shares.{detail_refused}
use Rattle.model.specs.Sound.{IsSound}
use Rattle.model.specs.SoundMetadata.{masters}
use Rattle.model.specs.Tenant.{Field, Object, Tenant}
use Rattle.access_traits.specs.Rights.{FindsFor, Whose, level_there}
use Rattle.store_abstraction.specs.Calls.{Calls, ended, ended_edit}
use Rattle.store_abstraction.specs.declared.fail.EditFail.{EditFail}
use Rattle.store_abstraction.specs.declared.fail.EditFail.TheVariants.{Refused, Store}
use Rattle.store_abstraction.specs.Layouts.{own_object_row}
use Rattle.store_abstraction.specs.Local.{FindsThere, StandsIn}
use Rattle.store_abstraction.specs.Metadata.{row_of_object}
use Rattle.store_abstraction.specs.Plan.{OrgPlan}
use Rattle.store_abstraction.proofs.MetadataRows.{sound_object}
use Rattle.base_value.specs.declared.sharing.Level.{Level}
use Rattle.base_value.specs.declared.sharing.Level.TheVariants.{Nothing, Read}
use Rattle.store_edit.specs.Judging.{FailsRule}
use Rattle.access_shares.specs.inner.Finding.{FindsLevel, readable_or_none}

-- ---- the level

module _ (a : Asked) (id : List ℕ) (n : ℕ) (number : n ≡ object_number id) where
  -- the record with an id is of the object that the id tells
  of_its : (r : Record) → record_at a.tenant id ≡ Some r → is_of n r ≡ true
  of_its r e =
      let (same, has) = found_id a.tenant.records id r e in
      ap (λ (i : List ℕ). eqb (object_number i) n) same ∙ ap (λ (m : ℕ). eqb m n) (sym number) ∙ eqb_same n

  level_is : (x : Option Record) → record_at a.tenant id ≡ x → level_there a.tenant a.user n id ≡ in_case x Nothing (level a.tenant a.user)
  level_is None e = ap (λ (o : Option Record). in_case (option_and_then (λ (r : Record). cond (is_of n r) (Some r) None) o) Nothing (level a.tenant a.user)) e
  level_is (Some r) e =
      ap (λ (o : Option Record). in_case (option_and_then (λ (r : Record). cond (is_of n r) (Some r) None) o) Nothing (level a.tenant a.user)) e
      ∙ ap (λ (b : Bool). in_case (cond b (Some r) None) Nothing (level a.tenant a.user)) (of_its r e)

  by_level : (l : Level) → l ≡ level_there a.tenant a.user n id → FindsLevel a id (readable_or_none (Ok l))
  by_level l is = by (record_at a.tenant id) refl
    where
      by : (x : Option Record) → record_at a.tenant id ≡ x → FindsLevel a id (cond (at_least Read l) (Ok l) (Err (Refused NotFound)))
      by None e =
          subst (λ (k : Level). FindsLevel a id (cond (at_least Read k) (Ok k) (Err (Refused NotFound)))) (sym (is ∙ level_is None e))
          (ap (option_and_then (if_readable a)) e, refl)
      by (Some r) e =
          let its : l ≡ level a.tenant a.user r = is ∙ level_is (Some r) e in
          pick (at_least Read l) (λ b. FindsLevel a id (cond b (Ok l) (Err (Refused NotFound))))
          (λ may.
          record {
            item = r;
            there = e;
            readable = ap (option_and_then (if_readable a)) e ∙ ap (λ (b : Bool). cond b (Some r) None) (sym (ap (at_least Read) its) ∙ may);
            is = its;
          })
          (λ never. (ap (option_and_then (if_readable a)) e ∙ ap (λ (b : Bool). cond b (Some r) None) (sym (ap (at_least Read) its) ∙ never), refl))

  -- what was found of the level
  pub level_found : (org : ℕ) (q : OrgPlan) (m : Tables) (whose : Whose) (r : Result Level StoreFail) (out : Result Level EditFail) → FindsFor org whose (λ t u. level_there t u n id) m r
      → StandsIn org q m (Some a.tenant) → whose a.tenant a.user → out ≡ readable_or_none r → FindsLevel a id out
  level_found org q m whose r out h s w same = subst (FindsLevel a id) (sym same) (by r h)
    where
      by : (r : Result Level StoreFail) → FindsFor org whose (λ t u. level_there t u n id) m r → FindsLevel a id (readable_or_none r)
      by (Ok l) h = by_level l (h q a.tenant a.user s w)
      by (Err Damaged) h = absurd (h q a.tenant a.user s w)
      by (Err Keeper) h = λ e. absurd cc
      by (Err Memory) h = λ e. absurd cc

-- the call ended as the read did
pub level_calls : {K : Type 0} (state : K → KeeperState) (shown : ℕ) (a b : Held K) (r : Result Level StoreFail) (out : Result Level EditFail) → Calls state shown (ended r) a b → out ≡ readable_or_none r → Calls state shown (ended_edit out) a b
level_calls {K} state shown a b r out h same = subst (λ (x : Result Level EditFail). Calls state shown (ended_edit x) a b) (sym same) (by r h)
  where
    by : (r : Result Level StoreFail) → Calls state shown (ended r) a b → Calls state shown (ended_edit (readable_or_none r)) a b
    by (Ok l) h = pick (at_least Read l) (λ c. Calls state shown (ended_edit (cond c (Ok l) (Err (Refused NotFound)))) a b) (λ _. h) (λ _. h)
    by (Err e) h = h

-- ---- details

none_of : {X : Type 0} (p : X → Bool) (xs : List X) → list_any p xs ≡ false → length (filter p xs) ≡ 0
none_of p [] e = refl
none_of {X} p (x ∷ xs) e = by (none_of p xs) (p x) e
  where
    by : (list_any p xs ≡ false → length (filter p xs) ≡ 0) → (b : Bool) → (b || list_any p xs) ≡ false → length (cond b (x ∷ filter p xs) (filter p xs)) ≡ 0
    by rest true e = absurd cc
    by rest false e = rest e

some_of : {X : Type 0} (p : X → Bool) (xs : List X) → list_any p xs ≡ true → 0 < length (filter p xs)
some_of p [] e = absurd cc
some_of {X} p (x ∷ xs) e = by (some_of p xs) (p x) e
  where
    by : (list_any p xs ≡ true → 0 < length (filter p xs)) → (b : Bool) → (b || list_any p xs) ≡ true → 0 < length (cond b (x ∷ filter p xs) (filter p xs))
    by rest true e = omega arith
    by rest false e = rest e

-- a detail is an object whose access is its master's
detail_is : (o : Object) → masters o ≡ cond (by_parent o.access) 1 0 → is_detail o ≡ by_parent o.access
detail_is o h = by (is_detail o) refl (by_parent o.access) refl
  where
    by : (b : Bool) → is_detail o ≡ b → (c : Bool) → by_parent o.access ≡ c → b ≡ c
    by true is true of = refl
    by false is false of = refl
    by true is false of =
        let some = some_of (λ (f : Field). is_master f.kind) o.fields is in
        let none : masters o ≡ 0 = h ∙ ap (λ (b : Bool). cond b 1 0) of in
        absurd (omega (arith, some, none))
    by false is true of =
        let none = none_of (λ (f : Field). is_master f.kind) o.fields is in
        let one : masters o ≡ 1 = h ∙ ap (λ (b : Bool). cond b 1 0) of in
        absurd (omega (arith, none, one))

module _ (t : Tenant) (sound : IsSound t) (id : List ℕ) (n : ℕ) (number : n ≡ object_number id) (r : Record) (there : record_at t id ≡ Some r) where
  its_number : object_number r.id ≡ n
  its_number = let (same, has) = found_id t.records id r there in ap object_number same ∙ sym number

  -- by the row of its object
  pub detail_by_row : (org : ℕ) (row : ObjectRow) → Some row ≡ option_map (row_of_object org t n) (object_numbered t n)
      → refuse_if (by_parent row.access.access) (InvalidType row.name) ≡ detail_refused t r
  detail_by_row org row is = sym (ap (λ (m : ℕ). in_case (object_numbered t m) None (λ o. refuse_if (is_detail o) (InvalidType o.name))) its_number ∙ by (object_numbered t n) refl is)
    where
      by : (x : Option Object) → object_numbered t n ≡ x → Some row ≡ option_map (row_of_object org t n) x → in_case x None (λ o. refuse_if (is_detail o) (InvalidType o.name)) ≡ refuse_if (by_parent row.access.access) (InvalidType row.name)
      by None e is = absurd cc
      by (Some o) e is =
          let its : row ≡ row_of_object org t n o = some_is row (row_of_object org t n o) is in
          ap (λ (b : Bool). refuse_if b (InvalidType o.name)) (detail_is o (sound_object t n o sound e).master)
          ∙ sym (ap (λ (x : ObjectRow). refuse_if (by_parent x.access.access) (InvalidType x.name)) its)

  -- the object of a sound record is there
  pub object_is_there : object_numbered t n ≡ None → ⊥
  object_is_there none =
      let (same, has) = found_id t.records id r there in
      let one = sound_record t r sound has in
      let wrong : ◌≡◌ {A = Option Object} None (Some one.object) = sym none ∙ ap (object_numbered t) (sym its_number) ∙ one.there in
      absurd cc

  -- what was found of its object
  pub row_failed : (org : ℕ) (q : OrgPlan) (m : Tables) (e : StoreFail) → FindsThere org (own_object_row org n) m (Err e) → StandsIn org q m (Some t) → FailsRule (detail_refused t r) (Store e)
  row_failed org q m Damaged h s = λ _. by (object_numbered t n) refl (h q (Some t) s)
    where
      by : (x : Option Object) → object_numbered t n ≡ x → option_map (row_of_object org t n) x ≡ None → ⊥
      by None e h = object_is_there e
      by (Some o) e h = absurd cc
  row_failed org q m Keeper h s = λ e. absurd cc
  row_failed org q m Memory h s = λ e. absurd cc
