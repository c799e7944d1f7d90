-- The levels on the topmost object, and the level on a record by its row or by its id.
use Rattle.std.proofs.Common.{◌≡◌, ℕ, suc, ◌+◌, ◌≤◌, Bool, true, false, List, [], ◌∷◌, length, map, Option, Some, None, refl, sym, ap, subst, ◌∙◌, arith}
use Rattle.std.specs.Prelude.{Result, Ok, Err}
use Rattle.std.specs.List.{enumerate_from}
use Rattle.std.proofs.lemmas.Bool.{eqb-true}
use Rattle.std.proofs.lemmas.Option.{same_Some as some_is}
use Rattle.record_read.proofs.Rising.{has_filter}
use Rattle.record_read.proofs.Standing.{found_of}
use Rattle.store_kv.specs.Tables.{Tables}
use Rattle.store_kv.specs.declared.keeper.KeptRow.{KeptRow}
use Rattle.store_rows.specs.Fails.{of_codec}
use Rattle.store_rows.specs.declared.fail.StoreFail.{StoreFail}
use Rattle.store_rows.specs.declared.fail.StoreFail.TheVariants.{Damaged, Keeper, Memory}
use Rattle.access_closure.specs.declared.people.People.{People}
use Rattle.access_user.specs.level.Own.{IsOwnLevels}
use Rattle.access_user.specs.declared.level.knowing.OwnLevels.{OwnLevels}
use Rattle.model.specs.declared.record.Record.{Record}
use Rattle.model.specs.Cases.{in_case}
use Rattle.model.specs.Known.{known}
use Rattle.model.specs.Levels.{at_least, can_read, level, own_level}
use Rattle.model.specs.Membership.{Has}
use Rattle.model.specs.Objects.{is_of, object_number, object_numbered, object_of_record, record_at, records_of}
use Rattle.model.specs.Rights.{record_of_object}
use Rattle.model.specs.Sound.{IsSound}
use Rattle.model.specs.SoundRecords.{IsSoundRecord}
use Rattle.model.specs.Tenant.{Field, Object, Share, Tenant, User}
use Rattle.store_codec.specs.declared.fail.CodecFail.{CodecFail}
use Rattle.store_codec.specs.declared.fail.CodecFail.TheVariants as codec
use Rattle.access_traits.specs.Rights.{FindsFor, TellsReadable, kept_record, level_there}
use Rattle.store_abstraction.specs.declared.layout.Layout.{Layout}
use Rattle.store_abstraction.specs.Layouts.{FindsOf, IsLayout, own_layout, place_of}
use Rattle.store_abstraction.specs.Local.{FindsIn, StandsIn}
use Rattle.store_abstraction.specs.Plan.{OrgPlan}
use Rattle.store_abstraction.proofs.MetadataRows.{sound_object}
use Rattle.store_abstraction.proofs.Placed.{no_records}
use Rattle.base_value.specs.declared.sharing.Level.{Level}
use Rattle.base_value.specs.declared.sharing.Level.TheVariants.{Full, Nothing, Read}
use Rattle.access_user.specs.Granting.{IsUserRights}
use Rattle.access_user.specs.Sights.{FindsSight, IsSight, OwnAt, has_any, has_shares, topmost}
use Rattle.access_user.specs.declared.rights.UserRights.{UserRights}
use Rattle.access_user.specs.declared.sight.UserSight.{UserSight}
use Rattle.access_user.specs.declared.steps.Step.{Step}
use Rattle.access_user.specs.inner.Climbing.{IsLevel, MakesOwn, MayJudge, MayMake, MaySee}
use Rattle.access_user.specs.inner.Judging.{MayLook, is_readable}
use Rattle.access_user.specs.inner.Steps.{Fact, Leads, TellsWhere, end_of}
use Rattle.access_user.proofs.Climbed.{as_whole, deep, ends_topmost, may_step, readable_all, reads_alike}
use Rattle.access_user.proofs.Layouts.{layout_is, none_is, read_is}
use Rattle.people_rows.proofs.SharingFits.{all_has}
use Rattle.access_user.proofs.Stepping.{FailsWhere, MayStep}

-- ---- what a tenant's layout and records are

as_many : (q : OrgPlan) (n k : ℕ) (fs : List Field) → length (map (place_of q n) (enumerate_from k fs)) ≡ length fs
as_many q n k [] = refl
as_many q n k (f ∷ fs) = ap suc (as_many q n (k + 1) fs)

pub few_fields : (q : OrgPlan) (t : Tenant) (l : Layout) → IsSound t → IsLayout q t l → length l.fields ≤ 40
few_fields q t l sound is =
    let one = layout_is q t l is in
    let few : length one.object.fields ≤ 40 = (sound_object t l.object one.object sound one.there).few_fields in
    let same : length l.fields ≡ length one.object.fields = ap (λ (k : Layout). length k.fields) (sym one.made) ∙ as_many q l.object 0 one.object.fields in
    omega (arith, few, same)

-- what is so of all records of the object of the topmost masters
abbrev pub IsTop : People → Layout → OwnLevels → Fact
IsTop people l own q t u = OwnAt people t u (topmost 3 t.objects l.object) own

-- the object of a record
pub record HasObject (t : Tenant) (r : Record) : Type 0 where
  pub object : Object
  pub there : object_of_record t r ≡ Some object

pub object_is : (t : Tenant) (r : Record) → IsSound t → Has t.records r → HasObject t r
object_is t r sound has =
    let w = all_has (IsSoundRecord (known t) t.objects) t.records r sound.records.each has in
    record { object = w.object; there = w.there }

-- ---- the levels on the topmost object

module _ (rights : UserRights) (l : Layout) (steps : List Step) where
  own_up : (rest : List Step) (step : Step) → steps ≡ step ∷ rest → (q : OrgPlan) (t : Tenant) (u : User) → MayMake rights l steps q t u → MayMake rights step.layout rest q t u
  own_up rest step are q t u may =
      let led : Leads q t l.org l.object (step ∷ rest) = subst (Leads q t l.org l.object) are may.leads in
      record { granted = may.granted; layout = led.0.layout; leads = subst (λ (o : ℕ). Leads q t o step.layout.object rest) (sym led.0.own) led.1 }

  pub makes_up : (rest : List Step) (step : Step) → steps ≡ step ∷ rest → (x : Result OwnLevels CodecFail) → MakesOwn rights step.layout rest x → MakesOwn rights l steps x
  makes_up rest step are (Ok own) h = λ q t u may. subst (λ (ss : List Step). OwnAt rights.sharer.people t u (end_of l.object ss) own) (sym are) (h q t u (own_up rest step are q t u may))
  makes_up rest step are (Err codec.Damaged) h = λ q t u may. h q t u (own_up rest step are q t u may)
  makes_up rest step are (Err codec.Memory) h = tt

  module _ (m : Tables) (led : (q : OrgPlan) (t : Tenant) (u : User) → StandsIn l.org q m (Some t) → MayStep l 3 q t u → Leads q t l.org l.object steps) where
    pub makes : (q : OrgPlan) (t : Tenant) (u : User) → StandsIn l.org q m (Some t) → IsUserRights t u rights → IsLayout q t l → MayMake rights l steps q t u
    makes q t u s granted is = record { granted = granted; layout = is; leads = led q t u s (may_step q t u l granted.sound is) }

    -- it isn't damaged for a tenant
    pub judged_failed : (r : Record) (fail : CodecFail) → MakesOwn rights l steps (Err fail) → (e : StoreFail) → e ≡ of_codec fail → TellsWhere {X = Level} l.org (MayJudge rights l r) (IsLevel Full r) m (Err e)
    judged_failed r codec.Damaged h e is = subst (λ (x : StoreFail). TellsWhere {X = Level} l.org (MayJudge rights l r) (IsLevel Full r) m (Err x)) (sym is) (λ q t u s may. h q t u (makes q t u s may.granted may.layout))
    judged_failed r codec.Memory h e is = subst (λ (x : StoreFail). TellsWhere {X = Level} l.org (MayJudge rights l r) (IsLevel Full r) m (Err x)) (sym is) tt

    pub top_failed : (fail : CodecFail) → MakesOwn rights l steps (Err fail) → (e : StoreFail) → e ≡ of_codec fail → TellsWhere l.org (MayLook rights l) (IsTop rights.sharer.people l) m (Err e)
    top_failed codec.Damaged h e is = subst (λ (x : StoreFail). TellsWhere l.org (MayLook rights l) (IsTop rights.sharer.people l) m (Err x)) (sym is) (λ q t u s may. h q t u (makes q t u s may.granted may.layout))
    top_failed codec.Memory h e is = subst (λ (x : StoreFail). TellsWhere l.org (MayLook rights l) (IsTop rights.sharer.people l) m (Err x)) (sym is) tt

    pub top_is : (few : length steps ≤ 3) (own : OwnLevels) → MakesOwn rights l steps (Ok own) → TellsWhere l.org (MayLook rights l) (IsTop rights.sharer.people l) m (Ok own)
    top_is few own h q t u s look =
        let may = makes q t u s look.granted look.layout in
        subst (λ (k : ℕ). OwnAt rights.sharer.people t u k own) (sym (ends_topmost q t l.org 3 l.object steps few may.leads)) (h q t u may)

-- ---- what is seen

module _ (rights : UserRights) (l : Layout) (m : Tables) where
  -- what is so of all records wasn't found out
  pub unsighted : (e : StoreFail) → FailsWhere l.org (MayLook rights l) m e → FindsSight rights l m (Err e)
  unsighted Damaged h = λ q t u s at granted. h q t u s (record { granted = granted; layout = at })
  unsighted Keeper h = tt
  unsighted Memory h = tt

  module _ (n : Tables) (same : n ≡ m) where
    -- whether there are shares wasn't found out
    pub unshared : (e : StoreFail) → FindsIn {X = Bool} l.org (λ q t. has_shares t) n (Err e) → FindsSight rights l m (Err e)
    unshared Damaged h = λ q t u s at granted. h q (Some t) (subst (λ (x : Tables). StandsIn l.org q x (Some t)) (sym same) s)
    unshared Keeper h = tt
    unshared Memory h = tt

    pub sighted : (sight : UserSight) → sight.rights.now ≡ rights → TellsWhere l.org (MayLook rights l) (IsTop rights.sharer.people l) m (Ok sight.own)
        → FindsIn l.org (λ q t. has_shares t) n (Ok sight.shared) → FindsSight rights l m (Ok sight)
    sighted sight are top shared = λ q t u s at granted. record {
      rights = subst (IsUserRights t u) (sym are) granted;
      own = subst (λ (x : UserRights). OwnAt x.sharer.people t u (topmost 3 t.objects l.object) sight.own) (sym are) (top q t u s (record { granted = granted; layout = at }));
      shares = λ none. no_shares t.shares (sym (shared q (Some t) (subst (λ (x : Tables). StandsIn l.org q x (Some t)) (sym same) s)) ∙ none);
    }
      where
        no_shares : (shares : List Share) → has_any shares ≡ false → shares ≡ []
        no_shares [] e = refl
        no_shares (s ∷ shares) e = absurd cc

-- ---- by a row

module _ (t : Tenant) (l : Layout) (r : Record) where
  -- the record of a layout's object is the tenant's
  pub record OfLayout : Type 0 where
    pub has : Has t.records r
    pub number : object_number r.id ≡ l.object

  pub of_layout : Has (records_of t l.object) r → OfLayout
  of_layout among =
      let it = has_filter (is_of l.object) t.records r among in
      record { has = it.0; number = eqb-true (object_number r.id) l.object it.1 }

  pub all_seen : (q : OrgPlan) (u : User) (people : People) (own : OwnLevels)
      → ((o : Object) (x : Record) → object_of_record t x ≡ Some o → IsOwnLevels people t u (object_number x.id) o own → at_least Read (own_level t u x) ≡ true)
      → IsSound t → IsLayout q t l → OwnAt people t u (topmost 3 t.objects l.object) own → Has (records_of t l.object) r → true ≡ can_read t u r
  all_seen q u people own by_all sound at known among =
      let it = of_layout among in
      sym (readable_all t u sound l.object r it.has it.number (deep q t l sound at) (λ x there number.
      let o = object_is t x sound there in
      by_all o.object x o.there (subst (λ (n : ℕ). IsOwnLevels people t u n o.object own) (sym number) (known o.object (subst (λ (n : ℕ). object_numbered t n ≡ Some o.object) number o.there)))))

module _ (m n : Tables) (same : n ≡ m) (l : Layout) (row : KeptRow) (s : UserSight) (item : Record) (spelled : kept_record l row ≡ Some item) where
  abbrev Sees : Tenant → User → Type 0
  Sees t u = IsSight t u l.object s

  may_see : (q : OrgPlan) (t : Tenant) (u : User) (r : Record) → IsLayout q t l → Sees t u → Has (records_of t l.object) r → kept_record l row ≡ Some r → MaySee s l item q t u
  may_see q t u r at sees among is =
      let it = of_layout t l r among in
      let one : r ≡ item = some_is r item (sym is ∙ spelled) in
      record {
        may = record {
          granted = sees.rights;
          layout = at;
          has = subst (λ (x : Record). Has t.records x) one it.has;
          number = subst (λ (x : Record). object_number x.id ≡ l.object) one it.number;
        };
        own_top = sees.own;
        shares = sees.shares;
      }

  over : (q : OrgPlan) (t : Tenant) → StandsIn l.org q m (Some t) → StandsIn l.org q n (Some t)
  over q t stands = subst (λ (x : Tables). StandsIn l.org q x (Some t)) (sym same) stands

  by_level : (y : Result Level StoreFail) → TellsWhere l.org (MaySee s l item) (IsLevel Read item) n y → TellsReadable l Sees row m (is_readable y)
  by_level (Ok y) h = λ q t u r stands at sees among is.
      let one : item ≡ r = some_is item r (sym spelled ∙ is) in
      reads_alike y (level t u item) (h q t u (over q t stands) (may_see q t u r at sees among is)) ∙ ap (λ (x : Record). can_read t u x) one
  by_level (Err Damaged) h = λ q t u r stands at sees among is. h q t u (over q t stands) (may_see q t u r at sees among is)
  by_level (Err Keeper) h = tt
  by_level (Err Memory) h = tt

  pub seen : (y : Result Level StoreFail) → TellsWhere l.org (MaySee s l item) (IsLevel Read item) n y → (b : Result Bool StoreFail) → b ≡ is_readable y → TellsReadable l Sees row m b
  seen y h b is = subst (TellsReadable l Sees row m) (sym is) (by_level y h)

-- ---- by an id

module _ (m n : Tables) (same : n ≡ m) (rights : UserRights) (l : Layout) (id : List ℕ) (item : Record) (found : FindsOf l (λ t. record_of_object t l.object id) m (Ok (Some item))) where
  at_id : (q : OrgPlan) (t : Tenant) (u : User) → StandsIn l.org q m (Some t) → MayLook rights l q t u → record_of_object t l.object id ≡ Some item
  at_id q t u s may = sym (found q t s may.layout)

  may_judge : (q : OrgPlan) (t : Tenant) (u : User) → StandsIn l.org q m (Some t) → MayLook rights l q t u → MayJudge rights l item q t u
  may_judge q t u s may =
      let it = found_of t l.object id item (record_at t id) refl (at_id q t u s may) in
      record { granted = may.granted; layout = may.layout; has = it.has; number = eqb-true (object_number item.id) l.object it.of }

  pub looked : (y : Result Level StoreFail) → TellsWhere l.org (MayJudge rights l item) (IsLevel Full item) n y → TellsWhere l.org (MayLook rights l) (λ x q t u. x ≡ level_there t u l.object id) m y
  looked (Ok y) h = λ q t u s may.
      as_whole y (level t u item) (h q t u (subst (λ (x : Tables). StandsIn l.org q x (Some t)) (sym same) s) (may_judge q t u s may))
      ∙ sym (ap (λ (o : Option Record). in_case o Nothing (level t u)) (at_id q t u s may))
  looked (Err Damaged) h = λ q t u s may. h q t u (subst (λ (x : Tables). StandsIn l.org q x (Some t)) (sym same) s) (may_judge q t u s may)
  looked (Err Keeper) h = tt
  looked (Err Memory) h = tt

module _ (m n : Tables) (same : n ≡ m) (rights : UserRights) (org object : ℕ) (id : List ℕ) where
  abbrev Whose : Tenant → User → Type 0
  Whose t u = IsUserRights t u rights

  module _ (l : Layout) (found : FindsIn org (own_layout org object) m (Ok (Some l))) where
    over_layout : (q : OrgPlan) (t : Tenant) (u : User) → StandsIn org q m (Some t) → Whose t u → StandsIn l.org q n (Some t) × MayLook rights l q t u
    over_layout q t u s granted =
        let read = read_is org object q t l (sym (found q (Some t) s)) in (
          subst (λ (o : ℕ). StandsIn o q n (Some t)) (sym read.its_org) (subst (λ (x : Tables). StandsIn org q x (Some t)) (sym same) s),
          record { granted = granted; layout = read.layout },
        )

    number : (q : OrgPlan) (t : Tenant) → StandsIn org q m (Some t) → l.object ≡ object
    number q t s = (read_is org object q t l (sym (found q (Some t) s))).number

    pub found_by : (y : Result Level StoreFail) → TellsWhere l.org (MayLook rights l) (λ x q t u. x ≡ level_there t u l.object id) n y → FindsFor org Whose (λ t u. level_there t u object id) m y
    found_by (Ok y) h = λ q t u s granted.
        let it = over_layout q t u s granted in
        h q t u it.0 it.1 ∙ ap (λ (k : ℕ). level_there t u k id) (number q t s)
    found_by (Err Damaged) h = λ q t u s granted. let it = over_layout q t u s granted in h q t u it.0 it.1
    found_by (Err Keeper) h = tt
    found_by (Err Memory) h = tt

  -- of no object there is no record
  pub none_by : FindsIn org (own_layout org object) m (Ok None) → FindsFor org Whose (λ t u. level_there t u object id) m (Ok Nothing)
  none_by found = λ q t u s granted.
      let gone = none_is org object q t (found q (Some t) s) in
      sym (by t u granted.sound gone (record_of_object t object id) refl)
    where
      clash : true ≡ false → ⊥
      clash e = cc

      by : (t : Tenant) (u : User) → IsSound t → object_numbered t object ≡ None → (x : Option Record) → record_of_object t object id ≡ x → in_case x Nothing (level t u) ≡ Nothing
      by t u sound gone None e = refl
      by t u sound gone (Some r) e =
          let it = found_of t object id r (record_at t id) refl e in
          absurd (clash (sym it.of ∙ no_records t object sound gone r it.has))
