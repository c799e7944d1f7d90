-- The level on a record by its masters is that of the definition.
use Rattle.std.proofs.Common.{◌≡◌, ℕ, zero, suc, ◌≤◌, true, false, List, [], ◌∷◌, length, Option, Some, None, refl, sym, ap, subst, ◌∙◌, arith}
use Rattle.std.specs.Prelude.{Result, Ok, Err}
use Rattle.std.specs.Option.{option_and_then}
use Rattle.std.proofs.lemmas.Option.{same_Some as some_is}
use Rattle.formula.specs.Meaning.{value_at}
use Rattle.store_kv.specs.Tables.{Tables}
use Rattle.store_rows.specs.declared.fail.StoreFail.{StoreFail}
use Rattle.store_rows.specs.declared.fail.StoreFail.TheVariants.{Damaged, Keeper, Memory}
use Rattle.access_user.specs.level.Own.{up_to}
use Rattle.model.specs.declared.record.Record.{Record}
use Rattle.model.specs.Cases.{in_case}
use Rattle.model.specs.Fields.{ref_of}
use Rattle.model.specs.Levels.{at_least, full_for_edit, level, level_within, own_level}
use Rattle.model.specs.Membership.{Has}
use Rattle.model.specs.Metadata.{masters_above}
use Rattle.model.specs.Objects.{object_number, record_at}
use Rattle.model.specs.Relationships.{Reference, master_of_object, named_record}
use Rattle.model.specs.Rights.{record_of_object}
use Rattle.model.specs.Sound.{IsSound}
use Rattle.model.specs.Tenant.{Tenant, User}
use Rattle.store_abstraction.specs.declared.layout.Layout.{Layout}
use Rattle.store_abstraction.specs.Layouts.{FindsOf, IsLayout}
use Rattle.store_abstraction.specs.Local.{StandsIn}
use Rattle.store_abstraction.specs.Plan.{OrgPlan}
use Rattle.store_abstraction.proofs.MetadataRows.{sound_object}
use Rattle.base_value.specs.declared.sharing.Level.{Level}
use Rattle.base_value.specs.declared.sharing.Level.TheVariants.{Nothing, Read, Edit, Full}
use Rattle.access_user.specs.Sights.{OwnAt, topmost}
use Rattle.access_user.specs.declared.sight.UserSight.{UserSight}
use Rattle.access_user.specs.declared.steps.Step.{Step}
use Rattle.access_user.specs.inner.Climbing.{IsLevel, IsLevelWithin, MayClimb, MayJudge, full_of, master_there}
use Rattle.access_user.specs.inner.Steps.{Fact, Leads, TellsWhere, end_of}
use Rattle.access_user.proofs.Layouts.{layout_is}
use Rattle.access_user.proofs.Masters.{HasMaster, master_found, master_of}
use Rattle.access_user.proofs.Stepping.{MayStep}

-- ---- the definition, one master further

module _ (t : Tenant) (u : User) (r : Record) where
  pub no_up : (k : ℕ) → master_of_object t.objects (object_number r.id) ≡ None → level_within (suc k) t u r ≡ own_level t u r
  no_up k e = ap (λ (o : Option Reference). in_case o (own_level t u r) (λ f. in_case (named_record t f r) Nothing (λ m. full_for_edit (level_within k t u m)))) e

  pub one_up : (k : ℕ) (f : Reference) (it : HasMaster t r f) → master_of_object t.objects (object_number r.id) ≡ Some f → level_within (suc k) t u r ≡ full_for_edit (level_within k t u it.item)
  one_up k f it e =
      let named : named_record t f r ≡ Some it.item = ap (option_and_then (record_at t)) it.named ∙ it.at in
      ap (λ (o : Option Reference). in_case o (own_level t u r) (λ f. in_case (named_record t f r) Nothing (λ m. full_for_edit (level_within k t u m)))) e
      ∙ ap (λ (o : Option Record). in_case o Nothing (λ m. full_for_edit (level_within k t u m))) named

-- ---- where the steps lead

-- they lead to the object of the topmost masters
pub ends_topmost : (q : OrgPlan) (t : Tenant) (org k n : ℕ) (steps : List Step) → length steps ≤ k → Leads q t org n steps → topmost k t.objects n ≡ end_of n steps
ends_topmost q t org zero n [] few led = refl
ends_topmost q t org (suc k) n [] few led = ap (λ (o : Option Reference). in_case o n (λ f. topmost k t.objects f.target)) led
ends_topmost q t org zero n (s ∷ steps) few led = absurd (omega (arith, few))
ends_topmost q t org (suc k) n (s ∷ steps) few led =
    ap (λ (o : Option Reference). in_case o n (λ f. topmost k t.objects f.target)) led.0.first
    ∙ ap (topmost k t.objects) (sym led.0.target)
    ∙ ends_topmost q t org k s.layout.object steps (omega (arith, few)) led.1

-- ---- a level as far as it is asked for

-- what a detail has by its master's level, as far as it is asked for, is known by this one so far
full_by : (asked x : Level) → up_to asked (full_for_edit x) ≡ up_to asked (full_for_edit (up_to asked x))
full_by Nothing Nothing = refl
full_by Nothing Read = refl
full_by Nothing Edit = refl
full_by Nothing Full = refl
full_by Read Nothing = refl
full_by Read Read = refl
full_by Read Edit = refl
full_by Read Full = refl
full_by Edit Nothing = refl
full_by Edit Read = refl
full_by Edit Edit = refl
full_by Edit Full = refl
full_by Full Nothing = refl
full_by Full Read = refl
full_by Full Edit = refl
full_by Full Full = refl

full_as_far : (asked x y : Level) → up_to asked x ≡ up_to asked y → up_to asked (full_for_edit x) ≡ up_to asked (full_for_edit y)
full_as_far asked x y e = full_by asked x ∙ ap (λ (z : Level). up_to asked (full_for_edit z)) e ∙ sym (full_by asked y)

-- all of it
all_of : (x : Level) → up_to Full x ≡ x
all_of Nothing = refl
all_of Read = refl
all_of Edit = refl
all_of Full = refl

pub as_whole : (x y : Level) → up_to Full x ≡ up_to Full y → x ≡ y
as_whole x y e = sym (all_of x) ∙ e ∙ all_of y

-- whether it may be read
read_by : (x : Level) → at_least Read x ≡ at_least Read (up_to Read x)
read_by Nothing = refl
read_by Read = refl
read_by Edit = refl
read_by Full = refl

pub reads_alike : (x y : Level) → up_to Read x ≡ up_to Read y → at_least Read x ≡ at_least Read y
reads_alike x y e = read_by x ∙ ap (at_least Read) e ∙ sym (read_by y)

-- ---- one record after another

module _ (sight : UserSight) (asked : Level) (org : ℕ) (r : Record) where
  module _ (m : Tables) (step : Step) (rest : List Step) where
    -- its master, that is found
    record Climbed (t : Tenant) : Type 0 where
      reference : Reference
      first : master_of_object t.objects (object_number r.id) ≡ Some reference
      it : HasMaster t r reference
      number : object_number it.item.id ≡ step.layout.object
      there : master_there step r t ≡ Some it.item

    climbed : (q : OrgPlan) (t : Tenant) (u : User) → MayClimb sight org (step ∷ rest) r q t u → Climbed t
    climbed q t u may =
        let led = may.leads.0 in
        let f = led.reference in
        let it = master_of t may.granted.sound r f may.has led.first in
        record {
          reference = f;
          first = led.first;
          it = it;
          number = it.number ∙ sym led.target;
          there =
              ap (λ (p : ℕ). option_and_then (record_of_object t step.layout.object) (ref_of (value_at r.values p))) led.position
              ∙ ap (option_and_then (record_of_object t step.layout.object)) it.named
              ∙ ap (λ (n : ℕ). record_of_object t n it.id) led.target
              ∙ master_found t r f it;
        }

    stands_there : (q : OrgPlan) (t : Tenant) (u : User) → StandsIn org q m (Some t) → MayClimb sight org (step ∷ rest) r q t u → StandsIn step.layout.org q m (Some t)
    stands_there q t u s may = subst (λ (o : ℕ). StandsIn o q m (Some t)) (sym may.leads.0.own) s

    -- it is always there
    unnamed : FindsOf step.layout (master_there step r) m (Ok None) → TellsWhere org (MayClimb sight org (step ∷ rest) r) (IsLevelWithin asked (length (step ∷ rest)) r) m (Ok Nothing)
    unnamed found = λ q t u s may.
        let cl = climbed q t u may in
        absurd (clash (found q t (stands_there q t u s may) may.leads.0.layout ∙ cl.there))
      where
        clash : {x : Record} → ◌≡◌ {A = Option Record} None (Some x) → ⊥
        clash e = cc

    module _ (master : Record) (found : FindsOf step.layout (master_there step r) m (Ok (Some master))) where
      same : (q : OrgPlan) (t : Tenant) (u : User) → StandsIn org q m (Some t) → (may : MayClimb sight org (step ∷ rest) r q t u) → master ≡ (climbed q t u may).it.item
      same q t u s may = some_is master (climbed q t u may).it.item (found q t (stands_there q t u s may) may.leads.0.layout ∙ (climbed q t u may).there)

      next : (q : OrgPlan) (t : Tenant) (u : User) → StandsIn org q m (Some t) → MayClimb sight org (step ∷ rest) r q t u → MayClimb sight org rest master q t u
      next q t u s may =
          let cl = climbed q t u may in
          let is = same q t u s may in
          let number : step.layout.object ≡ object_number master.id = sym (ap (λ (x : Record). object_number x.id) is ∙ cl.number) in
          record {
            granted = may.granted;
            has = subst (λ (x : Record). Has t.records x) (sym is) cl.it.has;
            leads = subst (λ (n : ℕ). Leads q t org n rest) number may.leads.1;
            own_end = subst (λ (n : ℕ). OwnAt sight.rights.now.sharer.people t u (end_of n rest) sight.own) number may.own_end;
            shares = may.shares;
          }

      onto : (n : Tables) → n ≡ m → (y : Result Level StoreFail) → TellsWhere org (MayClimb sight org rest master) (IsLevelWithin asked (length rest) master) n y
          → TellsWhere org (MayClimb sight org (step ∷ rest) r) (IsLevelWithin asked (length (step ∷ rest)) r) m (full_of y)
      onto n at (Ok y) h = λ q t u s may k few. up q t u s may k few
        where
          up : (q : OrgPlan) (t : Tenant) (u : User) → StandsIn org q m (Some t) → MayClimb sight org (step ∷ rest) r q t u → (k : ℕ) → suc (length rest) ≤ k → up_to asked (full_for_edit y) ≡ up_to asked (level_within (suc k) t u r)
          up q t u s may zero few = absurd (omega (arith, few))
          up q t u s may (suc k) few =
              let cl = climbed q t u may in
              let above : up_to asked y ≡ up_to asked (level_within (suc k) t u master) = h q t u (subst (λ (x : Tables). StandsIn org q x (Some t)) (sym at) s) (next q t u s may) k (omega (arith, few)) in
              full_as_far asked y (level_within (suc k) t u cl.it.item) (above ∙ ap (λ (x : Record). up_to asked (level_within (suc k) t u x)) (same q t u s may))
              ∙ ap (up_to asked) (sym (one_up t u r (suc k) cl.reference cl.it cl.first))
      onto n at (Err Damaged) h = λ q t u s may. h q t u (subst (λ (x : Tables). StandsIn org q x (Some t)) (sym at) s) (next q t u s may)
      onto n at (Err Keeper) h = tt
      onto n at (Err Memory) h = tt

  -- the same of steps that are these
  module _ (m : Tables) (steps rest : List Step) (step : Step) (are : steps ≡ step ∷ rest) where
    abbrev Through : Result Level StoreFail → Type 0
    Through x = TellsWhere org (MayClimb sight org steps r) (IsLevelWithin asked (length steps) r) m x

    as_steps : (x : Result Level StoreFail) → TellsWhere org (MayClimb sight org (step ∷ rest) r) (IsLevelWithin asked (length (step ∷ rest)) r) m x → Through x
    as_steps x h = subst (λ (ss : List Step). TellsWhere org (MayClimb sight org ss r) (IsLevelWithin asked (length ss) r) m x) (sym are) h

    pub through_master : (master : Record) → FindsOf step.layout (master_there step r) m (Ok (Some master)) → (n : Tables) → n ≡ m → (y : Result Level StoreFail)
        → TellsWhere org (MayClimb sight org rest master) (IsLevelWithin asked (length rest) master) n y → (out : Result Level StoreFail) → out ≡ full_of y → Through out
    through_master master found n at y h out is = subst Through (sym is) (as_steps (full_of y) (onto m step rest master found n at y h))

    pub through_unnamed : FindsOf step.layout (master_there step r) m (Ok None) → Through (Ok Nothing)
    through_unnamed found = as_steps (Ok Nothing) (unnamed m step rest found)

-- ---- all of them

-- no object has more masters above
pub deep : (q : OrgPlan) (t : Tenant) (l : Layout) → IsSound t → IsLayout q t l → masters_above 4 t.objects l.object ≤ 3
deep q t l sound is = let one = layout_is q t l is in (sound_object t l.object one.object sound one.there).level

pub may_step : (q : OrgPlan) (t : Tenant) (u : User) (l : Layout) → IsSound t → IsLayout q t l → MayStep l 3 q t u
may_step q t u l sound is = (is, deep q t l sound is)

module _ (m n : Tables) (same : n ≡ m) (sight : UserSight) (asked : Level) (l : Layout) (r : Record) (steps : List Step) (few : length steps ≤ 3)
    (led : (q : OrgPlan) (t : Tenant) (u : User) → StandsIn l.org q m (Some t) → MayStep l 3 q t u → Leads q t l.org l.object steps) where
  leads : (q : OrgPlan) (t : Tenant) (u : User) → StandsIn l.org q m (Some t) → MayJudge sight.rights.now l r q t u → Leads q t l.org l.object steps
  leads q t u s may = led q t u s (may_step q t u l may.granted.sound may.layout)

  module _ (Given : Fact) (may : (q : OrgPlan) (t : Tenant) (u : User) → Given q t u → MayJudge sight.rights.now l r q t u)
      (own_at : (q : OrgPlan) (t : Tenant) (u : User) → StandsIn l.org q m (Some t) → Given q t u → OwnAt sight.rights.now.sharer.people t u (end_of l.object steps) sight.own)
      (shares : (q : OrgPlan) (t : Tenant) (u : User) → Given q t u → sight.shared ≡ false → t.shares ≡ []) where
    climbs : (q : OrgPlan) (t : Tenant) (u : User) → StandsIn l.org q m (Some t) → Given q t u → MayClimb sight l.org steps r q t u
    climbs q t u s g =
        let it = may q t u g in
        record {
          granted = it.granted;
          has = it.has;
          leads = subst (λ (k : ℕ). Leads q t l.org k steps) (sym it.number) (leads q t u s it);
          own_end = subst (λ (k : ℕ). OwnAt sight.rights.now.sharer.people t u (end_of k steps) sight.own) (sym it.number) (own_at q t u s g);
          shares = shares q t u g;
        }

    over : (q : OrgPlan) (t : Tenant) → StandsIn l.org q m (Some t) → StandsIn l.org q n (Some t)
    over q t s = subst (λ (x : Tables). StandsIn l.org q x (Some t)) (sym same) s

    -- what was found within so many steps is the level
    pub judged : (y : Result Level StoreFail) → TellsWhere l.org (MayClimb sight l.org steps r) (IsLevelWithin asked (length steps) r) n y → TellsWhere l.org Given (IsLevel asked r) m y
    unfolding level
    judged (Ok y) h = λ q t u s g. h q t u (over q t s) (climbs q t u s g) 3 few
    judged (Err Damaged) h = λ q t u s g. h q t u (over q t s) (climbs q t u s g)
    judged (Err Keeper) h = tt
    judged (Err Memory) h = tt

-- ---- what all may read

keeps_reading : (x : Level) → at_least Read (full_for_edit x) ≡ at_least Read x
keeps_reading Nothing = refl
keeps_reading Read = refl
keeps_reading Edit = refl
keeps_reading Full = refl

-- where every record of the topmost object may be read, each below it may be read
module _ (t : Tenant) (u : User) (sound : IsSound t) where
  -- the records of the object to which so many masters lead may be read
  abbrev ReadTop : (k n : ℕ) → Type 0
  ReadTop k n = (x : Record) → Has t.records x → object_number x.id ≡ topmost k t.objects n → at_least Read (own_level t u x) ≡ true

  abbrev ReadWithin : ℕ → Type 0
  ReadWithin k = (n : ℕ) (r : Record) → Has t.records r → object_number r.id ≡ n → masters_above (suc k) t.objects n ≤ k → ReadTop k n → at_least Read (level_within (suc k) t u r) ≡ true

  read_flat : ReadWithin 0
  read_flat n r has at few top = by (master_of_object t.objects n) refl
    where
      by : (o : Option Reference) → master_of_object t.objects n ≡ o → at_least Read (level_within 1 t u r) ≡ true
      by None e = ap (at_least Read) (no_up t u r 0 (ap (master_of_object t.objects) at ∙ e)) ∙ top r has at
      by (Some f) e =
          let more : masters_above 1 t.objects n ≡ suc (masters_above 0 t.objects f.target) = ap (λ (o : Option Reference). in_case o 0 (λ f. suc (masters_above 0 t.objects f.target))) e in
          absurd (omega (arith, few, more))

  read_above : (k : ℕ) → ReadWithin k → ReadWithin (suc k)
  read_above k deeper n r has at few top = by (master_of_object t.objects n) refl
    where
      by : (o : Option Reference) → master_of_object t.objects n ≡ o → at_least Read (level_within (suc (suc k)) t u r) ≡ true
      by None e =
          ap (at_least Read) (no_up t u r (suc k) (ap (master_of_object t.objects) at ∙ e))
          ∙ top r has (at ∙ sym (ap (λ (o : Option Reference). in_case o n (λ f. topmost k t.objects f.target)) e))
      by (Some f) e =
          let first : master_of_object t.objects (object_number r.id) ≡ Some f = ap (master_of_object t.objects) at ∙ e in
          let it = master_of t sound r f has first in
          let more : masters_above (suc (suc k)) t.objects n ≡ suc (masters_above (suc k) t.objects f.target) = ap (λ (o : Option Reference). in_case o 0 (λ f. suc (masters_above (suc k) t.objects f.target))) e in
          let less : masters_above (suc k) t.objects f.target ≤ k = omega (arith, few, more) in
          let higher : topmost (suc k) t.objects n ≡ topmost k t.objects f.target = ap (λ (o : Option Reference). in_case o n (λ f. topmost k t.objects f.target)) e in
          ap (at_least Read) (one_up t u r (suc k) f it first)
          ∙ keeps_reading (level_within (suc k) t u it.item)
          ∙ deeper f.target it.item it.has it.number less (λ x there number. top x there (number ∙ sym higher))

  readable_within : (k : ℕ) → ReadWithin k
  readable_within zero = read_flat
  readable_within (suc k) = read_above k (readable_within k)

  pub readable_all : (n : ℕ) (r : Record) → Has t.records r → object_number r.id ≡ n → masters_above 4 t.objects n ≤ 3
      → ((x : Record) → Has t.records x → object_number x.id ≡ topmost 3 t.objects n → at_least Read (own_level t u x) ≡ true)
      → at_least Read (level t u r) ≡ true
  unfolding level
  readable_all n r has at few top = readable_within 3 n r has at few top
