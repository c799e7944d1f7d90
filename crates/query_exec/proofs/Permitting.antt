-- Of rows those whose records may be read and are kept.
use Rattle.std.proofs.Common.{◌≡◌, ◌∙◌, ℕ, ◌+◌, ◌*◌, ◌≤◌, Bool, true, false, cond, List, [], ◌∷◌, ◌++◌, Option, Some, None, refl, sym, ap, subst, inl, inr, arith, length, filter}
use Rattle.std.specs.Prelude.{OnOk, Result, Ok, Err, Vec}
use Rattle.std.proofs.Math.Nat.{add-mul}
use Rattle.std.proofs.lemmas.List.Elements.{filter-append}
use Rattle.std.proofs.lemmas.List.Kept.{IsStrictlySortedBy-filter}
use Rattle.store_kv.specs.Draft.{DraftTells, Held, removals_of, tables_of}
use Rattle.store_kv.specs.State.{KeeperState}
use Rattle.store_kv.specs.Tables.{Tables}
use Rattle.store_kv.specs.declared.keeper.KeptRow.{KeptRow}
use Rattle.store_rows.specs.declared.fail.StoreFail.{StoreFail}
use Rattle.store_rows.specs.declared.fail.StoreFail.TheVariants.{Damaged, Keeper, Memory}
use Rattle.record_read.proofs.Rising.{has_filter}
use Rattle.model.specs.declared.record.Record.{Record}
use Rattle.model.specs.Jobs.{is_past}
use Rattle.model.specs.Levels.{can_read, readable}
use Rattle.model.specs.Membership.{Has}
use Rattle.model.specs.Objects.{records_of}
use Rattle.model.specs.Ordered.{by_id}
use Rattle.model.specs.Paths.{Asked}
use Rattle.model.specs.Tenant.{Tenant, User}
use Rattle.access_traits.specs.Rights.{TellsReadable, Whose, kept_record}
use Rattle.store_abstraction.specs.Calls.{Calls, done, ended, ended_by, fell}
use Rattle.store_abstraction.specs.Local.{StandsIn}
use Rattle.store_abstraction.specs.declared.layout.Layout.{Layout}
use Rattle.query_exec.specs.declared.pages.Pages.{Pages}
use Rattle.query_exec.specs.Ranks.{GathersRows}
use Rattle.query_exec.specs.Relatives.{Asking, FindsOfSeen}
use Rattle.query_exec.specs.inner.Judging.{IsOf, Judging, Spells, judged, judging, picked}
use Rattle.query_exec.specs.inner.Permitted.{AdmitsRow, AdmitsRows, FindsPicked, Gathered, GathersPicked, PutsBehind, TurnsPage}
use Rattle.query_exec.specs.inner.Reading.{ReadsPage, beyond}
use Rattle.query_exec.proofs.Offering.{each_of_made}
use Rattle.query_exec.proofs.Paging.{Ascends}
use Rattle.query_exec.proofs.Passing.{CallsThen, Passing, ReadsMost, TellsBoth, shows_more, stops_here}
use Rattle.query_exec.proofs.Sorting.{gathers_more, gathers_nothing, gathers_row}
use Rattle.query_exec.proofs.Turning.{each_length}

-- ---- records that may be read

pub readable_is : (t : Tenant) (u : User) (n : ℕ) → readable t u n ≡ filter (can_read t u) (records_of t n)
unfolding readable
readable_is t u n = refl

pub readable_rises : (t : Tenant) (u : User) (n : ℕ) → Ascends (records_of t n) → Ascends (readable t u n)
readable_rises t u n up = subst Ascends (sym (readable_is t u n)) (IsStrictlySortedBy-filter by_id (can_read t u) (records_of t n) up)

-- ---- records that are picked

module _ {R : Type 0} (j : Judging R) (w : Asked) where
  pub picked_both : (xs ys : List Record) → picked j w (xs ++ ys) ≡ picked j w xs ++ picked j w ys
  picked_both xs ys =
      ap (filter (j.keep w)) (filter-append (can_read w.tenant w.user) xs ys)
      ∙ filter-append (j.keep w) (filter (can_read w.tenant w.user) xs) (filter (can_read w.tenant w.user) ys)

  pub picked_has : (rs : List Record) (r : Record) → Has (picked j w rs) r → Has rs r
  picked_has rs r h = (has_filter (can_read w.tenant w.user) rs r (has_filter (j.keep w) (filter (can_read w.tenant w.user) rs) r h).0).0

  picked_one : (r : Record) (b c : Bool) → can_read w.tenant w.user r ≡ b → j.keep w r ≡ c → picked j w (r ∷ []) ≡ cond b (cond c (r ∷ []) []) []
  picked_one r true c can keep =
      ap (λ (x : Bool). filter (j.keep w) (cond x (r ∷ []) [])) can ∙ ap (λ (x : Bool). cond x (r ∷ []) []) keep
  picked_one r false c can keep = ap (λ (x : Bool). filter (j.keep w) (cond x (r ∷ []) [])) can

-- ---- one row

module _ {R : Type 0} (l : Layout) (sees : Whose) (whose : Asking) (parents : Asked → Record → List (Option Record)) (keep : List (Option Record) → Record → Bool) (ranked : List (Option Record) → Record → R) where
  abbrev pub j : Judging R
  j = judging sees (whose l.org) parents keep ranked

  module _ (m : Tables) (row : KeptRow) where
    -- who asks may not read it
    pub unreadable : (old : Gathered R) (b : Bool) → TellsReadable l sees row m (Ok b) → b ≡ false → AdmitsRow l j row old old m (Ok tt)
    unreadable old b tells not = λ q w s h its r has made.
        let can = sym (tells q w.tenant w.user r s h its.0 has made) ∙ not in
        subst (GathersRows (IsOf l (j.parents w)) (j.rank w) old old) (sym (picked_one j w r false (j.keep w r) can refl)) (gathers_nothing (IsOf l (j.parents w)) (j.rank w) old)

    pub sight_failed : (old new : Gathered R) (e : StoreFail) → TellsReadable l sees row m (Err e) → AdmitsRow l j row old new m (Err e)
    sight_failed old new Damaged tells = λ q w s h its r has made. tells q w.tenant w.user r s h its.0 has made
    sight_failed old new Keeper tells = tt
    sight_failed old new Memory tells = tt

    -- who asks may read it
    module _ (tells : TellsReadable l sees row m (Ok true)) (n : Tables) (same : n ≡ m) where
      abbrev Finds : Result (Option (R × (List ℕ × List (Option Record)))) StoreFail → Type 0
      Finds = FindsOfSeen l whose (kept_record l row) (judged keep ranked parents) n

      pub unkept : (old : Gathered R) → Finds (Ok None) → AdmitsRow l j row old old m (Ok tt)
      unkept old finds = λ q w s h its r has made.
          let here = subst (λ (x : Tables). StandsIn l.org q x (Some w.tenant)) (sym same) s in
          let can = sym (tells q w.tenant w.user r s h its.0 has made) in
          by w r can (j.keep w r) refl (finds q w r here h its.1 has made)
        where
          by : (w : Asked) (r : Record) → can_read w.tenant w.user r ≡ true → (b : Bool) → keep (parents w r) r ≡ b → None ≡ judged keep ranked parents w r
              → GathersRows (IsOf l (j.parents w)) (j.rank w) old old (picked j w (r ∷ []))
          by w r can true is e = absurd (apart (e ∙ ap (λ (x : Bool). cond x (Some (ranked (parents w r) r, (r.id, parents w r))) None) is))
            where
              apart : {Z : Type 0} {z : Z} → None ≡ Some z → ⊥
              apart e = cc
          by w r can false is e = subst (GathersRows (IsOf l (j.parents w)) (j.rank w) old old) (sym (picked_one j w r true false can is)) (gathers_nothing (IsOf l (j.parents w)) (j.rank w) old)

      admitted : (old new : Gathered R) (k : R) (i : List ℕ) (far : List (Option Record)) → Finds (Ok (Some (k, (i, far))))
          → new ≡ old ++ record { rank = k; id = i; kept = record { kept = row; parents = far } } ∷ [] → AdmitsRow l j row old new m (Ok tt)
      admitted old new k i far finds pushed = λ q w s h its r has made.
          let here = subst (λ (x : Tables). StandsIn l.org q x (Some w.tenant)) (sym same) s in
          let can = sym (tells q w.tenant w.user r s h its.0 has made) in
          by w r made can (j.keep w r) refl (finds q w r here h its.1 has made)
        where
          by : (w : Asked) (r : Record) → kept_record l row ≡ Some r → can_read w.tenant w.user r ≡ true → (b : Bool) → keep (parents w r) r ≡ b → Some (k, (i, far)) ≡ judged keep ranked parents w r
              → GathersRows (IsOf l (j.parents w)) (j.rank w) old new (picked j w (r ∷ []))
          by w r made can true is e =
              let all : ◌≡◌ {A = Option (R × (List ℕ × List (Option Record)))} (Some (k, (i, far))) (Some (ranked (parents w r) r, (r.id, parents w r))) =
              e ∙ ap (λ (x : Bool). cond x (Some (ranked (parents w r) r, (r.id, parents w r))) None) is in
              let both : ◌≡◌ {A = R × (List ℕ × List (Option Record))} (k, (i, far)) (ranked (parents w r) r, (r.id, parents w r)) = cc in
              subst (GathersRows (IsOf l (j.parents w)) (j.rank w) old new) (sym (picked_one j w r true true can is))
              (gathers_row (IsOf l (j.parents w)) (j.rank w) old new (record { rank = k; id = i; kept = record { kept = row; parents = far } }) r
              (record { spelled = made; beside = ap (λ (p : R × (List ℕ × List (Option Record))). p.1.1) both })
              (ap (λ (p : R × (List ℕ × List (Option Record))). p.0) both) (ap (λ (p : R × (List ℕ × List (Option Record))). p.1.0) both) pushed)
          by w r made can false is e = absurd (apart (sym (ap (λ (x : Bool). cond x (Some (ranked (parents w r) r, (r.id, parents w r))) None) is) ∙ sym e))
            where
              apart : {Z : Type 0} {z : Z} → None ≡ Some z → ⊥
              apart e = cc

      pub admitted_so : (old new : Gathered R) (found : R × (List ℕ × List (Option Record))) → Finds (Ok (Some found)) → (result : Result (Unit {0}) StoreFail)
          → PutsBehind row found old new result → AdmitsRow l j row old new m result
      admitted_so old new found finds (Ok x) pushed = admitted old new found.0 found.1.0 found.1.1 finds pushed
      admitted_so old new found finds (Err Damaged) pushed = absurd pushed
      admitted_so old new found finds (Err Keeper) pushed = tt
      admitted_so old new found finds (Err Memory) pushed = tt

      pub unjudged : (old new : Gathered R) (e : StoreFail) → Finds (Err e) → AdmitsRow l j row old new m (Err e)
      unjudged old new Damaged finds = λ q w s h its r has made.
          finds q w r (subst (λ (x : Tables). StandsIn l.org q x (Some w.tenant)) (sym same) s) h its.1 has made
      unjudged old new Keeper finds = tt
      unjudged old new Memory finds = tt

-- what is out of memory alone doesn't end as the keeper's failure
pub put_not_fallen : {R : Type 0} (row : KeptRow) (found : R × (List ℕ × List (Option Record))) (old new : Gathered R) (result : Result (Unit {0}) StoreFail)
    → PutsBehind row found old new result → ended result ≡ fell → ⊥
put_not_fallen row found old new (Ok x) h e = cc
put_not_fallen row found old new (Err Damaged) h e = h
put_not_fallen row found old new (Err Keeper) h e = h
put_not_fallen row found old new (Err Memory) h e = cc

-- ---- rows, one after the other

module _ {R K : Type 0} (state : K → KeeperState) (l : Layout) (j : Judging R) (each : ℕ) where
  -- of some of these rows those were put behind the others that are picked, and these are left
  pub record Admitting (rows left : List KeptRow) (old kept : Gathered R) (a b : Held K) : Type 0 where
    pub way : Passing state l j.who (λ w. Spells l) each rows left (GathersPicked l j old kept) a b
    pub sized : length kept + length left ≤ length old + length rows

  -- one row more
  pub admits_more : (old kept new : Gathered R) (w : Asked) (r : Record) → GathersPicked l j kept new w (r ∷ []) → (seen : List Record) → GathersPicked l j old kept w seen → GathersPicked l j old new w (seen ++ r ∷ [])
  admits_more old kept new w r one seen goes =
      subst (GathersRows (IsOf l (j.parents w)) (j.rank w) old new) (sym (picked_both j w seen (r ∷ [])))
      (gathers_more (IsOf l (j.parents w)) (j.rank w) old kept new (picked j w seen) (picked j w (r ∷ [])) goes one)

  -- it stopped at a row
  module _ (tells : TellsBoth state) (then : CallsThen state) (rows more : List KeptRow) (old kept new : Gathered R) (x : KeptRow) (a b c : Held K)
      (g : Passing state l j.who (λ w. Spells l) each rows (x ∷ more) (GathersPicked l j old kept) a b) where
    pub admits_failed : (e : StoreFail) → Calls state each (ended_by e) b c → (DraftTells state b c → AdmitsRow l j x kept new (tables_of state b) (Err e)) → DraftTells state a c
        → AdmitsRows l j rows old new (tables_of state a) (Err e)
    admits_failed Damaged calls row told =
        stops_here state l j.who (λ w. Spells l) each tells then rows more (GathersPicked l j old kept) x a b c g (ended_by Damaged) calls (λ w page. ⊥) told
        (λ tell q w s h its r has made seen rest goes. row tell q w s h its r has made)
    admits_failed Keeper calls row told = tt
    admits_failed Memory calls row told = tt

-- ---- a page

has_front : (xs ys : List Record) (r : Record) → Has xs r → Has (xs ++ ys) r
has_front [] ys r h = absurd h
has_front (x ∷ xs) ys r (inl same) = inl same
has_front (x ∷ xs) ys r (inr later) = inr (has_front xs ys r later)

-- a page of the records after an id has none but them
pub page_has : (rs page : List Record) (from to : Option (List ℕ)) → page ++ beyond to rs ≡ beyond from rs → (r : Record) → Has page r → Has rs r
page_has rs page from to on r h =
    (has_filter (λ (x : Record). is_past from x.id) rs r (subst (λ (xs : List Record). Has xs r) on (has_front page (beyond to rs) r h))).0

module _ {R K : Type 0} (l : Layout) (j : Judging R) (state : K → KeeperState) (each : ℕ) (from to : Pages) (old new : Gathered R) where
  module _ (tells : TellsBoth state) (then : CallsThen state) {A : Type 0} (v : Vec KeptRow A) (a b c : Held K)
      (calls : Calls state (length v.items + removals_of state 7 a) done a b) (page : DraftTells state a b → ReadsPage l from to (tables_of state a) (Ok v)) where
    pub turns_page : (r : Result (Unit {0}) StoreFail) → Calls state (each * length v.items) (ended r) b c → OnOk r (length new ≤ length old + length v.items)
        → (DraftTells state b c → AdmitsRows l j v.items old new (tables_of state b) r) → TurnsPage l j state each from to old new a c r
    turns_page r judged sized keeps =
        let many : (length v.items + removals_of state 7 a) + each * length v.items ≡ (1 + each) * length v.items + removals_of state 7 a =
        omega (arith, add-mul 1 each (length v.items)) in
        record {
          count = length v.items;
          few = λ told. (page (tells _ _ a b c calls.reads judged.reads told).0).0;
          sized = sized;
          calls = subst (λ (n : ℕ). Calls state n (ended r) a c) many (then _ _ (ended r) a b c calls judged);
          page = λ told.
              let tell = tells _ _ a b c calls.reads judged.reads told in
              by tell.0 tell.2 r (keeps tell.1);
        }
      where
        by : DraftTells state a b → tables_of state b ≡ tables_of state a → (f : Result (Unit {0}) StoreFail) → AdmitsRows l j v.items old new (tables_of state b) f
            → FindsPicked l j from to (length v.items) old new (tables_of state a) f
        by told same (Ok x) k = λ q w s h its.
            let p = (page told).1 q w.tenant s h in
            record {
              page = p.page;
              many = each_length (kept_record l) v.items p.page p.read;
              gathers = k q w (subst (λ (m : Tables). StandsIn l.org q m (Some w.tenant)) (sym same) s) h its p.page (each_of_made (kept_record l) v.items p.page p.read)
                  (page_has (records_of w.tenant l.object) p.page from.after to.after p.on);
              on = p.on;
              full = p.full;
              enough = p.enough;
            }
        by told same (Err Damaged) k = λ q w s h its.
            let p = (page told).1 q w.tenant s h in
            k q w (subst (λ (m : Tables). StandsIn l.org q m (Some w.tenant)) (sym same) s) h its p.page (each_of_made (kept_record l) v.items p.page p.read)
            (page_has (records_of w.tenant l.object) p.page from.after to.after p.on)
        by told same (Err Keeper) k = tt
        by told same (Err Memory) k = tt

  -- a page that wasn't read
  pub page_failed : {A : Type 0} → ReadsMost state → (a b : Held K) (rows : Result (Vec KeptRow A) StoreFail) (e : StoreFail) → rows ≡ Err e → Calls state (250 + removals_of state 7 a) (ended_by e) a b
      → (DraftTells state a b → ReadsPage l from to (tables_of state a) rows) → TurnsPage l j state each from to old new a b (Err e)
  page_failed {A = A} most_of a b rows e is calls page =
      record {
        count = 250;
        few = λ told. omega arith;
        sized = tt;
        calls = shows_more state most_of (250 + removals_of state 7 a) ((1 + each) * 250 + removals_of state 7 a) (ended_by e) a b (λ told. omega arith) calls;
        page = λ told. by e (subst (ReadsPage l from to (tables_of state a)) is (page told));
      }
    where
      by : (f : StoreFail) → ReadsPage {A = A} l from to (tables_of state a) (Err f) → FindsPicked l j from to 250 old new (tables_of state a) (Err f)
      by Damaged h = λ q w s i its. h q w.tenant s i
      by Keeper h = tt
      by Memory h = tt
