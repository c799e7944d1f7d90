-- An object's records, page after page.
use Rattle.std.proofs.Common.{◌≡◌, ◌∙◌, ℕ, suc, ◌+◌, ◌*◌, ◌<◌, ◌≤◌, true, false, List, Option, [], ◌++◌, Some, None, refl, sym, ap, subst, arith, true≢false, append_assoc, append-nil, drop, length, filter, take, take-append-drop}
use Rattle.std.specs.Prelude.{Result, Ok, Err, Vec}
use Rattle.std.specs.Cmp.{IsTotalOrder, on_total, then_total}
use Rattle.std.specs.declared.cmp.Ordering.{Ordering}
use Rattle.std.specs.List.{flat_map}
use Rattle.std.proofs.Math.Nat.{add-mul, mul-add, mul-le-mul_left, mul-le-mul_right, suc-mul}
use Rattle.std.proofs.lemmas.List.{length-append, take-append-le}
use Rattle.std.proofs.lemmas.List.Kept.{IsStrictlySortedBy-filter}
use Rattle.base_lemmas.proofs.Lists.{nil_from_no_length as empty_of}
use Rattle.store_kv.specs.Draft.{DraftTells, Held, removals_of, state_of, tables_of}
use Rattle.store_kv.specs.Laid.{removals}
use Rattle.store_kv.specs.State.{KeeperState, ShowsMost}
use Rattle.store_kv.specs.Tables.{Tables}
use Rattle.store_rows.specs.declared.fail.StoreFail.{StoreFail}
use Rattle.store_rows.specs.declared.fail.StoreFail.TheVariants.{Damaged, Keeper, Memory}
use Rattle.record_read.specs.Decoding.{has_types}
use Rattle.record_read.proofs.Standing.{layout_is}
use Rattle.model.specs.declared.record.Record.{Record}
use Rattle.model.specs.Levels.{readable}
use Rattle.model.specs.Membership.{Has}
use Rattle.model.specs.Objects.{object_numbered, records_of}
use Rattle.model.specs.Ordered.{by_id, in_order}
use Rattle.model.specs.Paths.{Asked}
use Rattle.model.specs.Rows.{limited}
use Rattle.model.specs.Sound.{IsSound}
use Rattle.model.specs.Tenant.{Object, Tenant}
use Rattle.store_abstraction.specs.declared.layout.Layout.{Layout}
use Rattle.store_abstraction.specs.Calls.{Calls, Ending, done, ended, ended_by, fell, stopped}
use Rattle.store_abstraction.specs.Layouts.{layout_of}
use Rattle.store_abstraction.specs.Local.{StandsIn}
use Rattle.store_abstraction.specs.Plan.{OrgPlan}
use Rattle.query_exec.specs.declared.candidates.Candidate.{Candidate}
use Rattle.query_exec.specs.declared.fail.ExecFail.{ExecFail}
use Rattle.query_exec.specs.declared.fail.ExecFail.TheVariants.{Store, TooLarge}
use Rattle.query_exec.specs.declared.offers.Progress.{Progress}
use Rattle.query_exec.specs.declared.pages.Pages.{Pages}
use Rattle.query_exec.specs.declared.ranked.Ranked.{Ranked}
use Rattle.query_exec.specs.declared.window.Window.{Window}
use Rattle.query_exec.specs.Ranks.{EachOf, SortsRanked, by_rank}
use Rattle.query_exec.specs.Windows.{HasAll, in_window, is_over}
use Rattle.query_exec.specs.Written.{AppendsRows, IfDone, InTenants, WritesRows, most_shown, rows_kept, shown_for, shown_in}
use Rattle.query_exec.specs.inner.Gathering.{FindsAll, GathersFirst, ReadsAll}
use Rattle.query_exec.specs.inner.Judging.{IsOf, Judging, OfRows, picked}
use Rattle.query_exec.specs.inner.Offers.{WritesTaken, Offered}
use Rattle.query_exec.specs.inner.Permitted.{FindsPicked, Gathered, GathersPicked, TurnsPage}
use Rattle.query_exec.specs.inner.Reading.{beyond}
use Rattle.query_exec.proofs.Cutting.{GathersApart}
use Rattle.query_exec.proofs.Offering.{all_over, all_written, goes_on, none_taken, over_takes_none, stops}
use Rattle.query_exec.proofs.Paging.{Ascends, beyond_none, by_id_total}
use Rattle.query_exec.proofs.Passing.{CallsThen, ReadsMost, TellsBoth, shows_more}
use Rattle.query_exec.proofs.Permitting.{page_has, picked_both, picked_has, readable_is, readable_rises}
use Rattle.query_exec.proofs.Sorting.{gathered_each, ids_apart, sorted_records}
use Rattle.model.proofs.Sorted.{NoTies, in_order_has}

-- of these records so many were read, of those of them that are picked something holds, and there are pages enough for the others
pub record Reached (pick : List Record → List Record) (rs : List Record) (pages : Pages) (count : ℕ) (Q : List Record → Type 0) : Type 0 where
  pub seen : List Record
  pub split : seen ++ beyond pages.after rs ≡ rs
  pub many : length seen ≡ count
  pub enough : length (beyond pages.after rs) ≤ 250 * pages.left
  pub does : Q (pick seen)

-- ---- laws of the layers below

abbrev pub Typed : Type 0
Typed = (org n : ℕ) (p : OrgPlan) (t : Tenant) (o : Object) → IsSound t → object_numbered t n ≡ Some o → has_types (layout_of org p t (record { number = n; object = o })) ≡ true

-- the layout of an object of a tenant has types
pub has_no_types : Typed → (l : Layout) (who : OrgPlan → Asked → Type 0) (m : Tables) → has_types l ≡ false → InTenants l who m (λ a. ⊥)
has_no_types typed l who m none = λ q w s h its.
    let one = layout_is q w.tenant l h in
    let typed_so : has_types l ≡ true = subst (λ (k : Layout). has_types k ≡ true) one.made (typed l.org l.object q w.tenant one.object s.sound one.there) in
    absurd cc

-- of those of which it holds the first are not enough
abbrev pub NotYet : (Enough : List Record → Type 0) → (Asked → List Record → Type 0) → Type 0
NotYet Enough Q = (w : Asked) (seen more : List Record) → Q w (seen ++ more) → Enough seen → ⊥

-- what isn't among so many is beyond them
beyond_turns : (turns n : ℕ) → (n ≤ turns → ⊥) → suc turns ≤ n
beyond_turns turns n h = omega (arith, h)

module _ {K : Type 0} (state : K → KeeperState) where
  abbrev removed : Held K → ℕ
  removed a = removals_of state 7 a

  -- so many pages were read, each but the last a full one and none behind those whose records that are picked are enough; at most so many rows
  -- are kept, and of the records so far that are picked something holds
  pub record UnderWay {R : Type 0} (l : Layout) (j : Judging R) (each : ℕ) (Enough : List Record → Type 0) (Q : Asked → List Record → Type 0) (pages : Pages) (size : ℕ) (e : Ending) (a b : Held K) : Type 0 where
    pub records : ℕ
    pub turns : ℕ
    pub count : turns + pages.left ≤ 80
    pub sized : size ≤ records
    pub calls : Calls state ((1 + each) * records + turns * removals_of state 7 a) e a b
    pub few : DraftTells state a b → records ≤ 250 * turns
    pub full : DraftTells state a b → InTenants l j.who (tables_of state a) (λ w. 0 < pages.left → 250 * turns ≤ records)
    pub early : DraftTells state a b → InTenants l j.who (tables_of state a) (λ w. (n : ℕ) → Enough (picked j w (take (250 * n) (records_of w.tenant l.object))) → turns ≤ n)
    pub reached : DraftTells state a b → InTenants l j.who (tables_of state a) (λ w. Reached (picked j w) (records_of w.tenant l.object) pages records (Q w))

  module _ {R : Type 0} (l : Layout) (j : Judging R) (each : ℕ) {Enough : List Record → Type 0} where
    pub begins : (Q : Asked → List Record → Type 0) (a : Held K) → Calls state 0 done a a → ((w : Asked) → Q w []) → UnderWay l j each Enough Q (record { after = None; left = 80 }) 0 done a a
    begins Q a none first = record {
      records = 0;
      turns = 0;
      count = omega arith;
      sized = omega arith;
      calls = subst (λ (n : ℕ). Calls state n done a a) (omega arith) none;
      few = λ told. omega arith;
      full = λ told q w s h its some. omega arith;
      early = λ told q w s h its n enough. omega arith;
      reached = λ told q w s h its. record {
        seen = [];
        split = beyond_none (records_of w.tenant l.object);
        many = refl;
        enough = subst (λ (rs : List Record). length rs ≤ 20000) (sym (beyond_none (records_of w.tenant l.object))) (s.sound.records.few_of l.object);
        does = first w;
      };
    }

    module _ (tells : TellsBoth state) (then : CallsThen state) (most_of : ReadsMost state) (Q : Asked → List Record → Type 0) (pages : Pages) (size : ℕ) (a b : Held K) (u : UnderWay l j each Enough Q pages size done a b) where
      -- the records of full pages that were seen are the first ones, and what is enough of them is so of all that were seen
      not_enough : (w : Asked) → Reached (picked j w) (records_of w.tenant l.object) pages u.records (Q w) → 250 * u.turns ≤ u.records
          → (n : ℕ) → n ≤ u.turns → NotYet Enough Q → Enough (picked j w (take (250 * n) (records_of w.tenant l.object))) → ⊥
      not_enough w r full n few not_yet enough =
          let within : 250 * n ≤ length r.seen = omega (arith, full, few, r.many) in
          let first : take (250 * n) (records_of w.tenant l.object) ≡ take (250 * n) r.seen =
          ap (take (250 * n)) (sym r.split) ∙ take-append-le (250 * n) r.seen (beyond pages.after (records_of w.tenant l.object)) within in
          let both : picked j w r.seen ≡ picked j w (take (250 * n) r.seen) ++ picked j w (drop (250 * n) r.seen) =
          ap (picked j w) (sym (take-append-drop (250 * n) r.seen)) ∙ picked_both j w (take (250 * n) r.seen) (drop (250 * n) r.seen) in
          not_yet w (picked j w (take (250 * n) r.seen)) (picked j w (drop (250 * n) r.seen)) (subst (Q w) both r.does) (subst (λ (rs : List Record). Enough (picked j w rs)) first enough)

      same_removed : removed b ≡ removed a
      same_removed = ap (removals 7) u.calls.reads.changes

      -- one page more, for whose rows something more is read
      module _ (own kids : ℕ) (all : own + kids ≡ each) (turned : Pages) (old new : Gathered R) (c d : Held K) (page : TurnsPage l j state own pages turned old new b c (Ok tt)) (less : turned.left < pages.left)
          (more : ℕ) (few : more ≤ kids * page.count) (e : Ending) (later : Calls state more e c d) where
        shown_most : (((1 + each) * u.records + u.turns * removed a) + ((1 + own) * page.count + removed b)) + more ≤ (1 + each) * (u.records + page.count) + suc u.turns * removed a
        shown_most =
            let one : suc u.turns * removed a ≡ u.turns * removed a + removed a = suc-mul u.turns (removed a) in
            let both : (1 + each) * (u.records + page.count) ≡ (1 + each) * u.records + (1 + each) * page.count = mul-add (1 + each) u.records page.count in
            let apart : ((1 + own) + kids) * page.count ≡ (1 + own) * page.count + kids * page.count = add-mul (1 + own) kids page.count in
            let same : (1 + each) * page.count ≡ ((1 + own) + kids) * page.count = ap (λ (n : ℕ). n * page.count) (omega (arith, all)) in
            omega (arith, one, both, apart, same, few, same_removed)

        abbrev two_reads : Calls state (((1 + each) * u.records + u.turns * removed a) + ((1 + own) * page.count + removed b)) done a c
        two_reads = then _ _ done a b c u.calls page.calls

        -- as long as those seen are not enough
        pub turn : NotYet Enough Q → (P : Asked → List Record → Type 0) (to : ℕ) → to ≤ size + page.count
            → (DraftTells state a d → InTenants l j.who (tables_of state a) (λ w. (seen page : List Record) → ((r : Record) → Has page r → Has (records_of w.tenant l.object) r)
            → GathersPicked l j old new w page → Q w seen → P w (seen ++ picked j w page))) → UnderWay l j each Enough P turned to e a d
        turn not_yet P to fits step = record {
          records = u.records + page.count;
          turns = suc u.turns;
          count = omega (arith, u.count, less);
          sized = omega (arith, u.sized, fits);
          calls = shows_more state most_of _ ((1 + each) * (u.records + page.count) + suc u.turns * removed a) e a d (λ told. shown_most) (then _ _ e a c d two_reads later);
          few = λ told.
              let first = tells _ _ a c d two_reads.reads later.reads told in
              let tell = tells _ _ a b c u.calls.reads page.calls.reads first.0 in
              let before : u.records ≤ 250 * u.turns = u.few tell.0 in
              let now : page.count ≤ 250 = page.few tell.1 in
              omega (arith, before, now);
          full = λ told q w s h its some.
              let first = tells _ _ a c d two_reads.reads later.reads told in
              let tell = tells _ _ a b c u.calls.reads page.calls.reads first.0 in
              let p = page.page tell.1 q w (subst (λ (m : Tables). StandsIn l.org q m (Some w.tenant)) (sym tell.2) s) h its in
              let before : 250 * u.turns ≤ u.records = u.full tell.0 q w s h its (omega (arith, less)) in
              let now : 250 ≤ page.count = p.full some in
              omega (arith, before, now);
          early = λ told q w s h its n enough.
              let first = tells _ _ a c d two_reads.reads later.reads told in
              let tell = tells _ _ a b c u.calls.reads page.calls.reads first.0 in
              beyond_turns u.turns n (λ few.
              not_enough w (u.reached tell.0 q w s h its) (u.full tell.0 q w s h its (omega (arith, less))) n few not_yet enough);
          reached = λ told q w s h its.
              let first = tells _ _ a c d two_reads.reads later.reads told in
              let tell = tells _ _ a b c u.calls.reads page.calls.reads first.0 in
              let r = u.reached tell.0 q w s h its in
              let p = page.page tell.1 q w (subst (λ (m : Tables). StandsIn l.org q m (Some w.tenant)) (sym tell.2) s) h its in
              record {
                seen = r.seen ++ p.page;
                split = append_assoc r.seen p.page (beyond turned.after (records_of w.tenant l.object)) ∙ ap (λ (rs : List Record). r.seen ++ rs) p.on ∙ r.split;
                many = length-append r.seen p.page ∙ ap (λ (n : ℕ). n + length p.page) r.many ∙ ap (λ (n : ℕ). u.records + n) p.many;
                enough = p.enough r.enough;
                does = subst (P w) (sym (picked_both j w r.seen p.page))
                    (step told q w s h its (picked j w r.seen) p.page (page_has (records_of w.tenant l.object) p.page pages.after turned.after p.on) p.gathers r.does);
              };
        }

        -- whose rows are offered
        pub turn_offers : NotYet Enough Q → (offering : OrgPlan → Asked → Type 0) → ((q : OrgPlan) (w : Asked) → j.who q w → offering q w) → old ≡ [] → (T : Asked → List Record → Type 0)
            → (DraftTells state c d → OfRows l offering (λ w (x : Ranked R Candidate). IsOf l (j.parents w) x.kept) new (tables_of state c) T)
            → (P : Asked → List Record → Type 0) → ((w : Asked) (seen page : List Record) → Q w seen → T w page → P w (seen ++ page)) → UnderWay l j each Enough P turned 0 e a d
        turn_offers not_yet offering its_own none T offers P joins = turn not_yet P 0 (omega arith) (λ told q w s h its seen rows has gathers goes.
            let first = tells _ _ a c d two_reads.reads later.reads told in
            let here = subst (λ (m : Tables). StandsIn l.org q m (Some w.tenant)) (sym first.2) s in
            let from_none = subst (λ (xs : Gathered R). GathersPicked l j xs new w rows) none gathers in
            joins w seen (picked j w rows) goes
            (offers first.1 q w here h (its_own q w its) (picked j w rows) (gathered_each (IsOf l (j.parents w)) (j.rank w) new (picked j w rows) from_none)
            (λ r inside. has r (picked_has j w rows r inside))))

      -- a page that failed
      module _ (own kids : ℕ) (all : own + kids ≡ each) (some : 0 < pages.left) (turned : Pages) (old new : Gathered R) (c : Held K) (e : StoreFail) (page : TurnsPage l j state own pages turned old new b c (Err e)) where
        failed_reads : Calls state ((1 + each) * (u.records + page.count) + suc u.turns * removed a) (ended_by e) a c
        failed_reads =
            let one : suc u.turns * removed a ≡ u.turns * removed a + removed a = suc-mul u.turns (removed a) in
            let both : (1 + each) * (u.records + page.count) ≡ (1 + each) * u.records + (1 + each) * page.count = mul-add (1 + each) u.records page.count in
            let apart : ((1 + own) + kids) * page.count ≡ (1 + own) * page.count + kids * page.count = add-mul (1 + own) kids page.count in
            let same : (1 + each) * page.count ≡ ((1 + own) + kids) * page.count = ap (λ (n : ℕ). n * page.count) (omega (arith, all)) in
            shows_more state most_of _ ((1 + each) * (u.records + page.count) + suc u.turns * removed a) (ended_by e) a c
            (λ told. omega (arith, one, both, apart, same, same_removed)) (then _ _ (ended_by e) a b c u.calls page.calls)

        failed_few : DraftTells state a c → u.records + page.count ≤ 20000
        failed_few told =
            let tell = tells _ _ a b c u.calls.reads page.calls.reads told in
            let before : u.records ≤ 250 * u.turns = u.few tell.0 in
            let now : page.count ≤ 250 = page.few tell.1 in
            omega (arith, before, now, u.count, some)

        failed_turns : suc u.turns * removed a ≤ 80 * removed a
        failed_turns = mul-le-mul_right (removed a) (omega (arith, u.count, some))

        pub failed_calls : Calls state (most_shown each (removals_of state 7 a)) (ended_by e) a c
        failed_calls =
            shows_more state most_of ((1 + each) * (u.records + page.count) + suc u.turns * removed a) (most_shown each (removals_of state 7 a)) (ended_by e) a c
            (λ told.
            let shown : (1 + each) * (u.records + page.count) ≤ (1 + each) * 20000 = mul-le-mul_left (1 + each) (failed_few told) in
            omega (arith, shown, failed_turns)) failed_reads

        pub failed_all : {A : Type 0} → ReadsAll {A = A} l j state each a c (Err e)
        failed_all {A = A} = record {
          records = u.records + page.count;
          calls = shows_more state most_of ((1 + each) * (u.records + page.count) + suc u.turns * removed a) ((1 + each) * (u.records + page.count) + 80 * removed a) (ended_by e) a c
              (λ told. omega (arith, failed_turns)) failed_reads;
          few = failed_few;
          its = λ told. by e;
          sized = tt;
        }
          where
            by : (f : StoreFail) → IfDone (ended {X = Vec (Ranked R Candidate) A} (Err f)) (InTenants l j.who (tables_of state a) (λ w. u.records + page.count ≤ length (records_of w.tenant l.object)))
            by Damaged = tt
            by Keeper = tt
            by Memory = tt

        -- it wasn't damaged
        pub page_undamaged : DraftTells state a c → e ≡ Damaged → InTenants l j.who (tables_of state a) (λ w. ⊥)
        page_undamaged told is = λ q w s h its.
            let tell = tells _ _ a b c u.calls.reads page.calls.reads told in
            let found = subst (λ (f : StoreFail). FindsPicked l j pages turned page.count old new (tables_of state b) (Err f)) is (page.page tell.1) in
            found q w (subst (λ (m : Tables). StandsIn l.org q m (Some w.tenant)) (sym tell.2) s) h its

        pub page_unfound : {A : Type 0} (cmp : R → R → Ordering) (wanted : Option ℕ) → DraftTells state a c → (rows : Result (Vec (Ranked R Candidate) A) StoreFail) → rows ≡ Err e → FindsAll l j cmp wanted (tables_of state a) rows
        page_unfound {A = A} cmp wanted told rows is = subst (FindsAll l j cmp wanted (tables_of state a)) (sym is) (by e (page_undamaged told))
          where
            by : (f : StoreFail) → (f ≡ Damaged → InTenants l j.who (tables_of state a) (λ w. ⊥)) → FindsAll {A = A} l j cmp wanted (tables_of state a) (Err f)
            by Damaged h = h refl
            by Keeper h = tt
            by Memory h = tt

    module _ (Q : Asked → List Record → Type 0) (pages : Pages) (size : ℕ) (e : Ending) (a b : Held K) (u : UnderWay l j each Enough Q pages size e a b) where
      turned_few : u.turns * removed a ≤ 80 * removed a
      turned_few = mul-le-mul_right (removed a) (omega (arith, u.count))

      all_few : DraftTells state a b → u.records ≤ 20000
      all_few told = let before : u.records ≤ 250 * u.turns = u.few told in omega (arith, before, u.count)

      pub all_calls : ReadsMost state → Calls state (most_shown each (removals_of state 7 a)) e a b
      all_calls most_of =
          shows_more state most_of ((1 + each) * u.records + u.turns * removals_of state 7 a) (most_shown each (removals_of state 7 a)) e a b
          (λ told.
          let shown : (1 + each) * u.records ≤ (1 + each) * 20000 = mul-le-mul_left (1 + each) (all_few told) in
          omega (arith, shown, turned_few)) u.calls

      -- no more were read than there are
      all_there : DraftTells state a b → InTenants l j.who (tables_of state a) (λ w. u.records ≤ length (records_of w.tenant l.object))
      all_there told = λ q w s h its.
          let r = u.reached told q w s h its in
          let part : length r.seen + length (beyond pages.after (records_of w.tenant l.object)) ≡ length (records_of w.tenant l.object) =
          sym (length-append r.seen (beyond pages.after (records_of w.tenant l.object))) ∙ ap length r.split in
          omega (arith, part, r.many)

      all_shown : DraftTells state a b → InTenants l j.who (tables_of state a) (λ w. ShowsMost (shown_for each (length (records_of w.tenant l.object)) (removals_of state 7 a)) (state_of state a) (state_of state b))
      all_shown told = λ q w s h its.
          let few : u.records ≤ length (records_of w.tenant l.object) = all_there told q w s h its in
          let all : (1 + each) * u.records ≤ (1 + each) * length (records_of w.tenant l.object) = mul-le-mul_left (1 + each) few in
          let shows = u.calls.reads.shows told in
          omega (arith, all, shows, turned_few)

      pub any_shown : DraftTells state a b → (f : Ending)
          → IfDone f (InTenants l j.who (tables_of state a) (λ w. ShowsMost (shown_for each (length (records_of w.tenant l.object)) (removals_of state 7 a)) (state_of state a) (state_of state b)))
      any_shown told done = all_shown told
      any_shown told fell = tt
      any_shown told stopped = tt

      -- no page was read behind those that are enough
      pub any_early : DraftTells state a b → (f : Ending)
          → IfDone f (InTenants l j.who (tables_of state a) (λ w. (n : ℕ) → Enough (picked j w (take (250 * n) (records_of w.tenant l.object)))
          → ShowsMost (shown_in each n (removals_of state 7 a)) (state_of state a) (state_of state b)))
      any_early told done = λ q w s h its n enough.
          let last : u.turns ≤ n = u.early told q w s h its n enough in
          let few : u.records ≤ 250 * u.turns = u.few told in
          let all : (1 + each) * u.records ≤ (1 + each) * (250 * n) = mul-le-mul_left (1 + each) (omega (arith, last, few)) in
          let gone : u.turns * removed a ≤ n * removed a = mul-le-mul_right (removed a) last in
          let shows = u.calls.reads.shows told in
          omega (arith, all, gone, shows)
      any_early told fell = tt
      any_early told stopped = tt

      -- all pages were read
      pub all_read : pages.left ≤ 0 → DraftTells state a b → InTenants l j.who (tables_of state a) (λ w. Q w (picked j w (records_of w.tenant l.object)))
      all_read none told = λ q w s h its.
          let r = u.reached told q w s h its in
          let rest = beyond pages.after (records_of w.tenant l.object) in
          let empty : rest ≡ [] = empty_of rest (omega (arith, r.enough, none)) in
          let whole : r.seen ≡ records_of w.tenant l.object = sym (append-nil r.seen) ∙ ap (λ (rs : List Record). r.seen ++ rs) (sym empty) ∙ r.split in
          subst (λ (rs : List Record). Q w (picked j w rs)) whole r.does

    pub reads_all : {A : Type 0} → ReadsMost state → (Q : Asked → List Record → Type 0) (pages : Pages) (v : Vec (Ranked R Candidate) A) (a b : Held K) → UnderWay l j each Enough Q pages (length v.items) done a b
        → ReadsAll l j state each a b (Ok v)
    reads_all most_of Q pages v a b u = record {
      records = u.records;
      calls = shows_more state most_of ((1 + each) * u.records + u.turns * removals_of state 7 a) ((1 + each) * u.records + 80 * removals_of state 7 a) done a b
          (λ told. omega (arith, turned_few Q pages (length v.items) done a b u)) u.calls;
      few = all_few Q pages (length v.items) done a b u;
      its = all_there Q pages (length v.items) done a b u;
      sized = u.sized;
    }

  module _ {R : Type 0} (l : Layout) (j : Judging R) (each : ℕ) where
    -- none were gathered
    pub gathered_none : {A : Type 0} → ReadsMost state → (kids : ℕ) (a b : Held K) (e : StoreFail) → ReadsAll {A = A} l j state each a b (Err e) → Calls state (most_shown (each + kids) (removals_of state 7 a)) (ended_by e) a b
    gathered_none most_of kids a b e g =
        shows_more state most_of ((1 + each) * g.records + 80 * removed a) (most_shown (each + kids) (removals_of state 7 a)) (ended_by e) a b
        (λ told.
        let shown : (1 + each) * g.records ≤ (1 + each) * 20000 = mul-le-mul_left (1 + each) (g.few told) in
        let wide : (1 + each) * 20000 ≤ (1 + (each + kids)) * 20000 = mul-le-mul_right 20000 (omega arith) in
        omega (arith, shown, wide)) g.calls

    -- after all were gathered their rows are offered
    module _ {A : Type 0} (tells : TellsBoth state) (then : CallsThen state) (most_of : ReadsMost state) (kids : ℕ) (v : Vec (Ranked R Candidate) A) (more : ℕ) (few : more ≤ kids * length v.items) (e : Ending)
        (a b c : Held K) (g : ReadsAll l j state each a b (Ok v)) (later : Calls state more e b c) where
      all_most : ((1 + each) * g.records + 80 * removed a) + more ≤ (1 + (each + kids)) * g.records + 80 * removed a
      all_most =
          let apart : ((1 + each) + kids) * g.records ≡ (1 + each) * g.records + kids * g.records = add-mul (1 + each) kids g.records in
          let same : (1 + (each + kids)) * g.records ≡ ((1 + each) + kids) * g.records = ap (λ (n : ℕ). n * g.records) (omega arith) in
          let some : kids * length v.items ≤ kids * g.records = mul-le-mul_left kids g.sized in
          omega (arith, apart, same, some, few)

      offered_reads : Calls state ((1 + (each + kids)) * g.records + 80 * removed a) e a c
      offered_reads = shows_more state most_of _ ((1 + (each + kids)) * g.records + 80 * removed a) e a c (λ told. all_most) (then _ _ e a b c g.calls later)

      pub offered_calls : Calls state (most_shown (each + kids) (removals_of state 7 a)) e a c
      offered_calls =
          shows_more state most_of ((1 + (each + kids)) * g.records + 80 * removed a) (most_shown (each + kids) (removals_of state 7 a)) e a c
          (λ told.
          let tell = tells _ _ a b c g.calls.reads later.reads told in
          let shown : (1 + (each + kids)) * g.records ≤ (1 + (each + kids)) * 20000 = mul-le-mul_left (1 + (each + kids)) (g.few tell.0) in
          omega (arith, shown)) offered_reads

      pub offered_shown : DraftTells state a c → (f : Ending)
          → IfDone f (InTenants l j.who (tables_of state a) (λ w. ShowsMost (shown_for (each + kids) (length (records_of w.tenant l.object)) (removals_of state 7 a)) (state_of state a) (state_of state c)))
      offered_shown told done = λ q w s h its.
          let tell = tells _ _ a b c g.calls.reads later.reads told in
          let there : g.records ≤ length (records_of w.tenant l.object) = g.its tell.0 q w s h its in
          let all : (1 + (each + kids)) * g.records ≤ (1 + (each + kids)) * length (records_of w.tenant l.object) = mul-le-mul_left (1 + (each + kids)) there in
          let shows = offered_reads.reads.shows told in
          omega (arith, all, shows)
      offered_shown told fell = tt
      offered_shown told stopped = tt

-- ---- rows that are sorted

-- the rows that were sorted are those of some of the records that are picked, in order, the first of which are the first of all
pub record InOrder {R : Type 0} (l : Layout) (j : Judging R) (cmp : R → R → Ordering) (wanted : Option ℕ) (x : Asked) (sorted : Gathered R) : Type 0 where
  pub rows : List Record
  pub each : EachOf (λ (row : Ranked R Candidate) r. IsOf l (j.parents x) row.kept r) sorted rows
  pub has : (r : Record) → Has rows r → Has (records_of x.tenant l.object) r
  pub first : limited wanted rows ≡ limited wanted (in_order (by_rank cmp (j.rank x)) (filter (j.keep x) (readable x.tenant x.user l.object)))

module _ {R : Type 0} (l : Layout) (j : Judging R) (cmp : R → R → Ordering) (total : IsTotalOrder cmp) (wanted : Option ℕ) (x : Asked) where
  abbrev its_order : Record → Record → Ordering
  its_order = by_rank cmp (j.rank x)

  abbrev its_total : IsTotalOrder its_order
  its_total = then_total (on_total (j.rank x) total) by_id_total

  -- what was gathered in all
  pub gathered_all : (rows : Gathered R) → GathersApart cmp total (IsOf l (j.parents x)) (j.rank x) wanted rows (picked j x (records_of x.tenant l.object))
      → NoTies its_order (picked j x (records_of x.tenant l.object)) → GathersFirst l j cmp wanted rows x (picked j x (records_of x.tenant l.object))
  gathered_all rows goes apart =
      let rs = picked j x (records_of x.tenant l.object) in
      let g = goes apart in
      let none : NoTies its_order (rs ++ []) = subst (NoTies its_order) (sym (append-nil rs)) apart in
      record {
        kept = g.kept;
        rows = g.gathered;
        has = g.ahead.has;
        apart = subst (NoTies its_order) (append-nil g.kept) (g.ahead.apart [] none);
        first = ap (λ (ys : List Record). limited wanted (in_order its_order ys)) (sym (append-nil g.kept)) ∙ g.ahead.first [] none
            ∙ ap (λ (ys : List Record). limited wanted (in_order its_order ys)) (append-nil rs);
      }

  pub in_order_so : (old sorted : Gathered R) → SortsRanked cmp old sorted → Ascends (records_of x.tenant l.object)
      → (NoTies its_order (picked j x (records_of x.tenant l.object)) → GathersFirst l j cmp wanted old x (picked j x (records_of x.tenant l.object))) → InOrder l j cmp wanted x sorted
  in_order_so old sorted sorts up gathers =
      let rs = picked j x (records_of x.tenant l.object) in
      let same : rs ≡ filter (j.keep x) (readable x.tenant x.user l.object) = ap (filter (j.keep x)) (sym (readable_is x.tenant x.user l.object)) in
      let rise : Ascends rs = subst Ascends (sym same) (IsStrictlySortedBy-filter by_id (j.keep x) (readable x.tenant x.user l.object) (readable_rises x.tenant x.user l.object up)) in
      let g = gathers (ids_apart cmp (IsOf l (j.parents x)) (j.rank x) rs rise) in
      record {
        rows = in_order its_order g.kept;
        each = sorted_records cmp (IsOf l (j.parents x)) (j.rank x) g.kept old sorted g.apart g.rows sorts;
        has = λ r h. picked_has j x (records_of x.tenant l.object) r (g.has r (in_order_has its_order its_total g.kept r h));
        first = g.first ∙ ap (λ (ys : List Record). limited wanted (in_order its_order ys)) same;
      }

-- so it is of rows of which the same are taken
pub record Taken (w : Window) (chosen : List Record) (T : List Record → Type 0) : Type 0 where
  pub rows : List Record
  pub its : T rows
  pub same : in_window w rows ≡ in_window w chosen

-- ---- rows that are written as they come

module _ (row : Asked → Record → List ℕ) (w : Window) (room : ℕ) (old : List ℕ) where
  abbrev pub start : Progress
  start = record { window = w; room = room; count = 0 }

  -- those that are picked were offered
  abbrev pub Offers : Progress → (new : List ℕ) → Asked → List Record → Type 0
  Offers p new a seen = WritesTaken (row a) start p old new seen

  -- it stopped at one of these, whatever follows them
  abbrev pub Stopped : Progress → (new : List ℕ) → ExecFail → Asked → List Record → Type 0
  Stopped p new e a seen = (rest : List Record) → Offered (row a) start p old new (seen ++ rest) (Err e)

  pub offers_more : (p c : Progress) (mid new : List ℕ) (a : Asked) (seen page : List Record) → Offers p mid a seen → WritesTaken (row a) p c mid new page → Offers c new a (seen ++ page)
  offers_more p c mid new a seen page g h = goes_on (row a) start p old mid seen g c new page h

  pub stops_at : (p c : Progress) (mid new : List ℕ) (e : ExecFail) (a : Asked) (seen page : List Record) → Offers p mid a seen → Offered (row a) p c mid new page (Err e) → Stopped c new e a (seen ++ page)
  stops_at p c mid new e a seen page g h = λ rest.
      subst (λ (rs : List Record). Offered (row a) start c old new rs (Err e)) (sym (append_assoc seen page rest)) (stops (row a) start p old mid seen g c new page rest e h)

  -- of all rows that were to be offered

  module _ (l : Layout) (who : OrgPlan → Asked → Type 0) (m : Tables) (chosen : Asked → List Record) where
    pub what_offered : (p : Progress) (new : List ℕ) → InTenants l who m (λ a. Taken w (chosen a) (WritesTaken (row a) start p old new)) → WritesRows l who (λ a. in_window w (chosen a)) row room old new m (Ok p.count)
    what_offered p new g = λ q a s h its.
        let x = g q a s h its in
        let whole = all_written (row a) start p old new x.rows [] x.its (none_taken p.window) in
        subst (λ (rs : List Record). AppendsRows (row a) room rs old new p.count) (ap (in_window w) (append-nil x.rows) ∙ x.same)
        (record { counted = whole.counted ∙ omega arith; appended = whole.appended; fits = whole.fits })

    -- it stopped at one of them
    pub what_cut : (p : Progress) (new : List ℕ) (e : ExecFail) → InTenants l who m (λ a. Taken w (chosen a) (λ (rs : List Record). Offered (row a) start p old new rs (Err e))) → WritesRows l who (λ a. in_window w (chosen a)) row room old new m (Err e)
    what_cut p new TooLarge h = λ q a s here its.
        let x = h q a s here its in
        subst (λ (rs : List Record). room < length (flat_map (row a) rs)) (ap (in_window w) (append-nil x.rows) ∙ x.same) (x.its [])
    what_cut p new (Store Damaged) h = λ q a s here its. (h q a s here its).its
    what_cut p new (Store Keeper) h = tt
    what_cut p new (Store Memory) h = tt

    pub what_failed : (p : Progress) (new : List ℕ) (e : ExecFail) → InTenants l who m (λ a. Offered (row a) start p old new (chosen a) (Err e)) → WritesRows l who (λ a. in_window w (chosen a)) row room old new m (Err e)
    what_failed p new TooLarge h = λ q a s here its. subst (λ (rs : List Record). room < length (flat_map (row a) (in_window w rs))) (append-nil (chosen a)) (h q a s here its [])
    what_failed p new (Store Damaged) h = h
    what_failed p new (Store Keeper) h = tt
    what_failed p new (Store Memory) h = tt

    -- what stopped before any row
    pub what_unread : (new : List ℕ) (e : StoreFail) → (e ≡ Damaged → InTenants l who m (λ a. ⊥)) → WritesRows l who (λ a. in_window w (chosen a)) row room old new m (Err (Store e))
    what_unread new Damaged h = h refl
    what_unread new Keeper h = tt
    what_unread new Memory h = tt

  module _ {K R : Type 0} (state : K → KeeperState) (l : Layout) (j : Judging R) (each : ℕ) (pages : Pages) (a b : Held K) (told : DraftTells state a b) where
    -- the rows that are picked
    abbrev all_picked : Asked → List Record
    all_picked x = filter (j.keep x) (readable x.tenant x.user l.object)

    -- those that were read, and the others
    both_kept : (x : Asked) (seen rest : List Record) → seen ++ rest ≡ records_of x.tenant l.object → picked j x seen ++ picked j x rest ≡ all_picked x
    both_kept x seen rest split =
        sym (picked_both j x seen rest) ∙ ap (picked j x) split ∙ ap (filter (j.keep x)) (sym (readable_is x.tenant x.user l.object))

    pub what_stopped : {Enough : List Record → Type 0} (p : Progress) (new : List ℕ) (e : ExecFail) (size : ℕ) (f : Ending) → UnderWay state l j each Enough (Stopped p new e) pages size f a b
        → WritesRows l j.who (rows_kept w j.keep l.object) row room old new (tables_of state a) (Err e)
    what_stopped p new e size f u =
        what_failed l j.who (tables_of state a) all_picked p new e (λ q x s h its.
        let r = u.reached told q x s h its in
        let rest = beyond pages.after (records_of x.tenant l.object) in
        subst (λ (rs : List Record). Offered (row x) start p old new rs (Err e)) (both_kept x r.seen rest r.split) (r.does (picked j x rest)))

    pub what_written : {Enough : List Record → Type 0} (p : Progress) (new : List ℕ) (size : ℕ) (f : Ending) → UnderWay state l j each Enough (Offers p new) pages size f a b
        → ((x : Asked) (rest : List Record) → length rest ≤ 250 * pages.left → in_window p.window (picked j x rest) ≡ [])
        → WritesRows l j.who (rows_kept w j.keep l.object) row room old new (tables_of state a) (Ok p.count)
    what_written p new size f u over = λ q x s h its.
        let r = u.reached told q x s h its in
        let rest = beyond pages.after (records_of x.tenant l.object) in
        let whole = all_written (row x) start p old new (picked j x r.seen) (picked j x rest) r.does (over x rest r.enough) in
        subst (λ (rs : List Record). AppendsRows (row x) room (in_window w rs) old new p.count) (both_kept x r.seen rest r.split)
        (record { counted = whole.counted ∙ omega arith; appended = whole.appended; fits = whole.fits })

  -- rows that have all that are taken are not offered while the window takes more
  pub offers_few : (p : Progress) (new : List ℕ) → is_over p.window ≡ false → (a : Asked) (seen more : List Record) → Offers p new a (seen ++ more) → HasAll w.skip w.most (length seen) → ⊥
  offers_few p new more_taken a seen more goes enough = true≢false (sym (all_over (row a) start p old new (seen ++ more) goes seen more refl enough) ∙ more_taken)

module _ {R : Type 0} (j : Judging R) (p : Progress) (pages : Pages) where
  pub over_ends : is_over p.window ≡ true → (x : Asked) (rest : List Record) → length rest ≤ 250 * pages.left → in_window p.window (picked j x rest) ≡ []
  over_ends over x rest h = over_takes_none p.window (picked j x rest) over

  pub read_ends : pages.left ≤ 0 → (x : Asked) (rest : List Record) → length rest ≤ 250 * pages.left → in_window p.window (picked j x rest) ≡ []
  read_ends none x rest h =
      let few : length rest ≤ 0 = omega (arith, h, none) in
      ap (λ (rs : List Record). in_window p.window (picked j x rs)) (empty_of rest few) ∙ none_taken p.window
