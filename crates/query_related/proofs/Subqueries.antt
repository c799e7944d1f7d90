-- What the child subqueries of a plan find, one after another.
use Rattle.std.proofs.Common.{◌≡◌, ℕ, ◌+◌, ◌<◌, ◌≤◌, List, [], ◌∷◌, ◌++◌, drop, get_or, length, map, Some, refl, sym, ap, subst, ◌∙◌, arith, add-one, append-nil, append_assoc, drop-cons}
use Rattle.std.specs.Prelude.{Result, Ok, Err, Vec}
use Rattle.std.specs.List.{IsDistinct, filter}
use Rattle.std.specs.List.Sorted.{IsStrictlySortedBy}
use Rattle.std.specs.Ordering.{eq_by_cmp}
use Rattle.std.proofs.Math.ListN.{drop_of_length-le}
use Rattle.query_plan.specs.declared.plan.Child.{Child}
use Rattle.query_plan.specs.declared.plan.ChildPlan.{ChildPlan}
use Rattle.query_plan.specs.Plans.{children_by}
use Rattle.record_read.proofs.Rising.{has_filter}
use Rattle.store_kv.specs.Draft.{DraftReads, DraftTells, Held, tables_of}
use Rattle.store_kv.specs.State.{KeeperState}
use Rattle.store_kv.specs.Tables.{Tables}
use Rattle.store_rows.specs.declared.fail.StoreFail.{StoreFail}
use Rattle.store_rows.specs.declared.fail.StoreFail.TheVariants.{Damaged, Keeper, Memory}
use Rattle.model.specs.declared.record.Record.{Record}
use Rattle.model.specs.Levels.{can_read, readable}
use Rattle.model.specs.Membership.{Has}
use Rattle.model.specs.Objects.{is_of, records_of}
use Rattle.model.specs.Ordered.{by_id, in_order}
use Rattle.model.specs.Paths.{Asked}
use Rattle.model.specs.Rows.{limited}
use Rattle.model.specs.Sound.{IsSound}
use Rattle.model.specs.Tenant.{Tenant}
use Rattle.query_plan.specs.Plans.{refers_by}
use Rattle.query_plan.specs.order.Ranks.{rank_cmp}
use Rattle.access_traits.specs.Rights.{Whose}
use Rattle.store_abstraction.specs.Calls.{Calls, Ending, done}
use Rattle.store_abstraction.specs.Local.{StandsIn}
use Rattle.store_abstraction.specs.Plan.{OrgPlan}
use Rattle.store_abstraction.specs.declared.layout.Layout.{Layout}
use Rattle.query_related.specs.Children.{FindsOfAsked, FindsOfTarget, OfTarget, subqueries_shown, subquery_shown}
use Rattle.query_exec.specs.Ranks.{ranked_cmp}
use Rattle.query_related.specs.inner.Referring.{those_referring}
use Rattle.query_related.specs.inner.Taken.{FindsTaken, RankedChild, all_taken, kept_of}
use Rattle.query_related.proofs.Choosing.{RanksOrder, children_are, differ}

-- ---- one subquery

-- the records of an object rise
abbrev pub RecordsRise : Type 0
RecordsRise = (t : Tenant) (n : ℕ) → IsSound t → IsStrictlySortedBy by_id (records_of t n)

-- those that refer are records of the tenant
has_those : (a : Asked) (p : ChildPlan) (id : List ℕ) (s : Record) → Has (those_referring a p.step id) s → Has a.tenant.records s
unfolding readable
has_those a p id s has =
    let one = has_filter (refers_by p.step.field id) (filter (can_read a.tenant a.user) (records_of a.tenant p.step.object)) s has in
    let two = has_filter (can_read a.tenant a.user) (records_of a.tenant p.step.object) s one.0 in
    (has_filter (is_of p.step.object) a.tenant.records s two.0).0

module _ (layouts : List Layout) (whose : Whose) (p : ChildPlan) (id : List ℕ) (m : Tables) where
  abbrev Found : Result (List Child) StoreFail → Type 0
  Found = FindsOfTarget layouts whose id (λ a r. children_by a r p) m

  -- no records were read
  pub unread : (e : StoreFail) → FindsOfAsked layouts whose (λ a. those_referring a p.step id) m (Err e) → Found (Err e)
  unread Damaged h = λ org q a s all who r same. h org q a s all who
  unread Keeper h = tt
  unread Memory h = tt

  module _ (records : List Record) (read : FindsOfAsked layouts whose (λ a. those_referring a p.step id) m (Ok records)) (n : Tables) (still : n ≡ m) where
    there : (a : Asked) → records ≡ those_referring a p.step id → (s : Record) → Has records s → Has a.tenant.records s
    there a are s has = has_those a p id s (subst (λ (rs : List Record). Has rs s) are has)

    over : (org : ℕ) (q : OrgPlan) (a : Asked) → StandsIn org q m (Some a.tenant) → StandsIn org q n (Some a.tenant)
    over org q a s = subst (λ (x : Tables). StandsIn org q x (Some a.tenant)) (sym still) s

    -- none of them were taken
    pub untaken : {A : Type 0} (result : Result (Vec RankedChild A) StoreFail) (e : StoreFail) → result ≡ Err e
        → FindsTaken layouts whose records (λ a. all_taken a p.choice records) n result → Found (Err e)
    untaken {A = A} result e was h = by e (subst (FindsTaken {A = A} layouts whose records (λ a. all_taken a p.choice records) n) was h)
      where
        by : (e : StoreFail) → FindsTaken {A = A} layouts whose records (λ a. all_taken a p.choice records) n (Err e) → Found (Err e)
        by Damaged k = λ org q a s all who r same. k org q a (over org q a s) all who (there a (read org q a s all who))
        by Keeper k = tt
        by Memory k = tt

    pub chosen : {A : Type 0} (rise : RecordsRise) (order : RanksOrder) (taken : Vec RankedChild A) → FindsTaken layouts whose records (λ a. all_taken a p.choice records) n (Ok taken)
        → (children : List Child)
        → (IsDistinct (eq_by_cmp (ranked_cmp rank_cmp)) taken.items → children ≡ map kept_of (limited p.choice.most (drop p.choice.skip (in_order (ranked_cmp rank_cmp) taken.items))))
        → Found (Ok children)
    chosen rise order taken h children cut = λ org q a s all who r same.
        let are = read org q a s all who in
        let up = rise a.tenant p.step.object s.sound in
        let took : taken.items ≡ all_taken a p.choice (those_referring a p.step id) = h org q a (over org q a s) all who (there a are) ∙ ap (all_taken a p.choice) are in
        cut (subst (λ (xs : List RankedChild). IsDistinct (eq_by_cmp (ranked_cmp rank_cmp)) xs) (sym took) (differ order a p id up))
        ∙ ap (λ (xs : List RankedChild). map kept_of (limited p.choice.most (drop p.choice.skip (in_order (ranked_cmp rank_cmp) xs)))) took
        ∙ children_are order a p id up r same

-- ---- one after another

module _ {K : Type 0} (state : K → KeeperState) (layouts : List Layout) (whose : Whose) (id : List ℕ) (plans : List ChildPlan) (a : Held K) where
  -- the subqueries from a number on are left
  pub record UnderWay (i : ℕ) (found : List (List Child)) (b : Held K) : Type 0 where
    pub shown : ℕ
    pub left : shown + subqueries_shown (drop i plans) ≡ subqueries_shown plans
    pub calls : Calls state shown done a b
    pub so_far : DraftTells state a b → OfTarget layouts whose id (tables_of state a) (λ w r. found ++ map (children_by w r) (drop i plans) ≡ map (children_by w r) plans)

  pub begins : Calls state 0 done a a → UnderWay 0 [] a
  begins none = record { shown = 0; left = omega arith; calls = none; so_far = λ told org q w s all who r same. refl }

  module _ (both : (shown later : ℕ) (a b d : Held K) → DraftReads state shown a b → DraftReads state later b d → DraftTells state a d
      → DraftTells state a b × DraftTells state b d × (tables_of state b ≡ tables_of state a))
      (after : (shown later : ℕ) (e : Ending) (a b d : Held K) → Calls state shown done a b → Calls state later e b d → Calls state (shown + later) e a d)
      (i : ℕ) (found : List (List Child)) (b : Held K) (u : UnderWay i found b) (none : ChildPlan) (within : i < length plans) where
    abbrev pub here : ChildPlan
    here = get_or plans i none

    next : drop i plans ≡ here ∷ drop (i + 1) plans
    next = rw (add-one, drop-cons plans i none) refl

    left_after : (u.shown + subquery_shown here) + subqueries_shown (drop (i + 1) plans) ≡ subqueries_shown plans
    left_after =
        let step : subqueries_shown (drop i plans) ≡ subquery_shown here + subqueries_shown (drop (i + 1) plans) = ap subqueries_shown next in
        let before = u.left in
        omega (arith, step, before)

    pub goes_on : (d : Held K) (children : List Child) → (DraftTells state b d → FindsOfTarget layouts whose id (λ w r. children_by w r here) (tables_of state b) (Ok children))
        → Calls state (subquery_shown here) done b d → (new : List (List Child)) → new ≡ found ++ children ∷ [] → UnderWay (i + 1) new d
    goes_on d children is calls new pushed = record {
      shown = u.shown + subquery_shown here;
      left = left_after;
      calls = after u.shown (subquery_shown here) done a b d u.calls calls;
      so_far = λ told org q w s all who r same.
          let tell = both u.shown (subquery_shown here) a b d u.calls.reads calls.reads told in
          let stands = subst (λ (m : Tables). StandsIn org q m (Some w.tenant)) (sym tell.2) s in
          ap (λ (xs : List (List Child)). xs ++ map (children_by w r) (drop (i + 1) plans)) pushed
          ∙ append_assoc found (children ∷ []) (map (children_by w r) (drop (i + 1) plans))
          ∙ ap (λ (x : List Child). found ++ x ∷ map (children_by w r) (drop (i + 1) plans)) (is tell.1 org q w stands all who r same)
          ∙ ap (λ (xs : List ChildPlan). found ++ map (children_by w r) xs) (sym next)
          ∙ u.so_far tell.0 org q w s all who r same;
    }

  pub ends : (i : ℕ) → length plans ≤ i → (found : List (List Child)) (b : Held K) → UnderWay i found b → DraftTells state a b
      → OfTarget layouts whose id (tables_of state a) (λ w r. found ≡ map (children_by w r) plans)
  ends i past found b u told = λ org q w s all who r same.
      sym (append-nil found) ∙ ap (λ (xs : List ChildPlan). found ++ map (children_by w r) xs) (sym (drop_of_length-le plans past)) ∙ u.so_far told org q w s all who r same
