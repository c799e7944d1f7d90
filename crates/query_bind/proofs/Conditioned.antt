-- Conditions whose paths are bound.
use Rattle.std.proofs.Common.{◌≡◌, Bool, not, List, [], ◌∷◌, ◌++◌, map, flat_map, Some, None, refl, sym, ap, subst, ◌∙◌, ℤ}
use Rattle.std.specs.List.{AllByRecursion, list_all, list_any}
use Rattle.base_value.specs.Printing.{day_of_moment}
use Rattle.soql.specs.declared.query.Cond.{Cond}
use Rattle.soql.specs.declared.query.Cond.TheVariants as cond
use Rattle.soql.specs.declared.query.LikePattern.{LikePattern}
use Rattle.soql.specs.declared.query.Literal.{Literal}
use Rattle.soql.specs.declared.query.Op.{Op}
use Rattle.soql.specs.declared.query.Path.{Path}
use Rattle.model.specs.declared.record.Record.{Record}
use Rattle.model.specs.Asking.{text_no_id}
use Rattle.model.specs.Conditions.{holds}
use Rattle.model.specs.Paths.{Asked}
use Rattle.model.specs.Tests.{Tested, tests_of}
use Rattle.store_abstraction.specs.declared.layout.Layout.{Layout}
use Rattle.query_plan.specs.declared.paths.branches.Branch.{Branch}
use Rattle.query_plan.specs.paths.Branches.{AddsBranches}
use Rattle.query_plan.specs.declared.check.Check.{Check}
use Rattle.query_plan.specs.declared.check.Check.TheVariants as check
use Rattle.query_bind.specs.declared.spots.Bound.{Bound}
use Rattle.query_plan.specs.Checks.{check_holds, passes_with, spot_value, tested}
use Rattle.query_bind.specs.inner.Binding.{operand_of}
use Rattle.query_bind.specs.inner.Ends.{Each}
use Rattle.query_bind.specs.inner.Spots.{Binds, IsFree, IsOf, Setting, far_of}
use Rattle.query_bind.specs.inner.Tails.{BindsCondition, BindsWhere}
use Rattle.query_bind.proofs.Bound.{all_bound, some_bound}
use Rattle.query_bind.proofs.Tested.{behind_both, far_in, far_like, far_test}
use Rattle.query_check.proofs.Tests.{all_back, all_front, one_rule, tests_and, tests_not, tests_or}
use Rattle.query_plan.proofs.Within.{holds_and, holds_not, holds_or}

module _ (ls : List Layout) (l : Layout) (day : ℤ) where
  -- ---- branches that are added

  pub condition_later : (old new : List Branch) → AddsBranches old new → (c : Cond) (k : Check) → BindsCondition ls l day old c k → BindsCondition ls l day new c k
  condition_later old new adds c k binds = record {
    rows = λ s r today free is more.
        subst (λ (bs : List Branch). check_holds (far_of s r bs) r k ≡ holds s.asked r c) (sym (behind_both old new more adds)) (binds.rows s r today free is (adds.more ++ more));
  }

  module _ (bs : List Branch) where
    -- ---- one test

    pub test_binds : (path : Path) (o : Op) (x : Literal) (b : Bound) → Binds ls l bs path.names b
        → BindsCondition ls l day bs (cond.Test path o x) (check.Test b.spot o (operand_of day b.family x))
    test_binds path o x b binds = record {
      rows = λ s r today free is more.
          let f = free.0 in
          let bound = binds s f.column r f.serve f.there is in
          ap (λ (d : ℤ). passes_with o (spot_value (far_of s r (bs ++ more)) r b.spot) (operand_of d b.family x)) today
          ∙ far_test s l bs path.names f.column r b bound more o x (λ i. sym (one_rule (text_no_id x)) ∙ f.ids i);
    }

    pub like_binds : (path : Path) (pattern : LikePattern) (b : Bound) → Binds ls l bs path.names b → BindsCondition ls l day bs (cond.Like path pattern) (check.Like b.spot pattern)
    like_binds path pattern b binds = record {
      rows = λ s r today free is more.
          let f = free.0 in
          far_like s l bs path.names f.column r b (binds s f.column r f.serve f.there is) more pattern;
    }

    pub in_binds : (path : Path) (negated : Bool) (xs : List Literal) (b : Bound) → Binds ls l bs path.names b
        → BindsCondition ls l day bs (cond.In path negated xs) (check.In b.spot negated (map (operand_of day b.family) xs))
    in_binds path negated xs b binds = record {
      rows = λ s r today free is more.
          let f = free.0 in
          let bound = binds s f.column r f.serve f.there is in
          ap (λ (d : ℤ). tested (check.In b.spot negated (map (operand_of d b.family) xs)) (spot_value (far_of s r (bs ++ more)) r b.spot)) today
          ∙ far_in s l bs path.names f.column r b bound more negated xs f.ids;
    }

    -- ---- conditions of conditions, by the laws of NOT, AND and OR

    pub not_binds : ((a : Asked) (r : Record) (c : Cond) → holds a r (cond.Not c) ≡ not (holds a r c)) → (part : Cond) (k : Check)
        → BindsCondition ls l day bs part k → BindsCondition ls l day bs (cond.Not part) (check.Not k)
    not_binds law part k binds = record {
      rows = λ s r today free is more.
          holds_not (far_of s r (bs ++ more)) r k
          ∙ ap not (binds.rows s r today (subst (λ (ts : List Tested). AllByRecursion (IsFree s ls l) ts) (tests_not part) free) is more)
          ∙ sym (law s.asked r part);
    }

    module _ (s : Setting) (r : Record) (today : day ≡ day_of_moment s.asked.now) (is : IsOf s l r) (more : List Branch) where
      each_holds : (cs : List Cond) (ks : List Check) → Each (BindsCondition ls l day bs) cs ks → AllByRecursion (IsFree s ls l) (flat_map tests_of cs)
          → map (check_holds (far_of s r (bs ++ more)) r) ks ≡ map (holds s.asked r) cs
      each_holds [] [] each free = refl
      each_holds (c ∷ cs) [] each free = absurd each
      each_holds [] (k ∷ ks) each free = absurd each
      each_holds (c ∷ cs) (k ∷ ks) each free =
          ap (λ (b : Bool). b ∷ map (check_holds (far_of s r (bs ++ more)) r) ks)
          (each.0.rows s r today (all_front (IsFree s ls l) (tests_of c) (flat_map tests_of cs) free) is more)
          ∙ ap (λ (rest : List Bool). holds s.asked r c ∷ rest) (each_holds cs ks each.1 (all_back (IsFree s ls l) (tests_of c) (flat_map tests_of cs) free))

    pub and_binds : ((a : Asked) (r : Record) (cs : List Cond) → holds a r (cond.And cs) ≡ list_all (holds a r) cs) → (parts : List Cond) (ks : List Check)
        → Each (BindsCondition ls l day bs) parts ks → BindsCondition ls l day bs (cond.And parts) (check.And ks)
    and_binds law parts ks each = record {
      rows = λ s r today free is more.
          let far = far_of s r (bs ++ more) in
          holds_and far r ks
          ∙ all_bound s.asked far r (holds s.asked r) ks parts
          (each_holds s r today is more parts ks each (subst (λ (ts : List Tested). AllByRecursion (IsFree s ls l) ts) (tests_and parts) free))
          ∙ sym (law s.asked r parts);
    }

    pub or_binds : ((a : Asked) (r : Record) (cs : List Cond) → holds a r (cond.Or cs) ≡ list_any (holds a r) cs) → (parts : List Cond) (ks : List Check)
        → Each (BindsCondition ls l day bs) parts ks → BindsCondition ls l day bs (cond.Or parts) (check.Or ks)
    or_binds law parts ks each = record {
      rows = λ s r today free is more.
          let far = far_of s r (bs ++ more) in
          holds_or far r ks
          ∙ some_bound s.asked far r (holds s.asked r) ks parts
          (each_holds s r today is more parts ks each (subst (λ (ts : List Tested). AllByRecursion (IsFree s ls l) ts) (tests_or parts) free))
          ∙ sym (law s.asked r parts);
    }

    -- ---- a condition, if there is one

    pub some_where : (c : Cond) (k : Check) → BindsCondition ls l day bs c k → BindsWhere ls l day bs (Some c) (Some k)
    some_where c k binds = record { rows = binds.rows }

    pub no_where : BindsWhere ls l day bs None None
    no_where = record { rows = λ s r today free is more. refl }
