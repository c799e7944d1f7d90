-- Tests by spots hold where tests by names do, and keys by spots order as keys by names do.
use Rattle.std.proofs.Common.{◌≡◌, ℕ, Bool, true, not, cond, List, [], ◌∷◌, ◌++◌, map, Option, Some, None, sym, ap, ◌∙◌, inl, inr, ◌⊎◌, ℤ, append_assoc}
use Rattle.std.specs.Bool.{beq}
use Rattle.std.specs.List.{AllByRecursion, list_all, list_any}
use Rattle.base_lemmas.proofs.Bools.{and_first as and_left, and_second as and_right}
use Rattle.base_value.specs.Printing.{day_of_moment}
use Rattle.base_value.specs.declared.value.Value.{Value}
use Rattle.soql.specs.declared.query.LikePattern.{LikePattern}
use Rattle.soql.specs.declared.query.Literal.{Literal}
use Rattle.soql.specs.declared.query.Op.{Op}
use Rattle.soql.specs.declared.query.Op.TheVariants as op
use Rattle.model.specs.declared.record.Record.{Record}
use Rattle.model.specs.Asking.{literals_of, text_no_id}
use Rattle.model.specs.Cases.{in_case}
use Rattle.model.specs.Conditions.{is_among, is_like, passes}
use Rattle.model.specs.Paths.{path_value}
use Rattle.model.specs.Rules.{first_of}
use Rattle.model.specs.Tests.{Tested}
use Rattle.store_abstraction.specs.Layouts.{own_layouts}
use Rattle.store_abstraction.specs.declared.layout.Layout.{Layout}
use Rattle.model.specs.Flat.{has_one_name, is_flat_test}
use Rattle.query_plan.specs.paths.Branches.{AddsBranches}
use Rattle.query_plan.specs.declared.paths.branches.Branch.{Branch}
use Rattle.query_check.specs.declared.columns.Column.{Column}
use Rattle.query_check.specs.declared.columns.Family.{Family}
use Rattle.query_check.specs.declared.rules.Rule.TheVariants as rule
use Rattle.query_bind.specs.declared.spots.Bound.{Bound}
use Rattle.query_plan.specs.Checks.{passes_with, spot_value}
use Rattle.query_bind.specs.inner.Binding.{operand_of}
use Rattle.query_check.specs.Rules.{is_ids, rule_in}
use Rattle.query_bind.specs.inner.Spots.{IsBound, IsFree, Serve, Setting, far_of}
use Rattle.query_check.specs.Ways.{path_column_in}
use Rattle.query_check.proofs.Clean.{first_none, not_refused, rest_none, some_column}
use Rattle.query_bind.proofs.Leaves.{among_is, negated_is, passes_is}

-- ---- branches that are added

-- those behind new branches are behind the old ones too
pub behind_both : (old new more : List Branch) (adds : AddsBranches old new) → new ++ more ≡ old ++ (adds.more ++ more)
behind_both old new more adds = ap (λ (bs : List Branch). bs ++ more) adds.behind ∙ append_assoc old adds.more more

-- ---- one path

module _ (s : Setting) (l : Layout) (bs : List Branch) (names : List (List ℕ)) (c : Column) (r : Record) (b : Bound) (is : IsBound s l bs names c r b) (more : List Branch) where
  abbrev here : Value
  here = spot_value (far_of s r (bs ++ more)) r b.spot

  abbrev there : Value
  there = path_value s.asked r names

  abbrev today : ℤ
  today = day_of_moment s.asked.now

  pub far_test : (o : Op) (x : Literal) → (is_ids c.family ≡ true → text_no_id x ≡ None) → passes_with o here (operand_of today b.family x) ≡ passes s.asked.now o there x
  far_test o x ids =
      ap (λ (v : Value). passes_with o v (operand_of today b.family x)) (is.value more)
      ∙ ap (λ (f : Family). passes_with o there (operand_of today f x)) is.family
      ∙ passes_is s.asked.now o c.family there x is.fits ids

  pub far_like : (pattern : LikePattern) → is_like pattern.parts here ≡ is_like pattern.parts there
  far_like pattern = ap (is_like pattern.parts) (is.value more)

  pub far_in : (negated : Bool) (xs : List Literal) → (is_ids c.family ≡ true → first_of text_no_id xs ≡ None)
      → not (beq (list_any (passes_with op.Equal here) (map (operand_of today b.family) xs)) negated) ≡ cond negated (not (is_among s.asked r names xs)) (is_among s.asked r names xs)
  far_in negated xs ids =
      ap (λ (v : Value). not (beq (list_any (passes_with op.Equal v) (map (operand_of today b.family) xs)) negated)) (is.value more)
      ∙ ap (λ (f : Family). not (beq (list_any (passes_with op.Equal there) (map (operand_of today f) xs)) negated)) is.family
      ∙ ap (λ (x : Bool). not (beq x negated)) (among_is s.asked.now c.family there xs is.fits ids)
      ∙ negated_is (is_among s.asked r names xs) negated

-- ---- tests that nothing refuses

module _ (s : Setting) (ls : List Layout) (l : Layout) where
  free_test : (x : Tested) → Serve s ls x.names → rule_in ls l rule.Name x ≡ None → rule_in ls l rule.Id x ≡ None → IsFree s ls l x
  free_test x serve n i =
      let c = some_column (path_column_in ls l x.names) (not_refused _ _ n) in
      record {
        column = c.0;
        serve = serve;
        there = c.1;
        ids = λ ids.
            ap (λ (b : Bool). cond b (first_of text_no_id (literals_of x.way)) None) (sym ids)
            ∙ sym (ap (λ (o : Option Column). in_case o None (λ (c : Column). cond (is_ids c.family) (first_of text_no_id (literals_of x.way)) None)) c.1) ∙ i;
      }

  abbrev AllServe : List Tested → Type 0
  AllServe xs = (list_all is_flat_test xs ≡ true) ⊎ (ls ≡ own_layouts s.org s.plan (Some s.asked.tenant))

  front : (x : Tested) (xs : List Tested) → AllServe (x ∷ xs) → Serve s ls x.names
  front x xs (inl flat) = inl (and_left (has_one_name x.names) (list_all is_flat_test xs) flat)
  front x xs (inr all) = inr all

  behind : (x : Tested) (xs : List Tested) → AllServe (x ∷ xs) → AllServe xs
  behind x xs (inl flat) = inl (and_right (has_one_name x.names) (list_all is_flat_test xs) flat)
  behind x xs (inr all) = inr all

  pub all_free : (xs : List Tested) → AllServe xs → first_of (rule_in ls l rule.Name) xs ≡ None → first_of (rule_in ls l rule.Id) xs ≡ None → AllByRecursion (IsFree s ls l) xs
  all_free [] serve n i = tt
  all_free (x ∷ xs) serve n i = (
    free_test x (front x xs serve) (first_none (rule_in ls l rule.Name x) (map (rule_in ls l rule.Name) xs) n) (first_none (rule_in ls l rule.Id x) (map (rule_in ls l rule.Id) xs) i),
    all_free xs (behind x xs serve) (rest_none (rule_in ls l rule.Name x) (map (rule_in ls l rule.Name) xs) n) (rest_none (rule_in ls l rule.Id x) (map (rule_in ls l rule.Id) xs) i),
  )
