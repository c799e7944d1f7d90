-- The parts of a flat query, and whether all tests of conditions, one after the other, pass a test.
use Rattle.std.proofs.Common.{◌≡◌, ℕ, ◌+◌, ◌<◌, Bool, true, false, ◌&&◌, List, ◌++◌, drop, length, get_or, flat_map, sym, ap, ◌∙◌}
use Rattle.std.specs.List.{list_all}
use Rattle.std.proofs.lemmas.List.{at_drop_more}
use Rattle.std.proofs.lemmas.List.Folds.{list_all-append}
use Rattle.base_lemmas.proofs.Bools.{and_first as and_left, and_second as and_right}
use Rattle.soql.specs.declared.query.Cond.{Cond}
use Rattle.soql.specs.declared.query.Query.{Query}
use Rattle.model.specs.Tests.{Tested, tests, tests_of}
use Rattle.model.specs.Flat.{has_one_name, is_flat, is_flat_item, is_flat_test}

pub record AreFlat (q : Query) : Type 0 where
  pub items : list_all is_flat_item q.select ≡ true
  pub tested : list_all is_flat_test (tests q.tail.condition) ≡ true
  pub keys : list_all (λ k. has_one_name k.path.names) q.tail.order ≡ true

pub parts_of : (q : Query) → is_flat q ≡ true → AreFlat q
parts_of q flat =
    let items = list_all is_flat_item q.select in
    let tested = list_all is_flat_test (tests q.tail.condition) in
    let keys = list_all (λ k. has_one_name k.path.names) q.tail.order in
    let both = and_left (items && tested) keys flat in
    record { items = and_left items tested both; tested = and_right items tested both; keys = and_right (items && tested) keys flat }

module _ (p : Tested → Bool) (conds : List Cond) (i : ℕ) (x : Cond) where
  split : i < length conds → x ≡ get_or conds i x → list_all p (flat_map tests_of (drop i conds)) ≡ (list_all p (tests_of x) && list_all p (flat_map tests_of (drop (i + 1) conds)))
  split lt is =
      at_drop_more (λ rest. list_all p (flat_map tests_of rest)) conds i x lt
      ∙ ap (λ c. list_all p (tests_of c ++ flat_map tests_of (drop (i + 1) conds))) (sym is)
      ∙ list_all-append p (tests_of x) (flat_map tests_of (drop (i + 1) conds))

  pub stops : i < length conds → x ≡ get_or conds i x → list_all p (tests_of x) ≡ false
      → list_all p (flat_map tests_of conds) ≡ list_all p (flat_map tests_of (drop i conds)) → false ≡ list_all p (flat_map tests_of conds)
  stops lt is e so_far = sym (so_far ∙ split lt is ∙ ap (λ b. b && list_all p (flat_map tests_of (drop (i + 1) conds))) e)

  pub goes_on : i < length conds → x ≡ get_or conds i x → list_all p (tests_of x) ≡ true
      → list_all p (flat_map tests_of conds) ≡ list_all p (flat_map tests_of (drop i conds)) → list_all p (flat_map tests_of conds) ≡ list_all p (flat_map tests_of (drop (i + 1) conds))
  goes_on lt is e so_far = so_far ∙ split lt is ∙ ap (λ b. b && list_all p (flat_map tests_of (drop (i + 1) conds))) e
