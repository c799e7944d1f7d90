-- The condition and the keys of a tail, whose paths are bound.
use Rattle.std.proofs.Common.{◌≡◌, ℕ, true, List, [], ◌∷◌, ◌++◌, map, Option, Some, None, refl, sym, ap, subst, ◌∙◌, inl, inr, ◌⊎◌, ℤ}
use Rattle.std.specs.List.{AllByRecursion, list_all}
use Rattle.std.specs.declared.cmp.Ordering.{Ordering}
use Rattle.std.specs.Ordering.{ordering_then}
use Rattle.base_lemmas.proofs.Bools.{and_first as and_left, and_second as and_right}
use Rattle.base_value.specs.Printing.{day_of_moment}
use Rattle.soql.specs.declared.query.OrderKey.{OrderKey}
use Rattle.soql.specs.declared.query.Tail.{Tail}
use Rattle.model.specs.declared.record.Record.{Record}
use Rattle.model.specs.Conditions.{satisfies}
use Rattle.model.specs.Membership.{Has}
use Rattle.model.specs.Objects.{records_of}
use Rattle.model.specs.Ordered.{before, key_cmp}
use Rattle.model.specs.Paths.{path_value}
use Rattle.model.specs.Rules.{first_of}
use Rattle.model.specs.Sound.{IsSound}
use Rattle.model.specs.Tests.{tests}
use Rattle.store_abstraction.specs.Layouts.{IsLayout, own_layouts}
use Rattle.store_abstraction.specs.declared.layout.Layout.{Layout}
use Rattle.model.specs.Flat.{has_one_name, is_flat_test}
use Rattle.query_plan.specs.declared.paths.branches.Branch.{Branch}
use Rattle.query_plan.specs.paths.Branches.{AddsBranches}
use Rattle.query_plan.specs.declared.check.Check.{Check}
use Rattle.query_bind.specs.declared.choosing.BoundTail.{BoundTail}
use Rattle.query_plan.specs.declared.plan.Choice.{Choice}
use Rattle.query_plan.specs.declared.plan.SortKey.{SortKey}
use Rattle.query_check.specs.declared.rules.Rule.TheVariants as rule
use Rattle.query_plan.specs.Checks.{takes}
use Rattle.query_plan.specs.Plans.{Chooses, by_keys}
use Rattle.query_bind.specs.inner.Ends.{BindsKey, Each}
use Rattle.query_check.specs.Rules.{key_rule, rule_in, tail_rule}
use Rattle.query_bind.specs.inner.Spots.{IsOf, Serve, Setting, far_of}
use Rattle.query_bind.specs.inner.Tails.{BindsTail, BindsWhere, KeyServes, TailServes}
use Rattle.query_check.specs.Ways.{path_column_in}
use Rattle.query_check.proofs.Clean.{first_none, not_refused, rest_none, some_column}
use Rattle.query_bind.proofs.Tested.{all_free, behind_both}

-- ---- keys

module _ (ls : List Layout) (l : Layout) (bs : List Branch) where
  pub each_orders : (s : Setting) (r t : Record) → IsOf s l r → IsOf s l t → (more : List Branch) → (keys : List OrderKey) (ks : List SortKey) → Each (BindsKey ls l bs) keys ks
      → AllByRecursion (KeyServes s ls l) keys → by_keys ks (λ x. far_of s x (bs ++ more)) r t ≡ before s.asked keys r t
  each_orders s r t one other more [] [] each serve = refl
  each_orders s r t one other more (key ∷ keys) [] each serve = absurd each
  each_orders s r t one other more [] (k ∷ ks) each serve = absurd each
  each_orders s r t one other more (key ∷ keys) (k ∷ ks) each serve =
      let it = serve.0 in
      ap (λ (o : Ordering). ordering_then o (by_keys ks (λ x. far_of s x (bs ++ more)) r t)) (each.0.order s it.column r t it.serve it.there one other more)
      ∙ ap (λ (o : Ordering). ordering_then (key_cmp key (path_value s.asked r key.path.names) (path_value s.asked t key.path.names)) o)
      (each_orders s r t one other more keys ks each.1 serve.1)

-- ---- a tail

-- the condition is bound first, and the keys may add branches
pub tail_bound : (ls : List Layout) (l : Layout) (day : ℤ) (tail : Tail) (mid new : List Branch) → AddsBranches mid new → (b : BoundTail)
    → BindsWhere ls l day mid tail.condition b.check → Each (BindsKey ls l new) tail.order b.order → BindsTail ls l day tail new b
tail_bound ls l day tail mid new adds b binds each = record {
  rows = λ s r today serve is more.
      subst (λ (bs : List Branch). takes b.check (far_of s r bs) r ≡ satisfies s.asked tail.condition r) (sym (behind_both mid new more adds))
      (binds.rows s r today serve.tests is (adds.more ++ more));
  order = λ s r t serve one other more. each_orders ls l new s r t one other more tail.order b.order each serve.keys;
}

-- ---- a tail that nothing refuses

-- the paths of its tests and of its keys have one name each
pub record IsFlatTail (tail : Tail) : Type 0 where
  pub tests : list_all is_flat_test (tests tail.condition) ≡ true
  pub keys : list_all (λ (k : OrderKey). has_one_name k.path.names) tail.order ≡ true

module _ (s : Setting) (ls : List Layout) (l : Layout) where
  -- the layouts are those of all objects
  abbrev AreAll : Type 0
  AreAll = ls ≡ own_layouts s.org s.plan (Some s.asked.tenant)

  abbrev AllKeys : List OrderKey → Type 0
  AllKeys keys = (list_all (λ (k : OrderKey). has_one_name k.path.names) keys ≡ true) ⊎ AreAll

  front : (k : OrderKey) (keys : List OrderKey) → AllKeys (k ∷ keys) → Serve s ls k.path.names
  front k keys (inl flat) = inl (and_left (has_one_name k.path.names) (list_all (λ (k : OrderKey). has_one_name k.path.names) keys) flat)
  front k keys (inr all) = inr all

  behind : (k : OrderKey) (keys : List OrderKey) → AllKeys (k ∷ keys) → AllKeys keys
  behind k keys (inl flat) = inl (and_right (has_one_name k.path.names) (list_all (λ (k : OrderKey). has_one_name k.path.names) keys) flat)
  behind k keys (inr all) = inr all

  keys_serve : (keys : List OrderKey) → AllKeys keys → first_of (key_rule ls l) keys ≡ None → AllByRecursion (KeyServes s ls l) keys
  keys_serve [] serve none = tt
  keys_serve (k ∷ keys) serve none =
      let c = some_column (path_column_in ls l k.path.names) (not_refused _ _ (first_none (key_rule ls l k) (map (key_rule ls l) keys) none)) in (
        record { column = c.0; serve = front k keys serve; there = c.1 },
        keys_serve keys (behind k keys serve) (rest_none (key_rule ls l k) (map (key_rule ls l) keys) none),
      )

  module _ (tail : Tail) where
    flat_tests : IsFlatTail tail ⊎ AreAll → (list_all is_flat_test (tests tail.condition) ≡ true) ⊎ AreAll
    flat_tests (inl flat) = inl flat.tests
    flat_tests (inr all) = inr all

    flat_keys : IsFlatTail tail ⊎ AreAll → AllKeys tail.order
    flat_keys (inl flat) = inl flat.keys
    flat_keys (inr all) = inr all

    pub tail_serves : IsFlatTail tail ⊎ AreAll → tail_rule ls l tail ≡ None → first_of (rule_in ls l rule.Id) (tests tail.condition) ≡ None
        → TailServes s ls l tail
    tail_serves serve names ids =
        let no_names = first_of (rule_in ls l rule.Name) (tests tail.condition) in
        let no_keys = first_of (key_rule ls l) tail.order in
        record {
          tests = all_free s ls l (tests tail.condition) (flat_tests serve) (first_none no_names (no_keys ∷ []) names) ids;
          keys = keys_serve tail.order (flat_keys serve) (first_none no_keys [] (rest_none no_names (no_keys ∷ []) names));
        }

-- ---- which records are rows

-- where the branches of the tail are among those of the choice, before any others
pub tail_chooses : (s : Setting) (ls : List Layout) (l : Layout) (day : ℤ) (tail : Tail) (bs more : List Branch) (b : BoundTail) (offset : ℕ) (c : Choice)
    → BindsTail ls l day tail bs b → TailServes s ls l tail → day ≡ day_of_moment s.asked.now → IsLayout s.plan s.asked.tenant l → IsSound s.asked.tenant
    → c.branches ≡ bs ++ more → c.check ≡ b.check → c.order ≡ b.order → c.skip ≡ offset → c.most ≡ tail.limit → Chooses s.asked l.object tail offset c
tail_chooses s ls l day tail bs more b offset c binds serve today laid sound branches check order skip most =
    let of_it : (r : Record) → Has (records_of s.asked.tenant l.object) r → IsOf s l r = λ r h. record { laid = laid; sound = sound; has = h } in
    record {
      rows = λ r h.
          ap (λ (k : Option Check). takes k (far_of s r c.branches) r) check
          ∙ ap (λ (bs : List Branch). takes b.check (far_of s r bs) r) branches
          ∙ binds.rows s r today serve (of_it r h) more;
      order = λ r t h i.
          ap (λ (ks : List SortKey). by_keys ks (λ x. far_of s x c.branches) r t) order
          ∙ ap (λ (bs : List Branch). by_keys b.order (λ x. far_of s x bs) r t) branches
          ∙ binds.order s r t serve (of_it r h) (of_it t i) more;
      skip = skip;
      most = most;
    }
