-- The turns of the loops that read lists.
use Rattle.std.proofs.Common.{◌≡◌, ℕ, suc, zero, ◌-◌, ◌≢◌, true, false, List, [], ◌∷◌, ◌++◌, Ok, Err, refl, append-nil, arith}
use Rattle.base_grammar.specs.Part as part
use Rattle.base_grammar.specs.Reader as reader
use Rattle.base_grammar.specs.Reader.{begins_with, with_front}
use Rattle.base_grammar.specs.declared.fail.Fail.{Fail}
use Rattle.base_grammar.specs.declared.fail.Fail.TheVariants.{Stuck, Memory}
use Rattle.base_grammar.proofs.Lists.{Takes, exact_takes}
use Rattle.base_grammar.proofs.Pairs.{after_exact}
use Rattle.base_grammar.proofs.Turns.{Shortens, repeat-ends, repeat-turn, repeat-stuck, with_front-append}
use Rattle.soql.specs.grammar.Grammar as g
use Rattle.soql.specs.grammar.Grammar.{left_behind}
use Rattle.soql.specs.grammar.Readers as spec
use Rattle.soql.specs.grammar.Signs.{kind}
use Rattle.soql.specs.declared.query.Item.{Item}
use Rattle.soql.specs.declared.grammar.sign.Sign.{Sign}
use Rattle.soql.proofs.Instances.{name_exact, literal_exact, literal_firsts, path_exact, unit_exact, unit_firsts}
use Rattle.soql.proofs.QueryInstances.{key_exact, comma_item_exact}

-- ---- a separator and what is behind it take a token
pub name_takes : Takes (reader.after kind 29 spec.name)
name_takes =
    exact_takes kind (part.after kind 29 g.name) (reader.after kind 29 spec.name) (29 ∷ []) [] (after_exact kind 29 g.name spec.name (0 ∷ 1 ∷ 2 ∷ 3 ∷ []) [] name_exact)

pub literal_takes : Takes (reader.after kind 28 spec.literal)
literal_takes =
    exact_takes kind (part.after kind 28 g.literal) (reader.after kind 28 spec.literal) (28 ∷ []) [] (after_exact kind 28 g.literal spec.literal literal_firsts [] literal_exact)

pub key_takes : Takes (reader.after kind 28 spec.key)
key_takes =
    exact_takes kind (part.after kind 28 g.key) (reader.after kind 28 spec.key) (28 ∷ []) (17 ∷ 16 ∷ 29 ∷ [])
    (after_exact kind 28 g.key spec.key (0 ∷ 1 ∷ 2 ∷ 3 ∷ []) (17 ∷ 16 ∷ 29 ∷ []) key_exact)

pub path_takes : Takes (reader.after kind 28 spec.path)
path_takes =
    exact_takes kind (part.after kind 28 g.path) (reader.after kind 28 spec.path) (28 ∷ []) (29 ∷ []) (after_exact kind 28 g.path spec.path (0 ∷ 1 ∷ 2 ∷ 3 ∷ []) (29 ∷ []) path_exact)

pub another_takes : (n levels : ℕ) → Takes (reader.after kind n (spec.unit levels))
another_takes n levels =
    exact_takes kind (part.after kind n (g.unit levels)) (reader.after kind n (spec.unit levels)) (n ∷ []) [] (after_exact kind n (g.unit levels) (spec.unit levels) unit_firsts [] (unit_exact levels))

-- ---- units and items, by what is left
pub unit-suc : (levels : ℕ) (ts : List Sign) → levels ≢ 0 → spec.inner (spec.unit (levels - 1)) ts ≡ spec.unit levels ts
unfolding spec.unit
unit-suc zero ts h = absurd (h refl)
unit-suc (suc n) ts h = let e : suc n - 1 ≡ n = omega arith in rw e refl

pub unit-zero : (levels : ℕ) (ts : List Sign) → levels ≡ 0 → spec.of_path ts ≡ spec.unit levels ts
unfolding spec.unit
unit-zero levels ts h = rw h refl

pub item-suc : (left : ℕ) (ts : List Sign) → left ≢ 0 → spec.any_item ts ≡ spec.item_of left ts
unfolding spec.item_of
item-suc zero ts h = absurd (h refl)
item-suc (suc n) ts h = refl

pub item-zero : (left : ℕ) (ts : List Sign) → left ≡ 0 → spec.path_item ts ≡ spec.item_of left ts
unfolding spec.item_of
item-zero left ts h = rw h refl

-- ---- the turns of the list of items, which counts the children that are left
items_shortens : Shortens (λ left. reader.after kind 28 (spec.item_of left))
items_shortens = record { by = λ left ts rest a e. exact_takes kind (part.after kind 28 (g.item_of left)) (reader.after kind 28 (spec.item_of left)) (28 ∷ []) (29 ∷ []) (comma_item_exact left) ts rest a e }

pub items-ends : (left : ℕ) (xs : List Item) (ts : List Sign) → begins_with kind (28 ∷ []) ts ≡ false → with_front xs (spec.more_items left ts) ≡ Ok (xs, ts)
unfolding spec.more_items
items-ends left xs ts e =
    let h = repeat-ends kind (28 ∷ []) (λ n. reader.after kind 28 (spec.item_of n)) left_behind items_shortens left ts e in
    rw (h, append-nil xs) refl

pub items-turn : (left : ℕ) (xs : List Item) (ts rest : List Sign) (a : Item) → begins_with kind (28 ∷ []) ts ≡ true → reader.after kind 28 (spec.item_of left) ts ≡ Ok (a, rest)
    → with_front xs (spec.more_items left ts) ≡ with_front (xs ++ a ∷ []) (spec.more_items (left_behind left a) rest)
unfolding spec.more_items
items-turn left xs ts rest a e f =
    let h = repeat-turn kind (28 ∷ []) (λ n. reader.after kind 28 (spec.item_of n)) left_behind items_shortens left ts rest a e f in
    rw (h, with_front-append xs (a ∷ []) (spec.more_items (left_behind left a) rest)) refl

items-stuck : (left : ℕ) (xs : List Item) (ts : List Sign) (m : ℕ) → begins_with kind (28 ∷ []) ts ≡ true → reader.after kind 28 (spec.item_of left) ts ≡ Err m
    → with_front xs (spec.more_items left ts) ≡ Err m
unfolding spec.more_items
items-stuck left xs ts m e f =
    let h = repeat-stuck kind (28 ∷ []) (λ n. reader.after kind 28 (spec.item_of n)) left_behind items_shortens left ts m e f in
    rw h refl

pub items_fails : (left : ℕ) (xs : List Item) (ts : List Sign) (e : Fail) → begins_with kind (28 ∷ []) ts ≡ true → reader.Fails e (reader.after kind 28 (spec.item_of left) ts)
    → reader.Fails e (with_front xs (spec.more_items left ts))
items_fails left xs ts Memory b f = tt
items_fails left xs ts (Stuck m) b f = items-stuck left xs ts m b f
