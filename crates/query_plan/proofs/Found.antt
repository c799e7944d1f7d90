-- A plan that means a query finds what the query finds.
use Rattle.std.proofs.Common.{◌≡◌, ℕ, Bool, true, false, cond, List, [], ◌∷◌, filter, drop, Option, Some, refl, sym, ap, ◌∙◌, inl, inr, ◌⊎◌}
use Rattle.std.specs.Option.{unwrap_or}
use Rattle.std.specs.declared.cmp.Ordering.{Ordering}
use Rattle.std.specs.Ordering.{is_lt}
use Rattle.soql.specs.declared.query.Query.{Query}
use Rattle.soql.specs.declared.query.Tail.{Tail}
use Rattle.model.specs.declared.record.Record.{Record}
use Rattle.model.specs.Cases.{in_case}
use Rattle.model.specs.Conditions.{satisfies}
use Rattle.model.specs.Levels.{can_read, readable}
use Rattle.model.specs.Membership.{Has}
use Rattle.model.specs.Objects.{Numbered, object_named, records_of}
use Rattle.model.specs.Ordered.{before, in_order, put_in}
use Rattle.model.specs.Paths.{Asked}
use Rattle.model.specs.Rows.{chosen, found, limited, readable_of}
use Rattle.query_plan.specs.declared.plan.Choice.{Choice}
use Rattle.query_plan.specs.declared.plan.Plan.{Plan}
use Rattle.query_plan.specs.Plans.{Chooses, Means, by_keys, chosen_by, is_taken, parents_by}
use Rattle.query_plan.proofs.Lists.{kept}

-- ---- two orders that agree on the elements of a list

-- what is put in is there, and nothing else is new
put_has : {X : Type 0} (order : X → X → Ordering) (x : X) (ys : List X) (z : X) → Has (put_in order x ys) z → (z ≡ x) ⊎ Has ys z
put_has order x [] z (inl e) = inl e
put_has order x [] z (inr h) = absurd h
put_has {X = X} order x (y ∷ ys) z h = by (is_lt (order x y)) h (λ h. put_has order x ys z h)
  where
    by : (b : Bool) → Has (cond b (x ∷ y ∷ ys) (y ∷ put_in order x ys)) z → (Has (put_in order x ys) z → (z ≡ x) ⊎ Has ys z) → (z ≡ x) ⊎ Has (y ∷ ys) z
    by true (inl e) more = inl e
    by true (inr h) more = inr h
    by false (inl e) more = inr (inl e)
    by false (inr h) more = behind (more h)
      where
        behind : (z ≡ x) ⊎ Has ys z → (z ≡ x) ⊎ Has (y ∷ ys) z
        behind (inl e) = inl e
        behind (inr h) = inr (inr h)

pub order_has : {X : Type 0} (order : X → X → Ordering) (xs : List X) (z : X) → Has (in_order order xs) z → Has xs z
unfolding in_order
order_has order [] z h = absurd h
order_has order (x ∷ xs) z h = by (put_has order x (in_order order xs) z h) (λ h. order_has order xs z h)
  where
    by : (z ≡ x) ⊎ Has (in_order order xs) z → (Has (in_order order xs) z → Has xs z) → Has (x ∷ xs) z
    by (inl e) more = inl e
    by (inr h) more = inr (more h)

put_same : {X : Type 0} (f g : X → X → Ordering) (x : X) (ys : List X) → ((y : X) → Has ys y → f x y ≡ g x y) → put_in f x ys ≡ put_in g x ys
put_same f g x [] e = refl
put_same f g x (y ∷ ys) e =
    ap (λ o. cond (is_lt o) (x ∷ y ∷ ys) (y ∷ put_in f x ys)) (e y (inl refl))
    ∙ ap (λ zs. cond (is_lt (g x y)) (x ∷ y ∷ ys) (y ∷ zs)) (put_same f g x ys (λ z h. e z (inr h)))

order_same : {X : Type 0} (f g : X → X → Ordering) (xs : List X) → ((x y : X) → Has xs x → Has xs y → f x y ≡ g x y) → in_order f xs ≡ in_order g xs
unfolding in_order
order_same f g [] e = refl
order_same f g (x ∷ xs) e =
    put_same f g x (in_order f xs) (λ y h. e x y (inl refl) (inr (order_has f xs y h)))
    ∙ ap (put_in g x) (order_same f g xs (λ y z h i. e y z (inr h) (inr i)))

filter_same : {X : Type 0} (f g : X → Bool) (xs : List X) → ((x : X) → Has xs x → f x ≡ g x) → filter f xs ≡ filter g xs
filter_same f g [] e = refl
filter_same f g (x ∷ xs) e =
    ap (λ b. cond b (x ∷ filter f xs) (filter f xs)) (e x (inl refl)) ∙ ap (λ ys. cond (g x) (x ∷ ys) ys) (filter_same f g xs (λ y h. e y (inr h)))

-- ---- what is taken

pub chosen_same : (a : Asked) (n : ℕ) (tail : Tail) (offset : ℕ) (c : Choice) → Chooses a n tail offset c → (rs : List Record) → ((r : Record) → Has rs r → Has (records_of a.tenant n) r)
    → chosen_by a c rs ≡ chosen a tail offset rs
chosen_same a n tail offset c m rs of =
    let those = filter (satisfies a tail.condition) rs in
    let there = λ (r : Record) (h : Has those r). of r (kept (satisfies a tail.condition) rs r h).0 in
    ap (λ xs. limited c.most (drop c.skip (in_order (by_keys c.order (parents_by a c)) xs))) (filter_same (is_taken a c) (satisfies a tail.condition) rs (λ r h. m.rows r (of r h)))
    ∙ ap (λ xs. limited c.most (drop c.skip xs)) (order_same (by_keys c.order (parents_by a c)) (before a tail.order) those (λ r s h i. m.order r s (there r h) (there s i)))
    ∙ ap (λ k. limited c.most (drop k (in_order (before a tail.order) those))) m.skip
    ∙ ap (λ k. limited k (drop offset (in_order (before a tail.order) those))) m.most

-- ---- rows

pub found_is : (a : Asked) (q : Query) (o : Numbered) (p : Plan) → object_named a.tenant q.tail.from ≡ Some o → Means a o.number q p
    → chosen_by a p.choice (readable_of a o.number) ≡ found a q
unfolding found readable
found_is a q o p named m =
    chosen_same a o.number q.tail (unwrap_or q.offset 0) p.choice m.chooses (readable_of a o.number) (λ r h. (kept (can_read a.tenant a.user) (records_of a.tenant o.number) r h).0)
    ∙ ap (λ (x : Option Numbered). in_case x [] (λ (o : Numbered). chosen a q.tail (unwrap_or q.offset 0) (readable_of a o.number))) (sym named)
