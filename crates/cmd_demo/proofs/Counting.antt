-- Records and repeats, counted.
use Rattle.std.proofs.Common.{◌≡◌, ◌∙◌, ◌<◌, ◌-◌, arith, ℕ, zero, suc, ◌+◌, Bool, true, false, cond, List, Option, Result, Ok, Err, refl, sym, ap, subst}
use Rattle.std.specs.Prelude.{IsErr}
use Rattle.std.specs.Result.{IsErrAnd}
use Rattle.store_kv.specs.Draft.{Held}
use Rattle.store_kv.specs.Memory.{InMemory}
use Rattle.model.specs.Creates.{create}
use Rattle.model.specs.Paths.{Asked}
use Rattle.model.specs.declared.refusal.Refusal.{Refusal}
use Rattle.cmd_sandbox.specs.Making.{IsOwned}
use Rattle.store_abstraction.specs.declared.fail.EditFail.{EditFail}
use Rattle.store_abstraction.specs.declared.fail.EditFail.TheVariants.{Refused, Store}
use Rattle.model.specs.Asker.{stepped}
use Rattle.cmd_demo.specs.Demos.{amount_line, switched_by, and_then, comes_to, given_amount, is_settled, item_object, next_repeat, repeats_from, with_items}
use Rattle.cmd_demo.specs.declared.repeats.Repeats.{Repeats}
use Rattle.cmd_demo.specs.inner.Coming.{Comes, Makes}
use Rattle.cmd_demo.proofs.Coming.{came_out, memory_of}

none_more : (m : ℕ) → m ≡ 0 + m
none_more m = omega arith

one_less : (n m : ℕ) → suc (n + m) ≡ suc n + m
one_less n m = omega arith

-- ---- records

-- the record behind these
abbrev item_after : (count : ℕ) → Result Asked Refusal → Result Asked Refusal
item_after count r = and_then r (λ b. comes_to b (create b item_object (given_amount (suc count))))

-- once a record is refused, so is all that has it
items_refused : (m n : ℕ) (a : Asked) (why : Refusal) → with_items m a ≡ Err why → with_items (n + m) a ≡ Err why
unfolding with_items
items_refused m zero a why e = subst (λ (k : ℕ). with_items k a ≡ Err why) (none_more m) e
items_refused m (suc n) a why e = subst (λ (k : ℕ). with_items k a ≡ Err why) (one_less n m) (ap (item_after (n + m)) (items_refused m n a why e))

module _ (place : ℕ) (a b : Asked) (so_far : with_items place a ≡ Ok b) where
  one_more : with_items (suc place) a ≡ comes_to b (create b item_object (given_amount (suc place)))
  unfolding with_items
  one_more = ap (item_after place) so_far

  next_is : suc place ≡ place + 1
  next_is = omega arith

  from_code : (P : ℕ → Type 0) → P (place + 1) → P (suc place)
  from_code P h = subst P (sym next_is) h

  pub items_next : (x : Asked) → comes_to b (create b item_object (given_amount (place + 1))) ≡ Ok x → with_items (place + 1) a ≡ Ok x
  items_next x e =
      subst (λ (n : ℕ). with_items n a ≡ Ok x) next_is (one_more ∙ from_code (λ n. comes_to b (create b item_object (given_amount n)) ≡ Ok x) e)

  -- a record was refused, or the work on the tables stopped
  pub items_stop : (now : ℕ) (after : Held InMemory) (count : ℕ) → place < count → (out : Result (Unit {0}) EditFail) (e : EditFail) → IsErr out × IsErrAnd out (λ x. x ≡ e)
      → Makes now after (comes_to b (create b item_object (given_amount (place + 1)))) (Err e) → Makes now after (with_items count a) out
  items_stop now after count within (Ok done) e is h = absurd is.1
  items_stop now after count within (Err f) e is h = subst (λ (x : EditFail). Makes now after (with_items count a) (Err x)) (sym is.1) (by e h)
    where
      far : (count - suc place) + suc place ≡ count
      far = omega (arith, within)

      refused : (r : Result Asked Refusal) → with_items (suc place) a ≡ r → (why : Refusal) → Makes now after r (Err (Refused why)) → Makes now after (with_items count a) (Err (Refused why))
      refused (Ok x) is why h = absurd h
      refused (Err because) is why h =
          subst (λ (x : Result Asked Refusal). Makes now after x (Err (Refused why))) (sym (subst (λ (n : ℕ). with_items n a ≡ Err because) far (items_refused (suc place) (count - suc place) a because is))) h

      by : (e : EditFail) → Makes now after (comes_to b (create b item_object (given_amount (place + 1)))) (Err e) → Makes now after (with_items count a) (Err e)
      by (Store fail) h = came_out {Y = Unit {0}} (λ x done. IsOwned now after x) (with_items count a) fail
          (memory_of {Y = Unit {0}} (λ x done. IsOwned now after x) (comes_to b (create b item_object (given_amount (place + 1)))) fail h)
      by (Refused why) h =
          refused (with_items (suc place) a) refl why
          (subst (λ (x : Result Asked Refusal). Makes now after x (Err (Refused why))) (sym one_more)
          (from_code (λ n. Makes now after (comes_to b (create b item_object (given_amount n))) (Err (Refused why))) h))

-- all of them are made
pub items_end : (now : ℕ) (after : Held InMemory) (place count : ℕ) (a b : Asked) → with_items place a ≡ Ok b → place ≡ count → IsOwned now after b → Makes now after (with_items count a) (Ok tt)
items_end now after place count a b so_far is owned =
    subst (λ (r : Result Asked Refusal). Makes now after r (Ok tt)) (sym (subst (λ (n : ℕ). with_items n a ≡ Ok b) is so_far)) owned

-- ---- repeats

abbrev Course : Type 0
Course = Asked × Repeats

-- one more, unless no change is under way
abbrev repeat_after : Result Course Refusal → Result Course Refusal
repeat_after r = and_then r (λ y. cond (is_settled y.0.tenant) (Ok y) (next_repeat y.0 y.1))

-- once a repeat is refused, so is all that has it
repeat_refused : (m n : ℕ) (a : Asked) (why : Refusal) → repeats_from m a ≡ Err why → repeats_from (n + m) a ≡ Err why
unfolding repeats_from
repeat_refused m zero a why e = subst (λ (k : ℕ). repeats_from k a ≡ Err why) (none_more m) e
repeat_refused m (suc n) a why e = subst (λ (k : ℕ). repeats_from k a ≡ Err why) (one_less n m) (ap repeat_after (repeat_refused m n a why e))

-- once no change is under way, nothing is repeated
repeat_settled : (m n : ℕ) (a : Asked) (x : Course) → repeats_from m a ≡ Ok x → is_settled x.0.tenant ≡ true → repeats_from (n + m) a ≡ Ok x
unfolding repeats_from
repeat_settled m zero a x e done = subst (λ (k : ℕ). repeats_from k a ≡ Ok x) (none_more m) e
repeat_settled m (suc n) a x e done =
    subst (λ (k : ℕ). repeats_from k a ≡ Ok x) (one_less n m)
    (ap repeat_after (repeat_settled m n a x e done) ∙ ap (λ (b : Bool). cond b (Ok x) (next_repeat x.0 x.1)) done)

-- the organisation is what it should be, in these tables, and so is what is returned
abbrev pub HasSeen : {X : Type 0} → (now : ℕ) → (after : Held InMemory) → Asked × X → X → Type 0
HasSeen now after x y = IsOwned now after x.0 × (y ≡ x.1)

-- what one more has seen, by the lines of its query
abbrev pub seen_by : Asked → Repeats → (lines : List ℕ) → Result Course Refusal
seen_by a x lines = Ok (stepped a, record { count = suc x.count; switched = switched_by x.switched (suc x.count) (stepped a).tenant; least = amount_line lines })

pub same_repeats : (n m : ℕ) (s t : Option ℕ) (l k : List ℕ) → n ≡ m → s ≡ t → l ≡ k → ◌≡◌ {A = Repeats} (record { count = n; switched = s; least = l }) (record { count = m; switched = t; least = k })
same_repeats n m s t l k e f g = rw (e, f, g) refl

module _ (now : ℕ) (turn : ℕ) (a : Asked) (x : Course) (so_far : repeats_from turn a ≡ Ok x) where
  -- a change is under way: one more
  one_repeat : is_settled x.0.tenant ≡ false → repeats_from (suc turn) a ≡ next_repeat x.0 x.1
  unfolding repeats_from
  one_repeat busy = ap repeat_after so_far ∙ ap (λ (b : Bool). cond b (Ok x) (next_repeat x.0 x.1)) busy

  turn_is : suc turn ≡ turn + 1
  turn_is = omega arith

  pub repeat_next : (y : Course) → is_settled x.0.tenant ≡ false → next_repeat x.0 x.1 ≡ Ok y → repeats_from (turn + 1) a ≡ Ok y
  repeat_next y busy e = subst (λ (n : ℕ). repeats_from n a ≡ Ok y) turn_is (one_repeat busy ∙ e)

  -- no change is under way: it ends
  pub repeat_done : (after : Held InMemory) (most : ℕ) → turn < most → is_settled x.0.tenant ≡ true → IsOwned now after x.0 → (seen : Repeats) → seen ≡ x.1
      → Comes (HasSeen now after) (repeats_from most a) (Ok seen)
  repeat_done after most within done owned seen is =
      let far : (most - turn) + turn ≡ most = omega (arith, within) in
      subst (λ (r : Result Course Refusal). Comes (HasSeen now after) r (Ok seen)) (sym (subst (λ (n : ℕ). repeats_from n a ≡ Ok x) far (repeat_settled turn (most - turn) a x so_far done))) (owned, is)

  -- a repeat was refused, or the work on the tables stopped
  pub repeat_stop : (after : Held InMemory) (most : ℕ) → turn < most → is_settled x.0.tenant ≡ false → (out : Result Repeats EditFail) (e : EditFail) → IsErr out × IsErrAnd out (λ z. z ≡ e)
      → Comes (HasSeen now after) (next_repeat x.0 x.1) (Err e) → Comes (HasSeen now after) (repeats_from most a) out
  repeat_stop after most within busy (Ok seen) e is h = absurd is.1
  repeat_stop after most within busy (Err f) e is h = subst (λ (z : EditFail). Comes (HasSeen now after) (repeats_from most a) (Err z)) (sym is.1) (by e h)
    where
      far : (most - suc turn) + suc turn ≡ most
      far = omega (arith, within)

      refused : (r : Result Course Refusal) → repeats_from (suc turn) a ≡ r → (why : Refusal) → Comes (HasSeen now after) r (Err (Refused why)) → Comes (HasSeen now after) (repeats_from most a) (Err (Refused why))
      refused (Ok y) is why h = absurd h
      refused (Err because) is why h =
          subst (λ (r : Result Course Refusal). Comes (HasSeen now after) r (Err (Refused why))) (sym (subst (λ (n : ℕ). repeats_from n a ≡ Err because) far (repeat_refused (suc turn) (most - suc turn) a because is))) h

      by : (e : EditFail) → Comes (HasSeen now after) (next_repeat x.0 x.1) (Err e) → Comes (HasSeen now after) (repeats_from most a) (Err e)
      by (Store fail) h = came_out (HasSeen now after) (repeats_from most a) fail (memory_of (HasSeen now after) (next_repeat x.0 x.1) fail h)
      by (Refused why) h =
          refused (repeats_from (suc turn) a) refl why (subst (λ (r : Result Course Refusal). Comes (HasSeen now after) r (Err (Refused why))) (sym (one_repeat busy)) h)

-- it was repeated as often as it may
pub repeat_end : (now : ℕ) (after : Held InMemory) (turn most : ℕ) (a : Asked) (x : Course) → repeats_from turn a ≡ Ok x → turn ≡ most → IsOwned now after x.0 → (seen : Repeats) → seen ≡ x.1
    → Comes (HasSeen now after) (repeats_from most a) (Ok seen)
repeat_end now after turn most a x so_far is owned seen same =
    subst (λ (r : Result Course Refusal). Comes (HasSeen now after) r (Ok seen)) (sym (subst (λ (n : ℕ). repeats_from n a ≡ Ok x) is so_far)) (owned, same)
