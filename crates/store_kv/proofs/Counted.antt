-- The data rows that a call is shown.
use Rattle.std.proofs.Common.{◌≡◌, ◌⊎◌, inl, inr, ℕ, zero, suc, ◌+◌, ◌≤◌, ◌==◌, ◌&&◌, List, [], ◌∷◌, length, Bool, true, false, cond, Option, Some, None, Ordering, Less, Equal, Greater, refl, sym, ap, ◌∙◌, arith}
use Rattle.std.specs.Ordering.{match_ordering}
use Rattle.std.specs.Cmp.{unsigned_Decides}
use Rattle.std.proofs.lemmas.Bool.{cases_Bool}
use Rattle.std.specs.BTreeMap.{insert_entry}
use Rattle.store_kv.specs.Tables.{Place, place_cmp, is_between}
use Rattle.base_value.specs.Causes.{up_to_last}
use Rattle.store_kv.specs.State.{KeeperState, more_shown, data_rows, data_table, ShowsMost, ShownMost}
use Rattle.store_kv.specs.Laid.{Entry, removals, gap}
use Rattle.store_kv.specs.inner.Merging.{gaps, within}
use Rattle.store_kv.proofs.Places.{places_exact}

-- a count that stays at its last value rises by no more
pub shows_most : (s u : KeeperState) (table n most : ℕ) → u.shown ≡ more_shown table n s.shown → n ≤ most → ShowsMost (data_rows table most) s u
shows_most s u table zero most is low = let same = ap (λ (f : ℕ → ℕ). f 7) is in omega (arith, same)
shows_most s u table (suc n) most is low = by (7 == table) (ap (λ (f : ℕ → ℕ). f 7) is)
  where
    by : (b : Bool) → u.shown 7 ≡ cond b (up_to_last (s.shown 7 + suc n)) (s.shown 7) → u.shown 7 ≤ s.shown 7 + cond b most 0
    by true same = omega (arith, same, low)
    by false same = omega (arith, same)

pub shown_no_more : (s u : KeeperState) (table n most : ℕ) → u.shown ≡ more_shown table n s.shown → n ≤ most → ShownMost table most s u
shown_no_more s u table zero most is low t = let same = ap (λ (f : ℕ → ℕ). f t) is in omega (arith, same)
shown_no_more s u table (suc n) most is low t = by (t == table) (ap (λ (f : ℕ → ℕ). f t) is)
  where
    by : (b : Bool) → u.shown t ≡ cond b (up_to_last (s.shown t + suc n)) (s.shown t) → u.shown t ≤ s.shown t + cond b most 0
    by true same = omega (arith, same, low)
    by false same = omega (arith, same)

pub gaps_within : (t : ℕ) (from below : List ℕ) (es : List Entry) → gaps (within t from below es) ≤ removals t es
gaps_within t from below [] = omega arith
gaps_within t from below (e ∷ es) = by (e.0.0 == t) (is_between from below e.0.1) (gaps_within t from below es)
  where
    by : (a b : Bool) → gaps (within t from below es) ≤ removals t es → gaps (cond (a && b) (e ∷ within t from below es) (within t from below es)) ≤ cond a (gap e.1) 0 + removals t es
    by true true later = omega (arith, later)
    by true false later = omega (arith, later)
    by false b later = omega (arith, later)

pub length_put : (es : List Entry) (p : Place) (r : Option (List ℕ)) → length (insert_entry place_cmp es p r) ≤ length es + 1
length_put [] p r = omega arith
length_put (e ∷ es) p r = by (place_cmp p e.0) (length_put es p r)
  where
    by : (o : Ordering) → length (insert_entry place_cmp es p r) ≤ length es + 1 → length (match_ordering o ((p, r) ∷ e ∷ es) ((e.0, r) ∷ es) (e ∷ insert_entry place_cmp es p r)) ≤ length (e ∷ es) + 1
    by Less later = omega arith
    by Equal later = omega arith
    by Greater later = omega (arith, later)

nothing : (b : Bool) → ◌≡◌ {A = ℕ} (cond b 0 0) 0
nothing true = refl
nothing false = refl

-- a row put in takes none away, and may bring one back
pub removals_put : (t : ℕ) (es : List Entry) (p : Place) (r : List ℕ) → removals t (insert_entry place_cmp es p (Some r)) ≤ removals t es
removals_put t [] p r = omega (arith, nothing (p.0 == t))
removals_put t (e ∷ es) p r = by (place_cmp p e.0) (removals_put t es p r)
  where
    by : (o : Ordering) → removals t (insert_entry place_cmp es p (Some r)) ≤ removals t es
        → removals t (match_ordering o ((p, Some r) ∷ e ∷ es) ((e.0, Some r) ∷ es) (e ∷ insert_entry place_cmp es p (Some r))) ≤ removals t (e ∷ es)
    by Less later = omega (arith, nothing (p.0 == t))
    by Equal later = omega (arith, nothing (e.0.0 == t))
    by Greater later = omega (arith, later)

-- a row taken away is one of its table, counted once however often it is taken
pub removals_gone : (t : ℕ) (es : List Entry) (p : Place) → removals t (insert_entry place_cmp es p None) ≤ removals t es + cond (p.0 == t) 1 0
removals_gone t [] p = omega arith
removals_gone t (e ∷ es) p = by (place_cmp p e.0) refl (removals_gone t es p)
  where
    by : (o : Ordering) → place_cmp p e.0 ≡ o → removals t (insert_entry place_cmp es p None) ≤ removals t es + cond (p.0 == t) 1 0
        → removals t (match_ordering o ((p, None) ∷ e ∷ es) ((e.0, None) ∷ es) (e ∷ insert_entry place_cmp es p None)) ≤ removals t (e ∷ es) + cond (p.0 == t) 1 0
    by Less is later = omega arith
    by Equal is later = let same = ap {B = ℕ} (λ (q : Place). cond (q.0 == t) 1 0) (places_exact p e.0 is) in omega (arith, same)
    by Greater is later = omega (arith, later)

turned : (a b : ℕ) → (a == b) ≡ (b == a)
turned a b = by (cases_Bool (a == b)) (cases_Bool (b == a))
  where
    by : ((a == b) ≡ true) ⊎ ((a == b) ≡ false) → ((b == a) ≡ true) ⊎ ((b == a) ≡ false) → (a == b) ≡ (b == a)
    by (inl x) (inl y) = x ∙ sym y
    by (inr x) (inr y) = x ∙ sym y
    by (inl x) (inr y) = x ∙ sym ((unsigned_Decides b a).1 (sym ((unsigned_Decides a b).0 x)))
    by (inr x) (inl y) = x ∙ sym (sym ((unsigned_Decides a b).1 (sym ((unsigned_Decides b a).0 y))) ∙ x) ∙ sym y

pub data_gone : (es : List Entry) (p : Place) → removals data_table (insert_entry place_cmp es p None) ≤ removals data_table es + data_rows p.0 1
data_gone es p = let gone = removals_gone 7 es p in let same = ap {B = ℕ} (λ b. cond b 1 0) (turned p.0 7) in omega (arith, gone, same)

pub data_kept : (m : ℕ) (es : List Entry) (p : Place) (r : List ℕ) → m ≡ removals data_table (insert_entry place_cmp es p (Some r)) → m ≤ removals data_table es + 0
data_kept m es p r is = let put = removals_put 7 es p r in omega (arith, is, put)

-- never more than the draft is long
pub removals_most : (t : ℕ) (es : List Entry) → removals t es ≤ length es
removals_most t [] = omega arith
removals_most t (e ∷ es) = by (e.0.0 == t) e.1 (removals_most t es)
  where
    by : (b : Bool) (r : Option (List ℕ)) → removals t es ≤ length es → cond b (gap r) 0 + removals t es ≤ length (e ∷ es)
    by true (Some r) later = omega (arith, later)
    by true None later = omega (arith, later)
    by false r later = omega (arith, later)
