-- What entries laid over rows have at a place.
use Rattle.std.proofs.Common.{◌≡◌, ℕ, List, [], ◌∷◌, Bool, true, false, cond, Option, Some, None, is_eq, refl, sym, ap, ◌∙◌}
use Rattle.std.specs.Ordering.{eq_by_cmp}
use Rattle.std.specs.Cmp.{eq_by_cmp_equiv, Equal-is}
use Rattle.std.specs.FinMap.{get, get-insert, get-remove, get-empty, same_map}
use Rattle.std.specs.Map.{lookup}
use Rattle.std.specs.BTreeMap as tree
use Rattle.std.specs.BTreeMap.{BTreeMap, is_at, Updates}
use Rattle.store_kv.specs.Tables.{Place, Tables, place_cmp, no_rows}
use Rattle.store_kv.specs.Order.{places_total}
use Rattle.store_kv.specs.Laid.{Entry, laid, row_laid}
use Rattle.store_kv.specs.Memory.{tables_in}
use Rattle.store_kv.proofs.Places.{places_exact}

-- what stands at a place that may have been laid over
abbrev pub over : Option (Option (List ℕ)) → Option (List ℕ) → Option (List ℕ)
over None row = row
over (Some row) was = row

pub get-row_laid : (p : Place) (r : Option (List ℕ)) (m : Tables) (q : Place) → get (row_laid p r m) q ≡ cond (eq_by_cmp place_cmp q p) r (get m q)
get-row_laid p (Some r) m q = get-insert places_total m p r q
get-row_laid p None m q = get-remove places_total m p q

pub over_cond : (b : Bool) (r : Option (List ℕ)) (o : Option (Option (List ℕ))) (x : Option (List ℕ)) → cond b r (over o x) ≡ over (cond b (Some r) o) x
over_cond true r o x = refl
over_cond false r o x = refl

pub get-laid : (es : List Entry) (m : Tables) (q : Place) → get (laid es m) q ≡ over (lookup (is_at (place_cmp q)) es) (get m q)
get-laid [] m q = refl
get-laid (e ∷ es) m q = get-row_laid e.0 e.1 (laid es m) q ∙ ap (cond (eq_by_cmp place_cmp q e.0) e.1) (get-laid es m q) ∙ over_cond (eq_by_cmp place_cmp q e.0) e.1 (lookup (is_at (place_cmp q)) es) (get m q)

same_tables : (m n : Tables) → ((q : Place) → get m q ≡ get n q) → m ≡ n
same_tables m n each = same_map places_total places_exact m n each

exact : (p q : Place) → is_at (place_cmp p) q ≡ true → p ≡ q
exact p q s = places_exact p q ((Equal-is _).0 s)

turned : (p q : Place) → is_eq (place_cmp p q) ≡ eq_by_cmp place_cmp q p
turned p q = (eq_by_cmp_equiv places_total).symm p q

-- a new entry at a place
pub laid-updates : (m n : BTreeMap Place (Option (List ℕ))) (p : Place) (r : Option (List ℕ)) → Updates place_cmp m n p (Some r) → (t : Tables) → laid n.entries t ≡ row_laid p r (laid m.entries t)
laid-updates m n p r u t = same_tables _ _ (λ q.
    get-laid n.entries t q ∙ ap (λ o. over o (get t q)) (u.0 q ∙ ap (λ b. cond b (Some r) (tree.get place_cmp m q)) (turned p q)) ∙ sym (over_cond (eq_by_cmp place_cmp q p) r (tree.get place_cmp m q) (get t q))
    ∙ sym (get-row_laid p r (laid m.entries t) q ∙ ap (cond (eq_by_cmp place_cmp q p) r) (get-laid m.entries t q)))

pub get-tables_in : (es : List Entry) (q : Place) → get (tables_in es) q ≡ over (lookup (is_at (place_cmp q)) es) None
unfolding tables_in
get-tables_in es q = get-laid es no_rows q ∙ ap (over (lookup (is_at (place_cmp q)) es)) (get-empty place_cmp q)

pub tables-updates : (m n : BTreeMap Place (Option (List ℕ))) (p : Place) (r : Option (List ℕ)) → Updates place_cmp m n p (Some r) → tables_in n.entries ≡ row_laid p r (tables_in m.entries)
unfolding tables_in
tables-updates m n p r u = laid-updates m n p r u no_rows

-- the row that a place had undoes what was laid over it
pub row_back : (p : Place) (r : Option (List ℕ)) (m : Tables) → row_laid p (get m p) (row_laid p r m) ≡ m
row_back p r m = same_tables _ _ (λ q. get-row_laid p (get m p) (row_laid p r m) q ∙ ap (cond (eq_by_cmp place_cmp q p) (get m p)) (get-row_laid p r m q) ∙ by q (eq_by_cmp place_cmp q p) refl)
  where
    by : (q : Place) (b : Bool) → eq_by_cmp place_cmp q p ≡ b → cond b (get m p) (cond b r (get m q)) ≡ get m q
    by q true same = ap (get m) (sym (exact q p same))
    by q false other = refl

-- an entry with no row shows what none does
pub gap_dropped : (m n : BTreeMap Place (Option (List ℕ))) (p : Place) → tree.get place_cmp m p ≡ Some None → Updates place_cmp m n p None → tables_in n.entries ≡ tables_in m.entries
gap_dropped m n p gap u = same_tables _ _ (λ q. get-tables_in n.entries q ∙ ap (λ o. over o None) (u.0 q) ∙ by q (is_at (place_cmp p) q) refl ∙ sym (get-tables_in m.entries q))
  where
    by : (q : Place) (b : Bool) → is_at (place_cmp p) q ≡ b → over (cond b None (tree.get place_cmp m q)) None ≡ over (tree.get place_cmp m q) None
    by q true same = sym (ap (λ o. over o None) (ap (tree.get place_cmp m) (sym (exact p q same)) ∙ gap))
    by q false other = refl

-- what an entry lends its reader
pub row_found : (es : List Entry) (q : Place) (held : Option (List ℕ)) → lookup (is_at (place_cmp q)) es ≡ Some held → held ≡ get (tables_in es) q
row_found es q held is = sym (get-tables_in es q ∙ ap (λ o. over o None) is)

pub row_missing : (es : List Entry) (q : Place) → lookup (is_at (place_cmp q)) es ≡ None → None ≡ get (tables_in es) q
row_missing es q is = sym (get-tables_in es q ∙ ap (λ o. over o None) is)

pub laid_found : (es : List Entry) (m : Tables) (q : Place) (held : Option (List ℕ)) → lookup (is_at (place_cmp q)) es ≡ Some held → held ≡ get (laid es m) q
laid_found es m q held is = sym (get-laid es m q ∙ ap (λ o. over o (get m q)) is)

pub laid_missing : (es : List Entry) (m : Tables) (q : Place) → lookup (is_at (place_cmp q)) es ≡ None → get m q ≡ get (laid es m) q
laid_missing es m q is = sym (get-laid es m q ∙ ap (λ o. over o (get m q)) is)
