-- The rows of an organisation's users, roles and groups, in the order of their ids, are the lists of its tenant.
use Rattle.std.proofs.Common.{◌≡◌, ℕ, ◌<◌, ◌≤◌, ◌^◌, Bool, true, false, ◌&&◌, cond, T, IsTrue, Option, Some, None, List, [], ◌∷◌, ◌++◌, length, refl, sym, ap, subst, ◌∙◌, inl, inr, map, arith, bytes_eq, take}
use Rattle.std.specs.Prelude.{◌-◌, ◌==◌, not, nat_eq, IsSome, Result, Ok, Err, Vec}
use Rattle.std.specs.List.{AllByRecursion}
use Rattle.std.specs.Option.{option_and_then, option_eq, option_map}
use Rattle.std.specs.Ordering.{is_lt, ordering_then}
use Rattle.std.specs.Cmp.Lexicographic.{nat_list_cmp_total}
use Rattle.std.specs.Cmp.{nat_cmp_total}
use Rattle.std.specs.FinMap.{is_sorted}
use Rattle.std.specs.FinMap.Entries.{below_all}
use Rattle.std.proofs.lemmas.Cmp.{tied_itself}
use Rattle.std.proofs.lemmas.List.{length-map, take_all}
use Rattle.std.proofs.lemmas.Slice.Eq.{bytes_eq-Decides}
use Rattle.std.proofs.lemmas.Option.{none-some as clash_some}
use Rattle.base_lemmas.proofs.Bools.{true_from_T as so, T-and_from_true as both_so, T-and_parts as split_and}
use Rattle.base_lemmas.proofs.Options.{option_map_some as map_some}
use Rattle.base_lemmas.proofs.Numbers.{eqb-self as eqb_same}
use Rattle.base_value.specs.Id.{is_id}
use Rattle.store_kv.specs.declared.keeper.KeptRow.{KeptRow}
use Rattle.store_kv.specs.Prefixes.{StartsWith, raised}
use Rattle.store_kv.specs.Tables.{Has, Tables, bytes_cmp, is_between}
use Rattle.store_rows.specs.declared.fail.StoreFail.{StoreFail}
use Rattle.store_rows.specs.declared.fail.StoreFail.TheVariants.{Damaged, Keeper, Memory}
use Rattle.store_rows.specs.Forms.{FitsForm, Form, key_bytes, key_of, row_bytes}
use Rattle.store_rows.specs.Keys as key
use Rattle.store_rows.specs.Keys.{FitsKey, Key, marked, spell}
use Rattle.store_rows.specs.Listings.{ListsBetween, ListsTo, rows_to, with_key}
use Rattle.store_rows.specs.Reads.{ListsAs}
use Rattle.store_rows.specs.declared.group.GroupRow.{GroupRow}
use Rattle.store_rows.specs.declared.role.RoleRow.{RoleRow}
use Rattle.store_rows.specs.declared.user.UserRow.{UserRow}
use Rattle.store_rows.specs.Rows.{group_form, role_form, user_form}
use Rattle.store_codec.specs.Plain.{number32}
use Rattle.store_codec.specs.Shapes.{Both, Identity, Number32, Number8, is_key_shape, spelled}
use Rattle.model.specs.Cases.{in_case}
use Rattle.model.specs.Sound.{IsSound}
use Rattle.model.specs.SoundPeople.{ids_rise}
use Rattle.model.specs.Known.{group_id, role_id}
use Rattle.model.specs.Tenant.{Tenant}
use Rattle.model.specs.World.{having_id, user_id}
use Rattle.store_abstraction.specs.Local.{StandsIn, part_of, rows_alone}
use Rattle.store_abstraction.specs.Metadata.{group_of, role_of, user_of}
use Rattle.store_abstraction.specs.Plan.{OrgPlan}
use Rattle.store_abstraction.specs.Stands.{org_of_key, row_in}
use Rattle.people_rows.specs.Roster.{ListsIn, group_rows, role_rows, user_rows}
use Rattle.store_abstraction.proofs.Intervals.{under_shorter}
use Rattle.store_abstraction.proofs.LayoutReads.{ListedIn}
use Rattle.store_abstraction.proofs.MetadataLists.{KeyLaws}
use Rattle.store_abstraction.proofs.Names.{MakesIds, NamesAreShort, NamesAreTexts}
use Rattle.store_abstraction.proofs.Pages.{GivesRows, PageLaws, page_gives}
use Rattle.people_rows.proofs.People.{group_fits, role_fits, user_fits}

-- ---- truths

-- ---- members

all_of : {X : Type 0} (P : X → Type 0) (xs : List X) → ((x : X) → Has xs x → P x) → AllByRecursion P xs
all_of P [] h = tt
all_of P (x ∷ xs) h = (h x (inl refl), all_of P xs (λ y g. h y (inr g)))

has_map : {X Y : Type 0} (f : X → Y) (xs : List X) (x : X) → Has xs x → Has (map f xs) (f x)
has_map f [] x h = absurd h
has_map f (y ∷ xs) x (inl e) = inl (ap f e)
has_map f (y ∷ xs) x (inr h) = inr (has_map f xs x h)

map_has : {X Y : Type 0} (f : X → Y) (xs : List X) (y : Y) → Has (map f xs) y → (x : X) × Has xs x × (y ≡ f x)
map_has f [] y h = absurd h
map_has f (x ∷ xs) y (inl same) = (x, inl refl, same)
map_has f (x ∷ xs) y (inr later) = let it = map_has f xs y later in (it.0, inr it.1, it.2)

-- ---- things with ids

module _ {X : Type 0} (id : X → List ℕ) where
  abbrev named : X → List ℕ × X
  named x = (id x, x)

  found_has : (xs : List X) (i : List ℕ) (x : X) → having_id id xs i ≡ Some x → Has xs x × (id x ≡ i)
  found_has [] i x e = absurd cc
  found_has (y ∷ xs) i x e = by (λ f. found_has xs i x f) (bytes_eq i (id y)) refl
    where
      by : (having_id id xs i ≡ Some x → Has xs x × (id x ≡ i)) → (b : Bool) → bytes_eq i (id y) ≡ b → Has (y ∷ xs) x × (id x ≡ i)
      by rest true same =
          let is : ◌≡◌ {A = Option X} (Some y) (Some x) = sym (ap (λ b. cond b (Some y) (having_id id xs i)) same) ∙ e in
          let one : x ≡ y = cc in
          (inl one, ap id one ∙ sym ((bytes_eq-Decides i (id y)).0 same))
      by rest false other = let r = rest (sym (ap (λ b. cond b (Some y) (having_id id xs i)) other) ∙ e) in (inr r.0, r.1)

  later : (k : List ℕ) (xs : List X) (x : X) → T (below_all bytes_cmp k (map named xs)) → Has xs x → T (is_lt (bytes_cmp k (id x)))
  later k [] x b h = absurd h
  later k (y ∷ xs) x b (inl e) =
      let p = split_and (is_lt (bytes_cmp k (id y))) (below_all bytes_cmp k (map named xs)) b in
      subst (λ (z : X). T (is_lt (bytes_cmp k (id z)))) (sym e) p.0
  later k (y ∷ xs) x b (inr h) =
      let p = split_and (is_lt (bytes_cmp k (id y))) (below_all bytes_cmp k (map named xs)) b in
      later k xs x p.1 h

  differs : (a b : List ℕ) → T (is_lt (bytes_cmp a b)) → bytes_eq b a ≡ false
  differs a b l = by (bytes_eq b a) refl
    where
      by : (c : Bool) → bytes_eq b a ≡ c → bytes_eq b a ≡ false
      by false e = e
      by true e =
          let same : b ≡ a = (bytes_eq-Decides b a).0 e in
          let tie = tied_itself nat_list_cmp_total a in
          absurd (subst (λ o. T (is_lt o)) tie (subst (λ (z : List ℕ). T (is_lt (bytes_cmp a z))) same l))

  -- of things whose ids rise each is found by its id
  has_found : (xs : List X) (x : X) → T (ids_rise id xs) → Has xs x → having_id id xs (id x) ≡ Some x
  has_found [] x r h = absurd h
  has_found (y ∷ xs) x r (inl e) = ap (λ b. cond b (Some y) (having_id id xs (id x))) ((bytes_eq-Decides (id x) (id y)).1 (ap id e)) ∙ ap Some (sym e)
  has_found (y ∷ xs) x r (inr h) =
      let p = split_and (below_all bytes_cmp (id y) (map named xs)) (is_sorted bytes_cmp (map named xs)) r in
      ap (λ b. cond b (Some y) (having_id id xs (id x))) (differs (id y) (id x) (later (id y) xs x p.0 h)) ∙ has_found xs x p.1 h

-- ---- rows in the order of ids

module _ {U X : Type 0} (f : Form U) (make : X → U) (id : X → List ℕ) (IsNamed : X → Type 0)
    (rises : (x y : X) → IsNamed x → IsNamed y → is_lt (bytes_cmp (id x) (id y)) ≡ true → is_lt (bytes_cmp (key_bytes f (make x)) (key_bytes f (make y))) ≡ true) where
  below_rows : (x : X) (xs : List X) → IsNamed x → AllByRecursion IsNamed xs → T (below_all bytes_cmp (id x) (map (named id) xs)) → T (below_all bytes_cmp (key_bytes f (make x)) (map (with_key f) (map make xs)))
  below_rows x [] n all b = tt
  below_rows x (y ∷ ys) n all b =
      let p = split_and (is_lt (bytes_cmp (id x) (id y))) (below_all bytes_cmp (id x) (map (named id) ys)) b in
      both_so (is_lt (bytes_cmp (key_bytes f (make x)) (key_bytes f (make y)))) (below_all bytes_cmp (key_bytes f (make x)) (map (with_key f) (map make ys)))
      (rises x y n all.0 (so (is_lt (bytes_cmp (id x) (id y))) p.0)) (below_rows x ys n all.1 p.1)

  both_hold : (a b : Bool) → T a → T b → T (a && b)
  both_hold true b h g = g
  both_hold false b h g = h

  sorted_rows : (xs : List X) → AllByRecursion IsNamed xs → T (ids_rise id xs) → T (is_sorted bytes_cmp (map (with_key f) (map make xs)))
  sorted_rows [] all r = tt
  sorted_rows (x ∷ xs) all r =
      let p = split_and (below_all bytes_cmp (id x) (map (named id) xs)) (is_sorted bytes_cmp (map (named id) xs)) r in
      both_hold (below_all bytes_cmp (key_bytes f (make x)) (map (with_key f) (map make xs))) (is_sorted bytes_cmp (map (with_key f) (map make xs)))
      (below_rows x xs all.0 all.1 p.0) (sorted_rows xs all.1 p.1)

-- ---- the rows of one kind of people

-- where the rows of a kind are: each at the key of its id, under the mark of its kind
pub record ArePeople {U X : Type 0} (f : Form U) (org mark : ℕ) (at : List ℕ → Key) (make : X → U) (id : X → List ℕ) (all : Tenant → List X) (most : ℕ) : Type 0 where
  pub is_key : IsTrue (is_key_shape (marked mark Identity))
  pub spelled_so : (x : X) → key_bytes f (make x) ≡ spelled (marked mark Identity) (org, (tt, id x))
  pub named_so : (x : X) → key_of f (make x) ≡ at (id x)
  pub spells : (i : List ℕ) → spell (at i) ≡ (f.table, spelled (marked mark Identity) (org, (tt, i)))
  pub owned : (i : List ℕ) → org_of_key (at i) ≡ Some org
  pub there : (p : OrgPlan) (t : Tenant) (i : List ℕ) → row_in p t (at i) ≡ option_map (λ x. row_bytes f (make x)) (having_id id (all t) i)
  pub under : (k : Key) → FitsKey k → (spell k).0 ≡ f.table → StartsWith (number32 org ++ mark ∷ []) (spell k).1 → (i : List ℕ) × (k ≡ at i)
  pub fits : (t : Tenant) → IsSound t → (x : X) → Has (all t) x → FitsForm f (make x)
  pub fits_key : (x : X) → FitsForm f (make x) → FitsKey (at (id x))
  pub is_id : (x : X) → FitsForm f (make x) → IsTrue (is_id (id x))
  pub rise : (t : Tenant) → IsSound t → T (ids_rise id (all t))
  pub few : (t : Tenant) → IsSound t → length (all t) ≤ most

module _ {U X : Type 0} (f : Form U) (org mark : ℕ) (at : List ℕ → Key) (make : X → U) (id : X → List ℕ) (all : Tenant → List X) (most : ℕ) (lo : org < 2 ^ 32)
    (h : ArePeople f org mark at make id all most) where
  abbrev prefix : List ℕ
  prefix = number32 org ++ mark ∷ []

  abbrev rows_in : Option Tenant → List U
  rows_in o = in_case o [] (λ t. map make (all t))

  few_rows : (q : OrgPlan) (m : Tables) (t : Option Tenant) → StandsIn org q m t → length (rows_in t) ≤ most
  few_rows q m None s = omega arith
  few_rows q m (Some t) s =
      let few = h.few t s.sound in
      omega (arith, few, length-map (all t) make)

  module _ (laws : KeyLaws) (q : OrgPlan) (m : Tables) where
    row_there : (t : Option Tenant) (i : List ℕ) → rows_alone org q t (at i) ≡ option_and_then (λ u. row_in q u (at i)) t
    row_there t i =
        ap (λ (o : Option ℕ). cond (option_eq nat_eq o (Some org)) (option_and_then (λ u. row_in q u (at i)) t) None) (h.owned i)
        ∙ ap (λ (b : Bool). cond b (option_and_then (λ u. row_in q u (at i)) t) None) (eqb_same org)

    ids_order : (x y : X) → IsTrue (is_id (id x)) → IsTrue (is_id (id y)) → is_lt (bytes_cmp (id x) (id y)) ≡ true → is_lt (bytes_cmp (key_bytes f (make x)) (key_bytes f (make y))) ≡ true
    ids_order x y a b e =
        ap (λ (k : List ℕ). is_lt (bytes_cmp k (key_bytes f (make y)))) (h.spelled_so x)
        ∙ ap (λ (k : List ℕ). is_lt (bytes_cmp (spelled (marked mark Identity) (org, (tt, id x))) k)) (h.spelled_so y)
        ∙ ap is_lt (laws.compares (marked mark Identity) h.is_key (org, (tt, id x)) (org, (tt, id y)) (lo, (tt, a)) (lo, (tt, b)))
        ∙ ap (λ o. is_lt (ordering_then o (bytes_cmp (id x) (id y)))) (tied_itself nat_cmp_total org)
        ∙ e

    module _ (t : Tenant) (sound : IsSound t) (above : List ℕ) (g : raised prefix ≡ Some above) where
      inside : (x : X) → Has (all t) x → IsTrue (is_between prefix above (key_bytes f (make x)))
      inside x has =
          let fit = h.fits t sound x has in
          let at_it : key_bytes f (make x) ≡ (spell (at (id x))).1 = h.spelled_so x ∙ sym (ap (λ (q : ℕ × List ℕ). q.1) (h.spells (id x))) in
          subst (λ (k : List ℕ). IsTrue (is_between prefix above k)) (sym at_it)
          ((laws.under (at (id x)) prefix above (h.fits_key x fit) g).1
          (subst (StartsWith prefix) (sym (ap (λ (q : ℕ × List ℕ). q.1) (h.spells (id x))))
          ((laws.begins 2 (marked mark Identity) (org, (tt, id x)) (org, tt) (lo, (tt, h.is_id x fit)) (lo, tt)).1 refl)))

      has_row : (x : X) → Has (all t) x → rows_alone org q (Some t) (key_of f (make x)) ≡ Some (row_bytes f (make x))
      has_row x has =
          ap (rows_alone org q (Some t)) (h.named_so x) ∙ row_there (Some t) (id x) ∙ h.there q t (id x)
          ∙ ap (option_map (λ z. row_bytes f (make z))) (has_found id (all t) x (h.rise t sound) has)

      listed : ListsBetween f (rows_alone org q (Some t)) prefix above (map make (all t))
      listed = record {
        rises = sorted_rows f make id (λ x. IsTrue (is_id (id x))) ids_order (all t) (all_of (λ x. IsTrue (is_id (id x))) (all t) (λ x has. h.is_id x (h.fits t sound x has))) (h.rise t sound);
        sound = λ u has.
            let it = map_has make (all t) u has in
            let x = it.0 in
            subst (λ (v : U). FitsForm f v × IsTrue (is_between prefix above (key_bytes f v)) × (rows_alone org q (Some t) (key_of f v) ≡ Some (row_bytes f v))) (sym it.2)
            (h.fits t sound x it.1, inside x it.1, has_row x it.1);
        complete = λ k row fits table between has.
            let it = h.under k fits table ((laws.under k prefix above fits g).0 between) in
            let here : option_map (λ z. row_bytes f (make z)) (having_id id (all t) it.0) ≡ Some row =
            sym (row_there (Some t) it.0 ∙ h.there q t it.0) ∙ ap (rows_alone org q (Some t)) (sym it.1) ∙ has in
            let found = map_some (λ z. row_bytes f (make z)) (having_id id (all t) it.0) row here in
            let one = found_has id (all t) it.0 found.0 found.1 in
            (make found.0, has_map make (all t) found.0 one.0, h.named_so found.0 ∙ ap at one.1 ∙ sym it.1);
      }

    none_here : (above : List ℕ) → raised prefix ≡ Some above → ListsBetween f (rows_alone org q None) prefix above []
    none_here above g = record {
      rises = tt;
      sound = λ u has. absurd has;
      complete = λ k row fits table between has.
          let it = h.under k fits table ((laws.under k prefix above fits g).0 between) in
          absurd (clash_some row (sym (row_there None it.0) ∙ ap (rows_alone org q None) (sym it.1) ∙ has));
    }

    has_end : org < 2 ^ 32 - 1 → raised prefix ≡ None → ⊥
    has_end known none = apart (raised prefix) (laws.ends org (mark ∷ []) known) none
      where
        apart : (o : Option (List ℕ)) → IsSome o → o ≡ None → ⊥
        apart None it n = absurd cc
        apart (Some x) it n = absurd cc

    people_listed : (t : Option Tenant) → StandsIn org q m t → ListsTo f (rows_alone org q t) prefix (raised prefix) (rows_in t)
    people_listed t s = by t s (raised prefix) refl
      where
        by : (t : Option Tenant) → StandsIn org q m t → (a : Option (List ℕ)) → raised prefix ≡ a → ListsTo f (rows_alone org q t) prefix a (rows_in t)
        by None s None g = refl
        by None s (Some above) g = none_here above g
        by (Some t) s None g = absurd (has_end s.number g)
        by (Some t) s (Some above) g = listed t s.sound above g

  -- the rows under the mark are those of the organisation's part
  in_part : ListedIn → (m : Tables) → not (f.table == 0) ≡ true → rows_to m f.table prefix (raised prefix) ≡ rows_to (part_of org m) f.table prefix (raised prefix)
  in_part listed m nonzero = by (raised prefix) refl
    where
      by : (a : Option (List ℕ)) → raised prefix ≡ a → rows_to m f.table prefix a ≡ rows_to (part_of org m) f.table prefix a
      by None e = refl
      by (Some above) e = listed m org f.table prefix above (λ key inside. rw (nonzero, under_shorter (number32 org) (mark ∷ []) above key e inside) refl)

  -- what is read under the mark is what the tenant has
  pub people_read : KeyLaws → ListedIn → PageLaws f → not (f.table == 0) ≡ true → (m : Tables) {A : Type 0} (r : Result (Vec U A) StoreFail) (limit : ℕ) → most ≤ limit
      → ListsAs f (take limit (rows_to m f.table prefix (raised prefix))) r → ListsIn org (λ q t. rows_in t) m r
  people_read laws listed pages nonzero m r limit within e =
      let e = subst (λ (rows : List KeptRow). ListsAs f (take limit rows) r) (in_part listed m nonzero) e in
      given r (λ q t s.
      subst (λ (rows : List U). GivesRows rows r) (take_all limit (rows_in t) (under_limit q t s))
      (page_gives f pages (part_of org m) (rows_alone org q t) s.rows prefix (raised prefix) (rows_in t) limit (people_listed laws q m t s) r e))
    where
      under_limit : (q : OrgPlan) (t : Option Tenant) → StandsIn org q m t → length (rows_in t) ≤ limit
      under_limit q t s = let few = few_rows q m t s in omega (arith, few, within)

      given : {A : Type 0} (r : Result (Vec U A) StoreFail) → ((q : OrgPlan) (t : Option Tenant) → StandsIn org q m t → GivesRows (rows_in t) r) → ListsIn org (λ q t. rows_in t) m r
      given (Ok rows) h = h
      given (Err Damaged) h = h
      given (Err Keeper) h = tt
      given (Err Memory) h = tt

-- ---- users, roles and groups

-- a key with another mark doesn't begin so
marks_same : KeyLaws → (org o m n : ℕ) (i : List ℕ) → org < 2 ^ 32 → o < 2 ^ 32 → m < 256 → n < 256 → IsTrue (is_id i) → StartsWith (number32 org ++ n ∷ []) (spelled (marked m Identity) (o, (tt, i))) → ◌≡◌ {A = ℕ × ℕ} (o, m) (org, n)
marks_same laws org o m n i lo low small less is starts = (laws.begins 2 (Both Number32 (Both Number8 Identity)) (o, (m, i)) (org, n) (low, (small, is)) (lo, less)).0 starts

module _ (laws : KeyLaws) (org : ℕ) (lo : org < 2 ^ 32) where
  user_under : (k : Key) → FitsKey k → (spell k).0 ≡ 5 → StartsWith (number32 org ++ 0 ∷ []) (spell k).1 → (i : List ℕ) × (k ≡ key.User org i)
  user_under (key.User o i) fits table starts = (i, ap (λ (q : ℕ × ℕ). key.User q.0 i) (marks_same laws org o 0 0 i lo fits.0 (omega arith) (omega arith) fits.1.1 starts))
  user_under (key.Role o i) fits table starts = let same = ap (λ (q : ℕ × ℕ). q.1) (marks_same laws org o 1 0 i lo fits.0 (omega arith) (omega arith) fits.1.1 starts) in absurd (omega (arith, same))
  user_under (key.Group o i) fits table starts = let same = ap (λ (q : ℕ × ℕ). q.1) (marks_same laws org o 2 0 i lo fits.0 (omega arith) (omega arith) fits.1.1 starts) in absurd (omega (arith, same))
  user_under k fits table starts = absurd (omega (arith, table))

  role_under : (k : Key) → FitsKey k → (spell k).0 ≡ 5 → StartsWith (number32 org ++ 1 ∷ []) (spell k).1 → (i : List ℕ) × (k ≡ key.Role org i)
  role_under (key.User o i) fits table starts = let same = ap (λ (q : ℕ × ℕ). q.1) (marks_same laws org o 0 1 i lo fits.0 (omega arith) (omega arith) fits.1.1 starts) in absurd (omega (arith, same))
  role_under (key.Role o i) fits table starts = (i, ap (λ (q : ℕ × ℕ). key.Role q.0 i) (marks_same laws org o 1 1 i lo fits.0 (omega arith) (omega arith) fits.1.1 starts))
  role_under (key.Group o i) fits table starts = let same = ap (λ (q : ℕ × ℕ). q.1) (marks_same laws org o 2 1 i lo fits.0 (omega arith) (omega arith) fits.1.1 starts) in absurd (omega (arith, same))
  role_under k fits table starts = absurd (omega (arith, table))

  group_under : (k : Key) → FitsKey k → (spell k).0 ≡ 5 → StartsWith (number32 org ++ 2 ∷ []) (spell k).1 → (i : List ℕ) × (k ≡ key.Group org i)
  group_under (key.User o i) fits table starts = let same = ap (λ (q : ℕ × ℕ). q.1) (marks_same laws org o 0 2 i lo fits.0 (omega arith) (omega arith) fits.1.1 starts) in absurd (omega (arith, same))
  group_under (key.Role o i) fits table starts = let same = ap (λ (q : ℕ × ℕ). q.1) (marks_same laws org o 1 2 i lo fits.0 (omega arith) (omega arith) fits.1.1 starts) in absurd (omega (arith, same))
  group_under (key.Group o i) fits table starts = (i, ap (λ (q : ℕ × ℕ). key.Group q.0 i) (marks_same laws org o 2 2 i lo fits.0 (omega arith) (omega arith) fits.1.1 starts))
  group_under k fits table starts = absurd (omega (arith, table))

  module _ (makes : MakesIds) (texts : NamesAreTexts) (short : NamesAreShort) where
    users_are : ArePeople user_form org 0 (key.User org) (user_of org) user_id (λ t. t.users) 2000
    unfolding row_in
    users_are = record {
      is_key = refl;
      spelled_so = λ x. refl;
      named_so = λ x. refl;
      spells = λ i. refl;
      owned = λ i. refl;
      there = λ p t i. refl;
      under = user_under;
      fits = λ t s x has. user_fits makes texts short org t lo s x has;
      fits_key = λ x f. f.0;
      is_id = λ x f. f.0.1.1;
      rise = λ t s. s.users.rise;
      few = λ t s. s.users.few;
    }

    roles_are : ArePeople role_form org 1 (key.Role org) (role_of org) role_id (λ t. t.roles) 500
    unfolding row_in
    roles_are = record {
      is_key = refl;
      spelled_so = λ x. refl;
      named_so = λ x. refl;
      spells = λ i. refl;
      owned = λ i. refl;
      there = λ p t i. refl;
      under = role_under;
      fits = λ t s x has. role_fits makes texts short org t lo s x has;
      fits_key = λ x f. f.0;
      is_id = λ x f. f.0.1.1;
      rise = λ t s. s.roles.rise;
      few = λ t s. s.roles.few;
    }

    groups_are : ArePeople group_form org 2 (key.Group org) (group_of org) group_id (λ t. t.groups) 500
    unfolding row_in
    groups_are = record {
      is_key = refl;
      spelled_so = λ x. refl;
      named_so = λ x. refl;
      spells = λ i. refl;
      owned = λ i. refl;
      there = λ p t i. refl;
      under = group_under;
      fits = λ t s x has. group_fits makes texts short org t lo s x has;
      fits_key = λ x f. f.0;
      is_id = λ x f. f.0.1.1;
      rise = λ t s. s.groups.rise;
      few = λ t s. s.groups.few;
    }

    pub users_read : ListedIn → PageLaws user_form → (m : Tables) {A : Type 0} (r : Result (Vec UserRow A) StoreFail)
        → ListsAs user_form (take 2001 (rows_to m 5 (number32 org ++ 0 ∷ []) (raised (number32 org ++ 0 ∷ [])))) r → ListsIn org (λ q t. user_rows org t) m r
    users_read listed pages m r e =
        people_read user_form org 0 (key.User org) (user_of org) user_id (λ t. t.users) 2000 lo users_are laws listed pages refl m r 2001 (omega arith) e

    pub roles_read : ListedIn → PageLaws role_form → (m : Tables) {A : Type 0} (r : Result (Vec RoleRow A) StoreFail)
        → ListsAs role_form (take 501 (rows_to m 5 (number32 org ++ 1 ∷ []) (raised (number32 org ++ 1 ∷ [])))) r → ListsIn org (λ q t. role_rows org t) m r
    roles_read listed pages m r e =
        people_read role_form org 1 (key.Role org) (role_of org) role_id (λ t. t.roles) 500 lo roles_are laws listed pages refl m r 501 (omega arith) e

    pub groups_read : ListedIn → PageLaws group_form → (m : Tables) {A : Type 0} (r : Result (Vec GroupRow A) StoreFail)
        → ListsAs group_form (take 501 (rows_to m 5 (number32 org ++ 2 ∷ []) (raised (number32 org ++ 2 ∷ [])))) r → ListsIn org (λ q t. group_rows org t) m r
    groups_read listed pages m r e =
        people_read group_form org 2 (key.Group org) (group_of org) group_id (λ t. t.groups) 500 lo groups_are laws listed pages refl m r 501 (omega arith) e
