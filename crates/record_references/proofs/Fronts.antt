-- Page after page: the ids after the last of a front of ids in their order are those that follow the front.
use Rattle.std.proofs.Common.{◌≡◌, ℕ, suc, ◌-◌, Bool, true, false, T, List, [], ◌∷◌, ◌++◌, length, map, take, drop, Option, Some, None, refl, sym, ap, subst, ◌∙◌, inl, inr, append_assoc, arith, Bor, take-append-drop as take_drop}
use Rattle.std.specs.Prelude.{◌==◌, option_copied, slice_get}
use Rattle.std.specs.FinMap.{is_sorted}
use Rattle.std.specs.FinMap.Entries.{below_all}
use Rattle.std.specs.List.{filter}
use Rattle.std.specs.Option.{option_map}
use Rattle.std.specs.Ordering.{is_lt}
use Rattle.std.proofs.lemmas.Bool.{eqb-true}
use Rattle.std.proofs.lemmas.Cmp.{nat_list_cmp_total}
use Rattle.std.proofs.lemmas.List.{take-map}
use Rattle.base_lemmas.proofs.Orders.{less_from_is_lt as is_less}
use Rattle.base_lemmas.proofs.Bools.{by_answer as pick, T-and_first as t_first, T-and_second as t_second}
use Rattle.base_value.specs.declared.id.Id.{Id}
use Rattle.store_kv.specs.Tables.{bytes_cmp}
use Rattle.model.specs.declared.record.Record.{Record}
use Rattle.model.specs.Jobs.{is_past}
use Rattle.model.specs.Membership.{Has}
use Rattle.model.specs.Objects.{is_of, records_of}
use Rattle.model.specs.Sound.{IsSound}
use Rattle.model.specs.SoundPeople.{ids_rise}
use Rattle.model.specs.SoundRecords.{record_id}
use Rattle.model.specs.Tenant.{Tenant}
use Rattle.record_read.proofs.Rising.{below_has, not_less, rise_filter}
use Rattle.record_references.specs.Referring.{all_referring, referring_after, refers_by}
use Rattle.record_references.proofs.Listed.{those}

abbrev ids : List Record → List (List ℕ)
ids rs = map (λ (r : Record). r.id) rs

-- a list that begins with these
abbrev pub Follows : List (List ℕ) → List (List ℕ) → Type 0
Follows front all = (rest : List (List ℕ)) × (all ≡ front ++ rest)

-- the last of them
abbrev pub last_of : List (List ℕ) → Option (List ℕ)
last_of is = slice_get is (length is - 1)

filter_all : (p : Record → Bool) (rs : List Record) → ((r : Record) → Has rs r → p r ≡ true) → filter p rs ≡ rs
filter_all p [] h = refl
filter_all p (r ∷ rs) h = rw (h r (inl refl)) (ap (λ (xs : List Record). r ∷ xs) (filter_all p rs (λ x has. h x (inr has))))

has_id : (us : List (List ℕ)) (z : List ℕ) (zs : List (List ℕ)) (rs : List Record) → ids rs ≡ us ++ z ∷ zs → (r : Record) × Has rs r × (r.id ≡ z)
has_id us z zs [] e = absurd (by us e)
  where
    by : (us : List (List ℕ)) → ◌≡◌ {A = List (List ℕ)} [] (us ++ z ∷ zs) → ⊥
    by [] e = cc
    by (u ∷ us) e = cc
has_id [] z zs (r ∷ rs) e = (r, inl refl, cc)
has_id (u ∷ us) z zs (r ∷ rs) e = let (x, has, is) = has_id us z zs rs cc in (x, inr has, is)

not_back : (a b : List ℕ) → is_lt (bytes_cmp a b) ≡ true → is_lt (bytes_cmp b a) ≡ false
not_back a b less =
    pick (is_lt (bytes_cmp b a)) (λ v. is_lt (bytes_cmp b a) ≡ v → is_lt (bytes_cmp b a) ≡ false)
    (λ _ back. absurd (not_less a (ap is_lt (nat_list_cmp_total.trans a b a (is_less (bytes_cmp a b) less) (is_less (bytes_cmp b a) back)))))
    (λ _ no. no)
    refl

not_itself : (a : List ℕ) → is_lt (bytes_cmp a a) ≡ false
not_itself a = pick (is_lt (bytes_cmp a a)) (λ v. is_lt (bytes_cmp a a) ≡ v → is_lt (bytes_cmp a a) ≡ false) (λ _ h. absurd (not_less a h)) (λ _ no. no) refl

-- those past one of them are those that follow it
after_one : (us : List (List ℕ)) (z : List ℕ) (zs : List (List ℕ)) (rs : List Record) → T (ids_rise record_id rs) → ids rs ≡ us ++ z ∷ zs → ids (filter (λ r. is_past (Some z) r.id) rs) ≡ zs
after_one us z zs [] h e = let (x, has, is) = has_id us z zs [] e in absurd has
after_one [] z zs (r ∷ rs) h e =
    let same : r.id ≡ z = cc in
    let rest : ids rs ≡ zs = cc in
    let above = t_first (below_all bytes_cmp r.id (map (λ (x : Record). (record_id x, x)) rs)) (is_sorted bytes_cmp (map (λ (x : Record). (record_id x, x)) rs)) h in
    subst (λ (i : List ℕ). ids (filter (λ r. is_past (Some i) r.id) (r ∷ rs)) ≡ zs) same
    (rw (not_itself r.id, filter_all (λ x. is_past (Some r.id) x.id) rs (λ x has. below_has r.id rs x above has)) rest)
after_one (u ∷ us) z zs (r ∷ rs) h e =
    let same : r.id ≡ u = cc in
    let rest : ids rs ≡ us ++ z ∷ zs = cc in
    let above = t_first (below_all bytes_cmp r.id (map (λ (x : Record). (record_id x, x)) rs)) (is_sorted bytes_cmp (map (λ (x : Record). (record_id x, x)) rs)) h in
    let rise = t_second (below_all bytes_cmp r.id (map (λ (x : Record). (record_id x, x)) rs)) (is_sorted bytes_cmp (map (λ (x : Record). (record_id x, x)) rs)) h in
    let (x, has, is) = has_id us z zs rs rest in
    let less = subst (λ (i : List ℕ). is_lt (bytes_cmp r.id i) ≡ true) is (below_has r.id rs x above has) in
    rw (not_back r.id z less) (after_one us z zs rs rise rest)

last_later : (i j : List ℕ) (is : List (List ℕ)) → last_of (i ∷ j ∷ is) ≡ last_of (j ∷ is)
last_later i j is =
    let back : suc (suc (length is)) - 1 ≡ suc (suc (length is) - 1) = omega arith in
    ap (slice_get (i ∷ j ∷ is)) back

last_split : (is : List (List ℕ)) (z : List ℕ) → last_of is ≡ Some z → (us : List (List ℕ)) × (is ≡ us ++ z ∷ [])
last_split [] z h = absurd cc
last_split (i ∷ []) z h = ([], cc)
last_split (i ∷ j ∷ is) z h = let (us, e) = last_split (j ∷ is) z (sym (last_later i j is) ∙ h) in (i ∷ us, ap (λ (xs : List (List ℕ)). i ∷ xs) e)

after_front : (front rest : List (List ℕ)) (rs : List Record) → T (ids_rise record_id rs) → ids rs ≡ front ++ rest → ids (filter (λ r. is_past (last_of front) r.id) rs) ≡ rest
after_front front rest rs h e = by (last_of front) refl
  where
    none : (is : List (List ℕ)) → last_of is ≡ None → is ≡ []
    none [] e = refl
    none (i ∷ []) e = absurd cc
    none (i ∷ j ∷ is) e = absurd (cc (none (j ∷ is) (sym (last_later i j is) ∙ e)))

    by : (last : Option (List ℕ)) → last_of front ≡ last → ids (filter (λ r. is_past last r.id) rs) ≡ rest
    by None is = ap ids (filter_all (λ r. true) rs (λ r has. refl)) ∙ e ∙ ap (λ (xs : List (List ℕ)). xs ++ rest) (none front is)
    by (Some z) is =
        let (us, same) = last_split front z is in
        after_one us z rest rs h (e ∙ ap (λ (xs : List (List ℕ)). xs ++ rest) same ∙ append_assoc us (z ∷ []) rest)

-- the last of these, as it is read
pub last_read : (is : List (List ℕ)) (o : Option (Bor Id)) → option_copied o ≡ last_of is → option_map {T = Bor Id} {U = List ℕ} (λ id. id.now) o ≡ last_of is
last_read is None e = e
last_read is (Some id) e = e

-- none of them
pub no_item : (is : List (List ℕ)) → (length is == 0) ≡ true → is ≡ []
no_item [] e = refl
no_item (i ∷ is) e = let none : suc (length is) ≡ 0 = eqb-true (suc (length is)) 0 e in absurd (omega (arith, none))

-- ---- pages

abbrev found : Tenant → (n number : ℕ) → (target : List ℕ) → List Record
found t n number target = filter (refers_by number target) (records_of t n)

all_is : (n number : ℕ) (target : List ℕ) (t : Tenant) → all_referring n number target t ≡ ids (found t n number target)
unfolding all_referring
all_is n number target t = refl

after_is : (n number : ℕ) (target : List ℕ) (after : Option (List ℕ)) (limit : ℕ) (t : Tenant) → referring_after n number target after limit t ≡ ids (take limit (those t n number target after))
unfolding referring_after
after_is n number target after limit t = refl

none_taken : (k : ℕ) (xs : List (List ℕ)) → take (suc k) xs ≡ [] → xs ≡ []
none_taken k [] e = refl
none_taken k (x ∷ xs) e = absurd cc

module _ (t : Tenant) (sound : IsSound t) (n number : ℕ) (target : List ℕ) where
  page_is : (limit : ℕ) (front rest : List (List ℕ)) → all_referring n number target t ≡ front ++ rest → referring_after n number target (last_of front) limit t ≡ take limit rest
  page_is limit front rest e =
      let rise = rise_filter (refers_by number target) (records_of t n) (rise_filter (is_of n) t.records sound.records.rise) in
      after_is n number target (last_of front) limit t
      ∙ sym (take-map (λ (r : Record). r.id) limit (those t n number target (last_of front)))
      ∙ ap (take limit) (after_front front rest (found t n number target) rise (sym (all_is n number target t) ∙ e))

  -- with a page more
  pub page_more : (limit : ℕ) (front page : List (List ℕ)) → Follows front (all_referring n number target t) → page ≡ referring_after n number target (last_of front) limit t → Follows (front ++ page) (all_referring n number target t)
  page_more limit front page (rest, e) is = (
    drop limit rest,
    e ∙ ap (λ (xs : List (List ℕ)). front ++ xs) (sym (take_drop limit rest)) ∙ sym (append_assoc front (take limit rest) (drop limit rest))
        ∙ ap (λ (xs : List (List ℕ)). (front ++ xs) ++ drop limit rest) (sym (is ∙ page_is limit front rest e)),
  )

  -- there is no page more
  pub page_none : (limit : ℕ) (front : List (List ℕ)) → Follows front (all_referring n number target t) → [] ≡ referring_after n number target (last_of front) (suc limit) t → front ≡ all_referring n number target t
  page_none limit front (rest, e) is =
      let none : rest ≡ [] = none_taken limit rest (sym (page_is (suc limit) front rest e) ∙ sym is) in
      sym (e ∙ ap (λ (xs : List (List ℕ)). front ++ xs) none ∙ append_nil front)
    where
      append_nil : (xs : List (List ℕ)) → xs ++ [] ≡ xs
      append_nil [] = refl
      append_nil (x ∷ xs) = ap (λ (ys : List (List ℕ)). x ∷ ys) (append_nil xs)
