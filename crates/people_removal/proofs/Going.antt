-- An organisation without a role or a group: its rows are those that it had, but for its own row and that of what went.
use Rattle.std.proofs.Common.{◌≡◌, ◌∙◌, ◌<◌, ◌^◌, ℕ, suc, ◌+◌, ◌-◌, ◌==◌, eqb, Bool, true, false, not, cond, is_lt, T, IsTrue, List, [], ◌∷◌, length, map, filter, Some, None, is_none, refl, sym, ap, subst, arith, bytes_eq}
use Rattle.std.specs.Prelude.{Ok, Result}
use Rattle.std.specs.List.{AllByRecursion}
use Rattle.std.specs.FinMap.{is_sorted}
use Rattle.std.specs.FinMap.Entries.{below_all}
use Rattle.std.specs.Cmp.Lexicographic.{nat_list_cmp_total}
use Rattle.std.specs.Option.{option_map}
use Rattle.std.proofs.lemmas.Bool.{eqb-true}
use Rattle.std.proofs.lemmas.Cmp.{tied_itself}
use Rattle.std.proofs.lemmas.Slice.Eq.{bytes_eq-Decides}
use Rattle.std.proofs.lemmas.Option.{same_Some as some_is}
use Rattle.base_lemmas.proofs.Bools.{T-and_first as t_first, T-and_second as t_second, and_second_false as both_false, by_answer as pick}
use Rattle.base_lemmas.proofs.Options.{eqb-same_Some as own_number}
use Rattle.base_lemmas.proofs.Texts.{bytes_eq_false_sym as turned}
use Rattle.base_value.specs.Id.{is_id}
use Rattle.store_edit.specs.Edits.{Planned, Takes}
use Rattle.store_edit.specs.Rows.{change_to}
use Rattle.store_edit.proofs.Putting.{beside, other_org, put_is_in, put_is_of}
use Rattle.store_kv.specs.Tables.{Tables, bytes_cmp}
use Rattle.store_rows.specs.declared.fail.StoreFail.{StoreFail}
use Rattle.store_rows.specs.declared.org.OrgRow.{OrgRow}
use Rattle.store_rows.specs.Forms.{FitsForm, row_bytes}
use Rattle.store_rows.specs.Keys as key
use Rattle.store_rows.specs.Keys.{FitsKey, Key, key_eq}
use Rattle.store_rows.specs.Rows.{group_form, org_form, role_form}
use Rattle.model.specs.Known.{group_id, role_id}
use Rattle.model.specs.Sound.{IsSound}
use Rattle.model.specs.SoundPeople.{ids_rise}
use Rattle.model.specs.Tenant.{Tenant}
use Rattle.model.specs.Verdict.{Verdict, accept, done}
use Rattle.model.specs.World.{having_id}
use Rattle.store_abstraction.specs.Local.{FindsIn, FindsThere, IsIn, StandsIn}
use Rattle.store_abstraction.specs.Metadata.{group_of, org_of, role_of}
use Rattle.store_abstraction.specs.Plan.{FitsPlan, OrgPlan}
use Rattle.store_abstraction.specs.Records.{is_org_key}
use Rattle.store_abstraction.specs.Stands.{kept_at, org_of_key, row_in}
use Rattle.model_requests.specs.Removals.{without_group, without_role}
use Rattle.people_removal.specs.declared.named.Named.{Named}
use Rattle.people_removal.specs.declared.named.Named.TheVariants as named
use Rattle.people_removal.specs.inner.Removing.{changes_of, has_it, id_of, key_of, lacks, one_less, own_less, without}

-- ---- lists of things with ids, without the one with an id

differs : (a b : List ℕ) → T (is_lt (bytes_cmp a b)) → bytes_eq b a ≡ false
differs a b l = by (bytes_eq b a) refl
  where
    by : (c : Bool) → bytes_eq b a ≡ c → bytes_eq b a ≡ false
    by false e = e
    by true e =
        let same : b ≡ a = (bytes_eq-Decides b a).0 e in
        let tie = tied_itself nat_list_cmp_total a in
        absurd (subst (λ o. T (is_lt o)) tie (subst (λ (z : List ℕ). T (is_lt (bytes_cmp a z))) same l))

module _ {X : Type 0} (id : X → List ℕ) where
  abbrev others : List ℕ → List X → List X
  others i xs = filter (λ x. not (bytes_eq (id x) i)) xs

  abbrev keyed : List X → List (List ℕ × X)
  keyed xs = map (λ x. (id x, x)) xs

  -- those behind an id stay
  all_stay : (i : List ℕ) (xs : List X) → T (below_all bytes_cmp i (keyed xs)) → length (others i xs) ≡ length xs
  all_stay i [] h = refl
  all_stay i (x ∷ xs) h =
      let apart = differs i (id x) (t_first (is_lt (bytes_cmp i (id x))) (below_all bytes_cmp i (keyed xs)) h) in
      let rest = all_stay i xs (t_second (is_lt (bytes_cmp i (id x))) (below_all bytes_cmp i (keyed xs)) h) in
      ap (λ (b : Bool). length (cond (not b) (x ∷ others i xs) (others i xs))) apart ∙ ap (λ (n : ℕ). suc n) rest

  -- one less
  fewer : (xs : List X) (i : List ℕ) → T (ids_rise id xs) → is_none (having_id id xs i) ≡ false → length (others i xs) + 1 ≡ length xs
  fewer [] i r e = absurd cc
  fewer (x ∷ xs) i r e =
      pick (bytes_eq i (id x)) (λ b. bytes_eq i (id x) ≡ b → is_none (cond b (Some x) (having_id id xs i)) ≡ false → length (cond (not (bytes_eq (id x) i)) (x ∷ others i xs) (others i xs)) + 1 ≡ length (x ∷ xs))
      (λ _ same _.
      let is : i ≡ id x = (bytes_eq-Decides i (id x)).0 same in
      let low = subst (λ (j : List ℕ). T (below_all bytes_cmp j (keyed xs))) (sym is) (t_first (below_all bytes_cmp (id x) (keyed xs)) (is_sorted bytes_cmp (keyed xs)) r) in
      let all = all_stay i xs low in
      let gone = ap (λ (b : Bool). length (cond (not b) (x ∷ others i xs) (others i xs))) ((bytes_eq-Decides (id x) i).1 (sym is)) in
      omega (arith, all, gone))
      (λ _ apart there.
      let less = fewer xs i (t_second (below_all bytes_cmp (id x) (keyed xs)) (is_sorted bytes_cmp (keyed xs)) r) there in
      let stays = ap (λ (b : Bool). length (cond (not b) (x ∷ others i xs) (others i xs))) (turned i (id x) apart) in
      omega (arith, less, stays))
      refl e

  -- it isn't found
  gone : (i : List ℕ) (xs : List X) → having_id id (others i xs) i ≡ None
  gone i [] = refl
  gone i (x ∷ xs) =
      pick (bytes_eq (id x) i) (λ b. bytes_eq (id x) i ≡ b → having_id id (cond (not b) (x ∷ others i xs) (others i xs)) i ≡ None)
      (λ _ _. gone i xs)
      (λ _ apart. ap (λ (b : Bool). cond b (Some x) (having_id id (others i xs) i)) (turned (id x) i apart) ∙ gone i xs)
      refl

  -- and the others are
  stay : (i j : List ℕ) (xs : List X) → bytes_eq j i ≡ false → having_id id (others i xs) j ≡ having_id id xs j
  stay i j [] e = refl
  stay i j (x ∷ xs) e =
      pick (bytes_eq (id x) i) (λ b. bytes_eq (id x) i ≡ b → having_id id (cond (not b) (x ∷ others i xs) (others i xs)) j ≡ having_id id (x ∷ xs) j)
      (λ _ same.
      let is : id x ≡ i = (bytes_eq-Decides (id x) i).0 same in
      stay i j xs e ∙ sym (ap (λ (b : Bool). cond b (Some x) (having_id id xs j)) (ap (bytes_eq j) is ∙ e)))
      (λ _ _. ap (cond (bytes_eq j (id x)) (Some x)) (stay i j xs e))
      refl

-- ---- rows

abbrev is_its_key : Named → Key → Bool
is_its_key (named.Role i) (key.Role org j) = bytes_eq j i
is_its_key (named.Group i) (key.Group org j) = bytes_eq j i
is_its_key n k = false

module _ (p : OrgPlan) (t : Tenant) where
  role_rest : (i : List ℕ) (k : Key) → is_org_key k ≡ false → is_its_key (named.Role i) k ≡ false → row_in p (without_role i t) k ≡ row_in p t k
  unfolding row_in kept_at
  role_rest i (key.Org org) o e = absurd cc
  role_rest i (key.Role org j) o e = ap (option_map (λ r. row_bytes role_form (role_of org r))) (stay role_id i j t.roles e)
  role_rest i k o e = refl

  group_rest : (i : List ℕ) (k : Key) → is_org_key k ≡ false → is_its_key (named.Group i) k ≡ false → row_in p (without_group i t) k ≡ row_in p t k
  unfolding row_in kept_at
  group_rest i (key.Org org) o e = absurd cc
  group_rest i (key.Group org j) o e = ap (option_map (λ g. row_bytes group_form (group_of org g))) (stay group_id i j t.groups e)
  group_rest i k o e = refl

  rest : (n : Named) (k : Key) → is_org_key k ≡ false → is_its_key n k ≡ false → row_in p (without n t) k ≡ row_in p t k
  rest (named.Role i) = role_rest i
  rest (named.Group i) = group_rest i

  row_gone : (org : ℕ) (n : Named) → row_in p (without n t) (key_of org n) ≡ None
  unfolding row_in
  row_gone org (named.Role i) = ap (option_map (λ r. row_bytes role_form (role_of org r))) (gone role_id i t.roles)
  row_gone org (named.Group i) = ap (option_map (λ g. row_bytes group_form (group_of org g))) (gone group_id i t.groups)

key_fits : (org : ℕ) (n : Named) → org < 2 ^ 32 → IsTrue (is_id (id_of n)) → FitsKey (key_of org n)
key_fits org (named.Role i) lo id = (lo, (tt, id))
key_fits org (named.Group i) lo id = (lo, (tt, id))

key_own : (org : ℕ) (n : Named) → org_of_key (key_of org n) ≡ Some org
key_own org (named.Role i) = refl
key_own org (named.Group i) = refl

other_key : (org : ℕ) (n : Named) (k : Key) → org_of_key k ≡ Some org → key_eq k (key_of org n) ≡ false → is_its_key n k ≡ false
other_key org (named.Role i) (key.Role m j) of e = both_false (eqb m org) (bytes_eq j i) (own_number m org of) e
other_key org (named.Group i) (key.Group m j) of e = both_false (eqb m org) (bytes_eq j i) (own_number m org of) e
other_key org (named.Role i) k of e = refl
other_key org (named.Group i) k of e = refl

-- ---- the organisation's row

not_none : (n : ℕ) → 0 < n → (n == 0) ≡ false
not_none n some =
    pick (eqb n 0) (λ b. eqb n 0 ≡ b → b ≡ false)
    (λ _ e. let wrong : n ≡ 0 = eqb-true n 0 e in absurd (omega (arith, wrong, some)))
    (λ _ _. refl)
    refl

-- one that has it counts it
pub less_is : (org : ℕ) (n : Named) (t : Tenant) → IsSound t → lacks n t ≡ false → one_less n (org_of org t) ≡ Some (org_of org (without n t))
less_is org (named.Role i) t s there =
    let less = fewer role_id t.roles i s.roles.rise there in
    let some : (length t.roles == 0) ≡ false = not_none (length t.roles) (omega (arith, less)) in
    let same : length t.roles - 1 ≡ length (without_role i t).roles = omega (arith, less) in
    ap (λ (b : Bool). cond b None (Some (record (org_of org t) { roles = length t.roles - 1 }))) some ∙ ap (λ (n : ℕ). Some (record (org_of org t) { roles = n })) same
less_is org (named.Group i) t s there =
    let less = fewer group_id t.groups i s.groups.rise there in
    let some : (length t.groups == 0) ≡ false = not_none (length t.groups) (omega (arith, less)) in
    let same : length t.groups - 1 ≡ length (without_group i t).groups = omega (arith, less) in
    ap (λ (b : Bool). cond b None (Some (record (org_of org t) { groups = length t.groups - 1 }))) some ∙ ap (λ (n : ℕ). Some (record (org_of org t) { groups = n })) same

-- what was read of it, and whether it is there
pub row_is : (org : ℕ) (q : OrgPlan) (t : Tenant) (m : Tables) (n : Named) (r : Result OrgRow StoreFail) (row : OrgRow) → FindsThere org (λ q t. own_less org n t) m r → r ≡ Ok row → StandsIn org q m (Some t) → lacks n t ≡ false
    → row ≡ org_of org (without n t)
row_is org q t m n r row finds was s there =
    some_is row (org_of org (without n t)) (subst (FindsThere org (λ q t. own_less org n t) m) was finds q (Some t) s ∙ less_is org n t s.sound there)

pub is_here : (org : ℕ) (q : OrgPlan) (t : Tenant) (m : Tables) (n : Named) (r : Result Bool StoreFail) (b : Bool) → FindsIn org (λ q t. has_it n t) m r → r ≡ Ok b → StandsIn org q m (Some t) → lacks n t ≡ not b
is_here org q t m n r b finds was s = by (lacks n t) b (subst (FindsIn org (λ q t. has_it n t) m) was finds q (Some t) s)
  where
    by : (a b : Bool) → b ≡ not a → a ≡ not b
    by true b e = sym (ap not e)
    by false b e = sym (ap not e)

-- ---- what is changed

-- the rows are kept as they were
abbrev pub SamePlan : Planned
SamePlan q t next = next ≡ q

pub record OrgLaws : Type 0 where
  pub fits : (org : ℕ) (t : Tenant) → org < 2 ^ 32 → IsSound t → FitsForm org_form (org_of org t)
  pub counted : (p : OrgPlan) (t : Tenant) (org : ℕ) → row_in p t (key.Org org) ≡ Some (row_bytes org_form (org_of org t))
  pub plan : (p : OrgPlan) (t u : Tenant) → u.objects ≡ t.objects → u.job ≡ t.job → FitsPlan p t → FitsPlan p u

same_objects : (n : Named) (t : Tenant) → (without n t).objects ≡ t.objects
same_objects (named.Role i) t = refl
same_objects (named.Group i) t = refl

same_job : (n : Named) (t : Tenant) → (without n t).job ≡ t.job
same_job (named.Role i) t = refl
same_job (named.Group i) t = refl

pub gone_takes : OrgLaws → (org : ℕ) (q : OrgPlan) (t : Tenant) (n : Named) (v : Verdict) (row : OrgRow) → org < 2 ^ 32 → IsTrue (is_id (id_of n)) → FitsPlan q t
    → v ≡ accept done (without n t) → IsSound v.tenant → row ≡ org_of org (without n t) → Takes org q t v done SamePlan (changes_of org n row)
gone_takes laws org q t n v row lo id plan is sound same =
    let u = without n t in
    let sound_u : IsSound u = subst IsSound (ap (λ (v : Verdict). v.tenant) is) sound in
    let takes : Takes org q t (accept done u) done SamePlan (changes_of org n (org_of org u)) = record {
      answer = refl;
      sound = sound_u;
      plan = q;
      kept = refl;
      fits = laws.plan q t u (same_objects n t) (same_job n t) plan;
      are = (put_is_of org_form org q u (org_of org u) (laws.fits org u lo sound_u) refl (laws.counted q u org), ((key_fits org n lo id, key_own org n, row_gone q t org n), tt));
      rest = λ k of apart.
          let one = beside (change_to org_form (org_of org u)) ((key_of org n, None) ∷ []) k apart in
          let two = beside (key_of org n, None) [] k one.1 in
          rest q t n k (other_org org k of one.0) (other_key org n k of two.0);
    } in
    subst (λ (y : Verdict). Takes org q t y done SamePlan (changes_of org n row)) (sym is)
    (subst (λ (r : OrgRow). Takes org q t (accept done u) done SamePlan (changes_of org n r)) (sym same) takes)

-- whatever the organisation has, both rows are at its keys
pub gone_own : (org : ℕ) (n : Named) (row : OrgRow) → org < 2 ^ 32 → IsTrue (is_id (id_of n)) → FitsForm org_form row → row.org ≡ org → AllByRecursion (IsIn org) (changes_of org n row)
gone_own org n row lo id fits own = (put_is_in org_form org row fits (ap (λ (m : ℕ). Some m) own), ((key_fits org n lo id, key_own org n), tt))
