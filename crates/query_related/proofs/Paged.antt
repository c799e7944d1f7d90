-- The page by ids is that of the records that have them.
use Rattle.std.proofs.Common.{◌≡◌, ◌≤◌, ℕ, zero, suc, ◌-◌, ◌*◌, Bool, cond, List, [], ◌∷◌, length, map, take, Option, Some, None, refl, sym, ap, subst, ◌∙◌, inl, inr, arith}
use Rattle.std.specs.Prelude.{slice_get, Result, Ok, Err}
use Rattle.std.specs.List.{cons_option, filter}
use Rattle.std.specs.Option.{option_and_then}
use Rattle.std.proofs.lemmas.List.{take-map, take-take}
use Rattle.base_lemmas.proofs.Bools.{by_answer as pick}
use Rattle.record_read.proofs.Rising.{found_itself, has_filter, has_take}
use Rattle.store_kv.specs.Draft.{DraftReads, DraftTells, Held}
use Rattle.store_kv.specs.State.{KeeperState}
use Rattle.store_kv.specs.Tables.{Tables}
use Rattle.store_rows.specs.declared.fail.StoreFail.{StoreFail}
use Rattle.store_rows.specs.declared.fail.StoreFail.TheVariants.{Damaged, Keeper, Memory}
use Rattle.model.specs.declared.record.Record.{Record}
use Rattle.model.specs.Jobs.{is_past, last_id}
use Rattle.model.specs.Levels.{can_read}
use Rattle.model.specs.Membership.{Has}
use Rattle.model.specs.Objects.{is_of, records_of}
use Rattle.model.specs.Rights.{record_of_object}
use Rattle.model.specs.Sound.{IsSound}
use Rattle.model.specs.Tenant.{Tenant, User}
use Rattle.record_references.specs.Referring.{referring_after, refers_by}
use Rattle.access_traits.specs.Rights.{Whose}
use Rattle.store_abstraction.specs.declared.layout.Layout.{Layout}
use Rattle.store_abstraction.specs.Calls.{Calls, ended}
use Rattle.store_abstraction.specs.Layouts.{FindsOf}
use Rattle.store_abstraction.specs.Local.{StandsIn}
use Rattle.store_abstraction.specs.Plan.{OrgPlan}
use Rattle.query_related.specs.declared.parents.children.ChildPage.{ChildPage}
use Rattle.query_related.specs.parents.Children.{children_after, page_of}
use Rattle.query_related.specs.parents.Parents.{FindsBy, if_readable_by}
use Rattle.query_related.specs.parents.inner.Reading.{last_in, page_with, readable_among}

abbrev ids : List Record → List (List ℕ)
ids rs = map (λ (r : Record). r.id) rs

-- ---- the records that have these ids

module _ (t : Tenant) (u : User) (sound : IsSound t) (n : ℕ) where
  found_by_id : (r : Record) → Has (records_of t n) r → record_of_object t n r.id ≡ Some r
  found_by_id r among =
      let (has, of) = has_filter (is_of n) t.records r among in
      ap (option_and_then (λ (x : Record). cond (is_of n x) (Some x) None)) (found_itself t.records r sound.records.rise has)
      ∙ ap (λ (b : Bool). cond {A = Option Record} b (Some r) None) of

  readable_ones : (rs : List Record) → ((r : Record) → Has rs r → Has (records_of t n) r) → readable_among t u n (ids rs) ≡ filter (can_read t u) rs
  readable_ones [] among = refl
  readable_ones (r ∷ rs) among =
      let rest = readable_ones rs (λ x has. among x (inr has)) in
      ap (λ (o : Option Record). cons_option o (readable_among t u n (ids rs))) (ap (option_and_then (if_readable_by t u)) (found_by_id r (among r (inl refl))))
      ∙ pick (can_read t u r) (λ b. cons_option (cond b (Some r) None) (readable_among t u n (ids rs)) ≡ cond b (r ∷ filter (can_read t u) rs) (filter (can_read t u) rs))
      (λ _. ap (λ (xs : List Record). r ∷ xs) rest)
      (λ _. rest)

last_same : (rs : List Record) → last_in (ids rs) ≡ last_id rs
last_same [] = refl
last_same (r ∷ []) = refl
last_same (r ∷ s ∷ rs) =
    let back : suc (suc (length (ids rs))) - 1 ≡ suc (suc (length (ids rs)) - 1) = omega arith in
    ap (slice_get (r.id ∷ s.id ∷ ids rs)) back ∙ last_same (s ∷ rs)

-- ---- those that refer to a record

module _ (t : Tenant) (n number : ℕ) (target : List ℕ) (after : Option (List ℕ)) (limit : ℕ) where
  abbrev children : List Record
  children = children_after n number target after limit t

  child_among : (r : Record) → Has children r → Has (records_of t n) r
  unfolding children_after
  child_among r has =
      let past = has_take limit (filter (λ r. is_past after r.id) (filter (refers_by number target) (records_of t n))) r has in
      let (refers, _) = has_filter (λ r. is_past after r.id) (filter (refers_by number target) (records_of t n)) r past in
      (has_filter (refers_by number target) (records_of t n) r refers).0

  -- their ids, of which there are no more
  ids_are : take limit (referring_after n number target after limit t) ≡ ids children
  unfolding children_after referring_after
  ids_are =
      let those = filter (λ r. is_past after r.id) (filter (refers_by number target) (records_of t n)) in
      take-map (λ (r : Record). r.id) limit (take limit those) ∙ ap ids (take-take limit limit those (omega arith))

module _ (l : Layout) (whose : Whose) (m n : Tables) (same : n ≡ m) (number : ℕ) (target : List ℕ) (after : Option (List ℕ)) (limit : ℕ)
    (named : List (List ℕ)) (found : FindsOf l (referring_after l.object number target after limit) m (Ok named)) where
  abbrev Page : Result ChildPage StoreFail → Type 0
  Page = FindsBy l whose (λ t u. page_of t u (children_after l.object number target after limit t)) m

  over : (q : OrgPlan) (t : Tenant) → StandsIn l.org q m (Some t) → StandsIn l.org q n (Some t)
  over q t s = subst (λ (x : Tables). StandsIn l.org q x (Some t)) (sym same) s

  paged : (x : Result (List Record) StoreFail) → FindsBy l whose (λ t u. readable_among t u l.object (take limit named)) n x → Page (page_with (take limit named) x)
  paged (Ok rs) h = λ q t u s its who.
      let cs = children t l.object number target after limit in
      let are : take limit named ≡ ids cs = ap (take limit) (found q t s its) ∙ ids_are t l.object number target after limit in
      let records : rs ≡ filter (can_read t u) cs =
      h q t u (over q t s) its who ∙ ap (readable_among t u l.object) are ∙ readable_ones t u s.sound l.object cs (child_among t l.object number target after limit) in
      let last : last_in (take limit named) ≡ last_id cs = ap last_in are ∙ last_same cs in
      λ i. record { records = records i; last = last i }
  paged (Err Damaged) h = λ q t u s its who. h q t u (over q t s) its who
  paged (Err Keeper) h = tt
  paged (Err Memory) h = tt

  pub page_found : (x : Result (List Record) StoreFail) → FindsBy l whose (λ t u. readable_among t u l.object (take limit named)) n x
      → (result : Result ChildPage StoreFail) → result ≡ page_with (take limit named) x → Page result
  page_found x h result is = subst Page (sym is) (paged x h)

-- ---- how it ended

few_taken : (limit : ℕ) (named : List (List ℕ)) → length (take limit named) ≤ limit
few_taken zero named = omega arith
few_taken (suc limit) [] = omega arith
few_taken (suc limit) (i ∷ named) = omega (arith, few_taken limit named)

module _ {K : Type 0} (state : K → KeeperState) (a b : Held K) (most_of : (shown most : ℕ) (a b : Held K) → (DraftTells state a b → shown ≤ most) → DraftReads state shown a b → DraftReads state most a b) where
  by_records : (most : ℕ) (named : List (List ℕ)) (x : Result (List Record) StoreFail) → Calls state most (ended x) a b → Calls state most (ended (page_with named x)) a b
  by_records most named (Ok rs) h = h
  by_records most named (Err e) h = h

  -- as the records were read, for each of which at most five rows are shown
  pub page_called : (limit : ℕ) (ids named : List (List ℕ)) → named ≡ take limit ids → (x : Result (List Record) StoreFail) (result : Result ChildPage StoreFail) → result ≡ page_with named x
      → (shown : ℕ) → shown ≤ 5 * length named → Calls state shown (ended x) a b → Calls state (5 * limit) (ended result) a b
  page_called limit ids named are x result is shown at_most h =
      let few : length named ≤ limit = subst (λ (xs : List (List ℕ)). length xs ≤ limit) (sym are) (few_taken limit ids) in
      let within : shown ≤ 5 * limit = omega (arith, few, at_most) in
      subst (λ (r : Result ChildPage StoreFail). Calls state (5 * limit) (ended r) a b) (sym is)
      (by_records (5 * limit) named x (record { reads = most_of shown (5 * limit) a b (λ told. within) h.reads; stays = h.stays; cause = h.cause; quiet = h.quiet }))
