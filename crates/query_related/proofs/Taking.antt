-- Records that are taken as children, one after another.
use Rattle.std.proofs.Common.{◌≡◌, ℕ, suc, ◌+◌, ◌*◌, ◌≤◌, Bool, true, false, cond, List, [], ◌∷◌, ◌++◌, length, map, reverse, Option, Some, None, refl, sym, ap, subst, ◌∙◌, inl, inr, arith, append_assoc, append-nil}
use Rattle.std.specs.Prelude.{Result, Ok, Err, Vec}
use Rattle.std.specs.List.{filter}
use Rattle.std.proofs.lemmas.List.{reverse-append}
use Rattle.std.proofs.Math.Nat.{mul-le-mul_right, suc-mul, zero-mul}
use Rattle.query_plan.specs.declared.plan.Choice.{Choice}
use Rattle.query_plan.specs.Given.{GivesJust}
use Rattle.query_plan.specs.Plans.{is_taken, parents_by}
use Rattle.store_kv.specs.Draft.{DraftReads, DraftTells, Held, tables_of}
use Rattle.store_kv.specs.State.{KeeperState}
use Rattle.store_kv.specs.Tables.{Tables}
use Rattle.store_rows.specs.declared.fail.StoreFail.{StoreFail}
use Rattle.store_rows.specs.declared.fail.StoreFail.TheVariants.{Damaged, Keeper, Memory}
use Rattle.model.specs.declared.record.Record.{Record}
use Rattle.model.specs.Membership.{Has}
use Rattle.model.specs.Paths.{Asked}
use Rattle.query_related.specs.parents.Branches.{FindsOfRow}
use Rattle.store_codec.specs.declared.fail.CodecFail.{CodecFail}
use Rattle.store_codec.specs.declared.fail.CodecFail.TheVariants as codec
use Rattle.access_traits.specs.Rights.{Whose}
use Rattle.store_abstraction.specs.Calls.{Calls, Ending, done, ended_by, fell, stopped}
use Rattle.store_abstraction.specs.Local.{StandsIn}
use Rattle.store_abstraction.specs.declared.layout.Layout.{Layout}
use Rattle.query_related.specs.inner.Taken.{FindsTaken, OfRecords, RankedChild, all_taken, children_in, ranked_if, ranked_with}

pub not_fallen : stopped ≡ fell → ⊥
not_fallen e = cc

-- a bound may be wider
module _ {K : Type 0} (state : K → KeeperState) (most_of : (shown most : ℕ) (a b : Held K) → (DraftTells state a b → shown ≤ most) → DraftReads state shown a b → DraftReads state most a b) where
  pub wider : (shown most : ℕ) (e : Ending) (a b : Held K) → shown ≤ most → Calls state shown e a b → Calls state most e a b
  wider shown most e a b within h = record { reads = most_of shown most a b (λ told. within) h.reads; stays = h.stays; cause = h.cause; quiet = h.quiet }

-- ---- one record

pub given_err : {X Y : Type 0} (x : X) (y : Y) (fail : CodecFail) → GivesJust x (Err fail) → GivesJust y (Err fail)
given_err x y codec.Damaged h = h
given_err x y codec.Memory h = tt

-- what is found of a record
abbrev pub Child : List Layout → Whose → Tables → Choice → Record → Result (Option RankedChild) StoreFail → Type 0
Child layouts whose m c item result = FindsOfRow layouts whose (Some item) (λ a s. ranked_if c (parents_by a c s) s) m result

-- ---- one after another

has_behind : {X : Type 0} (xs ys : List X) (x : X) → Has (xs ++ x ∷ ys) x
has_behind [] ys x = inl refl
has_behind (z ∷ xs) ys x = inr (has_behind xs ys x)

as_many : {X : Type 0} (xs ys : List X) (x : X) → suc (length ys) ≤ length (xs ++ x ∷ ys)
as_many [] ys x = omega arith
as_many (z ∷ xs) ys x = omega (arith, as_many xs ys x)

one_taken : (a : Asked) (c : Choice) (x : Record) (xs : List Record) → children_in (ranked_if c (parents_by a c x) x) ++ all_taken a c xs ≡ all_taken a c (x ∷ xs)
one_taken a c x xs = by (is_taken a c x)
  where
    one : RankedChild
    one = ranked_with c (parents_by a c x) x

    by : (b : Bool) → children_in (cond b (Some one) None) ++ all_taken a c xs ≡ map (λ s. ranked_with c (parents_by a c s) s) (cond b (x ∷ filter (is_taken a c) xs) (filter (is_taken a c) xs))
    by true = refl
    by false = refl

turned_in : (found : Option RankedChild) → reverse (children_in found) ≡ children_in found
turned_in None = refl
turned_in (Some x) = refl

module _ {K : Type 0} (state : K → KeeperState) (layouts : List Layout) (whose : Whose) (c : Choice) (records : List Record) (each : ℕ) (a : Held K) where
  -- the records behind the rest were looked at, from the last one on
  pub record UnderWay (rest : List Record) (gathered : List RankedChild) (b : Held K) : Type 0 where
    pub seen : List Record
    pub split : records ≡ rest ++ seen
    pub calls : Calls state (length seen * each) done a b
    pub found : DraftTells state a b → OfRecords layouts whose records (tables_of state a) (λ w. reverse gathered ≡ all_taken w c seen)

  pub begins : Calls state 0 done a a → UnderWay records [] a
  begins none = record {
    seen = [];
    split = sym (append-nil records);
    calls = subst (λ (n : ℕ). Calls state n done a a) (sym (zero-mul each)) none;
    found = λ told org q w s all who there. refl;
  }

  module _ (both : (shown later : ℕ) (a b d : Held K) → DraftReads state shown a b → DraftReads state later b d → DraftTells state a d
      → DraftTells state a b × DraftTells state b d × (tables_of state b ≡ tables_of state a))
      (after : (shown later : ℕ) (e : Ending) (a b d : Held K) → Calls state shown done a b → Calls state later e b d → Calls state (shown + later) e a d)
      (rest left : List Record) (x : Record) (split : rest ≡ left ++ x ∷ []) (gathered : List RankedChild) (b : Held K) (u : UnderWay rest gathered b) where
    whole : records ≡ left ++ x ∷ u.seen
    whole = u.split ∙ ap (λ (xs : List Record). xs ++ u.seen) split ∙ append_assoc left (x ∷ []) u.seen

    pub goes_on : (d : Held K) (found : Option RankedChild) → (DraftTells state b d → Child layouts whose (tables_of state b) c x (Ok found)) → Calls state each done b d
        → (new : List RankedChild) → new ≡ gathered ++ children_in found → UnderWay left new d
    goes_on d found is calls new pushed = record {
      seen = x ∷ u.seen;
      split = whole;
      calls = subst (λ (n : ℕ). Calls state n done a d) (sym (suc-mul (length u.seen) each)) (after (length u.seen * each) each done a b d u.calls calls);
      found = λ told org q w s all who there.
          let tell = both (length u.seen * each) each a b d u.calls.reads calls.reads told in
          let stands = subst (λ (m : Tables). StandsIn org q m (Some w.tenant)) (sym tell.2) s in
          let one = is tell.1 org q w x stands all who (there x (subst (λ (xs : List Record). Has xs x) (sym whole) (has_behind left u.seen x))) refl in
          ap reverse pushed ∙ reverse-append gathered (children_in found)
          ∙ ap (λ (xs : List RankedChild). xs ++ reverse gathered) (turned_in found ∙ ap children_in one)
          ∙ ap (λ (xs : List RankedChild). children_in (ranked_if c (parents_by w c x) x) ++ xs) (u.found tell.0 org q w s all who there)
          ∙ one_taken w c x u.seen;
    }

    -- however it ended, no more is shown than for all of them
    pub within : length u.seen * each + each ≤ length records * each
    within =
        let many : suc (length u.seen) ≤ length records = subst (λ (xs : List Record). suc (length u.seen) ≤ length xs) (sym whole) (as_many left u.seen x) in
        let more = mul-le-mul_right each many in
        let next = suc-mul (length u.seen) each in
        omega (arith, more, next)

    -- a record that failed
    pub failed : {A : Type 0} (result : Result (Vec RankedChild A) StoreFail) (d : Held K) (e : StoreFail) → result ≡ Err e
        → (DraftTells state b d → Child layouts whose (tables_of state b) c x (Err e)) → Calls state each (ended_by e) b d → DraftTells state a d
        → FindsTaken layouts whose records (λ w. all_taken w c records) (tables_of state a) result
    failed {A = A} result d e same is calls told = subst (FindsTaken {A = A} layouts whose records (λ w. all_taken w c records) (tables_of state a)) (sym same) (by e is calls)
      where
        by : (e : StoreFail) → (DraftTells state b d → Child layouts whose (tables_of state b) c x (Err e)) → Calls state each (ended_by e) b d
            → FindsTaken {A = A} layouts whose records (λ w. all_taken w c records) (tables_of state a) (Err e)
        by Damaged is calls = λ org q w s all who there.
            let tell = both (length u.seen * each) each a b d u.calls.reads calls.reads told in
            let stands = subst (λ (m : Tables). StandsIn org q m (Some w.tenant)) (sym tell.2) s in
            is tell.1 org q w x stands all who (there x (subst (λ (xs : List Record). Has xs x) (sym whole) (has_behind left u.seen x))) refl
        by Keeper is calls = tt
        by Memory is calls = tt
