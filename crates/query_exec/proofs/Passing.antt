-- A walk over rows, one after the other, in which a draft is read.
use Rattle.std.proofs.Common.{◌≡◌, ◌∙◌, ℕ, suc, ◌+◌, ◌*◌, ◌≤◌, List, [], ◌∷◌, ◌++◌, Some, refl, sym, ap, subst, arith, append-nil, length}
use Rattle.std.proofs.Math.Nat.{mul-le-mul_left, mul-suc}
use Rattle.store_kv.specs.Draft.{DraftReads, DraftTells, Held, tables_of}
use Rattle.store_kv.specs.State.{KeeperState}
use Rattle.store_kv.specs.Tables.{Tables}
use Rattle.model.specs.declared.record.Record.{Record}
use Rattle.model.specs.Membership.{Has}
use Rattle.model.specs.Paths.{Asked}
use Rattle.store_abstraction.specs.Calls.{Calls, Ending, done, fell}
use Rattle.store_abstraction.specs.Local.{StandsIn}
use Rattle.store_abstraction.specs.Plan.{OrgPlan}
use Rattle.store_abstraction.specs.declared.layout.Layout.{Layout}
use Rattle.query_exec.specs.Written.{InTenants}
use Rattle.query_exec.specs.inner.Judging.{OfOne, OfRows}
use Rattle.query_exec.proofs.Offering.{Through, each_nothing, each_split, through_next}
use Rattle.query_exec.proofs.Paging.{middle_has}

-- ---- laws of the layers below

module _ {K : Type 0} (state : K → KeeperState) where
  abbrev pub TellsBoth : Type 0
  TellsBoth = (shown later : ℕ) (a b c : Held K) → DraftReads state shown a b → DraftReads state later b c → DraftTells state a c
      → DraftTells state a b × DraftTells state b c × (tables_of state b ≡ tables_of state a)

  abbrev pub ReadsMost : Type 0
  ReadsMost = (shown most : ℕ) (a b : Held K) → (DraftTells state a b → shown ≤ most) → DraftReads state shown a b → DraftReads state most a b

  abbrev pub CallsThen : Type 0
  CallsThen = (shown later : ℕ) (e : Ending) (a b c : Held K) → Calls state shown done a b → Calls state later e b c → Calls state (shown + later) e a c

  abbrev pub Weaker : Type 0
  Weaker = (shown : ℕ) (e : Ending) (a b : Held K) → (e ≡ fell → ⊥) → Calls state shown done a b → Calls state shown e a b

  -- a call may be said to show more
  pub shows_more : ReadsMost → (shown most : ℕ) (e : Ending) (a b : Held K) → (DraftTells state a b → shown ≤ most) → Calls state shown e a b → Calls state most e a b
  shows_more most_of shown most e a b few calls = record { reads = most_of shown most a b few calls.reads; stays = calls.stays; cause = calls.cause; quiet = calls.quiet }

  -- what is so over the tables before a call that reads is so over those after it
  pub in_later : TellsBoth → (l : Layout) (who : OrgPlan → Asked → Type 0) (T : Asked → Type 0) (a b : Held K)
      → tables_of state b ≡ tables_of state a → InTenants l who (tables_of state b) T → InTenants l who (tables_of state a) T
  in_later tells l who T a b same h = subst (λ (m : Tables). InTenants l who m T) same h

-- ---- rows, one after the other

module _ {K : Type 0} (state : K → KeeperState) (l : Layout) (who : OrgPlan → Asked → Type 0) {X : Type 0} (P : Asked → X → Record → Type 0) (each : ℕ) where
  -- of so many rows something holds, and these are left
  pub record Passing (rows left : List X) (Q : Asked → List Record → Type 0) (a b : Held K) : Type 0 where
    pub count : ℕ
    pub rest : count + length left ≡ length rows
    pub calls : Calls state (each * count) done a b
    pub does : DraftTells state a b → OfRows l who P rows (tables_of state a) (λ w page. Through (P w) (Q w) left page)

  pub passes_first : (rows : List X) (Q : Asked → List Record → Type 0) (a : Held K) → Calls state 0 done a a → ((w : Asked) → Q w []) → Passing rows rows Q a a
  passes_first rows Q a none first = record {
    count = 0;
    rest = omega arith;
    calls = subst (λ (n : ℕ). Calls state n done a a) (omega arith) none;
    does = λ told q w s h its page e has. record { seen = []; coming = page; read = e; split = refl; does = first w };
  }

  -- the record of a row in the middle is one of the page
  inside : (seen rest page : List Record) (r : Record) → seen ++ r ∷ rest ≡ page → Has page r
  inside seen rest page r e = subst (λ (rs : List Record). Has rs r) e (middle_has seen r rest)

  module _ (tells : TellsBoth state) (then : CallsThen state) (rows more : List X) (Q : Asked → List Record → Type 0) (x : X) (a b c : Held K) (g : Passing rows (x ∷ more) Q a b) where
    -- one row more
    pub passes_next : (R : Asked → List Record → Type 0) → Calls state each done b c
        → (DraftTells state b c → OfOne l who P x (tables_of state b) (λ w r. (seen : List Record) → Q w seen → R w (seen ++ r ∷ []))) → Passing rows more R a c
    passes_next R calls row = record {
      count = suc g.count;
      rest = omega (arith, g.rest);
      calls = subst (λ (n : ℕ). Calls state n done a c) (sym (mul-suc each g.count)) (then _ _ done a b c g.calls calls);
      does = λ told q w s h its page e has.
          let tell = tells _ _ a b c g.calls.reads calls.reads told in
          let here = subst (λ (m : Tables). StandsIn l.org q m (Some w.tenant)) (sym tell.2) s in
          through_next (P w) (Q w) (R w) x more page (g.does tell.0 q w s h its page e has)
          (λ seen rest r split made goes. row tell.1 q w here h its r (has r (inside seen rest page r split)) made seen goes);
    }

    -- it stops at this row
    module _ (e : Ending) (calls : Calls state each e b c) where
      pub stops_calls : ReadsMost state → Calls state (each * length rows) e a c
      stops_calls most_of =
          let some : suc g.count ≤ length rows = omega (arith, g.rest) in
          let few : each * suc g.count ≤ each * length rows = mul-le-mul_left each some in
          shows_more state most_of (each * suc g.count) (each * length rows) e a c (λ told. few)
          (subst (λ (n : ℕ). Calls state n e a c) (sym (mul-suc each g.count)) (then _ _ e a b c g.calls calls))

      pub stops_here : (T : Asked → List Record → Type 0) → DraftTells state a c
          → (DraftTells state b c → OfOne l who P x (tables_of state b) (λ w r. (seen rest : List Record) → Q w seen → T w (seen ++ r ∷ rest)))
          → OfRows l who P rows (tables_of state a) T
      stops_here T told row = λ q w s h its page e has.
          let tell = tells _ _ a b c g.calls.reads calls.reads told in
          let here = subst (λ (m : Tables). StandsIn l.org q m (Some w.tenant)) (sym tell.2) s in
          let t = g.does tell.0 q w s h its page e has in
          let n = each_split (P w) x more t.coming t.read in
          let all : t.seen ++ n.first ∷ n.others ≡ page = ap (λ (rs : List Record). t.seen ++ rs) (sym n.is) ∙ t.split in
          subst (T w) all (row tell.1 q w here h its n.first (has n.first (inside t.seen n.others page n.first all)) n.made t.seen n.others t.does)

  module _ (rows left : List X) (Q : Asked → List Record → Type 0) (a b : Held K) (g : Passing rows left Q a b) where
    pub passed_calls : ReadsMost state → Calls state (each * length rows) done a b
    passed_calls most_of =
        let some : g.count ≤ length rows = omega (arith, g.rest) in
        shows_more state most_of (each * g.count) (each * length rows) done a b (λ told. mul-le-mul_left each some) g.calls

    -- whatever is left
    pub passed_over : (T : Asked → List Record → Type 0) → DraftTells state a b → ((w : Asked) (seen rest : List Record) → Q w seen → T w (seen ++ rest))
        → OfRows l who P rows (tables_of state a) T
    passed_over T told over = λ q w s h its page e has.
        let t = g.does told q w s h its page e has in
        subst (T w) t.split (over w t.seen t.coming t.does)

  pub passed : (rows : List X) (Q : Asked → List Record → Type 0) (a b : Held K) → Passing rows [] Q a b → DraftTells state a b → OfRows l who P rows (tables_of state a) Q
  passed rows Q a b g told = λ q w s h its page e has.
      let t = g.does told q w s h its page e has in
      subst (Q w) (sym (append-nil t.seen) ∙ ap (λ (rs : List Record). t.seen ++ rs) (sym (each_nothing (P w) t.coming t.read)) ∙ t.split) t.does
