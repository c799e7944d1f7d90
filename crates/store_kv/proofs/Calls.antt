-- One call after another.
use Rattle.std.proofs.Common.{◌≡◌, inl, inr, ℕ, ◌+◌, ◌≤◌, ◌==◌, length, Bool, true, false, cond, IsTrue, true≢false, refl, sym, ap, ◌∙◌, arith}
use Rattle.store_kv.specs.State.{KeeperState, Steps, Reads, ShowsMost, data_rows, data_table}
use Rattle.store_kv.specs.Laid.{laid, removals}
use Rattle.store_kv.specs.Draft.{Held, tables_of, DraftReads, DraftWorks, DraftTells, rise}

pub steps_same : (s : KeeperState) → Steps s s
steps_same s = record { counts = omega arith; stood = λ h. h; was_clean = λ h. h; closes = λ h _. inl h; sure = λ h. (h, refl, λ still. still); shut = λ _ _ m h. h }

fallen : (was is : Bool) → (IsTrue is → IsTrue was) → was ≡ false → is ≡ false
fallen was true stood fell = absurd (true≢false (sym (stood refl) ∙ fell))
fallen was false stood fell = refl

pub steps_on : (a b c : KeeperState) → Steps a b → Steps b c → Steps a c
steps_on a b c s r = record {
  counts = omega (arith, s.counts, r.counts);
  stood = λ h. s.stood (r.stood h);
  was_clean = λ h. s.was_clean (r.was_clean h);
  closes = λ stood clean. elim (s.closes stood (r.was_clean clean)) [
    | inl still ↦ elim (r.closes still clean) [ inl on ↦ inl on | inr fault ↦ inr (omega (arith, fault, s.counts)) ]
    | inr fault ↦ inr (omega (arith, fault, r.counts))
  ];
  sure = λ h. let p = s.sure h in let q = r.sure p.0 in (q.0, q.1 ∙ p.1, λ still. q.2 (p.2 still));
  shut = λ fell clean m h. s.shut fell (r.was_clean clean) m (r.shut (fallen a.trusted b.trusted s.stood fell) clean m h);
}

pub reads_same : (s : KeeperState) → Reads s s
reads_same s = record { steps = steps_same s; same = λ told. (told.0, refl); crash = λ _ m h. h; written = refl }

pub reads_on : (s t u : KeeperState) → Reads s t → Reads t u → Reads s u
reads_on s t u a b = record {
  steps = steps_on s t u a.steps b.steps;
  same = λ told. let p = a.same (told.0, b.steps.stood told.1) in let q = b.same (p.0, told.1) in (q.0, q.1 ∙ p.1);
  crash = λ clean m h. a.crash (b.steps.was_clean clean) m (b.crash clean m h);
  written = b.written ∙ a.written;
}

module _ {K : Type 0} (state : K → KeeperState) where
  pub draft_none : (most : ℕ) (d : Held K) → DraftReads state most d d
  draft_none most d = record { same_reference = refl; changes = refl; reads = reads_same (state d.keeper.now); shows = λ _. omega arith }

  pub told_first : (most gone shown : ℕ) (a b c : Held K) → DraftWorks state most gone shown b c → DraftTells state a c → DraftTells state a b
  told_first most gone shown a b c r told = (told.0, r.reads.steps.stood told.1)

  pub told_then : (most gone shown : ℕ) (a b c : Held K) → DraftWorks state most gone shown a b → DraftTells state a b → DraftTells state a c → DraftTells state b c
  told_then most gone shown a b c s first told = ((s.reads.same first).0, told.1)

  pub reads_work : (shown : ℕ) (a b : Held K) → DraftReads state shown a b → DraftWorks state 0 0 shown a b
  reads_work shown a b s =
      let long = ap length s.changes in
      let gone = ap (removals data_table) s.changes in
      record { same_reference = s.same_reference; changes = omega (arith, long); removals = omega (arith, gone); reads = s.reads; shows = s.shows }

  -- bounds add up
  pub draft_works : (most gone shown more taken later : ℕ) (a b c : Held K) → DraftWorks state most gone shown a b → DraftWorks state more taken later b c → DraftWorks state (most + more) (gone + taken) (shown + later) a c
  draft_works most gone shown more taken later a b c s r = record {
    same_reference = r.same_reference ∙ s.same_reference;
    changes = omega (arith, s.changes, r.changes);
    removals = omega (arith, s.removals, r.removals);
    reads = reads_on (state a.keeper.now) (state b.keeper.now) (state c.keeper.now) s.reads r.reads;
    shows = λ told.
        let first = told_first more taken later a b c r told in
        let x = s.shows first in
        let y = r.shows (told_then most gone shown a b c s first told) in
        omega (arith, x, y);
  }

  pub draft_reads : (shown later : ℕ) (a b c : Held K) → DraftReads state shown a b → DraftReads state later b c → DraftReads state (shown + later) a c
  draft_reads shown later a b c s r = record {
    same_reference = r.same_reference ∙ s.same_reference;
    changes = r.changes ∙ s.changes;
    reads = reads_on (state a.keeper.now) (state b.keeper.now) (state c.keeper.now) s.reads r.reads;
    shows = (draft_works 0 0 shown 0 0 later a b c (reads_work shown a b s) (reads_work later b c r)).shows;
  }

  -- what a call that reads showed is what the count rose by
  pub reads_rise : (shown : ℕ) (a b : Held K) → DraftReads state shown a b → DraftReads state (rise state a b) a b
  reads_rise shown a b s = record { same_reference = s.same_reference; changes = s.changes; reads = s.reads; shows = λ _. omega arith }

  -- the same of two calls that read rows of one table: if those aren't data rows, none is
  pub rows_rise : (table shown later : ℕ) (a b c : Held K) → DraftReads state (data_rows table shown) a b → DraftReads state (data_rows table later) b c → DraftReads state (data_rows table (rise state a c)) a c
  rows_rise table shown later a b c s r =
      let both = draft_reads (data_rows table shown) (data_rows table later) a b c s r in
      record { same_reference = both.same_reference; changes = both.changes; reads = both.reads; shows = λ told. by (data_table == table) (both.shows told) }
    where
      by : (is_data : Bool) → ShowsMost (cond is_data shown 0 + cond is_data later 0) (state a.keeper.now) (state c.keeper.now) → ShowsMost (cond is_data (rise state a c) 0) (state a.keeper.now) (state c.keeper.now)
      by true h = omega arith
      by false h = omega (arith, h)

  -- a larger bound, which may be known only where the keeper tells
  pub reads_most : (shown most : ℕ) (a b : Held K) → (DraftTells state a b → shown ≤ most) → DraftReads state shown a b → DraftReads state most a b
  reads_most shown most a b low s = record { same_reference = s.same_reference; changes = s.changes; reads = s.reads; shows = λ told. let x = s.shows told in let y = low told in omega (arith, x, y) }

  pub works_most : (most gone shown more taken larger : ℕ) (a b : Held K) → most ≤ more → gone ≤ taken → (DraftTells state a b → shown ≤ larger) → DraftWorks state most gone shown a b → DraftWorks state more taken larger a b
  works_most most gone shown more taken larger a b few less low s = record {
    same_reference = s.same_reference;
    changes = omega (arith, s.changes, few);
    removals = omega (arith, s.removals, less);
    reads = s.reads;
    shows = λ told. let x = s.shows told in let y = low told in omega (arith, x, y);
  }

  pub reads_tables : (shown : ℕ) (a b : Held K) → DraftReads state shown a b → DraftTells state a b → tables_of state b ≡ tables_of state a
  reads_tables shown a b s told = ap (λ es. laid es (state b.keeper.now).tables) s.changes ∙ ap (laid a.changes.entries) (s.reads.same told).1

  -- a keeper that told its tables over two calls that read told them over each, and the second reads what the first did
  pub both_tell : (shown later : ℕ) (a b c : Held K) → DraftReads state shown a b → DraftReads state later b c → DraftTells state a c → DraftTells state a b × DraftTells state b c × (tables_of state b ≡ tables_of state a)
  both_tell shown later a b c s r told =
      let first : DraftTells state a b = (told.0, r.reads.steps.stood told.1) in
      (first, ((s.reads.same first).0, told.1), reads_tables shown a b s first)

  -- its premises can be met: a draft of which nothing is read
  both_same : (d : Held K) → DraftTells state d d → DraftTells state d d × DraftTells state d d × (tables_of state d ≡ tables_of state d)
  both_same d = both_tell 0 0 d d d (draft_none 0 d) (draft_none 0 d)
