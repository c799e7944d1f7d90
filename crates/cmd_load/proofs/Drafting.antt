-- What rows done in turn leave of a draft.
use Rattle.std.proofs.Common.{◌≡◌, ◌∙◌, ℕ, suc, ◌+◌, ◌*◌, ◌<◌, ◌≤◌, Bool, true, false, ◌||◌, List, length, Result, Ok, Err, refl, sym, ap, subst, arith}
use Rattle.std.proofs.Math.Nat.{mul-le-mul_right, suc-mul}
use Rattle.std.specs.Prelude.{IsErr}
use Rattle.std.specs.Result.{IsErrAnd}
use Rattle.std.proofs.lemmas.Bool.{false≢true as false_isnt_true}
use Rattle.store_kv.specs.Draft.{DraftReads, DraftTells, DraftWorks, Held, count_of}
use Rattle.store_kv.specs.State.{KeeperState}
use Rattle.store_rows.specs.declared.fail.StoreFail.{StoreFail}
use Rattle.store_rows.specs.declared.fail.StoreFail.TheVariants.{Memory}
use Rattle.store_abstraction.specs.declared.judged.Judged.{Judged}
use Rattle.store_abstraction.specs.declared.judged.Judged.TheVariants.{Changed, Same}
use Rattle.store_abstraction.specs.Calls.{Makes, ended}
use Rattle.store_abstraction.specs.Operations.{Drafts, IsChange, IsSame}
use Rattle.cmd_load.specs.inner.Joining.{is_changed, judged_so}

-- what a failure to allocate is told as
pub memory_told : (r : Result (Judged (List ℕ)) StoreFail) → IsErr r × IsErrAnd r (λ x. x ≡ Memory) → r ≡ Err Memory
memory_told (Ok x) h = absurd h.1
memory_told (Err e) h = ap Err h.1

-- one time more, and at most so many times
pub once_more : (i x y : ℕ) → y ≤ x → i * x + y ≤ (i + 1) * x
once_more i x y few =
    let is = suc-mul i x in
    let next : i + 1 ≡ suc i = omega arith in
    let same = ap (λ (n : ℕ). n * x) next in
    omega (arith, is, same, few)

pub at_most : (i n x y : ℕ) → i < n → y ≤ x → i * x + y ≤ n * x
at_most i n x y lt few =
    let one = once_more i x y few in
    let all : (i + 1) * x ≤ n * x = mul-le-mul_right x (omega (arith, lt)) in
    omega (arith, one, all)

module _ {K : Type 0} (state : K → KeeperState) where
  -- what `store_kv` and `store_abstraction` say of one call after another
  pub record DraftLaws : Type 0 where
    pub works : (most gone shown more taken later : ℕ) (a b c : Held K) → DraftWorks state most gone shown a b → DraftWorks state more taken later b c → DraftWorks state (most + more) (gone + taken) (shown + later) a c
    pub works_most : (most gone shown more taken larger : ℕ) (a b : Held K) → most ≤ more → gone ≤ taken → (DraftTells state a b → shown ≤ larger) → DraftWorks state most gone shown a b → DraftWorks state more taken larger a b
    pub reads : (shown later : ℕ) (a b c : Held K) → DraftReads state shown a b → DraftReads state later b c → DraftReads state (shown + later) a c
    pub reads_most : (shown most : ℕ) (a b : Held K) → (DraftTells state a b → shown ≤ most) → DraftReads state shown a b → DraftReads state most a b

  module _ (laws : DraftLaws) where
    -- a bound may be wider
    pub drafts_wider : {X : Type 0} (most shown more larger : ℕ) (r : Result (Judged X) StoreFail) (a b : Held K) → most ≤ more → shown ≤ larger → Drafts state most 0 shown r a b → Drafts state more 0 larger r a b
    drafts_wider most shown more larger r a b wide far h = record {
      makes = record { works = laws.works_most most 0 shown more 0 larger a b wide (omega arith) (λ _. far) h.makes.works; stays = h.makes.stays; cause = h.makes.cause; quiet = h.makes.quiet };
      changing = h.changing;
      same = λ is. laws.reads_most shown larger a b (λ _. far) (h.same is);
    }

    module _ (most shown more later : ℕ) (a b c : Held K) (changed : Bool) (lines : List ℕ) (first : Drafts state most 0 shown (Ok (judged_so changed lines)) a b) where
      first_ended : ended (Ok (judged_so changed lines)) ≡ ended {X = Bool} (Ok true)
      first_ended = refl

      -- what was changed before stays
      some_stay : (changed : Bool) → (IsChange (Ok (judged_so changed lines)) → 0 < count_of b) → changed ≡ true → 0 < count_of b
      some_stay true changing is = changing tt
      some_stay false changing is = absurd cc

      none_changed : (changed : Bool) → changed ≡ false → IsSame (Ok (judged_so changed lines))
      none_changed false is = tt
      none_changed true is = absurd cc

      makes_then : (r : Result (Judged (List ℕ)) StoreFail) → Drafts state more 0 later r b c → Makes state (most + more) 0 (shown + later) (ended r) a c
      makes_then r second = record {
        works = laws.works_most (most + more) (0 + 0) (shown + later) (most + more) 0 (shown + later) a c (omega arith) (omega arith) (λ _. omega arith)
            (laws.works most 0 shown more 0 later a b c first.makes.works second.makes.works);
        stays = λ trusted is_done clean. second.makes.stays (first.makes.stays trusted refl (second.makes.works.reads.steps.was_clean clean)) is_done clean;
        cause = record {
          rose = λ fell. let rose = second.makes.cause.rose fell in omega (arith, rose, first.makes.works.reads.steps.counts);
          never = λ sure fell. second.makes.cause.never (first.makes.works.reads.steps.sure sure).0 fell;
        };
        quiet = λ none. second.makes.quiet none ∙ first.makes.quiet (λ fell. fell);
      }

      -- a call that failed
      pub failed_then : (e : StoreFail) → Drafts {X = List ℕ} state more 0 later (Err e) b c → Drafts {X = List ℕ} state (most + more) 0 (shown + later) (Err e) a c
      failed_then e second = record { makes = makes_then (Err e) second; changing = λ none. absurd none; same = λ none. absurd none }

      -- one that was done
      changing_then : (changed : Bool) (j : Judged (List ℕ)) (text : List ℕ) → (changed ≡ true → 0 < count_of b) → Drafts state more 0 later (Ok j) b c → IsChange (Ok (judged_so (changed || is_changed j) text)) → 0 < count_of c
      changing_then true (Same x) text some second change = subst (λ (n : ℕ). 0 < n) (sym (ap length (second.same tt).changes)) (some refl)
      changing_then false (Same x) text some second change = absurd change
      changing_then true (Changed x) text some second change = second.changing tt
      changing_then false (Changed x) text some second change = second.changing tt

      same_then : (changed : Bool) (j : Judged (List ℕ)) (text : List ℕ) → (changed ≡ false → DraftReads state shown a b) → Drafts state more 0 later (Ok j) b c → IsSame (Ok (judged_so (changed || is_changed j) text)) → DraftReads state (shown + later) a c
      same_then false (Same x) text reads second is = laws.reads shown later a b c (reads refl) (second.same tt)
      same_then false (Changed x) text reads second is = absurd is
      same_then true (Same x) text reads second is = absurd is
      same_then true (Changed x) text reads second is = absurd is

      pub drafts_then : (j : Judged (List ℕ)) (text : List ℕ) → Drafts state more 0 later (Ok j) b c → Drafts state (most + more) 0 (shown + later) (Ok (judged_so (changed || is_changed j) text)) a c
      drafts_then j text second = record {
        makes = ended_so (changed || is_changed j) (makes_then (Ok j) second);
        changing = changing_then changed j text (some_stay changed first.changing) second;
        same = same_then changed j text (λ is. first.same (none_changed changed is)) second;
      }
        where
          ended_so : (v : Bool) → Makes state (most + more) 0 (shown + later) (ended (Ok j)) a c → Makes state (most + more) 0 (shown + later) (ended (Ok (judged_so v text))) a c
          ended_so true m = m
          ended_so false m = m

      -- out of memory after it
      pub ended_then : (j : Judged (List ℕ)) → Drafts state more 0 later (Ok j) b c → Drafts {X = List ℕ} state (most + more) 0 (shown + later) (Err Memory) a c
      ended_then j second =
          let m = makes_then (Ok j) second in
          record {
            makes = record { works = m.works; stays = λ trusted is_done. absurd (false_isnt_true is_done); cause = record { rose = λ fell. absurd fell; never = λ sure fell. fell }; quiet = λ none. m.quiet (λ fell. fell) };
            changing = λ none. absurd none;
            same = λ none. absurd none;
          }
