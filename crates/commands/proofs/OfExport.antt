-- What `export` prints, and the world that it leaves, by the moment at which it is asked.
use Rattle.std.proofs.Common.{◌≡◌, ℕ, true, List, Result, Ok, Err, refl, sym, ap, subst, ◌∙◌}
use Rattle.std.specs.Prelude.{IsErrOf, is_ok}
use Rattle.std.proofs.lemmas.Bool.{true≢false as true_isnt_false}
use Rattle.store_kv.specs.State.{KeeperCause, KeeperState, StaysAfter}
use Rattle.store_kv.specs.Tables.{Tables}
use Rattle.store_rows.specs.declared.fail.StoreFail.{StoreFail}
use Rattle.store_rows.specs.declared.fail.StoreFail.TheVariants as store
use Rattle.model.specs.declared.refusal.Refusal.{Refusal}
use Rattle.model.specs.World.{World}
use Rattle.store_abstraction.specs.Calls.{HasFallen, ended, is_done}
use Rattle.store_abstraction.specs.Operations.{IsChange, Judges}
use Rattle.store_abstraction.specs.Stands.{Stands}
use Rattle.store_abstraction.specs.declared.judged.Judged.{Judged}
use Rattle.store_abstraction.specs.declared.judged.Judged.TheVariants.{Changed, Same}
use Rattle.commands.specs.Commands.{export, printed}
use Rattle.cmd_load.specs.Batches.{first_moment}
use Rattle.commands.specs.Deeds.{one_deed}
use Rattle.commands.specs.Export.{IsPrintoutOf, export_asked, export_does, lines_printout}
use Rattle.commands.specs.Printed.{PrintoutText}

module _ (org user secret query : List ℕ) where
  -- it is asked at the first moment that is told
  pub export_told : (now : ℕ) (w : World) (bytes moments : List ℕ) → now ≡ first_moment moments
      → printed (export org user secret query) w bytes moments ≡ one_deed (export_does org user secret query now w).0 (export_does org user secret query now w).1
  export_told now w bytes moments first = ap (λ (n : ℕ). let x = export_does org user secret query n w in one_deed x.0 x.1) (sym first)

  abbrev Its : Type 0
  Its = Result (List ℕ) Refusal

  -- ---- what is judged is a printout

  pub exported_judged : (now : ℕ) (w : World) (after : Tables) (r : Result (Judged Its) StoreFail) (p : Result (Judged PrintoutText) StoreFail) → IsPrintoutOf r p → Judges Stands (export_asked org user secret query now) w after r
      → Judges Stands (export_does org user secret query now) w after p
  exported_judged now w after (Ok (Same x)) (Ok (Same y)) is h = (is ∙ ap lines_printout h.0, h.1)
  exported_judged now w after (Ok (Same x)) (Ok (Changed y)) is h = absurd is
  exported_judged now w after (Ok (Same x)) (Err e) is h = λ wrong. absurd cc
  exported_judged now w after (Ok (Changed x)) (Ok (Same y)) is h = absurd is
  exported_judged now w after (Ok (Changed x)) (Ok (Changed y)) is h = (is ∙ ap lines_printout h.0, h.1)
  exported_judged now w after (Ok (Changed x)) (Err e) is h = λ wrong. absurd cc
  exported_judged now w after (Err e) p is h = subst (λ (z : Result (Judged PrintoutText) StoreFail). Judges Stands (export_does org user secret query now) w after z) (sym is) h

-- ---- what judging leaves of a draft

abbrev pub Lines : Type 0
Lines = Result (List ℕ) Refusal

pub exported_change : (r : Result (Judged Lines) StoreFail) (p : Result (Judged PrintoutText) StoreFail) → IsPrintoutOf r p → IsChange p → IsChange r
exported_change (Ok (Same x)) (Ok (Same y)) is change = change
exported_change (Ok (Same x)) (Ok (Changed y)) is change = absurd is
exported_change (Ok (Same x)) (Err e) is change = absurd change
exported_change (Ok (Changed x)) p is change = tt
exported_change (Err e) p is change = absurd (subst (λ (z : Result (Judged PrintoutText) StoreFail). IsChange z) is change)

done_anyhow : (r : Result (Judged Lines) StoreFail) (p : Result (Judged PrintoutText) StoreFail) → IsPrintoutOf r p → is_ok p ≡ true → is_done (ended r) ≡ true
done_anyhow (Ok j) p is done = refl
done_anyhow (Err e) p is done = absurd (true_isnt_false (sym done ∙ ap (λ (z : Result (Judged PrintoutText) StoreFail). is_ok z) is))

pub exported_stays : (old new : KeeperState) (r : Result (Judged Lines) StoreFail) (p : Result (Judged PrintoutText) StoreFail) → IsPrintoutOf r p → StaysAfter (is_done (ended r)) old new → StaysAfter (is_ok p) old new
exported_stays old new r p is stays = λ trusted done clean. stays trusted (done_anyhow r p is done) clean

fallen : (r : Result (Judged Lines) StoreFail) (p : Result (Judged PrintoutText) StoreFail) → IsPrintoutOf r p → p ≡ Err store.Keeper → HasFallen (ended r)
fallen (Ok (Same x)) (Ok y) is fell = absurd cc
fallen (Ok (Same x)) (Err e) is fell = absurd cc
fallen (Ok (Changed x)) (Ok y) is fell = absurd cc
fallen (Ok (Changed x)) (Err e) is fell = absurd cc
fallen (Err store.Keeper) p is fell = tt
fallen (Err store.Memory) p is fell = absurd cc
fallen (Err store.Damaged) p is fell = absurd cc

pub exported_cause : (old new : KeeperState) (r : Result (Judged Lines) StoreFail) (p : Result (Judged PrintoutText) StoreFail) → IsPrintoutOf r p → KeeperCause old new (HasFallen (ended r)) → KeeperCause old new (IsErrOf p store.Keeper)
exported_cause old new r p is cause = record {
  rose = λ fell. cause.rose (fallen r p is fell);
  never = λ sure fell. cause.never sure (fallen r p is fell);
}
