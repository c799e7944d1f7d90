-- The rules of an update, one after the other.
use Rattle.std.proofs.Common.{◌∙◌, Some, None, sym}
use Rattle.std.specs.Prelude.{Result, Ok, Err}
use Rattle.store_kv.specs.Tables.{Tables}
use Rattle.store_rows.specs.declared.fail.StoreFail.{StoreFail}
use Rattle.store_rows.specs.declared.fail.StoreFail.TheVariants.{Damaged, Keeper, Memory}
use Rattle.model.specs.declared.record.Record.{Record}
use Rattle.model.specs.declared.refusal.Refusal.{Refusal}
use Rattle.model.specs.Rules.{Rule, first_refusal}
use Rattle.record_constraints.specs.Judged.{FindsRule}
use Rattle.access_traits.specs.Rights.{Whose}
use Rattle.store_abstraction.specs.Layouts.{FindsOf}
use Rattle.store_abstraction.specs.declared.layout.Layout.{Layout}
use Rattle.record_save.specs.inner.Altered.{kept_rules}
use Rattle.record_save.specs.inner.Judged.{own_rules}
use Rattle.record_save.specs.inner.Staying.{staying_rules}
use Rattle.record_save.proofs.FirstRules.{first_stays, first_then}

module _ (l : Layout) (whose : Whose) (old new : Record) (m : Tables) where
  -- the rules on what the record keeps refuse nothing, and so it is those behind them
  pub kept_then : (r : Result Rule StoreFail) → FindsOf l (λ t. first_refusal (staying_rules l old new t)) m (Ok None) → FindsRule l whose (λ a. first_refusal (own_rules l (Some old) new a)) m r
      → FindsRule l whose (λ a. first_refusal (kept_rules l old new a)) m r
  kept_then (Ok found) none h = λ q a s its who. h q a s its who ∙ sym (first_then (staying_rules l old new a.tenant) (own_rules l (Some old) new a) (none q a.tenant s its))
  kept_then (Err Damaged) none h = h
  kept_then (Err Keeper) none h = tt
  kept_then (Err Memory) none h = tt

  pub kept_first : (refusal : Refusal) → FindsOf l (λ t. first_refusal (staying_rules l old new t)) m (Ok (Some refusal)) → FindsRule l whose (λ a. first_refusal (kept_rules l old new a)) m (Ok (Some refusal))
  kept_first refusal h = λ q a s its who. first_stays refusal (staying_rules l old new a.tenant) (own_rules l (Some old) new a) (h q a.tenant s its)
