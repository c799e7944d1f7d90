-- The object's own rules, judged for whoever asks.
use Rattle.std.proofs.Common.{Option}
use Rattle.std.specs.Prelude.{Err}
use Rattle.store_kv.specs.Tables.{Tables}
use Rattle.store_rows.specs.declared.fail.StoreFail.{StoreFail}
use Rattle.store_rows.specs.declared.fail.StoreFail.TheVariants.{Damaged, Keeper, Memory}
use Rattle.model.specs.declared.record.Record.{Record}
use Rattle.model.specs.Paths.{Asked}
use Rattle.model.specs.Rules.{first_refusal}
use Rattle.record_constraints.specs.Judged.{FindsRule}
use Rattle.access_traits.specs.Rights.{Whose}
use Rattle.schema_rules.specs.Failing.{rule_failed}
use Rattle.store_abstraction.specs.declared.layout.Layout.{Layout}
use Rattle.store_abstraction.specs.Layouts.{FindsOf}
use Rattle.record_save.specs.inner.Judged.{own_rules}

-- why they aren't judged whoever asks, they aren't for whose rights these are
pub own_failed : (l : Layout) (whose : Whose) (old : Option Record) (new : Record) (m : Tables) (e : StoreFail) → ((a : Asked) → FindsOf l (rule_failed a l.object new old) m (Err e))
    → FindsRule l whose (λ a. first_refusal (own_rules l old new a)) m (Err e)
own_failed l whose old new m Damaged h = λ q a s its who. h a q a.tenant s its
own_failed l whose old new m Keeper h = tt
own_failed l whose old new m Memory h = tt
