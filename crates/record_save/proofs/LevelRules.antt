-- Rules that are asked of rights, as rules of who asks.
use Rattle.std.proofs.Common.{◌≡◌, cond, not, Option, Some, None, ap}
use Rattle.std.specs.Prelude.{Result, Ok, Err}
use Rattle.store_kv.specs.Tables.{Tables}
use Rattle.store_rows.specs.declared.fail.StoreFail.{StoreFail}
use Rattle.store_rows.specs.declared.fail.StoreFail.TheVariants.{Damaged, Keeper, Memory}
use Rattle.model.specs.Cases.{in_case}
use Rattle.model.specs.Edits.{same_owner}
use Rattle.model.specs.Levels.{at_least, level}
use Rattle.model.specs.Paths.{Asked}
use Rattle.model.specs.Rights.{record_of_object}
use Rattle.model.specs.Rules.{Rule, refuse_if}
use Rattle.model.specs.Tenant.{Tenant, User}
use Rattle.model.specs.Updates.{owner_denied}
use Rattle.model.specs.declared.record.Record.{Record}
use Rattle.model.specs.declared.refusal.Refusal.TheVariants.{InsufficientAccess}
use Rattle.record_constraints.specs.Judged.{FindsRule}
use Rattle.access_traits.specs.Rights.{FindsFor, Whose}
use Rattle.store_abstraction.specs.declared.layout.Layout.{Layout}
use Rattle.base_value.specs.declared.sharing.Level.TheVariants.{Full, Nothing}
use Rattle.record_save.specs.inner.Levels.{below_owner}

pub asked_found : (l : Layout) (whose : Whose) (rule : Tenant → User → Rule) (m : Tables) (r : Result Rule StoreFail) → FindsFor l.org whose rule m r → FindsRule l whose (λ a. rule a.tenant a.user) m r
asked_found l whose rule m (Ok found) h = λ q a s its who. h q a.tenant a.user s who
asked_found l whose rule m (Err Damaged) h = λ q a s its who. h q a.tenant a.user s who
asked_found l whose rule m (Err Keeper) h = tt
asked_found l whose rule m (Err Memory) h = tt

-- on the record that gets another owner
pub owner_same : (a : Asked) (l : Layout) (old new : Record) → record_of_object a.tenant l.object old.id ≡ Some old → below_owner l old new a.tenant a.user ≡ owner_denied a old new
owner_same a l old new is =
    ap (λ (x : Option Record). cond (same_owner old new) None (refuse_if (not (at_least Full (in_case x Nothing (level a.tenant a.user)))) InsufficientAccess)) is
