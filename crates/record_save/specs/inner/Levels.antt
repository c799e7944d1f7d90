-- Refusals by the level of who asks, as it is asked of rights. No public contract reaches these words.
use Rattle.std.specs.Prelude.{ℕ, not, if◌then◌else◌, List, Option, None}
use Rattle.std.specs.List.{enumerate_from, find}
use Rattle.model.specs.Cases.{in_case}
use Rattle.model.specs.Edits.{same_owner}
use Rattle.model.specs.Fields.{is_master}
use Rattle.model.specs.Levels.{at_least}
use Rattle.model.specs.Rules.{Rule, refuse_if}
use Rattle.model.specs.Tenant.{Tenant, User}
use Rattle.model.specs.declared.record.Record.{Record}
use Rattle.model.specs.declared.refusal.Refusal.TheVariants.{InsufficientAccess}
use Rattle.record_constraints.specs.References.{named_at}
use Rattle.access_traits.specs.Rights.{level_there}
use Rattle.store_abstraction.specs.declared.layout.Layout.{Layout}
use Rattle.base_value.specs.declared.sharing.Level.{Level}
use Rattle.base_value.specs.declared.sharing.Level.TheVariants.{Edit, Full}

-- the user's level is below this on the record of an object that has this id, as it is where there is none
abbrev pub below_there : (least : Level) → (object : ℕ) → (id : List ℕ) → Tenant → User → Rule
below_there least object id t u = refuse_if (not (at_least least (level_there t u object id))) InsufficientAccess

-- the object and the id of the master that a record names, if it names one
abbrev pub master_named : Layout → Record → Option (ℕ × List ℕ)
master_named l new = in_case (find (λ f. is_master f.1.kind) (enumerate_from 1 l.fields)) None (λ f. named_at f.1.kind f.0 new)

-- who makes a detail hasn't Edit on its master
abbrev pub below_master : Layout → (new : Record) → Tenant → User → Rule
below_master l new t u = in_case (master_named l new) None (λ m. below_there Edit m.0 m.1 t u)

-- who gives a record another owner hasn't Full on it
abbrev pub below_owner : Layout → (old new : Record) → Tenant → User → Rule
below_owner l old new t u = if same_owner old new then None else below_there Full l.object old.id t u
