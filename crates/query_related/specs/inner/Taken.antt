-- Records that are taken as children, with their ranks. No public contract reaches these words.
use Rattle.std.specs.Prelude.{◌≡◌, if◌then◌else◌, List, [], ◌∷◌, filter, map, Option, Some, None, Result, Ok, Err, Vec}
use Rattle.query_plan.specs.declared.plan.Child.{Child}
use Rattle.query_plan.specs.declared.plan.Choice.{Choice}
use Rattle.query_plan.specs.Checks.{takes}
use Rattle.query_plan.specs.Plans.{is_taken, parents_by}
use Rattle.store_kv.specs.Tables.{Tables}
use Rattle.store_rows.specs.declared.fail.StoreFail.{StoreFail}
use Rattle.store_rows.specs.declared.fail.StoreFail.TheVariants.{Damaged, Keeper, Memory}
use Rattle.model.specs.declared.record.Record.{Record}
use Rattle.model.specs.Membership.{Has}
use Rattle.model.specs.Paths.{Asked}
use Rattle.query_plan.specs.order.Ranks.{rank_by}
use Rattle.query_plan.specs.declared.order.ranks.Rank.{Rank}
use Rattle.access_traits.specs.Rights.{Whose}
use Rattle.store_abstraction.specs.declared.layout.Layout.{Layout}
use Rattle.query_related.specs.Children.{OfAsked}
use Rattle.query_exec.specs.declared.ranked.Ranked.{Ranked}

-- a child with its rank
abbrev pub RankedChild : Type 0
RankedChild = Ranked Rank Child

-- a record with its parents as a child, with its rank
abbrev pub ranked_with : Choice → (far : List (Option Record)) → Record → RankedChild
ranked_with c far s = record { rank = rank_by c.order far s; id = s.id; kept = record { «record» = s; parents = far } }

-- the same, if it is taken
abbrev pub ranked_if : Choice → (far : List (Option Record)) → Record → Option RankedChild
ranked_if c far s = if takes c.check far s then Some (ranked_with c far s) else None

-- a child, if there is one
abbrev pub children_in : Option RankedChild → List RankedChild
children_in None = []
children_in (Some x) = x ∷ []

-- the child without its rank
abbrev pub kept_of : RankedChild → Child
kept_of x = x.kept

-- of some records those that are taken, as children, with their ranks
abbrev pub all_taken : Asked → Choice → List Record → List RankedChild
all_taken a c rs = map (λ s. ranked_with c (parents_by a c s) s) (filter (is_taken a c) rs)

-- so it is of whoever asks, where these are records of the tenant
abbrev pub OfRecords : List Layout → Whose → List Record → Tables → (Asked → Type 0) → Type 0
OfRecords layouts whose rs m P = OfAsked layouts whose m (λ a. ((r : Record) → Has rs r → Has a.tenant.records r) → P a)

-- those that are taken are found, and such are never damaged
abbrev pub FindsTaken : {A : Type 0} → List Layout → Whose → List Record → (Asked → List RankedChild) → Tables → Result (Vec RankedChild A) StoreFail → Type 0
FindsTaken layouts whose rs value m (Ok found) = OfRecords layouts whose rs m (λ a. found.items ≡ value a)
FindsTaken layouts whose rs value m (Err Damaged) = OfRecords layouts whose rs m (λ a. ⊥)
FindsTaken layouts whose rs value m (Err Keeper) = Unit {0}
FindsTaken layouts whose rs value m (Err Memory) = Unit {0}
