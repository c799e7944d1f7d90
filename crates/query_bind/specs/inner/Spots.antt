-- Where the values of paths are, by the layouts of all objects.
use Rattle.std.specs.Prelude.{◌≡◌, ◌⊎◌, ℕ, true, List, [], ◌∷◌, ◌++◌, Option, Some, None}
use Rattle.model.specs.declared.record.Record.{Record}
use Rattle.model.specs.Asking.{literals_of, spelled_path, text_no_id}
use Rattle.model.specs.Cases.{in_case}
use Rattle.model.specs.Membership.{Has}
use Rattle.model.specs.Objects.{records_of}
use Rattle.model.specs.Paths.{Asked, path_value}
use Rattle.model.specs.Rules.{first_of}
use Rattle.model.specs.Sound.{IsSound}
use Rattle.model.specs.Tests.{Tested}
use Rattle.store_abstraction.specs.Layouts.{IsLayout, own_layouts}
use Rattle.store_abstraction.specs.Plan.{OrgPlan}
use Rattle.store_abstraction.specs.declared.layout.Layout.{Layout}
use Rattle.model.specs.Flat.{has_one_name}
use Rattle.query_plan.specs.paths.Branches.{branch_records}
use Rattle.query_plan.specs.declared.paths.branches.Branch.{Branch}
use Rattle.query_plan.specs.declared.check.Site.{Site}
use Rattle.query_plan.specs.declared.check.Site.TheVariants as site
use Rattle.query_check.specs.declared.columns.Column.{Column}
use Rattle.query_check.specs.declared.columns.Family.TheVariants as family
use Rattle.query_bind.specs.declared.spots.Bound.{Bound}
use Rattle.query_plan.specs.Checks.{spot_value}
use Rattle.query_plan.specs.Plans.{shown_name}
use Rattle.query_bind.specs.inner.Binding.{Fits}
use Rattle.query_check.specs.Columns.{column, name_at}
use Rattle.query_check.specs.Rules.{is_ids}
use Rattle.query_check.specs.Ways.{path_column_in}

-- who asks, and of which organisation with which tables the layouts are
pub record Setting : Type 0 where
  pub org : ℕ
  pub plan : OrgPlan
  pub asked : Asked

-- these layouts are those of all objects, or the path has one name
abbrev pub Serve : Setting → List Layout → List (List ℕ) → Type 0
Serve s ls names = (has_one_name names ≡ true) ⊎ (ls ≡ own_layouts s.org s.plan (Some s.asked.tenant))

-- the layout is that of an object of a sound tenant, and the record is one of the object's
pub record IsOf (s : Setting) (l : Layout) (r : Record) : Type 0 where
  pub laid : IsLayout s.plan s.asked.tenant l
  pub sound : IsSound s.asked.tenant
  pub has : Has (records_of s.asked.tenant l.object) r

abbrev pub far_of : Setting → Record → List Branch → List (Option Record)
far_of s r branches = branch_records s.asked r [] branches

abbrev pub bound_at : Option Column → Option ℕ → Bound
bound_at c branch =
    let d = in_case c (column family.Ids site.Id) (λ c. c) in record { family = d.family; spot = record { branch = branch; site = d.site } }

-- the name under which a path is shown, where its value is at this site
abbrev pub bound_name : Layout → List (List ℕ) → Site → List ℕ
bound_name l (name ∷ []) at = name_at l at
bound_name l [] at = spelled_path []
bound_name l (name ∷ next ∷ names) at = spelled_path (name ∷ next ∷ names)

-- a path's value is at the spot, whatever branches follow, and fits the field
pub record IsBound (s : Setting) (l : Layout) (branches : List Branch) (names : List (List ℕ)) (c : Column) (r : Record) (b : Bound) : Type 0 where
  pub family : b.family ≡ c.family
  pub value : (more : List Branch) → spot_value (far_of s r (branches ++ more)) r b.spot ≡ path_value s.asked r names
  pub fits : Fits c.family (path_value s.asked r names)
  pub declared : bound_name l names b.spot.site ≡ shown_name s.asked r names

-- a path that leads to a field is bound
abbrev pub Binds : List Layout → Layout → List Branch → List (List ℕ) → Bound → Type 0
Binds ls l branches names b =
    (s : Setting) (c : Column) (r : Record) → Serve s ls names → path_column_in ls l names ≡ Some c → IsOf s l r → IsBound s l branches names c r b

-- ---- tests that nothing refuses

pub record IsFree (s : Setting) (ls : List Layout) (l : Layout) (x : Tested) : Type 0 where
  pub column : Column
  pub serve : Serve s ls x.names
  pub there : path_column_in ls l x.names ≡ Some column
  pub ids : is_ids column.family ≡ true → first_of text_no_id (literals_of x.way) ≡ None
