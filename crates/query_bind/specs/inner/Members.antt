-- What is shown of records by paths.
use Rattle.std.specs.Prelude.{◌≡◌, ℕ, Bool, List, [], ◌∷◌, ◌++◌, map, Option, Some, is_some}
use Rattle.std.specs.List.{AllByRecursion, flat_map}
use Rattle.soql.specs.declared.query.Item.TheVariants as item
use Rattle.soql.specs.declared.query.Path.{Path}
use Rattle.model.specs.declared.record.Record.{Record}
use Rattle.model.specs.Cases.{in_case, with_before}
use Rattle.model.specs.RowsJson.{behind_relationship, item_member, member_json, parent_json, parent_relationship, row_within}
use Rattle.store_abstraction.specs.Layouts.{own_layouts}
use Rattle.store_abstraction.specs.declared.layout.Layout.{Layout}
use Rattle.query_plan.specs.paths.Branches.{record_above}
use Rattle.query_plan.specs.declared.paths.branches.Branch.{Branch}
use Rattle.query_plan.specs.declared.paths.branches.Place.{Place}
use Rattle.query_plan.specs.declared.check.Site.TheVariants as site
use Rattle.query_check.specs.declared.columns.Column.{Column}
use Rattle.query_plan.specs.declared.plan.Member.{Member}
use Rattle.query_plan.specs.declared.plan.Member.TheVariants as member
use Rattle.query_plan.specs.Shown.{Shows, ShowsJson, member_text}
use Rattle.query_check.specs.Columns.{column_in, name_at}
use Rattle.query_bind.specs.inner.Spots.{IsOf, Serve, Setting, far_of}
use Rattle.query_check.specs.Ways.{path_column_in}

-- ---- names

-- the path goes on behind the relationship with this name
abbrev pub goes_behind : List ℕ → Path → Bool
goes_behind name p = is_some (behind_relationship name (item.Path p))

-- ---- members

-- a field by its name; where there is none, the id
abbrev pub field_member : Layout → (branch : Option ℕ) → List ℕ → Member
field_member l branch name =
    in_case (column_in l name) (member.Field name (record { branch = branch; site = site.Id })) (λ c.
    member.Field (name_at l c.site) (record { branch = branch; site = c.site }))

-- the text of a member, if there is one
abbrev pub texts_of : Shows → (far : List (Option Record)) → Record → Option Member → List (List ℕ)
texts_of shows far r m = in_case m [] (λ m. member_text shows far r m ∷ [])

-- by the layouts the path leads to a field, from an object with this layout
pub record IsLed (s : Setting) (ls : List Layout) (l : Layout) (path : Path) : Type 0 where
  pub serve : Serve s ls path.names
  pub column : Column
  pub there : path_column_in ls l path.names ≡ Some column

-- a record of the object with this layout, in a sound tenant; each of the paths leads to a field; values are shown as they are in JSON
pub record Sees (s : Setting) (shows : Shows) (ls : List Layout) (l : Layout) (paths : List Path) (p : Record) : Type 0 where
  pub own : IsOf s l p
  pub json : ShowsJson s.asked.tenant shows
  pub led : AllByRecursion (IsLed s ls l) paths

-- whatever branches follow, the place's record of a row's record r is p
abbrev pub IsAt : Setting → Record → (from : Place) → List Branch → Record → Type 0
IsAt s r from bs p = record_above r (far_of s r bs) from.branch ≡ Some p

-- where the place's record is p, the texts are those that the definition has of p: of the parent by a relationship with which a path begins
abbrev pub ShowsParent : List Layout → (from : Place) → (depth : ℕ) → (name : List ℕ) → (all : List Path) → List Branch → Option Member → Type 0
ShowsParent ls from depth name all bs m =
    (s : Setting) (shows : Shows) (r p : Record) → Sees s shows ls from.layout.now all p
    → ls ≡ own_layouts s.org s.plan (Some s.asked.tenant)
    → (next : List ℕ) (names : List (List ℕ)) (c : Column) → path_column_in ls from.layout.now (name ∷ next ∷ names) ≡ Some c
    → (more : List Branch) → IsAt s r from (bs ++ more) p
    → texts_of shows (far_of s r (bs ++ more)) r m
    ≡ member_json (parent_relationship s.asked p name) (parent_json (row_within depth s.asked) s.asked p (map item.Path all) name) ∷ []

-- of one of some paths
abbrev pub ShowsPath : List Layout → (from : Place) → (depth : ℕ) → Path → (before all : List Path) → List Branch → Option Member → Type 0
ShowsPath ls from depth path before all bs m =
    (s : Setting) (shows : Shows) (r p : Record) → Sees s shows ls from.layout.now all p → IsLed s ls from.layout.now path
    → (more : List Branch) → IsAt s r from (bs ++ more) p
    → texts_of shows (far_of s r (bs ++ more)) r m
    ≡ item_member (row_within depth s.asked) s.asked p (map item.Path all) (map item.Path before) (item.Path path)

-- of all of them
abbrev pub ShowsPaths : List Layout → (from : Place) → (depth : ℕ) → (paths : List Path) → List Branch → List Member → Type 0
ShowsPaths ls from depth paths bs ms =
    (s : Setting) (shows : Shows) (r p : Record) → Sees s shows ls from.layout.now paths p
    → (more : List Branch) → IsAt s r from (bs ++ more) p
    → map (member_text shows (far_of s r (bs ++ more)) r) ms
    ≡ flat_map (λ x. item_member (row_within depth s.asked) s.asked p (map item.Path paths) x.before x.it) (with_before [] (map item.Path paths))
