-- Why a query is refused, by the layouts of all objects and that of its own.
use Rattle.std.specs.Prelude.{ℕ, Bool, true, false, not, if◌then◌else◌, List, [], ◌∷◌, ◌++◌, Option, Some, None, is_none}
use Rattle.std.specs.List.{list_any}
use Rattle.soql.specs.declared.query.Item.{Item}
use Rattle.soql.specs.declared.query.Item.TheVariants as item
use Rattle.soql.specs.declared.query.OrderKey.{OrderKey}
use Rattle.soql.specs.declared.query.Path.{Path}
use Rattle.soql.specs.declared.query.Query.{Query}
use Rattle.soql.specs.declared.query.Tail.{Tail}
use Rattle.model.specs.declared.refusal.Refusal.TheVariants.{InvalidField, InvalidFilter}
use Rattle.model.specs.Asking.{item_name, literals_of, spelled_path, text_no_id}
use Rattle.model.specs.Cases.{in_case}
use Rattle.model.specs.Fields.{same_name}
use Rattle.model.specs.Rules as model
use Rattle.model.specs.Rules.{first_of, first_refusal, refuse_if}
use Rattle.model.specs.Tests.{Suits, Tested, Way, among, by, by_pattern, day_or_null, ids_suit, moment_or_null, number_or_null, suits, tests, text_or_null, truth_or_null, way_suits}
use Rattle.store_abstraction.specs.declared.layout.Layout.{Layout}
use Rattle.query_check.specs.declared.columns.Family.{Family}
use Rattle.query_check.specs.declared.columns.Family.TheVariants as family
use Rattle.query_check.specs.declared.rules.Rule.{Rule}
use Rattle.query_check.specs.declared.rules.Rule.TheVariants as rule
use Rattle.query_check.specs.declared.suits.Way as held
use Rattle.query_check.specs.declared.suits.Way.TheVariants as ways
use Rattle.query_check.specs.Ways.{child_layout, path_column_in}

-- ---- tests

abbrev pub way_of : held.Way → Way
way_of (ways.By o l) = by o l.now
way_of ways.Pattern = by_pattern
way_of (ways.Among literals) = among literals.now

abbrev pub tested : Path → Way → Tested
tested path way = record { names = path.names; way = way }

-- ---- what suits

abbrev pub suits_in : Family → Suits
suits_in family.Text = suits text_or_null true true true
suits_in family.Picklist = suits text_or_null true false true
suits_in family.Number = suits number_or_null true false true
suits_in family.Day = suits day_or_null true false true
suits_in family.Moment = suits moment_or_null true false true
suits_in family.Truth = suits truth_or_null false false false
suits_in family.Ids = ids_suit

abbrev pub is_ids : Family → Bool
is_ids family.Ids = true
is_ids _ = false

-- ---- paths of one name

abbrev pub own_name : List (List ℕ) → Option (List ℕ)
own_name (name ∷ []) = Some name
own_name _ = None

-- ---- rules of tests

abbrev pub no_field : List Layout → Layout → List (List ℕ) → model.Rule
no_field ls l names = refuse_if (is_none (path_column_in ls l names)) (InvalidField (spelled_path names))

abbrev pub no_suit : Family → List (List ℕ) → Way → model.Rule
no_suit f names way = refuse_if (not (way_suits (suits_in f) way)) (InvalidFilter (spelled_path names))

abbrev pub no_id : Family → Way → model.Rule
no_id f way = if is_ids f then first_of text_no_id (literals_of way) else None

abbrev pub rule_in : List Layout → Layout → Rule → Tested → model.Rule
rule_in ls l rule.Name x = no_field ls l x.names
rule_in ls l rule.Suits x = in_case (path_column_in ls l x.names) None (λ c. no_suit c.family x.names x.way)
rule_in ls l rule.Id x = in_case (path_column_in ls l x.names) None (λ c. no_id c.family x.way)

-- ---- rules of what is selected and ordered by

-- what is selected before has this name
abbrev pub mentioned_in : (before : List (List ℕ)) → List ℕ → model.Rule
mentioned_in before name = refuse_if (list_any (λ x. same_name x name) before) (InvalidField name)

abbrev pub path_rule : List Layout → Layout → (before : List (List ℕ)) → Path → model.Rule
path_rule ls l before p = first_refusal (no_field ls l p.names ∷ mentioned_in before (spelled_path p.names) ∷ [])

-- one rule for each of these in turn, beside the names of those before
unfoldable pub each_rule : {X : Type 0} → (X → List ℕ) → (List (List ℕ) → X → model.Rule) → (before : List (List ℕ)) → List X → model.Rule
each_rule name rule before [] = None
each_rule name rule before (x ∷ xs) = first_refusal (rule before x ∷ each_rule name rule (before ++ name x ∷ []) xs ∷ [])

abbrev pub path_name : Path → List ℕ
path_name p = spelled_path p.names

abbrev pub paths_rule : List Layout → Layout → (before : List (List ℕ)) → List Path → model.Rule
paths_rule ls l before paths = each_rule path_name (path_rule ls l) before paths

abbrev pub key_rule : List Layout → Layout → OrderKey → model.Rule
key_rule ls l k = no_field ls l k.path.names

abbrev pub tail_rule : List Layout → Layout → Tail → model.Rule
tail_rule ls l tail = first_refusal (first_of (rule_in ls l rule.Name) (tests tail.condition) ∷ first_of (key_rule ls l) tail.order ∷ [])

-- of a child subquery, by the layout of its object
abbrev pub child_rule : List Layout → Layout → (before : List (List ℕ)) → List Path → Tail → model.Rule
child_rule ls l before paths tail =
    first_refusal (paths_rule ls l [] paths ∷ mentioned_in before tail.from ∷ tail_rule ls l tail ∷ [])

abbrev pub item_rule : List Layout → Layout → (before : List (List ℕ)) → Item → model.Rule
item_rule ls l before (item.Path p) = path_rule ls l before p
item_rule ls l before (item.Child paths tail) =
    in_case (child_layout ls l tail.from) (Some (InvalidField tail.from)) (λ c. child_rule ls c before paths tail)

abbrev pub items_rule : List Layout → Layout → (before : List (List ℕ)) → List Item → model.Rule
items_rule ls l before items = each_rule item_name (item_rule ls l) before items

-- ---- a query

abbrev pub names_rule : List Layout → Layout → Query → model.Rule
names_rule ls l q = first_refusal (items_rule ls l [] q.select ∷ tail_rule ls l q.tail ∷ [])

-- the tests of a child subquery
abbrev pub child_tests_rule : List Layout → Layout → Rule → Item → model.Rule
child_tests_rule ls l r (item.Path p) = None
child_tests_rule ls l r (item.Child paths tail) =
    in_case (child_layout ls l tail.from) None (λ c. first_of (rule_in ls c r) (tests tail.condition))

abbrev pub all_tests_rule : List Layout → Layout → Rule → Query → model.Rule
all_tests_rule ls l r q =
    first_refusal (first_of (child_tests_rule ls l r) q.select ∷ first_of (rule_in ls l r) (tests q.tail.condition) ∷ [])

abbrev pub query_rule : List Layout → Layout → Query → model.Rule
query_rule ls l q =
    first_refusal (names_rule ls l q ∷ all_tests_rule ls l rule.Suits q ∷ all_tests_rule ls l rule.Id q ∷ [])
