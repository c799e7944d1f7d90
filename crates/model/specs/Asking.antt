-- Why a query is refused: names that aren't there, operators and literals that don't suit, texts that aren't ids.
-- Source: Salesforce, "SOQL and SOSL Reference", "Relationship Queries", of paths and subqueries. What is refused, and in which order,
-- is this product's own.
use Rattle.std.specs.Prelude.{ℕ, not, if◌then◌else◌, List, [], ◌∷◌, ◌++◌, map, codes, Option, Some, None, is_none}
use Rattle.std.specs.List.{flat_map, list_any}
use Rattle.std.specs.Option.{option_and_then}
use Rattle.soql.specs.declared.query.Item.{Item}
use Rattle.soql.specs.declared.query.Item.TheVariants as item
use Rattle.soql.specs.declared.query.Literal.{Literal}
use Rattle.soql.specs.declared.query.Literal.TheVariants as literal
use Rattle.soql.specs.declared.query.Path.{Path}
use Rattle.soql.specs.declared.query.Query.{Query}
use Rattle.soql.specs.declared.query.Tail.{Tail}
use Rattle.model.specs.declared.refusal.Refusal.TheVariants.{InvalidField, InvalidFilter}
use Rattle.model.specs.Cases.{in_case, with_before}
use Rattle.model.specs.Fields.{Column, column_named, same_name}
use Rattle.model.specs.Objects.{object_numbered}
use Rattle.model.specs.Paths.{Asked}
use Rattle.model.specs.Principals.{bad_id}
use Rattle.model.specs.Relationships.{child_named, parent_named}
use Rattle.model.specs.Rules.{Rule, refuse_if, first_refusal, first_of}
use Rattle.model.specs.Tenant.{Tenant}
use Rattle.model.specs.Tests.{Tested, Way, among, by, by_pattern, holds_ids, suits_of, tests, way_suits}
use Rattle.model.specs.Verdict.{Verdict, accept, judged, on_object, rows_of}

-- ---- paths

-- the field to which a path leads from the object with this number
abbrev pub path_column : Tenant → ℕ → List (List ℕ) → Option Column
path_column t n [] = None
path_column t n (name ∷ []) = option_and_then (λ o. column_named o name) (object_numbered t n)
path_column t n (name ∷ next ∷ names) = in_case (parent_named t n name) None (λ f. path_column t f.target (next ∷ names))

-- a path as it is spelled
abbrev pub spelled_path : List (List ℕ) → List ℕ
spelled_path [] = []
spelled_path (name ∷ []) = name
spelled_path (name ∷ next ∷ names) = name ++ codes "." ++ spelled_path (next ∷ names)

-- ---- INVALID_FIELD: the first name that isn't there, or the second mention of what is selected

-- a path that leads to no field
abbrev pub unknown_path : Tenant → ℕ → List (List ℕ) → Rule
unknown_path t n names = refuse_if (is_none (path_column t n names)) (InvalidField (spelled_path names))

-- what is selected, as it is spelled: a path, or a child relationship
abbrev pub item_name : Item → List ℕ
item_name (item.Path p) = spelled_path p.names
item_name (item.Child paths tail) = tail.from

-- this was selected before
abbrev pub mentioned : (before : List Item) → (name : List ℕ) → Rule
mentioned before name = refuse_if (list_any (λ x. same_name (item_name x) name) before) (InvalidField name)

-- a path that is selected
abbrev pub bad_path : Tenant → ℕ → (before : List Item) → Path → Rule
bad_path t n before p = first_refusal (unknown_path t n p.names ∷ mentioned before (spelled_path p.names) ∷ [])

-- the paths of a condition and of an order, which may be mentioned again
abbrev pub bad_tail : Tenant → ℕ → Tail → Rule
bad_tail t n tail =
    first_refusal
    (first_of (λ x. unknown_path t n x.names) (tests tail.condition) ∷ first_of (λ k. unknown_path t n k.path.names) tail.order ∷ [])

-- a child subquery: of a relationship that isn't there nothing else is judged; else its paths come before its name in the text
abbrev pub bad_child : Tenant → ℕ → (before : List Item) → List Path → Tail → Rule
bad_child t n before paths tail =
    in_case (child_named t n tail.from) (Some (InvalidField tail.from)) (λ f.
    first_refusal
    (first_of (λ x. bad_path t f.object (map item.Path x.before) x.it) (with_before [] paths)
    ∷ mentioned before tail.from
    ∷ bad_tail t f.object tail
    ∷ []))

abbrev pub bad_item : Tenant → ℕ → (before : List Item) → Item → Rule
bad_item t n before (item.Path p) = bad_path t n before p
bad_item t n before (item.Child paths tail) = bad_child t n before paths tail

abbrev pub bad_names : Tenant → ℕ → Query → Rule
bad_names t n q = first_refusal (first_of (λ x. bad_item t n x.before x.it) (with_before [] q.select) ∷ bad_tail t n q.tail ∷ [])

-- ---- the tests of a query, each with the number of the object on which it is made

-- those of a child subquery
abbrev pub child_tests : Tenant → ℕ → Item → List (ℕ × Tested)
child_tests t n (item.Path p) = []
child_tests t n (item.Child paths tail) = in_case (child_named t n tail.from) [] (λ f. map (λ x. (f.object, x)) (tests tail.condition))

-- in the order of the text
abbrev pub all_tests : Tenant → ℕ → Query → List (ℕ × Tested)
all_tests t n q = flat_map (child_tests t n) q.select ++ map (λ x. (n, x)) (tests q.tail.condition)

-- INVALID_QUERY_FILTER_OPERATOR: the operator or a literal doesn't suit
abbrev pub bad_test : Tenant → ℕ × Tested → Rule
bad_test t x =
    in_case (path_column t x.0 x.1.names) None (λ c.
    refuse_if (not (way_suits (suits_of c.content) x.1.way)) (InvalidFilter (spelled_path x.1.names)))

-- the literals of a test
abbrev pub literals_of : Way → List Literal
literals_of (by o l) = l ∷ []
literals_of by_pattern = []
literals_of (among literals) = literals

-- MALFORMED_ID: a text that isn't one
abbrev pub text_no_id : Literal → Rule
text_no_id (literal.Text text) = bad_id text
text_no_id _ = None

-- the first text compared with an id that isn't one
abbrev pub test_no_id : Tenant → ℕ × Tested → Rule
test_no_id t x =
    in_case (path_column t x.0 x.1.names) None (λ c. if holds_ids c.content then first_of text_no_id (literals_of x.1.way) else None)

-- ---- a query, which changes nothing: each rule is judged over its whole text before the next

abbrev pub query_rules : Tenant → ℕ → Query → List Rule
query_rules t n q = bad_names t n q ∷ first_of (bad_test t) (all_tests t n q) ∷ first_of (test_no_id t) (all_tests t n q) ∷ []

abbrev pub ask : Asked → Query → Verdict
ask a q = on_object a.tenant q.tail.from (λ o. judged a.tenant (query_rules a.tenant o.number q) (accept (rows_of q) a.tenant))
