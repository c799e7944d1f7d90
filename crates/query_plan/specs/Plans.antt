-- What a plan means: the rows that it takes, their order, and their children.
use Rattle.std.specs.Prelude.{◌≡◌, ℕ, ◌+◌, ◌*◌, ◌≤◌, Bool, true, false, List, [], ◌∷◌, Option, bytes_eq, drop, filter, length, map}
use Rattle.std.specs.List.{sum_by}
use Rattle.std.specs.Option.{unwrap_or}
use Rattle.std.specs.declared.cmp.Ordering.{Ordering}
use Rattle.std.specs.Ordering.{ordering_then}
use Rattle.formula.specs.Meaning.{value_at}
use Rattle.base_value.specs.Values.{cmp, ref_of}
use Rattle.base_value.specs.declared.value.Value.{Value}
use Rattle.base_value.specs.declared.value.Value.TheVariants as value
use Rattle.soql.specs.declared.query.Item.{Item}
use Rattle.soql.specs.declared.query.Item.TheVariants as item
use Rattle.soql.specs.declared.query.Query.{Query}
use Rattle.soql.specs.declared.query.Tail.{Tail}
use Rattle.model.specs.declared.limit.Limit.TheVariants as limit
use Rattle.model.specs.declared.record.Record.{Record}
use Rattle.model.specs.Asking.{spelled_path}
use Rattle.model.specs.Cases.{in_case}
use Rattle.model.specs.Conditions.{satisfies}
use Rattle.model.specs.Limits.{limit_number}
use Rattle.model.specs.Membership.{Has}
use Rattle.model.specs.Objects.{records_of}
use Rattle.model.specs.Ordered.{before, by_id, in_order, nulls_cmp, turned}
use Rattle.model.specs.Paths.{Asked, path_value}
use Rattle.model.specs.Rows.{limited, readable_of}
use Rattle.model.specs.RowsJson.{field_name, object_name, row_json}
use Rattle.model.specs.Flat.{is_flat}
use Rattle.model.specs.Shown.{item_children_shown, query_steps, related_shown}
use Rattle.query_plan.specs.paths.Branches.{branch_records}
use Rattle.query_plan.specs.declared.plan.Child.{Child}
use Rattle.query_plan.specs.declared.plan.ChildPlan.{ChildPlan}
use Rattle.query_plan.specs.declared.plan.Choice.{Choice}
use Rattle.query_plan.specs.declared.plan.Member.{Member, Field, Parent', End}
use Rattle.query_plan.specs.declared.plan.Plan.{Plan}
use Rattle.query_plan.specs.declared.plan.Shown.{Shown}
use Rattle.query_plan.specs.declared.plan.Shown.TheVariants as shown
use Rattle.query_plan.specs.declared.plan.SortKey.{SortKey}
use Rattle.query_plan.specs.Checks.{spot_value, takes}
use Rattle.query_plan.specs.Shown.{Shows, ShowsJson, row_text}

-- ---- order

-- two values by one key: nulls by their place, whatever the direction, and values by its direction
abbrev pub values_by : SortKey → Value → Value → Ordering
values_by k a b = ordering_then (turned k.nulls_last (nulls_cmp a b)) (turned k.descending (cmp a b))

-- the records of the branches of a row's record
abbrev pub Far : Type 0
Far = Record → List (Option Record)

-- no branches
abbrev pub alone : Far
alone r = []

-- two records: the first key that decides, and else the ids
abbrev pub by_keys : List SortKey → Far → Record → Record → Ordering
by_keys [] far r s = by_id r s
by_keys (k ∷ ks) far r s = ordering_then (values_by k (spot_value (far r) r k.spot) (spot_value (far s) s k.spot)) (by_keys ks far r s)

-- ---- which records are rows, for who asks

-- the records of the branches
abbrev pub parents_by : Asked → Choice → Far
parents_by a c r = branch_records a r [] c.branches

-- the record is taken
abbrev pub is_taken : Asked → Choice → Record → Bool
is_taken a c r = takes c.check (parents_by a c r) r

-- of these records those that are taken, in their order, without the first few, and at most as many as it says
abbrev pub chosen_by : Asked → Choice → List Record → List Record
chosen_by a c rs = limited c.most (drop c.skip (in_order (by_keys c.order (parents_by a c)) (filter (is_taken a c) rs)))

-- of the records of the object with this number those are taken on which the condition holds, in the order of the keys
pub record Chooses (a : Asked) (n : ℕ) (tail : Tail) (offset : ℕ) (c : Choice) : Type 0 where
  pub rows : (r : Record) → Has (records_of a.tenant n) r → is_taken a c r ≡ satisfies a tail.condition r
  pub order :
      (r s : Record) → Has (records_of a.tenant n) r → Has (records_of a.tenant n) s → by_keys c.order (parents_by a c) r s ≡ before a tail.order r s
  pub skip : c.skip ≡ offset
  pub most : c.most ≡ tail.limit

-- ---- children

-- a record refers to this one by the field with this number: among its values the name is before the fields
abbrev pub refers_by : (field : ℕ) → (id : List ℕ) → Record → Bool
refers_by field id s = in_case (ref_of (value_at s.values (field + 1))) false (bytes_eq id)

-- those of a record that a subquery finds, each with the records of the subquery's branches
abbrev pub children_by : Asked → Record → ChildPlan → List Child
children_by a r p =
    map (λ s. record { «record» = s; parents = parents_by a p.choice s })
    (chosen_by a p.choice (filter (refers_by p.step.field r.id) (readable_of a p.step.object)))

-- ---- what is shown

-- a name as it is declared, and a value
pub record ShownValue : Type 0 where
  pub name : List ℕ
  pub value : Value

-- what a row of a record shows by a plan: of a parent, and of children, no value
abbrev pub member_value : (far : List (Option Record)) → Record → Member → ShownValue
member_value far r (Field name spot) = record { name = name; value = spot_value far r spot }
member_value far r (Parent' name branch object shape members) = record { name = name; value = value.Null }
member_value far r (End name branch) = record { name = name; value = value.Null }

abbrev pub shown_value : (far : List (Option Record)) → Record → Shown → ShownValue
shown_value far r (shown.Member m) = member_value far r m
shown_value far r (shown.Children name number object members) = record { name = name; value = value.Null }

-- the name under which a path is shown: that of its field, as it is declared, and of a path of several names the path as it is spelled
abbrev pub shown_name : Asked → Record → List (List ℕ) → List ℕ
shown_name a r (name ∷ []) = field_name a r name
shown_name a r [] = spelled_path []
shown_name a r (name ∷ next ∷ names) = spelled_path (name ∷ next ∷ names)

abbrev pub selected_names : Item → List (List ℕ)
selected_names (item.Path p) = p.names
selected_names (item.Child paths tail) = []

abbrev pub selected_value : Asked → Record → Item → ShownValue
selected_value a r x = record { name = shown_name a r (selected_names x); value = path_value a r (selected_names x) }

-- ---- plans

-- of the records of the object with this number the plan takes those that the query takes, in its order, and shows what it shows
pub record Means (a : Asked) (n : ℕ) (q : Query) (p : Plan) : Type 0 where
  pub chooses : Chooses a n q.tail (unwrap_or q.offset 0) p.choice
  pub shown :
      (shows : Shows) → ShowsJson a.tenant shows → (r : Record) → Has (records_of a.tenant n) r
      → row_text shows (object_name a r) p.shown (parents_by a p.choice r) (map (children_by a r) p.children) r ≡ row_json a r q.select
  pub flat : is_flat q ≡ true → (r : Record) → Has (records_of a.tenant n) r → map (shown_value [] r) p.shown ≡ map (selected_value a r) q.select

-- ---- how many data rows are shown

-- for the children of a record: each of an object's records may be one, with its parents
abbrev pub child_shown : ChildPlan → ℕ
child_shown p = limit_number limit.RecordsPerObject * related_shown (length p.choice.branches)

-- a plan has no more branches than the query has steps to parents, also in its child subqueries
pub record IsFew (q : Query) (p : Plan) : Type 0 where
  pub branches : length p.choice.branches ≤ query_steps q
  pub children : sum_by child_shown p.children ≤ sum_by item_children_shown q.select
