-- A demo: an organisation of its own, with an object and so many records, and what its administrator sees while the type of a field
-- changes. Each request comes by its verdict, one after the other, and the first that is refused ends it.
-- Source: this product's own; the verdicts and the step are the model's.
use Rattle.std.specs.Prelude.{ℕ, zero, suc, ◌+◌, ◌*◌, ◌%◌, ◌==◌, ℤ, Bool, true, false, if◌then◌else◌}
use Rattle.std.specs.Prelude.{List, [], ◌∷◌, codes, drop, filter, length, Option, Some, None, Result, Ok, Err}
use Rattle.std.specs.Fmt.{decimal}
use Rattle.std.specs.Str.{chars}
use Rattle.base_json.specs.declared.tree.Json.TheVariants as json
use Rattle.soql.specs.declared.query.Query.{Query}
use Rattle.base_value.specs.declared.job.Outcome.{Outcome}
use Rattle.base_value.specs.declared.job.Outcome.TheVariants as outcome
use Rattle.base_value.specs.declared.sharing.Access.TheVariants as access
use Rattle.base_value.specs.declared.value.FieldType.TheVariants as type
use Rattle.query_csv.specs.Lines.{query_lines}
use Rattle.model.specs.declared.metadata_bodies.NewField.{NewField}
use Rattle.model.specs.declared.metadata_bodies.NewObject.{NewObject}
use Rattle.model.specs.declared.metadata_bodies.SpelledType.{SpelledType}
use Rattle.model.specs.declared.metadata_bodies.SpelledType.TheVariants.{Plain}
use Rattle.model.specs.declared.record_bodies.Assignment.{Assignment}
use Rattle.model.specs.declared.record_bodies.Given.TheVariants as gives
use Rattle.model.specs.declared.refusal.Refusal.{Refusal}
use Rattle.model.specs.Cases.{in_case}
use Rattle.model.specs.Creates.{create}
use Rattle.model.specs.Metadata.{add_object}
use Rattle.model.specs.NewFields.{add_field}
use Rattle.model.specs.Paths.{Asked}
use Rattle.model.specs.Retyping.{begin_retype, job_is_done}
use Rattle.model.specs.Tenant.{Tenant}
use Rattle.model.specs.Verdict.{Verdict}
use Rattle.cmd_sandbox.specs.Own.{asker, only_name, query_or_refusal, unless_refused}
use Rattle.model.specs.Asker.{stepped}
use Rattle.cmd_demo.specs.declared.repeats.Repeats.{Repeats}
use Rattle.cmd_demo.specs.declared.show.Demo.{Demo}

-- the most records of a demo
abbrev pub most_records : ℕ
most_records = 10000

-- ---- one request after the other

abbrev pub and_then : {X Y : Type 0} → Result X Refusal → (X → Result Y Refusal) → Result Y Refusal
and_then (Ok x) next = next x
and_then (Err why) next = Err why

-- who asks, in the organisation that a verdict leaves; or why it refuses
abbrev pub comes_to : Asked → Verdict → Result Asked Refusal
comes_to a v = unless_refused a v Err Ok

-- ---- the object, its field and its records

abbrev pub item_object : List ℕ
item_object = chars (codes "Item__c")

abbrev pub amount_field : List ℕ
amount_field = chars (codes "Amount__c")

abbrev pub new_item : NewObject
new_item = record { members = only_name; name = item_object; access = access.Private; hierarchy = true; master = None }

-- a text of at most 20 characters
abbrev pub new_amount : NewField
new_amount =
    record {
      members = only_name;
      object = item_object;
      name = amount_field;
      kind = Plain (type.Text 20);
      required = false;
      unique = false;
      indexed = false;
    }

-- the amount of the record with this number
abbrev pub item_amount : (number : ℕ) → ℕ
item_amount number = (37 * (number * number) + 11 * number) % 1000

-- what is given to it: its amount as a text
abbrev pub given_amount : (number : ℕ) → List Assignment
given_amount number = record { field = amount_field; given = gives.Json (json.Text (chars (decimal (item_amount number)))) } ∷ []

-- records with the numbers from 1 to this one
unfoldable pub with_items : (count : ℕ) → Asked → Result Asked Refusal
with_items zero a = Ok a
with_items (suc count) a = and_then (with_items count a) (λ b. comes_to b (create b item_object (given_amount (suc count))))

-- a new organisation with all of them, at this moment
abbrev pub with_object : Asked → Result Asked Refusal
with_object a = and_then (comes_to a (add_object a.tenant new_item)) (λ b. comes_to b (add_field b.tenant new_amount))

abbrev pub with_all : (count : ℕ) → (now : ℤ) → Result Asked Refusal
with_all count now = and_then (with_object (asker now)) (with_items count)

-- ---- what is asked

-- the first amount in order
abbrev pub first_query : List ℕ
first_query = codes "SELECT Amount__c FROM Item__c ORDER BY Amount__c LIMIT 1"

-- the amounts above 500
abbrev pub above_query : List ℕ
above_query = codes "SELECT Amount__c FROM Item__c WHERE Amount__c > 500"

abbrev pub lines_read : Asked → Result Query Refusal → Result (List ℕ) Refusal
lines_read a q = and_then q (query_lines a)

-- the lines of what the query of a text finds
abbrev pub answer_to_text : (text : List ℕ) → Asked → Result (List ℕ) Refusal
answer_to_text text a = lines_read a (query_or_refusal text)

-- the lines behind that of the names, which is `Amount__c` and its end
abbrev pub behind_names : (lines : List ℕ) → List ℕ
behind_names lines = drop 10 lines

abbrev pub line_or_none : List ℕ → List ℕ
line_or_none [] = codes "none\n"
line_or_none (c ∷ cs) = c ∷ cs

-- the line behind it, or `none`
abbrev pub amount_line : (lines : List ℕ) → List ℕ
amount_line lines = line_or_none (behind_names lines)

abbrev pub is_line_end : ℕ → Bool
is_line_end c = c == 10

-- how many lines are behind it
abbrev pub rows_in : (lines : List ℕ) → ℕ
rows_in lines = length (filter is_line_end (behind_names lines))

-- ---- the change of the type

-- a number of at most 6 digits, none of them behind the point
abbrev pub whole_number : SpelledType
whole_number = Plain (type.Number 6 0)

abbrev pub is_switch : Outcome → Bool
is_switch outcome.Switched = true
is_switch _ = false

-- the field has the new type
abbrev pub has_switched : Tenant → Bool
has_switched t = in_case t.job false (λ j. is_switch j.outcome)

-- no change is under way
abbrev pub is_settled : Tenant → Bool
is_settled t = in_case t.job true (λ j. job_is_done j.phase)

-- the change begins, once the first amount was asked for: who asks then, and the line of that amount
abbrev pub begun : (count : ℕ) → (now : ℤ) → Result (Asked × List ℕ) Refusal
begun count now =
    and_then (with_all count now) (λ a. and_then (answer_to_text first_query a) (λ lines.
    and_then (comes_to a (begin_retype a.tenant item_object amount_field whole_number)) (λ b. Ok (b, amount_line lines))))

-- ---- repeats

-- before the first
abbrev pub no_repeats : Repeats
no_repeats = record { count = 0; switched = None; least = [] }

-- the number of the first repeat after which the field has the new type
abbrev pub switched_by : Option ℕ → (number : ℕ) → Tenant → Option ℕ
switched_by (Some first) number t = Some first
switched_by None number t = if has_switched t then Some number else None

-- one more: the query, behind a step of the change
abbrev pub next_repeat : Asked → Repeats → Result (Asked × Repeats) Refusal
next_repeat a x =
    and_then (answer_to_text first_query (stepped a)) (λ lines.
    Ok (
      stepped a,
      record {
        count = suc x.count;
        switched = switched_by x.switched (suc x.count) (stepped a).tenant;
        least = amount_line lines;
      },
    ))

-- repeated until no change is under way, but at most so often
unfoldable pub repeats_from : (most : ℕ) → Asked → Result (Asked × Repeats) Refusal
repeats_from zero a = Ok (a, no_repeats)
repeats_from (suc most) a =
    and_then (repeats_from most a) (λ x. if is_settled x.0.tenant then Ok x else next_repeat x.0 x.1)

-- a change of as many records as an organisation has at most is done long before
abbrev pub most_repeats : ℕ
most_repeats = 1000

-- ---- all of it

-- what is seen from the beginning of the change on, with the number of amounts above 500 at the end
abbrev pub watched : Asked → Result (Repeats × ℕ) Refusal
watched a =
    and_then (repeats_from most_repeats a) (λ x. and_then (answer_to_text above_query (stepped x.0)) (λ lines.
    Ok (x.1, rows_in lines)))

-- a demo of so many records, at this moment
abbrev pub demo_outcome : (count : ℕ) → (now : ℤ) → Result Demo Refusal
demo_outcome count now =
    and_then (begun count now) (λ x. and_then (watched x.0) (λ y.
    Ok (record { first = x.1; switched = y.0.switched; repeats = y.0.count; least = y.0.least; above = y.1 })))
