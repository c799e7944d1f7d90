-- The reply that has the rows of a plan.
use Rattle.std.specs.Prelude.{◌≡◌, ◌≢◌, ℕ, List, map, Result, Ok, Err}
use Rattle.store_kv.specs.Tables.{Tables}
use Rattle.store_rows.specs.declared.fail.StoreFail.{StoreFail}
use Rattle.store_rows.specs.declared.fail.StoreFail.TheVariants.{Damaged}
use Rattle.model.specs.Paths.{Asked}
use Rattle.model.specs.Replies.{json_reply, unless_too_large}
use Rattle.model.specs.RowsJson.{rows_json}
use Rattle.model.specs.declared.record.Record.{Record}
use Rattle.model.specs.declared.reply.Reply.{Reply}
use Rattle.query_plan.specs.Shown.{row_text}
use Rattle.query_plan.specs.declared.plan.Child.{Child}
use Rattle.query_plan.specs.declared.plan.Plan.{Plan}
use Rattle.query_plan.specs.declared.plan.Shown.{Shown}
use Rattle.query_exec.specs.Relatives.{by_relatives}
use Rattle.query_exec.specs.Written.{InTenants}
use Rattle.query_json.specs.row.Shows.{shows}
use Rattle.store_abstraction.specs.Plan.{OrgPlan}
use Rattle.store_abstraction.specs.declared.layout.Layout.{Layout}
use Rattle.query_json.specs.Planned.{Parents, choice_rows}

-- the children of a record that are found, as who asks may read them
abbrev pub Children : Type 0
Children = Asked → Record → List (List Child)

-- a row in JSON
abbrev pub row_json_by : Parents → Children → (object : List ℕ) → List Shown → Asked → Record → List ℕ
row_json_by parents children object shown = by_relatives parents children (row_text shows object shown)

-- the reply that has the rows of a plan
abbrev pub plan_reply : Parents → Children → Layout → Plan → Asked → Reply
plan_reply parents children l p a =
    unless_too_large (json_reply 200 (rows_json (map (row_json_by parents children l.name p.shown a) (choice_rows parents p.choice l.object a))))

-- it is this of whoever asks so, in a tenant for which the organisation's rows stand and whose layout it is
abbrev pub AnswersPlan : Layout → (who : OrgPlan → Asked → Type 0) → Parents → Children → Plan → Tables → Result Reply StoreFail → Type 0
AnswersPlan l who parents children p m (Ok r) = InTenants l who m (λ a. r ≡ plan_reply parents children l p a)
AnswersPlan l who parents children p m (Err e) = InTenants l who m (λ a. e ≢ Damaged)
