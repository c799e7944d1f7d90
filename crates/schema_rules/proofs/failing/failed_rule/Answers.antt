use Rattle.std.proofs.Common.{Bor, List, subst}
use Rattle.std.specs.Prelude.{Option}
use Rattle.std.specs.Option.{option_map}
use Rattle.store_kv.specs.Draft.{tables_of}
use Rattle.store_rows.specs.declared.validation.ValidationRow.{ValidationRow}
use Rattle.model.specs.declared.record.Record.{Record}
use Rattle.model.specs.Rules.{first_of}
use Rattle.schema_rules.specs.Objects.{object_of_layout}
use Rattle.schema_rules.specs.inner.Judged.{JudgesBy, row_fails}
use Rattle.schema_rules.proofs.Refusing.{failed_found, judged_calls}
use Rattle.schema_rules.proofs.failing.failed_rule.Goals as goal

pub returns-in-Ok-clause-finds : goal.returns-in-Ok-clause-finds
returns-in-Ok-clause-finds g c told = λ a.
    let m = tables_of g.K.Keeper.state c.args.draft.now in
    let l = c.args.layout.now in
    let new = c.args.new.now in
    let old : Option Record = option_map {T = Bor Record} {U = Record} (λ r. r.now) c.args.old in
    failed_found a l new old m c.in-Ok.rules c.judged_rows.result (c.in-Ok.ensures.finds told)
    (subst (λ (rows : List ValidationRow). JudgesBy l (first_of (row_fails (object_of_layout l) new.values (option_map (λ r. r.values) old)) rows) c.judged_rows.result) c.as_slice.ensures c.judged_rows.ensures)

pub returns-in-Ok-clause-calls : goal.returns-in-Ok-clause-calls
returns-in-Ok-clause-calls g c =
    judged_calls g.K.Keeper.state c.call_laws.ensures.weaker c.args.draft.now c.rules_of.new.draft c.args.layout.now _ c.judged_rows.result c.judged_rows.ensures c.in-Ok.ensures.calls
