use Rattle.std.proofs.Common.{◌∙◌, ℕ, ap, subst}
use Rattle.store_edit.proofs.Reading.{found_before}
use Rattle.store_kv.specs.Draft.{tables_of}
use Rattle.store_kv.specs.Tables.{Tables}
use Rattle.model.specs.Verdict.{on_object}
use Rattle.store_abstraction.specs.Calls.{ended_by}
use Rattle.store_abstraction.specs.declared.layout.Layout.{Layout}
use Rattle.store_abstraction.specs.Fails.{of_store}
use Rattle.store_abstraction.specs.Layouts.{own_object_row, own_rule_row}
use Rattle.store_abstraction.specs.Local.{FindsIn}
use Rattle.store_abstraction.specs.Metadata.{lower_bytes}
use Rattle.schema_edit.proofs.AccessEdits.{row_missed, row_read}
use Rattle.schema_edit.proofs.RuleReads.{layout_is, passed_calls, ruled_so, three_reads, unread}
use Rattle.schema_edit.proofs.edits.reading.read_object.Goals as goal

pub returns-in_err-row-clause-reads : goal.returns-in_err-row-clause-reads
returns-in_err-row-clause-reads g c told q t s =
    let state = g.K.Keeper.state in
    let org = c.args.org in
    let object = c.args.object.now in
    let l = c.in_ok-layout.layout in
    let calls = c.call_laws.ensures in
    let reads = three_reads state calls.told_first calls.told_then calls.tables c.args.draft.now c.layout_there.new.draft c.rule_row.new.draft c.object_there.new.draft
    c.layout_there.ensures.calls c.rule_row.ensures.calls c.object_there.ensures.calls told in
    let m = tables_of state c.args.draft.now in
    let is = layout_is org q t object c.layout_there.result l (c.layout_there.ensures.names reads.before.first q t s) c.in_ok-layout.was in
    let found = found_before state org (own_object_row org l.object) c.object_there.result reads.before (found_before state org (own_object_row org l.object) c.object_there.result reads.behind (c.object_there.ensures.finds reads.behind.then).0) in
    unread org t object c.args.name.now (of_store c.in_err-row.field-0.0) c.from_residual-in_err-row.result c.from_residual-in_err-row.ensures.1
    (λ verdict. row_missed org t object l.object m q s (is.0, is.1, ap (λ (l : Layout). l.object) is.2) (on_object t object verdict) c.object_there.result c.in_err-row.field-0.0 found c.in_err-row.was)

pub returns-in_err-row-clause-calls : goal.returns-in_err-row-clause-calls
returns-in_err-row-clause-calls g c =
    let then = c.call_laws.ensures.then in
    let e = c.in_err-row.field-0.0 in
    let last = then 0 0 (ended_by e) c.layout_there.new.draft c.rule_row.new.draft c.object_there.new.draft c.in_ok-rule_row.ensures.calls c.in_err-row.ensures.calls in
    passed_calls g.K.Keeper.state c.args.draft.now c.object_there.new.draft c.from_residual-in_err-row.result e c.from_residual-in_err-row.ensures.1
    (then 0 0 (ended_by e) c.args.draft.now c.layout_there.new.draft c.object_there.new.draft c.in_ok-layout.ensures.calls last)

pub returns-clause-own : goal.returns-clause-own
returns-clause-own g c told =
    let state = g.K.Keeper.state in
    let calls = c.call_laws.ensures in
    let reads = three_reads state calls.told_first calls.told_then calls.tables c.args.draft.now c.layout_there.new.draft c.rule_row.new.draft c.object_there.new.draft
    c.layout_there.ensures.calls c.rule_row.ensures.calls c.object_there.ensures.calls told in
    ap (λ (k : ℕ × ℕ). k.0) (c.in_ok-row.ensures.finds reads.behind.then).1

pub returns-clause-reads : goal.returns-clause-reads
returns-clause-reads g c told q t s =
    let state = g.K.Keeper.state in
    let org = c.args.org in
    let object = c.args.object.now in
    let l = c.in_ok-layout.layout in
    let calls = c.call_laws.ensures in
    let reads = three_reads state calls.told_first calls.told_then calls.tables c.args.draft.now c.layout_there.new.draft c.rule_row.new.draft c.object_there.new.draft
    c.layout_there.ensures.calls c.rule_row.ensures.calls c.object_there.ensures.calls told in
    let m = tables_of state c.args.draft.now in
    let is = layout_is org q t object c.layout_there.result l (c.layout_there.ensures.names reads.before.first q t s) c.in_ok-layout.was in
    let found = found_before state org (own_object_row org l.object) c.object_there.result reads.before (found_before state org (own_object_row org l.object) c.object_there.result reads.behind (c.object_there.ensures.finds reads.behind.then).0) in
    let has = row_read org t object l.object m q s (is.0, is.1, ap (λ (l : Layout). l.object) is.2) c.object_there.result c.in_ok-row.row found c.in_ok-row.was in
    let seen = subst (λ (m : Tables). FindsIn org (own_rule_row org l.object c.in_ok-lower_name.lower_name) m c.rule_row.result) reads.before.same (c.rule_row.ensures.finds reads.before.then) in
    record {
      numbered = is.0;
      there = is.1;
      ruled = ruled_so org q t object c.args.name.now is.0 l m c.in_ok-lower_name.lower_name c.rule_row.result c.in_ok-rule_row.field-0 c.is_some-has_rule.result c.in_ok-row.row
          is.1 is.2 (c.in_ok-lower_name.ensures.same ∙ ap lower_bytes c.as_str.ensures.characters) c.in_ok-lower_name.ensures.utf8 seen c.in_ok-rule_row.was c.is_some-has_rule.ensures has s;
      row = has;
    }
