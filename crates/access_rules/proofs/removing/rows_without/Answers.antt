use Rattle.std.proofs.Common.{◌∙◌, ap, not, subst}
use Rattle.store_edit.proofs.Reading.{two_reads}
use Rattle.store_kv.specs.Draft.{tables_of}
use Rattle.store_kv.specs.Tables.{Tables}
use Rattle.store_abstraction.specs.Layouts.{own_row}
use Rattle.store_abstraction.specs.Local.{FindsThere}
use Rattle.access_rules.proofs.RuleGone.{absent, found_is, its_rule, one_rule_less, present, row_is}
use Rattle.access_rules.proofs.removing.rows_without.Goals as goal

pub returns-then-is_none-clause-passes : goal.returns-then-is_none-clause-passes
returns-then-is_none-clause-passes g c told q t s =
    let org = c.args.org in
    let name = c.args.name.now in
    let found = c.in_ok-rule_at.field-0 in
    let is = found_is org q t (tables_of g.K.Keeper.state c.args.draft.now) name c.in_ok-key.key c.rule_at.result found c.in_ok-key.ensures.same (c.rule_at.ensures.finds told) c.in_ok-rule_at.was s in
    absent c.sharing_laws.ensures.found org t name c.in_ok-key.ensures.utf8 found is (c.is_none.ensures ∙ ap not c.if-is_none.true)

pub returns-clause-passes : goal.returns-clause-passes
returns-clause-passes g c told q t s =
    let state = g.K.Keeper.state in
    let org = c.args.org in
    let name = c.args.name.now in
    let found = c.in_ok-rule_at.field-0 in
    let calls = c.call_laws.ensures in
    let reads = two_reads state calls.told_first calls.told_then calls.tables c.args.draft.now c.rule_at.new.draft c.org_there.new.draft c.rule_at.ensures.calls c.org_there.ensures.calls told in
    let m = tables_of state c.args.draft.now in
    let is = found_is org q t m name c.in_ok-key.key c.rule_at.result found c.in_ok-key.ensures.same (c.rule_at.ensures.finds reads.first) c.in_ok-rule_at.was s in
    let one = c.is_none.ensures ∙ ap not c.if-is_none.false in
    let its = its_rule c.sharing_laws.ensures.found org t name c.in_ok-key.ensures.utf8 found is one in
    let read = subst (λ (m : Tables). FindsThere org (own_row org) m c.org_there.result) reads.same (c.org_there.ensures.finds reads.then).0 in (
      present c.sharing_laws.ensures.found org t name c.in_ok-key.ensures.utf8 found is one,
      one_rule_less c.sharing_laws.ensures.less org t name its.0 c.in_ok-row.row c.in-Some.sharing_rules s.sound c.in_ok-key.ensures.utf8 its.1 (row_is org q t m c.org_there.result c.in_ok-row.row read c.in_ok-row.was s) c.in-Some.ensures.1,
    )
