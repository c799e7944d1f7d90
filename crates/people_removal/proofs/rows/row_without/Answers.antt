use Rattle.std.proofs.Common.{◌∙◌, Bool, Some, ap, not, subst, sym}
use Rattle.store_kv.specs.Draft.{tables_of}
use Rattle.store_kv.specs.Tables.{Tables}
use Rattle.model.specs.declared.refusal.Refusal.TheVariants.{NotFound}
use Rattle.model.specs.Rules.{refuse_if}
use Rattle.store_abstraction.specs.Local.{StandsIn}
use Rattle.store_edit.proofs.Reading.{two_reads}
use Rattle.people_removal.proofs.Going.{is_here, row_is}
use Rattle.people_removal.proofs.rows.row_without.Goals as goal

pub returns-clause-passes : goal.returns-clause-passes
returns-clause-passes g c told q t s =
    let state = g.K.Keeper.state in
    let org = c.args.org in
    let n = c.args.named.now in
    let calls = c.call_laws.ensures in
    let a = c.args.draft.now in
    let reads = two_reads state calls.told_first calls.told_then calls.tables a c.is_here.new.draft c.row_with_less.new.draft c.in_ok-is_here.ensures.calls c.row_with_less.ensures.calls told in
    let here = is_here org q t (tables_of state a) n c.is_here.result c.in_ok-is_here.field-0 (c.is_here.ensures.finds reads.first) c.in_ok-is_here.was s in
    let there = here ∙ ap not c.if-not-branch.false in
    let stands = subst (λ (m : Tables). StandsIn org q m (Some t)) (sym reads.same) s in (
      ap (λ (b : Bool). refuse_if b NotFound) there,
      row_is org q t (tables_of state c.is_here.new.draft) n c.row_with_less.result c.in_ok-row_with_less.field-0 (c.row_with_less.ensures.finds reads.then) c.in_ok-row_with_less.was stands there,
    )
