use Rattle.store_edit.proofs.Reading.{two_reads}
use Rattle.std.proofs.Common.{Some, ap, arith, length, subst, sym}
use Rattle.store_kv.specs.Draft.{tables_of}
use Rattle.store_kv.specs.Tables.{Tables}
use Rattle.retype_request.proofs.Verdicts.{begins_not, chosen_not, chosen_so, named_so, unnamed}
use Rattle.retype_request.proofs.judging.choose.Goals as goal
use Rattle.store_abstraction.specs.Local.{StandsIn}

pub returns-in_err-layout-clause-begins : goal.returns-in_err-layout-clause-begins
returns-in_err-layout-clause-begins g c told q t s =
    let org = c.args.org in
    let object = c.args.object.now in
    let field = c.args.field.now in
    let to = c.args.to.now in
    let e = c.in_err-layout.field-0.0 in
    begins_not org q t object field to e c.from_residual.result c.from_residual.ensures.1 (unnamed org q t object field to c.layout_there.result e (c.layout_there.ensures.names told q t s) c.in_err-layout.was)

pub returns-in_err-field-clause-begins : goal.returns-in_err-field-clause-begins
returns-in_err-field-clause-begins g c told q t s =
    let state = g.K.Keeper.state in
    let org = c.args.org in
    let object = c.args.object.now in
    let field = c.args.field.now in
    let to = c.args.to.now in
    let l = c.in_ok-layout.layout in
    let e = c.in_err-field.field-0.0 in
    let calls = c.call_laws.ensures in
    let reads = two_reads state calls.told_first calls.told_then calls.tables c.args.draft.now c.layout_there.new.draft c.judge_field.new.draft c.layout_there.ensures.calls c.judge_field.ensures.calls told in
    let after = tables_of state c.layout_there.new.draft in
    let stands = subst (λ (m : Tables). StandsIn org q m (Some t)) (sym reads.same) s in
    let named = named_so org q after t object c.layout_there.result l (c.layout_there.ensures.names reads.first q t s) c.in_ok-layout.was stands in
    begins_not org q t object field to e c.from_residual-in_err-field.result c.from_residual-in_err-field.ensures.1
    (chosen_not org q after t object field to l named e (c.in_err-field.ensures.passes reads.then q t named.stands named.layout))

pub returns-clause-begins : goal.returns-clause-begins
returns-clause-begins g c told q t s =
    let state = g.K.Keeper.state in
    let org = c.args.org in
    let object = c.args.object.now in
    let field = c.args.field.now in
    let to = c.args.to.now in
    let l = c.in_ok-layout.layout in
    let calls = c.call_laws.ensures in
    let reads = two_reads state calls.told_first calls.told_then calls.tables c.args.draft.now c.layout_there.new.draft c.judge_field.new.draft c.layout_there.ensures.calls c.judge_field.ensures.calls told in
    let after = tables_of state c.layout_there.new.draft in
    let stands = subst (λ (m : Tables). StandsIn org q m (Some t)) (sym reads.same) s in
    let named = named_so org q after t object c.layout_there.result l (c.layout_there.ensures.names reads.first q t s) c.in_ok-layout.was stands in
    let passes = c.in_ok-field.ensures.passes reads.then q t named.stands named.layout in
    chosen_so org q after t object field to l named c.in_ok-field.field passes.0 passes.1

-- there are no more fields than an object can have
pub returns-then-as_slice-gt-MOST_FIELDS-clause-begins : goal.returns-then-as_slice-gt-MOST_FIELDS-clause-begins
returns-then-as_slice-gt-MOST_FIELDS-clause-begins g c told q t s e =
    let org = c.args.org in
    let l = c.in_ok-layout.layout in
    let m = tables_of g.K.Keeper.state c.args.draft.now in
    let named = named_so org q m t c.args.object.now c.layout_there.result l (c.layout_there.ensures.names told q t s) c.in_ok-layout.was s in
    omega (arith, named.few, ap length c.as_slice.ensures, c.if-as_slice-gt-MOST_FIELDS.true)
