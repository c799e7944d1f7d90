use Rattle.std.proofs.Common.{◌∙◌, Some, arith, subst, sym}
use Rattle.store_kv.specs.Tables.{Tables}
use Rattle.store_abstraction.specs.Local.{StandsIn}
use Rattle.record_delete.proofs.Adding.{adds_then, adds_wider, on_done}
use Rattle.record_delete.proofs.CountRows.{objects_stopped, objects_then}
use Rattle.record_delete.proofs.counts.+count_objects.Goals as goal

pub returns-in_err-count_object-clause-adds : goal.returns-in_err-count_object-clause-adds
returns-in_err-count_object-clause-adds g measure c told q t os s are objects =
    let l = c.in-Some.layout.now in
    let ls = c.in-Some.rest.now in
    objects_stopped c.args.org q t c.args.ids.now l ls os (are ∙ c.in-Some.ensures.cases.0) objects c.count_object.result c.in_err-count_object.field-0.0 c.from_residual.result c.args.changes.now.items c.count_object.new.changes.items
    c.in_err-count_object.was c.from_residual.ensures.1 (λ o there. c.count_object.ensures.adds told q t o s there)

pub returns-clause-adds : goal.returns-clause-adds
returns-clause-adds g measure c told q t os s are objects =
    let a = c.args.draft.now in
    let b = c.count_object.new.draft in
    let d = c.count_objects.new.draft in
    let tell = c.draft_laws.ensures.both 0 0 a b d c.count_object.ensures.calls.reads c.count_objects.ensures.calls.reads told in
    let stands = subst (λ (m : Tables). StandsIn c.args.org q m (Some t)) (sym tell.2) s in
    let l = c.in-Some.layout.now in
    let ls = c.in-Some.rest.now in
    objects_then c.args.org q t c.args.ids.now l ls os (are ∙ c.in-Some.ensures.cases.0) objects c.count_object.result c.count_objects.result c.args.changes.now.items c.count_object.new.changes.items c.count_objects.new.changes.items
    c.in_ok-count_object.field-0 c.in_ok-count_object.was (λ o there. c.count_object.ensures.adds tell.0 q t o s there) (λ os same of. c.count_objects.ensures.adds tell.1 q t os stands same of)

pub returns-clause-own : goal.returns-clause-own
returns-clause-own g measure c =
    let first = c.in_ok-count_object.ensures.own in
    let old = c.args.changes.now.items in
    let mid = c.count_object.new.changes.items in
    let new = c.count_objects.new.changes.items in
    let many = c.in-Some.ensures.cases.1 in
    on_done _ _ c.count_objects.result c.count_objects.ensures.own (λ rest.
    adds_wider c.args.org _ _ _ _ old new (omega (arith, many)) (omega arith) (adds_then c.args.org 1 0 _ 0 old mid new first rest))
