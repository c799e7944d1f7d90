use Rattle.std.proofs.Common.{◌∷◌, ◌∙◌, List, [], Some, ap, arith, subst, sym}
use Rattle.store_kv.specs.Tables.{Tables}
use Rattle.store_abstraction.specs.Changes.{Change}
use Rattle.store_abstraction.specs.Local.{StandsIn}
use Rattle.record_delete.specs.Deleting.{shares_ended}
use Rattle.record_delete.specs.inner.Adding.{AddsThese}
use Rattle.record_delete.proofs.Adding.{adds_then, adds_wider, on_done, these_then}
use Rattle.record_delete.proofs.CountRows.{stopped}
use Rattle.record_delete.proofs.EndedRows.{ended_both}
use Rattle.record_delete.proofs.ending.+end_shares.Goals as goal

pub returns-in_err-end_shares_of-clause-adds : goal.returns-in_err-end_shares_of-clause-adds
returns-in_err-end_shares_of-clause-adds g measure c told q t s =
    stopped (shares_ended c.args.org t (c.in-Some.id.now ∷ [])) (shares_ended c.args.org t c.args.ids.now) c.args.changes.now.items c.end_shares_of.new.changes.items c.end_shares_of.result c.in_err-end_shares_of.field-0.0 c.from_residual.result
    (c.end_shares_of.ensures.adds told q t s) c.in_err-end_shares_of.was c.from_residual.ensures.1

pub returns-clause-adds : goal.returns-clause-adds
returns-clause-adds g measure c told q t s =
    let a = c.args.draft.now in
    let b = c.end_shares_of.new.draft in
    let d = c.end_shares.new.draft in
    let org = c.args.org in
    let id = c.in-Some.id.now in
    let ids = c.in-Some.rest.now in
    let old = c.args.changes.now.items in
    let mid = c.end_shares_of.new.changes.items in
    let new = c.end_shares.new.changes.items in
    let tell = c.draft_laws.ensures.both 0 0 a b d c.end_shares_of.ensures.calls.reads c.end_shares.ensures.calls.reads told in
    let stands = subst (λ (m : Tables). StandsIn org q m (Some t)) (sym tell.2) s in
    let first = subst (AddsThese (shares_ended org t (id ∷ [])) old mid) c.in_ok-end_shares_of.was (c.end_shares_of.ensures.adds tell.0 q t s) in
    subst (λ (cs : List Change). AddsThese cs old new c.end_shares.result) (sym (ap (shares_ended org t) c.in-Some.ensures.cases.0 ∙ ended_both org t id ids))
    (these_then (shares_ended org t (id ∷ [])) (shares_ended org t ids) old mid new c.end_shares.result first (c.end_shares.ensures.adds tell.1 q t stands))

pub returns-clause-own : goal.returns-clause-own
returns-clause-own g measure c =
    let first = c.in_ok-end_shares_of.ensures.own in
    let old = c.args.changes.now.items in
    let mid = c.end_shares_of.new.changes.items in
    let new = c.end_shares.new.changes.items in
    let many = c.in-Some.ensures.cases.1 in
    on_done _ _ c.end_shares.result c.end_shares.ensures.own (λ rest.
    adds_wider c.args.org _ _ _ _ old new (omega (arith, many)) (omega arith) (adds_then c.args.org 100 0 _ 0 old mid new first rest))
