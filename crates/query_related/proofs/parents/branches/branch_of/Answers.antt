use Rattle.std.proofs.Common.{ℕ, List, Option, refl, subst}
use Rattle.std.specs.Prelude.{Ok}
use Rattle.store_kv.specs.Draft.{tables_of}
use Rattle.query_related.proofs.Branching.{IsId, by_failure, by_layout, by_none, by_nothing}
use Rattle.query_related.proofs.parents.branches.branch_of.Goals as goal

pub returns-in-Some-clause-finds : goal.returns-in-Some-clause-finds
returns-in-Some-clause-finds g c told =
    let item = g.V.HasValues.its_record c.args.item.now in
    let m = tables_of g.K.Keeper.state c.args.draft.now in
    let layouts = c.args.layouts.now in
    let whose = g.R.Rights.whose c.args.rights.now in
    let before = c.args.before.now in
    let is = subst (λ (x : Option (List ℕ)). IsId layouts whose item m before c.args.branch (Ok x)) c.in-Ok-Some.field-0-is c.in-Ok-Some.ensures in
    by_layout layouts whose item m before c.args.branch c.in-Ok-Some.id is c.in-Some.layout.now c.in-Some.ensures.found c.readable_by_id.result (c.readable_by_id.ensures.finds told)

pub returns-in-None-clause-finds : goal.returns-in-None-clause-finds
returns-in-None-clause-finds g c told =
    let item = g.V.HasValues.its_record c.args.item.now in
    let m = tables_of g.K.Keeper.state c.args.draft.now in
    let layouts = c.args.layouts.now in
    let whose = g.R.Rights.whose c.args.rights.now in
    let before = c.args.before.now in
    let is = subst (λ (x : Option (List ℕ)). IsId layouts whose item m before c.args.branch (Ok x)) c.in-Ok-Some.field-0-is c.in-Ok-Some.ensures in
    by_none layouts whose item m before c.args.branch c.in-Ok-Some.id is (λ org q t all. (c.in-None.ensures.missing org q t all).0 refl)

pub returns-in-Ok-None-clause-finds : goal.returns-in-Ok-None-clause-finds
returns-in-Ok-None-clause-finds g c told =
    let item = g.V.HasValues.its_record c.args.item.now in
    let m = tables_of g.K.Keeper.state c.args.draft.now in
    let layouts = c.args.layouts.now in
    let whose = g.R.Rights.whose c.args.rights.now in
    let before = c.args.before.now in
    let is = subst (λ (x : Option (List ℕ)). IsId layouts whose item m before c.args.branch (Ok x)) c.in-Ok-None.field-0-is c.in-Ok-None.ensures in
    by_nothing layouts whose item m before c.args.branch is

pub returns-in-Err-clause-finds : goal.returns-in-Err-clause-finds
returns-in-Err-clause-finds g c told =
    by_failure c.args.layouts.now (g.R.Rights.whose c.args.rights.now) (g.V.HasValues.its_record c.args.item.now) (tables_of g.K.Keeper.state c.args.draft.now) c.args.before.now c.args.branch
    c.in-Err.fail c.in-Err.ensures c.from.result c.from.ensures
