use Rattle.std.proofs.Common.{◌∙◌, None, Option, refl, subst, sym}
use Rattle.query_plan.specs.declared.paths.branches.Place.{Place}
use Rattle.query_plan.specs.declared.plan.Member.{Member}
use Rattle.query_bind.specs.inner.Members.{ShowsPath}
use Rattle.query_bind.proofs.Picked.{path_adds, path_adds_nothing}
use Rattle.query_bind.proofs.selecting.bind_path_item.Goals as goal

pub returns-in_ok-push-in-Some-clause-adds : goal.returns-in_ok-push-in-Some-clause-adds
returns-in_ok-push-in-Some-clause-adds c =
    let ls = c.args.layouts.now in
    let path = c.args.path.now in
    let before = c.args.before.now in
    let all = c.args.all.now in
    let bs = c.bind_member.new.branches.items in
    let from : Place = record { branch = None; layout = c.args.layout } in
    path_adds ls from refl path before all bs c.args.shown.now.items c.push.new.self.items c.in-Some.member
    (subst (λ (m : Option Member). ShowsPath ls from 6 path before all bs m) c.in-Some.is c.in_ok-member.ensures.shows)
    (λ name one. sym c.in-Some.is ∙ c.in_ok-member.ensures.own name one)
    c.in_ok-push-in-Some.ensures.items

pub returns-in-None-clause-adds : goal.returns-in-None-clause-adds
returns-in-None-clause-adds c =
    let ls = c.args.layouts.now in
    let path = c.args.path.now in
    let before = c.args.before.now in
    let all = c.args.all.now in
    let bs = c.bind_member.new.branches.items in
    let from : Place = record { branch = None; layout = c.args.layout } in
    path_adds_nothing ls from refl path before all bs c.args.shown.now.items c.args.shown.now.items
    (subst (λ (m : Option Member). ShowsPath ls from 6 path before all bs m) c.in-None.is c.in_ok-member.ensures.shows)
    (λ name one. sym c.in-None.is ∙ c.in_ok-member.ensures.own name one)
    refl
