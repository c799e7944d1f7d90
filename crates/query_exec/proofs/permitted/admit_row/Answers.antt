use Rattle.std.proofs.Common.{◌+◌, ℕ, Bool, List, Option, subst}
use Rattle.std.specs.Prelude.{Ok}
use Rattle.store_kv.specs.Draft.{tables_of}
use Rattle.store_abstraction.specs.Calls.{done, ended}
use Rattle.model.specs.declared.record.Record.{Record}
use Rattle.access_traits.specs.Rights.{TellsReadable, kept_record}
use Rattle.query_exec.specs.Relatives.{FindsOfSeen}
use Rattle.query_exec.specs.inner.Judging.{judged}
use Rattle.query_exec.proofs.Permitting.{admitted_so, put_not_fallen, unkept, unreadable}
use Rattle.query_exec.proofs.permitted.admit_row.Goals as goal

pub returns-in-Some-clause-admits : goal.returns-in-Some-clause-admits
returns-in-Some-clause-admits g c told =
    let l = c.args.layout.now in
    let relatives = c.args.relatives.now in
    let sees = g.S.Sight.sees c.args.sight.now l in
    let whose = g.L.Relatives.whose relatives in
    let parents = g.L.Relatives.parents relatives in
    let keep = g.P.Keeps.keep c.args.keeps.now in
    let ranked = g.R.Ranks.ranked c.args.ranks.now in
    let m = tables_of g.K.Keeper.state c.args.draft.now in
    let old = c.args.kept.now.items in
    let tell = c.draft_laws.ensures.both _ _ c.args.draft.now c.may_read.new.draft c.judge_row.new.draft c.in_ok-may_read.ensures.calls.reads c.judge_row.ensures.calls.reads told in
    let tells = subst (λ (b : Bool). TellsReadable l sees c.args.row m (Ok b)) c.if-branch.true (c.in_ok-may_read.ensures.tells tell.0) in
    let finds = subst (λ (found : Option (g.row.R-Rank.Denot × (List ℕ × List (Option Record)))). FindsOfSeen l whose (kept_record l c.args.row) (judged keep ranked parents) (tables_of g.K.Keeper.state c.may_read.new.draft) (Ok found))
    c.in-Some.is (c.in_ok-found.ensures.finds tell.1) in
    admitted_so l sees whose parents keep ranked m c.args.row tells (tables_of g.K.Keeper.state c.may_read.new.draft) tell.2 old c.put_behind.new.kept.items c.in-Some.found finds
    c.put_behind.result c.put_behind.ensures.puts

pub returns-in-Some-clause-calls : goal.returns-in-Some-clause-calls
returns-in-Some-clause-calls g c =
    let both = g.S.Sight.shown + g.L.Relatives.parents_shown c.args.relatives.now in
    c.call_laws.ensures.weaker both (ended c.put_behind.result) c.args.draft.now c.judge_row.new.draft
    (put_not_fallen c.args.row c.in-Some.found c.args.kept.now.items c.put_behind.new.kept.items c.put_behind.result c.put_behind.ensures.puts)
    (c.call_laws.ensures.then g.S.Sight.shown (g.L.Relatives.parents_shown c.args.relatives.now) done c.args.draft.now c.may_read.new.draft c.judge_row.new.draft
    c.in_ok-may_read.ensures.calls c.in_ok-found.ensures.calls)

pub returns-in-None-clause-admits : goal.returns-in-None-clause-admits
returns-in-None-clause-admits g c told =
    let l = c.args.layout.now in
    let relatives = c.args.relatives.now in
    let sees = g.S.Sight.sees c.args.sight.now l in
    let whose = g.L.Relatives.whose relatives in
    let parents = g.L.Relatives.parents relatives in
    let keep = g.P.Keeps.keep c.args.keeps.now in
    let ranked = g.R.Ranks.ranked c.args.ranks.now in
    let m = tables_of g.K.Keeper.state c.args.draft.now in
    let old = c.args.kept.now.items in
    let tell = c.draft_laws.ensures.both _ _ c.args.draft.now c.may_read.new.draft c.judge_row.new.draft c.in_ok-may_read.ensures.calls.reads c.judge_row.ensures.calls.reads told in
    let tells = subst (λ (b : Bool). TellsReadable l sees c.args.row m (Ok b)) c.if-branch.true (c.in_ok-may_read.ensures.tells tell.0) in
    let finds = subst (λ (found : Option (g.row.R-Rank.Denot × (List ℕ × List (Option Record)))). FindsOfSeen l whose (kept_record l c.args.row) (judged keep ranked parents) (tables_of g.K.Keeper.state c.may_read.new.draft) (Ok found))
    c.in-None.is (c.in_ok-found.ensures.finds tell.1) in
    unkept l sees whose parents keep ranked m c.args.row tells (tables_of g.K.Keeper.state c.may_read.new.draft) tell.2 old finds

pub returns-else-branch-clause-admits : goal.returns-else-branch-clause-admits
returns-else-branch-clause-admits g c told =
    let l = c.args.layout.now in
    let relatives = c.args.relatives.now in
    let sees = g.S.Sight.sees c.args.sight.now l in
    let whose = g.L.Relatives.whose relatives in
    let parents = g.L.Relatives.parents relatives in
    let keep = g.P.Keeps.keep c.args.keeps.now in
    let ranked = g.R.Ranks.ranked c.args.ranks.now in
    let m = tables_of g.K.Keeper.state c.args.draft.now in
    let old = c.args.kept.now.items in
    unreadable l sees whose parents keep ranked m c.args.row old c.in_ok-may_read.field-0 (c.in_ok-may_read.ensures.tells told) c.if-branch.false
