use Rattle.std.proofs.Common.{◌≡◌, ◌∙◌, inl, true, false, [], ◌∷◌, refl, sym, ap, subst, arith}
use Rattle.commands.specs.Commands.{answers, csvq, demo, export, has_status, is_one_of, is_opening, load, may_write, never, once, org_add, prints, serves, user_set}
use Rattle.platform.specs.Promise.{Causes}
use Rattle.platform.specs.Seen.{Seen}
use Rattle.platform.proofs.Runs.{caused, is_72, is_73, is_74, is_75, keeper_caused, known_zero, not_own, of_none, of_words, quiet, status_of_none, status_of_words, true_isnt_false, unused_of_words, was_opening}
use Rattle.platform.proofs.OfOwn.{is_clocked, moments_at}
use Rattle.platform.proofs.OfCsvq as by_csvq
use Rattle.platform.proofs.OfDemo.{demo_promise}
use Rattle.platform.proofs.OfLoad as by_load
use Rattle.commands.specs.OrgAdd.{org_does}
use Rattle.commands.specs.UserSet.{user_set_does}
use Rattle.commands.specs.Export.{export_does}
use Rattle.commands.proofs.OfExport.{export_told}
use Rattle.platform.proofs.OfTables as by_tables
use Rattle.platform.proofs.OfServing.{serving_promise, unwritten}
use Rattle.platform.proofs.running.run.Goals as goal

-- ---- `csvq`

pub print_csvq-requires : goal.print_csvq-requires
print_csvq-requires g c = is_clocked c.now-now.result c.now-now.ensures.bound

pub returns-in-Csvq-clause-status : goal.returns-in-Csvq-clause-status
returns-in-Csvq-clause-status g c =
    let query = c.in-Csvq.query.now in
    status_of_words _ (prints (csvq query)) c.csvq_status.result c.in-Csvq.ensures
    (by_csvq.own query c.print_csvq.result c.csvq_status.result c.print_csvq.ensures.status c.csvq_status.ensures)

pub returns-in-Csvq-clause-promise : goal.returns-in-Csvq-clause-promise
returns-in-Csvq-clause-promise g c =
    let query = c.in-Csvq.query.now in
    let it = c.print_csvq.ensures in
    let status = c.csvq_status.result in
    let a : Seen = record { keeper = g.K.Keeper.state c.args.keeper.now; door = g.D.Door.held c.args.door.now; door_faults = g.D.Door.faults c.args.door.now; line_faults = g.D.Door.line_faults c.args.door.now; left = g.S.Source.left c.args.source.now; read_faults = g.S.Source.faults c.args.source.now; written = g.W.Sink.written c.args.sink.now; write_faults = g.W.Sink.faults c.args.sink.now; coming = g.C.Clock.coming c.args.clock.now } in
    let b : Seen = record { keeper = g.K.Keeper.state c.args.keeper.now; door = g.D.Door.held c.args.door.now; door_faults = g.D.Door.faults c.args.door.now; line_faults = g.D.Door.line_faults c.args.door.now; left = g.S.Source.left c.print_csvq.new.source; read_faults = g.S.Source.faults c.print_csvq.new.source; written = g.W.Sink.written c.print_csvq.new.sink; write_faults = g.W.Sink.faults c.print_csvq.new.sink; coming = g.C.Clock.coming c.now-now.new.self } in
    of_words _ (prints (csvq query)) a b status c.in-Csvq.ensures
    (by_csvq.csvq_promise query a b c.print_csvq.result status it.status c.csvq_status.ensures refl refl refl
    c.now-now.result c.now-now.ensures.first it.prints it.whole c.now-now.ensures.asked it.source_cause it.sink_cause)

pub returns-in-Csvq-clause-unused : goal.returns-in-Csvq-clause-unused
returns-in-Csvq-clause-unused g c =
    let query = c.in-Csvq.query.now in
    let it = c.print_csvq.ensures in
    let status = c.csvq_status.result in
    unused_of_words _ (prints (csvq query)) status c.in-Csvq.ensures (record {
      keeper_same = λ none. refl;
      door_same = λ none. refl;
      source_same = it.unread;
      sink_same = λ none. it.unwritten (sym (by_csvq.writes query c.print_csvq.result status it.status c.csvq_status.ensures) ∙ none);
      clock_same = λ none. absurd (true_isnt_false none);
    })

-- ---- `org-add`

pub returns-in-OrgAdd-clause-status : goal.returns-in-OrgAdd-clause-status
returns-in-OrgAdd-clause-status g c =
    let name = c.in-OrgAdd.name.now in
    let secret = c.in-OrgAdd.secret.now in
    status_of_words _ (prints (org_add name secret)) c.store_status.result c.in-OrgAdd.ensures
    (by_tables.own (org_add name secret) true never false refl c.print_tables.result c.store_status.result c.print_tables.ensures.status c.store_status.ensures)

pub returns-in-OrgAdd-clause-promise : goal.returns-in-OrgAdd-clause-promise
returns-in-OrgAdd-clause-promise g c =
    let name = c.in-OrgAdd.name.now in
    let secret = c.in-OrgAdd.secret.now in
    let r = c.print_tables.result in
    let it = c.print_tables.ensures in
    let status = c.store_status.result in
    let same = c.store_status.ensures in
    let a : Seen = record { keeper = g.K.Keeper.state c.args.keeper.now; door = g.D.Door.held c.args.door.now; door_faults = g.D.Door.faults c.args.door.now; line_faults = g.D.Door.line_faults c.args.door.now; left = g.S.Source.left c.args.source.now; read_faults = g.S.Source.faults c.args.source.now; written = g.W.Sink.written c.args.sink.now; write_faults = g.W.Sink.faults c.args.sink.now; coming = g.C.Clock.coming c.args.clock.now } in
    let b : Seen = record { keeper = g.K.Keeper.state c.print_tables.new.keeper; door = g.D.Door.held c.args.door.now; door_faults = g.D.Door.faults c.args.door.now; line_faults = g.D.Door.line_faults c.args.door.now; left = g.S.Source.left c.args.source.now; read_faults = g.S.Source.faults c.args.source.now; written = g.W.Sink.written c.print_tables.new.sink; write_faults = g.W.Sink.faults c.print_tables.new.sink; coming = g.C.Clock.coming c.args.clock.now } in
    of_words _ (prints (org_add name secret)) a b status c.in-OrgAdd.ensures
    (by_tables.table_promise (org_add name secret) true never false refl a b r status it.status same refl refl refl (org_does name secret) (g.met.K.Keeper.settled c.args.keeper.now) c.stands_laws.ensures.one_version
    (by_tables.table_causes (org_add name secret) true never false refl a b r status it.status same refl refl refl it.steps it.acknowledged it.keeper_cause it.sink_cause)
    [] (inl refl) (λ w bytes. refl) it.acknowledged (λ none. ap g.W.Sink.written (it.unwritten none)) tt it.prints it.keeps it.version it.kept it.refused it.crash)

pub returns-in-OrgAdd-clause-unused : goal.returns-in-OrgAdd-clause-unused
returns-in-OrgAdd-clause-unused g c =
    let name = c.in-OrgAdd.name.now in
    let secret = c.in-OrgAdd.secret.now in
    let it = c.print_tables.ensures in
    let status = c.store_status.result in
    unused_of_words _ (prints (org_add name secret)) status c.in-OrgAdd.ensures (record {
      keeper_same = λ none. absurd (true_isnt_false none);
      door_same = λ none. refl;
      source_same = λ none. refl;
      sink_same = λ none. it.unwritten (sym (by_tables.writes (org_add name secret) true never false refl c.print_tables.result status it.status c.store_status.ensures) ∙ none);
      clock_same = λ none. refl;
    })

-- ---- `user-set`

pub returns-in-UserSet-clause-status : goal.returns-in-UserSet-clause-status
returns-in-UserSet-clause-status g c =
    let org = c.in-UserSet.org.now in
    let user = c.in-UserSet.user.now in
    let secret = c.in-UserSet.secret.now in
    status_of_words _ (prints (user_set org user secret)) c.store_status-in-UserSet.result c.in-UserSet.ensures
    (by_tables.own (user_set org user secret) true never false refl c.print_tables-in-UserSet.result c.store_status-in-UserSet.result c.print_tables-in-UserSet.ensures.status c.store_status-in-UserSet.ensures)

pub returns-in-UserSet-clause-promise : goal.returns-in-UserSet-clause-promise
returns-in-UserSet-clause-promise g c =
    let org = c.in-UserSet.org.now in
    let user = c.in-UserSet.user.now in
    let secret = c.in-UserSet.secret.now in
    let r = c.print_tables-in-UserSet.result in
    let it = c.print_tables-in-UserSet.ensures in
    let status = c.store_status-in-UserSet.result in
    let same = c.store_status-in-UserSet.ensures in
    let a : Seen = record { keeper = g.K.Keeper.state c.args.keeper.now; door = g.D.Door.held c.args.door.now; door_faults = g.D.Door.faults c.args.door.now; line_faults = g.D.Door.line_faults c.args.door.now; left = g.S.Source.left c.args.source.now; read_faults = g.S.Source.faults c.args.source.now; written = g.W.Sink.written c.args.sink.now; write_faults = g.W.Sink.faults c.args.sink.now; coming = g.C.Clock.coming c.args.clock.now } in
    let b : Seen = record { keeper = g.K.Keeper.state c.print_tables-in-UserSet.new.keeper; door = g.D.Door.held c.args.door.now; door_faults = g.D.Door.faults c.args.door.now; line_faults = g.D.Door.line_faults c.args.door.now; left = g.S.Source.left c.args.source.now; read_faults = g.S.Source.faults c.args.source.now; written = g.W.Sink.written c.print_tables-in-UserSet.new.sink; write_faults = g.W.Sink.faults c.print_tables-in-UserSet.new.sink; coming = g.C.Clock.coming c.args.clock.now } in
    of_words _ (prints (user_set org user secret)) a b status c.in-UserSet.ensures
    (by_tables.table_promise (user_set org user secret) true never false refl a b r status it.status same refl refl refl (user_set_does org user secret) (g.met.K.Keeper.settled c.args.keeper.now) c.stands_laws.ensures.one_version
    (by_tables.table_causes (user_set org user secret) true never false refl a b r status it.status same refl refl refl it.steps it.acknowledged it.keeper_cause it.sink_cause)
    [] (inl refl) (λ w bytes. refl) it.acknowledged (λ none. ap g.W.Sink.written (it.unwritten none)) tt it.prints it.keeps it.version it.kept it.refused it.crash)

pub returns-in-UserSet-clause-unused : goal.returns-in-UserSet-clause-unused
returns-in-UserSet-clause-unused g c =
    let org = c.in-UserSet.org.now in
    let user = c.in-UserSet.user.now in
    let secret = c.in-UserSet.secret.now in
    let it = c.print_tables-in-UserSet.ensures in
    let status = c.store_status-in-UserSet.result in
    unused_of_words _ (prints (user_set org user secret)) status c.in-UserSet.ensures (record {
      keeper_same = λ none. absurd (true_isnt_false none);
      door_same = λ none. refl;
      source_same = λ none. refl;
      sink_same = λ none. it.unwritten (sym (by_tables.writes (user_set org user secret) true never false refl c.print_tables-in-UserSet.result status it.status c.store_status-in-UserSet.ensures) ∙ none);
      clock_same = λ none. refl;
    })

-- ---- `export`

pub invariant_of-work : goal.invariant_of-work
invariant_of-work g c = record { calendar = is_clocked c.now-now-in-Export.result c.now-now-in-Export.ensures.bound }

pub returns-in-Export-clause-status : goal.returns-in-Export-clause-status
returns-in-Export-clause-status g c =
    let org = c.in-Export.org.now in
    let user = c.in-Export.user.now in
    let secret = c.in-Export.secret.now in
    let query = c.in-Export.query.now in
    status_of_words _ (prints (export org user secret query)) c.store_status-in-Export.result c.in-Export.ensures
    (by_tables.own (export org user secret query) false once true refl c.print_tables-in-Export.result c.store_status-in-Export.result c.print_tables-in-Export.ensures.status c.store_status-in-Export.ensures)

pub returns-in-Export-clause-promise : goal.returns-in-Export-clause-promise
returns-in-Export-clause-promise g c =
    let org = c.in-Export.org.now in
    let user = c.in-Export.user.now in
    let secret = c.in-Export.secret.now in
    let query = c.in-Export.query.now in
    let p = export org user secret query in
    let now = c.now-now-in-Export.result in
    let r = c.print_tables-in-Export.result in
    let it = c.print_tables-in-Export.ensures in
    let status = c.store_status-in-Export.result in
    let same = c.store_status-in-Export.ensures in
    let a : Seen = record { keeper = g.K.Keeper.state c.args.keeper.now; door = g.D.Door.held c.args.door.now; door_faults = g.D.Door.faults c.args.door.now; line_faults = g.D.Door.line_faults c.args.door.now; left = g.S.Source.left c.args.source.now; read_faults = g.S.Source.faults c.args.source.now; written = g.W.Sink.written c.args.sink.now; write_faults = g.W.Sink.faults c.args.sink.now; coming = g.C.Clock.coming c.args.clock.now } in
    let b : Seen = record { keeper = g.K.Keeper.state c.print_tables-in-Export.new.keeper; door = g.D.Door.held c.args.door.now; door_faults = g.D.Door.faults c.args.door.now; line_faults = g.D.Door.line_faults c.args.door.now; left = g.S.Source.left c.args.source.now; read_faults = g.S.Source.faults c.args.source.now; written = g.W.Sink.written c.print_tables-in-Export.new.sink; write_faults = g.W.Sink.faults c.print_tables-in-Export.new.sink; coming = g.C.Clock.coming c.now-now-in-Export.new.self } in
    let at = moments_at (g.C.Clock.coming c.args.clock.now) now c.now-now-in-Export.ensures.first in
    of_words _ (prints p) a b status c.in-Export.ensures
    (by_tables.table_promise p false once true refl a b r status it.status same refl refl refl (export_does org user secret query now) (g.met.K.Keeper.settled c.args.keeper.now) c.stands_laws.ensures.one_version
    (by_tables.table_causes p false once true refl a b r status it.status same refl refl refl it.steps it.acknowledged it.keeper_cause it.sink_cause)
    at.moments at.are (λ w bytes. export_told org user secret query now w bytes at.moments at.first)
    it.acknowledged (λ none. ap g.W.Sink.written (it.unwritten none))
    c.now-now-in-Export.ensures.asked it.prints it.keeps it.version it.kept it.refused it.crash)

pub returns-in-Export-clause-unused : goal.returns-in-Export-clause-unused
returns-in-Export-clause-unused g c =
    let p = export c.in-Export.org.now c.in-Export.user.now c.in-Export.secret.now c.in-Export.query.now in
    let it = c.print_tables-in-Export.ensures in
    let status = c.store_status-in-Export.result in
    unused_of_words _ (prints p) status c.in-Export.ensures (record {
      keeper_same = λ none. absurd (true_isnt_false none);
      door_same = λ none. refl;
      source_same = λ none. refl;
      sink_same = λ none. it.unwritten (sym (by_tables.writes p false once true refl c.print_tables-in-Export.result status it.status c.store_status-in-Export.ensures) ∙ none);
      clock_same = λ none. absurd (true_isnt_false none);
    })

-- ---- `load`

pub returns-in-Load-clause-status : goal.returns-in-Load-clause-status
returns-in-Load-clause-status g c =
    let this = prints (load c.in-Load.org.now c.in-Load.user.now c.in-Load.secret.now c.in-Load.object.now) in
    status_of_words _ this c.status_of.result c.in-Load.ensures (subst (λ n. has_status this n ≡ true) (sym c.status_of.ensures) c.print_load.ensures.status)

pub returns-in-Load-clause-promise : goal.returns-in-Load-clause-promise
returns-in-Load-clause-promise g c =
    let org = c.in-Load.org.now in
    let user = c.in-Load.user.now in
    let secret = c.in-Load.secret.now in
    let object = c.in-Load.object.now in
    let r = c.print_load.result in
    let it = c.print_load.ensures in
    let status = c.status_of.result in
    let same = c.status_of.ensures in
    let a : Seen = record { keeper = g.K.Keeper.state c.args.keeper.now; door = g.D.Door.held c.args.door.now; door_faults = g.D.Door.faults c.args.door.now; line_faults = g.D.Door.line_faults c.args.door.now; left = g.S.Source.left c.args.source.now; read_faults = g.S.Source.faults c.args.source.now; written = g.W.Sink.written c.args.sink.now; write_faults = g.W.Sink.faults c.args.sink.now; coming = g.C.Clock.coming c.args.clock.now } in
    let b : Seen = record { keeper = g.K.Keeper.state c.print_load.new.keeper; door = g.D.Door.held c.args.door.now; door_faults = g.D.Door.faults c.args.door.now; line_faults = g.D.Door.line_faults c.args.door.now; left = g.S.Source.left c.print_load.new.source; read_faults = g.S.Source.faults c.print_load.new.source; written = g.W.Sink.written c.print_load.new.sink; write_faults = g.W.Sink.faults c.print_load.new.sink; coming = g.C.Clock.coming c.print_load.new.clock } in
    of_words _ (prints (load org user secret object)) a b status c.in-Load.ensures
    (by_load.load_promise org user secret object a b r status same it.known refl refl c.stands_laws.ensures.one_version
    (by_load.load_causes org user secret object a b r status same it.known refl refl it.status it.ends.steps it.acknowledged it.ends.cause it.sink_cause it.source_cause)
    it.prints it.falls it.version it.kept it.whole)

pub returns-in-Load-clause-unused : goal.returns-in-Load-clause-unused
returns-in-Load-clause-unused g c =
    let this = prints (load c.in-Load.org.now c.in-Load.user.now c.in-Load.secret.now c.in-Load.object.now) in
    let it = c.print_load.ensures in
    let status = c.status_of.result in
    let same = c.status_of.ensures in
    unused_of_words _ this status c.in-Load.ensures (record {
      keeper_same = λ none. absurd (true_isnt_false none);
      door_same = λ none. refl;
      source_same = λ none. (it.unopened (sym same ∙ by_load.is_77 status (was_opening (is_one_of status (77 ∷ [])) none))).0;
      sink_same = λ none. it.unwritten (subst (λ n. may_write this n ≡ false) same none);
      clock_same = λ none. (it.unopened (sym same ∙ by_load.is_77 status (was_opening (is_one_of status (77 ∷ [])) none))).1;
    })

-- ---- `demo`

pub print_demo-requires-clause-moment : goal.print_demo-requires-clause-moment
print_demo-requires-clause-moment g c = is_clocked c.now-now-in-Demo.result c.now-now-in-Demo.ensures.bound

pub returns-in-Demo-clause-status : goal.returns-in-Demo-clause-status
returns-in-Demo-clause-status g c =
    let this = prints (demo c.in-Demo.count) in
    status_of_words _ this c.status_of-in-Demo.result c.in-Demo.ensures.1 (subst (λ n. has_status this n ≡ true) (sym c.status_of-in-Demo.ensures) c.print_demo.ensures.status)

pub returns-in-Demo-clause-promise : goal.returns-in-Demo-clause-promise
returns-in-Demo-clause-promise g c =
    let count = c.in-Demo.count in
    let this = prints (demo count) in
    let it = c.print_demo.ensures in
    let status = c.status_of-in-Demo.result in
    let same = c.status_of-in-Demo.ensures in
    let a : Seen = record { keeper = g.K.Keeper.state c.args.keeper.now; door = g.D.Door.held c.args.door.now; door_faults = g.D.Door.faults c.args.door.now; line_faults = g.D.Door.line_faults c.args.door.now; left = g.S.Source.left c.args.source.now; read_faults = g.S.Source.faults c.args.source.now; written = g.W.Sink.written c.args.sink.now; write_faults = g.W.Sink.faults c.args.sink.now; coming = g.C.Clock.coming c.args.clock.now } in
    let b : Seen = record { keeper = g.K.Keeper.state c.args.keeper.now; door = g.D.Door.held c.args.door.now; door_faults = g.D.Door.faults c.args.door.now; line_faults = g.D.Door.line_faults c.args.door.now; left = g.S.Source.left c.args.source.now; read_faults = g.S.Source.faults c.args.source.now; written = g.W.Sink.written c.print_demo.new.sink; write_faults = g.W.Sink.faults c.print_demo.new.sink; coming = g.C.Clock.coming c.now-now-in-Demo.new.self } in
    of_words _ this a b status c.in-Demo.ensures.1
    (demo_promise count a b c.print_demo.result status it.known same (subst (λ n. has_status this n ≡ true) (sym same) it.status) refl refl refl refl
    c.now-now-in-Demo.result c.now-now-in-Demo.ensures.first it.prints c.now-now-in-Demo.ensures.asked it.cause)

pub returns-in-Demo-clause-unused : goal.returns-in-Demo-clause-unused
returns-in-Demo-clause-unused g c =
    let this = prints (demo c.in-Demo.count) in
    let status = c.status_of-in-Demo.result in
    unused_of_words _ this status c.in-Demo.ensures.1 (record {
      keeper_same = λ none. refl;
      door_same = λ none. refl;
      source_same = λ none. refl;
      sink_same = λ none. c.print_demo.ensures.unwritten (subst (λ n. may_write this n ≡ false) c.status_of-in-Demo.ensures none);
      clock_same = λ none. absurd (true_isnt_false none);
    })

-- ---- `answer`

pub returns-in-Answer-clause-status : goal.returns-in-Answer-clause-status
returns-in-Answer-clause-status g c =
    status_of_words _ answers c.status_of-in-Answer.result c.in-Answer.ensures (subst (λ n. has_status answers n ≡ true) (sym c.status_of-in-Answer.ensures) c.serve_answer.ensures.statuses)

pub returns-in-Answer-clause-promise : goal.returns-in-Answer-clause-promise
returns-in-Answer-clause-promise g c =
    let r = c.serve_answer.result in
    let it = c.serve_answer.ensures in
    let status = c.status_of-in-Answer.result in
    let same = c.status_of-in-Answer.ensures in
    let known = known_zero r it.status in
    let a : Seen = record { keeper = g.K.Keeper.state c.args.keeper.now; door = g.D.Door.held c.args.door.now; door_faults = g.D.Door.faults c.args.door.now; line_faults = g.D.Door.line_faults c.args.door.now; left = g.S.Source.left c.args.source.now; read_faults = g.S.Source.faults c.args.source.now; written = g.W.Sink.written c.args.sink.now; write_faults = g.W.Sink.faults c.args.sink.now; coming = g.C.Clock.coming c.args.clock.now } in
    let b : Seen = record { keeper = g.K.Keeper.state c.serve_answer.new.keeper; door = g.D.Door.held c.args.door.now; door_faults = g.D.Door.faults c.args.door.now; line_faults = g.D.Door.line_faults c.args.door.now; left = g.S.Source.left c.serve_answer.new.source; read_faults = g.S.Source.faults c.serve_answer.new.source; written = g.W.Sink.written c.serve_answer.new.sink; write_faults = g.W.Sink.faults c.serve_answer.new.sink; coming = g.C.Clock.coming c.serve_answer.new.clock } in
    let own = subst (λ n. has_status answers n ≡ true) (sym same) it.statuses in
    let causes : Causes answers a b status = record {
      steps = it.steps;
      lines = omega arith;
      keeper = keeper_caused a.keeper b.keeper it.keeper_cause (is_72 r status known same);
      sink = caused a.write_faults b.write_faults it.sink_cause (is_73 r status known same);
      source = caused a.read_faults b.read_faults it.source_cause (is_74 r status known same);
      door = quiet a.door_faults b.door_faults refl (not_own answers status 75 own refl);
      acknowledged = λ printing. absurd (true_isnt_false printing);
    } in
    of_words _ answers a b status c.in-Answer.ensures
    (serving_promise answers refl a b r status same it.status (g.met.K.Keeper.settled c.args.keeper.now) c.stands_laws.ensures.one_version c.stands_laws.ensures.known causes
    (λ told known sense w s. it.runs told known sense w s (g.D.Door.held c.args.door.now) (g.D.Door.faults c.args.door.now) (g.D.Door.line_faults c.args.door.now)) it.leads it.falls it.kept it.version)

pub returns-in-Answer-clause-unused : goal.returns-in-Answer-clause-unused
returns-in-Answer-clause-unused g c =
    let r = c.serve_answer.result in
    let it = c.serve_answer.ensures in
    let status = c.status_of-in-Answer.result in
    let same = c.status_of-in-Answer.ensures in
    let opening = λ (e : is_opening status ≡ true). subst (λ n. is_opening n ≡ true) same e in
    unused_of_words _ answers status c.in-Answer.ensures (record {
      keeper_same = λ none. absurd (true_isnt_false none);
      door_same = λ none. refl;
      source_same = λ none. (it.unserved (opening (was_opening (is_opening status) none))).0;
      sink_same = λ none. (it.unserved (unwritten r it.status it.statuses (subst (λ n. may_write answers n ≡ false) same none))).1;
      clock_same = λ none. (it.unserved (opening (was_opening (is_opening status) none))).2;
    })

-- ---- `serve`

pub returns-in-Serve-clause-status : goal.returns-in-Serve-clause-status
returns-in-Serve-clause-status g c =
    let this = serves c.in-Serve.count in
    status_of_words _ this c.status_of-in-Serve.result c.in-Serve.ensures.1 (subst (λ n. has_status this n ≡ true) (sym c.status_of-in-Serve.ensures) c.serve_door.ensures.statuses)

pub returns-in-Serve-clause-promise : goal.returns-in-Serve-clause-promise
returns-in-Serve-clause-promise g c =
    let this = serves c.in-Serve.count in
    let r = c.serve_door.result in
    let it = c.serve_door.ensures in
    let status = c.status_of-in-Serve.result in
    let same = c.status_of-in-Serve.ensures in
    let known = known_zero r it.status in
    let a : Seen = record { keeper = g.K.Keeper.state c.args.keeper.now; door = g.D.Door.held c.args.door.now; door_faults = g.D.Door.faults c.args.door.now; line_faults = g.D.Door.line_faults c.args.door.now; left = g.S.Source.left c.args.source.now; read_faults = g.S.Source.faults c.args.source.now; written = g.W.Sink.written c.args.sink.now; write_faults = g.W.Sink.faults c.args.sink.now; coming = g.C.Clock.coming c.args.clock.now } in
    let b : Seen = record { keeper = g.K.Keeper.state c.serve_door.new.keeper; door = g.D.Door.held c.serve_door.new.door; door_faults = g.D.Door.faults c.serve_door.new.door; line_faults = g.D.Door.line_faults c.serve_door.new.door; left = g.S.Source.left c.args.source.now; read_faults = g.S.Source.faults c.args.source.now; written = g.W.Sink.written c.args.sink.now; write_faults = g.W.Sink.faults c.args.sink.now; coming = g.C.Clock.coming c.serve_door.new.clock } in
    let own = subst (λ n. has_status this n ≡ true) (sym same) it.statuses in
    let causes : Causes this a b status = record {
      steps = it.steps;
      lines = it.line_faults;
      keeper = keeper_caused a.keeper b.keeper it.keeper_cause (is_72 r status known same);
      sink = quiet a.write_faults b.write_faults refl (not_own this status 73 own refl);
      source = quiet a.read_faults b.read_faults refl (not_own this status 74 own refl);
      door = caused a.door_faults b.door_faults it.door_cause (is_75 r status known same);
      acknowledged = λ printing. absurd (true_isnt_false printing);
    } in
    of_words _ this a b status c.in-Serve.ensures.1
    (serving_promise this refl a b r status same it.status (g.met.K.Keeper.settled c.args.keeper.now) c.stands_laws.ensures.one_version c.stands_laws.ensures.known causes
    (λ told known sense w s. it.runs told known sense w s (g.S.Source.left c.args.source.now) (g.W.Sink.written c.args.sink.now) (g.S.Source.faults c.args.source.now) (g.W.Sink.faults c.args.sink.now)) it.leads it.falls it.kept it.version)

pub returns-in-Serve-clause-unused : goal.returns-in-Serve-clause-unused
returns-in-Serve-clause-unused g c =
    let it = c.serve_door.ensures in
    let status = c.status_of-in-Serve.result in
    let opening = λ (e : is_opening status ≡ true). subst (λ n. is_opening n ≡ true) c.status_of-in-Serve.ensures e in
    unused_of_words _ (serves c.in-Serve.count) status c.in-Serve.ensures.1 (record {
      keeper_same = λ none. absurd (true_isnt_false none);
      door_same = λ none. (it.unserved (opening (was_opening (is_opening status) none))).0;
      source_same = λ none. refl;
      sink_same = λ none. refl;
      clock_same = λ none. (it.unserved (opening (was_opening (is_opening status) none))).1;
    })

-- ---- no command

pub returns-in-Other-clause-status : goal.returns-in-Other-clause-status
returns-in-Other-clause-status g c = status_of_none _ c.in-Other.ensures

pub returns-in-Other-clause-promise : goal.returns-in-Other-clause-promise
returns-in-Other-clause-promise g c =
    let a : Seen = record { keeper = g.K.Keeper.state c.args.keeper.now; door = g.D.Door.held c.args.door.now; door_faults = g.D.Door.faults c.args.door.now; line_faults = g.D.Door.line_faults c.args.door.now; left = g.S.Source.left c.args.source.now; read_faults = g.S.Source.faults c.args.source.now; written = g.W.Sink.written c.args.sink.now; write_faults = g.W.Sink.faults c.args.sink.now; coming = g.C.Clock.coming c.args.clock.now } in
    of_none a a _ 64 c.in-Other.ensures

pub returns-in-Other-clause-unused : goal.returns-in-Other-clause-unused
returns-in-Other-clause-unused g c = record { keeper_same = λ none. refl; door_same = λ none. refl; source_same = λ none. refl; sink_same = λ none. refl; clock_same = λ none. refl }
