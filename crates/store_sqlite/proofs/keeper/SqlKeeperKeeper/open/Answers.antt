use Rattle.std.proofs.Common.{◌≡◌, Some, None, rules, ap, ◌∙◌}
use Rattle.store_kv.specs.State.{KeeperState, Steps, Tells, Shows, LeavesNoMore}
use Rattle.store_sqlite.specs.declared.connected.Connected.{Connected}
use Rattle.store_sqlite.specs.declared.fault.Refusals.{Refusals}
use Rattle.store_sqlite.specs.Kept.{keeper_state}
use Rattle.store_sqlite.proofs.Begun.{of_some, of_none, start_steps, start_same, start_crash}
use Rattle.store_sqlite.proofs.keeper.SqlKeeperKeeper.open.Goals as goal

pub returns-in-Some-clause-crash : goal.returns-in-Some-clause-crash
returns-in-Some-clause-crash g c =
    let shows = λ (k : Connected g.row.O-Base.Denot). keeper_state g.O.Base.Store k.conn k.refusals.count k.shown k.written in
    let is : c.args.self.now.connected ≡ Some c.in-Some.connected = search rules in
    of_some shows (g.O.Opener.tells c.args.self.now.opener) c.args.self.now.refusals.count c.args.self.now.connected
    (λ (s : KeeperState). s.tells → LeavesNoMore s (shows c.open.new.self)) c.in-Some.connected is c.open.ensures.crash

pub returns-in-Ok-clause-same : goal.returns-in-Ok-clause-same
returns-in-Ok-clause-same g c =
    let shows = λ (k : Connected g.row.O-Base.Denot). keeper_state g.O.Base.Store k.conn k.refusals.count k.shown k.written in
    let none : c.args.self.now.connected ≡ None = search rules in
    let b = c.resume-connected.result in
    of_none shows (g.O.Opener.tells c.args.self.now.opener) c.args.self.now.refusals.count c.args.self.now.connected
    (λ (s : KeeperState). Tells s (shows c.open-opened.new.self) → Shows (shows c.open-opened.new.self) s.tables) none
    (start_same g.O.Base.Store g.met.O.Base.Store.shut_if_dirty g.met.O.Base.Store.settled g.met.O.Base.Store.stays (g.O.Opener.tells c.args.self.now.opener) c.args.self.now.refusals.count b.refusals.count b.shown b.written c.in-Ok.conn b.conn c.resume-connected.ensures.conn (ap (λ (r : Refusals). r.count) c.resume-connected.ensures.refusals) c.in-Ok.ensures.open c.in-Ok.ensures.blank (shows c.open-opened.new.self) c.open-opened.ensures.steps c.open-opened.ensures.same)

pub returns-in-Ok-clause-crash : goal.returns-in-Ok-clause-crash
returns-in-Ok-clause-crash g c =
    let shows = λ (k : Connected g.row.O-Base.Denot). keeper_state g.O.Base.Store k.conn k.refusals.count k.shown k.written in
    let none : c.args.self.now.connected ≡ None = search rules in
    let b = c.resume-connected.result in
    of_none shows (g.O.Opener.tells c.args.self.now.opener) c.args.self.now.refusals.count c.args.self.now.connected
    (λ (s : KeeperState). s.tells → LeavesNoMore s (shows c.open-opened.new.self)) none
    (start_crash g.O.Base.Store g.met.O.Base.Store.shut_if_dirty g.met.O.Base.Store.settled g.met.O.Base.Store.stays (g.O.Opener.tells c.args.self.now.opener) c.args.self.now.refusals.count b.refusals.count b.shown b.written c.in-Ok.conn b.conn c.resume-connected.ensures.conn (ap (λ (r : Refusals). r.count) c.resume-connected.ensures.refusals) c.in-Ok.ensures.open c.in-Ok.ensures.blank (shows c.open-opened.new.self) c.open-opened.ensures.steps c.open-opened.ensures.crash)

pub returns-in-Ok-clause-steps : goal.returns-in-Ok-clause-steps
returns-in-Ok-clause-steps g c =
    let shows = λ (k : Connected g.row.O-Base.Denot). keeper_state g.O.Base.Store k.conn k.refusals.count k.shown k.written in
    let none : c.args.self.now.connected ≡ None = search rules in
    let b = c.resume-connected.result in
    of_none shows (g.O.Opener.tells c.args.self.now.opener) c.args.self.now.refusals.count c.args.self.now.connected
    (λ (s : KeeperState). Steps s (shows c.open-opened.new.self)) none
    (start_steps g.O.Base.Store g.met.O.Base.Store.shut_if_dirty g.met.O.Base.Store.settled g.met.O.Base.Store.stays (g.O.Opener.tells c.args.self.now.opener) c.args.self.now.refusals.count b.refusals.count b.shown b.written c.in-Ok.conn b.conn c.resume-connected.ensures.conn (ap (λ (r : Refusals). r.count) c.resume-connected.ensures.refusals) c.in-Ok.ensures.open c.in-Ok.ensures.blank (shows c.open-opened.new.self) c.open-opened.ensures.steps)

pub returns-in-Ok-clause-shown : goal.returns-in-Ok-clause-shown
returns-in-Ok-clause-shown g c =
    let shows = λ (k : Connected g.row.O-Base.Denot). keeper_state g.O.Base.Store k.conn k.refusals.count k.shown k.written in
    let none : c.args.self.now.connected ≡ None = search rules in
    let b = c.resume-connected.result in
    of_none shows (g.O.Opener.tells c.args.self.now.opener) c.args.self.now.refusals.count c.args.self.now.connected
    (λ (s : KeeperState). (shows c.open-opened.new.self).shown ≡ s.shown) none
    (c.open-opened.ensures.shown ∙ (λ i t. c.resume-connected.ensures.shown t i))
