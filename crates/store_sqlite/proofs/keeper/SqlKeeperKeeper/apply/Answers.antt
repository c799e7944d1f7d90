use Rattle.std.proofs.Common.{◌≡◌, ◌⊎◌, Some, IsTrue, rules}
use Rattle.store_kv.specs.Tables.{Tables, after}
use Rattle.store_kv.specs.State.{KeeperState}
use Rattle.store_sqlite.specs.declared.connected.Connected.{Connected}
use Rattle.store_sqlite.specs.Kept.{keeper_state}
use Rattle.store_sqlite.proofs.Begun.{of_some}
use Rattle.store_sqlite.proofs.keeper.SqlKeeperKeeper.apply.Goals as goal

pub returns-clause-crash : goal.returns-clause-crash
returns-clause-crash g c =
    let shows = λ (k : Connected g.row.O-Base.Denot). keeper_state g.O.Base.Store k.conn k.refusals.count k.shown k.written in
    let is : c.args.self.now.connected ≡ Some c.in-Some.connected = search rules in
    of_some shows (g.O.Opener.tells c.args.self.now.opener) c.args.self.now.refusals.count c.args.self.now.connected
    (λ (s : KeeperState). s.tells → IsTrue (shows c.apply.new.self).is_clean → (m : Tables) → (shows c.apply.new.self).may_leave m → s.may_leave m ⊎ (m ≡ after c.args.batch.now.changes.items s.tables)) c.in-Some.connected is c.apply.ensures.crash
