use Rattle.std.proofs.Common.{Some, refl, sym, subst}
use Rattle.store_kv.specs.Tables.{Tables}
use Rattle.store_abstraction.specs.Local.{StandsIn}
use Rattle.access_user.proofs.Granted.{rights_are}
use Rattle.access_user.proofs.rights.user_rights.Goals as goal

pub returns-clause-finds : goal.returns-clause-finds
returns-clause-finds g c told q t u s at plain =
    let org = c.args.org in
    let a = c.args.draft.now in
    let b = c.keyring_of.new.draft in
    let d = c.sharing_rules_of.new.draft in
    let tell = c.draft_laws.ensures.both 0 0 a b d c.keyring_of.ensures.calls.reads c.sharing_rules_of.ensures.calls.reads told in
    let stands = subst (λ (m : Tables). StandsIn org q m (Some t)) (sym tell.2) s in
    rights_are org c.args.user.now t u _ refl refl (c.in_ok-sharer.ensures.finds tell.0 q t s) (c.in_ok-rules.ensures.finds tell.1 q (Some t) stands) s.sound at plain
