use Rattle.access_shares.proofs.Unspelled.{unspelled_refused}
use Rattle.access_shares.proofs.principals.find_principal.Goals as goal

pub returns-in_ok-bad_reference-in-None-clause-passes : goal.returns-in_ok-bad_reference-in-None-clause-passes
returns-in_ok-bad_reference-in-None-clause-passes g c told q t s =
    unspelled_refused c.id_laws.ensures.made t s.sound c.args.spelled.now c.in_ok-bad_reference-in-None.field-0 c.in-None.ensures c.in_ok-bad_reference-in-None.ensures
