use Rattle.server.proofs.Apart.{still_stands, whole_stands}
use Rattle.server.proofs.laws.damage_laws.Goals as goal

pub returns-clause-whole : goal.returns-clause-whole
returns-clause-whole c = whole_stands c.local_laws.ensures.each

pub returns-clause-damaged : goal.returns-clause-damaged
returns-clause-damaged c =
    let keys = c.key_laws.ensures in
    still_stands (record { total = keys.total; exact = keys.exact; bytes_exact = keys.bytes_exact; own = c.local_laws.ensures.own })
