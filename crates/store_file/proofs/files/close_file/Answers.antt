use Rattle.store_file.proofs.Kept.{leaves}
use Rattle.store_file.proofs.files.close_file.Goals as goal

pub returns-in-Some : goal.returns-in-Some
returns-in-Some g c = λ done.
    let over = c.in-Some.ensures.over in
    let it = c.close.ensures done in
    leaves c.in-Some.conn _ over.told over.tables it.0 it.1
