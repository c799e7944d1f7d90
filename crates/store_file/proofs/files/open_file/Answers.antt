use Rattle.sqlite.specs.Files.{file_state}
use Rattle.sqlite_wal.specs.Files.{image_at}
use Rattle.store_file.proofs.Kept.{finds, finds_on, opens_on}
use Rattle.store_file.proofs.files.open_file.Goals as goal

pub returns-in-Ok : goal.returns-in-Ok
returns-in-Ok g c =
    let over = c.adopt_saying.ensures.over in
    let s = file_state c.in-Ok.conn in
    let t = file_state c.in_ok-own-in-Ok.field-0 in
    finds (image_at g.S.Start) t _ over.told over.tables over.stands over.is_clean
    (λ clean. opens_on s t (c.in_ok-own-in-Ok.ensures clean).1 (c.in-Ok.ensures.opened (c.in_ok-own-in-Ok.ensures clean).0))
    (λ clean. finds_on (image_at g.S.Start) s t (c.in_ok-own-in-Ok.ensures clean).1 (c.in-Ok.ensures.found (c.in_ok-own-in-Ok.ensures clean).0))
    c.adopt_saying.ensures.faults
