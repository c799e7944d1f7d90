use Rattle.std.proofs.Common.{◌≡◌, ◌++◌, ◌∷◌, [], None, sym, subst}
use Rattle.std.specs.Prelude.{OnOk}
use Rattle.store_edit.specs.Rows.{spelled}
use Rattle.people_removal.specs.declared.named.Named.{Named}
use Rattle.people_removal.specs.inner.Removing.{key_of}
use Rattle.people_removal.proofs.rows.remove_named.Goals as goal

pub returns-in-Role : goal.returns-in-Role
returns-in-Role c =
    subst (λ (n : Named). OnOk c.remove_row.result (c.remove_row.new.changes.items ≡ c.args.changes.now.items ++ spelled (key_of c.args.org n, None) ∷ [])) (sym c.in-Role.is) c.remove_row.ensures

pub returns-in-Group : goal.returns-in-Group
returns-in-Group c =
    subst (λ (n : Named). OnOk c.remove_row-in-Group.result (c.remove_row-in-Group.new.changes.items ≡ c.args.changes.now.items ++ spelled (key_of c.args.org n, None) ∷ [])) (sym c.in-Group.is) c.remove_row-in-Group.ensures
