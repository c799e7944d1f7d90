use Rattle.std.proofs.Common.{◌∙◌, ◌≡◌, ℕ, subst, sym, true}
use Rattle.std.specs.Prelude.{Ok}
use Rattle.std.specs.Str.{chars}
use Rattle.base_lemmas.proofs.Lists.{slice_get_as_read as read_there}
use Rattle.cmd_load_row.specs.inner.Finding.{FindsAt, is_unique_at}
use Rattle.cmd_load_row.proofs.Searched.{parent_found, within}
use Rattle.cmd_load_row.proofs.finding.parent_at.Goals as goal

pub returns-clause-finds : goal.returns-clause-finds
returns-clause-finds g c told q t s laid =
    let l = c.args.target.now in
    let number = c.from-number.result in
    let f = c.index-fields-number.result in
    let unique : is_unique_at l number ≡ true = sym c.is_unique_at.ensures ∙ c.if-not-is_unique_at.false in
    let at = read_there l.fields c.as_slice-fields.result.now number f c.as_slice-fields.ensures (within l number unique) c.index-fields-number.is in
    let same : number ≡ c.args.place = cc in
    subst (λ (n : ℕ). FindsAt t l n c.args.name.now (chars c.args.text.now) (Ok c.in_ok-found.found)) same
    (parent_found q t l number c.args.name.now (chars c.args.text.now) f c.in_ok-id.id c.in_ok-found.found at unique laid (c.in_ok-id.ensures.finds told q t s laid) c.in_ok-found.ensures)
