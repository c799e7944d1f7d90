use Rattle.std.proofs.Common.{◌∙◌, subst, sym, ℕ}
use Rattle.std.specs.Prelude.{Some}
use Rattle.std.specs.Str.{chars}
use Rattle.store_kv.specs.Draft.{tables_of}
use Rattle.store_kv.specs.Tables.{Tables}
use Rattle.store_abstraction.specs.Local.{StandsIn}
use Rattle.cmd_load_row.proofs.Searched.{parent_by, target_read}
use Rattle.cmd_load_row.proofs.finding.parent_of.Goals as goal

pub returns-in-Some-2-clause-finds : goal.returns-in-Some-2-clause-finds
returns-in-Some-2-clause-finds g c told q t s =
    let state = g.K.Keeper.state in
    let l = c.args.layout.now in
    let target = c.in-Some-2.target in
    let a = c.args.draft.now in
    let tells = c.draft_laws.ensures.both 0 0 a c.layout_at.new.draft c.parent_at.new.draft c.layout_at.ensures.calls.reads c.parent_at.ensures.calls.reads told in
    let read = target_read l.org c.in-Some.object q t target (sym c.in-Some-2.is ∙ c.in_ok-layout_at.ensures.finds tells.0 q (Some t) s) in
    let stands = subst (λ (n : ℕ). StandsIn n q (tables_of state c.layout_at.new.draft) (Some t)) (sym read.0) (subst (λ (m : Tables). StandsIn l.org q m (Some t)) (sym tells.2) s) in
    parent_by t l target c.args.name.now c.args.place (chars c.args.text.now) c.in-Some.object c.parent_at.result (sym c.in-Some.ensures) read.1 (c.parent_at.ensures.finds tells.1 q t stands read.2)
