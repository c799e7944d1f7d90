use Rattle.std.proofs.Common.{ap₂, sym, ◌∙◌}
use Rattle.store_rows.specs.Forms.{read_row}
use Rattle.store_rows.specs.Rows.{data_form}
use Rattle.access_user.proofs.Granted.{sharer_of}
use Rattle.access_user.proofs.Opened.{owner_known, owner_there, spelled_none}
use Rattle.access_user.proofs.sight.is_owned.Goals as goal

pub returns-in-Some-clause-value : goal.returns-in-Some-clause-value
returns-in-Some-clause-value c = λ l r t u is sees among.
    let sight = c.args.sight.now in
    let rights = sight.rights.now in
    let read = sym (c.of.ensures ∙ ap₂ (read_row data_form) c.as_slice.ensures c.as_slice-2.ensures) ∙ c.in-Some.is in
    let owner = owner_there l c.args.row.now r c.in-Some.view read is ∙ sym c.owner.ensures in
    c.owns.ensures.value rights.org t u r (sharer_of t u rights sees.rights) owner
    (owner_known t u l r rights.sharer.people sight.own sees.rights.sound among sees.own _ c.as_ref.ensures.value c.owner.result owner)

pub returns-in-Some-clause-full : goal.returns-in-Some-clause-full
returns-in-Some-clause-full c = λ l r t u is sees among.
    let sight = c.args.sight.now in
    let rights = sight.rights.now in
    let read = sym (c.of.ensures ∙ ap₂ (read_row data_form) c.as_slice.ensures c.as_slice-2.ensures) ∙ c.in-Some.is in
    let owner = owner_there l c.args.row.now r c.in-Some.view read is ∙ sym c.owner.ensures in
    c.owns.ensures.full rights.org t u r (sharer_of t u rights sees.rights) owner
    (owner_known t u l r rights.sharer.people sight.own sees.rights.sound among sees.own _ c.as_ref.ensures.value c.owner.result owner)

pub returns-in-None-clause-value : goal.returns-in-None-clause-value
returns-in-None-clause-value c = λ l r t u is sees among.
    absurd (spelled_none l c.args.row.now r (sym (c.of.ensures ∙ ap₂ (read_row data_form) c.as_slice.ensures c.as_slice-2.ensures) ∙ c.in-None.is) is)
