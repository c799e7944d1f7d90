use Rattle.std.proofs.Common.{◌≡◌, ◌∙◌, Ok, ap, sym, take, drop, inl, inr, true, false}
use Rattle.base_value.specs.Id.{is_id, suffix}
use Rattle.base_value.proofs.Ids.{front}
use Rattle.base_value.proofs.id.Id.read.Goals as goal

pub returns-then-may_end_in-clause-only : goal.returns-then-may_end_in-clause-only
returns-then-may_end_in-clause-only c id h t =
    ap Ok (c.in-Some.ensures ∙ c.split_at.ensures.front ∙ ap (take 15) c.as_bytes-bytes.ensures.value ∙ (front id c.args.text.now h t).1)

pub returns-else-may_end_in-clause-only : goal.returns-else-may_end_in-clause-only
returns-else-may_end_in-clause-only c id h t =
    let parts = front id c.args.text.now h t in
    let same : c.in-Some.id ≡ id = c.in-Some.ensures ∙ c.split_at.ensures.front ∙ ap (take 15) c.as_bytes-bytes.ensures.value ∙ parts.1 in
    let back = c.split_at.ensures.back ∙ ap (drop 15) c.as_bytes-bytes.ensures.value in
    let ends : c.may_end_in.result ≡ true = c.may_end_in.ensures.1 (elim parts.2 [ inl none ↦ inl (back ∙ none) | inr last ↦ inr (back ∙ last ∙ ap suffix (sym same)) ]) in
    let other = c.if-may_end_in.false in
    absurd (cc)

pub returns-in-None-clause-only : goal.returns-in-None-clause-only
returns-in-None-clause-only c id h t =
    let same : c.split_at.result.0.now ≡ id = c.split_at.ensures.front ∙ ap (take 15) c.as_bytes-bytes.ensures.value ∙ (front id c.args.text.now h t).1 in
    let none : is_id id ≡ false = ap is_id (sym same) ∙ c.in-None.ensures in
    let some : is_id id ≡ true = h in
    absurd (cc)
