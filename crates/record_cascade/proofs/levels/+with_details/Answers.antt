use Rattle.std.proofs.Common.{◌++◌, ◌-◌, List, ℕ, Some, sym, ap, subst, ◌∙◌}
use Rattle.store_kv.specs.Tables.{Tables}
use Rattle.model.specs.Deletes.{and_details, details_of}
use Rattle.store_abstraction.specs.Local.{StandsIn}
use Rattle.record_cascade.proofs.Among.{record_ids}
use Rattle.record_cascade.proofs.Going.{level_more}
use Rattle.record_cascade.proofs.levels.+with_details.Goals as goal

pub returns-clause-finds : goal.returns-clause-finds
returns-clause-finds g measure c told q t s are rs same =
    let a = c.args.draft.now in
    let b = c.details.new.draft in
    let d = c.with_details.new.draft in
    let tell = c.draft_laws.ensures.both 0 0 a b d c.details.ensures.calls.reads c.with_details.ensures.calls.reads told in
    let stands = subst (λ (m : Tables). StandsIn c.args.org q m (Some t)) (sym tell.2) s in
    let below = c.in_ok-below.ensures.finds tell.0 q t s are rs same in
    let rest = c.in_ok-rest.ensures.finds tell.1 q t stands are (details_of t rs) (sym below ∙ sym c.as_slice.ensures) in
    c.in_ok-joined-2.ensures
    ∙ ap (λ (is : List (List ℕ)). c.args.ids.now ++ is) (c.as_slice-2.ensures ∙ rest)
    ∙ ap (λ (is : List (List ℕ)). is ++ record_ids (and_details (c.args.levels - 1) t (details_of t rs))) (sym same)
    ∙ sym (level_more c.args.levels t rs c.if-levels-eq0.false)
