use Rattle.std.proofs.Common.{List, subst, sym, ℕ}
use Rattle.std.specs.Str.{chars}
use Rattle.model.specs.Retyping.{state_of}
use Rattle.model.specs.Verdict.{accept}
use Rattle.api_output.specs.States.{IsStateOf}
use Rattle.api.proofs.Changing.{no_memory, parts_of, state_replied}
use Rattle.api.proofs.retyping.state_reply.Goals as goal

pub returns-in-Ok-clause-value : goal.returns-in-Ok-clause-value
returns-in-Ok-clause-value c a j is =
    let s = c.args.state.now in
    let parts = subst (λ (object : List ℕ). IsStateOf a.tenant j object s.field s.phase s.outcome s.failed) (sym c.as_str.ensures.characters) (parts_of a.tenant j s is) in
    let both = subst (λ (field : List ℕ). IsStateOf a.tenant j (chars c.as_str.result.now) field s.phase s.outcome s.failed) (sym c.as_str-2.ensures.characters) parts in
    state_replied a j c.in-Ok.body (c.in-Ok.ensures a.tenant j both)

pub returns-in-Err-clause-value : goal.returns-in-Err-clause-value
returns-in-Err-clause-value c a j is = no_memory a (accept (state_of a.tenant j) a.tenant)
