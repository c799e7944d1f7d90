use Rattle.cmd_auth.proofs.Worlds.{WorldLaws, asked_world}
use Rattle.cmd_auth.proofs.laws.asking_laws.Goals as goal

pub returns : goal.returns
returns g c =
    let laws : WorldLaws = record { each = c.local_laws.ensures.each; whole = c.local_laws.ensures.whole; nobody = c.local_laws.ensures.nobody; same = c.step_laws.ensures.same } in
    record { world = λ does refused now named before after result w s h. asked_world laws does refused now before after w s named result h }
