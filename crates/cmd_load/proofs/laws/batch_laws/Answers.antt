use Rattle.cmd_auth.proofs.Worlds.{WorldLaws}
use Rattle.cmd_load.proofs.Worlds.{rows_world, target_world}
use Rattle.cmd_load.proofs.laws.batch_laws.Goals as goal

pub returns : goal.returns
returns c =
    let laws : WorldLaws = record { each = c.local_laws.ensures.each; whole = c.local_laws.ensures.whole; nobody = c.local_laws.ensures.nobody; same = c.step_laws.ensures.same } in
    record {
      target = λ named object m result w s h. target_world laws object m w s named result h;
      rows = λ named p rows before after result w s h. rows_world laws p rows before after w s named result h;
    }
