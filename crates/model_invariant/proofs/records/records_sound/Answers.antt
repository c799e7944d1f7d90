use Rattle.model_invariant.proofs.CreatesSound.{create_sound}
use Rattle.model_invariant.proofs.OtherFormulas.{create_formulas, update_formulas, upsert_formulas}
use Rattle.model_invariant.proofs.UpdatesSound.{update_sound}
use Rattle.model_invariant.proofs.UpsertsSound.{upsert_sound}
use Rattle.model_invariant.proofs.SoundParts.{parts, whole}
use Rattle.model_invariant.proofs.records.records_sound.Goals as goal

pub returns-clause-create : goal.returns-clause-create
returns-clause-create c = λ a object given caller reads s. whole (create_sound (record { ordered = c.id_laws.ensures.ordered; number = c.id_laws.ensures.number }) a object given caller reads (parts s)) (create_formulas a s.formulas object given)

pub returns-clause-update : goal.returns-clause-update
returns-clause-update c = λ a object key given caller reads s. whole (update_sound a object key given caller reads (parts s)) (update_formulas a s.formulas object key given)

pub returns-clause-upsert : goal.returns-clause-upsert
returns-clause-upsert c = λ a object key text given caller reads s. whole (upsert_sound (record { ordered = c.id_laws.ensures.ordered; number = c.id_laws.ensures.number }) a object key text given caller reads (parts s)) (upsert_formulas a s.formulas object key text given)
