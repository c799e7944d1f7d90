use Rattle.model.proofs.Administering.{all_full, reads_all}
use Rattle.model.proofs.reading.administrator_laws.Goals as goal

pub returns : goal.returns
returns c = record { level = λ t u r s admin m. all_full t u s admin r m; readable = λ a n s admin. reads_all a.tenant a.user s admin n }
