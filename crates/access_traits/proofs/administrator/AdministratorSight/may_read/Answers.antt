use Rattle.access_traits.proofs.Administered.{reads}
use Rattle.access_traits.proofs.administrator.AdministratorSight.may_read.Goals as goal

pub returns-clause-tells : goal.returns-clause-tells
returns-clause-tells g c told q t u r stands its admin has spelled = reads c.administrator_laws.ensures.level t u c.args._layout.now.object r stands.sound admin has
