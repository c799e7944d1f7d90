use Rattle.base_value.proofs.Sizes.{size_none}
use Rattle.base_value.proofs.exact.mantissa_size.Goals as goal

pub returns-in-None-clause-value : goal.returns-in-None-clause-value
returns-in-None-clause-value c = λ n t h e. size_none c.args.mantissa.zeros n c.args.places c.args.down t (rw c.in-None.is at h)
