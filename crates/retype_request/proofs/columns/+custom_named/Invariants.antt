use Rattle.std.proofs.Common.{length}
use Rattle.retype_request.proofs.columns.+custom_named.Given as goal

abbrev pub decreases-custom_named : goal.decreases-custom_named
decreases-custom_named l = length l.fields.now
