use Rattle.std.proofs.Common.{◌≡◌, take}
use Rattle.retype_step.proofs.backfill.layouts.field_copies.Given as goal

abbrev pub invariant-loop-field : goal.invariant-loop-field
invariant-loop-field l = l.copies ≡ take l.field-index l.fields
