use Rattle.std.proofs.Common.{refl}
use Rattle.caseless.specs.Caseless.{default_case_fold}
use Rattle.ucd_case.specs.CaseFolding.{full_folding}
use Rattle.ucd_case.specs.FullFoldingRows.{full_folding_rows}
use Rattle.ucd_table.specs.Rows.{value_in}
use Rattle.soql.proofs.worked.like_rows.Goals as goal

pub returns : goal.returns
unfolding default_case_fold full_folding full_folding_rows value_in
returns c = record { nothing = refl; not_nothing = refl; any_of_none = refl; any = refl; one_of_none = refl; one = refl; one_of_two = refl; one_of_sharp_s = refl; two_of_sharp_s = refl; run = refl; empty_run = refl; run_with_both = refl; more_behind = refl; more_before = refl; any_twice = refl; two_or_more = refl; fewer_than_two = refl; within = refl; later_run = refl; run_too_few = refl; other_case = refl; blank = refl; beginning = refl; street_in_capitals = refl; street_with_two = refl; street_with_one = refl; street_with_any = refl; street_as_pattern = refl; sigmas = refl; accents = refl; percent = refl; no_percent = refl; underscore = refl; no_underscore = refl; wildcard = refl; wildcard_itself = refl }
