use Rattle.std.proofs.Common.{refl}
use Rattle.caseless.specs.Caseless.{default_case_fold}
use Rattle.ucd_case.specs.CaseFolding.{full_folding}
use Rattle.ucd_case.specs.FullFoldingRows.{full_folding_rows}
use Rattle.ucd_table.specs.Rows.{value_in}
use lib.Utf8.{encode}
use Rattle.base_value.specs.Digits.{digits}
use Rattle.base_value.specs.OrderKeys.{order_key, raised}
use Rattle.base_value.proofs.ordering_laws.order_rows.Goals as goal

pub returns-clause-null : goal.returns-clause-null
unfolding order_key
returns-clause-null c = refl

pub returns-clause-text : goal.returns-clause-text
unfolding encode default_case_fold full_folding full_folding_rows value_in digits raised order_key
returns-clause-text c = refl

pub returns-clause-zero : goal.returns-clause-zero
unfolding digits raised order_key
returns-clause-zero c = refl

pub returns-clause-minus_one : goal.returns-clause-minus_one
unfolding digits raised order_key
returns-clause-minus_one c = refl

pub returns-clause-day_before : goal.returns-clause-day_before
unfolding digits raised order_key
returns-clause-day_before c = refl

pub returns-clause-epoch : goal.returns-clause-epoch
unfolding digits raised order_key
returns-clause-epoch c = refl

pub returns-clause-id : goal.returns-clause-id
unfolding order_key
returns-clause-id c = refl

pub returns-clause-truth : goal.returns-clause-truth
unfolding order_key
returns-clause-truth c = refl

pub returns-clause-signs : goal.returns-clause-signs
unfolding digits raised order_key
returns-clause-signs c = refl

pub returns-clause-street : goal.returns-clause-street
unfolding default_case_fold full_folding full_folding_rows value_in
returns-clause-street c = refl
