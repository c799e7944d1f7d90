use Rattle.std.proofs.Common.{refl}
use Rattle.std.specs.Str.{is_utf8}
use Rattle.std.specs.Str.Lossy.{utf8_lossy, utf8_valid_len}
use Rattle.form_urlencoded.specs.Form.{raw_pairs, split}
use Rattle.percent_encoding.specs.Percent.{percent_decode}
use Rattle.model.proofs.Computing.{computing}
use Rattle.model_reads.specs.RecordJson.{fields_text}
use Rattle.model_reads.proofs.rows.record_rows.Goals as goal

pub returns-clause-fields : goal.returns-clause-fields
unfolding computing fields_text utf8_lossy utf8_valid_len is_utf8 percent_decode raw_pairs split
returns-clause-fields c = refl

pub returns-clause-detail : goal.returns-clause-detail
unfolding computing fields_text utf8_lossy utf8_valid_len is_utf8 percent_decode raw_pairs split
returns-clause-detail c = refl

pub returns-clause-columns : goal.returns-clause-columns
unfolding computing
returns-clause-columns c = refl

pub returns-clause-detail_columns : goal.returns-clause-detail_columns
unfolding computing
returns-clause-detail_columns c = refl

pub returns-clause-all_fields : goal.returns-clause-all_fields
unfolding computing
returns-clause-all_fields c = refl
