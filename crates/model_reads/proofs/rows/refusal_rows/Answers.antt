use Rattle.std.proofs.Common.{refl}
use Rattle.std.specs.Str.{is_utf8}
use Rattle.std.specs.Str.Lossy.{utf8_lossy, utf8_valid_len}
use Rattle.form_urlencoded.specs.Form.{raw_pairs, split}
use Rattle.percent_encoding.specs.Percent.{percent_decode}
use Rattle.model.proofs.Computing.{computing}
use Rattle.model_reads.specs.RecordJson.{fields_text}
use Rattle.model_reads.proofs.rows.refusal_rows.Goals as goal

pub returns-clause-no_object : goal.returns-clause-no_object
unfolding computing fields_text utf8_lossy utf8_valid_len is_utf8 percent_decode raw_pairs split
returns-clause-no_object c = refl

pub returns-clause-no_id : goal.returns-clause-no_id
unfolding computing fields_text utf8_lossy utf8_valid_len is_utf8 percent_decode raw_pairs split
returns-clause-no_id c = refl

pub returns-clause-other_object : goal.returns-clause-other_object
unfolding computing fields_text utf8_lossy utf8_valid_len is_utf8 percent_decode raw_pairs split
returns-clause-other_object c = refl

pub returns-clause-hidden : goal.returns-clause-hidden
unfolding computing fields_text utf8_lossy utf8_valid_len is_utf8 percent_decode raw_pairs split
returns-clause-hidden c = refl

pub returns-clause-no_field : goal.returns-clause-no_field
unfolding computing fields_text utf8_lossy utf8_valid_len is_utf8 percent_decode raw_pairs split
returns-clause-no_field c = refl

pub returns-clause-twice : goal.returns-clause-twice
unfolding computing fields_text utf8_lossy utf8_valid_len is_utf8 percent_decode raw_pairs split
returns-clause-twice c = refl

pub returns-clause-path : goal.returns-clause-path
unfolding computing fields_text utf8_lossy utf8_valid_len is_utf8 percent_decode raw_pairs split
returns-clause-path c = refl

pub returns-clause-not_unique : goal.returns-clause-not_unique
unfolding computing fields_text utf8_lossy utf8_valid_len is_utf8 percent_decode raw_pairs split
returns-clause-not_unique c = refl

pub returns-clause-shares : goal.returns-clause-shares
unfolding computing fields_text utf8_lossy utf8_valid_len is_utf8 percent_decode raw_pairs split
returns-clause-shares c = refl

pub returns-clause-not_full : goal.returns-clause-not_full
unfolding computing fields_text utf8_lossy utf8_valid_len is_utf8 percent_decode raw_pairs split
returns-clause-not_full c = refl

pub returns-clause-of_detail : goal.returns-clause-of_detail
unfolding computing fields_text utf8_lossy utf8_valid_len is_utf8 percent_decode raw_pairs split
returns-clause-of_detail c = refl
