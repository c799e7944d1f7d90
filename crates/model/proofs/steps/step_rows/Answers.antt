use Rattle.std.proofs.Common.{refl}
use Rattle.std.specs.Char.{encode_utf8}
use Rattle.std.specs.Str.{chars, is_utf8}
use Rattle.std.specs.Str.Lossy.{utf8_lossy, utf8_valid_len}
use Rattle.form_urlencoded.specs.Form.{raw_pairs, split}
use Rattle.percent_encoding.specs.Percent.{percent_decode}
use Rattle.model.specs.Step.{query_text}
use Rattle.model.proofs.steps.step_rows.Goals as goal

pub returns-clause-first_q : goal.returns-clause-first_q
unfolding query_text raw_pairs split encode_utf8 utf8_lossy percent_decode utf8_valid_len is_utf8 chars
returns-clause-first_q c = refl

pub returns-clause-no_q : goal.returns-clause-no_q
unfolding query_text raw_pairs split encode_utf8 utf8_lossy percent_decode utf8_valid_len is_utf8 chars
returns-clause-no_q c = refl
