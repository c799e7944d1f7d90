use Rattle.std.proofs.Common.{◌≡◌}
use Rattle.std.specs.List.{find}
use Rattle.std.specs.Prelude.{encode_utf8_all}
use Rattle.form_urlencoded.specs.Form.{parse}
use Rattle.form_urlencoded.specs.Parse.{pairs_left}
use Rattle.model_reads.specs.RecordJson.{is_fields}
use Rattle.api_read.proofs.ColumnsPairs.{decoded}
use Rattle.api_read.proofs.records.fields.fields_text.Given as goal

-- the pairs so far have other names
abbrev pub invariant-loop-pair : goal.invariant-loop-pair
invariant-loop-pair l =
    find is_fields (decoded (pairs_left l.pair-iterator)) ≡ find is_fields (parse (encode_utf8_all l.fn.pairs))
