use Rattle.std.proofs.Common.{take, sym, ◌∙◌, ap}
use Rattle.std.specs.List.{list_all}
use Rattle.base_json.specs.Printing.{is_plain}
use Rattle.base_json.proofs.Plain.{plain_cut, plain_value, rest_shorter}
use Rattle.base_json.proofs.printing.plain_front.Goals as goal

pub split_at-requires : goal.split_at-requires
split_at-requires c =
    plain_cut c.args.text.now c.as_bytes.result.now c.count_plain.result c.as_bytes.ensures.value c.count_plain.ensures.within c.count_plain.ensures.back

pub returns-clause-value : goal.returns-clause-value
returns-clause-value c =
    let cut = plain_cut c.args.text.now c.as_bytes.result.now c.count_plain.result c.as_bytes.ensures.value c.count_plain.ensures.within c.count_plain.ensures.back in
    let plain = ap (λ bs. list_all is_plain (take c.count_plain.result bs)) (sym c.as_bytes.ensures.value) ∙ c.count_plain.ensures.front in
    rw (c.split_at.ensures.front, c.split_at.ensures.back) (plain_value c.args.text.now c.count_plain.result c.utf8.text cut plain)

pub returns-clause-shorter : goal.returns-clause-shorter
returns-clause-shorter c =
    let cut = plain_cut c.args.text.now c.as_bytes.result.now c.count_plain.result c.as_bytes.ensures.value c.count_plain.ensures.within c.count_plain.ensures.back in
    rw c.split_at.ensures.back (rest_shorter c.args.text.now c.count_plain.result c.utf8.text cut)
