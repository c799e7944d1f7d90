use Rattle.std.proofs.Common.{◌≡◌, true, sym, ap, ◌∙◌}
use Rattle.std.specs.Str.{chars}
use Rattle.record_index.proofs.CopiedText.{some_text}
use Rattle.record_index.proofs.copied.plain_text.Goals as goal
use Rattle.store_abstraction.specs.Entries.{slot_text}
use Rattle.base_value.specs.declared.value.Value.TheVariants as value

pub returns-in_ok-from_str-in-Bool-true : goal.returns-in_ok-from_str-in-Bool-true
unfolding chars
returns-in_ok-from_str-in-Bool-true c =
    let is : c.args.value.now ≡ value.Bool true = cc in
    ap some_text c.in_ok-from_str-in-Bool-true.ensures ∙ sym (ap slot_text is)
