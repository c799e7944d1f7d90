use Rattle.std.proofs.Common.{[], ◌∷◌}
use Rattle.std.proofs.lemmas.Result.{on_ok_weaker as on_ok}
use Rattle.std.specs.Str.{chars}
use Rattle.base_json.specs.Printing.{printed_text}
use Rattle.base_json_tree.proofs.Pieces.{after}
use Rattle.base_json_tree.proofs.printing.write_name.Goals as goal

pub returns : goal.returns
returns c =
    on_ok c.write_mark.result
    (λ e. after c.args.writer.now c.text.new.self c.write_mark.new.writer (printed_text (chars c.args.name.now)) (58 ∷ []) c.in_ok-text.ensures.ok e) c.write_mark.ensures
