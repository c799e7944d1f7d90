use Rattle.std.proofs.Common.{inr, refl, sym, ◌∙◌, subst, List, ℕ}
use Rattle.std.specs.Str.{IsAscii, IsUtf8}
use Rattle.std.proofs.lemmas.Result.{IfOk-weaker}
use Rattle.std.proofs.lemmas.Str.{IsUtf8-from_ascii, chars-IsAscii}
use Rattle.base_value.specs.Id.{print18}
use Rattle.base_value.proofs.Spelled.{text_ascii}
use Rattle.base_value.proofs.printing.id_text.Goals as goal

pub text_of-requires : goal.text_of-requires
text_of-requires c =
    let same = c.as_slice.ensures ∙ c.print18-printed.ensures in
    subst (λ (bs : List ℕ). IsUtf8 bs) (sym same) (IsUtf8-from_ascii (print18 c.args.id.now) (text_ascii c.args.id.now (print18 c.args.id.now) c.as_bytes.ensures.id (inr refl)))

pub returns : goal.returns
returns c =
    let same = c.as_slice.ensures ∙ c.print18-printed.ensures in
    let ascii : IsAscii c.as_slice.result.now = subst (λ (bs : List ℕ). IsAscii bs) (sym same) (text_ascii c.args.id.now (print18 c.args.id.now) c.as_bytes.ensures.id (inr refl)) in
    IfOk-weaker c.text_of.result _ _ (λ text e. e ∙ chars-IsAscii c.as_slice.result.now ascii ∙ same) c.text_of.ensures
