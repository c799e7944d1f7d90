use Rattle.std.proofs.Common.{arith, ◌≡◌, ◌∙◌, ◌≤◌, ℕ, true, List, length, refl, sym, ap}
use Rattle.std.specs.Prelude.{nat_le}
use Rattle.std.specs.Str.{all_scalars}
use Rattle.std.proofs.lemmas.Bool.Decides.{nat_tests}
use Rattle.std.proofs.lemmas.Str.{scalars-chars}
use Rattle.base_value.specs.Values.{valid}
use Rattle.base_value.specs.declared.value.FieldType.TheVariants as type
use Rattle.base_value.specs.declared.value.Value.TheVariants as value
use Rattle.base_value.proofs.checking.is_valid_text.Goals as goal

fitting : (most n : ℕ) (cs : List ℕ) → all_scalars cs ≡ true → n ≡ length cs → 1 ≤ n → nat_le n most ≡ valid (type.Text most) (value.Text cs)
fitting most n cs s e some =
    let first : nat_le 1 n ≡ true = grind (arith, nat_tests) in
    rw (s, ← e, first) refl

pub returns-then-count-ge1 : goal.returns-then-count-ge1
returns-then-count-ge1 c =
    let text = c.as_str.ensures.characters in
    let scalars : all_scalars c.args.text.now ≡ true = ap all_scalars (sym text) ∙ scalars-chars c.as_str.result.now c.as_str.utf8 in
    let count : c.character_count-count.result ≡ length c.args.text.now = c.character_count-count.ensures ∙ ap length text in
    rw (c.in-Text.is, c.from.ensures) (fitting c.in-Text.most c.character_count-count.result c.args.text.now scalars count c.if-count-ge1.true)
