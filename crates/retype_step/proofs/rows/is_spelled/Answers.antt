use Rattle.std.proofs.Common.{◌≡◌, ◌∙◌, ◌↔◌, ◌<◌, ◌^◌, IsTrue, ℕ, List, true, length, sym, ap, subst}
use Rattle.std.specs.Prelude.{encode_utf8_all, nat_le}
use Rattle.std.specs.Str.{all_scalars}
use Rattle.std.proofs.lemmas.Str.{scalars-chars}
use Rattle.base_lemmas.proofs.Numbers.{below_u32 as below, within_u32 as within}
use Rattle.store_codec.specs.Plain.{FitsText}
use Rattle.retype_step.proofs.rows.is_spelled.Goals as goal

spelled_when : (cs : List ℕ) (n : ℕ) → all_scalars cs ≡ true → n ≡ length (encode_utf8_all cs) → IsTrue (nat_le n 4294967295) ↔ FitsText cs
spelled_when cs n s e = (λ h. (subst (λ (k : ℕ). k < 2 ^ 32) e (below n h), s), λ f. within n (subst (λ (k : ℕ). k < 2 ^ 32) (sym e) f.0))

pub returns : goal.returns
returns c =
    let scalars : all_scalars c.args.text.now ≡ true = ap all_scalars (sym c.as_str.ensures.characters) ∙ scalars-chars c.as_str.result.now c.as_str.utf8 in
    spelled_when c.args.text.now (length c.as_str.result.now) scalars (ap length c.as_str.ensures.bytes)
