use Rattle.std.proofs.Common.{◌∙◌, ◌&&◌, Bool, List, ℕ, length, true, false, refl, sym, ap}
use Rattle.std.specs.Prelude.{nat_le}
use Rattle.std.specs.List.{list_all}
use Rattle.base_value.specs.Id.{is_digit62}
use Rattle.model.specs.Limits.{secret_least, secret_most}
use Rattle.people_edit.proofs.Counted.{secret_when}
use Rattle.people_edit.proofs.forms.is_secret.Goals as goal

pub returns-then-are_letters_or_digits : goal.returns-then-are_letters_or_digits
returns-then-are_letters_or_digits c =
    let bytes = c.as_bytes-bytes.ensures.value in
    secret_when c.args.secret.now true c.is_within.result (sym c.if-are_letters_or_digits.true ∙ c.are_letters_or_digits.ensures ∙ ap (list_all is_digit62) bytes)
    (c.is_within.ensures ∙ ap (λ (bs : List ℕ). nat_le secret_least (length bs) && nat_le (length bs) secret_most) bytes)

pub returns-else-are_letters_or_digits : goal.returns-else-are_letters_or_digits
returns-else-are_letters_or_digits c =
    let bytes = c.as_bytes-bytes.ensures.value in
    let short : Bool = nat_le secret_least (length c.args.secret.now) && nat_le (length c.args.secret.now) secret_most in
    c.if-are_letters_or_digits.false ∙ secret_when c.args.secret.now false short (sym c.if-are_letters_or_digits.false ∙ c.are_letters_or_digits.ensures ∙ ap (list_all is_digit62) bytes) refl
