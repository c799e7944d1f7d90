use Rattle.std.proofs.Common.{◌≡◌, ◌↔◌, true, IsTrue, IsSome, IfSome, pos, to_z, w8, sym, ap, ◌∙◌, arith}
use mir.Syntax.{w16}
use Rattle.std.specs.Prelude.{codes}
use Rattle.std.proofs.lemmas.Bool.{and_parts as both}
use Rattle.jiff_core.specs.Date.{IsYmd}
use Rattle.jiff_core.proofs.SignedLemmas.{signed_arith, back_small}
use Rattle.base_value.specs.Dates.{is_date, has_form, is_calendar_date, year_of, month_of, day_of}
use Rattle.base_value.proofs.WrittenForms.{date_parts}
use Rattle.base_value.proofs.WrittenDates.{date_read}
use Rattle.base_value.proofs.dates.date_of.Goals as goal

read_as : (c : goal.After-ok) → (IsSome c.ok.result ↔ IsTrue (is_date c.args.chars.now)) × IfSome c.ok.result (IsYmd (pos (year_of c.args.chars.now)) (pos (month_of c.args.chars.now)) (pos (day_of c.args.chars.now)))
read_as c =
    let cs = c.args.chars.now in
    let form : has_form (codes "0000-00-00") cs ≡ true = sym c.has_form.ensures ∙ c.if-not-has_form.false in
    let parts = date_parts cs form in
    let y : to_z w16 c.year_of.result ≡ pos (year_of cs) = back_small w16 (pos c.year_of.result) (omega arith) ∙ ap pos c.year_of.ensures.value in
    let m : to_z w8 c.two_at.result ≡ pos (month_of cs) = back_small w8 (pos c.two_at.result) (omega arith) ∙ ap pos c.two_at.ensures.value in
    let d : to_z w8 c.two_at-2.result ≡ pos (day_of cs) = back_small w8 (pos c.two_at-2.result) (omega arith) ∙ ap pos c.two_at-2.ensures.value in
    date_read cs c.new.result c.ok.result form c.ok.ensures.value (rw (y, m, d) at c.new.ensures.succeeds) (rw (y, m, d) at c.new.ensures.value)

pub returns-then-not-has_form-clause-some : goal.returns-then-not-has_form-clause-some
unfolding is_date
returns-then-not-has_form-clause-some c =
    let cs = c.args.chars.now in
    (λ e. absurd cc, λ e. sym c.if-not-has_form.true ∙ c.has_form.ensures ∙ (both (has_form (codes "0000-00-00") cs) (is_calendar_date (year_of cs) (month_of cs) (day_of cs)) e).0)

pub overflow_cast-year_of : goal.overflow_cast-year_of
overflow_cast-year_of c =
    let parts = date_parts c.args.chars.now (sym c.has_form.ensures ∙ c.if-not-has_form.false) in
    omega (arith, signed_arith)

pub overflow_cast-two_at : goal.overflow_cast-two_at
overflow_cast-two_at c =
    let parts = date_parts c.args.chars.now (sym c.has_form.ensures ∙ c.if-not-has_form.false) in
    omega (arith, signed_arith)

pub overflow_cast-two_at-2 : goal.overflow_cast-two_at-2
overflow_cast-two_at-2 c =
    let parts = date_parts c.args.chars.now (sym c.has_form.ensures ∙ c.if-not-has_form.false) in
    omega (arith, signed_arith)

pub returns-clause-some : goal.returns-clause-some
returns-clause-some c = (read_as c).0

pub returns-clause-parts : goal.returns-clause-parts
returns-clause-parts c = (read_as c).1
