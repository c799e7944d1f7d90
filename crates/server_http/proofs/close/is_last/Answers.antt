use Rattle.std.proofs.Common.{◌≡◌, ◌==◌, ◌||◌, true, false, Bool, codes, sym, ap, ◌∙◌}
use Rattle.std.specs.Str.{str_eq_ignore_ascii_case}
use Rattle.server_http.specs.Framing.{has_close}
use Rattle.server_http.proofs.Values.{any_at}
use Rattle.server_http.proofs.close.is_last.Goals as goal

or_any : (a b : Bool) → b ≡ true → true ≡ (a || b)
or_any true b h = cc
or_any false b h = sym h

pub returns-then-has_close : goal.returns-then-has_close
returns-then-has_close c =
    let one = c.is_same.ensures in
    let other = c.has_close.ensures in
    or_any (c.args.version == 0) _ (any_at has_close (codes "connection") c.args.text.now c.args.lines.now c.loop-line.line-index _ c.loop-line-test.true
    (ap (λ n. str_eq_ignore_ascii_case n (codes "connection")) (sym c.of.ensures) ∙ sym one ∙ c.if-is_same.true)
    (ap has_close (sym c.of-then-is_same.ensures) ∙ sym other ∙ c.if-has_close.true))
