use Rattle.std.proofs.Common.{rules, ◌≡◌, ℕ, ◌-◌, ◌++◌, ◌∙◌, ap, length, take}
use Rattle.std.specs.Char.{to_ascii_lowercase}
use Rattle.std.specs.Prelude.{bytes_eq, codes}
use Rattle.std.specs.Str.{chars}
use Rattle.std.proofs.lemmas.Iterator.{YieldsList-from_chars, YieldsList-from_map, YieldsList-from_take}
use Rattle.std.proofs.lemmas.Iterator.Consumers.{YieldsList-at, YieldsList-from_chain}
use Rattle.base_value.specs.Texts.{lower}
use Rattle.query_plan.proofs.Endings.{ended, ending_text}
use Rattle.query_plan.proofs.Equal.{eq_is}
use Rattle.query_plan.proofs.paths.names.is_parent_name.Goals as goal

pub returns : goal.returns
returns c =
    let field = chars c.args.field.now in
    let name = chars c.args.name.now in
    let kept : c.saturating_sub-kept.result ≡ length field - 3 = c.saturating_sub-kept.ensures ∙ ap (λ (n : ℕ). n - 3) c.character_count.ensures in
    eq_is c.map-2.result c.eq.result c.eq.ensures.ran
    (YieldsList-from_map _ to_ascii_lowercase
    (YieldsList-at c.map.ensures.source
    (YieldsList-from_chain
    (YieldsList-at c.chain-parent.ensures.first
    (YieldsList-from_take c.saturating_sub-kept.result (YieldsList-at c.take.ensures.source (YieldsList-from_chars c.args.field.now c.utf8.field (cc))) (cc)))
    (YieldsList-at c.chain-parent.ensures.second (YieldsList-from_chars (codes "__r") ending_text (cc)))
    (cc) (cc)))
    c.map.ensures.closure (λ x r q k. search rules))
    (YieldsList-from_map _ to_ascii_lowercase (YieldsList-at c.map-2.ensures.source (YieldsList-from_chars c.args.name.now c.utf8.name (cc))) c.map-2.ensures.closure (λ x r q k. search rules))
    ∙ ap (λ (n : ℕ). bytes_eq (lower (take n field ++ chars (codes "__r"))) (lower name)) kept
    ∙ ended field name
