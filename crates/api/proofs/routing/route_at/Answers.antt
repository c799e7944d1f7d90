use Rattle.std.proofs.Common.{ℕ, List, map, drop, ap, sym, ◌∙◌, subst}
use Rattle.std.specs.Str.{chars}
use Rattle.model_requests.specs.Routing.{part}
use Rattle.api.specs.router.Cuts.{AllUtf8}
use Rattle.api.specs.inner.Kinds.{routed_at}
use Rattle.api.specs.inner.Places.{taken}
use Rattle.api.proofs.Finding.{made-same}
use Rattle.api.proofs.Parts.{next-texts, second-part, third-part}
use Rattle.api.proofs.routing.route_at.Goals as goal

pub returns : goal.returns
returns c = λ texts.
    let all = c.args.parts in
    let query = chars c.args.query.now in
    let parts = map chars (taken all) in
    let rest = c.in_ok-first.ensures.rest in
    let last = c.in_ok-second.ensures.rest ∙ ap (drop 1) rest in
    let rest_texts = subst (λ (l : List (List ℕ × List ℕ)). AllUtf8 (taken l)) (sym rest) (next-texts all texts) in
    let last_texts = subst (λ (l : List (List ℕ × List ℕ)). AllUtf8 (taken l)) (sym last) (next-texts (drop 1 all) (next-texts all texts)) in
    let second = c.in_ok-second.ensures.text rest_texts ∙ ap (λ l. part 0 (map chars (taken l))) rest ∙ second-part all in
    let third = c.in_ok-third.ensures.text last_texts ∙ ap (λ l. part 0 (map chars (taken l))) last ∙ third-part all in
    c.routed.ensures
    ∙ made-same c.in-Some.kind _ _ _ _ query parts c.in_ok-pairs.ensures (c.in_ok-first.ensures.text texts) second third
    ∙ ap (λ k. routed_at k query parts) c.in-Some.ensures
