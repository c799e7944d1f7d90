use Rattle.std.proofs.Common.{ℕ, List, Some, length, sym, ap, subst, ◌∙◌, arith}
use Rattle.base_lemmas.proofs.Results.{err_from_parts as returned}
use Rattle.store_kv.specs.Draft.{tables_of}
use Rattle.store_kv.specs.Tables.{Tables}
use Rattle.store_abstraction.specs.Fails.{of_store}
use Rattle.store_abstraction.specs.Local.{StandsIn}
use Rattle.record_cascade.specs.inner.Holding.{Judges, cleared_of, restricted_of}
use Rattle.record_cascade.specs.inner.Masters.{IsInOrder}
use Rattle.record_cascade.proofs.Judging.{cleared_found, over_is, refused_is, undamaged, within_is}
use Rattle.record_cascade.proofs.Objects.{layouts_are}
use Rattle.record_cascade.proofs.deletion.judge.Goals as goal

pub returns-in_err-refusal-clause-judges : goal.returns-in_err-refusal-clause-judges
returns-in_err-refusal-clause-judges g c told q t s are rs have count =
    let e = c.in_err-refusal.field-0.0 in
    subst (Judges t rs) (sym (returned c.from_residual.result (of_store e) c.from_residual.ensures))
    (undamaged (restricted_of c.args.layouts.now c.args.gone.now.keys) c.args.org c.args.layouts.now (tables_of g.K.Keeper.state c.args.draft.now) e (c.in_err-refusal.ensures.finds told) q t s are)

pub returns-in-Some-clause-judges : goal.returns-in-Some-clause-judges
returns-in-Some-clause-judges g c told q t s are rs have count =
    refused_is c.args.org q t s.sound c.args.layouts.now are rs c.args.gone.now.keys have c.in-Some.refusal
    (sym c.in-Some.is ∙ c.in_ok-refusal.ensures.finds told q t s (layouts_are c.args.org q t c.args.layouts.now are))

pub returns-then-count-gt-MOST-clause-judges : goal.returns-then-count-gt-MOST-clause-judges
returns-then-count-gt-MOST-clause-judges g c told q t s are rs have count =
    let much = c.if-count-gt-MOST.true in
    over_is c.args.org q t s.sound c.args.layouts.now are rs c.args.gone.now.keys have
    (sym c.in_default.is ∙ c.in_ok-refusal.ensures.finds told q t s (layouts_are c.args.org q t c.args.layouts.now are))
    (omega (arith, count, much))

pub returns-in_err-found-clause-judges : goal.returns-in_err-found-clause-judges
returns-in_err-found-clause-judges g c told q t s are rs have count =
    let a = c.args.draft.now in
    let b = c.restricted_by.new.draft in
    let d = c.losing_lookups.new.draft in
    let tell = c.draft_laws.ensures.both 0 0 a b d c.restricted_by.ensures.calls.reads c.losing_lookups.ensures.calls.reads told in
    let stands = subst (λ (m : Tables). StandsIn c.args.org q m (Some t)) (sym tell.2) s in
    let e = c.in_err-found.field-0.0 in
    subst (Judges t rs) (sym (returned c.from_residual-in_err-found.result (of_store e) c.from_residual-in_err-found.ensures))
    (undamaged (cleared_of c.args.layouts.now c.args.gone.now.keys) c.args.org c.args.layouts.now (tables_of g.K.Keeper.state b) e (c.in_err-found.ensures.finds tell.1) q t stands are)

pub returns-then-len-count-clause-judges : goal.returns-then-len-count-clause-judges
returns-then-len-count-clause-judges g c told q t s are rs have count =
    let a = c.args.draft.now in
    let b = c.restricted_by.new.draft in
    let d = c.losing_lookups.new.draft in
    let tell = c.draft_laws.ensures.both 0 0 a b d c.restricted_by.ensures.calls.reads c.losing_lookups.ensures.calls.reads told in
    let stands = subst (λ (m : Tables). StandsIn c.args.org q m (Some t)) (sym tell.2) s in
    let layouts = layouts_are c.args.org q t c.args.layouts.now are in
    let cleared =
    cleared_found c.args.org q t s.sound c.args.layouts.now are rs c.args.gone.now.keys have c.in_ok-found.found c.in_ok-cleared.cleared
    (c.in_ok-found.ensures.finds tell.1 q t stands layouts)
    (subst (λ (is : List (List ℕ)). IsInOrder is c.in_ok-cleared.cleared) c.as_slice.ensures c.in_ok-cleared.ensures) in
    let size = ap (λ (is : List (List ℕ)). length is) cleared in
    let len = c.len.ensures in
    let much = c.if-len-count.true in
    let most = c.if-count-gt-MOST.false in
    over_is c.args.org q t s.sound c.args.layouts.now are rs c.args.gone.now.keys have (sym c.in_default.is ∙ c.in_ok-refusal.ensures.finds tell.0 q t s layouts)
    (omega (arith, count, size, len, much, most))

pub returns-clause-judges : goal.returns-clause-judges
returns-clause-judges g c told q t s are rs have count =
    let a = c.args.draft.now in
    let b = c.restricted_by.new.draft in
    let d = c.losing_lookups.new.draft in
    let tell = c.draft_laws.ensures.both 0 0 a b d c.restricted_by.ensures.calls.reads c.losing_lookups.ensures.calls.reads told in
    let stands = subst (λ (m : Tables). StandsIn c.args.org q m (Some t)) (sym tell.2) s in
    let layouts = layouts_are c.args.org q t c.args.layouts.now are in
    let cleared =
    cleared_found c.args.org q t s.sound c.args.layouts.now are rs c.args.gone.now.keys have c.in_ok-found.found c.in_ok-cleared.cleared
    (c.in_ok-found.ensures.finds tell.1 q t stands layouts)
    (subst (λ (is : List (List ℕ)). IsInOrder is c.in_ok-cleared.cleared) c.as_slice.ensures c.in_ok-cleared.ensures) in
    let size = ap (λ (is : List (List ℕ)). length is) cleared in
    let len = c.len.ensures in
    let few = c.if-len-count.false in
    let most = c.if-count-gt-MOST.false in (
      within_is c.args.org q t s.sound c.args.layouts.now are rs c.args.gone.now.keys have (sym c.in_default.is ∙ c.in_ok-refusal.ensures.finds tell.0 q t s layouts)
          (omega (arith, count, size, len, few, most)),
      cleared,
    )
