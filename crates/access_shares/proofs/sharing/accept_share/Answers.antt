use Rattle.std.proofs.Common.{ℕ, List, Some, ap₂, subst, sym}
use Rattle.store_kv.specs.Tables.{Tables}
use Rattle.store_rows.specs.declared.share.ShareRow.{ShareRow}
use Rattle.model.specs.Shares.{share_of}
use Rattle.access_traits.specs.Rights.{level_shown}
use Rattle.store_abstraction.specs.Local.{StandsIn}
use Rattle.base_value.specs.declared.sharing.Principal.{Principal}
use Rattle.access_shares.proofs.Verdicts.{no_item, room_fails, share_passed, share_taken, unshareable}
use Rattle.access_shares.proofs.sharing.accept_share.Goals as goal

pub returns-in_err-id-clause-accepts : goal.returns-in_err-id-clause-accepts
returns-in_err-id-clause-accepts g c told q a s w f =
    let e = c.in_err-id.field-0.0 in
    share_passed a c.args.new.now c.args.org e c.from_residual-in_err-id.result c.from_residual-in_err-id.ensures.1
    (no_item a c.args.new.now c.in_ok-check_texts.ensures.passes.0 c.id_laws.ensures.made s.sound e c.in_err-id.ensures)

pub returns-in_err-find_shareable-clause-accepts : goal.returns-in_err-find_shareable-clause-accepts
returns-in_err-find_shareable-clause-accepts g c told q a s w f =
    let e = c.in_err-find_shareable.field-0.0 in
    share_passed a c.args.new.now c.args.org e c.from_residual-in_err-find_shareable.result c.from_residual-in_err-find_shareable.ensures.1
    (unshareable a c.args.new.now c.in_ok-check_texts.ensures.passes.0 c.in_ok-id.id c.in_ok-id.ensures.0 e (c.in_err-find_shareable.ensures.finds told q a s w))

pub returns-in_err-check_count-clause-accepts : goal.returns-in_err-check_count-clause-accepts
returns-in_err-check_count-clause-accepts g c told q a s w f =
    let b = c.args.new.now in
    let e = c.in_err-check_count.field-0.0 in
    let d0 = c.args.draft.now in
    let d1 = c.find_shareable.new.draft in
    let d2 = c.find_principal.new.draft in
    let d3 = c.check_count.new.draft in
    let next = c.in_err-check_count.ensures in
    let one = c.draft_laws.ensures.both level_shown 0 d0 d1 d3 c.in_ok-find_shareable.ensures.calls.reads (c.draft_laws.ensures.reads 0 0 d1 d2 d3 c.in_ok-to.ensures.calls.reads next.calls.reads) told in
    let two = c.draft_laws.ensures.both 0 0 d1 d2 d3 c.in_ok-to.ensures.calls.reads next.calls.reads one.1 in
    let s1 = subst (λ (m : Tables). StandsIn c.args.org q m (Some a.tenant)) (sym one.2) s in
    let s2 = subst (λ (m : Tables). StandsIn c.args.org q m (Some a.tenant)) (sym two.2) s1 in
    let there = c.in_ok-to.ensures.passes two.0 q a.tenant s1 in
    share_passed a b c.args.org e c.from_residual-in_err-check_count.result c.from_residual-in_err-check_count.ensures.1
    (room_fails a b c.in_ok-check_texts.ensures.passes.0 c.in_ok-id.id c.in_ok-id.ensures.0 (c.in_ok-find_shareable.ensures.finds one.0 q a s w) there.0 e
    (next.passes two.1 q a.tenant (share_of b) s2 (sym c.in_ok-id.ensures.0) (sym there.1)))

pub returns-clause-accepts : goal.returns-clause-accepts
returns-clause-accepts g c told q a s w f =
    let b = c.args.new.now in
    let org = c.args.org in
    let d0 = c.args.draft.now in
    let d1 = c.find_shareable.new.draft in
    let d2 = c.find_principal.new.draft in
    let d3 = c.check_count.new.draft in
    let next = c.in_ok-check_count.ensures in
    let one = c.draft_laws.ensures.both level_shown 0 d0 d1 d3 c.in_ok-find_shareable.ensures.calls.reads (c.draft_laws.ensures.reads 0 0 d1 d2 d3 c.in_ok-to.ensures.calls.reads next.calls.reads) told in
    let two = c.draft_laws.ensures.both 0 0 d1 d2 d3 c.in_ok-to.ensures.calls.reads next.calls.reads one.1 in
    let s1 = subst (λ (m : Tables). StandsIn org q m (Some a.tenant)) (sym one.2) s in
    let s2 = subst (λ (m : Tables). StandsIn org q m (Some a.tenant)) (sym two.2) s1 in
    let there = c.in_ok-to.ensures.passes two.0 q a.tenant s1 in
    let row : List ℕ → Principal → ShareRow = λ i p. record { org = org; id = i; to = p; level = b.level } in (
      ap₂ row c.in_ok-id.ensures.0 there.1,
      share_taken a b c.in_ok-check_texts.ensures.passes.0 c.in_ok-id.id c.in_ok-id.ensures.0 (c.in_ok-find_shareable.ensures.finds one.0 q a s w) there.0
          (next.passes two.1 q a.tenant (share_of b) s2 (sym c.in_ok-id.ensures.0) (sym there.1)).0,
    )
