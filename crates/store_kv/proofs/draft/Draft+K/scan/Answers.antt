use Rattle.std.proofs.Common.{refl, ◌≡◌, ◌+◌, ◌<◌, ◌≤◌, ◌-◌, ◌^◌, min, length, take, ap, ◌∙◌, arith}
use Rattle.store_kv.specs.inner.Merging.{gaps, merged}
use Rattle.store_kv.proofs.Scans.{draft_rows, enough, shown_for_rows, shown_for_none}
use Rattle.store_kv.proofs.Counted.{shows_most, shown_no_more}
use Rattle.store_kv.proofs.draft.Draft+K.scan.Goals as goal

pub returns-in-Ok-clause-rows : goal.returns-in-Ok-clause-rows
returns-in-Ok-clause-rows g c told =
    let limit = c.args.limit in
    let es = c.args.self.now.changes.entries in
    let held = c.in_ok-held.held.items in
    let kept = c.in_ok-rows.rows.items in
    let count : c.count_gaps.result ≡ gaps held = c.count_gaps.ensures ∙ ap gaps c.as_slice.ensures.value in
    let most : c.saturating_add-most.result ≡ min (limit + gaps held) (2 ^ 64 - 1) = c.saturating_add-most.ensures ∙ ap (λ k. min (limit + k) (2 ^ 64 - 1)) count in
    let short : length kept < 2 ^ 63 = omega (arith, c.in_ok-rows.rows.ok.0, c.in_ok-rows.rows.small) in
    c.in-Ok.ensures ∙ ap (λ l. take limit (merged kept l)) c.as_slice-2.ensures.value
    ∙ draft_rows es (g.K.Keeper.state c.args.self.now.keeper.now).tables c.args.table c.args.from.now c.args.below.now limit c.saturating_add-most.result kept held c.held_in.ensures.ordered c.in_ok-held.ensures.held
    (c.in_ok-rows.ensures.rows told) (enough limit (gaps held) c.saturating_add-most.result (length kept) most short)

pub returns-in-Ok-clause-reads : goal.returns-in-Ok-clause-reads
returns-in-Ok-clause-reads g c =
    let held = c.in_ok-held.held.items in
    let kept = c.in_ok-rows.rows.items in
    let count : c.count_gaps.result ≡ gaps held = c.count_gaps.ensures ∙ ap gaps c.as_slice.ensures.value in
    let most : c.saturating_add-most.result ≤ c.args.limit + gaps held = omega (arith, count, c.saturating_add-most.ensures) in
    let made = c.in-Ok.ensures ∙ ap (λ l. take c.args.limit (merged kept l)) c.as_slice-2.ensures.value in
    let few = shown_for_rows c.args.table c.args.limit c.saturating_add-most.result c.args.from.now c.args.below.now c.args.self.now.changes.entries held kept c.in-Ok.rows.items c.in_ok-held.ensures.held most c.in_ok-rows.ensures.short made in
    record { same_reference = refl; changes = refl; reads = c.scan.ensures.reads; shows = λ _. shows_most (g.K.Keeper.state c.args.self.now.keeper.now) (g.K.Keeper.state c.scan.new.self) c.args.table (length kept) _ c.in_ok-rows.ensures.shown few }

pub returns-in-Ok-clause-shown : goal.returns-in-Ok-clause-shown
returns-in-Ok-clause-shown g c =
    let held = c.in_ok-held.held.items in
    let kept = c.in_ok-rows.rows.items in
    let count : c.count_gaps.result ≡ gaps held = c.count_gaps.ensures ∙ ap gaps c.as_slice.ensures.value in
    let most : c.saturating_add-most.result ≤ c.args.limit + gaps held = omega (arith, count, c.saturating_add-most.ensures) in
    let made = c.in-Ok.ensures ∙ ap (λ l. take c.args.limit (merged kept l)) c.as_slice-2.ensures.value in
    let few = shown_for_rows c.args.table c.args.limit c.saturating_add-most.result c.args.from.now c.args.below.now c.args.self.now.changes.entries held kept c.in-Ok.rows.items c.in_ok-held.ensures.held most c.in_ok-rows.ensures.short made in
    shown_no_more (g.K.Keeper.state c.args.self.now.keeper.now) (g.K.Keeper.state c.scan.new.self) c.args.table (length kept) _ c.in_ok-rows.ensures.shown few

pub returns-clause-reads : goal.returns-clause-reads
returns-clause-reads g c =
    let held = c.in_ok-held.held.items in
    let kept = c.in_ok-rows.rows.items in
    let count : c.count_gaps.result ≡ gaps held = c.count_gaps.ensures ∙ ap gaps c.as_slice.ensures.value in
    let most : c.saturating_add-most.result ≤ c.args.limit + gaps held = omega (arith, count, c.saturating_add-most.ensures) in
    let few = shown_for_none c.args.table c.args.limit c.saturating_add-most.result c.args.from.now c.args.below.now c.args.self.now.changes.entries held kept c.in_ok-held.ensures.held most c.in_ok-rows.ensures.short in
    record { same_reference = refl; changes = refl; reads = c.scan.ensures.reads; shows = λ _. shows_most (g.K.Keeper.state c.args.self.now.keeper.now) (g.K.Keeper.state c.scan.new.self) c.args.table (length kept) _ c.in_ok-rows.ensures.shown few }

pub returns-clause-shown : goal.returns-clause-shown
returns-clause-shown g c =
    let held = c.in_ok-held.held.items in
    let kept = c.in_ok-rows.rows.items in
    let count : c.count_gaps.result ≡ gaps held = c.count_gaps.ensures ∙ ap gaps c.as_slice.ensures.value in
    let most : c.saturating_add-most.result ≤ c.args.limit + gaps held = omega (arith, count, c.saturating_add-most.ensures) in
    let few = shown_for_none c.args.table c.args.limit c.saturating_add-most.result c.args.from.now c.args.below.now c.args.self.now.changes.entries held kept c.in_ok-held.ensures.held most c.in_ok-rows.ensures.short in
    shown_no_more (g.K.Keeper.state c.args.self.now.keeper.now) (g.K.Keeper.state c.scan.new.self) c.args.table (length kept) _ c.in_ok-rows.ensures.shown few
