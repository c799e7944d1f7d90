use Rattle.std.proofs.Common.{◌≡◌, ◌∙◌, false, List, ap, length, sym}
use Rattle.std.specs.Prelude.{◌==◌}
use Rattle.store_kv.specs.Draft.{tables_of}
use Rattle.query_plan.specs.Checks.{takes}
use Rattle.query_plan.specs.declared.plan.SortKey.{SortKey}
use Rattle.query_exec.specs.Relatives.{by_parents}
use Rattle.query_json.specs.Planned.{Parents, rows_by, window_of}
use Rattle.query_json.proofs.Found.{in_keys, in_no_keys, written_alike}
use Rattle.query_json.proofs.answer.write_chosen.Goals as goal

some_keys : (keys : List SortKey) → (length keys == 0) ≡ false → length keys ≡ 0 → ⊥
some_keys keys e none = absurd (apart (sym (ap (λ n. n == 0) none) ∙ e))
  where
    apart : (0 == 0) ≡ false → ⊥
    apart e = cc

pub returns-else-is_empty-clause-what : goal.returns-else-is_empty-clause-what
returns-else-is_empty-clause-what g c told =
    let l = c.args.layout.now in
    let k = c.args.choice.now in
    let keys = c.as_slice-keys.result.now in
    let parents : Parents = g.L.Relatives.parents c.args.relatives.now in
    written_alike l _ _ c.args.room c.args.out.now.items c.write_sorted_rows.new.out.items (tables_of g.K.Keeper.state c.args.draft.now) _ _
    (λ a. in_keys c.rank_laws.ensures.order parents keys (window_of k) (by_parents parents (takes k.check)) l.object (some_keys keys (sym c.is_empty.ensures ∙ c.if-is_empty.false)) a
    ∙ ap (λ (ks : List SortKey). rows_by parents ks (window_of k) (by_parents parents (takes k.check)) l.object a) c.as_slice-keys.ensures)
    c.write_sorted_rows.result (c.write_sorted_rows.ensures.what told)

pub returns-then-is_empty-clause-what : goal.returns-then-is_empty-clause-what
returns-then-is_empty-clause-what g c told =
    let l = c.args.layout.now in
    let k = c.args.choice.now in
    let keys = c.as_slice-keys.result.now in
    let parents : Parents = g.L.Relatives.parents c.args.relatives.now in
    written_alike l _ _ c.args.room c.args.out.now.items c.write_rows.new.out.items (tables_of g.K.Keeper.state c.args.draft.now) _ _
    (λ a. in_no_keys parents keys (window_of k) (by_parents parents (takes k.check)) l.object (sym c.is_empty.ensures ∙ c.if-is_empty.true) a
    ∙ ap (λ (ks : List SortKey). rows_by parents ks (window_of k) (by_parents parents (takes k.check)) l.object a) c.as_slice-keys.ensures)
    c.write_rows.result (c.write_rows.ensures.what told)

pub returns-else-is_empty-clause-early : goal.returns-else-is_empty-clause-early
returns-else-is_empty-clause-early g c none =
    absurd (some_keys c.as_slice-keys.result.now (sym c.is_empty.ensures ∙ c.if-is_empty.false) (ap (λ (ks : List SortKey). length ks) (c.as_slice-keys.ensures ∙ none)))

pub returns-then-is_empty-clause-early : goal.returns-then-is_empty-clause-early
returns-then-is_empty-clause-early g c none = c.write_rows.ensures.early
