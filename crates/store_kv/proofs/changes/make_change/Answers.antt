use Rattle.std.proofs.Common.{◌≡◌, ◌∷◌, [], ◌++◌, sym, ap, ◌∙◌, subst, IsSome}
use Rattle.std.specs.BTreeMap.{get}
use Rattle.std.specs.FinMap as map
use Rattle.store_kv.specs.Tables.{Place, place_cmp}
use Rattle.store_kv.specs.Laid.{Entry, laid, row_laid}
use Rattle.store_kv.specs.Memory.{tables_in}
use Rattle.store_kv.specs.inner.Changes.{HasPlaces}
use Rattle.store_kv.proofs.Laid.{row_back}
use Rattle.store_kv.proofs.Moves.{places_kept, places_push, laid_push}
use Rattle.store_kv.proofs.changes.make_change.Goals as goal

pub returns-in_err-before-clause-has : goal.returns-in_err-before-clause-has
returns-in_err-before-clause-has c =
    subst (HasPlaces c.set_row.new.rows) (sym c.reserve.ensures.items) (places_kept c.args.rows.now c.set_row.new.rows c.args.done.now.items c.set_row.ensures.keeps c.requires)

pub returns-clause-undone : goal.returns-clause-undone
returns-clause-undone c =
    let p = c.in_ok-changed.changed in
    let m = tables_in c.args.rows.now.entries in
    let pushed : Entry = (c.in_ok-place.place, c.in_ok-before.before) in
    let same : ◌≡◌ {A = Place} c.in_ok-place.place p = c.in_ok-place.ensures ∙ sym c.in_ok-changed.ensures in
    let is : pushed ≡ (p, map.get m p) = λ i. (same i, c.in_ok-before.ensures.replaced i) in
    ap (λ es. laid es (tables_in c.set_row.new.rows.entries)) (c.in_ok-push.ensures.items ∙ ap (λ es. es ++ pushed ∷ []) c.reserve.ensures.items)
    ∙ laid_push c.args.done.now.items pushed (tables_in c.set_row.new.rows.entries)
    ∙ ap (laid c.args.done.now.items) (ap (λ (e : Entry). row_laid e.0 e.1 (tables_in c.set_row.new.rows.entries)) is ∙ ap (row_laid p (map.get m p)) c.in_ok-before.ensures.made ∙ row_back p c.in_ok-row.row m)

pub returns-clause-has : goal.returns-clause-has
returns-clause-has c =
    let pushed : Entry = (c.in_ok-place.place, c.in_ok-before.before) in
    let same : ◌≡◌ {A = Place} c.in_ok-changed.changed c.in_ok-place.place = c.in_ok-changed.ensures ∙ sym c.in_ok-place.ensures in
    subst (HasPlaces c.set_row.new.rows) (sym (c.in_ok-push.ensures.items ∙ ap (λ es. es ++ pushed ∷ []) c.reserve.ensures.items))
    (places_push c.set_row.new.rows c.args.done.now.items pushed (places_kept c.args.rows.now c.set_row.new.rows c.args.done.now.items c.set_row.ensures.keeps c.requires)
    (subst (λ (q : Place). IsSome (get place_cmp c.set_row.new.rows q)) same c.in_ok-before.ensures.has))
