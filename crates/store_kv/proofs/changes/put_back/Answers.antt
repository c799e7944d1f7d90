use Rattle.std.proofs.Common.{◌++◌, sym, ap, ◌∙◌, subst}
use Rattle.std.specs.Option.{option_to_list}
use Rattle.store_kv.specs.Laid.{Entry, laid}
use Rattle.store_kv.specs.Memory.{tables_in}
use Rattle.store_kv.specs.inner.Changes.{HasPlaces}
use Rattle.store_kv.proofs.Moves.{places_kept, places_popped, laid_push}
use Rattle.store_kv.proofs.changes.put_back.Goals as goal

pub put_back_one-requires : goal.put_back_one-requires
put_back_one-requires c =
    let rest = c.pop.new.self.items in
    let is = c.pop.ensures.items ∙ ap (λ o. rest ++ option_to_list o) c.in-Some.is in
    (places_popped c.undo.rows rest c.in-Some.replaced (subst (HasPlaces c.undo.rows) is c.undo.invariant.1)).1

pub undo-preserved : goal.undo-preserved
undo-preserved c =
    let rest = c.pop.new.self.items in
    let e : Entry = c.in-Some.replaced in
    let is = c.pop.ensures.items ∙ ap (λ o. rest ++ option_to_list o) c.in-Some.is in
    let h = places_popped c.undo.rows rest e (subst (HasPlaces c.undo.rows) is c.undo.invariant.1) in (
      ap (laid rest) c.put_back_one.ensures.shown ∙ sym (laid_push rest e (tables_in c.undo.rows.entries)) ∙ ap (λ es. laid es (tables_in c.undo.rows.entries)) (sym is) ∙ c.undo.invariant.0,
      places_kept c.undo.rows c.put_back_one.new.rows rest c.put_back_one.ensures.keeps h.0,
    )
