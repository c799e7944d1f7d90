use Rattle.std.proofs.Common.{◌≡◌, ℕ, [], ◌++◌, List, Option, Some, length, refl, sym, ap, subst, ◌∙◌}
use Rattle.std.specs.Prelude.{◌==◌}
use Rattle.store_kv.specs.Tables.{Tables}
use Rattle.store_abstraction.specs.Calls.{done}
use Rattle.store_abstraction.specs.Local.{StandsIn}
use Rattle.record_references.specs.Referring.{all_referring, referring_after}
use Rattle.record_references.proofs.Fronts.{Follows, last_of, last_read, no_item, page_more, page_none}
use Rattle.record_references.proofs.relations.all_referring.Goals as goal

pub pages-init : goal.pages-init
pages-init g c = record {
  calls = c.call_laws.ensures.none done c.args.draft.now refl;
  front = λ told q t s h. let all = all_referring c.args.layout.now.object c.args.number c.args.target.now t in (all, ap (λ (is : List (List ℕ)). is ++ all) (sym c.new-all.ensures.items));
}

pub returns-then-is_empty-clause-finds : goal.returns-then-is_empty-clause-finds
returns-then-is_empty-clause-finds g c told q t s h =
    let a = c.args.draft.now in
    let b = c.pages.draft in
    let d = c.referring.new.draft in
    let l = c.args.layout.now in
    let before = c.pages.invariant in
    let target = c.args.target.now in
    let tell = c.draft_laws.ensures.both 0 0 a b d before.calls.reads c.referring.ensures.calls.reads told in
    let stands = subst (λ (m : Tables). StandsIn l.org q m (Some t)) (sym tell.2) s in
    let last = last_read c.pages.all.items c.last.result (c.last.ensures.value ∙ ap last_of c.deref.ensures.value) in
    let page = c.in_ok-ids.ensures.finds tell.1 q t stands h ∙ ap (λ (after : Option (List ℕ)). referring_after l.object c.args.number target after 200 t) last in
    let none : c.in_ok-ids.ids ≡ [] = no_item c.in_ok-ids.ids (ap (λ (is : List (List ℕ)). length is == 0) (sym c.as_slice.ensures) ∙ sym c.is_empty.ensures ∙ c.if-is_empty.true) in
    c.from_vec.ensures ∙ page_none t s.sound l.object c.args.number target 199 c.pages.all.items (before.front tell.0 q t s h) (sym none ∙ page)

pub returns-then-is_empty-clause-calls : goal.returns-then-is_empty-clause-calls
returns-then-is_empty-clause-calls g c = c.call_laws.ensures.then 0 0 done c.args.draft.now c.pages.draft c.referring.new.draft c.pages.invariant.calls c.in_ok-ids.ensures.calls

pub pages-preserved : goal.pages-preserved
pages-preserved g c =
    let a = c.args.draft.now in
    let b = c.pages.draft in
    let d = c.referring.new.draft in
    let l = c.args.layout.now in
    let before = c.pages.invariant in
    let target = c.args.target.now in
    record {
      calls = c.call_laws.ensures.then 0 0 done a b d before.calls c.in_ok-ids.ensures.calls;
      front = λ told q t s h.
          let tell = c.draft_laws.ensures.both 0 0 a b d before.calls.reads c.referring.ensures.calls.reads told in
          let stands = subst (λ (m : Tables). StandsIn l.org q m (Some t)) (sym tell.2) s in
          let last = last_read c.pages.all.items c.last.result (c.last.ensures.value ∙ ap last_of c.deref.ensures.value) in
          let page = c.in_ok-ids.ensures.finds tell.1 q t stands h ∙ ap (λ (after : Option (List ℕ)). referring_after l.object c.args.number target after 200 t) last in
          subst (λ (is : List (List ℕ)). Follows is (all_referring l.object c.args.number target t)) (sym (c.in_ok-extend_from_slice.ensures.items ∙ ap (λ (is : List (List ℕ)). c.pages.all.items ++ is) c.as_slice-in-pages.ensures))
          (page_more t s.sound l.object c.args.number target 200 c.pages.all.items c.in_ok-ids.ids (before.front tell.0 q t s h) page);
    }
