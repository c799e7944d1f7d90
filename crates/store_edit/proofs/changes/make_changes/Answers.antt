use Rattle.std.proofs.Common.{◌≡◌, ◌∙◌, ◌+◌, List, [], ◌∷◌, ◌++◌, length, sym, ap, arith, append_assoc, length-append}
use Rattle.std.specs.Vec.Iter.{into_iter_items}
use Rattle.store_kv.specs.Draft.{tables_of}
use Rattle.store_kv.specs.Tables.{after}
use Rattle.store_kv.specs.declared.keeper.Change.{Change}
use Rattle.store_edit.specs.Rows.{gone_of}
use Rattle.store_edit.proofs.Making.{after_push, gone_push, gone_front}
use Rattle.store_edit.proofs.changes.make_changes.Goals as goal

pub loop-change-preserved : goal.loop-change-preserved
loop-change-preserved g c =
    let state = g.K.Keeper.state in
    let inv = c.loop-change.invariant in
    let seen = c.loop-change.yielded in
    let x = c.in-Some.change in
    let before = c.loop-change.draft in
    let now = c.make_change.new.draft in
    let works = c.draft_laws.ensures.works (length seen) (gone_of seen) 0 1 (gone_of (x ∷ [])) 0 c.args.draft.now before now inv.works c.make_change.ensures.works in
    record {
      left = append_assoc seen (x ∷ []) (into_iter_items c.next.new.self) ∙ ap (λ (ys : List Change). seen ++ ys) (sym c.in-Some.ensures.steps.0) ∙ inv.left;
      keeper = c.make_change.ensures.keeper ∙ inv.keeper;
      made = c.in_ok-make_change.ensures.ok ∙ ap (after (x ∷ [])) inv.made ∙ sym (after_push seen x (tables_of state c.args.draft.now));
      some = λ _. c.in_ok-make_change.ensures.some;
      works = c.draft_laws.ensures.works_most (length seen + 1) (gone_of seen + gone_of (x ∷ [])) 0 (length (seen ++ x ∷ [])) (gone_of (seen ++ x ∷ [])) 0 c.args.draft.now now
          (omega (arith, length-append seen (x ∷ []))) (omega (arith, gone_push seen x)) (λ _. omega arith) works;
    }

pub returns-in_err-make_change-clause-works : goal.returns-in_err-make_change-clause-works
returns-in_err-make_change-clause-works g c =
    let inv = c.loop-change.invariant in
    let seen = c.loop-change.yielded in
    let x = c.in-Some.change in
    let now = c.make_change.new.draft in
    let works = c.draft_laws.ensures.works (length seen) (gone_of seen) 0 1 (gone_of (x ∷ [])) 0 c.args.draft.now c.loop-change.draft now inv.works c.make_change.ensures.works in
    let all : (seen ++ x ∷ []) ++ (into_iter_items c.next.new.self) ≡ c.args.changes.items = append_assoc seen (x ∷ []) (into_iter_items c.next.new.self) ∙ ap (λ (ys : List Change). seen ++ ys) (sym c.in-Some.ensures.steps.0) ∙ inv.left in
    c.draft_laws.ensures.works_most (length seen + 1) (gone_of seen + gone_of (x ∷ [])) 0 (length c.args.changes.items) (gone_of c.args.changes.items) 0 c.args.draft.now now
    (omega (arith, ap length all, length-append (seen ++ x ∷ []) (into_iter_items c.next.new.self), length-append seen (x ∷ [])))
    (omega (arith, ap gone_of all, gone_front (seen ++ x ∷ []) (into_iter_items c.next.new.self), gone_push seen x)) (λ _. omega arith) works
