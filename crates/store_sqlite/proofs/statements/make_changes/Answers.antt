use Rattle.std.proofs.Common.{◌≡◌, ◌+◌, ◌<◌, ◌≤◌, ◌∷◌, drop, arith, rules, sym, ap, subst, ◌∙◌, length}
use Rattle.std.proofs.lemmas.List.{drop_more}
use Rattle.std.proofs.Math.ListN.{drop_of_length-le}
use Rattle.sqlite.specs.Tree.{Trees}
use Rattle.sqlite.specs.State.{HasCleanDisk, Survives}
use Rattle.sqlite.specs.Held.{state}
use Rattle.sqlite.proofs.StateLemmas.{survives_then}
use Rattle.store_kv.specs.Tables.{after}
use Rattle.store_sqlite.specs.Kept.{tables_in, map_in}
use Rattle.store_sqlite.proofs.Blank.{map_kept, sound_good}
use Rattle.store_sqlite.proofs.statements.make_changes.Goals as goal

pub loop-change-preserved : goal.loop-change-preserved
loop-change-preserved g c =
    let i = c.loop-change.invariant in
    let old = state g.S.Store c.args.conn.now in
    let mid = state g.S.Store c.loop-change.tx.conn.now in
    let new = state g.S.Store c.make_change.new.tx.conn.now in
    let did = c.in_ok-make_change.ensures in
    let before = λ (clean : HasCleanDisk new). let early : HasCleanDisk mid = omega (arith, c.make_change.ensures.survives.clean) in early in
    record {
      same = did.same_reference ∙ i.same;
      survives = survives_then old mid new _ _ (λ _. ⊥) (λ _ db none. none) (λ _ db none. none) i.survives did.survives;
      undoes = λ clean.
          let u = i.undoes (before clean) in
          let v = did.inside clean (i.inside (before clean)) in
          record { was_open = λ _. u.was_open v.was_open; committed = λ _. v.committed ∙ u.committed v.was_open };
      was_open = λ clean _. (i.undoes (before clean)).was_open (did.inside clean (i.inside (before clean))).was_open;
      tableless = λ clean none. absurd ((did.inside clean (i.inside (before clean))).tabled (i.tableless (before clean) none).1);
      inside = λ clean. (did.inside clean (i.inside (before clean))).inside;
      good = λ it clean. (did.done clean (i.inside (before clean)) (i.good it (before clean))).good;
      rest = λ it clean.
          let made = (did.done clean (i.inside (before clean)) (i.good it (before clean))).made in
          let xs = c.args.changes.now in
          let k = c.loop-change.change-index in
          let here : k < length xs = omega arith in
          let step : drop k xs ≡ c.change-item.result ∷ drop (k + 1) xs = drop_more xs k c.change-item.result here ∙ ap (λ x. x ∷ drop (k + 1) xs) (sym c.change-item.is) in
          ap (after (drop (k + 1) xs)) made ∙ sym (ap (λ l. after l (tables_in mid.now.trees)) step) ∙ i.rest it (before clean);
    }

pub returns-in_err-commit-clause-crash : goal.returns-in_err-commit-clause-crash
returns-in_err-commit-clause-crash g c it =
    let i = c.loop-change.invariant in
    let old = state g.S.Store c.args.conn.now in
    let last = state g.S.Store c.loop-change.tx.conn.now in
    let end = state g.S.Store c.commit.new.self.0 in
    let P = λ (db : Trees). map_in db ≡ after c.args.changes.now (tables_in old.now.trees) in
    let whole : Survives old end P = survives_then old last end _ _ P (λ _ db none. absurd none) (λ clean db is.
    let early : HasCleanDisk last = omega (arith, c.commit.ensures.survives.clean) in
    let past : length c.args.changes.now ≤ c.loop-change.change-index = omega arith in
    ap map_in is ∙ map_kept last.now.trees (sound_good last (i.good it early)) ∙ sym (ap (λ l. after l (tables_in last.now.trees)) (drop_of_length-le c.args.changes.now past)) ∙ i.rest it early) i.survives c.commit.ensures.survives in
    let same : c.commit.new.self.0 ≡ c.conn-2-1.given.0 = search rules in
    subst (λ h. Survives old (state g.S.Store h) P) same whole

pub returns-clause-crash : goal.returns-clause-crash
returns-clause-crash g c it =
    let i = c.loop-change.invariant in
    let old = state g.S.Store c.args.conn.now in
    let last = state g.S.Store c.loop-change.tx.conn.now in
    let end = state g.S.Store c.commit.new.self.0 in
    let P = λ (db : Trees). map_in db ≡ after c.args.changes.now (tables_in old.now.trees) in
    let whole : Survives old end P = survives_then old last end _ _ P (λ _ db none. absurd none) (λ clean db is.
    let early : HasCleanDisk last = omega (arith, c.commit.ensures.survives.clean) in
    let past : length c.args.changes.now ≤ c.loop-change.change-index = omega arith in
    ap map_in is ∙ map_kept last.now.trees (sound_good last (i.good it early)) ∙ sym (ap (λ l. after l (tables_in last.now.trees)) (drop_of_length-le c.args.changes.now past)) ∙ i.rest it early) i.survives c.commit.ensures.survives in
    let same : c.commit.new.self.0 ≡ c.conn-2-1.given.0 = search rules in
    subst (λ h. Survives old (state g.S.Store h) P) same whole
