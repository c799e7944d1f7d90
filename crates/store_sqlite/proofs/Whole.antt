-- A batch over a database with the table, or without one.
use Rattle.std.proofs.Common.{◌≡◌, inl, inr, List, [], Bool, true, false, Result, Ok, Err, IfOk, OnOk, IsTrue, refl, sym, ap, ◌∙◌}
use Rattle.sqlite.specs.declared.error.Error.{Error}
use Rattle.sqlite.specs.Tree.{Trees}
use Rattle.sqlite.specs.State.{State, HasCleanDisk, Survives}
use Rattle.sqlite.proofs.StateLemmas.{survives_weaker}
use Rattle.store_kv.specs.declared.keeper.Change.{Change}
use Rattle.store_kv.specs.Tables.{after}
use Rattle.store_sqlite.specs.Kept.{IsKept, IsReady, no_schema, tables_in, map_in}
use Rattle.store_sqlite.proofs.Blank.{map_kept, sound_kept}

abbrev pub Applied : State → State → List Change → Bool → Type 0
Applied old new changes done = IsTrue done × (IsTrue new.is_open → IsReady new × (map_in new.now.trees ≡ after changes (map_in old.now.trees)))

module _ (old new : State) (changes : List Change) where
  pub some_applied : (r : Result Bool Error) → (IsKept old → HasCleanDisk new → IfOk r (λ done. IsTrue done × IsKept new × (tables_in new.now.trees ≡ after changes (tables_in old.now.trees))))
      → (old.in_transaction ≡ false → HasCleanDisk new → OnOk r (old.now.schema ≡ no_schema → ⊥)) → IsReady old → HasCleanDisk new → IfOk r (Applied old new changes)
  some_applied (Err e) kept tabled it clean = tt
  some_applied (Ok done) kept tabled (inl it) clean =
      let did = kept it clean in
      (did.0, λ _. (inl did.1, map_kept new.now.trees (sound_kept new did.1) ∙ did.2 ∙ ap (after changes) (sym (map_kept old.now.trees (sound_kept old it)))))
  some_applied (Ok done) kept tabled (inr it) clean = absurd (tabled it.autocommit clean it.schema)

  pub some_crash : (IsKept old → Survives old new (λ db. map_in db ≡ after changes (tables_in old.now.trees))) → (old.now.schema ≡ no_schema → Survives old new (λ _. ⊥)) → IsReady old
      → Survives old new (λ db. map_in db ≡ after changes (map_in old.now.trees))
  some_crash kept none (inl it) = survives_weaker old new _ _ (λ _ db h. h ∙ ap (after changes) (sym (map_kept old.now.trees (sound_kept old it)))) (kept it)
  some_crash kept none (inr it) = survives_weaker old new _ _ (λ _ db h. absurd h) (none it.schema)

  pub none_applied : changes ≡ [] → (IsReady old → IsTrue new.is_open → IsReady new × (new.now ≡ old.now)) → IsReady old → Applied old new changes true
  none_applied empty stays it = (refl, λ shown. let k = stays it shown in (k.0, ap (λ (d : Rattle.sqlite.specs.Effect.Database). map_in d.trees) k.1 ∙ sym (ap (λ cs. after cs (map_in old.now.trees)) empty)))
