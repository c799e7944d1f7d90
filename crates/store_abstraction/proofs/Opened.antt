-- What a draft tells of tables is told of them since before the keeper was opened.
use Rattle.std.proofs.Common.{◌≡◌, IsTrue, List, sym, ap, subst, ◌∙◌}
use Rattle.store_kv.specs.Draft.{ChangesNothing, DraftReads, DraftTells, Held, keeper_of, tables_of}
use Rattle.store_kv.specs.Laid.{Entry, laid}
use Rattle.store_kv.specs.State.{KeeperState, Shows, Tells}
use Rattle.store_kv.specs.Tables.{Tables}

module _ {K : Type 0} (state : K → KeeperState) where
  -- a draft without changes reads as its keeper
  pub plain : (d : Held K) (k : K) → keeper_of d ≡ k → ChangesNothing d → tables_of state d ≡ (state k).tables
  plain d k is none = ap (λ (es : List Entry). laid es (state (keeper_of d)).tables) none ∙ ap (λ x. (state x).tables) is

  pub after_opening : (k opened : K) (d e : Held K) (l : K) (P : Tables → Type 0)
      → (Tells (state k) (state opened) → Shows (state opened) (state k).tables)
      → keeper_of d ≡ opened → ChangesNothing d → DraftReads state 0 d e → l ≡ keeper_of e
      → (DraftTells state d e → P (tables_of state d)) → Tells (state k) (state l) → P (state k).tables
  after_opening k opened d e l P same is none reads end holds told =
      let stands : IsTrue (state (keeper_of e)).trusted = subst (λ x. IsTrue (state x).trusted) end told.1 in
      let stood : IsTrue (state (keeper_of d)).trusted = reads.reads.steps.stood stands in
      let shown = same (told.0, subst (λ x. IsTrue (state x).trusted) is stood) in
      let tells : (state (keeper_of d)).tells = subst (λ x. (state x).tells) (sym is) shown.0 in
      subst P (plain d opened is none ∙ shown.1) (holds (tells, stands))
