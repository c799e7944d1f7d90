-- Calls in turn.
use Rattle.std.proofs.Common.{◌≡◌, IsTrue, List, [], ◌∷◌, sym, subst}
use Rattle.store_kv.specs.State.{IsSettled, KeeperState}
use Rattle.store_kv.specs.Tables.{Tables, no_rows}
use Rattle.model.specs.World.{World}
use Rattle.store_abstraction.specs.Stands.{Stands}
use Rattle.platform_history.specs.Calls.{AreCalls, AreInTurn, Call, IsMade, runs_of}
use Rattle.platform_history.specs.Histories.{Goes, Histories}
use Rattle.platform_history.proofs.Going.{goes}

module _ {K : Type 0} (state : K → KeeperState) (settled : (k : K) → (state k).tells → IsTrue (state k).trusted → IsSettled (state k)) where
  -- one call, from any world
  pub one : (w : World) (c : Call K) → Stands (state c.keeper).tables w → (state c.keeper).tells → IsTrue (state c.keeper).trusted → IsTrue (state c.next).is_clean → IsMade state c
      → (m : Tables) → (state c.next).may_leave m → (end : World) × Goes w end c.run.command c.run.before c.run.after c.run.status × Stands m end
  one w c s tells st clean p m left =
      goes (state c.keeper) (state c.next) c.run.before c.run.after c.run.status w m (settled c.keeper tells st) (settled c.next) p.faults_before p.faults_after tells st clean s left
      c.run.command p.status p.promise
      (λ unused. subst (λ (x : K). (state x).may_leave m) (p.unused unused) left)
      (λ unused. subst (λ (x : K). IsTrue (state x).trusted) (sym (p.unused unused)) st)

  -- the tables that are there next
  pub first : (Left : Tables → Type 0) (calls : List (Call K)) → AreCalls state Left calls → (m : Tables) × Left m
  first Left [] h = h
  first Left (c ∷ calls) h = ((state c.keeper).tables, h.0)

  pub histories : (Left : Tables → Type 0) (calls : List (Call K)) (h : AreCalls state Left calls) (w : World) → Stands (first Left calls h).0 w → Histories w (runs_of calls)
  unfolding first
  histories Left [] h w s = tt
  histories Left (c ∷ calls) h w s =
      let next = first (state c.next).may_leave calls h.5 in
      let g = one w c s h.1 h.2 h.3 h.4 next.0 next.1 in
      (g.0, g.1, histories (state c.next).may_leave calls h.5 g.0 g.2)

  pub history : Stands no_rows [] → (calls : List (Call K)) → AreCalls state (λ m. m ≡ no_rows) calls → Histories [] (runs_of calls)
  history empty calls h =
      let f = first (λ m. m ≡ no_rows) calls h in
      histories (λ m. m ≡ no_rows) calls h [] (subst (λ (t : Tables). Stands t []) (sym f.1) empty)

  to_calls : (Left : Tables → Type 0) (k : K) (calls : List (Call K)) → Left (state k).tables → (state k).tells → IsTrue (state k).trusted → AreInTurn state k calls → AreCalls state Left calls
  to_calls Left k [] left tells st h = ((state k).tables, left)
  to_calls Left k (c ∷ calls) left tells st h = (
    subst (λ (x : K). Left (state x).tables) (sym h.0) left,
    subst (λ (x : K). (state x).tells) (sym h.0) tells,
    subst (λ (x : K). IsTrue (state x).trusted) (sym h.0) st,
    h.4,
    h.1,
    to_calls (state c.next).may_leave c.next calls (settled c.next h.2 h.3).leaves h.2 h.3 h.5,
  )

  pub in_turn : Stands no_rows [] → (k : K) (calls : List (Call K)) → (state k).tells → IsTrue (state k).trusted → (state k).tables ≡ no_rows → AreInTurn state k calls → Histories [] (runs_of calls)
  in_turn empty k calls tells st none h = history empty calls (to_calls (λ m. m ≡ no_rows) k calls none tells st h)
