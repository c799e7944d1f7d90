-- What requests lead to, one after the other.
use Rattle.std.proofs.Common.{◌≡◌, ◌⊎◌, inl, inr, ℕ, Bool, true, false, IsTrue, List, [], ◌∷◌, ◌++◌, Result, Ok, Err, refl, ap, ◌∙◌}
use Rattle.store_kv.specs.State.{KeeperState, LeavesNoMore, Shows, Steps, Tells}
use Rattle.store_kv.specs.Tables.{Tables}
use Rattle.store_rows.specs.declared.fail.StoreFail.{StoreFail}
use Rattle.model.specs.Step.{Message}
use Rattle.model.specs.World.{World}
use Rattle.store_abstraction.specs.Operations.{Does}
use Rattle.store_abstraction.specs.Stands.{Stands}
use Rattle.server.specs.Leads.{IsReached, Leads, LeadsFrom, StandsReached, led_to}
use Rattle.server.specs.Requests.{does}
use Rattle.server.specs.Senses.{StandsAs, of_all}
use Rattle.model_requests.specs.Step.{step}

led_more : (w : World) (ps qs : List (Message × ℕ)) → led_to (led_to w ps) qs ≡ led_to w (ps ++ qs)
led_more w [] qs = refl
led_more w (p ∷ ps) qs = led_more (step w p.0 p.1).1 ps qs

reached_on : (w v end : World) → IsReached w v → IsReached v end → IsReached w end
reached_on w v end (ps, e) (qs, f) = (ps ++ qs, f ∙ ap (λ (u : World). led_to u qs) e ∙ led_more w ps qs)

further : (w v : World) (m : Tables) → IsReached w v → StandsReached v m → StandsReached w m
further w v m r (end, s, stands) = (end, reached_on w v end r s, stands)

here : (w : World) (m : Tables) → Stands m w → StandsReached w m
here w m stands = (w, ([], refl), stands)

-- only reads
pub led_by_reading : (w : World) (a b : KeeperState) → (IsTrue b.trusted → Shows b a.tables) → LeavesNoMore a b → Stands a.tables w → Leads w a b
led_by_reading w a b shows less stands = record {
  tables = λ is. let s = shows is in (s.0, (w, ([], refl), rw s.1 stands));
  crash = λ clean m h. inl (less clean m h);
}

pub led_same : (a : KeeperState) → LeadsFrom a a
led_same a tells is w stands = led_by_reading w a a (λ _. (tells, refl)) (λ _ m h. h) stands

-- calls after calls
pub led_on : (w : World) (a b c : KeeperState) → Leads w a b → Steps b c → LeadsFrom b c → Leads w a c
led_on w a b c h steps next = record { tables = tables; crash = crash }
  where
    tables : IsTrue c.trusted → c.tells × StandsReached w c.tables
    tables is =
        let at = h.tables (steps.stood is) in
        let on = (next at.0 (steps.stood is) at.1.0 at.1.2).tables is in
        (on.0, further w at.1.0 c.tables at.1.1 on.1)

    before : (b.trusted ≡ true) ⊎ (b.trusted ≡ false) → IsTrue c.is_clean → (m : Tables) → c.may_leave m → a.may_leave m ⊎ StandsReached w m
    before (inr shut) clean m l = h.crash (steps.was_clean clean) m (steps.shut shut clean m l)
    before (inl open_) clean m l =
        let at = h.tables open_ in
        elim ((next at.0 open_ at.1.0 at.1.2).crash clean m l) [
          | inl old ↦ h.crash (steps.was_clean clean) m old
          | inr (end, r, stands) ↦ inr (end, reached_on w at.1.0 end at.1.1 r, stands)
        ]

    either : (x : Bool) → (x ≡ true) ⊎ (x ≡ false)
    either true = inl refl
    either false = inr refl

    crash : IsTrue c.is_clean → (m : Tables) → c.may_leave m → a.may_leave m ⊎ StandsReached w m
    crash clean m l = before (either b.trusted) clean m l

pub led_then : (a b c : KeeperState) → LeadsFrom a b → Steps b c → LeadsFrom b c → LeadsFrom a c
led_then a b c h steps next tells is w stands = led_on w a b c (h tells is w stands) steps next

-- one request
pub led_by_request : (m : Message) (close : Bool) (now : ℕ) (old new : KeeperState) (r : Result (List ℕ) StoreFail)
    → (Tells old new → (w : World) → Stands old.tables w → Does (StandsAs of_all) (does m close now) w new r)
    → (old.tells → IsTrue old.trusted → IsTrue new.is_clean → (w : World) → Stands old.tables w → (t : Tables) → new.may_leave t → old.may_leave t ⊎ Stands t (step w m now).1)
    → LeadsFrom old new
led_by_request m close now old new r within crash tells is w stands = record {
  tables = λ on. by r (within (tells, on) w stands);
  crash = λ clean t l. elim (crash tells is clean w stands t l) [
    | inl before ↦ inl before
    | inr done ↦ inr ((step w m now).1, ((m, now) ∷ [], refl), done)
  ];
}
  where
    by : (s : Result (List ℕ) StoreFail) → Does (StandsAs of_all) (does m close now) w new s → new.tells × StandsReached w new.tables
    by (Ok bytes) h = (h.1.0, ((step w m now).1, ((m, now) ∷ [], refl), h.1.1))
    by (Err e) h = (h.1.0, (w, ([], refl), h.1.1))
