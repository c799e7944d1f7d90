-- Isolation, over the exchanges of connections.
use Rattle.std.proofs.Common.{◌≡◌, ℕ, Bool, true, false, ◌&&◌, cond, eq-eqb, List, [], ◌∷◌, ◌++◌, Option, Some, None, refl, sym, ap, subst, ◌∙◌}
use Rattle.model.specs.declared.reply.Reply.{Reply}
use Rattle.model.specs.Step.{Message, org_named}
use Rattle.model.specs.World.{World, tenant_at}
use Rattle.server.specs.Exchanges.{Exchange, Outcome, apart, done, store, memory, world_by, world_after}
use Rattle.server.specs.Connections.{Place, begins, Follows, Connection, AreServed, exchanges_of}
use Rattle.server.specs.Isolation.{asked_of, counts, is_done, is_org, replies_of, replies_to}
use Rattle.server.specs.Senses.{Sense}
use Rattle.std.proofs.lemmas.Bool.{eqb-true}
use Rattle.model_requests.specs.Step.{step}

-- each request met the world that the one before it left
abbrev Chained : World → List Exchange → World → Type 0
Chained w [] end = end ≡ w
Chained w (x ∷ xs) end = (x.world ≡ w) × Chained (world_after x) xs end

chained_more : (xs ys : List Exchange) (w v end : World) → Chained w xs v → Chained v ys end → Chained w (xs ++ ys) end
chained_more [] ys w v end e h = subst (λ (u : World). Chained u ys end) e h
chained_more (x ∷ xs) ys w v end (here, more) h = (here, chained_more xs ys (world_after x) v end more h)

follows_chained : (sense : Sense) (p q : Place) (xs : List Exchange) → Follows sense p xs q → Chained p.world xs q.world
follows_chained sense p q [] e = ap (λ (y : Place). y.world) e
follows_chained sense p q (x ∷ xs) (next, is, more) = (is.world, subst (λ (u : World). Chained u xs q.world) (ap (λ (y : Place). y.world) is.next) (follows_chained sense next q xs more))

served_chained : (sense : Sense) (cs : List Connection) (w end : World) (moments later : List ℕ) → AreServed sense cs w moments end later → Chained w (exchanges_of cs) end
served_chained sense [] w end moments later h = h.0
served_chained sense (c ∷ cs) w end moments later (next, between, one, more) =
    chained_more c.exchanges (exchanges_of cs) w next end
    (subst (λ (u : World). Chained w c.exchanges u) (sym one.world) (follows_chained sense (begins w moments c.input) one.last c.exchanges one.follows))
    (served_chained sense cs next end between later more)

both : (o : Outcome) (b : Bool) → (is_done o && b) ≡ true → (o ≡ done) × (b ≡ true)
both done b h = (refl, h)
both store b h = absurd cc
both memory b h = absurd cc
both (apart text) b h = absurd cc

named : (org : ℕ) (o : Option ℕ) → is_org org o ≡ true → o ≡ Some org
named org None e = absurd cc
named org (Some k) e = ap Some (eqb-true k org e)

unnamed : (org : ℕ) (o : Option ℕ) → is_org org o ≡ false → o ≡ Some org → ⊥
unnamed org None e is = cc
unnamed org (Some k) e is = let same : k ≡ org = cc in cc (e, eq-eqb k org same)

abbrev Own : Type 0
Own = (w v : World) (m : Message) (now org : ℕ) → org_named m ≡ Some org → tenant_at w org ≡ tenant_at v org
    → ((step w m now).0 ≡ (step v m now).0) × (tenant_at (step w m now).1 org ≡ tenant_at (step v m now).1 org)

abbrev Other : Type 0
Other = (w : World) (m : Message) (now org : ℕ) → (org_named m ≡ Some org → ⊥) → tenant_at (step w m now).1 org ≡ tenant_at w org

module _ (own : Own) (other : Other) where
  module _ (org : ℕ) where
    stays : (x : Exchange) → counts org x ≡ false → tenant_at (world_after x) org ≡ tenant_at x.world org
    stays x h = by x.outcome h
      where
        by : (o : Outcome) → (is_done o && is_org org (org_named x.message)) ≡ false → tenant_at (world_by o x) org ≡ tenant_at x.world org
        by done e = other x.world x.message x.now org (unnamed org (org_named x.message) e)
        by store e = refl
        by memory e = refl
        by (apart text) e = refl

    chain : (w v end : World) (xs : List Exchange) → Chained w xs end → tenant_at w org ≡ tenant_at v org → replies_of org xs ≡ replies_to v (asked_of org xs)
    chain w v end [] h same = refl
    chain w v end (x ∷ xs) (here, more) same = by (counts org x) refl (λ u e. chain (world_after x) u end xs more e)
      where
        met : tenant_at x.world org ≡ tenant_at v org
        met = ap (λ (u : World). tenant_at u org) here ∙ same

        by : (b : Bool) → counts org x ≡ b → ((u : World) → tenant_at (world_after x) org ≡ tenant_at u org → replies_of org xs ≡ replies_to u (asked_of org xs))
            → ◌≡◌ {A = List Reply} (cond b ((step x.world x.message x.now).0 ∷ replies_of org xs) (replies_of org xs)) (replies_to v (cond b ((x.message, x.now) ∷ asked_of org xs) (asked_of org xs)))
        by true e rest =
            let d = both x.outcome (is_org org (org_named x.message)) e in
            let o = own x.world v x.message x.now org (named org (org_named x.message) d.1) met in
            let later = rest (step v x.message x.now).1 (ap (λ (u : World). tenant_at u org) (ap (λ (r : Outcome). world_by r x) d.0) ∙ o.1) in
            λ i. o.0 i ∷ later i
        by false e rest = rest v (stays x e ∙ met)

  pub isolated : (sense : Sense) (org : ℕ) (cs : List Connection) (w v end : World) (moments later : List ℕ) → AreServed sense cs w moments end later → tenant_at w org ≡ tenant_at v org
      → replies_of org (exchanges_of cs) ≡ replies_to v (asked_of org (exchanges_of cs))
  isolated sense org cs w v end moments later served same = chain org w v end (exchanges_of cs) (served_chained sense cs w end moments later served) same
