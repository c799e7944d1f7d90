-- The replies to one organisation's messages, with others between them and without.
use Rattle.std.proofs.Common.{◌≡◌, ℕ, Bool, true, false, cond, List, [], ◌∷◌, map, Option, Some, None, refl, sym, ap, ◌∙◌}
use Rattle.std.specs.Prelude.{filter}
use Rattle.std.proofs.lemmas.Bool.{eqb-true}
use Rattle.std.proofs.lemmas.Bool.Decides.{Decides-eqb}
use Rattle.model.specs.declared.reply.Reply.{Reply}
use Rattle.model.specs.Step.{Answering, org_named, step_by}
use Rattle.model.specs.Sent.{Sent, is_from, is_org, own_replies, replies_by, replies_for}
use Rattle.model.specs.World.{World, tenant_at}
use Rattle.model.proofs.Stepped.{other_stays, own_alone}

named_org : (org : ℕ) (o : Option ℕ) → is_org org o ≡ true → o ≡ Some org
named_org org None h = absurd cc
named_org org (Some k) h = ap Some (eqb-true k org h)

another_org : (org : ℕ) (o : Option ℕ) → is_org org o ≡ false → o ≡ Some org → ⊥
another_org org None h e = absurd cc
another_org org (Some k) h e = absurd (cc (h, (Decides-eqb k org).1 (some_eq k org e)))
  where
    some_eq : (a b : ℕ) → ◌≡◌ {A = Option ℕ} (Some a) (Some b) → a ≡ b
    some_eq a b e = ap (λ (o : Option ℕ). from a o) e
      where
        from : ℕ → Option ℕ → ℕ
        from d None = d
        from d (Some x) = x

module _ (answers : Answering) (org : ℕ) where
  pub alone : (qs : List Sent) (w v : World) → tenant_at w org ≡ tenant_at v org → replies_for org (replies_by answers w qs) ≡ own_replies answers org v qs
  alone [] w v same = refl
  alone (q ∷ qs) w v same = by (is_from org q) refl (λ x y e. alone qs x y e)
    where
      by : (b : Bool) → is_from org q ≡ b → ((x y : World) → tenant_at x org ≡ tenant_at y org → replies_for org (replies_by answers x qs) ≡ own_replies answers org y qs) → replies_for org (replies_by answers w (q ∷ qs)) ≡ own_replies answers org v (q ∷ qs)
      by true is rest =
          let own = own_alone answers q.0 q.1 org w v (named_org org (org_named q.0) is) same in
          ap (λ (b : Bool). map (λ (r : Sent × Reply). r.1) (cond b ((q, (step_by answers w q.0 q.1).0) ∷ filter (λ r. is_from org r.0) (replies_by answers (step_by answers w q.0 q.1).1 qs)) (filter (λ r. is_from org r.0) (replies_by answers (step_by answers w q.0 q.1).1 qs)))) is
          ∙ ap (λ (r : Reply). r ∷ replies_for org (replies_by answers (step_by answers w q.0 q.1).1 qs)) own.0
          ∙ ap (λ (rs : List Reply). (step_by answers v q.0 q.1).0 ∷ rs) (rest (step_by answers w q.0 q.1).1 (step_by answers v q.0 q.1).1 own.1)
          ∙ sym (ap (λ (b : Bool). map (λ (r : Sent × Reply). r.1) (replies_by answers v (cond b (q ∷ filter (is_from org) qs) (filter (is_from org) qs)))) is)
      by false is rest =
          ap (λ (b : Bool). map (λ (r : Sent × Reply). r.1) (cond b ((q, (step_by answers w q.0 q.1).0) ∷ filter (λ r. is_from org r.0) (replies_by answers (step_by answers w q.0 q.1).1 qs)) (filter (λ r. is_from org r.0) (replies_by answers (step_by answers w q.0 q.1).1 qs)))) is
          ∙ rest (step_by answers w q.0 q.1).1 v (other_stays answers q.0 q.1 org w (another_org org (org_named q.0) is) ∙ same)
          ∙ sym (ap (λ (b : Bool). map (λ (r : Sent × Reply). r.1) (replies_by answers v (cond b (q ∷ filter (is_from org) qs) (filter (is_from org) qs)))) is)
