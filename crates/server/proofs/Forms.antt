-- Replies that refuse are replies of HTTP.
use Rattle.std.proofs.Common.{◌≡◌, ◌⊎◌, inl, inr, ℕ, Bool, true, false, ◌||◌, eqb, IsTrue, List, [], ◌∷◌, subst, refl, sym, ap, ◌∙◌, arith}
use Rattle.std.specs.Prelude.{◌==◌, IsSome}
use Rattle.std.specs.List.{list_any}
use Rattle.std.proofs.lemmas.Bool.{eqb-true}
use Rattle.http.specs.StatusCode.{reason_phrase}
use Rattle.model.specs.declared.reply.Reply.{Reply}
use Rattle.model_requests.specs.declared.routed.Routed.{Routed}
use Rattle.model.specs.Refusals.{is_refusal_status}
use Rattle.api.specs.Forms as rest
use Rattle.server_http.specs.Reply.{reply, reply_to}
use Rattle.server.specs.Requests.{HasForm, JudgedForm, in_bytes}
use Rattle.store_abstraction.specs.declared.judged.Judged.{Judged}
use Rattle.store_abstraction.specs.declared.judged.Judged.TheVariants.{Changed, Same}

abbrev Among : ℕ → List ℕ → Type 0
Among s [] = ⊥
Among s (x ∷ xs) = (x ≡ s) ⊎ Among s xs

among : (s : ℕ) (xs : List ℕ) → IsTrue (list_any (λ x. x == s) xs) → Among s xs
among s [] h = absurd cc
among s (x ∷ xs) h = by (eqb x s) refl h (among s xs)
  where
    by : (b : Bool) → eqb x s ≡ b → (b || list_any (λ y. y == s) xs) ≡ true → (IsTrue (list_any (λ y. y == s) xs) → Among s xs) → (x ≡ s) ⊎ Among s xs
    by true e h rest = inl (eqb-true x s e)
    by false e h rest = inr (rest h)

module _ (r : Reply) where
  abbrev Form : ℕ → Type 0
  Form s = IsSome (reason_phrase s) × (s ≡ 204 → r.body ≡ [])

  has_form : Among r.status (400 ∷ 401 ∷ 403 ∷ 404 ∷ 405 ∷ 411 ∷ 413 ∷ 431 ∷ 501 ∷ []) → Form r.status
  has_form (inl e) = subst Form e (refl, λ w. absurd (omega (arith, w)))
  has_form (inr (inl e)) = subst Form e (refl, λ w. absurd (omega (arith, w)))
  has_form (inr (inr (inl e))) = subst Form e (refl, λ w. absurd (omega (arith, w)))
  has_form (inr (inr (inr (inl e)))) = subst Form e (refl, λ w. absurd (omega (arith, w)))
  has_form (inr (inr (inr (inr (inl e))))) = subst Form e (refl, λ w. absurd (omega (arith, w)))
  has_form (inr (inr (inr (inr (inr (inl e)))))) = subst Form e (refl, λ w. absurd (omega (arith, w)))
  has_form (inr (inr (inr (inr (inr (inr (inl e))))))) = subst Form e (refl, λ w. absurd (omega (arith, w)))
  has_form (inr (inr (inr (inr (inr (inr (inr (inl e)))))))) = subst Form e (refl, λ w. absurd (omega (arith, w)))
  has_form (inr (inr (inr (inr (inr (inr (inr (inr (inl e))))))))) = subst Form e (refl, λ w. absurd (omega (arith, w)))
  has_form (inr (inr (inr (inr (inr (inr (inr (inr (inr e))))))))) = absurd e

  pub refusal_form : IsTrue (is_refusal_status r.status) → HasForm r
  refusal_form h = has_form (among r.status (400 ∷ 401 ∷ 403 ∷ 404 ∷ 405 ∷ 411 ∷ 413 ∷ 431 ∷ 501 ∷ []) h)

found_form : (r : Reply) → r.status ≡ 200 → HasForm r
found_form r e = subst (Form r) (sym e) (refl, λ w. absurd (omega (arith, w)))

done_form : (r : Reply) → r.status ≡ 204 → r.body ≡ [] → HasForm r
done_form r e empty = subst (Form r) (sym e) (refl, λ w. empty)

created_form : (r : Reply) → r.status ≡ 201 → HasForm r
created_form r e = subst (Form r) (sym e) (refl, λ w. absurd (omega (arith, w)))

pub judged_form : (routed : Routed) (j : Judged Reply) → rest.IsRequestReply routed j → JudgedForm j
judged_form routed (Same r) (inl h) = refusal_form r h
judged_form routed (Same r) (inr e) = found_form r e
judged_form routed (Changed r) (may, inl h) = done_form r h.0 h.1
judged_form routed (Changed r) (may, inr (inl e)) = found_form r e
judged_form routed (Changed r) (may, inr (inr e)) = created_form r e

-- each status of a refusal has a phrase
pub refusal_known : (s : ℕ) → IsTrue (is_refusal_status s) → IsSome (reason_phrase s)
refusal_known s h = (refusal_form (record { status = s; body = [] }) h).0

-- ---- bytes of replies

-- a reply in bytes is that of the status and the body
pub same_reply : (s t : ℕ) (b d : List ℕ) (close : Bool) → s ≡ t → b ≡ d → reply s b close ≡ reply t d close
same_reply s t b d close e f = ap (λ (x : List ℕ). reply s x close) f ∙ ap (λ (x : ℕ). reply x d close) e

pub same_reply_to : (m : List ℕ) (s t : ℕ) (b d : List ℕ) (close : Bool) → s ≡ t → b ≡ d → reply_to m s b close ≡ reply_to m t d close
same_reply_to m s t b d close e f = ap (λ (x : List ℕ). reply_to m s x close) f ∙ ap (λ (x : ℕ). reply_to m x d close) e

pub bytes_same : (m : List ℕ) (close : Bool) (j : Judged Reply) (r : Reply) (b body : List ℕ) → j ≡ Same r → b ≡ reply_to m r.status body close → body ≡ r.body
    → Same b ≡ in_bytes m close j
bytes_same m close j r b body is e f =
    ap (λ (x : List ℕ). Same x) (e ∙ ap (λ (x : List ℕ). reply_to m r.status x close) f) ∙ ap (in_bytes m close) (sym is)

pub bytes_changed : (m : List ℕ) (close : Bool) (j : Judged Reply) (r : Reply) (b body : List ℕ) → j ≡ Changed r → b ≡ reply_to m r.status body close → body ≡ r.body
    → Changed b ≡ in_bytes m close j
bytes_changed m close j r b body is e f =
    ap (λ (x : List ℕ). Changed x) (e ∙ ap (λ (x : List ℕ). reply_to m r.status x close) f) ∙ ap (in_bytes m close) (sym is)
