-- The verdicts on a share and on its end, by what was found.
use Rattle.std.proofs.Common.{◌≡◌, ◌∙◌, ℕ, not, List, [], ◌∷◌, codes, length, Option, None, refl, sym, ap, ap₂, subst}
use Rattle.std.specs.List.{list_any}
use Rattle.std.specs.Option.{option_and_then}
use Rattle.std.specs.Prelude.{Err, IsErrAnd, Ok, Result}
use Rattle.store_edit.specs.Edits.{FailsBy}
use Rattle.store_rows.specs.declared.share.ShareRow.{ShareRow}
use Rattle.model.specs.Cases.{in_case}
use Rattle.model.specs.declared.limit.Limit.TheVariants as limit
use Rattle.model.specs.declared.people_bodies.Spelled.{Spelled}
use Rattle.model.specs.declared.record.Record.{Record}
use Rattle.model.specs.declared.refusal.Refusal.TheVariants.{InvalidReference, MalformedId, NotFound}
use Rattle.model.specs.declared.sharing_bodies.NewShare.{NewShare}
use Rattle.model.specs.Objects.{record_at}
use Rattle.model.specs.Paths.{Asked, if_readable}
use Rattle.model.specs.Principals.{bad_id, not_there, principal_of, spelled_id}
use Rattle.model.specs.Rights.{denied}
use Rattle.model.specs.Rules.{Rule, first_refusal, in_body_order, over_limit, refuse_if}
use Rattle.model.specs.Shares.{detail_refused, same_share, share, share_of, share_rules, shares_of, unshare, unshare_rules, unshare_with, with_share}
use Rattle.model.specs.Sound.{IsSound}
use Rattle.model.specs.Verdict.{Verdict, accept, done, judged, refuse}
use Rattle.store_abstraction.specs.declared.fail.EditFail.{EditFail}
use Rattle.store_abstraction.proofs.Names.{MakesIds}
use Rattle.base_value.specs.declared.sharing.Level.TheVariants.{Full}
use Rattle.base_value.specs.declared.sharing.Principal.{Principal}
use Rattle.store_edit.specs.Judging.{FailsRule, Passes}
use Rattle.store_edit.proofs.StepByStep.{accepted, four_pass, fourth_fails, none_next, rule_fails, third_fails}
use Rattle.access_shares.specs.declared.unsharing.NamedShare.{NamedShare}
use Rattle.access_shares.specs.inner.Accepting.{AcceptsEnd, AcceptsShare, IsNamedBy, end_verdict, share_named, shared_in, unshared_in}
use Rattle.access_shares.specs.Shareable.{FindsShareable, IsShareable}
use Rattle.access_shares.specs.inner.Finding.{NamesItem, member_rules}
use Rattle.access_shares.proofs.Unspelled.{no_record}

-- ---- a new share

module _ (a : Asked) (b : NewShare) where
  abbrev taken : Verdict
  taken = accept done (shared_in a.tenant (share_of b))

  abbrev formed : Rule
  formed = in_body_order b.members (member_rules b)

  abbrev on_found : Option Record → Verdict
  on_found found = in_case found (refuse a.tenant NotFound) (λ r. judged a.tenant (share_rules a (share_of b) r) taken)

  abbrev on_id : List ℕ → Verdict
  on_id id = on_found (option_and_then (if_readable a) (record_at a.tenant id))

  abbrev room : Rule
  room = over_limit ((limit.SharesPerRecord, length (shares_of (share_of b).item (with_share (share_of b) a.tenant.shares))) ∷ [])

  -- a failure is passed on
  pub share_passed : (org : ℕ) (e : EditFail) (r : Result ShareRow EditFail) → IsErrAnd r (λ y. y ≡ e) → FailsBy (share a b) e → AcceptsShare org a b r
  share_passed org e (Ok x) passed h = absurd passed
  share_passed org e (Err y) passed h = subst (λ (z : EditFail). FailsBy (share a b) z) (sym passed) h

  module _ (good : formed ≡ None) where
    formed_passes : share a b ≡ on_id (spelled_id b.item)
    formed_passes = accepted (first_refusal (formed ∷ [])) a.tenant (on_id (spelled_id b.item)) (none_next formed [] good refl)

    -- the text is no id, and so there is no such record
    pub no_item : MakesIds → IsSound a.tenant → (e : EditFail) → NamesItem b.item (Err e) → FailsBy (share a b) e
    no_item makes sound e h =
        subst (λ (z : EditFail). FailsBy (share a b) z) (sym h.0)
        (ap (λ (v : Verdict). v.answer) formed_passes ∙ ap (λ (i : List ℕ). (on_id i).answer) h.1
        ∙ ap (λ (x : Option Record). (on_found (option_and_then (if_readable a) x)).answer) (no_record makes a.tenant sound))

    module _ (id : List ℕ) (is : id ≡ spelled_id b.item) where
      on_it : share a b ≡ on_id id
      on_it = formed_passes ∙ ap on_id (sym is)

      -- the record isn't to be shared
      pub unshareable : (e : EditFail) → FindsShareable a id (Err e) → FailsBy (share a b) e
      unshareable e h =
          subst (λ (v : Verdict). FailsBy v e) (sym on_it) (h (λ r. not_there a.tenant (codes "to") (principal_of b.to) ∷ room ∷ []) (λ r. taken))

      module _ (h : IsShareable a id) where
        on_item : share a b ≡ judged a.tenant (share_rules a (share_of b) h.item) taken
        on_item = on_it ∙ ap on_found h.readable

        -- the principal isn't there
        pub principal_fails : (e : EditFail) → FailsRule (not_there a.tenant (codes "to") (principal_of b.to)) e → FailsBy (share a b) e
        principal_fails e f =
            subst (λ (v : Verdict). FailsBy v e) (sym on_item)
            (rule_fails (first_refusal (share_rules a (share_of b) h.item)) a.tenant taken e
            (third_fails (detail_refused a.tenant h.item) (denied a Full h.item) (not_there a.tenant (codes "to") (principal_of b.to)) (room ∷ []) e h.whole h.full f))

        module _ (there : not_there a.tenant (codes "to") (principal_of b.to) ≡ None) where
          -- the record has too many shares
          pub room_fails : (e : EditFail) → FailsRule room e → FailsBy (share a b) e
          room_fails e f =
              subst (λ (v : Verdict). FailsBy v e) (sym on_item)
              (rule_fails (first_refusal (share_rules a (share_of b) h.item)) a.tenant taken e
              (fourth_fails (detail_refused a.tenant h.item) (denied a Full h.item) (not_there a.tenant (codes "to") (principal_of b.to)) room [] e h.whole h.full there f))

          -- no rule refuses
          pub share_taken : room ≡ None → share a b ≡ taken
          share_taken few =
              on_item
              ∙ accepted (first_refusal (share_rules a (share_of b) h.item)) a.tenant taken
              (four_pass (detail_refused a.tenant h.item) (denied a Full h.item) (not_there a.tenant (codes "to") (principal_of b.to)) room h.whole h.full there few)

-- ---- the end of one

module _ (a : Asked) (x : NamedShare) where
  abbrev gone : Verdict
  gone = accept done (unshared_in a.tenant (share_named x))

  abbrev shared_rule : Rule
  shared_rule = refuse_if (not (list_any (same_share (share_named x)) a.tenant.shares)) (InvalidReference (codes "to"))

  -- a failure is passed on
  pub end_passed : (e : EditFail) (r : Result (Unit {0}) EditFail) → IsErrAnd r (λ y. y ≡ e) → FailsBy (end_verdict a (share_named x)) e → AcceptsEnd a x r
  end_passed e (Ok y) passed h = absurd passed
  end_passed e (Err y) passed h = subst (λ (z : EditFail). FailsBy (end_verdict a (share_named x)) z) (sym passed) h

  -- the record isn't to be shared
  pub end_unshareable : (e : EditFail) → FindsShareable a x.item (Err e) → FailsBy (end_verdict a (share_named x)) e
  end_unshareable e h = h (λ r. shared_rule ∷ []) (λ r. gone)

  module _ (h : IsShareable a x.item) where
    end_on_item : end_verdict a (share_named x) ≡ judged a.tenant (unshare_rules a (share_named x) h.item) gone
    end_on_item = ap (λ (found : Option Record). in_case found (refuse a.tenant NotFound) (λ r. judged a.tenant (unshare_rules a (share_named x) r) gone)) h.readable

    -- whether it is shared
    pub end_by : (r : Result (Unit {0}) EditFail) → Passes shared_rule (λ y. Unit {0}) r → AcceptsEnd a x r
    end_by (Ok y) p =
        end_on_item
        ∙ accepted (first_refusal (unshare_rules a (share_named x) h.item)) a.tenant gone
        (none_next (detail_refused a.tenant h.item) (denied a Full h.item ∷ shared_rule ∷ []) h.whole
        (none_next (denied a Full h.item) (shared_rule ∷ []) h.full (none_next shared_rule [] p.0 refl)))
    end_by (Err e) p =
        subst (λ (v : Verdict). FailsBy v e) (sym end_on_item)
        (rule_fails (first_refusal (unshare_rules a (share_named x) h.item)) a.tenant gone e
        (third_fails (detail_refused a.tenant h.item) (denied a Full h.item) shared_rule [] e h.whole h.full p))

  -- the parts of a path that name it come to its end
  pub unshare_is : (item part : List ℕ) (to : Option Spelled) → IsNamedBy item to x → unshare a item part to ≡ end_verdict a (share_named x)
  unshare_is item part to n =
      let rest : Option Spelled → Verdict = λ (o : Option Spelled). in_case o (refuse a.tenant (MalformedId part)) (λ (p : Spelled). judged a.tenant (bad_id p.text ∷ []) (unshare_with a item p)) in
      accepted (first_refusal (bad_id item ∷ [])) a.tenant (rest to) (none_next (bad_id item) [] n.item_text refl)
      ∙ ap rest n.there
      ∙ accepted (first_refusal (bad_id n.spelled.text ∷ [])) a.tenant (unshare_with a item n.spelled) (none_next (bad_id n.spelled.text) [] n.to_text refl)
      ∙ sym (ap₂ (λ (i : List ℕ) (p : Principal). end_verdict a (record { item = i; to = p; level = Full })) n.item n.to)
