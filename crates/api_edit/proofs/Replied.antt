-- What a reply says of the edit that it is made for.
use Rattle.std.proofs.Common.{◌≡◌, ◌⊎◌, ◌<◌, inl, inr, ℕ, Bool, true, false, IsTrue, sym, ap, subst, refl, ◌∙◌, List, [], ◌∷◌, Result, Ok, Err}
use Rattle.std.specs.Char.{encode_utf8}
use Rattle.std.specs.Prelude.{IfErr, OnOk}
use Rattle.store_edit.specs.Edits.{DraftsEdit, OthersStay}
use Rattle.store_kv.specs.Draft.{DraftReads, Held, count_of}
use Rattle.store_kv.specs.State.{KeeperState}
use Rattle.store_kv.specs.Tables.{Tables}
use Rattle.store_rows.specs.declared.fail.StoreFail.{StoreFail}
use Rattle.store_rows.specs.declared.fail.StoreFail.TheVariants.{Memory}
use Rattle.model.specs.declared.reply.Reply.{Reply}
use Rattle.model_requests.specs.declared.route.Route.{Route}
use Rattle.model_requests.specs.declared.route.Route.TheVariants.{AddGroup, AddRole, AddUser, Create, Upsert}
use Rattle.model.specs.Organisations.{administrator, fresh}
use Rattle.model.specs.Paths.{Asked}
use Rattle.model.specs.Replies.{reply_of}
use Rattle.model.specs.Verdict.{Verdict}
use Rattle.model.specs.WorkedQueries.{asked_by}
use Rattle.store_abstraction.specs.Calls.{Ending, HasFallen, Makes, ended, ended_edit, is_done, stopped}
use Rattle.store_abstraction.specs.Fails.{IsRefusal, is_judged}
use Rattle.store_abstraction.specs.Local.{KeepsOthers}
use Rattle.store_abstraction.specs.Operations.{Drafts, IsChange, IsSame, RepliesAt, Responds}
use Rattle.store_abstraction.specs.declared.fail.EditFail.{EditFail}
use Rattle.store_abstraction.specs.declared.fail.EditFail.TheVariants.{Refused, Store}
use Rattle.store_abstraction.specs.declared.judged.Judged.{Judged}
use Rattle.api_edit.specs.Administration.{IsChangeReply}
use Rattle.api_edit.specs.declared.answer.Answer.{Answer}
use Rattle.api_edit.specs.declared.answer.Answer.TheVariants as answer
use Rattle.api_edit.specs.inner.Edits.{EditsFrom, EditsTo, IsAnswerTo, answer_of, reply_made, reply_to}

abbrev Edit : Type 0
Edit = Result Answer EditFail

abbrev Returned : Type 0
Returned = Result (Judged Reply) StoreFail

abbrev pub IsReply : Edit → Returned → Type 0
IsReply edit result = (result ≡ reply_to edit) ⊎ ((result ≡ Err Memory) × IsTrue (is_judged edit))

by_reply : (P : Returned → Type 0) (edit : Edit) (result : Returned) → IsReply edit result → P (reply_to edit) → (IsTrue (is_judged edit) → P (Err Memory)) → P result
by_reply P edit result (inl e) replied none = subst P (sym e) replied
by_reply P edit result (inr e) replied none = subst P (sym e.0) (none e.1)

-- the reply to an answer is the same to all who ask, so to this one
pub someone : Asked
someone = asked_by (administrator [] []) (fresh [] [])

abbrev pub with_status : (body : List ℕ) → (status : ℕ) → Reply
with_status body status = record { status = status; body = body }

-- the verdict's reply to an answer is the same to all who ask
made_is : (a : Asked) (x : Answer) → reply_made x ≡ reply_of a (Ok (answer_of x))
made_is a answer.Done = refl
made_is a (answer.Made id) = refl
made_is a (answer.Upserted id created) = refl

replies : (org : ℕ) (a : Asked) (v : Verdict) (after : Tables) (edit : Edit) → EditsTo org a.tenant v after edit → RepliesAt org a v after (reply_to edit)
replies org a v after (Ok x) e = (made_is a x ∙ ap (reply_of a) (sym e.0), e.1)
replies org a v after (Err (Refused r)) e = (ap (reply_of a) (sym e.0), e.1)
replies org a v after (Err (Store f)) e = e

others : (org : ℕ) (m after : Tables) (edit : Edit) → OthersStay org m after edit → IsChange (reply_to edit) → KeepsOthers org m after
others org m after (Ok x) stay change = stay
others org m after (Err (Refused r)) stay change = absurd change
others org m after (Err (Store f)) stay change = absurd change

-- the reply to a request by the edit that was made for it
pub responds : (org : ℕ) (asks : Asked → Type 0) (verdict : Asked → Verdict) (m after : Tables) (edit : Edit) (result : Returned) → IsReply edit result → EditsFrom org asks verdict m after edit
    → Responds org asks verdict m after result
responds org asks verdict m after edit result is e = record {
  others = by_reply (λ r. IsChange r → KeepsOthers org m after) edit result is (others org m after edit e.others) (λ judged none. absurd none);
  replied = λ q a stands asking. by_reply (RepliesAt org a (verdict a) after) edit result is (replies org a (verdict a) after edit (e.edited q a stands asking)) (λ judged same. cc);
}

-- ---- the form of a reply

IsSomeText : List ℕ → Type 0
IsSomeText [] = ⊥
IsSomeText (c ∷ cs) = Unit {0}

made_some : (id : List ℕ) → IsSomeText (reply_made (answer.Made id)).body
unfolding IsSomeText encode_utf8
made_some id = tt

upserted_some : (id : List ℕ) (created : Bool) → IsSomeText (reply_made (answer.Upserted id created)).body
unfolding IsSomeText encode_utf8
upserted_some id created = tt

upserted_status : (id : List ℕ) (created : Bool) → let s = (reply_made (answer.Upserted id created)).status in (s ≡ 201) ⊎ (s ≡ 200)
upserted_status id true = inl refl
upserted_status id false = inr refl

none_made : IsSomeText [] → ⊥
unfolding IsSomeText
none_made h = h

-- of a change
pub change_form : (route : Route) (x : Answer) → IsAnswerTo route x → IsChangeReply route (reply_made x)
change_form (Create object) (answer.Made id) h = (refl, λ e. none_made (subst IsSomeText e (made_some id)))
change_form (Create object) _ h = absurd h
change_form (Upsert object key value) (answer.Upserted id created) h = (upserted_status id created, λ e. none_made (subst IsSomeText e (upserted_some id created)))
change_form (Upsert object key value) _ h = absurd h
change_form AddUser (answer.Made id) h = (refl, λ e. none_made (subst IsSomeText e (made_some id)))
change_form AddUser _ h = absurd h
change_form AddRole (answer.Made id) h = (refl, λ e. none_made (subst IsSomeText e (made_some id)))
change_form AddRole _ h = absurd h
change_form AddGroup (answer.Made id) h = (refl, λ e. none_made (subst IsSomeText e (made_some id)))
change_form AddGroup _ h = absurd h
change_form _ answer.Done h = (refl, refl)
change_form _ _ h = absurd h

-- ---- what is left of the draft

changes : (P : Type 0) (edit : Edit) → OnOk edit P → IsChange (reply_to edit) → P
changes P (Ok x) some changing = some
changes P (Err (Refused r)) some changing = absurd changing
changes P (Err (Store f)) some changing = absurd changing

same_if : (P : Type 0) (edit : Edit) → IfErr edit (λ e. IsRefusal e → P) → IsSame (reply_to edit) → P
same_if P (Ok x) refused is = absurd is
same_if P (Err (Refused r)) refused is = refused tt
same_if P (Err (Store f)) refused is = absurd is

ended_so : (edit : Edit) → ended (reply_to edit) ≡ ended_edit edit
ended_so (Ok x) = refl
ended_so (Err (Refused r)) = refl
ended_so (Err (Store f)) = refl

module _ {K : Type 0} (state : K → KeeperState) (most gone shown : ℕ) (old new : Held K) where
  -- out of memory for the reply to an edit that was judged
  stopped_after : (edit : Edit) → IsTrue (is_judged edit) → Makes state most gone shown (ended_edit edit) old new → Makes state most gone shown stopped old new
  stopped_after edit judged h = record {
    works = h.works;
    stays = λ trusted done. absurd (not_done done);
    cause = record { rose = λ none. absurd none; never = λ sure none. none };
    quiet = λ none. h.quiet (not_fallen edit judged);
  }
    where
      not_done : IsTrue (is_done stopped) → ⊥
      not_done d = cc

      not_fallen : (edit : Edit) → IsTrue (is_judged edit) → HasFallen (ended_edit edit) → ⊥
      not_fallen (Ok x) judged f = f
      not_fallen (Err (Refused r)) judged f = f
      not_fallen (Err (Store e)) judged f = absurd cc

  pub drafts : (edit : Edit) (result : Returned) → IsReply edit result → DraftsEdit state most gone shown edit old new → Drafts state most gone shown result old new
  drafts edit result is h = by_reply (λ r. Drafts state most gone shown r old new) edit result is
      (record {
        makes = subst (λ (e : Ending). Makes state most gone shown e old new) (sym (ended_so edit)) h.makes;
        changing = changes (0 < count_of new) edit h.some;
        same = same_if (DraftReads state shown old new) edit h.refused;
      })
      (λ judged. record { makes = stopped_after edit judged h.makes; changing = λ none. absurd none; same = λ none. absurd none })
