-- A keeper that falls while a connection is served: the request in which it did, and the turns after that.
use Rattle.std.proofs.Common.{◌≡◌, ◌⊎◌, inl, inr, ℕ, Bool, true, false, ◌||◌, eqb, IsTrue, List, [], ◌∷◌, ◌++◌, map, take, drop, Option, Some, Result, Ok, Err, refl, sym, ap, subst, ◌∙◌, append_assoc, append-nil, take-append-drop}
use Rattle.std.specs.Prelude.{is_ok}
use Rattle.std.specs.List.{AllByRecursion}
use Rattle.std.specs.Io.KnownBytes.{Appends, prepend_known}
use Rattle.std.specs.Io.KnownBytes as known
use Rattle.std.proofs.KnownBytes.{Appends-trans}
use Rattle.std.proofs.lemmas.Bool.{cases_Bool as either}
use Rattle.base_lemmas.proofs.Lists.{each-append as all_more}
use Rattle.server_http.specs.Answer.{Between}
use Rattle.server_http.specs.Item.{whole, IsItem}
use Rattle.server_http.specs.Reply.{reply_to, store_failed, no_memory}
use Rattle.server_http.specs.declared.fail.HttpFail.{HttpFail}
use Rattle.server_http.specs.declared.message.HttpMessage.{HttpMessage}
use Rattle.base_io.specs.Moments.{IsFirstMoment}
use Rattle.store_kv.specs.State.{IsSettled, KeeperState, Steps, TrustedAfter}
use Rattle.store_kv.specs.Tables.{Tables}
use Rattle.model.specs.World.{World}
use Rattle.store_abstraction.specs.Stands.{Stands}
use Rattle.server.specs.declared.request.Answer.{Answer}
use Rattle.server.specs.declared.request.Answer.TheVariants.{Made, Damaged, Unavailable, OutOfMemory}
use Rattle.server.specs.declared.wire.LineFail.{LineFail}
use Rattle.server.specs.declared.wire.LineFail.TheVariants.{Read, Write}
use Rattle.server.specs.Answers.{IsFixed, IsMade, bytes_in}
use Rattle.server.specs.Connections.{Over, Place, Follows, at_memory, at_refusal, begins, joined, last_message, last_words}
use Rattle.server.specs.Exchanges.{Exchange, reply_in}
use Rattle.server.specs.Falls.{Falls, FallsAt, FallsIn, FallsOn, Fell, IsUndone, IsUndoneText, MayLeave, WritesUndone, WroteIn}
use Rattle.server.specs.Requests.{message_in}
use Rattle.server.specs.Senses.{of_all}
use Rattle.server.specs.Turning.{IsHere, RefusesWith, Wrote, over_if_written}
use Rattle.server.proofs.Goes.{Goes, joined_more}
use Rattle.server.proofs.Turned.{appends_then, item_at, nothing}
use Rattle.model_requests.specs.Step.{step}

-- a call that doesn't use the keeper
pub not_fell : (k : KeeperState) → Fell k k → ⊥
not_fell k (tells, stands, fell, clean) = absurd (cc (stands, fell))

-- ---- texts that acknowledge nothing

-- nothing was written
pub undone_none : (full : Bool) (before after : Option (List ℕ)) → known.Keeps before after → WritesUndone full before after
undone_none full before after h = record { texts = []; undone = tt; out = []; rest = []; front = refl; is_full = λ _. refl; output = nothing before after h }

pub undone_later : (full : Bool) (before mid after : Option (List ℕ)) → known.Keeps before mid → WritesUndone full mid after → WritesUndone full before after
undone_later full before mid after h u = record { texts = u.texts; undone = u.undone; out = u.out; rest = u.rest; front = u.front; is_full = u.is_full; output = appends_then before mid after u.out h u.output }

-- whether it is whole isn't said
pub undone_front : (full : Bool) (before after : Option (List ℕ)) → WritesUndone full before after → WritesUndone false before after
undone_front full before after u = record { texts = u.texts; undone = u.undone; out = u.out; rest = u.rest; front = u.front; is_full = λ no. absurd cc; output = u.output }

-- one such text
pub undone_wrote : (before after : Option (List ℕ)) (text : List ℕ) (s : Result (Unit {0}) LineFail) → IsUndoneText text → Wrote before after text s → WritesUndone (is_ok s) before after
undone_wrote before after text (Ok done) is h = record { texts = text ∷ []; undone = (is, tt); out = text; rest = []; front = refl; is_full = λ _. refl; output = h }
undone_wrote before after text (Err Write) is (n, within, h) = record {
  texts = text ∷ [];
  undone = (is, tt);
  out = take n text;
  rest = drop n text;
  front = take-append-drop n text ∙ sym (append-nil text);
  is_full = λ no. absurd cc;
  output = h;
}
undone_wrote before after text (Err Read) is h = absurd h

pub undone_words : (over : Over) (before after : Option (List ℕ)) (text : List ℕ) (s : Result (Unit {0}) LineFail) → last_words over ≡ text ∷ [] → Wrote before after text s → WritesUndone (is_ok s) before after
undone_words over before after text s is h = undone_wrote before after text s (inr (over, is)) h

pub undone_refusal : (e : HttpFail) (before after : Option (List ℕ)) (s : Result (Unit {0}) LineFail) → RefusesWith e before after s → WritesUndone (is_ok s) before after
undone_refusal e before after s (inl h) = undone_words (at_refusal e) before after _ s refl h
undone_refusal e before after s (inr h) = undone_words at_memory before after _ s refl h

pub undone_over : (before after : Option (List ℕ)) (over : Bool) (s : Result (Unit {0}) LineFail) → WritesUndone (is_ok s) before after → WritesUndone (is_ok (over_if_written over s)) before after
undone_over before after over (Ok done) u = u
undone_over before after over (Err e) u = u

-- some after others, which were written whole
pub undone_then : (full : Bool) (before mid after : Option (List ℕ)) → WritesUndone true before mid → WritesUndone full mid after → WritesUndone full before after
undone_then full before mid after u v =
    let all : u.out ≡ joined u.texts = sym (append-nil u.out) ∙ ap (λ r. u.out ++ r) (sym (u.is_full refl)) ∙ u.front in
    record {
      texts = u.texts ++ v.texts;
      undone = all_more IsUndoneText u.texts v.texts u.undone v.undone;
      out = u.out ++ v.out;
      rest = v.rest;
      front = append_assoc u.out v.out v.rest ∙ ap (λ o. u.out ++ o) v.front ∙ ap (λ o. o ++ joined v.texts) all ∙ sym (joined_more u.texts v.texts);
      is_full = v.is_full;
      output = Appends-trans before mid after u.out v.out u.output v.output;
    }

-- a keeper that isn't trusted stays so
pub stays_shut : (old new : KeeperState) → Steps old new → old.trusted ≡ false → new.trusted ≡ false
stays_shut old new steps shut = by new.trusted refl
  where
    by : (b : Bool) → new.trusted ≡ b → new.trusted ≡ false
    by true is = let open_ = steps.stood is in absurd (cc (open_, shut))
    by false is = is

-- ---- the request in which it falls

undone_text : (m : HttpMessage) (a : Answer) → (IsMade a → ⊥) → IsFixed m a → IsUndone m.method m.close (bytes_in m.method a)
undone_text m (Made bytes) never fixed = absurd (never tt)
undone_text m (Damaged bytes) never fixed = inr (inr fixed)
undone_text m (Unavailable close) never fixed = inl (ap (λ (c : Bool). reply_to m.method 503 store_failed c) fixed)
undone_text m (OutOfMemory close) never fixed = inr (inl (ap (λ (c : Bool). reply_to m.method 507 no_memory c) fixed))

-- a crash before it left the tables as they stood
left_at : (w : World) (m : HttpMessage) (now : ℕ) (old new : KeeperState) → IsSettled old → Stands old.tables w
    → ((t : Tables) → new.may_leave t → old.may_leave t ⊎ Stands t (step w (message_in m) now).1) → MayLeave w (message_in m) now new
left_at w m now old new settled s h t left = elim (h t left) [
  | inl before ↦ inl (subst (λ (u : Tables). Stands u w) (sym (settled.only t before)) s)
  | inr done ↦ inr done
]

pub fell_on : (w : World) (m : HttpMessage) (now : ℕ) (moments : List ℕ) (old new : KeeperState) (coming before after : Option (List ℕ)) (a : Answer) (s : Result (Unit {0}) LineFail)
    → IsSettled old → Fell old new → Stands old.tables w → coming ≡ Some moments → IsFirstMoment coming now → (IsMade a → TrustedAfter true new) → IsFixed m a
    → (old.tells → IsTrue old.trusted → IsTrue new.is_clean → (v : World) → Stands old.tables v → (t : Tables) → new.may_leave t → old.may_leave t ⊎ Stands t (step v (message_in m) now).1)
    → Wrote before after (bytes_in m.method a) s → FallsOn w m moments new before after s
fell_on w m now moments old new coming before after a s settled (tells, stands, fell, clean) is e first made fixed crash wrote = (
  now,
  subst (λ (c : Option (List ℕ)). IsFirstMoment c now) e first,
  left_at w m now old new settled is (crash tells stands clean w is),
  bytes_in m.method a,
  undone_text m a (λ is_made. absurd (cc (made is_made refl clean, fell))) fixed,
  wrote,
)

-- the reply of a keeper that fell before
pub undone_reply : (m : HttpMessage) (old new : KeeperState) (before after : Option (List ℕ)) (a : Answer) (s : Result (Unit {0}) LineFail)
    → Steps old new → (IsMade a → TrustedAfter true new) → IsFixed m a → Wrote before after (bytes_in m.method a) s → old.trusted ≡ false → IsTrue new.is_clean → WritesUndone (is_ok s) before after
undone_reply m old new before after a s steps made fixed wrote shut clean =
    undone_wrote before after (bytes_in m.method a) s (inl (m.method, m.close, undone_text m a (λ is_made. let open_ = steps.stood (made is_made refl clean) in absurd (cc (open_, shut))) fixed)) wrote

wrote_in : (before mid after : Option (List ℕ)) (text : List ℕ) (close : Bool) (s : Result (Unit {0}) LineFail) → known.Keeps before mid → Wrote mid after text s → WroteIn before after text (over_if_written close s)
wrote_in before mid after text close (Ok done) h k = appends_then before mid after text h k
wrote_in before mid after text close (Err Write) h (n, within, k) = (n, within, appends_then before mid after (take n text) h k)
wrote_in before mid after text close (Err Read) h k = absurd k

pub fell_turn : (p : Place) (coming left : Option (List ℕ)) → IsHere p coming left → p.closed ≡ false → (m : HttpMessage) (close last : Bool) (new : KeeperState) (bytes : List ℕ) (left2 before mid after : Option (List ℕ)) (s : Result (Unit {0}) LineFail)
    → close ≡ (m.close || last) → eqb p.count last_message ≡ last → Between left (prepend_known bytes left2) (λ i rest. IsItem i (whole m) rest) → known.Keeps before mid
    → FallsOn p.world (record m { close = close }) p.moments new mid after s → FallsIn p new before after (over_if_written close s)
fell_turn p coming left here going m close last new bytes left2 before mid after s closes full item unwritten (now, first, crash, text, undone, wrote) =
    let it = item_at left (prepend_known bytes left2) p.input (λ i rest. IsItem i (whole m) rest) here.1 item in (
      record { goes_on = going; request = m; rest = it.0; item = it.2; now = now; moment = first; crash = crash },
      text,
      subst (λ (b : Bool). IsUndone m.method b text) (closes ∙ ap (λ (b : Bool). m.close || b) (sym full)) undone,
      wrote_in before mid after text close s unwritten wrote,
    )

-- ---- the turns after it

-- once it has fallen, a crash leaves no more
abbrev pub at_less : (p : Place) (mid new : KeeperState) → ((t : Tables) → new.may_leave t → mid.may_leave t) → FallsAt p mid → FallsAt p new
at_less p mid new less at = record { goes_on = at.goes_on; request = at.request; rest = at.rest; item = at.item; now = at.now; moment = at.moment; crash = λ t left. at.crash t (less t left) }

pub falls_less : (w : World) (moments input : List ℕ) (before after : Option (List ℕ)) (mid new : KeeperState) → ((t : Tables) → new.may_leave t → mid.may_leave t) → Falls w moments input before after mid → Falls w moments input before after new
falls_less w moments input before after mid new less f = record {
  answered = f.answered;
  place = f.place;
  follows = f.follows;
  at = at_less f.place mid new less f.at;
  text = f.text;
  undone = f.undone;
  out = f.out;
  goes_out = f.goes_out;
  output = f.output;
}

module _ (w : World) (moments input : List ℕ) (old : KeeperState) (before : Option (List ℕ)) where
  -- it fell, and all texts from the request on were written whole
  abbrev pub Fallen : KeeperState → Option (List ℕ) → Type 0
  Fallen new after = (f : Falls w moments input before after new) × (texts : List (List ℕ)) × AllByRecursion IsUndoneText texts × (f.out ≡ f.text ++ joined texts)

  abbrev pub FallenBy : KeeperState → Option (List ℕ) → Result Bool LineFail → Type 0
  FallenBy new after (Ok over) = Fallen new after
  FallenBy new after (Err e) = Falls w moments input before after new

  abbrev pub FallsFrom : KeeperState → KeeperState → Option (List ℕ) → Option (List ℕ) → Option (List ℕ) → Option (List ℕ) → Bool → Result Bool LineFail → Type 0
  FallsFrom mid new coming left after after2 last result =
      Fell mid new → (p : Place) → Stands mid.tables p.world → IsHere p coming left → p.closed ≡ false → eqb p.count last_message ≡ last → FallsIn p new after after2 result

  fallen_at : (new : KeeperState) (after after2 : Option (List ℕ)) (p : Place) (xs : List Exchange) → Follows of_all (begins w moments input) xs p → Appends before after (joined (map reply_in xs))
      → (r : Result Bool LineFail) → FallsIn p new after after2 r → FallenBy new after2 r
  fallen_at new after after2 p xs follows wrote (Ok over) (at, text, undone, app) = (
    record {
      answered = xs;
      place = p;
      follows = follows;
      at = at;
      text = text;
      undone = undone;
      out = text;
      goes_out = ([], tt, [], refl);
      output = Appends-trans before after after2 (joined (map reply_in xs)) text wrote app;
    },
    [],
    tt,
    sym (append-nil text),
  )
  fallen_at new after after2 p xs follows wrote (Err Write) (at, text, undone, (n, within, app)) = record {
    answered = xs;
    place = p;
    follows = follows;
    at = at;
    text = text;
    undone = undone;
    out = take n text;
    goes_out = ([], tt, drop n text, take-append-drop n text ∙ sym (append-nil text));
    output = Appends-trans before after after2 (joined (map reply_in xs)) (take n text) wrote app;
  }
  fallen_at new after after2 p xs follows wrote (Err Read) (at, text, undone, h) = absurd h

  fallen_later : (mid new : KeeperState) (after after2 : Option (List ℕ)) → ((t : Tables) → new.may_leave t → mid.may_leave t) → (r : Result Bool LineFail) → WritesUndone (is_ok r) after after2 → Fallen mid after → FallenBy new after2 r
  fallen_later mid new after after2 less r u (f, texts, undone, all) =
      let are = all_more IsUndoneText texts u.texts undone u.undone in
      let front : (f.out ++ u.out) ++ u.rest ≡ f.text ++ joined (texts ++ u.texts) =
      append_assoc f.out u.out u.rest ∙ ap (λ o. f.out ++ o) u.front ∙ ap (λ o. o ++ joined u.texts) all ∙ append_assoc f.text (joined texts) (joined u.texts) ∙ ap (λ o. f.text ++ o) (sym (joined_more texts u.texts)) in
      let falls : Falls w moments input before after2 new = record {
        answered = f.answered;
        place = f.place;
        follows = f.follows;
        at = at_less f.place mid new less f.at;
        text = f.text;
        undone = f.undone;
        out = f.out ++ u.out;
        goes_out = (texts ++ u.texts, are, u.rest, front);
        output = subst (λ (o : List ℕ). Appends before after2 o) (append_assoc (joined (map reply_in f.answered)) f.out u.out) (Appends-trans before after after2 (joined (map reply_in f.answered) ++ f.out) u.out f.output u.output);
      } in
      by r falls (λ full. (falls, texts ++ u.texts, are, sym (append-nil (f.out ++ u.out)) ∙ ap (λ o. (f.out ++ u.out) ++ o) (sym full) ∙ front)) u.is_full
    where
      by : (r : Result Bool LineFail) → Falls w moments input before after2 new → (u.rest ≡ [] → Fallen new after2) → (IsTrue (is_ok r) → u.rest ≡ []) → FallenBy new after2 r
      by (Ok over) falls fallen full = fallen (full refl)
      by (Err e) falls fallen full = falls

  -- it fell in this turn, or before
  pub fallen_on : (mid new : KeeperState) (coming left after after2 : Option (List ℕ)) (n : ℕ) (r : Result Bool LineFail) → Steps mid new → Fell old new
      → (IsTrue mid.trusted → Goes of_all w moments input old before mid coming left after n) → (mid.trusted ≡ false → Fallen mid after)
      → FallsFrom mid new coming left after after2 (eqb n last_message) r → (mid.trusted ≡ false → IsTrue new.is_clean → WritesUndone (is_ok r) after after2) → FallenBy new after2 r
  fallen_on mid new coming left after after2 n r steps (tells, stands, fell, clean) goes fallen falls undone = by (either mid.trusted)
    where
      by : (mid.trusted ≡ true) ⊎ (mid.trusted ≡ false) → FallenBy new after2 r
      by (inr shut) = fallen_later mid new after after2 (λ t left. steps.shut shut clean t left) r (undone shut clean) (fallen shut)
      by (inl open_) =
          let (p, xs, follows, kept, here, going, count, few, wrote) = goes open_ in
          let at = kept.tables open_ in
          fallen_at new after after2 p xs follows wrote r (falls (at.0, open_, fell, clean) p at.1 here going (ap (λ k. eqb k last_message) count))
