-- One turn, from what the calls below say.
use Rattle.std.proofs.Common.{◌≡◌, inl, inr, ℕ, ◌+◌, Bool, true, false, ◌||◌, eqb, List, [], ◌∷◌, ◌++◌, take, Option, Some, None, Result, Ok, Err, refl, sym, ap, subst, ◌∙◌, append-nil}
use Rattle.std.specs.Io.KnownBytes.{Appends, prepend_known}
use Rattle.std.specs.Io.KnownBytes as known
use Rattle.server_http.specs.Answer.{Answered, Between}
use Rattle.server_http.specs.Item.{whole, refused, ended, broken, IsItem}
use Rattle.server_http.specs.Reply.{reply, no_memory}
use Rattle.server_http.specs.declared.fail.HttpFail.{HttpFail}
use Rattle.server_http.specs.declared.fail.HttpFail.TheVariants.{BadHead, HeadTooLarge, TransferEncoding, LengthRequired, BodyTooLarge, Failed, Memory}
use Rattle.server_http.specs.declared.message.HttpMessage.{HttpMessage}
use Rattle.base_io.specs.Moments.{AskedOnce, IsFirstMoment, after_asking}
use Rattle.store_kv.specs.State.{KeeperState}
use Rattle.model.specs.World.{World}
use Rattle.server.specs.Senses.{Sense, StandsAs}
use Rattle.server.specs.Answers.{Answers, exchange}
use Rattle.server.specs.Requests.{last_reply}
use Rattle.server.specs.Exchanges.{Exchange, reply_in, world_after}
use Rattle.server.specs.Connections.{Place, Over, at_end, at_refusal, at_memory, at_fault, IsOver, IsOutput, last_message, last_words, end_by}
use Rattle.server.specs.Turning.{IsHere, Turns, Wrote, Replied, RepliesTo, RefusesWith, over_if_written}
use Rattle.server.specs.declared.wire.LineFail.{LineFail}
use Rattle.server.specs.declared.wire.LineFail.TheVariants.{Read, Write}
use Rattle.server.proofs.Kept.{kept_same}

-- ---- what is told before a call is told behind it

pub item_at : (left left2 : Option (List ℕ)) (i : List ℕ) (P : List ℕ → List ℕ → Type 0) → left ≡ Some i → Between left left2 P → (rest : List ℕ) × (left2 ≡ Some rest) × P i rest
item_at None left2 i P e h = absurd cc
item_at (Some a) None i P e h = absurd h
item_at (Some a) (Some b) i P e h = let is : a ≡ i = cc in (b, refl, subst (λ (x : List ℕ). P x b) is h)

still_there : (bytes : List ℕ) (left left2 : Option (List ℕ)) (i : List ℕ) → prepend_known bytes left ≡ Some i → known.Keeps left left2 → prepend_known bytes left2 ≡ Some i
still_there bytes None left2 i e h = absurd cc
still_there bytes (Some a) None i e h = absurd h
still_there bytes (Some a) (Some b) i e h = ap (λ (x : List ℕ). prepend_known bytes (Some x)) h ∙ e

pub nothing : (before after : Option (List ℕ)) → known.Keeps before after → Appends before after []
nothing None after h = tt
nothing (Some a) None h = absurd h
nothing (Some a) (Some b) h = h ∙ sym (append-nil a)

pub appends_then : (before mid after : Option (List ℕ)) (t : List ℕ) → known.Keeps before mid → Appends mid after t → Appends before after t
appends_then None mid after t h k = tt
appends_then (Some a) None after t h k = absurd h
appends_then (Some a) (Some b) None t h k = absurd k
appends_then (Some a) (Some b) (Some c) t h k = k ∙ ap (λ (x : List ℕ). x ++ t) h

asked_at : (coming coming2 : Option (List ℕ)) (moments : List ℕ) → coming ≡ Some moments → AskedOnce coming coming2 → coming2 ≡ Some (after_asking moments)
asked_at None coming2 moments e h = absurd cc
asked_at (Some a) None moments e h = absurd h
asked_at (Some a) (Some b) moments e h = let is : a ≡ moments = cc in ap Some (h ∙ ap after_asking is)

-- ---- the reply to a message

pub replied : (sense : Sense) (w : World) (m : HttpMessage) (moments : List ℕ) (old new : KeeperState) (coming coming2 before after : Option (List ℕ)) (now : ℕ) (bytes : List ℕ) (s : Result (Unit {0}) LineFail)
    → coming ≡ Some moments → IsFirstMoment coming now → AskedOnce coming coming2 → Answers sense w m now old new bytes → Wrote before after bytes s → RepliesTo sense w m moments old new coming2 before after s
replied sense w m moments old new coming coming2 before after now bytes s e first asked answers wrote = (
  now,
  answers.0,
  subst (λ (c : Option (List ℕ)). IsFirstMoment c now) e first,
  answers.2,
  asked_at coming coming2 moments e asked,
  subst (λ (t : List ℕ). Wrote before after t s) answers.1 wrote,
  answers.3,
)

as_replied : (before mid after : Option (List ℕ)) (x : Exchange) (s : Result (Unit {0}) LineFail) → known.Keeps before mid → Wrote mid after (reply_in x) s → Replied before after x (over_if_written x.close s)
as_replied before mid after x (Ok done) h k = (refl, appends_then before mid after (reply_in x) h k)
as_replied before mid after x (Err Write) h (n, within, k) = (n, within, appends_then before mid after (take n (reply_in x)) h k)
as_replied before mid after x (Err Read) h k = absurd k

module _ (sense : Sense) (p : Place) (coming left : Option (List ℕ)) (here : IsHere p coming left) (going : p.closed ≡ false) where
  pub message_turn : (m : HttpMessage) (close last : Bool) (old new : KeeperState) (bytes : List ℕ) (left2 left3 coming2 before mid after : Option (List ℕ)) (s : Result (Unit {0}) LineFail)
      → close ≡ (m.close || last) → eqb p.count last_message ≡ last → Between left (prepend_known bytes left2) (λ i rest. IsItem i (whole m) rest) → known.Keeps before mid → known.Keeps left2 left3
      → RepliesTo sense p.world (record m { close = close }) p.moments old new coming2 mid after s
      → Turns sense p old new coming2 (prepend_known bytes left3) before after (over_if_written close s)
  message_turn m close last old new bytes left2 left3 coming2 before mid after s closes full item unwritten unread (now, o, first, kept, later, wrote, known) =
      let x : Exchange = exchange p.world (record m { close = close }) now o in
      let it = item_at left (prepend_known bytes left2) p.input (λ i rest. IsItem i (whole m) rest) here.1 item in
      inl (
        x,
        record { world = world_after x; moments = after_asking p.moments; input = it.0; count = p.count + 1; closed = close },
        record { goes_on = going; request = m; item = it.2; message = refl; world = refl; moment = first; close = closes ∙ ap (λ b. m.close || b) (sym full); known = known; next = refl },
        kept,
        (later, still_there bytes left2 left3 it.0 it.1 unread),
        as_replied before mid after x s unwritten wrote,
      )

  module _ (k : KeeperState) (tells : k.tells) (stands : StandsAs sense k.tables p.world) (left2 before mid : Option (List ℕ)) (unwritten : known.Keeps before mid) where
    pub end_turn : Between left left2 (λ i rest. IsItem i ended rest) → Turns sense p k k coming left2 before mid (Ok true)
    end_turn item =
        let it = item_at left left2 p.input (λ i rest. IsItem i ended rest) here.1 item in
        inr (at_end, true, (refl, going, inl (refl, it.2.1)), kept_same sense p.world k tells stands, here.0, [], refl, nothing before mid unwritten, refl)

    pub cut_turn : Between left left2 (λ i rest. IsItem i broken rest) → Turns sense p k k coming left2 before mid (Ok true)
    cut_turn item =
        let it = item_at left left2 p.input (λ i rest. IsItem i broken rest) here.1 item in
        inr (at_end, true, (refl, going, inr (refl, it.2.1)), kept_same sense p.world k tells stands, here.0, [], refl, nothing before mid unwritten, refl)

    pub read_turn : Turns sense p k k coming left2 before mid (Err Read)
    read_turn = inr (at_fault, true, (λ _. going), kept_same sense p.world k tells stands, here.0, [], refl, nothing before mid unwritten, refl)

    words : (after left3 : Option (List ℕ)) (o : Over) (word : List ℕ) (s : Result (Unit {0}) LineFail) → last_words o ≡ word ∷ [] → ((written : Bool) → IsOver o written p) → end_by true o ≡ Ok tt
        → Wrote mid after word s → Turns sense p k k coming left3 before after (over_if_written true s)
    words after left3 o word (Ok done) is over all wrote =
        inr (
          o,
          true,
          over true,
          kept_same sense p.world k tells stands,
          here.0,
          word,
          subst (λ (ts : List (List ℕ)). IsOutput ts true word) (sym is) (sym (append-nil word)),
          appends_then before mid after word unwritten wrote,
          sym (ap (over_if_written true) all),
        )
    words after left3 o word (Err Write) is over all (n, within, wrote) =
        inr (
          o,
          false,
          over false,
          kept_same sense p.world k tells stands,
          here.0,
          take n word,
          subst (λ (ts : List (List ℕ)). IsOutput ts false (take n word)) (sym is) ([], word, n, refl, within, refl),
          appends_then before mid after (take n word) unwritten wrote,
          refl,
        )
    words after left3 o word (Err Read) is over all wrote = absurd wrote

    pub memory_turn : (after left3 : Option (List ℕ)) (s : Result (Unit {0}) LineFail) → Wrote mid after (reply 507 no_memory true) s → Turns sense p k k coming left3 before after (over_if_written true s)
    memory_turn after left3 s wrote = words after left3 at_memory (reply 507 no_memory true) s refl (λ _. going) refl wrote

    pub refused_turn : (after left3 : Option (List ℕ)) (e : HttpFail) (s : Result (Unit {0}) LineFail) → Between left left2 (λ i rest. IsItem i (refused e) rest) → RefusesWith e mid after s → Turns sense p k k coming left3 before after (over_if_written true s)
    refused_turn after left3 e s item (inl wrote) =
        let it = item_at left left2 p.input (λ i rest. IsItem i (refused e) rest) here.1 item in
        words after left3 (at_refusal e) (last_reply e) s refl (λ _. (going, (refl, it.2.1))) refl wrote
    refused_turn after left3 e s item (inr wrote) = memory_turn after left3 s wrote

-- refusals of the bytes
pub refused_between : (left left2 : Option (List ℕ)) (e : HttpFail) → (e ≡ Failed → ⊥) → (e ≡ Memory → ⊥) → Between left left2 (λ i rest. Answered i (Err e) rest) → Between left left2 (λ i rest. IsItem i (refused e) rest)
refused_between None r e f m h = tt
refused_between (Some i) None e f m h = h
refused_between (Some i) (Some r) BadHead f m h = h
refused_between (Some i) (Some r) HeadTooLarge f m h = h
refused_between (Some i) (Some r) TransferEncoding f m h = h
refused_between (Some i) (Some r) LengthRequired f m h = h
refused_between (Some i) (Some r) BodyTooLarge f m h = h
refused_between (Some i) (Some r) Failed f m h = absurd (f refl)
refused_between (Some i) (Some r) Memory f m h = absurd (m refl)
