-- One turn behind the other, up to the end of the connection.
use Rattle.std.proofs.Common.{◌≡◌, ◌≢◌, inl, inr, ℕ, ◌+◌, ◌≤◌, Bool, true, false, eqb, IsTrue, List, [], ◌∷◌, ◌++◌, map, length, take, Option, Some, None, Result, Ok, Err, refl, sym, ap, subst, ◌∙◌, arith, append_assoc, append-nil}
use Rattle.std.proofs.lemmas.Bool.Decides.{Decides-eqb}
use Rattle.std.specs.Io.KnownBytes.{Appends}
use Rattle.std.proofs.KnownBytes.{Appends-trans}
use Rattle.store_kv.specs.State.{KeeperState, Steps, Tells}
use Rattle.model.specs.World.{World}
use Rattle.server.specs.Senses.{Sense, StandsAs}
use Rattle.server.specs.Exchanges.{Exchange, LeavesBehind, reply_in}
use Rattle.server.specs.Connections.{Place, begins, IsAnswered, Follows, Over, at_close, at_fault, IsOver, IsOutput, joined, last_message, last_words, end_by}
use Rattle.server.specs.Turning.{IsHere, Turns, Replied, over_by, Serves}
use Rattle.server.specs.declared.wire.LineFail.{LineFail}
use Rattle.server.specs.declared.wire.LineFail.TheVariants.{Read, Write}
use Rattle.std.specs.Io.KnownBytes as known
use Rattle.base_lemmas.proofs.Bools.{or_second_false as or_false}
use Rattle.server_http.specs.Reply.{reply, no_memory}
use Rattle.store_kv.proofs.Calls.{steps_same}
use Rattle.server.specs.Turning.{Wrote}
use Rattle.server.proofs.Turned.{nothing, memory_turn}
use Rattle.server.proofs.Kept.{kept_on, kept_same}

follows_more : (sense : Sense) (p q r : Place) (xs : List Exchange) (x : Exchange) → Follows sense p xs q → IsAnswered sense q x r → Follows sense p (xs ++ x ∷ []) r
follows_more sense p q r [] x e h = (r, subst (λ (y : Place). IsAnswered sense y x r) e h, refl)
follows_more sense p q r (y ∷ xs) x (next, a, f) h = (next, a, follows_more sense next q r xs x f h)

pub joined_more : (ts us : List (List ℕ)) → joined (ts ++ us) ≡ joined ts ++ joined us
joined_more [] us = refl
joined_more (t ∷ ts) us = ap (λ o. t ++ o) (joined_more ts us) ∙ sym (append_assoc t (joined ts) (joined us))

output_after : (ts us : List (List ℕ)) (written : Bool) (out : List ℕ) → IsOutput us written out → IsOutput (ts ++ us) written (joined ts ++ out)
output_after ts us true out e = ap (λ o. joined ts ++ o) e ∙ sym (joined_more ts us)
output_after ts us false out (before, last, n, e, within, is) = (
  ts ++ before,
  last,
  n,
  ap (λ v. ts ++ v) e ∙ sym (append_assoc ts before (last ∷ [])),
  within,
  ap (λ o. joined ts ++ o) is ∙ sym (append_assoc (joined ts) (joined before) (take n last)) ∙ ap (λ o. o ++ take n last) (sym (joined_more ts before)),
)

texts_more : (xs : List Exchange) (x : Exchange) → map reply_in (xs ++ x ∷ []) ≡ map reply_in xs ++ reply_in x ∷ []
texts_more [] x = refl
texts_more (y ∷ xs) x = ap (λ (ts : List (List ℕ)). reply_in y ∷ ts) (texts_more xs x)

not_last : (n : ℕ) → n ≤ last_message → eqb n last_message ≡ false → n + 1 ≤ last_message
not_last n few h = let ne : n ≢ last_message = λ e. absurd (cc ((Decides-eqb n last_message).1 e, h)) in omega (arith, few, ne)

never_on : (r : Result (Unit {0}) LineFail) → ◌≡◌ {A = Result Bool LineFail} (Ok false) (over_by r) → ⊥
never_on (Ok done) e = cc
never_on (Err f) e = cc

over_once : (r s : Result (Unit {0}) LineFail) → over_by r ≡ over_by s → r ≡ s
over_once (Ok a) (Ok b) e = refl
over_once (Ok a) (Err f) e = absurd cc
over_once (Err f) (Ok b) e = absurd cc
over_once (Err f) (Err h) e = ap Err cc

unchanged : (o : Option (List ℕ)) → known.Keeps o o
unchanged None = tt
unchanged (Some a) = refl

pub fresh : (bytes : List ℕ) (left : Option (List ℕ)) (i : List ℕ) → bytes ≡ [] → left ≡ Some i → known.prepend_known bytes left ≡ Some i
fresh bytes left i none e = rw (e, none) refl

module _ (sense : Sense) (w : World) (moments input : List ℕ) (old : KeeperState) (before : Option (List ℕ)) where
  -- so many turns, after which the connection goes on
  abbrev pub Goes : KeeperState → Option (List ℕ) → Option (List ℕ) → Option (List ℕ) → ℕ → Type 0
  Goes new coming left after n =
      (p : Place) × (xs : List Exchange) × Follows sense (begins w moments input) xs p × LeavesBehind sense p.world xs old new × IsHere p coming left × (p.closed ≡ false) × (p.count ≡ n) × (n ≤ last_message)
      × Appends before after (joined (map reply_in xs))

  abbrev pub TurnsFrom : KeeperState → KeeperState → Option (List ℕ) → Option (List ℕ) → Option (List ℕ) → Option (List ℕ) → Option (List ℕ) → Option (List ℕ) → Bool → Result Bool LineFail → Type 0
  TurnsFrom mid new coming left after coming2 left2 after2 last result =
      Tells mid new → (any : Sense) (p : Place) → StandsAs any mid.tables p.world → IsHere p coming left → p.closed ≡ false → eqb p.count last_message ≡ last → Turns any p mid new coming2 left2 after after2 result

  pub start : (coming left : Option (List ℕ)) → old.tells → StandsAs sense old.tables w → coming ≡ Some moments → left ≡ Some input → Goes old coming left before 0
  start coming left tells stands e i = (begins w moments input, [], refl, kept_same sense w old tells stands, (e, i), refl, refl, omega arith, nothing before before (unchanged before))

  pub go_on : (mid new : KeeperState) (coming left after coming2 left2 after2 : Option (List ℕ)) (n : ℕ) → IsTrue new.trusted → Steps mid new
      → Goes mid coming left after n → TurnsFrom mid new coming left after coming2 left2 after2 (eqb n last_message) (Ok false) → Goes new coming2 left2 after2 (n + 1)
  go_on mid new coming left after coming2 left2 after2 n stands steps (p, xs, follows, kept, here, going, count, few, wrote) turns =
      let at = kept.tables (steps.stood stands) in
      elim (turns (at.0, stands) sense p at.1 here going (ap (λ k. eqb k last_message) count)) [
        | inl (x, q, is, k, there, (open_, out)) ↦ (
          q,
          xs ++ x ∷ [],
          follows_more sense (begins w moments input) p q xs x follows is,
          kept_on sense p.world q.world xs (x ∷ []) old mid new kept k,
          there,
          ap (λ (y : Place). y.closed) is.next ∙ sym open_,
          ap (λ (y : Place). y.count) is.next ∙ ap (λ k. k + 1) count,
          not_last n few (sym (ap (λ k. eqb k last_message) count) ∙ or_false is.request.close (eqb p.count last_message) (sym is.close ∙ sym open_)),
          subst (λ (ts : List (List ℕ)). Appends before after2 (joined ts)) (sym (texts_more xs x))
              (subst (λ (o : List ℕ). Appends before after2 o) (sym (joined_more (map reply_in xs) (reply_in x ∷ [])))
              (subst (λ (o : List ℕ). Appends before after2 (joined (map reply_in xs) ++ o)) (sym (append-nil (reply_in x)))
              (Appends-trans before after after2 (joined (map reply_in xs)) (reply_in x) wrote out))),
        )
        | inr (o, written, over, k, later, out, is, app, result) ↦ absurd (never_on (end_by written o) result)
      ]

  -- the last turn
  by_reply : (mid new : KeeperState) (coming2 left2 after after2 : Option (List ℕ)) (p q : Place) (xs : List Exchange) (x : Exchange) → Steps mid new → Follows sense (begins w moments input) xs p → LeavesBehind sense p.world xs old mid
      → Appends before after (joined (map reply_in xs)) → IsAnswered sense p x q → LeavesBehind sense q.world (x ∷ []) mid new → IsHere q coming2 left2
      → (o : Over) (written : Bool) (out : List ℕ) → last_words o ≡ [] → IsOver o written q → IsOutput (reply_in x ∷ []) written out → Appends after after2 out
      → Serves sense w moments input old new coming2 before after2 (end_by written o)
  by_reply mid new coming2 left2 after after2 p q xs x steps follows kept wrote is k there o written out none over whole app = (
    record { input = input; exchanges = xs ++ x ∷ []; over = o; written = written; output = joined (map reply_in xs) ++ out },
    q.world,
    q.moments,
    refl,
    record {
      last = q;
      follows = follows_more sense (begins w moments input) p q xs x follows is;
      over = over;
      output = subst (λ (ts : List (List ℕ)). IsOutput ts written (joined (map reply_in xs) ++ out)) (sym (ap (λ (us : List (List ℕ)). map reply_in (xs ++ x ∷ []) ++ us) none ∙ append-nil (map reply_in (xs ++ x ∷ [])) ∙ texts_more xs x))
          (output_after (map reply_in xs) (reply_in x ∷ []) written out whole);
      world = refl;
      moments_left = refl;
    },
    kept_on sense p.world q.world xs (x ∷ []) old mid new kept k,
    there.0,
    Appends-trans before after after2 (joined (map reply_in xs)) out wrote app,
    refl,
  )

  by_over : (mid new : KeeperState) (coming2 after after2 : Option (List ℕ)) (p : Place) (xs : List Exchange) → Steps mid new → Follows sense (begins w moments input) xs p → LeavesBehind sense p.world xs old mid
      → Appends before after (joined (map reply_in xs)) → LeavesBehind sense p.world [] mid new → coming2 ≡ Some p.moments
      → (o : Over) (written : Bool) (out : List ℕ) → IsOver o written p → IsOutput (last_words o) written out → Appends after after2 out
      → Serves sense w moments input old new coming2 before after2 (end_by written o)
  by_over mid new coming2 after after2 p xs steps follows kept wrote k later o written out over whole app = (
    record { input = input; exchanges = xs; over = o; written = written; output = joined (map reply_in xs) ++ out },
    p.world,
    p.moments,
    refl,
    record { last = p; follows = follows; over = over; output = output_after (map reply_in xs) (last_words o) written out whole; world = refl; moments_left = refl },
    subst (λ (ys : List Exchange). LeavesBehind sense p.world ys old new) (append-nil xs) (kept_on sense p.world p.world xs [] old mid new kept k),
    later,
    Appends-trans before after after2 (joined (map reply_in xs)) out wrote app,
    refl,
  )

  front : (text out : List ℕ) (n : ℕ) → n ≤ length text → out ≡ take n text → IsOutput (text ∷ []) false out
  front text out n within is = ([], text, n, refl, within, is)

  by_replied : (mid new : KeeperState) (coming2 left2 after after2 : Option (List ℕ)) (p q : Place) (xs : List Exchange) (x : Exchange) → Steps mid new → Follows sense (begins w moments input) xs p → LeavesBehind sense p.world xs old mid
      → Appends before after (joined (map reply_in xs)) → IsAnswered sense p x q → LeavesBehind sense q.world (x ∷ []) mid new → IsHere q coming2 left2
      → (s : Result (Unit {0}) LineFail) → Replied after after2 x (over_by s) → Serves sense w moments input old new coming2 before after2 s
  by_replied mid new coming2 left2 after after2 p q xs x steps follows kept wrote is k there (Ok done) (shut, app) =
      by_reply mid new coming2 left2 after after2 p q xs x steps follows kept wrote is k there at_close true (reply_in x) refl (refl, ap (λ (y : Place). y.closed) is.next ∙ sym shut) (sym (append-nil (reply_in x))) app
  by_replied mid new coming2 left2 after after2 p q xs x steps follows kept wrote is k there (Err Write) (n, within, app) =
      by_reply mid new coming2 left2 after after2 p q xs x steps follows kept wrote is k there at_fault false (take n (reply_in x)) refl (λ h. absurd cc) (front (reply_in x) (take n (reply_in x)) n within refl) app
  by_replied mid new coming2 left2 after after2 p q xs x steps follows kept wrote is k there (Err Read) h = absurd h

  pub ends : (mid new : KeeperState) (coming left after coming2 left2 after2 : Option (List ℕ)) (n : ℕ) (s : Result (Unit {0}) LineFail) → IsTrue new.trusted → Steps mid new
      → Goes mid coming left after n → TurnsFrom mid new coming left after coming2 left2 after2 (eqb n last_message) (over_by s) → Serves sense w moments input old new coming2 before after2 s
  ends mid new coming left after coming2 left2 after2 n s stands steps (p, xs, follows, kept, here, going, count, few, wrote) turns =
      let at = kept.tables (steps.stood stands) in
      elim (turns (at.0, stands) sense p at.1 here going (ap (λ k. eqb k last_message) count)) [
        | inl (x, q, is, k, there, out) ↦ by_replied mid new coming2 left2 after after2 p q xs x steps follows kept wrote is k there s out
        | inr (o, written, over, k, later, out, whole, app, result) ↦
            subst (λ (r : Result (Unit {0}) LineFail). Serves sense w moments input old new coming2 before after2 r) (sym (over_once s (end_by written o) result))
            (by_over mid new coming2 after after2 p xs steps follows kept wrote k later o written out over whole app)
      ]

  -- memory ran out before the first item
  pub at_once : (coming after : Option (List ℕ)) (s : Result (Unit {0}) LineFail) → Tells old old → StandsAs sense old.tables w → coming ≡ Some moments → Wrote before after (reply 507 no_memory true) s → Serves sense w moments input old old coming before after s
  at_once coming after s told stands e wrote =
      ends old old coming (Some input) before coming (Some input) after 0 s told.1 (steps_same old) (start coming (Some input) told.0 stands e refl)
      (λ t any p at here going full. memory_turn any p coming (Some input) here going old t.0 at (Some input) before before (unchanged before) after (Some input) s wrote)
