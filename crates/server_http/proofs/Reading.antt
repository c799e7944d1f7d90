-- Reads, one after the other, and what they say of an item at hand.
use Rattle.std.proofs.Common.{◌≡◌, ◌⊎◌, ℕ, ◌+◌, ◌<◌, List, [], ◌∷◌, ◌++◌, length, take, drop, Option, Some, Result, Ok, refl, sym, ap, subst, inl, inr, append_assoc, append-nil, arith}
use Rattle.std.proofs.lemmas.Bool.{cases_lt}
use Rattle.std.proofs.lemmas.List.{length-append, length-drop, length-take}
use Rattle.httparse.specs.Grammar.{print_request}
use Rattle.server_http.specs.declared.fail.HttpFail.{HttpFail}
use Rattle.server_http.specs.declared.message.HttpMessage.{HttpMessage}
use Rattle.server_http.specs.declared.message.Next.{Next}
use Rattle.server_http.specs.declared.message.Next.TheVariants.{Message}
use Rattle.server_http.specs.Item.{whole, refused, behind, message_of, IsItem, IsOpenTarget}
use Rattle.server_http.specs.Answer.{Answered}
use Rattle.server_http.specs.Reads.{AnswersAtHand, IsUnfinished, Reads, ReadsEach, ReadsToAnswer, read_limit}
use Rattle.server_http.specs.Steps.{HasPiece, NextHead}
use Rattle.server_http.specs.declared.parts.Head.{Head}
use Rattle.server_http.proofs.Items.{unfinished_body}
use Rattle.server_http.proofs.Windows.{HasHead-shorter}
use Rattle.server_http.proofs.Unique.{whole_broken, refused_broken, ended_refused, ended_whole}

pub none : {S : Type 0} (left : S → Option (List ℕ)) (P : List ℕ → Type 0) (bytes : List ℕ) (source : S) → Reads left P bytes source bytes source
none left P bytes source = record { pieces = []; each = (refl, refl) }

-- the reads of one part, and then those of another
each_then : {S : Type 0} (left : S → Option (List ℕ)) (P : List ℕ → Type 0) (pieces others : List (List ℕ)) (old mid new : List ℕ) (s t u : S)
    → ReadsEach left P pieces old s mid t → ReadsEach left P others mid t new u → ReadsEach left P (pieces ++ others) old s new u
each_then left P [] others old mid new s t u a b =
    subst (λ k. ReadsEach left P others k s new u) a.0 (subst (λ k. ReadsEach left P others mid k new u) a.1 b)
each_then left P (piece ∷ pieces) others old mid new s t u a b =
    (a.0, a.1, a.2, a.3, each_then left P pieces others (old ++ piece) mid new a.2 t u a.4 b)

pub and_then : {S : Type 0} (left : S → Option (List ℕ)) (P : List ℕ → Type 0) (old mid new : List ℕ) (s t u : S)
    → Reads left P old s mid t → Reads left P mid t new u → Reads left P old s new u
and_then left P old mid new s t u a b = record {
  pieces = a.pieces ++ b.pieces;
  each = each_then left P a.pieces b.pieces old mid new s t u a.each b.each;
}

-- one more read
pub and_piece : {S : Type 0} (left : S → Option (List ℕ)) (P : List ℕ → Type 0) (old mid new : List ℕ) (s t u : S)
    → Reads left P old s mid t → P mid → HasPiece mid new (left t) (left u) → Reads left P old s new u
and_piece left P old mid new s t u a p b =
    and_then left P old mid new s t u a record { pieces = b.piece ∷ []; each = (p, b.size, u, b.taken, (b.more, refl)) }

-- reads under another condition
each_weaker : {S : Type 0} (left : S → Option (List ℕ)) (P Q : List ℕ → Type 0) (pieces : List (List ℕ)) (old new : List ℕ) (s t : S)
    → ((more : List ℕ) → P (old ++ more) → Q (old ++ more)) → ReadsEach left P pieces old s new t → ReadsEach left Q pieces old s new t
each_weaker left P Q [] old new s t h a = a
each_weaker left P Q (piece ∷ pieces) old new s t h a = (
  subst Q (append-nil old) (h [] (subst P (sym (append-nil old)) a.0)),
  a.1,
  a.2,
  a.3,
  each_weaker left P Q pieces (old ++ piece) new a.2 t
      (λ more p. subst Q (sym (append_assoc old piece more)) (h (piece ++ more) (subst P (append_assoc old piece more) p))) a.4,
)

pub weaker : {S : Type 0} (left : S → Option (List ℕ)) (P Q : List ℕ → Type 0) (old new : List ℕ) (s t : S)
    → ((more : List ℕ) → P (old ++ more) → Q (old ++ more)) → Reads left P old s new t → Reads left Q old s new t
weaker left P Q old new s t h a = record { pieces = a.pieces; each = each_weaker left P Q a.pieces old new s t h a.each }

-- the reads up to a head, and then those up to the end of its body
pub through_body : {S : Type 0} (left : S → Option (List ℕ)) (l : Option (List ℕ)) (old mid new : List ℕ) (s t u : S) (parts : Head)
    → Reads left IsUnfinished old s mid t → NextHead mid l (Ok (Some parts)) → Reads left (λ seen. length seen < parts.len + parts.size) mid t new u
    → Reads left IsUnfinished old s new u
through_body left l old mid new s t u parts a is b =
    and_then left IsUnfinished old mid new s t u a
    (weaker left (λ seen. length seen < parts.len + parts.size) IsUnfinished mid new t u (unfinished_body l mid parts is) b)

-- ---- an item at hand

never_whole : (bytes : List ℕ) (m : HttpMessage) (rest : List ℕ) → IsItem bytes (whole m) rest → IsUnfinished bytes → ⊥
never_whole bytes m rest is (inl end) = ended_whole bytes m rest end.1 is
never_whole bytes m rest is (inr cut) = whole_broken bytes m rest bytes is cut

open_refused : (bytes : List ℕ) (e : HttpFail) → IsItem bytes (refused e) bytes → IsUnfinished bytes → IsOpenTarget bytes
open_refused bytes e is (inl end) = absurd (ended_refused bytes e bytes end.1 is)
open_refused bytes e is (inr cut) = refused_broken bytes e bytes bytes is cut

each_alone : {S : Type 0} (left : S → Option (List ℕ)) (pieces : List (List ℕ)) (buffer come : List ℕ) (source now : S) (result : Result Next HttpFail) (rest : List ℕ)
    → ReadsEach left IsUnfinished pieces buffer source come now → Answered come result rest → IsUnfinished buffer ⊎ AnswersAtHand buffer source now result rest
each_alone left [] buffer come source now result rest a is = inr (a.1, subst (λ k. Answered k result rest) a.0 is)
each_alone left (piece ∷ pieces) buffer come source now result rest a is = inl a.0

alone : {S : Type 0} (left : S → Option (List ℕ)) (buffer : List ℕ) (source now : S) (result : Result Next HttpFail) (rest : List ℕ)
    → ReadsToAnswer left buffer source now result rest → IsUnfinished buffer ⊎ AnswersAtHand buffer source now result rest
alone left buffer source now result rest a = each_alone left a.reads.pieces buffer a.come source now result rest a.reads.each a.answer

pub whole_at_hand : {S : Type 0} (left : S → Option (List ℕ)) (buffer : List ℕ) (source now : S) (result : Result Next HttpFail) (rest : List ℕ)
    → ReadsToAnswer left buffer source now result rest → (m : HttpMessage) (r : List ℕ) → IsItem buffer (whole m) r → AnswersAtHand buffer source now result rest
whole_at_hand left buffer source now result rest a m r is = elim (alone left buffer source now result rest a) [
  | inl unfinished ↦ absurd (never_whole buffer m r is unfinished)
  | inr h ↦ h
]

pub refused_at_hand : {S : Type 0} (left : S → Option (List ℕ)) (buffer : List ℕ) (source now : S) (result : Result Next HttpFail) (rest : List ℕ)
    → ReadsToAnswer left buffer source now result rest → (e : HttpFail) → IsItem buffer (refused e) buffer
    → IsOpenTarget buffer ⊎ AnswersAtHand buffer source now result rest
refused_at_hand left buffer source now result rest a e is = elim (alone left buffer source now result rest a) [
  | inl unfinished ↦ inl (open_refused buffer e is unfinished)
  | inr h ↦ inr h
]

-- ---- what stays behind a message

-- less than the last read gave
behind_piece : (seen piece : List ℕ) (m : HttpMessage) (rest : List ℕ) → IsItem (seen ++ piece) (whole m) rest → IsUnfinished seen → length rest < length piece
behind_piece seen piece m rest (h, has, size, is, fits, same, more) unfinished =
    let n = length (print_request h) in
    let both = length-append seen piece in
    let text = ap length has.1.1 in
    let parts = length-append (print_request h) has.0 in
    let hand = length-take 16384 (seen ++ piece) in
    let after = length-drop n (seen ++ piece) in
    let kept = ap length more in
    let cut = length-drop size (behind h (seen ++ piece)) in
    let here = length-drop n seen in
    elim (cases_lt (length rest) (length piece)) [
      | inl less ↦ less
      | inr long ↦ absurd (never_whole seen (message_of h (take size (behind h seen))) (drop size (behind h seen)) (
        h,
        HasHead-shorter seen piece h has (omega (arith, both, text, parts, hand, after, kept, cut, fits, long)),
        size,
        is,
        omega (arith, both, text, parts, hand, after, kept, cut, fits, long, here),
        refl,
        refl,
      ) unfinished)
    ]

each_ahead : {S : Type 0} (left : S → Option (List ℕ)) (piece : List ℕ) (pieces : List (List ℕ)) (buffer come : List ℕ) (source now : S) (m : HttpMessage) (rest : List ℕ)
    → ReadsEach left IsUnfinished (piece ∷ pieces) buffer source come now → IsItem come (whole m) rest → length rest < read_limit
each_ahead left piece [] buffer come source now m rest a is =
    let P : List ℕ → Type 0 = λ k. IsItem k (whole m) rest in
    let less = behind_piece buffer piece m rest (subst P a.4.0 is) a.0 in
    let most = a.1 in
    omega (arith, less, most)
each_ahead left piece (next ∷ pieces) buffer come source now m rest a is = each_ahead left next pieces (buffer ++ piece) come a.2 now m rest a.4 is

some_ahead : {S : Type 0} (left : S → Option (List ℕ)) (pieces : List (List ℕ)) (buffer come : List ℕ) (source now : S) (m : HttpMessage) (rest : List ℕ)
    → ReadsEach left IsUnfinished pieces buffer source come now → IsItem come (whole m) rest → (now ≡ source) ⊎ (length rest < read_limit)
some_ahead left [] buffer come source now m rest a is = inl a.1
some_ahead left (piece ∷ pieces) buffer come source now m rest a is = inr (each_ahead left piece pieces buffer come source now m rest a is)

pub read_ahead : {S : Type 0} (left : S → Option (List ℕ)) (buffer : List ℕ) (source now : S) (result : Result Next HttpFail) (rest : List ℕ)
    → ReadsToAnswer left buffer source now result rest → (m : HttpMessage) → result ≡ Ok (Message m) → (now ≡ source) ⊎ (length rest < read_limit)
read_ahead left buffer source now result rest a m is =
    let P : Result Next HttpFail → Type 0 = λ r. Answered a.come r rest in
    some_ahead left a.reads.pieces buffer a.come source now m rest a.reads.each (subst P is a.answer)
