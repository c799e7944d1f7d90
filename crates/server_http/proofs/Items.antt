-- From what the buffer holds to the item of the whole input.
use Rattle.std.proofs.Common.{◌≡◌, ◌⊎◌, ℕ, ◌+◌, ◌-◌, ◌<◌, ◌≤◌, Bool, true, false, cond, nat_lt, List, [], ◌++◌, length, take, drop, Option, Some, None, IfSome, Result, Ok, Err, codes, refl, sym, ap, ◌∙◌, arith, subst, inl, inr, append-nil}
use Rattle.std.specs.Io.{StartsWith}
use Rattle.std.specs.Io.KnownBytes.{Keeps, IsAtEnd, prepend_known}
use Rattle.std.proofs.KnownBytes.{starts_with_rest}
use Rattle.std.proofs.Transfers.{starts_with_of_append}
use Rattle.std.proofs.lemmas.Bool.{cases_lt}
use Rattle.std.proofs.lemmas.Bool.Decides.{nat_tests}
use Rattle.std.proofs.lemmas.List.{nil_from_length}
use Rattle.std.proofs.lemmas.List.{take_rest, drop-append-le, take-append-le, drop-drop, length-drop, length-append, length-take}
use Rattle.httparse.specs.Grammar.{RequestHead, print_request, HasNoRequest, MayBecomeRequest}
use Rattle.server_http.specs.declared.fail.HttpFail.{HttpFail}
use Rattle.server_http.specs.declared.fail.HttpFail.TheVariants.{BadHead, HeadTooLarge, TransferEncoding, LengthRequired, BodyTooLarge, Failed, Memory}
use Rattle.server_http.specs.declared.message.HttpMessage.{HttpMessage}
use Rattle.server_http.specs.declared.message.Next.TheVariants.{Message, End, Cut}
use Rattle.server_http.specs.declared.parts.Head.{Head}
use Rattle.server_http.specs.Answer.{Between}
use Rattle.server_http.specs.Framing.{content_length, checked_size, needs_length, values_named, ◌>>=◌}
use Rattle.server_http.specs.Item.{IsUnread, HasHead, behind, size_of, lines_of, window, broken, IsItem}
use Rattle.server_http.specs.Answer.{Answered}
use Rattle.server_http.specs.Reads.{IsUnfinished}
use Rattle.server_http.specs.Steps.{NextHead, IsRefusal}
use Rattle.server_http.proofs.Windows.{HasHead-append, Never-append, window_full, window_all}

-- the input is what was in the buffer and what the source had left
pub between : (old left : Option (List ℕ)) (bytes rest : List ℕ) (P : List ℕ → List ℕ → Type 0) → Keeps old (prepend_known bytes left)
    → IfSome left (λ l. P (bytes ++ l) (rest ++ l)) → Between old (prepend_known rest left) P
between None left bytes rest P kept h = tt
between (Some xs) None bytes rest P kept h = absurd kept
between (Some xs) (Some l) bytes rest P kept h = let Q : List ℕ → Type 0 = λ i. P i (rest ++ l) in subst Q kept h

for_each : (left : Option (List ℕ)) (P : List ℕ → Type 0) → ((l : List ℕ) → P l) → IfSome left P
for_each None P h = tt
for_each (Some l) P h = h l

at_end : (left : Option (List ℕ)) (bytes : List ℕ) (P : List ℕ → Type 0) → IsAtEnd left → P bytes → IfSome left (λ l. P (bytes ++ l))
at_end None bytes P end h = tt
at_end (Some l) bytes P end h = subst P (sym (ap (λ k. bytes ++ k) end ∙ append-nil bytes)) h

unread_append : (bytes l : List ℕ) (e : HttpFail) → IsUnread bytes e → IsUnread (bytes ++ l) e
unread_append bytes l e (inl (is, never)) = inl (is, Never-append bytes l never)
unread_append bytes l e (inr (is, long, none, may)) =
    let same = sym (window_full bytes l long) in
    let more = length-append bytes l in
    inr (is, omega (arith, more), subst HasNoRequest same none, subst MayBecomeRequest same may)

refusal_append : (bytes l : List ℕ) (e : HttpFail) → IsRefusal bytes e → IsRefusal (bytes ++ l) e
refusal_append bytes l e (inl unread) = inl (unread_append bytes l e unread)
refusal_append bytes l e (inr (h, has, size)) = inr (h, HasHead-append bytes l h has, size)

third : (bytes : List ℕ) (e : HttpFail) → (e ≡ Memory → ⊥) → (e ≡ Failed → ⊥) → (e ≡ Memory) ⊎ ((e ≡ Failed) ⊎ IsRefusal bytes e) → IsRefusal bytes e
third bytes e m f (inl is) = absurd (m is)
third bytes e m f (inr (inl is)) = absurd (f is)
third bytes e m f (inr (inr is)) = is

answered_refusal : (bytes l : List ℕ) (e : HttpFail) → (e ≡ Memory) ⊎ ((e ≡ Failed) ⊎ IsRefusal bytes e) → Answered (bytes ++ l) (Err e) (bytes ++ l)
answered_refusal bytes l BadHead a = (refl, refusal_append bytes l BadHead (third bytes BadHead (λ h. cc) (λ h. cc) a))
answered_refusal bytes l HeadTooLarge a = (refl, refusal_append bytes l HeadTooLarge (third bytes HeadTooLarge (λ h. cc) (λ h. cc) a))
answered_refusal bytes l TransferEncoding a = (refl, refusal_append bytes l TransferEncoding (third bytes TransferEncoding (λ h. cc) (λ h. cc) a))
answered_refusal bytes l LengthRequired a = (refl, refusal_append bytes l LengthRequired (third bytes LengthRequired (λ h. cc) (λ h. cc) a))
answered_refusal bytes l BodyTooLarge a = (refl, refusal_append bytes l BodyTooLarge (third bytes BodyTooLarge (λ h. cc) (λ h. cc) a))
answered_refusal bytes l Failed a = refl
answered_refusal bytes l Memory a = refl

pub refused_between : (old left : Option (List ℕ)) (bytes : List ℕ) (e : HttpFail) → Keeps old (prepend_known bytes left) → NextHead bytes left (Err e)
    → Between old (prepend_known bytes left) (λ input rest. Answered input (Err e) rest)
refused_between old left bytes e kept a =
    between old left bytes bytes (λ input rest. Answered input (Err e) rest) kept (for_each left _ (λ l. answered_refusal bytes l e a))

pub ended_between : (old left : Option (List ℕ)) (bytes : List ℕ) → Keeps old (prepend_known bytes left) → NextHead bytes left (Ok None) → length bytes ≡ 0
    → Between old (prepend_known bytes left) (λ input rest. Answered input (Ok End) rest)
ended_between old left bytes kept a none =
    between old left bytes bytes (λ input rest. Answered input (Ok End) rest) kept
    (at_end left bytes (λ input. Answered input (Ok End) input) a.0 (refl, nil_from_length bytes none))

pub broken_between : (old left : Option (List ℕ)) (bytes : List ℕ) → Keeps old (prepend_known bytes left) → NextHead bytes left (Ok None) → 0 < length bytes
    → Between old (prepend_known bytes left) (λ input rest. Answered input (Ok Cut) rest)
broken_between old left bytes kept a some =
    let same = window_all bytes a.1 in
    between old left bytes bytes (λ input rest. Answered input (Ok Cut) rest) kept
    (at_end left bytes (λ input. Answered input (Ok Cut) input) a.0 (refl, inl (some, a.1, subst HasNoRequest same a.2, subst MayBecomeRequest same a.3)))

-- what has come before a head may become one
pub unfinished_head : (bytes : List ℕ) → length bytes < 16384 → HasNoRequest (window bytes) → MayBecomeRequest (window bytes) → IsUnfinished bytes
unfinished_head bytes short none may = elim (cases_lt 0 (length bytes)) [
  | inl some ↦ (let same = window_all bytes short in inr (refl, inl (some, short, subst HasNoRequest same none, subst MayBecomeRequest same may)))
  | inr empty ↦ inl (refl, nil_from_length bytes (omega arith))
]

-- ---- a whole head, and its body

later_head : (old new : List ℕ) (h : RequestHead) → StartsWith new old → HasHead old h → HasHead new h
later_head old new h front has =
    let P : List ℕ → Type 0 = λ bytes. HasHead bytes h in
    subst P (sym (starts_with_rest new old front)) (HasHead-append old (drop (length old) new) h has)

no_shorter : (old new : List ℕ) → StartsWith new old → length old ≤ length new
no_shorter old new front = let size = ap length front in let least = length-take (length old) new in omega (arith, size, least)

-- the bytes end within the body
cut_item : (left : Option (List ℕ)) (before bytes : List ℕ) (parts : Head) → StartsWith bytes before → NextHead before left (Ok (Some parts))
    → length bytes < parts.len + parts.size → IsItem bytes broken bytes
cut_item left before bytes parts front (h, has, is, fits, small) short =
    let longer = no_shorter before bytes front in
    let size = length-drop (length (print_request h)) bytes in
    let len = is.len in
    (refl, inr (h, later_head before bytes h front has, parts.size, is.size, omega (arith, longer, size, len, fits, short)))

pub unfinished_body : (left : Option (List ℕ)) (before : List ℕ) (parts : Head) → NextHead before left (Ok (Some parts))
    → (more : List ℕ) → length (before ++ more) < parts.len + parts.size → IsUnfinished (before ++ more)
unfinished_body left before parts a more short =
    inr (cut_item left before (before ++ more) parts (starts_with_of_append (before ++ more) before more refl) a short)

pub cut_between : (old left : Option (List ℕ)) (before bytes : List ℕ) (parts : Head) → Keeps old (prepend_known bytes left) → StartsWith bytes before
    → NextHead before left (Ok (Some parts)) → length bytes < parts.len + parts.size → IsAtEnd left
    → Between old (prepend_known bytes left) (λ input rest. Answered input (Ok Cut) rest)
cut_between old left before bytes parts kept front a short end =
    between old left bytes bytes (λ input rest. Answered input (Ok Cut) rest) kept
    (at_end left bytes (λ input. Answered input (Ok Cut) input) end (cut_item left before bytes parts front a short))

pub whole_between : (old left : Option (List ℕ)) (before bytes : List ℕ) (parts : Head) (m : HttpMessage) (rest : List ℕ) → Keeps old (prepend_known bytes left) → StartsWith bytes before
    → NextHead before left (Ok (Some parts)) → parts.len + parts.size ≤ length bytes
    → m.method ≡ parts.method → m.target ≡ parts.target
    → m.bearer ≡ parts.bearer → m.close ≡ parts.close
    → m.body ≡ take parts.size (drop parts.len bytes) → rest ≡ drop (parts.len + parts.size) bytes
    → Between old (prepend_known rest left) (λ input after. Answered input (Ok (Message m)) after)
whole_between old left before bytes parts m rest kept front (h, has, is, fits, small) full e1 e2 e3 e4 e5 e6 =
    between old left bytes rest (λ input after. Answered input (Ok (Message m)) after) kept (for_each left _ (λ l.
    let n = length (print_request h) in
    let size = length-drop n bytes in
    let len = is.len in
    let longer = length-append (drop n bytes) l in
    let within : n ≤ length bytes = omega (arith, full, len) in
    let behind_is : behind h (bytes ++ l) ≡ drop n bytes ++ l = drop-append-le n bytes l within in
    let enough : parts.size ≤ length (drop n bytes) = omega (arith, full, len, size) in
    let body : take parts.size (behind h (bytes ++ l)) ≡ m.body
    = ap (take parts.size) behind_is ∙ take-append-le parts.size (drop n bytes) l enough ∙ ap (λ k. take parts.size (drop k bytes)) (sym len) ∙ sym e5 in
    let after : drop parts.size (behind h (bytes ++ l)) ≡ rest ++ l
    = ap (drop parts.size) behind_is ∙ drop-append-le parts.size (drop n bytes) l enough
    ∙ ap (λ k. k ++ l) (drop-drop parts.size n bytes ∙ ap (λ k. drop (k + parts.size) bytes) (sym len) ∙ sym e6) in
    let count : parts.size ≤ length (behind h (bytes ++ l)) = rw behind_is (omega (arith, enough, longer)) in (
      h,
      HasHead-append bytes l h (later_head before bytes h front has),
      parts.size,
      is.size,
      count,
      rw (e1 ∙ is.method, e2 ∙ is.target, e3 ∙ is.bearer, e4 ∙ is.close, ← body) refl,
      sym after,
    )))

-- ---- what a call answers by the bytes that have come, with no more in the source

pub by_come : (bytes rest : List ℕ) (P : List ℕ → List ℕ → Type 0)
    → ((old left : Option (List ℕ)) → IsAtEnd left → Keeps old (prepend_known bytes left) → Between old (prepend_known rest left) P) → P bytes rest
by_come bytes rest P h = subst (P bytes) (append-nil rest) (h (Some bytes) (Some []) refl (append-nil bytes))

pub failed_reads : (bytes : List ℕ) (e : HttpFail) → (e ≡ Memory) ⊎ (e ≡ Failed) → Answered bytes (Err e) bytes
failed_reads bytes BadHead (inl h) = cc
failed_reads bytes BadHead (inr h) = cc
failed_reads bytes HeadTooLarge (inl h) = cc
failed_reads bytes HeadTooLarge (inr h) = cc
failed_reads bytes TransferEncoding (inl h) = cc
failed_reads bytes TransferEncoding (inr h) = cc
failed_reads bytes LengthRequired (inl h) = cc
failed_reads bytes LengthRequired (inr h) = cc
failed_reads bytes BodyTooLarge (inl h) = cc
failed_reads bytes BodyTooLarge (inr h) = cc
failed_reads bytes Failed h = refl
failed_reads bytes Memory h = refl

-- ---- the body's bound

bind_ok : {A B : Type 0} (r : Result A HttpFail) (f : A → Result B HttpFail) (y : B) → (r >>= f) ≡ Ok y → (x : A) × (f x ≡ Ok y)
bind_ok (Ok x) f y h = (x, h)
bind_ok (Err e) f y h = cc

guard_ok : {A : Type 0} (b : Bool) (e : HttpFail) (r : Result A HttpFail) (y : A) → cond b (Err e) r ≡ Ok y → (b ≡ false) × (r ≡ Ok y)
guard_ok true e r y h = cc
guard_ok false e r y h = (refl, h)

checked_bound : (method : List ℕ) (s : Option ℕ) (n : ℕ) → checked_size method s ≡ Ok n → n ≤ 4194304
checked_bound method None n h = let g = (guard_ok (needs_length method) LengthRequired (Ok 0) n h).1 in let e : 0 ≡ n = cc in omega (arith, e)
checked_bound method (Some s) n h =
    let g = guard_ok (nat_lt 4194304 s) BodyTooLarge (Ok s) n h in
    let few = g.0 in
    let one = g.1 in
    let e : s ≡ n = cc in
    grind (arith, nat_tests, few, e)

pub size_bound : (h : RequestHead) (n : ℕ) → size_of h ≡ Ok n → n ≤ 4194304
size_bound h n e =
    let b = bind_ok (content_length (values_named (codes "content-length") (lines_of h))) _ n e in
    let g = guard_ok (nat_lt 64 (length (lines_of h))) HeadTooLarge _ n b.1 in
    let k = guard_ok (nat_lt 0 (length (values_named (codes "transfer-encoding") (lines_of h)))) TransferEncoding _ n g.1 in
    checked_bound h.method b.0 n k.1

-- ---- the two copies out of the buffer

pub body_cut : (len size : ℕ) (ys xs : List ℕ) → ys ≡ xs → take (len + size - len) (drop len ys) ≡ take size (drop len xs)
body_cut len size ys xs same = let few : len + size - len ≡ size = omega arith in rw (few, same) refl

pub rest_cut : (end : ℕ) (ys xs : List ℕ) → ys ≡ xs → take (length ys - end) (drop end ys) ≡ drop end xs
rest_cut end ys xs same = take_rest ys end ∙ ap (drop end) same
