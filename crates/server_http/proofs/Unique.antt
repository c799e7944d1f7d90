-- There is one item at the front of the bytes, unless they end inside a target that nothing completes.
use Rattle.std.proofs.Common.{◌≡◌, ◌⊎◌, ℕ, ◌≤◌, List, [], ◌++◌, length, take, drop, Result, Ok, Err, codes, refl, sym, ap, ◌∙◌, arith, subst, inl, inr, append-nil, IsTrue}
use Rattle.std.proofs.lemmas.Str.{IsUtf8-from_ascii}
use Rattle.std.proofs.lemmas.List.{length-append}
use Rattle.std.proofs.lemmas.List.Elements.{All-from_recursion}
use Rattle.std.specs.Str.{IsAscii}
use Rattle.std.proofs.Common.{zero, suc}
use Rattle.httparse.specs.Grammar.{lf, RequestHead, ReadsRequest, print_request, NeverHasRequest, MayBecomeRequest, is_token_byte, is_uri_byte, IsField}
use Rattle.httparse.proofs.GrammarLemmas.{request_unique, ReadsRequest-append}
use Rattle.server_http.specs.declared.fail.HttpFail.{HttpFail}
use Rattle.server_http.specs.declared.message.HttpMessage.{HttpMessage}
use Rattle.server_http.specs.Item.{window}
use Rattle.server_http.specs.Item.{Item, whole, refused, ended, broken, IsItem, IsUnread, HasHead, behind, message_of, size_of, IsOpenTarget}
use Rattle.server_http.proofs.Windows.{window_all}

one_head : (bytes : List ℕ) (h k : RequestHead) → HasHead bytes h → HasHead bytes k → h ≡ k
one_head bytes h k x y = (request_unique (window bytes) h k x.0 y.0 x.1 y.1).0

never_head : (bytes : List ℕ) (h : RequestHead) → NeverHasRequest (window bytes) → HasHead bytes h → ⊥
never_head bytes h never has = never [] h (has.0 ++ []) (ReadsRequest-append (window bytes) h has.0 [] has.1)

-- nothing can come of the bytes, and something may: they end inside a target
open_target : (bytes : List ℕ) → NeverHasRequest (window bytes) → MayBecomeRequest (window bytes) → IsOpenTarget bytes
open_target bytes never (inl (more, h, reads)) = absurd (never more h [] reads)
open_target bytes never (inr ends) = (ends, never)

abbrev least : RequestHead
least = record { blank = []; method = codes "G"; target = codes "/"; minor = 1; line_end = lf; fields = []; last = lf }

slash_is_ascii : IsAscii (codes "/")
slash_is_ascii zero = omega arith
slash_is_ascii (suc i) = omega arith

-- some head begins with nothing
pub begins : NeverHasRequest [] → ⊥
unfolding print_request is_token_byte
begins never = never (print_request least) least [] (
  record {
    method = (omega arith, All-from_recursion (λ b. IsTrue (is_token_byte b)) (codes "G") (refl, tt));
    target = (omega arith, All-from_recursion (λ b. IsTrue (is_uri_byte b)) (codes "/") (refl, tt));
    target_text = IsUtf8-from_ascii (codes "/") slash_is_ascii;
    minor = omega arith;
    fields = All-from_recursion IsField [] tt;
  },
  sym (append-nil (print_request least)),
)

some_bytes : (h : RequestHead) → 1 ≤ length (print_request h)
unfolding print_request
some_bytes h = simp length-append (omega arith)

-- no head in nothing
no_head : (bytes : List ℕ) (h : RequestHead) → bytes ≡ [] → HasHead bytes h → ⊥
no_head bytes h none (rest, reads) =
    let e : window bytes ≡ [] = ap window none in
    let size = ap length (sym e ∙ reads.1) in
    let parts = length-append (print_request h) rest in
    let least = some_bytes h in
    absurd (omega (arith, size, parts, least))

abbrev is_ok_number : ℕ → Result ℕ HttpFail
is_ok_number n = Ok n

abbrev is_fail : HttpFail → Result ℕ HttpFail
is_fail e = Err e

same_number : (m n : ℕ) → is_ok_number m ≡ is_ok_number n → m ≡ n
same_number m n e = cc

same_fail : (d e : HttpFail) → is_fail d ≡ is_fail e → d ≡ e
same_fail d e h = cc

abbrev Same : List ℕ → Item → Item → List ℕ → List ℕ → Type 0
Same bytes a b r q = ((a ≡ b) × (r ≡ q)) ⊎ IsOpenTarget bytes

whole_whole : (bytes : List ℕ) (m n : HttpMessage) (r q : List ℕ) → IsItem bytes (whole m) r → IsItem bytes (whole n) q → Same bytes (whole m) (whole n) r q
whole_whole bytes m n r q (h, has, i, si, fi, mi, ri) (k, had, j, sj, fj, nj, qj) =
    let e = one_head bytes h k has had in
    let c : i ≡ j = same_number i j (sym si ∙ ap size_of e ∙ sj) in
    inl (
      ap whole (mi ∙ ap (λ x. message_of x (take i (behind x bytes))) e ∙ ap (λ x. message_of k (take x (behind k bytes))) c ∙ sym nj),
      ri ∙ ap (λ x. drop i (behind x bytes)) e ∙ ap (λ x. drop x (behind k bytes)) c ∙ sym qj,
    )

unread_head : (bytes : List ℕ) (e : HttpFail) (h : RequestHead) → IsUnread bytes e → HasHead bytes h → ⊥
unread_head bytes e h (inl (bad, never)) has = never_head bytes h never has
unread_head bytes e h (inr (large, long, none, may)) has = none h has.0 has.1

whole_refused : (bytes : List ℕ) (m : HttpMessage) (e : HttpFail) (r q : List ℕ) → IsItem bytes (whole m) r → IsItem bytes (refused e) q → ⊥
whole_refused bytes m e r q (h, has, i, si, fi, mi, ri) (here, inl unread) = unread_head bytes e h unread has
whole_refused bytes m e r q (h, has, i, si, fi, mi, ri) (here, inr (k, had, sk)) =
    let same : is_ok_number i ≡ is_fail e = sym si ∙ ap size_of (one_head bytes h k has had) ∙ sk in cc

pub whole_broken : (bytes : List ℕ) (m : HttpMessage) (r q : List ℕ) → IsItem bytes (whole m) r → IsItem bytes broken q → ⊥
whole_broken bytes m r q (h, has, i, si, fi, mi, ri) (here, inl (some, short, none, may)) =
    let P : List ℕ → Type 0 = λ w. ReadsRequest w h has.0 in
    none h has.0 (subst P (window_all bytes short) has.1)
whole_broken bytes m r q (h, has, i, si, fi, mi, ri) (here, inr (k, had, j, sj, less)) =
    let e = one_head bytes h k has had in
    let c : i ≡ j = same_number i j (sym si ∙ ap size_of e ∙ sj) in
    let l = ap (λ x. length (behind x bytes)) e in
    absurd (omega (arith, c, l, less, fi))

refused_refused : (bytes : List ℕ) (d e : HttpFail) (r q : List ℕ) → IsItem bytes (refused d) r → IsItem bytes (refused e) q → Same bytes (refused d) (refused e) r q
refused_refused bytes d e r q (x, inl (inl (bad, never))) (y, inl (inl (worse, again))) = inl (ap refused (bad ∙ sym worse), x ∙ sym y)
refused_refused bytes d e r q (x, inl (inl (bad, never))) (y, inl (inr (large, long, none, may))) = inr (open_target bytes never may)
refused_refused bytes d e r q (x, inl (inr (large, long, none, may))) (y, inl (inl (bad, never))) = inr (open_target bytes never may)
refused_refused bytes d e r q (x, inl (inr (large, long, none, may))) (y, inl (inr (big, long2, none2, may2))) = inl (ap refused (large ∙ sym big), x ∙ sym y)
refused_refused bytes d e r q (x, inl unread) (y, inr (k, had, sk)) = absurd (unread_head bytes d k unread had)
refused_refused bytes d e r q (x, inr (h, has, sh)) (y, inl unread) = absurd (unread_head bytes e h unread has)
refused_refused bytes d e r q (x, inr (h, has, sh)) (y, inr (k, had, sk)) =
    inl (ap refused (same_fail d e (sym sh ∙ ap size_of (one_head bytes h k has had) ∙ sk)), x ∙ sym y)

pub refused_broken : (bytes : List ℕ) (e : HttpFail) (r q : List ℕ) → IsItem bytes (refused e) r → IsItem bytes broken q → IsOpenTarget bytes
refused_broken bytes e r q (x, inl (inl (bad, never))) (y, inl (some, short, none, may)) =
    open_target bytes never (subst MayBecomeRequest (sym (window_all bytes short)) may)
refused_broken bytes e r q (x, inl (inr (large, long, none, may))) (y, inl (some, short, none2, may2)) = absurd (omega (arith, long, short))
refused_broken bytes e r q (x, inr (h, has, sh)) (y, inl (some, short, none, may)) =
    let P : List ℕ → Type 0 = λ w. ReadsRequest w h has.0 in
    absurd (none h has.0 (subst P (window_all bytes short) has.1))
refused_broken bytes e r q (x, inl unread) (y, inr (k, had, j, sj, less)) = absurd (unread_head bytes e k unread had)
refused_broken bytes e r q (x, inr (h, has, sh)) (y, inr (k, had, j, sj, less)) =
    let same : is_fail e ≡ is_ok_number j = sym sh ∙ ap size_of (one_head bytes h k has had) ∙ sj in cc

pub ended_refused : (bytes : List ℕ) (e : HttpFail) (q : List ℕ) → bytes ≡ [] → IsItem bytes (refused e) q → ⊥
ended_refused bytes e q none (y, inl (inl (bad, never))) = begins (subst NeverHasRequest (ap window none) never)
ended_refused bytes e q none (y, inl (inr (large, long, nothing, may))) = let size = ap length none in absurd (omega (arith, size, long))
ended_refused bytes e q none (y, inr (k, had, sk)) = no_head bytes k none had

pub ended_whole : (bytes : List ℕ) (m : HttpMessage) (q : List ℕ) → bytes ≡ [] → IsItem bytes (whole m) q → ⊥
ended_whole bytes m q none (h, has, n, s, f, same, more) = no_head bytes h none has

ended_broken : (bytes q : List ℕ) → bytes ≡ [] → IsItem bytes broken q → ⊥
ended_broken bytes q none (y, inl (some, short, nothing, may)) = let size = ap length none in absurd (omega (arith, size, some))
ended_broken bytes q none (y, inr (k, had, j, sj, less)) = no_head bytes k none had

pub only_one : (bytes : List ℕ) (a b : Item) (r q : List ℕ) → IsItem bytes a r → IsItem bytes b q → ((a ≡ b) × (r ≡ q)) ⊎ IsOpenTarget bytes
only_one bytes (whole m) (whole n) r q x y = whole_whole bytes m n r q x y
only_one bytes (whole m) (refused e) r q x y = absurd (whole_refused bytes m e r q x y)
only_one bytes (whole m) ended r q (h, has, n, s, f, m2, q2) y = absurd (no_head bytes h y.1 has)
only_one bytes (whole m) broken r q x y = absurd (whole_broken bytes m r q x y)
only_one bytes (refused e) (whole m) r q x y = absurd (whole_refused bytes m e q r y x)
only_one bytes (refused d) (refused e) r q x y = refused_refused bytes d e r q x y
only_one bytes (refused e) ended r q x y = absurd (ended_refused bytes e r y.1 x)
only_one bytes (refused e) broken r q x y = inr (refused_broken bytes e r q x y)
only_one bytes ended (whole m) r q x (h, has, n, s, f, m2, q2) = absurd (no_head bytes h x.1 has)
only_one bytes ended (refused e) r q x y = absurd (ended_refused bytes e q x.1 y)
only_one bytes ended ended r q x y = inl (refl, x.0 ∙ sym y.0)
only_one bytes ended broken r q x y = absurd (ended_broken bytes q x.1 y)
only_one bytes broken (whole m) r q x y = absurd (whole_broken bytes m q r y x)
only_one bytes broken (refused e) r q x y = inr (refused_broken bytes e q r y x)
only_one bytes broken ended r q x y = absurd (ended_broken bytes r y.1 x)
only_one bytes broken broken r q x y = inl (refl, x.0 ∙ sym y.0)
