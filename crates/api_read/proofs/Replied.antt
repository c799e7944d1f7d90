-- What is told as a reply, by the verdict.
use Rattle.std.proofs.Common.{◌≡◌, ◌≢◌, ◌<◌, ◌≤◌, ℕ, Bool, true, false, cond, List, length, Result, Ok, Err, refl, sym, subst, arith}
use Rattle.std.specs.Prelude.{encode_utf8_all, nat_lt}
use Rattle.std.proofs.lemmas.Bool.Decides.{nat_tests}
use Rattle.base_json.specs.declared.tree.Json.{Json}
use Rattle.model.specs.declared.refusal.Refusal.{Refusal}
use Rattle.model.specs.declared.refusal.Refusal.TheVariants.{ReplyTooLarge}
use Rattle.model.specs.declared.reply.Reply.{Reply}
use Rattle.model.specs.Limits.{reply_limit}
use Rattle.model.specs.Paths.{Asked}
use Rattle.model.specs.Verdict.{accept, refuse, told}
use Rattle.model_reads.specs.Told.{Telling, telling_verdict, told_body}
use Rattle.query_json.specs.Answers.{AnswersBy, Refuses}
use Rattle.store_rows.specs.declared.fail.StoreFail.{StoreFail}
use Rattle.store_rows.specs.declared.fail.StoreFail.TheVariants.{Damaged, Memory}

-- a refusal
pub refused_by : (a : Asked) (why : Refusal) (result : Result Reply StoreFail) → Refuses why result → AnswersBy a (refuse a.tenant why) result
refused_by a why (Ok r) e = (e, refl)
refused_by a why (Err f) e = λ d. absurd cc

-- out of memory, whatever the verdict
pub memory_by : (f : StoreFail) → f ≡ Memory → f ≢ Damaged
memory_by f e d = absurd cc

is_less : (m n : ℕ) → m < n → nat_lt m n ≡ true
is_less m n h = grind (arith, nat_tests)

is_not_less : (m n : ℕ) → n ≤ m → nat_lt m n ≡ false
is_not_less m n h = grind (arith, nat_tests)

module _ (a : Asked) (characters : List ℕ) where
  by_size : (b : Bool) (result : Result Reply StoreFail) → nat_lt reply_limit (length (encode_utf8_all characters)) ≡ b
      → AnswersBy a (cond b (refuse a.tenant ReplyTooLarge) (accept (told characters) a.tenant)) result → AnswersBy a (told_body a.tenant characters) result
  by_size b result e h = subst (λ (x : Bool). AnswersBy a (cond x (refuse a.tenant ReplyTooLarge) (accept (told characters) a.tenant)) result) (sym e) h

  -- a body that is too large
  pub large_body : (body : List ℕ) (result : Result Reply StoreFail) → body ≡ encode_utf8_all characters → reply_limit < length body → Refuses ReplyTooLarge result
      → AnswersBy a (told_body a.tenant characters) result
  large_body body result is large h =
      by_size true result (is_less reply_limit (length (encode_utf8_all characters)) (subst (λ (b : List ℕ). reply_limit < length b) is large)) (refused_by a ReplyTooLarge result h)

  -- one that isn't
  pub whole_body : (body : List ℕ) → body ≡ encode_utf8_all characters → length body ≤ reply_limit → AnswersBy a (told_body a.tenant characters) (Ok (record { status = 200; body = body }))
  whole_body body is few =
      by_size false (Ok (record { status = 200; body = body })) (is_not_less reply_limit (length (encode_utf8_all characters)) (subst (λ (b : List ℕ). length b ≤ reply_limit) is few))
      (subst (λ (b : List ℕ). AnswersBy a (accept (told characters) a.tenant) (Ok (record { status = 200; body = b }))) (sym is) (refl, refl))

-- what is told is the definition's
pub as_told : (a : Asked) (telling : Telling) (v : Json) (result : Result Reply StoreFail) → telling ≡ Ok v → AnswersBy a (telling_verdict a.tenant (Ok v)) result → AnswersBy a (telling_verdict a.tenant telling) result
as_told a telling v result e h = subst (λ (t : Telling). AnswersBy a (telling_verdict a.tenant t) result) (sym e) h

pub as_refused : (a : Asked) (telling : Telling) (why : Refusal) (result : Result Reply StoreFail) → telling ≡ Err why → Refuses why result → AnswersBy a (telling_verdict a.tenant telling) result
as_refused a telling why result e h = subst (λ (t : Telling). AnswersBy a (telling_verdict a.tenant t) result) (sym e) (refused_by a why result h)

-- why no reply was made
pub undamaged : (a : Asked) (telling : Telling) (e : StoreFail) → e ≢ Damaged → AnswersBy a (telling_verdict a.tenant telling) (Err e)
undamaged a telling e h = h
