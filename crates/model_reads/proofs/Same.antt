-- A read leaves the organisation as it was.
use Rattle.std.proofs.Common.{◌≡◌, Bool, true, false, Ok, Err, cond, refl}
use Rattle.std.specs.Prelude.{nat_lt, length, encode_utf8_all}
use Rattle.base_json_tree.specs.Words.{body}
use Rattle.model.specs.declared.refusal.Refusal.TheVariants.{ReplyTooLarge}
use Rattle.model.specs.Limits.{reply_limit}
use Rattle.model.specs.Tenant.{Tenant}
use Rattle.model.specs.Verdict.{accept, refuse, told}
use Rattle.model_reads.specs.Told.{Telling, telling_verdict}

pub telling_same : (t : Tenant) (telling : Telling) → (telling_verdict t telling).tenant ≡ t
telling_same t (Ok v) = by (nat_lt reply_limit (length (encode_utf8_all (body v))))
  where
    by : (b : Bool) → (cond b (refuse t ReplyTooLarge) (accept (told (body v)) t)).tenant ≡ t
    by true = refl
    by false = refl
telling_same t (Err refusal) = refl
