-- What is in a `Result`.
use Rattle.std.proofs.Common.{◌≡◌, subst, Ok, Err, ap}
use Rattle.std.specs.Prelude.{IfOk, Result, IsErr}
use Rattle.std.specs.Result.{IsErrAnd}

pub IfOk-same : {X E : Type 0} (r : Result X E) (x y : X) → x ≡ y → IfOk r (λ v. v ≡ x) → IfOk r (λ v. v ≡ y)
IfOk-same {X = X} r x y e h = subst (λ (z : X). IfOk r (λ v. v ≡ z)) e h

pub err_from_parts : {X E : Type 0} (r : Result X E) (e : E) → IsErr r × IsErrAnd r (λ x. x ≡ e) → r ≡ Err e
err_from_parts (Ok x) e h = absurd h.1
err_from_parts (Err y) e h = ap Err h.1

pub same_Ok : {X E : Type 0} (x v : X) → ◌≡◌ {A = Result X E} (Ok x) (Ok v) → x ≡ v
same_Ok x v h = cc

pub err_from_IsErrAnd : {X E : Type 0} (r : Result X E) (e : E) → IsErrAnd r (λ x. x ≡ e) → r ≡ Err e
err_from_IsErrAnd (Ok x) e h = absurd h
err_from_IsErrAnd (Err y) e h = ap Err h
