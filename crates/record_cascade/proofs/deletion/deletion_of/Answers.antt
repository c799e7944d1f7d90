use Rattle.std.proofs.Common.{◌∷◌, [], ℕ, List, Some, length, sym, ap, subst, ◌∙◌, arith}
use Rattle.base_lemmas.proofs.Results.{err_from_parts as returned}
use Rattle.store_kv.specs.Tables.{Tables}
use Rattle.model.specs.Deletes.{cascade}
use Rattle.store_abstraction.specs.Local.{StandsIn}
use Rattle.record_cascade.specs.Deletion.{DeletesWith}
use Rattle.record_cascade.specs.inner.Masters.{IsInOrder}
use Rattle.record_cascade.proofs.Judging.{all_counted, failed, gone_found, have_ordered, no_more, one_there}
use Rattle.record_cascade.proofs.deletion.deletion_of.Goals as goal

pub returns-in_err-cleared-clause-deletes : goal.returns-in_err-cleared-clause-deletes
unfolding cascade
returns-in_err-cleared-clause-deletes g c told q t r s are here same =
    let a = c.args.draft.now in
    let b = c.cascade.new.draft in
    let d = c.judge.new.draft in
    let tell = c.draft_laws.ensures.both 0 0 a b d c.cascade.ensures.calls.reads c.judge.ensures.calls.reads told in
    let stands = subst (λ (m : Tables). StandsIn c.args.org q m (Some t)) (sym tell.2) s in
    let all = c.in_ok-all.ensures.finds tell.0 q t s are (r ∷ []) (ap (λ (i : List ℕ). i ∷ []) same) in
    let order = subst (λ (is : List (List ℕ)). IsInOrder is c.in_ok-gone.gone.keys) c.as_slice.ensures c.in_ok-gone.ensures in
    let have = have_ordered (cascade t r) c.in_ok-all.all c.in_ok-gone.gone.keys all order in
    let count = all_counted (cascade t r) c.in_ok-all.all c.len.result all c.len.ensures in
    let e = c.in_err-cleared.field-0.0 in
    subst (DeletesWith t r) (sym (returned c.from_residual-in_err-cleared.result e c.from_residual-in_err-cleared.ensures))
    (failed t r e (c.in_err-cleared.ensures.judges tell.1 q t stands are (cascade t r) have count))

pub returns-clause-deletes : goal.returns-clause-deletes
unfolding cascade
returns-clause-deletes g c told q t r s are here same =
    let a = c.args.draft.now in
    let b = c.cascade.new.draft in
    let d = c.judge.new.draft in
    let tell = c.draft_laws.ensures.both 0 0 a b d c.cascade.ensures.calls.reads c.judge.ensures.calls.reads told in
    let stands = subst (λ (m : Tables). StandsIn c.args.org q m (Some t)) (sym tell.2) s in
    let all = c.in_ok-all.ensures.finds tell.0 q t s are (r ∷ []) (ap (λ (i : List ℕ). i ∷ []) same) in
    let order = subst (λ (is : List (List ℕ)). IsInOrder is c.in_ok-gone.gone.keys) c.as_slice.ensures c.in_ok-gone.ensures in
    let have = have_ordered (cascade t r) c.in_ok-all.all c.in_ok-gone.gone.keys all order in
    let count = all_counted (cascade t r) c.in_ok-all.all c.len.result all c.len.ensures in
    let judged = c.in_ok-cleared.ensures.judges tell.1 q t stands are (cascade t r) have count in
    let own = subst (λ (is : List (List ℕ)). IsInOrder is c.in_ok-gone.gone.keys) all order in
    (judged.0, c.from_vec-gone.ensures ∙ c.in_ok-listed.ensures ∙ gone_found t s.sound 3 (r ∷ []) (one_there t r here) c.in_ok-gone.gone.keys own, judged.1)

pub returns-clause-few : goal.returns-clause-few
returns-clause-few g c =
    let order = subst (λ (is : List (List ℕ)). IsInOrder is c.in_ok-gone.gone.keys) c.as_slice.ensures c.in_ok-gone.ensures in
    let less = no_more c.in_ok-all.all c.in_ok-gone.gone.keys order in
    let size = ap (λ (is : List (List ℕ)). length is) (c.from_vec-gone.ensures ∙ c.in_ok-listed.ensures) in
    let few = c.in_ok-cleared.ensures.few in
    let len = c.len.ensures in
    omega (arith, less, size, few, len)
