-- How far a change is, as it is told.
use Rattle.std.proofs.Common.{◌≡◌, true, false, Option, Some, None, ap, refl}
use Rattle.std.specs.Option.{option_map}
use Rattle.model.specs.Cases.{in_case}
use Rattle.model.specs.Retyping.{job_is_done}
use Rattle.model.specs.Tenant.{Job, Tenant}
use Rattle.retype_request.specs.States.{state_in}
use Rattle.retype_request.specs.declared.state.ChangeState.{ChangeState}
use Rattle.cmd_demo.specs.Demos.{has_switched, is_settled, is_switch}

module _ (t : Tenant) where
  pub switch_told : (change : ChangeState) → Some change ≡ option_map (state_in t) t.job → is_switch change.outcome ≡ has_switched t
  switch_told change e = by t.job e
    where
      by : (job : Option Job) → Some change ≡ option_map (state_in t) job → is_switch change.outcome ≡ in_case job false (λ j. is_switch j.outcome)
      by None e = absurd cc
      by (Some j) e = let is : change ≡ state_in t j = cc in ap (λ (x : ChangeState). is_switch x.outcome) is

  pub no_switch : None ≡ option_map (state_in t) t.job → false ≡ has_switched t
  no_switch e = by t.job e
    where
      by : (job : Option Job) → None ≡ option_map (state_in t) job → false ≡ in_case job false (λ j. is_switch j.outcome)
      by None e = refl
      by (Some j) e = absurd cc

  pub end_told : (change : ChangeState) → Some change ≡ option_map (state_in t) t.job → job_is_done change.phase ≡ is_settled t
  end_told change e = by t.job e
    where
      by : (job : Option Job) → Some change ≡ option_map (state_in t) job → job_is_done change.phase ≡ in_case job true (λ j. job_is_done j.phase)
      by None e = absurd cc
      by (Some j) e = let is : change ≡ state_in t j = cc in ap (λ (x : ChangeState). job_is_done x.phase) is

  pub no_change : None ≡ option_map (state_in t) t.job → true ≡ is_settled t
  no_change e = by t.job e
    where
      by : (job : Option Job) → None ≡ option_map (state_in t) job → true ≡ in_case job true (λ j. job_is_done j.phase)
      by None e = refl
      by (Some j) e = absurd cc
