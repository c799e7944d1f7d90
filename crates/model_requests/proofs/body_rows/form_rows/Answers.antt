use Rattle.std.proofs.Common.{refl}
use Rattle.model.proofs.Requesting.{requesting}
use Rattle.model_requests.proofs.body_rows.form_rows.Goals as goal

pub returns : goal.returns
unfolding requesting
returns c =
    record {
      share = refl;
      level = refl;
      twice = refl;
      unknown = refl;
      lacking = refl;
      object = refl;
      no_master = refl;
      apart = refl;
      no_truth = refl;
      switched = refl;
      nothing_said = refl;
      by_the_parent = refl;
      user = refl;
      short_secret = refl;
      inactive = refl;
      no_change = refl;
      new_secret = refl;
      role = refl;
      group = refl;
      no_message = refl;
      formula = refl;
      two_sources = refl;
      no_source = refl;
    }
