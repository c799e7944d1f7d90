use Rattle.server.proofs.Kept.{kept_on, kept_opened}
use Rattle.server.proofs.Leading.{led_by_reading, led_on}
use Rattle.std.proofs.Common.{[]}
use Rattle.server.proofs.laws.serving_laws.Goals as goal

pub returns : goal.returns
returns g c =
    let state = g.K.Keeper.state in
    record {
      left_by_reading = λ sense w a b steps shows stands. kept_opened sense w (state a) (state b) steps shows stands;
      led_by_reading = λ w a b shows less stands. led_by_reading w (state a) (state b) shows less stands;
      left_from_open = λ sense w end xs a b c h k. kept_on sense w end [] xs (state a) (state b) (state c) h k;
      led_from_open = λ w a b c h steps k. led_on w (state a) (state b) (state c) h steps k;
    }
