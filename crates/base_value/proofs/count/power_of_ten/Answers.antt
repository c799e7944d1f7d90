use Rattle.std.proofs.Common.{◌≤◌, ◌^◌, arith, lit<}
use Rattle.std.proofs.Math.Nat.{pow-le-pow_right}
use Rattle.base_value.proofs.Sizes.{ten_pos}
use Rattle.base_value.proofs.count.power_of_ten.Goals as goal

pub pow-requires : goal.pow-requires
pow-requires c =
    let bound : 10 ^ c.args.places ≤ 10 ^ 26 = pow-le-pow_right (lit< tt) c.requires in
    rw c.from.ensures (omega arith)

pub returns-clause-some : goal.returns-clause-some
returns-clause-some c = rw c.pow.ensures (ten_pos c.from.result)
