use Rattle.std.proofs.Common.{◌≡◌, [], ◌∷◌, ◌++◌, List, true}
use Rattle.std.specs.Prelude.{codes}
use Rattle.std.specs.Str.{chars}
use Rattle.base_json.specs.declared.tree.Member.{Member}
use Rattle.base_json_tree.specs.Words.{member, truth}
use Rattle.api_read.proofs.DescribedMembers.{put_behind}
use Rattle.api_read.proofs.describe.summary.put_rights.Goals as goal

pub returns : goal.returns
unfolding chars
returns c =
    let old = c.args.members.now in
    let one : List Member = member (codes "custom") (truth true) ∷ [] in
    let two : List Member = one ++ member (codes "queryable") (truth true) ∷ [] in
    let three : List Member = two ++ member (codes "createable") (truth true) ∷ [] in
    let four : List Member = three ++ member (codes "updateable") (truth true) ∷ [] in
    let first : c.truth.new.self ≡ old ++ one = c.in_ok-truth.ensures in
    let second = put_behind old c.truth.new.self c.truth-2.new.self one (member (codes "queryable") (truth true)) first c.in_ok-truth-2.ensures in
    let third = put_behind old c.truth-2.new.self c.truth-3.new.self two (member (codes "createable") (truth true)) second c.in_ok-truth-3.ensures in
    let fourth = put_behind old c.truth-3.new.self c.truth-4.new.self three (member (codes "updateable") (truth true)) third c.in_ok-truth-4.ensures in
    put_behind old c.truth-4.new.self c.truth-5.new.self four (member (codes "deletable") (truth true)) fourth c.in_ok-truth-5.ensures
