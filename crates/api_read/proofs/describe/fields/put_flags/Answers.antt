use Rattle.std.proofs.Common.{◌≡◌, [], ◌∷◌, ◌++◌, List, true}
use Rattle.std.specs.Prelude.{codes}
use Rattle.std.specs.Str.{chars}
use Rattle.base_json.specs.declared.tree.Member.{Member}
use Rattle.base_json_tree.specs.Words.{member, truth}
use Rattle.api_read.proofs.DescribedMembers.{put_behind}
use Rattle.api_read.proofs.describe.fields.put_flags.Goals as goal

pub returns : goal.returns
unfolding chars
returns c =
    let old = c.args.members.now in
    let one : List Member = member (codes "nillable") (truth c.args.flags.nillable) ∷ [] in
    let two : List Member = one ++ member (codes "unique") (truth c.args.flags.unique) ∷ [] in
    let three : List Member = two ++ member (codes "externalId") (truth c.args.flags.unique) ∷ [] in
    let four : List Member = three ++ member (codes "custom") (truth c.args.flags.custom) ∷ [] in
    let five : List Member = four ++ member (codes "nameField") (truth c.args.flags.is_name) ∷ [] in
    let six : List Member = five ++ member (codes "createable") (truth c.args.flags.createable) ∷ [] in
    let seven : List Member = six ++ member (codes "updateable") (truth c.args.flags.updateable) ∷ [] in
    let eight : List Member = seven ++ member (codes "filterable") (truth true) ∷ [] in
    let first : c.truth.new.self ≡ old ++ one = c.in_ok-truth.ensures in
    let second = put_behind old c.truth.new.self c.truth-2.new.self one (member (codes "unique") (truth c.args.flags.unique)) first c.in_ok-truth-2.ensures in
    let third = put_behind old c.truth-2.new.self c.truth-3.new.self two (member (codes "externalId") (truth c.args.flags.unique)) second c.in_ok-truth-3.ensures in
    let fourth = put_behind old c.truth-3.new.self c.truth-4.new.self three (member (codes "custom") (truth c.args.flags.custom)) third c.in_ok-truth-4.ensures in
    let fifth = put_behind old c.truth-4.new.self c.truth-5.new.self four (member (codes "nameField") (truth c.args.flags.is_name)) fourth c.in_ok-truth-5.ensures in
    let sixth = put_behind old c.truth-5.new.self c.truth-6.new.self five (member (codes "createable") (truth c.args.flags.createable)) fifth c.in_ok-truth-6.ensures in
    let seventh = put_behind old c.truth-6.new.self c.truth-7.new.self six (member (codes "updateable") (truth c.args.flags.updateable)) sixth c.in_ok-truth-7.ensures in
    let eighth = put_behind old c.truth-7.new.self c.truth-8.new.self seven (member (codes "filterable") (truth true)) seventh c.in_ok-truth-8.ensures in
    put_behind old c.truth-8.new.self c.truth-9.new.self eight (member (codes "sortable") (truth true)) eighth c.in_ok-truth-9.ensures
