use Rattle.std.proofs.Common.{refl}
use Rattle.form_urlencoded.specs.Form.{split}
use Rattle.model_requests.specs.Routing.{lines, routed_as}
use Rattle.model_requests.proofs.routing_rows.route_rows.Goals as goal

pub returns-clause-query : goal.returns-clause-query
unfolding routed_as lines split
returns-clause-query c = refl

pub returns-clause-update : goal.returns-clause-update
unfolding routed_as lines split
returns-clause-update c = refl

pub returns-clause-no_part : goal.returns-clause-no_part
unfolding routed_as lines split
returns-clause-no_part c = refl

pub returns-clause-no_method : goal.returns-clause-no_method
unfolding routed_as lines split
returns-clause-no_method c = refl

pub returns-clause-no_path : goal.returns-clause-no_path
unfolding routed_as lines split
returns-clause-no_path c = refl

pub returns-clause-head : goal.returns-clause-head
unfolding routed_as lines split
returns-clause-head c = refl

pub returns-clause-head_of_post : goal.returns-clause-head_of_post
unfolding routed_as lines split
returns-clause-head_of_post c = refl

pub returns-clause-head_of_none : goal.returns-clause-head_of_none
unfolding routed_as lines split
returns-clause-head_of_none c = refl

pub returns-clause-slash : goal.returns-clause-slash
unfolding routed_as lines split
returns-clause-slash c = refl

pub returns-clause-two_slashes : goal.returns-clause-two_slashes
unfolding routed_as lines split
returns-clause-two_slashes c = refl

pub returns-clause-slash_behind_value : goal.returns-clause-slash_behind_value
unfolding routed_as lines split
returns-clause-slash_behind_value c = refl

pub returns-clause-organisation : goal.returns-clause-organisation
unfolding routed_as lines split
returns-clause-organisation c = refl

pub returns-clause-ends : goal.returns-clause-ends
unfolding routed_as lines split
returns-clause-ends c = refl

pub returns-clause-no_object : goal.returns-clause-no_object
unfolding routed_as lines split
returns-clause-no_object c = refl

pub returns-clause-caller : goal.returns-clause-caller
unfolding routed_as lines split
returns-clause-caller c = refl

pub returns-clause-record : goal.returns-clause-record
unfolding routed_as lines split
returns-clause-record c = refl

pub returns-clause-head_of_read : goal.returns-clause-head_of_read
unfolding routed_as lines split
returns-clause-head_of_read c = refl

pub returns-clause-oldest : goal.returns-clause-oldest
unfolding routed_as lines split
returns-clause-oldest c = refl

pub returns-clause-newest : goal.returns-clause-newest
unfolding routed_as lines split
returns-clause-newest c = refl

pub returns-clause-too_old : goal.returns-clause-too_old
unfolding routed_as lines split
returns-clause-too_old c = refl

pub returns-clause-no_version : goal.returns-clause-no_version
unfolding routed_as lines split
returns-clause-no_version c = refl

pub returns-clause-longer : goal.returns-clause-longer
unfolding routed_as lines split
returns-clause-longer c = refl
