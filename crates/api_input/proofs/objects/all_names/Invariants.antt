use Rattle.std.proofs.Common.{◌≡◌, ◌++◌, [], ◌∷◌, length}
use Rattle.std.specs.Prelude.{bytes_eq, codes, if◌then◌else◌}
use Rattle.std.specs.List.{flat_map}
use Rattle.model_requests.specs.Forms.{all_names}
use Rattle.model.specs.Members.{member_names}
use Rattle.api_input.specs.inner.Said.{said}
use Rattle.api_input.specs.inner.Spelled.{body_of}
use Rattle.api_input.proofs.objects.all_names.Given as goal

-- the names so far, and those to come
abbrev pub invariant-members : goal.invariant-members
invariant-members l =
    l.names
    ++ flat_map (λ name. if bytes_eq name (codes "master") then member_names (body_of l.master) else name ∷ []) (member_names (body_of l.rest))
    ≡ all_names (said l.fn.body)

abbrev pub decreases-members : goal.decreases-members
decreases-members l = length l.rest
