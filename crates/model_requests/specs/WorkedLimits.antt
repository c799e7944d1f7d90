-- Counts at their limits, for rows worked by hand. A reader of the rules may pass them over.
use Rattle.std.specs.Prelude.{ℕ, List, [], ◌∷◌, map, codes}
use Rattle.std.specs.List.{range_with_len}
use Rattle.base_value.specs.Id.{made}
use Rattle.base_value.specs.declared.sharing.Level.TheVariants.{Read}
use Rattle.base_value.specs.declared.sharing.Principal.TheVariants as to
use Rattle.model.specs.declared.people_bodies.PrincipalKind.TheVariants as kind
use Rattle.model_requests.specs.Requests.{adds_group, sets_group}
use Rattle.model.specs.Tenant.{Tenant}
use Rattle.model.specs.World.{group_prefix}
use Rattle.model_requests.specs.WorkedRecords.{detail_of}
use Rattle.model_requests.specs.WorkedRequests.{Call, add_deals, after_calls, by_admin, deal_made, deal_object, start}
use Rattle.model_requests.specs.WorkedSharing.{members_alone, principal_text}

-- a group (1), and so many members, which are all one user
abbrev pub group_made : List Call
group_made = by_admin (adds_group (codes "G")) ∷ []

abbrev pub members_to : ℕ → Call
members_to n = by_admin (sets_group (codes "00G000000000001") (members_alone (map (λ k. principal_text kind.User (codes "005000000000000")) (range_with_len 1 n))))

-- deal 8, which is shared with so many groups
abbrev pub shared_with : ℕ → Tenant
shared_with n =
    record (after_calls start deal_made) {
      shares = map (λ k. record { item = codes "a00000000000008"; to = to.Group (made group_prefix k); level = Read }) (range_with_len 100 n);
    }

-- a detail of an object
abbrev pub detail : (name parent child : List ℕ) → Call
detail name parent child = by_admin (detail_of name (codes "Master__c") parent child)

-- details of deals, their details, and theirs
abbrev pub three_levels : List Call
three_levels =
    add_deals
    ∷ detail (codes "One__c") deal_object (codes "Ones__r")
    ∷ detail (codes "Two__c") (codes "One__c") (codes "Twos__r")
    ∷ detail (codes "Three__c") (codes "Two__c") (codes "Threes__r")
    ∷ []
