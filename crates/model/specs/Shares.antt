-- Manual shares: new ones, and their end.
-- Source: Salesforce, "Record-Level Security", "Manual Sharing". The order in which one is judged is this product's own.
use Rattle.std.specs.Prelude.{ℕ, Bool, not, List, [], ◌∷◌, filter, length, bytes_eq, codes, Option, None}
use Rattle.std.specs.List.{list_any}
use Rattle.std.specs.declared.cmp.Ordering.{Ordering}
use Rattle.std.specs.Ordering.{nat_cmp, is_eq, ordering_then}
use Rattle.std.specs.Cmp.Lexicographic.{slice_cmp}
use Rattle.base_value.specs.Principals.{principal_cmp}
use Rattle.base_value.specs.declared.sharing.Level.TheVariants.{Full}
use Rattle.model.specs.declared.limit.Limit.TheVariants as limit
use Rattle.model.specs.declared.record.Record.{Record}
use Rattle.model.specs.declared.refusal.Refusal.TheVariants.{InvalidReference, InvalidType, MalformedId}
pub use Rattle.model.specs.declared.sharing_bodies.NewShare.{NewShare}
use Rattle.model.specs.Cases.{in_case}
use Rattle.model.specs.Fields.{is_detail}
use Rattle.model.specs.Objects.{object_of_record, record_at}
use Rattle.model.specs.Ordered.{put_in}
use Rattle.model.specs.Paths.{Asked}
use Rattle.model.specs.Principals.{Spelled, bad_id, not_there, principal_of, spelled_id}
use Rattle.model.specs.Rights.{denied, on_readable}
use Rattle.model.specs.Rules.{Rule, refuse_if, in_body_order, over_limit}
use Rattle.model.specs.Tenant.{Share, Tenant}
use Rattle.model.specs.Verdict.{Verdict, accept, done, judged, refuse}

-- ---- the shares of an organisation

-- by record, and then by principal
abbrev pub share_cmp : Share → Share → Ordering
share_cmp a b = ordering_then (slice_cmp nat_cmp a.item b.item) (principal_cmp a.to b.to)

-- of one record with one principal, whatever the level
abbrev pub same_share : Share → Share → Bool
same_share a b = is_eq (share_cmp a b)

-- the shares but for the one of this record with this principal
abbrev pub without_share : Share → List Share → List Share
without_share s shares = filter (λ x. not (same_share x s)) shares

-- the shares with this one, in place of the one of its record with its principal
abbrev pub with_share : Share → List Share → List Share
with_share s shares = put_in share_cmp s (without_share s shares)

-- those of a record
abbrev pub shares_of : (item : List ℕ) → List Share → List Share
shares_of item shares = filter (λ x. bytes_eq x.item item) shares

-- ---- a new share, or another level

-- a detail isn't shared
abbrev pub detail_refused : Tenant → Record → Rule
detail_refused t r = in_case (object_of_record t r) None (λ o. refuse_if (is_detail o) (InvalidType o.name))

-- the share that a body says
abbrev pub share_of : NewShare → Share
share_of b = record { item = spelled_id b.item; to = principal_of b.to; level = b.level }

abbrev pub share_rules : Asked → Share → Record → List Rule
share_rules a s r =
    detail_refused a.tenant r
    ∷ denied a Full r
    ∷ not_there a.tenant (codes "to") s.to
    ∷ over_limit ((limit.SharesPerRecord, length (shares_of s.item (with_share s a.tenant.shares))) ∷ [])
    ∷ []

-- the share with that principal is added, or replaced
abbrev pub share : Asked → NewShare → Verdict
share a b =
    judged a.tenant (in_body_order b.members ((codes "record", bad_id b.item) ∷ (codes "to", bad_id b.to.text) ∷ []) ∷ [])
    (on_readable a (record_at a.tenant (spelled_id b.item)) (λ r.
    judged a.tenant (share_rules a (share_of b) r) (accept done (record a.tenant { shares = with_share (share_of b) a.tenant.shares }))))

-- ---- the end of a share

abbrev pub unshare_rules : Asked → Share → Record → List Rule
unshare_rules a s r =
    detail_refused a.tenant r
    ∷ denied a Full r
    ∷ refuse_if (not (list_any (same_share s) a.tenant.shares)) (InvalidReference (codes "to"))
    ∷ []

-- the share of the record with the principal is gone
abbrev pub unshare_with : Asked → (item : List ℕ) → Spelled → Verdict
unshare_with a item p =
    let s : Share = record { item = spelled_id item; to = principal_of p; level = Full } in
    on_readable a (record_at a.tenant s.item) (λ r.
    judged a.tenant (unshare_rules a s r) (accept done (record a.tenant { shares = without_share s a.tenant.shares })))

-- the same by the parts of the path; the principal is none where its part has another form, and then MALFORMED_ID names the part
abbrev pub unshare : Asked → (item part : List ℕ) → Option Spelled → Verdict
unshare a item part to =
    judged a.tenant (bad_id item ∷ []) (in_case to (refuse a.tenant (MalformedId part)) (λ p.
    judged a.tenant (bad_id p.text ∷ []) (unshare_with a item p)))
