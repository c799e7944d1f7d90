-- What judging a share, or its end, comes to. No public contract reaches these words.
-- Source: Salesforce, "Record-Level Security", "Manual Sharing".
use Rattle.std.specs.Prelude.{◌≡◌, List, ℕ, IsTrue, Option, Some, None, Result, Ok, Err}
use Rattle.store_edit.specs.Edits.{FailsBy}
use Rattle.store_rows.specs.declared.share.ShareRow.{ShareRow}
use Rattle.store_rows.specs.Forms.{FitsForm}
use Rattle.store_rows.specs.Rows.{share_form}
use Rattle.model.specs.Objects.{record_at}
use Rattle.model.specs.Paths.{Asked}
use Rattle.model.specs.declared.people_bodies.Spelled.{Spelled}
use Rattle.model.specs.declared.sharing_bodies.NewShare.{NewShare}
use Rattle.model.specs.Principals.{bad_id, principal_of, spelled_id}
use Rattle.model.specs.Rights.{on_readable}
use Rattle.model.specs.Shares.{share, share_of, unshare, unshare_rules, with_share, without_share}
use Rattle.model.specs.Tenant.{Share, Tenant}
use Rattle.model.specs.Verdict.{Verdict, accept, done, judged}
use Rattle.store_codec.specs.Composed.{FitsPrincipal}
use Rattle.access_shares.specs.declared.unsharing.NamedShare.{NamedShare}
use Rattle.store_abstraction.specs.declared.fail.EditFail.{EditFail}
use Rattle.store_abstraction.specs.Metadata.{row_of_share}
use Rattle.base_value.specs.Id.{is_id}
use Rattle.base_value.specs.declared.sharing.Level.TheVariants.{Full}

-- ---- a new share

-- a row of this organisation that can be written
pub record FitsShareRow (org : ℕ) (row : ShareRow) : Type 0 where
  pub own : row.org ≡ org
  pub form : FitsForm share_form row

-- the tenant with the share
abbrev pub shared_in : Tenant → Share → Tenant
shared_in t s = record t { shares = with_share s t.shares }

-- the row of the share that a body says, which its verdict accepts; or why there is none
abbrev pub AcceptsShare : (org : ℕ) → Asked → NewShare → Result ShareRow EditFail → Type 0
AcceptsShare org a b (Ok row) = (row ≡ row_of_share org (share_of b)) × (share a b ≡ accept done (shared_in a.tenant (share_of b)))
AcceptsShare org a b (Err e) = FailsBy (share a b) e

-- ---- the end of one

-- the share that is named, whatever its level
abbrev pub share_named : NamedShare → Share
share_named x = record { item = x.item; to = x.to; level = Full }

-- its key has a spelling
pub record FitsNamedShare (x : NamedShare) : Type 0 where
  pub item : IsTrue (is_id x.item)
  pub to : FitsPrincipal x.to

-- the parts of a path name this share
pub record IsNamedBy (text : List ℕ) (given : Option Spelled) (x : NamedShare) : Type 0 where
  pub spelled : Spelled
  pub there : given ≡ Some spelled
  pub item_text : bad_id text ≡ None
  pub to_text : bad_id spelled.text ≡ None
  pub item : x.item ≡ spelled_id text
  pub to : x.to ≡ principal_of spelled

-- the share that the parts of a path name, or how every request fails that ends it
abbrev pub NamesShare : (item part : List ℕ) → Option Spelled → Result NamedShare EditFail → Type 0
NamesShare item part to (Ok x) = IsNamedBy item to x
NamesShare item part to (Err e) = (a : Asked) → FailsBy (unshare a item part to) e

-- the tenant without the share
abbrev pub unshared_in : Tenant → Share → Tenant
unshared_in t s = record t { shares = without_share s t.shares }

-- what its end comes to
abbrev pub end_verdict : Asked → Share → Verdict
end_verdict a s =
    on_readable a (record_at a.tenant s.item) (λ r. judged a.tenant (unshare_rules a s r) (accept done (unshared_in a.tenant s)))

-- it is accepted, or why not
abbrev pub AcceptsEnd : Asked → NamedShare → Result (Unit {0}) EditFail → Type 0
AcceptsEnd a x (Ok y) = end_verdict a (share_named x) ≡ accept done (unshared_in a.tenant (share_named x))
AcceptsEnd a x (Err e) = FailsBy (end_verdict a (share_named x)) e
