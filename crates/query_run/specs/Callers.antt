-- The caller who asks for records, and the object that is asked for.
use Rattle.std.specs.Prelude.{◌≡◌, Some, ℤ}
use Rattle.store_kv.specs.Tables.{Tables}
use Rattle.model.specs.declared.caller.Caller.{Caller}
use Rattle.model.specs.Objects.{Numbered, object_named}
use Rattle.model.specs.Paths.{Asked}
use Rattle.model.specs.World.{user_at}
use Rattle.soql.specs.declared.query.Query.{Query}
use Rattle.store_abstraction.specs.declared.layout.Layout.{Layout}
use Rattle.store_abstraction.specs.Layouts.{layout_of}
use Rattle.store_abstraction.specs.Local.{StandsIn}
use Rattle.store_abstraction.specs.Plan.{OrgPlan}

-- the caller is the one who asks, at this moment
pub record IsCallerAt (c : Caller) (moment : ℤ) (a : Asked) : Type 0 where
  pub user : user_at a.tenant.users c.user ≡ Some a.user
  pub admin : a.user.admin ≡ c.admin
  pub now : a.now ≡ moment

-- it is the object that the query names, in a tenant for which the organisation's rows stand
pub record IsObjectOf (l : Layout) (q : Query) (m : Tables) (p : OrgPlan) (a : Asked) : Type 0 where
  pub stands : StandsIn l.org p m (Some a.tenant)
  pub object : Numbered
  pub named : object_named a.tenant q.tail.from ≡ Some object
  pub its : l ≡ layout_of l.org p a.tenant object
