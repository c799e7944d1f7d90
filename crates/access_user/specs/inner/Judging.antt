-- Whether a record may be read, whether there are shares, and the level on a record that is looked for. No public contract reaches
-- these words.
use Rattle.std.specs.Prelude.{Bool, Result, Ok, Err, Vec}
use Rattle.store_rows.specs.declared.fail.StoreFail.{StoreFail}
use Rattle.model.specs.Levels.{at_least}
use Rattle.model.specs.Tenant.{Tenant, User}
use Rattle.store_abstraction.specs.declared.layout.Layout.{Layout}
use Rattle.store_abstraction.specs.Layouts.{IsLayout}
use Rattle.store_abstraction.specs.Plan.{OrgPlan}
use Rattle.base_value.specs.declared.sharing.Level.{Level}
use Rattle.base_value.specs.declared.sharing.Level.TheVariants.{Read}
use Rattle.access_user.specs.Granting.{IsUserRights}
use Rattle.access_user.specs.Sights.{has_any}
use Rattle.access_user.specs.declared.rights.UserRights.{UserRights}

-- whether who has this level may read
abbrev pub is_readable : Result Level StoreFail → Result Bool StoreFail
is_readable (Ok level) = Ok (at_least Read level)
is_readable (Err e) = Err e

-- whether some row was read
abbrev pub is_some_row : {U A : Type 0} → Result (Vec U A) StoreFail → Result Bool StoreFail
is_some_row (Ok rows) = Ok (has_any rows.items)
is_some_row (Err e) = Err e

-- the rights are the user's, and the layout is the tenant's
pub record MayLook (rights : UserRights) (l : Layout) (q : OrgPlan) (t : Tenant) (u : User) : Type 0 where
  pub granted : IsUserRights t u rights
  pub layout : IsLayout q t l
