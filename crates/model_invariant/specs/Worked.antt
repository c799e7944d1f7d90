-- A small organisation that is sound: a new one, then with an object, then with a record. A reader of the rules may pass it over.
use Rattle.std.specs.Prelude.{true, [], ◌∷◌, codes, None}
use Rattle.sha2.specs.Sha256.{sha256}
use Rattle.base_value.specs.declared.sharing.Access.TheVariants as access
use Rattle.model.specs.declared.metadata_bodies.NewObject.{NewObject}
use Rattle.model.specs.Creates.{create}
use Rattle.model.specs.Metadata.{add_object}
use Rattle.model.specs.Organisations.{administrator, fresh}
use Rattle.model.specs.Paths.{Asked}
use Rattle.model.specs.Tenant.{Tenant, User}
use Rattle.model.specs.WorkedQueries.{asked_by}

-- as it is added, and its administrator
abbrev pub acme : Tenant
acme = fresh (codes "Acme") (sha256 (codes "abc!d"))

abbrev pub founder : User
founder = administrator (codes "Acme") (sha256 (codes "abc!d"))

-- with deals
abbrev pub new_deals : NewObject
new_deals = record { members = codes "name" ∷ codes "access" ∷ []; name = codes "Deal__c"; access = access.Private; hierarchy = true; master = None }

abbrev pub with_deals : Tenant
with_deals = (add_object acme new_deals).tenant

-- and with a deal, which the administrator makes
abbrev pub asks_for_deal : Asked
asks_for_deal = asked_by founder with_deals

abbrev pub with_deal : Tenant
with_deal = (create asks_for_deal (codes "Deal__c") []).tenant
