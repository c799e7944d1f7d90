-- What the parts of an organisation see of one another: the counter, and which ids name what. What makes a part sound speaks of
-- nothing else, so it stays where an edit of another part only adds to it. It is this product's own.
use Rattle.std.specs.Prelude.{◌≡◌, ℕ, ◌<◌, ◌≤◌, Bool, ◌&&◌, ◌||◌, ◌==◌, List, drop, is_some, IsTrue}
use Rattle.base_value.specs.Id.{made}
use Rattle.base_value.specs.declared.sharing.Principal.{Principal}
use Rattle.base_value.specs.declared.sharing.Principal.TheVariants as to
use Rattle.model.specs.Objects.{object_number, record_at}
use Rattle.model.specs.Tenant.{Tenant, Role, Group}
use Rattle.model.specs.World.{having_id, user_at}

pub record Known : Type 0 where
  pub counter : ℕ
  -- the id names a user, a role, a group, a record
  pub user : List ℕ → Bool
  pub role : List ℕ → Bool
  pub group : List ℕ → Bool
  pub item : List ℕ → Bool

abbrev pub role_id : Role → List ℕ
role_id r = r.id

abbrev pub group_id : Group → List ℕ
group_id g = g.id

-- what a tenant has
abbrev pub known : Tenant → Known
known t =
    record {
      counter = t.counter;
      user = λ i. is_some (user_at t.users i);
      role = λ i. is_some (having_id role_id t.roles i);
      group = λ i. is_some (having_id group_id t.groups i);
      item = λ i. is_some (record_at t i);
    }

-- a principal names a thing of its kind
abbrev pub knows : Known → Principal → Bool
knows k (to.User i) = k.user i
knows k (to.Role i) = k.role i
knows k (to.Subordinates i) = k.role i
knows k (to.Group i) = k.group i

-- a record of the object with this number
abbrev pub item_of : Known → ℕ → List ℕ → Bool
item_of k n i = k.item i && (object_number i == n)

-- an id that names anything at all
abbrev pub names_any : Known → List ℕ → Bool
names_any k i = k.user i || (k.role i || (k.group i || k.item i))

-- ---- ids that were drawn

-- an id of this prefix that was made of a number below the counter
abbrev pub IsDrawn : List ℕ → ℕ → List ℕ → Type 0
IsDrawn prefix counter id = (n : ℕ) × (n < counter) × (id ≡ made prefix n)

-- the digits of the number in an id
abbrev pub number_part : List ℕ → List ℕ
number_part id = drop 3 id

-- two ids that have one number are one: kinds of ids share the counter
abbrev pub NumbersDiffer : Known → Type 0
NumbersDiffer k = (i j : List ℕ) → IsTrue (names_any k i) → IsTrue (names_any k j) → number_part i ≡ number_part j → i ≡ j

-- ---- what only grows

-- whom the one knows, the other knows too
pub record KeepsPeople (k l : Known) : Type 0 where
  pub counter : k.counter ≤ l.counter
  pub user : (i : List ℕ) → IsTrue (k.user i) → IsTrue (l.user i)
  pub role : (i : List ℕ) → IsTrue (k.role i) → IsTrue (l.role i)
  pub group : (i : List ℕ) → IsTrue (k.group i) → IsTrue (l.group i)

-- and the records
pub record Grows (k l : Known) : Type 0 where
  pub people : KeepsPeople k l
  pub item : (i : List ℕ) → IsTrue (k.item i) → IsTrue (l.item i)
