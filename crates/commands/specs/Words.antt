-- The words of a command line as the code takes them apart.
use Rattle.std.specs.Prelude.{◌≡◌, ◌≢◌, ◌⊎◌, ◌<◌, ◌≤◌, ℕ, List, length, slice_index, Option, Some, None}
use Rattle.std.specs.Str.{byte}
use Rattle.std.specs.Str.Parse.{IsNumeral, digits_value}
use Rattle.commands.specs.Commands.{Command, answers, csvq, demo, export, load, most_records, org_add, prints, serves, user_set}
use Rattle.commands.specs.declared.command.Words.{Words}
use Rattle.commands.specs.declared.command.Words.TheVariants.{Answer, Csvq, Demo, Export, Load, OrgAdd, Other, Serve, UserSet}

-- digits that write a number from the least to the most, without a leading zero but in `0` itself
pub record IsNumber (least most : ℕ) (word : List ℕ) : Type 0 where
  pub numeral : IsNumeral 10 word
  pub first : (length word ≡ 1) ⊎ (slice_index word 0 ≢ byte "0")
  pub some : least ≤ digits_value 10 word
  pub few : digits_value 10 word ≤ most

-- they are this command, or none
abbrev pub AreWords : Words → Option Command → Type 0
AreWords (Csvq query) command = command ≡ Some (prints (csvq query.now))
AreWords (OrgAdd name secret) command = command ≡ Some (prints (org_add name.now secret.now))
AreWords (UserSet org user secret) command = command ≡ Some (prints (user_set org.now user.now secret.now))
AreWords (Export org user secret query) command = command ≡ Some (prints (export org.now user.now secret.now query.now))
AreWords (Load org user secret object) command = command ≡ Some (prints (load org.now user.now secret.now object.now))
AreWords (Demo count) command = (count ≤ most_records) × (command ≡ Some (prints (demo count)))
AreWords Answer command = command ≡ Some answers
AreWords (Serve count) command = (0 < count) × (command ≡ Some (serves count))
AreWords Other command = command ≡ None
