-- The commands, what each uses, and what each prints.
use Rattle.std.specs.Prelude.{ℕ, ◌-◌, ◌^◌, Bool, true, false, not, ◌&&◌, ◌==◌, nat_le, if◌then◌else◌, List, [], ◌∷◌, Option, Some, None, codes}
use Rattle.std.specs.Char.{digit_value}
use Rattle.std.specs.List.{list_any}
use Rattle.std.specs.Option.{option_map}
use Rattle.std.specs.Str.{byte, bytes_eq}
use Rattle.std.specs.Str.Parse.{digits_value}
use Rattle.base_value.specs.Numerals.{is_within}
use Rattle.model.specs.Callers.{named_by}
use Rattle.model.specs.World.{World}
use Rattle.commands.specs.Csvq.{reads_input, rows_printed}
use Rattle.cmd_load.specs.Batches.{first_moment}
pub use Rattle.cmd_demo.specs.Demos.{most_records}
use Rattle.commands.specs.Deeds.{Printed, one_deed}
use Rattle.commands.specs.Demo.{demo_printed}
use Rattle.commands.specs.Export.{export_does}
use Rattle.commands.specs.Load.{load_printed}
use Rattle.commands.specs.OrgAdd.{org_printed, org_world}
use Rattle.commands.specs.UserSet.{user_set_does}

-- commands that print a text
pub data Printing : Type 0 where
  -- a query over a CSV text
  csvq : (query : List ℕ) → Printing
  -- a new organisation with this name and its administrator's secret
  org_add : (name secret : List ℕ) → Printing
  -- a new secret of a user of an organisation, who is an active administrator then
  user_set : (org user secret : List ℕ) → Printing
  -- the rows of a query of a user of an organisation, whose secret it is, as lines of CSV
  export : (org user secret query : List ℕ) → Printing
  -- a CSV text, whose rows are loaded into an object of an organisation by a user of it, whose secret it is
  load : (org user secret object : List ℕ) → Printing
  -- a change of a field's type over so many records of its own
  demo : (count : ℕ) → Printing

pub data Command : Type 0 where
  prints : Printing → Command
  -- the messages of one connection, from the source, answered to the sink
  answers : Command
  -- connections of the door, so many or all that come
  serves : (count : ℕ) → Command

-- ---- words

-- decimal digits
abbrev pub all_digits : List ℕ → Bool
all_digits [] = true
all_digits (c ∷ cs) = nat_le (digit_value c) 9 && all_digits cs

-- a leading zero is that of `0` alone
abbrev pub is_counting : List ℕ → Bool
is_counting [] = false
is_counting (c ∷ []) = all_digits (c ∷ [])
is_counting (c ∷ d ∷ cs) = not (c == byte "0") && all_digits (c ∷ d ∷ cs)

-- the number that a word writes, from the least to the most
abbrev pub number_within : (least most : ℕ) → List ℕ → Option ℕ
number_within least most word = if is_counting word && is_within least most (digits_value 10 word) then Some (digits_value 10 word) else None

-- the most connections that one run serves: as many as there are without a count
abbrev pub most_connections : ℕ
most_connections = 2 ^ 64 - 1

-- the count of connections that a word writes: from 1 to the most
abbrev pub count_in : List ℕ → Option ℕ
count_in word = number_within 1 most_connections word

-- the number of records of a demo that a word writes: from none to the most
abbrev pub records_in : List ℕ → Option ℕ
records_in word = number_within 0 most_records word

abbrev pub csvq_of : List (List ℕ) → Option Command
csvq_of (query ∷ []) = Some (prints (csvq query))
csvq_of _ = None

abbrev pub org_add_of : List (List ℕ) → Option Command
org_add_of (name ∷ secret ∷ []) = Some (prints (org_add name secret))
org_add_of _ = None

abbrev pub user_set_of : List (List ℕ) → Option Command
user_set_of (org ∷ user ∷ secret ∷ []) = Some (prints (user_set org user secret))
user_set_of _ = None

abbrev pub export_of : List (List ℕ) → Option Command
export_of (org ∷ user ∷ secret ∷ query ∷ []) = Some (prints (export org user secret query))
export_of _ = None

abbrev pub load_of : List (List ℕ) → Option Command
load_of (org ∷ user ∷ secret ∷ object ∷ []) = Some (prints (load org user secret object))
load_of _ = None

abbrev pub demo_of : List (List ℕ) → Option Command
demo_of (count ∷ []) = option_map (λ n. prints (demo n)) (records_in count)
demo_of _ = None

abbrev pub answer_of : List (List ℕ) → Option Command
answer_of [] = Some answers
answer_of _ = None

abbrev pub serve_of : List (List ℕ) → Option Command
serve_of [] = Some (serves most_connections)
serve_of (count ∷ []) = option_map serves (count_in count)
serve_of _ = None

-- the first word of each command, and the command that the words behind it make
abbrev pub table : List (List ℕ × (List (List ℕ) → Option Command))
table =
    (codes "csvq", csvq_of) ∷ (codes "org-add", org_add_of) ∷ (codes "user-set", user_set_of) ∷ (codes "export", export_of) ∷ (codes "load", load_of)
    ∷ (codes "demo", demo_of) ∷ (codes "answer", answer_of) ∷ (codes "serve", serve_of) ∷ []

abbrev pub found_in : List (List ℕ × (List (List ℕ) → Option Command)) → List ℕ → List (List ℕ) → Option Command
found_in [] word arguments = None
found_in (line ∷ lines) word arguments = if bytes_eq word line.0 then line.1 arguments else found_in lines word arguments

-- the command that the words are, if they are one
abbrev pub command_of : List (List ℕ) → Option Command
command_of [] = None
command_of (word ∷ arguments) = found_in table word arguments

-- ---- what each uses, and what it may have done by its status

-- how often a command asks the clock
pub data Asks : Type 0 where
  never : Asks
  once : Asks
  -- once for each message, or each row
  each : Asks

pub record Uses : Type 0 where
  -- whether it opens the keeper
  pub keeper : Bool
  -- whether it looks at its input
  pub source : Bool
  -- whether it opens the door
  pub door : Bool
  pub clock : Asks
  -- whether what it prints depends on the moment
  pub dated : Bool
  -- its statuses
  pub statuses : List ℕ
  -- after these the tables may be others than before: something was done, whatever became of the writing
  pub changes : List ℕ
  -- after these something may have been written to the sink
  pub writes : List ℕ
  -- after these nothing but the opening of the tables was tried
  pub openings : List ℕ

-- the statuses of a command that serves connections, if it stops at the opening of the tables
abbrev pub opening_stops : List ℕ
opening_stops = 71 ∷ 72 ∷ 76 ∷ 77 ∷ []

-- of a command that makes a printout of the tables: whether a refusal changes nothing, how often it asks the clock, and whether what it
-- prints depends on the moment
abbrev pub table_changes : (keeps : Bool) → List ℕ
table_changes true = 0 ∷ 73 ∷ []
table_changes false = 0 ∷ 65 ∷ 73 ∷ []

abbrev pub table_uses : (keeps : Bool) → Asks → (dated : Bool) → Uses
table_uses keeps clock dated = record {
  keeper = true;
  source = false;
  door = false;
  clock = clock;
  dated = dated;
  statuses = 0 ∷ 65 ∷ 71 ∷ 72 ∷ 73 ∷ 76 ∷ 77 ∷ [];
  changes = table_changes keeps;
  writes = 0 ∷ 65 ∷ 73 ∷ [];
  openings = [];
}

abbrev pub uses : Printing → Uses
uses (csvq query) = record {
  keeper = false;
  source = reads_input query;
  door = false;
  clock = once;
  dated = true;
  statuses = 0 ∷ 65 ∷ 71 ∷ 73 ∷ 74 ∷ [];
  changes = [];
  writes = 0 ∷ 65 ∷ 73 ∷ [];
  openings = [];
}
uses (org_add name secret) = table_uses true never false
uses (user_set org user secret) = table_uses true never false
uses (export org user secret query) = table_uses false once true
uses (load org user secret object) = record {
  keeper = true;
  source = true;
  door = false;
  clock = each;
  dated = true;
  statuses = 0 ∷ 65 ∷ 71 ∷ 72 ∷ 73 ∷ 74 ∷ 76 ∷ 77 ∷ [];
  changes = 0 ∷ 71 ∷ 72 ∷ 73 ∷ 76 ∷ [];
  writes = 0 ∷ 65 ∷ 71 ∷ 72 ∷ 73 ∷ 76 ∷ [];
  openings = 77 ∷ [];
}
uses (demo count) = record {
  keeper = false;
  source = false;
  door = false;
  clock = once;
  dated = true;
  statuses = 0 ∷ 65 ∷ 71 ∷ 73 ∷ [];
  changes = [];
  writes = 0 ∷ 65 ∷ 73 ∷ [];
  openings = [];
}

abbrev pub uses_of : Command → Uses
uses_of (prints p) = uses p
uses_of answers = record {
  keeper = true;
  source = true;
  door = false;
  clock = each;
  dated = true;
  statuses = 0 ∷ 73 ∷ 74 ∷ opening_stops;
  changes = 0 ∷ 73 ∷ 74 ∷ [];
  writes = 0 ∷ 73 ∷ 74 ∷ [];
  openings = opening_stops;
}
uses_of (serves count) = record {
  keeper = true;
  source = false;
  door = true;
  clock = each;
  dated = true;
  statuses = 0 ∷ 75 ∷ opening_stops;
  changes = 0 ∷ 75 ∷ [];
  writes = [];
  openings = opening_stops;
}

-- whether it serves connections
abbrev pub is_serving : Command → Bool
is_serving (prints p) = false
is_serving answers = true
is_serving (serves count) = true

-- whether these words use the keeper
abbrev pub opens_in : Option Command → Bool
opens_in None = false
opens_in (Some command) = (uses_of command).keeper

-- ---- by the status

abbrev pub is_one_of : ℕ → List ℕ → Bool
is_one_of status statuses = list_any (λ s. s == status) statuses

abbrev pub has_status : Command → ℕ → Bool
has_status command status = is_one_of status (uses_of command).statuses

abbrev pub may_change : Command → ℕ → Bool
may_change command status = is_one_of status (uses_of command).changes

abbrev pub may_write : Command → ℕ → Bool
may_write command status = is_one_of status (uses_of command).writes

-- of a command that serves connections
abbrev pub is_opening : ℕ → Bool
is_opening status = is_one_of status opening_stops

-- ---- what is used

pub record Used : Type 0 where
  pub keeper : Bool
  pub door : Bool
  pub source : Bool
  pub sink : Bool
  pub clock : Bool

abbrev pub asks : Asks → Bool
asks never = false
asks once = true
asks each = true

-- what a command uses that wrote or didn't, and did or didn't get past its opening
abbrev pub used_so : Uses → (wrote begun : Bool) → Used
used_so u wrote begun = record { keeper = u.keeper; door = begun && u.door; source = begun && u.source; sink = wrote; clock = begun && asks u.clock }

-- what these words use that end with this status
abbrev pub used_by : Option Command → ℕ → Used
used_by None status = record { keeper = false; door = false; source = false; sink = false; clock = false }
used_by (Some command) status = used_so (uses_of command) (may_write command status) (not (is_one_of status (uses_of command).openings))

-- ---- what each prints, given the world of the tables, the bytes of its input, and the moments that the clock will tell

abbrev pub printed : Printing → World → List ℕ → List ℕ → Printed
printed (csvq query) w bytes moments = one_deed (rows_printed query bytes (first_moment moments)) w
printed (org_add name secret) w bytes moments = one_deed (org_printed w name secret) (org_world w name secret)
printed (user_set org user secret) w bytes moments = let x = user_set_does org user secret w in one_deed x.0 x.1
printed (export org user secret query) w bytes moments =
    let x = export_does org user secret query (first_moment moments) w in one_deed x.0 x.1
printed (load org user secret object) w bytes moments = load_printed (named_by org user secret) object bytes moments w
printed (demo count) w bytes moments = one_deed (demo_printed count (first_moment moments)) w
