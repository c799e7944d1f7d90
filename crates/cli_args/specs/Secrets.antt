-- The secret of a command, and what the word that stands for it names.
use Rattle.std.specs.Prelude.{◌≡◌, ◌==◌, ℕ, Bool, nat_lt, if◌then◌else◌, List, ◌∷◌, length, Option, Some, None, IfSome, codes}
use Rattle.std.specs.List.{position_or_len, before_first, after_first}
use Rattle.std.specs.Option.{option_and_then}
use Rattle.std.specs.Str.{byte, bytes_eq}
use Rattle.commands.specs.Commands.{Command, answers, command_of, csvq, demo, export, load, org_add, prints, serves, user_set}
use Rattle.cli_args.specs.declared.secret.SecretWord.{SecretWord}
use Rattle.cli_args.specs.declared.secret.SecretWord.TheVariants.{File, Itself, Variable}

-- ---- which word it is

-- the secret of a command, if it has one
abbrev pub secret_of : Command → Option (List ℕ)
secret_of (prints (csvq query)) = None
secret_of (prints (org_add name secret)) = Some secret
secret_of (prints (user_set org user secret)) = Some secret
secret_of (prints (export org user secret query)) = Some secret
secret_of (prints (load org user secret object)) = Some secret
secret_of (prints (demo count)) = None
secret_of answers = None
secret_of (serves count) = None

-- the same command with this secret, if it has one
abbrev pub with_secret : List ℕ → Command → Command
with_secret word (prints (csvq query)) = prints (csvq query)
with_secret word (prints (org_add name secret)) = prints (org_add name word)
with_secret word (prints (user_set org user secret)) = prints (user_set org user word)
with_secret word (prints (export org user secret query)) = prints (export org user word query)
with_secret word (prints (load org user secret object)) = prints (load org user word object)
with_secret word (prints (demo count)) = prints (demo count)
with_secret word answers = answers
with_secret word (serves count) = serves count

-- the command of a command line, behind PATH and PORT
abbrev pub line_command : List (List ℕ) → Option Command
line_command (path ∷ port ∷ words) = command_of words
line_command _ = None

-- ---- what it names

-- `:`
abbrev pub is_separator : ℕ → Bool
is_separator c = c == byte ":"

-- before and behind the first colon of a word, if it has one
unfoldable pub colon_parts : List ℕ → Option (List ℕ × List ℕ)
colon_parts word = if nat_lt (position_or_len is_separator word) (length word) then Some (before_first is_separator word, after_first is_separator word) else None

-- what is behind `KIND:` in a word that begins so
abbrev pub behind_kind : (kind word : List ℕ) → Option (List ℕ)
behind_kind kind word = option_and_then (λ parts. if bytes_eq parts.0 kind then Some parts.1 else None) (colon_parts word)

-- `env:NAME` names a variable of the environment, `file:PATH` a file, and any other word is the secret itself
abbrev pub variable_named : List ℕ → Option (List ℕ)
variable_named word = behind_kind (codes "env") word

abbrev pub file_named : List ℕ → Option (List ℕ)
file_named word = behind_kind (codes "file") word

-- what was read in a word is what it names
abbrev pub Names : List ℕ → SecretWord → Type 0
Names word Itself = (variable_named word ≡ None) × (file_named word ≡ None)
Names word (Variable name) = variable_named word ≡ Some name.now
Names word (File path) = file_named word ≡ Some path.now

-- a word that names nothing
abbrev pub IsPlain : List ℕ → Type 0
IsPlain word = Names word Itself

-- no word of a command line names a secret
abbrev pub IsPlainLine : List (List ℕ) → Type 0
IsPlainLine words = IfSome (line_command words) (λ c. IfSome (secret_of c) IsPlain)
