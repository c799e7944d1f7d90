-- How the names of members are written.
use Rattle.std.specs.Prelude.{ℕ, List, codes, map}
use Rattle.api_input.specs.declared.name.Name.{Name}
use Rattle.api_input.specs.declared.name.Name.TheVariants as name

abbrev pub name_of : Name → List ℕ
name_of name.Access = codes "access"
name_of name.Active = codes "active"
name_of name.Admin = codes "admin"
name_of name.Child = codes "child"
name_of name.Decimals = codes "decimals"
name_of name.Digits = codes "digits"
name_of name.Field = codes "field"
name_of name.Formula = codes "formula"
name_of name.From = codes "from"
name_of name.Hierarchy = codes "hierarchy"
name_of name.Indexed = codes "indexed"
name_of name.Kind = codes "kind"
name_of name.Length = codes "length"
name_of name.Level = codes "level"
name_of name.Master = codes "master"
name_of name.Members = codes "members"
name_of name.Message = codes "message"
name_of name.Name = codes "name"
name_of name.Object = codes "object"
name_of name.OnDelete = codes "onDelete"
name_of name.Parent = codes "parent"
name_of name.Record = codes "record"
name_of name.Required = codes "required"
name_of name.Role = codes "role"
name_of name.Secret = codes "secret"
name_of name.To = codes "to"
name_of name.Type = codes "type"
name_of name.Unique = codes "unique"
name_of name.Values = codes "values"

abbrev pub names_of : List Name → List (List ℕ)
names_of = map name_of
