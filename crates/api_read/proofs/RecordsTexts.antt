-- Texts that are put together.
use Rattle.std.proofs.Common.{◌≡◌, ℕ, List, [], ◌∷◌, ◌++◌, refl, sym, ap, ◌∙◌}
use Rattle.std.specs.Prelude.{codes}
use Rattle.std.proofs.lemmas.Str.{chars-append}
use Rattle.std.specs.Str.{IsUtf8, chars}
use Rattle.base_json.specs.declared.tree.Member.{Member}
use Rattle.base_value.specs.declared.sharing.Level.{Level}
use Rattle.base_value.specs.declared.sharing.Level.TheVariants as level
use Rattle.base_value.specs.declared.sharing.Principal.{Principal}
use Rattle.base_value.specs.declared.sharing.Principal.TheVariants as to
use Rattle.model_reads.specs.PeopleJson.{kind_word}
use Rattle.model_reads.specs.SettingsJson.{level_name}

-- a text with another one behind it
pub pushed : (old new text characters : List ℕ) → IsUtf8 old → new ≡ old ++ text → chars text ≡ characters → chars new ≡ chars old ++ characters
pushed old new text characters u is spelled = ap chars is ∙ chars-append old text u ∙ ap (λ (cs : List ℕ). chars old ++ cs) spelled

-- one more member
pub put : (m0 m1 ms : List Member) (a : Member) → m0 ≡ ms → m1 ≡ m0 ++ a ∷ [] → m1 ≡ ms ++ a ∷ []
put m0 m1 ms a e f = f ∙ ap (λ (xs : List Member). xs ++ a ∷ []) e

-- the texts that stand in the code
pub front_text : chars (codes "/services/data/v59.0/sobjects/") ≡ codes "/services/data/v59.0/sobjects/"
unfolding chars
front_text = refl

pub slash_text : chars (codes "/") ≡ codes "/"
unfolding chars
slash_text = refl

pub attributes_text : chars (codes "attributes") ≡ codes "attributes"
unfolding chars
attributes_text = refl

pub type_text : chars (codes "type") ≡ codes "type"
unfolding chars
type_text = refl

pub url_text : chars (codes "url") ≡ codes "url"
unfolding chars
url_text = refl

pub level_text : chars (codes "level") ≡ codes "level"
unfolding chars
level_text = refl

pub to_text : chars (codes "to") ≡ codes "to"
unfolding chars
to_text = refl

pub shares_text : chars (codes "shares") ≡ codes "shares"
unfolding chars
shares_text = refl
