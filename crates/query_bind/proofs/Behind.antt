-- A parent that is shown, and the members of what is shown of it.
use Rattle.std.proofs.Common.{◌≡◌, ℕ, zero, suc, ◌-◌, ◌<◌, ◌≤◌, Bool, true, false, cond, List, [], ◌∷◌, ◌++◌, map, filter_map, length, get_or, Option, Some, None, refl, sym, ap, subst, ◌∙◌, arith, length-append}
use Rattle.std.specs.List.{list_any}
use Rattle.std.specs.Option.{option_map, unwrap_or}
use Rattle.std.proofs.lemmas.Option.{none-some as no_clash}
use Rattle.soql.specs.declared.query.Item.TheVariants as item
use Rattle.soql.specs.declared.query.Path.{Path}
use Rattle.model.specs.declared.record.Record.{Record}
use Rattle.model.specs.Asking.{path_column}
use Rattle.model.specs.Cases.{in_case}
use Rattle.model.specs.Paths.{parent_of}
use Rattle.model.specs.Relationships.{Reference, parent_named}
use Rattle.model.specs.RowsJson.{behind_relationship, member_json, parent_json, parent_relationship, path_member, row_within}
use Rattle.store_abstraction.specs.Layouts.{own_layouts}
use Rattle.store_abstraction.specs.declared.layout.Layout.{Layout}
use Rattle.query_plan.specs.paths.Branches.{AddsBranches, IsAmong, LeadsToParent, record_above}
use Rattle.query_plan.specs.declared.paths.branches.Branch.{Branch}
use Rattle.query_plan.specs.declared.paths.branches.Place.{Place}
use Rattle.query_check.specs.declared.columns.Column.{Column}
use Rattle.query_plan.specs.declared.plan.Member.{Member, Parent, End}
use Rattle.query_plan.specs.Shown.{Shows}
use Rattle.query_check.specs.Columns.{column_in, placed}
use Rattle.query_bind.specs.Names.{relationship_name}
use Rattle.query_bind.specs.inner.Members.{IsAt, Sees, ShowsParent, ShowsPath, ShowsPaths, field_member, goes_behind, texts_of}
use Rattle.query_bind.specs.inner.Spots.{IsOf, Serve, Setting, far_of}
use Rattle.query_check.specs.Ways.{path_column_in}
use Rattle.query_check.proofs.Reaching.{column_same}
use Rattle.query_bind.proofs.Showing.{all_led, any_item, declared_shown, end_shown, field_shown, object_shown, parent_shown, several_serve}
use Rattle.query_bind.proofs.Tested.{behind_both}

-- where there is no such relationship, no path that begins with it leads to a field
pub no_parent : (s : Setting) (shows : Shows) (ls : List Layout) (from : Place) (p : Record) (paths : List Path) (name next : List ℕ) (names : List (List ℕ)) (c : Column)
    → Sees s shows ls from.layout.now paths p
    → ls ≡ own_layouts s.org s.plan (Some s.asked.tenant) → parent_named s.asked.tenant from.layout.now.object name ≡ None → path_column_in ls from.layout.now (name ∷ next ∷ names) ≡ Some c → ⊥
no_parent s shows ls from p paths name next names c sees all none there =
    let t = s.asked.tenant in
    no_clash c
    (sym (ap (λ (o : Option Reference). option_map placed (in_case o None (λ (f : Reference). path_column t f.target (next ∷ names)))) none)
    ∙ column_same s.org s.plan t sees.own.sound ls all from.layout.now sees.own.laid (name ∷ next ∷ names)
    ∙ there)

module _ (s : Setting) (shows : Shows) (ls : List Layout) (from place : Place) (r p : Record) (name : List ℕ) (all : List Path) (first : List Branch)
    (lead : LeadsToParent s.plan s.asked.tenant from name first place) (sees : Sees s shows ls from.layout.now all p)
    (declared : List ℕ) (branch : ℕ) (named : declared ≡ relationship_name from.layout.now name) (numbered : branch ≡ unwrap_or place.branch 0) where
  declared_so : declared ≡ parent_relationship s.asked p name
  declared_so = named ∙ declared_shown s from.layout.now p name lead.reference sees.own lead.named

  branch_at : place.branch ≡ Some branch
  branch_at = lead.branch ∙ ap (λ (n : ℕ). Some n) (sym (numbered ∙ ap (λ (o : Option ℕ). unwrap_or o 0) lead.branch))

  reached : (bs more : List Branch) → AddsBranches first bs → IsAt s r from (bs ++ more) p → record_above r (far_of s r (bs ++ more)) place.branch ≡ parent_of s.asked p name
  reached bs more adds at =
      subst (λ (all : List Branch). IsAt s r from all p → record_above r (far_of s r all) place.branch ≡ parent_of s.asked p name) (sym (behind_both first bs more adds))
      (λ at. lead.parent s.asked r p (adds.more ++ more) refl at sees.own.has) at

  pub end_is : (depth : ℕ) → depth ≡ 0 → (more : List Branch) → IsAt s r from (first ++ more) p
      → texts_of shows (far_of s r (first ++ more)) r (Some (End declared branch))
      ≡ member_json (parent_relationship s.asked p name) (parent_json (row_within depth s.asked) s.asked p (map item.Path all) name) ∷ []
  end_is depth none more at =
      let far = far_of s r (first ++ more) in
      let above : record_above r far (Some branch) ≡ parent_of s.asked p name = ap (record_above r far) (sym branch_at) ∙ lead.parent s.asked r p more refl at sees.own.has in
      ap (λ (x : List ℕ). x ∷ []) (end_shown s.asked shows far r p name all declared branch declared_so above)
      ∙ ap (λ (k : ℕ). member_json (parent_relationship s.asked p name) (parent_json (row_within k s.asked) s.asked p (map item.Path all) name) ∷ []) (sym none)

  pub parent_is : ls ≡ own_layouts s.org s.plan (Some s.asked.tenant) → (depth less : ℕ) → suc less ≡ depth → (object : List ℕ) → object ≡ place.layout.now.name → (behind : List Path)
      → map item.Path behind ≡ filter_map (behind_relationship name) (map item.Path all) → (bs : List Branch) → AddsBranches first bs → (ms : List Member) → ShowsPaths ls place less behind bs ms
      → (more : List Branch) → IsAt s r from (bs ++ more) p
      → texts_of shows (far_of s r (bs ++ more)) r (Some (Parent declared branch object ms))
      ≡ member_json (parent_relationship s.asked p name) (parent_json (row_within depth s.asked) s.asked p (map item.Path all) name) ∷ []
  parent_is everything depth less deep object so behind items bs adds ms shown more at =
      let far = far_of s r (bs ++ more) in
      let there = reached bs more adds at in
      let above : record_above r far (Some branch) ≡ parent_of s.asked p name = ap (record_above r far) (sym branch_at) ∙ there in
      ap (λ (x : List ℕ). x ∷ []) (parent_shown s.asked shows far r p name all declared branch declared_so above object ms behind less items (λ x e.
      let own : IsOf s place.layout.now x = record { laid = lead.layout; sound = sees.own.sound; has = lead.found s.asked p x refl sees.own.has e } in
      let led = all_led s ls from name first place lead sees.own.laid sees.own.sound all behind sees.led items in
      record {
        its_object = so ∙ object_shown s place.layout.now x own;
        its_members = shown s shows r x (record { own = own; json = sees.json; led = led }) more (there ∙ e);
      }))
      ∙ ap (λ (k : ℕ). member_json (parent_relationship s.asked p name) (parent_json (row_within k s.asked) s.asked p (map item.Path all) name) ∷ []) deep

-- ---- one of some paths

abbrev pub Two : List (List ℕ) → List ℕ → Type 0
Two names name = (next : List ℕ) × (rest : List (List ℕ)) × (names ≡ name ∷ next ∷ rest)

pub two_names : (names : List (List ℕ)) (name : List ℕ) → 2 ≤ length names → name ≡ get_or names 0 name → Two names name
two_names [] name le is = absurd (omega (arith, le))
two_names (x ∷ []) name le is = absurd (omega (arith, le))
two_names (x ∷ y ∷ rest) name le is = (y, rest, ap (λ (z : List ℕ). z ∷ y ∷ rest) (sym is))

pub one_name : (names : List (List ℕ)) (name : List ℕ) → 1 ≤ length names → length names < 2 → name ≡ get_or names 0 name → names ≡ name ∷ []
one_name [] name le lt is = absurd (omega (arith, le))
one_name (x ∷ []) name le lt is = ap (λ (z : List ℕ). z ∷ []) (sym is)
one_name (x ∷ y ∷ rest) name le lt is = absurd (omega (arith, lt))

module _ (ls : List Layout) (from : Place) (depth : ℕ) (path : Path) (before all : List Path) (bs : List Branch) where
  pub begun_shown : (name : List ℕ) → Two path.names name → list_any (goes_behind name) before ≡ true → ShowsPath ls from depth path before all bs None
  begun_shown name two begun s shows r p sees led more at =
      let write_row = row_within depth s.asked in
      sym (ap (path_member write_row s.asked p (map item.Path all) (map item.Path before)) two.2
      ∙ ap (λ (b : Bool). cond b [] (member_json (parent_relationship s.asked p name) (parent_json write_row s.asked p (map item.Path all) name) ∷ [])) (sym (any_item name before) ∙ begun))

  pub first_shown : (name : List ℕ) → Two path.names name → list_any (goes_behind name) before ≡ false → (m : Option Member) → ShowsParent ls from depth name all bs m
      → ShowsPath ls from depth path before all bs m
  first_shown name two new m shown s shows r p sees led more at =
      let write_row = row_within depth s.asked in
      let there : path_column_in ls from.layout.now (name ∷ two.0 ∷ two.1) ≡ Some led.column = ap (path_column_in ls from.layout.now) (sym two.2) ∙ led.there in
      let everything = several_serve s ls name two.0 two.1 (subst (λ (ns : List (List ℕ)). Serve s ls ns) two.2 led.serve) in
      shown s shows r p sees everything two.0 two.1 led.column there more at
      ∙ sym (ap (path_member write_row s.asked p (map item.Path all) (map item.Path before)) two.2
      ∙ ap (λ (b : Bool). cond b [] (member_json (parent_relationship s.asked p name) (parent_json write_row s.asked p (map item.Path all) name) ∷ [])) (sym (any_item name before) ∙ new))

  pub one_name_shown : (name : List ℕ) → path.names ≡ name ∷ [] → ShowsPath ls from depth path before all bs (Some (field_member from.layout.now from.branch name))
  one_name_shown name one s shows r p sees led more at =
      let there : column_in from.layout.now name ≡ Some led.column = ap (path_column_in ls from.layout.now) (sym one) ∙ led.there in
      field_shown s shows ls from.layout.now all (far_of s r (bs ++ more)) r p from.branch name led.column (row_within depth s.asked) (map item.Path all) (map item.Path before) sees there at
      ∙ sym (ap (path_member (row_within depth s.asked) s.asked p (map item.Path all) (map item.Path before)) one)

-- branches that are added leave the number of a branch among them
pub still_among : (old new : List Branch) (at : Option ℕ) → AddsBranches old new → IsAmong old at → IsAmong new at
still_among old new None adds h = tt
still_among old new (Some n) adds h = subst (λ (bs : List Branch). n < length bs) (sym adds.behind) (omega (arith, h, length-append old adds.more))

pub one_less : (n : ℕ) → (n ≡ 0 → ⊥) → suc (n - 1) ≡ n
one_less zero h = absurd (h refl)
one_less (suc n) h = omega arith
