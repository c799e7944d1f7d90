-- What is shown of records by paths is what the definition of a row has.
use Rattle.std.proofs.Common.{◌≡◌, ℕ, zero, suc, ◌+◌, ◌<◌, Bool, true, false, ◌||◌, cond, List, [], ◌∷◌, ◌++◌, map, filter_map, length, drop, take, get_or, bytes_eq, ◌&&◌, ◌==◌, ◌≤◌, add-one, Option, Some, None, is_some, refl, sym, ap, subst, ◌∙◌, inl, inr, arith, append_assoc, append-nil, flat_map}
use Rattle.std.specs.List.{AllByRecursion, cons_option, find, list_any}
use Rattle.std.specs.Option.{option_map}
use Rattle.std.proofs.Math.Bool.{or-false}
use Rattle.std.proofs.lemmas.Bool.{eqb-true}
use Rattle.std.proofs.lemmas.List.{at_drop_all, at_drop_more, map-append as map_both}
use Rattle.std.proofs.lemmas.Slice.Eq.{bytes_eq-Decides}
use Rattle.std.proofs.lemmas.Option.{none-some as no_clash, same_Some as some_is}
use Rattle.base_lemmas.proofs.Bools.{by_answer as pick}
use mathlib.Core.Former.{Count}
use Rattle.base_json.specs.Printing.{printed_null}
use Rattle.base_value.specs.Texts.{lower}
use Rattle.base_value.specs.Printing.{day_of_moment}
use Rattle.base_value.specs.declared.value.Value.{Value}
use Rattle.base_value.specs.declared.value.Value.TheVariants as value
use Rattle.soql.specs.declared.query.Item.{Item}
use Rattle.soql.specs.declared.query.Item.TheVariants as item
use Rattle.soql.specs.declared.query.Path.{Path}
use Rattle.model.specs.declared.record.Record.{Record}
use Rattle.model.specs.Asking.{path_column}
use Rattle.model.specs.Cases.{Placed, in_case, with_before}
use Rattle.model.specs.Fields.{same_name, value_in}
use Rattle.model.specs.Objects.{is_of, object_number, object_numbered}
use Rattle.model.specs.Paths.{Asked, parent_of}
use Rattle.model.specs.Relationships.{Reference, parent_name, parent_named, references}
use Rattle.model.specs.RowsJson.{RowJson, behind_relationship, field_name, item_member, member_json, object_json, object_name, parent_json, parent_relationship, path_member, row_within, value_json}
use Rattle.model.specs.Sound.{IsSound}
use Rattle.model.specs.Tenant.{Object, Tenant}
use Rattle.store_abstraction.specs.Layouts.{IsLayout, own_layouts}
use Rattle.model.specs.Flat.{has_one_name}
use Rattle.store_abstraction.specs.declared.layout.Layout.{Layout}
use Rattle.query_plan.specs.paths.Branches.{AddsBranches, LeadsToParent, record_above}
use Rattle.query_plan.specs.declared.paths.branches.Branch.{Branch}
use Rattle.query_plan.specs.declared.paths.branches.Place.{Place}
use Rattle.query_plan.proofs.ByLayout.{layout_is}
use Rattle.query_plan.specs.declared.check.Site.TheVariants as site
use Rattle.query_check.specs.declared.columns.Column.{Column}
use Rattle.query_plan.specs.declared.plan.Member.{Member, Parent, End, Parent', Row_of-Member, end_of-Member, more_of-Member, items-the_row-Member, items_hidden-the_row-Member-0}
use Rattle.query_plan.specs.declared.plan.Member.TheVariants as member
use Rattle.query_plan.specs.Checks.{site_of}
use Rattle.query_plan.specs.Shown.{Shows, member_text, member_texts, type_and_address}
use Rattle.query_bind.specs.inner.Binding.{IsFound}
use Rattle.query_check.specs.Columns.{column_in, name_at, placed}
use Rattle.query_bind.specs.Names.{relationship_name}
use Rattle.query_bind.specs.inner.Members.{IsAt, IsLed, Sees, ShowsPath, ShowsPaths, field_member, goes_behind, texts_of}
use Rattle.query_bind.specs.inner.Spots.{IsOf, Serve, Setting, far_of}
use Rattle.query_check.specs.Ways.{path_column_in}
use Rattle.query_bind.proofs.Declared.{declared_is}
use Rattle.query_plan.proofs.Lists.{kept}
use Rattle.query_check.proofs.Reaching.{column_same}
use Rattle.query_bind.proofs.Records.{known_of}
use Rattle.query_bind.proofs.Tested.{behind_both}

-- ---- members within a member, as a row and as a list

abbrev row_of : Member → (n : Count) × Row_of-Member n
row_of (Parent' name branch object _ row) = (_, row)
row_of _ = (_, end_of-Member)

module _ (shows : Shows) (far : List (Option Record)) (r : Record) where
  texts_in_row : (n : _) (row : Row_of-Member n) → member_texts shows far r row ≡ map (member_text shows far r) (items-the_row-Member n row)
  texts_in_row n end_of-Member = refl
  texts_in_row n (more_of-Member m rest) = ap (λ ts. member_text shows far r m ∷ ts) (texts_in_row _ rest)

  abbrev parent_with : List ℕ → List ℕ → List (List ℕ) → Option Record → List ℕ
  parent_with name object texts o = member_json name (in_case o printed_null (λ p. object_json (type_and_address object p.id ∷ texts)))

  parent_text : (name : List ℕ) (branch : ℕ) (object : List ℕ) (ms : List Member)
      → member_text shows far r (Parent name branch object ms) ≡ parent_with name object (map (member_text shows far r) ms) (record_above r far (Some branch))
  parent_text name branch object ms =
      let row = row_of (Parent name branch object ms) in
      ap (λ ts. parent_with name object ts (record_above r far (Some branch))) (texts_in_row row.0 row.1 ∙ ap (map (member_text shows far r)) (items_hidden-the_row-Member-0 ms))

-- ---- parents

module _ (a : Asked) (shows : Shows) (far : List (Option Record)) (r p : Record) (name : List ℕ) (all : List Path) (declared : List ℕ) (branch : ℕ)
    (named : declared ≡ parent_relationship a p name) (above : record_above r far (Some branch) ≡ parent_of a p name) where
  pub end_shown : member_text shows far r (End declared branch) ≡ member_json (parent_relationship a p name) (parent_json (row_within 0 a) a p (map item.Path all) name)
  end_shown =
      ap (λ (x : List ℕ). member_json x (in_case (record_above r far (Some branch)) printed_null (λ (q : Record). []))) named
      ∙ ap (λ (o : Option Record). member_json (parent_relationship a p name) (in_case o printed_null (λ (q : Record). []))) above

  module _ (object : List ℕ) (ms : List Member) (behind : List Path) (d : ℕ) where
    pub record IsShown (x : Record) : Type 0 where
      pub its_object : object ≡ object_name a x
      pub its_members : map (member_text shows far r) ms ≡ flat_map (λ y. item_member (row_within d a) a x (map item.Path behind) y.before y.it) (with_before [] (map item.Path behind))

    pub parent_shown : map item.Path behind ≡ filter_map (behind_relationship name) (map item.Path all) → ((x : Record) → parent_of a p name ≡ Some x → IsShown x)
        → member_text shows far r (Parent declared branch object ms) ≡ member_json (parent_relationship a p name) (parent_json (row_within (suc d) a) a p (map item.Path all) name)
    parent_shown items each =
        parent_text shows far r declared branch object ms
        ∙ ap (λ (x : List ℕ). parent_with shows far r x object (map (member_text shows far r) ms) (record_above r far (Some branch))) named
        ∙ ap (λ (o : Option Record). parent_with shows far r (parent_relationship a p name) object (map (member_text shows far r) ms) o) above
        ∙ ap (member_json (parent_relationship a p name)) (by (parent_of a p name) refl)
      where
        by : (o : Option Record) → parent_of a p name ≡ o
            → in_case o printed_null (λ (q : Record). object_json (type_and_address object q.id ∷ map (member_text shows far r) ms))
            ≡ in_case o printed_null (λ (q : Record). row_within (suc d) a q (filter_map (behind_relationship name) (map item.Path all)))
        by None e = refl
        by (Some x) e =
            let it = each x e in
            ap (λ (n : List ℕ). object_json (type_and_address n x.id ∷ map (member_text shows far r) ms)) it.its_object
            ∙ ap (λ (ts : List (List ℕ)). object_json (type_and_address (object_name a x) x.id ∷ ts)) it.its_members
            ∙ ap (row_within (suc d) a x) items

-- ---- names

number_is : (s : Setting) (l : Layout) (p : Record) → IsOf s l p → object_number p.id ≡ l.object
number_is s l p is = eqb-true (object_number p.id) l.object (kept (is_of l.object) s.asked.tenant.records p is.has).1

pub declared_shown : (s : Setting) (l : Layout) (p : Record) (name : List ℕ) (f : Reference) → IsOf s l p → parent_named s.asked.tenant l.object name ≡ Some f
    → relationship_name l name ≡ parent_relationship s.asked p name
declared_shown s l p name f is there =
    let t = s.asked.tenant in
    declared_is s.plan t l name f is.laid there
    ∙ sym (ap (λ (o : Option Reference). in_case o name (λ (f : Reference). parent_name f.field.name)) (ap (λ (n : ℕ). parent_named t n name) (number_is s l p is) ∙ there))

pub object_shown : (s : Setting) (l : Layout) (p : Record) → IsOf s l p → l.name ≡ object_name s.asked p
object_shown s l p is =
    let it = layout_is s.plan s.asked.tenant l is.laid in
    ap (λ (k : Layout). k.name) (sym it.made)
    ∙ sym (ap (λ (o : Option Object). in_case o [] (λ (o : Object). o.name)) (ap (object_numbered s.asked.tenant) (number_is s l p is) ∙ it.there))

-- ---- fields

pub field_shown : (s : Setting) (shows : Shows) (ls : List Layout) (l : Layout) (paths : List Path) (far : List (Option Record)) (r p : Record) (at : Option ℕ) (name : List ℕ) (c : Column)
    (write_row : RowJson) (all before : List Item)
    → Sees s shows ls l paths p → column_in l name ≡ Some c → record_above r far at ≡ Some p
    → texts_of shows far r (Some (field_member l at name)) ≡ path_member write_row s.asked p all before (name ∷ [])
field_shown s shows ls l paths far r p at name c write_row all before sees there above =
    let a = s.asked in
    let found : IsFound a l p name c = (known_of s.plan a l (day_of_moment a.now) p sees.own.laid sees.own.sound refl sees.own.has).found name c there in
    let has = (kept (is_of l.object) a.tenant.records p sees.own.has).0 in
    ap (λ (o : Option Column). texts_of shows far r (Some (in_case o (member.Field name (record { branch = at; site = site.Id }))
    (λ (c : Column). member.Field (name_at l c.site) (record { branch = at; site = c.site }))))) there
    ∙ ap (λ (o : Option Record). member_json (name_at l c.site) (shows (in_case o value.Null (value_in (site_of c.site)))) ∷ []) above
    ∙ ap (λ (n : List ℕ). member_json n (shows (value_in (site_of c.site) p)) ∷ []) (sym found.declared)
    ∙ ap (λ (v : List ℕ). member_json (field_name a p name) v ∷ []) (sees.json.values p (site_of c.site) has)
    ∙ ap (λ (v : Value). member_json (field_name a p name) (value_json v) ∷ []) (sym found.value)

-- ---- paths that go on behind a relationship

-- names that are alike name one relationship
named_alike : (t : Tenant) (n : ℕ) (name first : List ℕ) → same_name name first ≡ true → parent_named t n name ≡ parent_named t n first
unfolding parent_named
named_alike t n name first e =
    ap (λ (low : List ℕ). find (λ (f : Reference). (f.object == n) && bytes_eq (lower (parent_name f.field.name)) low) (references t.objects)) ((bytes_eq-Decides (lower name) (lower first)).0 e)

abbrev names_of : Item → List (List ℕ)
names_of (item.Path p) = p.names
names_of (item.Child paths tail) = []

pub several_serve : (s : Setting) (ls : List Layout) (n m : List ℕ) (names : List (List ℕ)) → Serve s ls (n ∷ m ∷ names) → ls ≡ own_layouts s.org s.plan (Some s.asked.tenant)
several_serve s ls n m names (inl one) = absurd (clash one)
  where
    clash : has_one_name (n ∷ m ∷ names) ≡ true → ⊥
    clash e = cc
several_serve s ls n m names (inr all) = all

module _ (s : Setting) (ls : List Layout) (from : Place) (name : List ℕ) (bs : List Branch) (place : Place)
    (lead : LeadsToParent s.plan s.asked.tenant from name bs place) (laid : IsLayout s.plan s.asked.tenant from.layout.now) (sound : IsSound s.asked.tenant) where
  abbrev here : Layout
  here = from.layout.now

  abbrev there : Layout
  there = place.layout.now

  -- the rest of a path leads on from the place behind
  rest_led : (all : ls ≡ own_layouts s.org s.plan (Some s.asked.tenant)) (first next : List ℕ) (names : List (List ℕ)) → same_name name first ≡ true
      → path_column_in ls there (next ∷ names) ≡ path_column_in ls here (first ∷ next ∷ names)
  rest_led all first next names alike =
      let t = s.asked.tenant in
      sym (column_same s.org s.plan t sound ls all there lead.layout (next ∷ names))
      ∙ ap (λ (n : ℕ). option_map placed (path_column t n (next ∷ names))) lead.target
      ∙ ap (λ (o : Option Reference). option_map placed (in_case o None (λ (f : Reference). path_column t f.target (next ∷ names)))) (sym lead.named ∙ named_alike t here.object name first alike)
      ∙ column_same s.org s.plan t sound ls all here laid (first ∷ next ∷ names)

  one_led : (names : List (List ℕ)) (b : Path) → IsLed s ls here (record { names = names }) → behind_relationship name (item.Path (record { names = names })) ≡ Some (item.Path b) → IsLed s ls there b
  one_led [] b led e = absurd cc
  one_led (first ∷ []) b led e = absurd cc
  one_led (first ∷ next ∷ names) b led e =
      pick (same_name name first)
      (λ (x : Bool). cond x (Some (item.Path (record { names = next ∷ names }))) None ≡ Some (item.Path b) → IsLed s ls there b)
      (λ alike some.
      let same : next ∷ names ≡ b.names = ap names_of (some_is (item.Path (record { names = next ∷ names })) (item.Path b) some) in
      let all = several_serve s ls first next names led.serve in
      record {
        serve = inr all;
        column = led.column;
        there = ap (path_column_in ls there) (sym same) ∙ rest_led all first next names alike ∙ led.there;
      })
      (λ _ none. absurd (no_clash (item.Path b) none))
      e

  pub all_led : (paths behind : List Path) → AllByRecursion (IsLed s ls here) paths → map item.Path behind ≡ filter_map (behind_relationship name) (map item.Path paths) → AllByRecursion (IsLed s ls there) behind
  all_led [] [] led e = tt
  all_led [] (b ∷ behind) led e = absurd cc
  all_led (x ∷ paths) behind led e = by (behind_relationship name (item.Path x)) refl behind e (λ bs f. all_led paths bs led.1 f)
    where
      tail_is : (y : Item) (ys : List Item) (b : Path) (bs : List Path) → ◌≡◌ {A = List Item} (item.Path b ∷ map item.Path bs) (y ∷ ys) → (item.Path b ≡ y) × (map item.Path bs ≡ ys)
      tail_is y ys b bs e = (cc, cc)

      by : (o : Option Item) → behind_relationship name (item.Path x) ≡ o → (behind : List Path) → map item.Path behind ≡ cons_option o (filter_map (behind_relationship name) (map item.Path paths))
          → ((bs : List Path) → map item.Path bs ≡ filter_map (behind_relationship name) (map item.Path paths) → AllByRecursion (IsLed s ls there) bs) → AllByRecursion (IsLed s ls there) behind
      by None is behind e more = more behind e
      by (Some y) is [] e more = absurd cc
      by (Some y) is (b ∷ bs) e more =
          let it = tail_is y (filter_map (behind_relationship name) (map item.Path paths)) b bs e in
          (one_led x.names b led.0 (is ∙ ap (λ (z : Item). Some z) (sym it.0)), more bs it.1)

-- ---- one of some paths

pub any_item : (name : List ℕ) (paths : List Path) → list_any (goes_behind name) paths ≡ list_any (λ x. is_some (behind_relationship name x)) (map item.Path paths)
any_item name [] = refl
any_item name (p ∷ paths) = ap (λ (b : Bool). goes_behind name p || b) (any_item name paths)

module _ (write_row : RowJson) (a : Asked) (p : Record) (all : List Item) where
  -- what is before it counts as far as it goes on behind a relationship
  before_same : (one other : List Path) → ((f : Path → Bool) → list_any f one ≡ list_any f other) → (names : List (List ℕ))
      → path_member write_row a p all (map item.Path one) names ≡ path_member write_row a p all (map item.Path other) names
  before_same one other same [] = refl
  before_same one other same (n ∷ []) = refl
  before_same one other same (n ∷ m ∷ names) =
      ap (λ (b : Bool). cond b [] (member_json (parent_relationship a p n) (parent_json write_row a p all n) ∷ []))
      (sym (any_item n one) ∙ same (goes_behind n) ∙ any_item n other)

-- ---- all of them

-- the first few of a list, the nearest first
abbrev pub nearest : {X : Type 0} → List X → ℕ → List X → List X
nearest before zero xs = before
nearest before (suc i) [] = before
nearest before (suc i) (x ∷ xs) = nearest (x ∷ before) i xs

nearest_next : {X : Type 0} (before : List X) (i : ℕ) (xs : List X) (x : X) → i < length xs → x ≡ get_or xs i x → nearest before (suc i) xs ≡ x ∷ nearest before i xs
nearest_next before i [] x lt is = absurd (omega (arith, lt))
nearest_next before zero (y ∷ xs) x lt is = ap (λ z. z ∷ before) (sym is)
nearest_next before (suc i) (y ∷ xs) x lt is = nearest_next (y ∷ before) i xs x (omega (arith, lt)) is

or_moved : (x y z : Bool) → (x || (y || z)) ≡ ((y || x) || z)
or_moved true true z = refl
or_moved true false z = refl
or_moved false true z = refl
or_moved false false z = refl

nearest_any : {X : Type 0} (f : X → Bool) (before : List X) (i : ℕ) (xs : List X) → list_any f (nearest before i xs) ≡ (list_any f (take i xs) || list_any f before)
nearest_any f before zero xs = refl
nearest_any f before (suc i) [] = refl
nearest_any f before (suc i) (x ∷ xs) = nearest_any f (x ∷ before) i xs ∙ or_moved (list_any f (take i xs)) (f x) (list_any f before)

at_place : {X : Type 0} (P : X → Type 0) (xs : List X) (i : ℕ) (x : X) → i < length xs → x ≡ get_or xs i x → AllByRecursion P xs → P x
at_place P [] i x lt is all = absurd (omega (arith, lt))
at_place P (y ∷ xs) zero x lt is all = subst P (sym is) all.0
at_place P (y ∷ xs) (suc i) x lt is all = at_place P xs i x (omega (arith, lt)) is all.1

abbrev pub listed : {X : Type 0} → Option X → List X
listed None = []
listed (Some x) = x ∷ []

texts_listed : (shows : Shows) (far : List (Option Record)) (r : Record) (m : Option Member) → map (member_text shows far r) (listed m) ≡ texts_of shows far r m
texts_listed shows far r None = refl
texts_listed shows far r (Some m) = refl

module _ (ls : List Layout) (from : Place) (depth : ℕ) (paths : List Path) where
  abbrev its_texts : Setting → Record → Placed Item → List (List ℕ)
  its_texts s p x = item_member (row_within depth s.asked) s.asked p (map item.Path paths) x.before x.it

  -- the texts of the members so far, and then those of the rest, are all
  abbrev pub ShownSoFar : ℕ → List Branch → List Member → Type 0
  ShownSoFar i bs ms =
      (s : Setting) (shows : Shows) (r p : Record) → Sees s shows ls from.layout.now paths p → (more : List Branch) → IsAt s r from (bs ++ more) p
      → map (member_text shows (far_of s r (bs ++ more)) r) ms ++ flat_map (its_texts s p) (with_before (map item.Path (nearest [] i paths)) (map item.Path (drop i paths)))
      ≡ flat_map (its_texts s p) (with_before [] (map item.Path paths))

  pub one_shown : (old mid : List Branch) → AddsBranches old mid → (i : ℕ) (x : Path) (ms pushed : List Member) (m : Option Member)
      → i < length paths → x ≡ get_or paths i x → pushed ≡ ms ++ listed m
      → ShowsPath ls from depth x (take i paths) paths mid m → ShownSoFar i old ms → ShownSoFar (i + 1) mid pushed
  one_shown old mid adds i x ms pushed m lt is grown shown so_far s shows r p sees more at =
      let text = member_text shows (far_of s r (mid ++ more)) r in
      let g = its_texts s p in
      let rest = λ (near paths : List Path). flat_map g (with_before (map item.Path near) (map item.Path paths)) in
      let behind : drop i paths ≡ x ∷ drop (i + 1) paths = at_drop_more (λ (rest : List Path). rest) paths i x lt ∙ ap (λ (z : Path). z ∷ drop (i + 1) paths) (sym is) in
      let before : map text ms ++ rest (nearest [] i paths) (drop i paths) ≡ flat_map g (with_before [] (map item.Path paths)) =
      subst (λ (bs : List Branch). IsAt s r from bs p → map (member_text shows (far_of s r bs) r) ms ++ rest (nearest [] i paths) (drop i paths) ≡ flat_map g (with_before [] (map item.Path paths)))
      (sym (behind_both old mid more adds)) (so_far s shows r p sees (adds.more ++ more)) at in
      let own : map text (listed m) ≡ g (record { before = map item.Path (nearest [] i paths); it = item.Path x }) =
      texts_listed shows (far_of s r (mid ++ more)) r m
      ∙ shown s shows r p sees (at_place (IsLed s ls from.layout.now) paths i x lt is sees.led) more at
      ∙ before_same (row_within depth s.asked) s.asked p (map item.Path paths) (take i paths) (nearest [] i paths)
      (λ f. sym (nearest_any f [] i paths ∙ or-false (list_any f (take i paths)))) x.names in
      let next : nearest [] (i + 1) paths ≡ x ∷ nearest [] i paths = ap (λ (k : ℕ). nearest [] k paths) (add-one i) ∙ nearest_next [] i paths x lt is in
      ap (λ (zs : List Member). map text zs ++ rest (nearest [] (i + 1) paths) (drop (i + 1) paths)) grown
      ∙ ap (λ (near : List Path). map text (ms ++ listed m) ++ rest near (drop (i + 1) paths)) next
      ∙ ap (λ (ts : List (List ℕ)). ts ++ rest (x ∷ nearest [] i paths) (drop (i + 1) paths)) (map_both text ms (listed m))
      ∙ append_assoc (map text ms) (map text (listed m)) (rest (x ∷ nearest [] i paths) (drop (i + 1) paths))
      ∙ ap (λ (ts : List (List ℕ)). map text ms ++ (ts ++ rest (x ∷ nearest [] i paths) (drop (i + 1) paths))) own
      ∙ ap (λ (ps : List Path). map text ms ++ rest (nearest [] i paths) ps) (sym behind)
      ∙ before

  pub all_shown : (i : ℕ) (bs : List Branch) (ms : List Member) → length paths ≤ i → ShownSoFar i bs ms → ShowsPaths ls from depth paths bs ms
  all_shown i bs ms le so_far s shows r p sees more at =
      let text = member_text shows (far_of s r (bs ++ more)) r in
      let none : drop i paths ≡ [] = at_drop_all (λ (rest : List Path). rest) paths i le in
      sym (append-nil (map text ms))
      ∙ sym (ap (λ (ps : List Path). map text ms ++ flat_map (its_texts s p) (with_before (map item.Path (nearest [] i paths)) (map item.Path ps))) none)
      ∙ so_far s shows r p sees more at

  pub none_shown : (bs : List Branch) → ShownSoFar 0 bs []
  none_shown bs s shows r p sees more at = refl
