-- Each composed part: what is read is spelled so, and what is spelled so is read.
use Rattle.std.proofs.Common.{◌≡◌, ℕ, zero, suc, ◌^◌, ◌<◌, Bool, true, false, cond, eqb, List, [], ◌∷◌, ◌++◌, length, Option, Some, None, refl, sym, ap, subst, ◌∙◌, append_assoc, arith}
use Rattle.std.specs.Prelude.{ℤ, FitsSigned}
use Rattle.std.specs.Int.{w32, w64, cast_signed, cast_unsigned}
use Rattle.std.specs.List.{All, AllByRecursion}
use Rattle.std.proofs.lemmas.Bool.{eqb-true}
use Rattle.std.proofs.lemmas.Int.{ints, of_z-to_z, to_z-of_z}
use Rattle.std.proofs.lemmas.List.Elements.{All-cons, All-nil, recursion_from_All}
use Rattle.base_value.specs.Id.{is_id}
use Rattle.base_value.specs.declared.sharing.Principal.{Principal}
use Rattle.base_value.specs.declared.sharing.Principal.TheVariants.{User, Role, Subordinates, Group}
use Rattle.store_codec.specs.Plain.{◌>>=◌, number8, number32, number64, number_at, id_at, pair_at}
use Rattle.base_value.specs.declared.sharing.RuleSource.{RuleSource}
use Rattle.base_value.specs.declared.sharing.RuleSource.TheVariants.{Owner, Criteria}
use Rattle.base_value.specs.declared.value.FieldType.{FieldType}
use Rattle.base_value.specs.declared.value.FieldType.TheVariants as type
use Rattle.store_codec.specs.Choices.{Deletes}
use Rattle.store_codec.proofs.ChoiceLaws.{choice_part}
use Rattle.base_value.specs.Principals.{kind_number, principal_id}
use Rattle.store_codec.specs.Composed.{number8_at, signed64, as_signed, signed64_at, principal, of_kind, principal_at, FitsPrincipal, ordered, with_byte, ordered_at, in_turn, items, in_turn_at, items_at, FitsItems, FitsTimes, source, source_at, FitsSource, field_type, field_type_at, FitsType}
use Rattle.store_codec.specs.PartLaws.{IsBytes, Takes, IsPart}
use Rattle.store_codec.proofs.PlainLaws.{IsBytes-rest, bind_some, some_is, Takes-then, number16_part, number32_part, number64_part, text_part, id_part, pair_part}

-- ---- numbers

number8_takes : (bytes : List ℕ) (n : ℕ) (rest : List ℕ) → IsBytes bytes → number8_at bytes ≡ Some (n, rest) → Takes bytes (number8 n) rest × (n < 256)
unfolding number8_at
number8_takes [] n rest fits e = absurd cc
number8_takes (m ∷ bytes) n rest fits e =
    subst (λ (x : ℕ × List ℕ). Takes (m ∷ bytes) (number8 x.0) x.1 × (x.0 < 256)) (some_is (m, bytes) (n, rest) e) (record { parts = refl; rest_fits = IsBytes-rest m bytes fits }, fits 0)

number8_again : (n : ℕ) (rest : List ℕ) → n < 256 → number8_at (number8 n ++ rest) ≡ Some (n, rest)
unfolding number8_at
number8_again n rest h = refl

pub number8_part : IsPart number8 (λ n. n < 256) number8_at
number8_part = record { takes = number8_takes; again = number8_again }

bits_fit : (z : ℤ) → FitsSigned w64 z → cast_unsigned w64 z < 2 ^ 64
bits_fit z h = omega (arith, ints)

signed_fits : (n : ℕ) → n < 2 ^ 64 → FitsSigned w64 (cast_signed w64 n)
signed_fits n h = omega (arith, ints)

pub signed64_part : IsPart signed64 (FitsSigned w64) signed64_at
unfolding signed64 signed64_at
signed64_part = record {
  takes = λ bytes z rest fits e.
      let b = bind_some (number_at w64 bytes) as_signed (z, rest) e in
      let t = number64_part.takes bytes b.0.0 b.0.1 fits b.1 in
      let bits : cast_unsigned w64 (cast_signed w64 b.0.0) ≡ b.0.0 = of_z-to_z w64 b.0.0 t.1 in
      let spelled : Takes bytes (number64 (cast_unsigned w64 (cast_signed w64 b.0.0))) b.0.1 = subst (λ (n : ℕ). Takes bytes (number64 n) b.0.1) (sym bits) t.0 in
      subst (λ (x : ℤ × List ℕ). Takes bytes (number64 (cast_unsigned w64 x.0)) x.1 × FitsSigned w64 x.0) (some_is (cast_signed w64 b.0.0, b.0.1) (z, rest) b.2) (spelled, signed_fits b.0.0 t.1);
  again = λ z rest ok.
      rw (number64_part.again (cast_unsigned w64 z) rest (bits_fit z ok), to_z-of_z w64 z ok) refl;
}

-- ---- principals

kind_is : (kind : ℕ) (id : List ℕ) (left : List ℕ) (p : Principal) (rest : List ℕ) → of_kind kind (id, left) ≡ Some (p, rest) → (kind ≡ kind_number p) × (id ≡ principal_id p) × (left ≡ rest)
kind_is zero id left p rest e =
    subst (λ (x : Principal × List ℕ). (0 ≡ kind_number x.0) × (id ≡ principal_id x.0) × (left ≡ x.1)) (some_is (User id, left) (p, rest) e) (refl, refl, refl)
kind_is (suc zero) id left p rest e =
    subst (λ (x : Principal × List ℕ). (1 ≡ kind_number x.0) × (id ≡ principal_id x.0) × (left ≡ x.1)) (some_is (Role id, left) (p, rest) e) (refl, refl, refl)
kind_is (suc (suc zero)) id left p rest e =
    subst (λ (x : Principal × List ℕ). (2 ≡ kind_number x.0) × (id ≡ principal_id x.0) × (left ≡ x.1)) (some_is (Subordinates id, left) (p, rest) e) (refl, refl, refl)
kind_is (suc (suc (suc zero))) id left p rest e =
    subst (λ (x : Principal × List ℕ). (3 ≡ kind_number x.0) × (id ≡ principal_id x.0) × (left ≡ x.1)) (some_is (Group id, left) (p, rest) e) (refl, refl, refl)
kind_is (suc (suc (suc (suc k)))) id left p rest e = absurd cc

principal_takes : (bytes : List ℕ) (p : Principal) (rest : List ℕ) → IsBytes bytes → principal_at bytes ≡ Some (p, rest) → Takes bytes (principal p) rest × FitsPrincipal p
unfolding principal_at
principal_takes [] p rest fits e = absurd cc
principal_takes (kind ∷ bytes) p rest fits e =
    let b = bind_some (id_at bytes) (of_kind kind) (p, rest) e in
    let t = id_part.takes bytes b.0.0 b.0.1 (IsBytes-rest kind bytes fits) b.1 in
    let k = kind_is kind b.0.0 b.0.1 p rest b.2 in
    principal_is kind bytes b.0.0 b.0.1 p rest k.0 k.1 k.2 t.0 t.1
  where
    principal_is : (kind : ℕ) (bytes id left : List ℕ) (p : Principal) (rest : List ℕ) → kind ≡ kind_number p → id ≡ principal_id p → left ≡ rest → Takes bytes id left → is_id id ≡ true → Takes (kind ∷ bytes) (principal p) rest × FitsPrincipal p
    principal_is kind bytes id left p rest k i l t ok =
        (record { parts = ap (λ (w : List ℕ). kind ∷ w) (subst (λ (z : List ℕ). bytes ≡ id ++ z) l t.parts) ∙ ap (λ (n : ℕ). n ∷ (id ++ rest)) k ∙ ap (λ (z : List ℕ). kind_number p ∷ (z ++ rest)) i; rest_fits = subst IsBytes l t.rest_fits }, subst (λ (z : List ℕ). is_id z ≡ true) i ok)

principal_again : (p : Principal) (rest : List ℕ) → FitsPrincipal p → principal_at (principal p ++ rest) ≡ Some (p, rest)
unfolding principal_at
principal_again (User id) rest ok = rw (id_part.again id rest ok) refl
principal_again (Role id) rest ok = rw (id_part.again id rest ok) refl
principal_again (Subordinates id) rest ok = rw (id_part.again id rest ok) refl
principal_again (Group id) rest ok = rw (id_part.again id rest ok) refl

pub principal_part : IsPart principal FitsPrincipal principal_at
principal_part = record { takes = principal_takes; again = principal_again }

-- ---- ordered bytes

IsBytes-nil : IsBytes []
IsBytes-nil i = omega arith

IsBytes-cons : (b : ℕ) (bytes : List ℕ) → b < 256 → IsBytes bytes → IsBytes (b ∷ bytes)
IsBytes-cons b bytes h f zero = h
IsBytes-cons b bytes h f (suc i) = f i

-- one byte, spelled so, before bytes that were taken
byte_before : (b : ℕ) (front bytes : List ℕ) (a rest : List ℕ) (all : List ℕ) → b < 256 → (ordered (b ∷ a) ≡ front ++ ordered a) → all ≡ front ++ bytes → Takes bytes (ordered a) rest → IsBytes a → Takes all (ordered (b ∷ a)) rest × IsBytes (b ∷ a)
byte_before b front bytes a rest all lt spelled is t fits =
    (record { parts = is ∙ ap (λ (z : List ℕ). front ++ z) t.parts ∙ sym (append_assoc front (ordered a) rest) ∙ ap (λ (z : List ℕ). z ++ rest) (sym spelled); rest_fits = t.rest_fits }, IsBytes-cons b a lt fits)

ordered_takes : (bytes a rest : List ℕ) → IsBytes bytes → ordered_at bytes ≡ Some (a, rest) → Takes bytes (ordered a) rest × IsBytes a
unfolding ordered_at
ordered_takes [] a rest fits e = absurd cc
ordered_takes (zero ∷ []) a rest fits e = absurd cc
ordered_takes (zero ∷ zero ∷ bytes) a rest fits e =
    subst (λ (x : List ℕ × List ℕ). Takes (0 ∷ 0 ∷ bytes) (ordered x.0) x.1 × IsBytes x.0) (some_is ([], bytes) (a, rest) e) (record { parts = refl; rest_fits = IsBytes-rest 0 bytes (IsBytes-rest 0 (0 ∷ bytes) fits) }, IsBytes-nil)
ordered_takes (zero ∷ suc c ∷ bytes) a rest fits e =
    let g = escape (eqb c 254) (ordered_at bytes >>= with_byte 0) (a, rest) e in
    let is : c ≡ 254 = eqb-true c 254 g.0 in
    let b = bind_some (ordered_at bytes) (with_byte 0) (a, rest) g.1 in
    let t = ordered_takes bytes b.0.0 b.0.1 (IsBytes-rest (suc c) bytes (IsBytes-rest 0 (suc c ∷ bytes) fits)) b.1 in
    let all : ◌≡◌ {A = List ℕ} (0 ∷ suc c ∷ bytes) (0 ∷ 255 ∷ bytes) = ap (λ (n : ℕ). 0 ∷ suc n ∷ bytes) is in
    subst (λ (x : List ℕ × List ℕ). Takes (0 ∷ suc c ∷ bytes) (ordered x.0) x.1 × IsBytes x.0) (some_is (0 ∷ b.0.0, b.0.1) (a, rest) b.2) (byte_before 0 (0 ∷ 255 ∷ []) bytes b.0.0 b.0.1 (0 ∷ suc c ∷ bytes) (omega arith) refl all t.0 t.1)
  where
    escape : {Y : Type 0} (test : Bool) (r : Option Y) (y : Y) → cond test r None ≡ Some y → (test ≡ true) × (r ≡ Some y)
    escape true r y e = (refl, e)
    escape false r y e = absurd cc
ordered_takes (suc d ∷ bytes) a rest fits e =
    let b = bind_some (ordered_at bytes) (with_byte (suc d)) (a, rest) e in
    let t = ordered_takes bytes b.0.0 b.0.1 (IsBytes-rest (suc d) bytes fits) b.1 in
    subst (λ (x : List ℕ × List ℕ). Takes (suc d ∷ bytes) (ordered x.0) x.1 × IsBytes x.0) (some_is (suc d ∷ b.0.0, b.0.1) (a, rest) b.2) (byte_before (suc d) (suc d ∷ []) bytes b.0.0 b.0.1 (suc d ∷ bytes) (fits 0) refl refl t.0 t.1)

ordered_reads : (a rest : List ℕ) → ordered_at (ordered a ++ rest) ≡ Some (a, rest)
unfolding ordered_at
ordered_reads [] rest = refl
ordered_reads (zero ∷ a) rest = rw (ordered_reads a rest) refl
ordered_reads (suc d ∷ a) rest = rw (ordered_reads a rest) refl

pub ordered_part : IsPart ordered IsBytes ordered_at
ordered_part = record { takes = ordered_takes; again = λ a rest ok. ordered_reads a rest }

-- ---- lists

module _ {A : Type 0} {spell : A → List ℕ} {Fits : A → Type 0} {read : List ℕ → Option (A × List ℕ)} (field : IsPart spell Fits read) where
  in_turn_takes : (n : ℕ) (bytes : List ℕ) (list : List A) (rest : List ℕ) → IsBytes bytes → in_turn_at read n bytes ≡ Some (list, rest) → Takes bytes (in_turn spell list) rest × All Fits list × (length list ≡ n)
  unfolding in_turn_at
  in_turn_takes zero bytes list rest fits e =
      subst (λ (x : List A × List ℕ). Takes bytes (in_turn spell x.0) x.1 × All Fits x.0 × (length x.0 ≡ 0)) (some_is ([], bytes) (list, rest) e) (record { parts = refl; rest_fits = fits }, All-nil Fits, refl)
  in_turn_takes (suc n) bytes list rest fits e =
      let b = bind_some (read bytes) (λ x. in_turn_at read n x.1 >>= λ y. Some (x.0 ∷ y.0, y.1)) (list, rest) e in
      let c = bind_some (in_turn_at read n b.0.1) (λ y. Some (b.0.0 ∷ y.0, y.1)) (list, rest) b.2 in
      let t = field.takes bytes b.0.0 b.0.1 fits b.1 in
      let u = in_turn_takes n b.0.1 c.0.0 c.0.1 t.0.rest_fits c.1 in
      let both = Takes-then bytes (spell b.0.0) b.0.1 (in_turn spell c.0.0) c.0.1 t.0 u.0 in
      subst (λ (x : List A × List ℕ). Takes bytes (in_turn spell x.0) x.1 × All Fits x.0 × (length x.0 ≡ suc n)) (some_is (b.0.0 ∷ c.0.0, c.0.1) (list, rest) c.2) (both, All-cons Fits b.0.0 c.0.0 t.1 u.1, ap suc u.2)

  in_turn_again : (list : List A) (rest : List ℕ) → AllByRecursion Fits list → in_turn_at read (length list) (in_turn spell list ++ rest) ≡ Some (list, rest)
  unfolding in_turn_at
  in_turn_again [] rest ok = refl
  in_turn_again (a ∷ list) rest ok =
      rw (append_assoc (spell a) (in_turn spell list) rest, field.again a (in_turn spell list ++ rest) ok.0, in_turn_again list rest ok.1) refl

  pub items_part : IsPart (items spell) (FitsItems Fits) (items_at read)
  unfolding items_at
  items_part = record {
    takes = λ bytes list rest fits e.
        let b = bind_some (number_at w32 bytes) (λ n. in_turn_at read n.0 n.1) (list, rest) e in
        let t = number32_part.takes bytes b.0.0 b.0.1 fits b.1 in
        let u = in_turn_takes b.0.0 b.0.1 list rest t.0.rest_fits b.2 in
        let both = Takes-then bytes (number32 b.0.0) b.0.1 (in_turn spell list) rest t.0 u.0 in
        (subst (λ (n : ℕ). Takes bytes (number32 n ++ in_turn spell list) rest) (sym u.2) both, (omega (arith, t.1, u.2), u.1));
    again = λ list rest ok.
        rw (append_assoc (number32 (length list)) (in_turn spell list) rest, number32_part.again (length list) (in_turn spell list ++ rest) ok.0, in_turn_again list rest (recursion_from_All Fits list ok.1)) refl;
  }

  pub times_part : (n : ℕ) → IsPart (in_turn spell) (FitsTimes n Fits) (in_turn_at read n)
  times_part n = record {
    takes = λ bytes list rest fits e. let u = in_turn_takes n bytes list rest fits e in (u.0, (u.2, u.1));
    again = λ list rest ok. subst (λ (k : ℕ). in_turn_at read k (in_turn spell list ++ rest) ≡ Some (list, rest)) ok.0 (in_turn_again list rest (recursion_from_All Fits list ok.1));
  }

-- ---- a number, and the parts of the case that it tells

module _ {A X : Type 0} {spell : A → List ℕ} {Fits : A → Type 0} {read : List ℕ → Option (A × List ℕ)} (part : IsPart spell Fits read) (spellX : X → List ℕ) (FitsX : X → Type 0) (tag : ℕ) (make : A → X) (same : (a : A) → spellX (make a) ≡ tag ∷ spell a) (fit : (a : A) → Fits a → FitsX (make a)) where
  abbrev made_of : A × List ℕ → Option (X × List ℕ)
  made_of y = Some (make y.0, y.1)

  case_takes : (bytes : List ℕ) (x : X) (rest : List ℕ) → IsBytes (tag ∷ bytes) → (read bytes >>= made_of) ≡ Some (x, rest) → Takes (tag ∷ bytes) (spellX x) rest × FitsX x
  case_takes bytes x rest fits e =
      let b = bind_some (read bytes) made_of (x, rest) e in
      let t = part.takes bytes b.0.0 b.0.1 (IsBytes-rest tag bytes fits) b.1 in
      subst (λ (z : X × List ℕ). Takes (tag ∷ bytes) (spellX z.0) z.1 × FitsX z.0) (some_is (make b.0.0, b.0.1) (x, rest) b.2)
      (record { parts = ap (λ (w : List ℕ). tag ∷ w) t.0.parts ∙ ap (λ (w : List ℕ). w ++ b.0.1) (sym (same b.0.0)); rest_fits = t.0.rest_fits }, fit b.0.0 t.1)

-- a case without parts
alone : {X : Type 0} (spellX : X → List ℕ) (FitsX : X → Type 0) (tag : ℕ) (made : X) → spellX made ≡ tag ∷ [] → FitsX made → (bytes : List ℕ) (x : X) (rest : List ℕ) → IsBytes (tag ∷ bytes) → ◌≡◌ {A = Option (X × List ℕ)} (Some (made, bytes)) (Some (x, rest)) → Takes (tag ∷ bytes) (spellX x) rest × FitsX x
alone {X} spellX FitsX tag made same fit bytes x rest fits e =
    subst (λ (z : X × List ℕ). Takes (tag ∷ bytes) (spellX z.0) z.1 × FitsX z.0) (some_is (made, bytes) (x, rest) e)
    (record { parts = ap (λ (w : List ℕ). w ++ bytes) (sym same); rest_fits = IsBytes-rest tag bytes fits }, fit)

-- ---- sources of sharing rules

source_takes : (bytes : List ℕ) (x : RuleSource) (rest : List ℕ) → IsBytes bytes → source_at bytes ≡ Some (x, rest) → Takes bytes (source x) rest × FitsSource x
unfolding source_at
source_takes [] x rest fits e = absurd cc
source_takes (zero ∷ bytes) x rest fits e = case_takes principal_part source FitsSource 0 Owner (λ a. refl) (λ a f. f) bytes x rest fits e
source_takes (suc zero ∷ bytes) x rest fits e = case_takes text_part source FitsSource 1 Criteria (λ a. refl) (λ a f. f) bytes x rest fits e
source_takes (suc (suc b) ∷ bytes) x rest fits e = absurd cc

source_again : (x : RuleSource) (rest : List ℕ) → FitsSource x → source_at (source x ++ rest) ≡ Some (x, rest)
unfolding source_at
source_again (Owner p) rest ok = rw (principal_part.again p rest ok) refl
source_again (Criteria t) rest ok = rw (text_part.again t rest ok) refl

pub source_part : IsPart source FitsSource source_at
source_part = record { takes = source_takes; again = source_again }

-- ---- types of fields

two_bytes : IsPart {A = ℕ × ℕ} (λ p. number8 p.0 ++ number8 p.1) (λ p. (p.0 < 256) × (p.1 < 256)) (pair_at number8_at number8_at)
two_bytes = pair_part number8_part number8_part

type_takes : (bytes : List ℕ) (x : FieldType) (rest : List ℕ) → IsBytes bytes → field_type_at bytes ≡ Some (x, rest) → Takes bytes (field_type x) rest × FitsType x
unfolding field_type_at
type_takes [] x rest fits e = absurd cc
type_takes (zero ∷ bytes) x rest fits e = case_takes number8_part field_type FitsType 0 type.Text (λ a. refl) (λ a f. f) bytes x rest fits e
type_takes (suc zero ∷ bytes) x rest fits e = case_takes two_bytes field_type FitsType 1 (λ p. type.Number p.0 p.1) (λ a. refl) (λ a f. f) bytes x rest fits e
type_takes (suc (suc zero) ∷ bytes) x rest fits e = alone field_type FitsType 2 type.Checkbox refl tt bytes x rest fits e
type_takes (suc (suc (suc zero)) ∷ bytes) x rest fits e = alone field_type FitsType 3 type.Day refl tt bytes x rest fits e
type_takes (suc (suc (suc (suc zero))) ∷ bytes) x rest fits e = alone field_type FitsType 4 type.Moment refl tt bytes x rest fits e
type_takes (suc (suc (suc (suc (suc zero)))) ∷ bytes) x rest fits e = case_takes (items_part text_part) field_type FitsType 5 type.Picklist (λ a. refl) (λ a f. f) bytes x rest fits e
type_takes (suc (suc (suc (suc (suc (suc zero))))) ∷ bytes) x rest fits e = case_takes (pair_part number16_part (choice_part Deletes)) field_type FitsType 6 (λ p. type.Lookup p.0 p.1) (λ a. refl) (λ a f. f.0) bytes x rest fits e
type_takes (suc (suc (suc (suc (suc (suc (suc zero)))))) ∷ bytes) x rest fits e = case_takes number16_part field_type FitsType 7 type.Master (λ a. refl) (λ a f. f) bytes x rest fits e
type_takes (suc (suc (suc (suc (suc (suc (suc (suc b))))))) ∷ bytes) x rest fits e = absurd cc

type_again : (x : FieldType) (rest : List ℕ) → FitsType x → field_type_at (field_type x ++ rest) ≡ Some (x, rest)
unfolding field_type_at
type_again (type.Text n) rest ok = rw (number8_part.again n rest ok) refl
type_again (type.Number d e) rest ok = rw (two_bytes.again (d, e) rest ok) refl
type_again type.Checkbox rest ok = refl
type_again type.Day rest ok = refl
type_again type.Moment rest ok = refl
type_again (type.Picklist values) rest ok = rw ((items_part text_part).again values rest ok) refl
type_again (type.Lookup o d) rest ok = rw ((pair_part number16_part (choice_part Deletes)).again (o, d) rest (ok, refl)) refl
type_again (type.Master o) rest ok = rw (number16_part.again o rest ok) refl

pub type_part : IsPart field_type FitsType field_type_at
type_part = record { takes = type_takes; again = type_again }
