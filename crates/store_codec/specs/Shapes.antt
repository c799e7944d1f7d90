-- Shapes of keys and rows: each shape has its values, their spellings, the reader, and what fits.
use Rattle.std.specs.Prelude.{◌≡◌, ℕ, zero, suc, ℤ, ◌<◌, ◌^◌, Bool, true, false, nat_lt, ◌&&◌, IsTrue, IfSome, FitsSigned, List, ◌++◌, length, Option}
use Rattle.std.specs.Int.{w16, w32, w64}
use Rattle.base_value.specs.Id.{is_id}
use Rattle.base_value.specs.declared.sharing.Principal.{Principal}
use Rattle.store_codec.specs.Plain.{number8, number16, number32, number64, number_at, text, text_at, FitsText, same_bytes, id_at, truth, truth_at, optional, optional_at, fixed_at, mark_at, nothing, nothing_at, pair_at}
use Rattle.base_value.specs.Principals.{principal_cmp}
use Rattle.store_codec.specs.Composed.{number8_at, signed64, signed64_at, principal, principal_at, FitsPrincipal, ordered, ordered_at, in_turn, in_turn_at, FitsTimes, items, items_at, FitsItems, source, source_at, FitsSource, field_type, field_type_at, FitsType}
use Rattle.store_codec.specs.Choices.{Choice, Chosen, is_spelled, choice, choice_at, flags, flags_at}
use Rattle.store_codec.specs.declared.choices.FieldFlags.{FieldFlags}
use Rattle.base_value.specs.declared.sharing.RuleSource.{RuleSource}
use Rattle.base_value.specs.declared.value.FieldType.{FieldType}
use Rattle.std.specs.Ordering.{nat_cmp, ordering_then}
use Rattle.std.specs.declared.cmp.Ordering.{Ordering}
use Rattle.std.specs.declared.cmp.Ordering.TheVariants.{Equal}
use Rattle.store_kv.specs.Tables.{bytes_cmp}
use Rattle.store_codec.specs.PartLaws.{IsBytes}

pub data Shape : Type 0 where
  Nothing : Shape
  Number8 : Shape
  Number16 : Shape
  Number32 : Shape
  Number64 : Shape
  Signed64 : Shape
  Characters : Shape
  Identity : Shape
  Truth : Shape
  Fixed : ℕ → Shape
  Mark : ℕ → Shape
  Named : Shape
  Ordered : Shape
  OneOf : Choice → Shape
  Flags : Shape
  Typed : Shape
  Sourced : Shape
  Maybe : Shape → Shape
  Many : Shape → Shape
  Times : ℕ → Shape → Shape
  Both : Shape → Shape → Shape

abbrev pub Val : Shape → Type 0
Val Nothing = Unit {0}
Val Number8 = ℕ
Val Number16 = ℕ
Val Number32 = ℕ
Val Number64 = ℕ
Val Signed64 = ℤ
Val Characters = List ℕ
Val Identity = List ℕ
Val Truth = Bool
Val (Fixed n) = List ℕ
Val (Mark m) = Unit {0}
Val Named = Principal
Val Ordered = List ℕ
Val (OneOf c) = Chosen c
Val Flags = FieldFlags
Val Typed = FieldType
Val Sourced = RuleSource
Val (Maybe s) = Option (Val s)
Val (Many s) = List (Val s)
Val (Times n s) = List (Val s)
Val (Both s t) = Val s × Val t

abbrev pub spelled : (s : Shape) → Val s → List ℕ
spelled Nothing = nothing
spelled Number8 = number8
spelled Number16 = number16
spelled Number32 = number32
spelled Number64 = number64
spelled Signed64 = signed64
spelled Characters = text
spelled Identity = same_bytes
spelled Truth = truth
spelled (Fixed n) = same_bytes
spelled (Mark m) = λ u. number8 m
spelled Named = principal
spelled Ordered = ordered
spelled (OneOf c) = choice c
spelled Flags = flags
spelled Typed = field_type
spelled Sourced = source
spelled (Maybe s) = optional (spelled s)
spelled (Many s) = items (spelled s)
spelled (Times n s) = in_turn (spelled s)
spelled (Both s t) = λ p. spelled s p.0 ++ spelled t p.1

abbrev pub FitsIn : (s : Shape) → Val s → Type 0
FitsIn Nothing = λ u. Unit {0}
FitsIn Number8 = λ n. n < 256
FitsIn Number16 = λ n. n < 2 ^ 16
FitsIn Number32 = λ n. n < 2 ^ 32
FitsIn Number64 = λ n. n < 2 ^ 64
FitsIn Signed64 = FitsSigned w64
FitsIn Characters = FitsText
FitsIn Identity = λ i. IsTrue (is_id i)
FitsIn Truth = λ b. Unit {0}
FitsIn (Fixed n) = λ a. length a ≡ n
FitsIn (Mark m) = λ u. Unit {0}
FitsIn Named = FitsPrincipal
FitsIn Ordered = IsBytes
FitsIn (OneOf c) = λ x. IsTrue (is_spelled c x)
FitsIn Flags = λ f. Unit {0}
FitsIn Typed = FitsType
FitsIn Sourced = FitsSource
FitsIn (Maybe s) = λ o. IfSome o (FitsIn s)
FitsIn (Many s) = FitsItems (FitsIn s)
FitsIn (Times n s) = FitsTimes n (FitsIn s)
FitsIn (Both s t) = λ p. FitsIn s p.0 × FitsIn t p.1

abbrev pub taken : (s : Shape) → List ℕ → Option (Val s × List ℕ)
taken Nothing = nothing_at
taken Number8 = number8_at
taken Number16 = number_at w16
taken Number32 = number_at w32
taken Number64 = number_at w64
taken Signed64 = signed64_at
taken Characters = text_at
taken Identity = id_at
taken Truth = truth_at
taken (Fixed n) = fixed_at n
taken (Mark m) = mark_at m
taken Named = principal_at
taken Ordered = ordered_at
taken (OneOf c) = choice_at c
taken Flags = flags_at
taken Typed = field_type_at
taken Sourced = source_at
taken (Maybe s) = optional_at (taken s)
taken (Many s) = items_at (taken s)
taken (Times n s) = in_turn_at (taken s) n
taken (Both s t) = pair_at (taken s) (taken t)

-- the shapes that stand in keys
abbrev pub is_key_shape : Shape → Bool
is_key_shape Nothing = true
is_key_shape Number8 = true
is_key_shape Number16 = true
is_key_shape Number32 = true
is_key_shape Number64 = true
is_key_shape Identity = true
is_key_shape (Mark m) = nat_lt m 256
is_key_shape Named = true
is_key_shape Ordered = true
is_key_shape (Both s t) = is_key_shape s && is_key_shape t
is_key_shape _ = false

-- the order of the parts in turn
abbrev pub in_order : (s : Shape) → Val s → Val s → Ordering
in_order Number8 = nat_cmp
in_order Number16 = nat_cmp
in_order Number32 = nat_cmp
in_order Number64 = nat_cmp
in_order Identity = bytes_cmp
in_order Named = principal_cmp
in_order Ordered = bytes_cmp
in_order (Both s t) = λ a b. ordering_then (in_order s a.0 b.0) (in_order t a.1 b.1)
in_order _ = λ a b. Equal

-- ---- prefixes

-- the first n parts, at least one, of parts that stand in turn
abbrev pub front : ℕ → Shape → Shape
front (suc (suc n)) (Both s t) = Both s (front (suc n) t)
front (suc zero) (Both s t) = s
front _ s = s

-- their values
abbrev pub front_of : (n : ℕ) (s : Shape) → Val s → Val (front n s)
front_of (suc (suc n)) (Both s t) v = (v.0, front_of (suc n) t v.1)
front_of (suc zero) (Both s t) v = v.0
front_of _ s v = v
