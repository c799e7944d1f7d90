-- Of every shape: what is read is spelled so, and what is spelled so is read.
use Rattle.std.proofs.Common.{◌≡◌, ℕ, List, ◌++◌, Some, sym, ap, ◌∙◌}
use Rattle.store_kv.specs.Prefixes.{AreBytes}
use Rattle.store_codec.specs.Plain.{whole}
use Rattle.store_codec.specs.PartLaws.{IsPart}
use Rattle.store_codec.specs.Shapes.{Shape, Nothing, Number8, Number16, Number32, Number64, Signed64, Characters, Identity, Truth, Fixed, Mark, Named, Ordered, OneOf, Flags, Typed, Sourced, Maybe, Many, Times, Both, Val, spelled, FitsIn, taken}
use Rattle.store_codec.proofs.PlainLaws.{some_is, number16_part, number32_part, number64_part, id_part, text_part, truth_part, optional_part, mark_part, fixed_part, nothing_part, pair_part, whole_is, whole_again}
use Rattle.store_codec.proofs.ComposedLaws.{number8_part, signed64_part, principal_part, ordered_part, items_part, times_part, source_part, type_part}
use Rattle.store_codec.proofs.ChoiceLaws.{choice_part, flags_part}

pub shape_part : (s : Shape) → IsPart (spelled s) (FitsIn s) (taken s)
shape_part Nothing = nothing_part
shape_part Number8 = number8_part
shape_part Number16 = number16_part
shape_part Number32 = number32_part
shape_part Number64 = number64_part
shape_part Signed64 = signed64_part
shape_part Characters = text_part
shape_part Identity = id_part
shape_part Truth = truth_part
shape_part (Fixed n) = fixed_part n
shape_part (Mark m) = mark_part m
shape_part Named = principal_part
shape_part Ordered = ordered_part
shape_part (OneOf c) = choice_part c
shape_part Flags = flags_part
shape_part Typed = type_part
shape_part Sourced = source_part
shape_part (Maybe s) = optional_part (shape_part s)
shape_part (Many s) = items_part (shape_part s)
shape_part (Times n s) = times_part (shape_part s) n
shape_part (Both s t) = pair_part (shape_part s) (shape_part t)

pub shape_whole : (s : Shape) (bytes : List ℕ) (v : Val s) → AreBytes bytes → whole (taken s) bytes ≡ Some v → (bytes ≡ spelled s v) × FitsIn s v
shape_whole s bytes v fits e = whole_is (shape_part s) bytes v fits e

pub shape_again : (s : Shape) (v : Val s) → FitsIn s v → whole (taken s) (spelled s v) ≡ Some v
shape_again s v f = whole_again (shape_part s) v f

-- two spellings of one shape with whatever follows: they are one, and so is what follows
pub shape_apart : (s : Shape) (a b : Val s) (x y : List ℕ) → FitsIn s a → FitsIn s b → spelled s a ++ x ≡ spelled s b ++ y → (a ≡ b) × (x ≡ y)
shape_apart s a b x y fa fb e =
    let law = shape_part s in
    let same = some_is (a, x) (b, y) (sym (law.again a x fa) ∙ ap (taken s) e ∙ law.again b y fb) in
    (ap (λ p. p.0) same, ap (λ p. p.1) same)
