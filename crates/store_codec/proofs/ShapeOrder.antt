-- Of every shape of keys: spellings are ordered as their parts in turn.
use Rattle.std.proofs.Common.{◌≡◌, [], ◌++◌, IsTrue, refl, sym, ap, ◌∙◌}
use Rattle.std.specs.Cmp.{nat_cmp_total}
use Rattle.std.proofs.lemmas.Cmp.{tied_itself}
use Rattle.std.proofs.lemmas.List.{append-nil}
use Rattle.std.proofs.lemmas.Bool.{and_parts as and_both}
use Rattle.base_lemmas.proofs.Orders.{ordering_then-equal as then_equal}
use Rattle.store_kv.specs.Tables.{bytes_cmp}
use Rattle.store_codec.specs.PartLaws.{KeepsOrder}
use Rattle.store_codec.specs.Shapes.{Shape, Nothing, Number8, Number16, Number32, Number64, Identity, Mark, Named, Ordered, Both, Val, spelled, FitsIn, is_key_shape, in_order}
use Rattle.store_codec.proofs.PlainOrder.{DigitsOrdered, both_keep, number32_keeps, id_keeps}
use Rattle.store_codec.proofs.ComposedOrder.{number8_keeps, number16_keeps, number64_keeps, principal_keeps, ordered_keeps}

pub shape_keeps : DigitsOrdered → (s : Shape) → IsTrue (is_key_shape s) → KeepsOrder (in_order s) (FitsIn s) (spelled s)
shape_keeps law Nothing k = λ a b x y fa fb. refl
shape_keeps law Number8 k = number8_keeps
shape_keeps law Number16 k = number16_keeps law
shape_keeps law Number32 k = number32_keeps law
shape_keeps law Number64 k = number64_keeps law
shape_keeps law Identity k = id_keeps
shape_keeps law (Mark m) k = λ a b x y fa fb. rw (tied_itself nat_cmp_total m) refl
shape_keeps law Named k = principal_keeps
shape_keeps law Ordered k = ordered_keeps
shape_keeps law (Both s t) k =
    let h = and_both (is_key_shape s) (is_key_shape t) k in
    both_keep (in_order s) (in_order t) (FitsIn s) (FitsIn t) (spelled s) (spelled t) (shape_keeps law s h.0) (shape_keeps law t h.1)
shape_keeps law _ k = absurd cc

pub shape_compared : DigitsOrdered → (s : Shape) → IsTrue (is_key_shape s) → (a b : Val s) → FitsIn s a → FitsIn s b → bytes_cmp (spelled s a) (spelled s b) ≡ in_order s a b
shape_compared law s k a b fa fb =
    ap (λ z. bytes_cmp z (spelled s b)) (sym (append-nil (spelled s a))) ∙ ap (bytes_cmp (spelled s a ++ [])) (sym (append-nil (spelled s b))) ∙ shape_keeps law s k a b [] [] fa fb ∙ then_equal (in_order s a b)
