-- The order of values is total, and that of their order keys.
use Rattle.std.proofs.Common.{◌≡◌, ℕ, true, false, List, [], ℤ, pos, refl, sym, ap, ◌∙◌, subst}
use Rattle.std.specs.Prelude.{IsTrue, ◌↔◌}
use Rattle.std.specs.declared.cmp.Ordering.{Ordering}
use Rattle.std.specs.Ordering.{nat_cmp, int_cmp, then_cmp, on, is_eq}
use Rattle.std.specs.Cmp.{IsTotalOrder, Equal-is, nat_cmp_total, int_cmp_total, on_total, then_total, tied_itself}
use Rattle.std.specs.Cmp.Lexicographic.{slice_cmp, nat_list_cmp_total}
use Rattle.base_lemmas.proofs.Lists.{same_from_slice_cmp_equal as lists_equal}
use Rattle.base_lemmas.proofs.Orders.{ordering_then-equal as then_equal}
use Rattle.caseless.specs.Caseless.{default_case_fold}
use Rattle.base_value.specs.Values.{cmp, equal, kind_place}
use Rattle.base_value.specs.OrderKeys.{order_key, Fits}
use Rattle.base_value.specs.declared.value.Value.{Value}
use Rattle.base_value.specs.declared.value.Value.TheVariants as value
use Rattle.base_value.proofs.NumberOrder.{order_32, order_64, order_128}
use Rattle.base_value.proofs.TextOrder.{text_order}

-- ---- the order of keys

pub key_order : (a b : Value) → Fits a → Fits b → slice_cmp nat_cmp (order_key a) (order_key b) ≡ cmp a b
unfolding order_key
key_order value.Null value.Null f g = refl
key_order (value.Text a) (value.Text b) f g = text_order (default_case_fold a) (default_case_fold b)
key_order (value.Num a) (value.Num b) f g = order_128 a b f g
key_order (value.Day a) (value.Day b) f g = order_32 a b f g
key_order (value.Moment a) (value.Moment b) f g = order_64 a b f g
key_order (value.Ref a) (value.Ref b) f g = refl
key_order (value.Bool false) (value.Bool false) f g = refl
key_order (value.Bool false) (value.Bool true) f g = refl
key_order (value.Bool true) (value.Bool false) f g = refl
key_order (value.Bool true) (value.Bool true) f g = refl
key_order a b f g = refl

pub same_keys : (a b : Value) → Fits a → Fits b → (order_key a ≡ order_key b) ↔ IsTrue (equal a b)
same_keys a b f g = (
  λ e. ap is_eq (sym (key_order a b f g) ∙ ap (slice_cmp nat_cmp (order_key a)) (sym e) ∙ tied_itself nat_list_cmp_total (order_key a)),
  λ h. lists_equal (order_key a) (order_key b) (key_order a b f g ∙ (Equal-is (cmp a b)).0 h),
)

-- ---- the order of values

-- what a value has besides its kind: a number
number_in : Value → ℤ
number_in (value.Num count) = count
number_in (value.Day day) = day
number_in (value.Moment second) = second
number_in (value.Bool true) = pos 1
number_in _ = pos 0

-- .. and a list
list_in : Value → List ℕ
list_in (value.Text cs) = default_case_fold cs
list_in (value.Ref id) = id
list_in _ = []

by_parts : Value → Value → Ordering
by_parts = then_cmp (on kind_place nat_cmp) (then_cmp (on number_in int_cmp) (on list_in (slice_cmp nat_cmp)))

by_parts_is : (a b : Value) → by_parts a b ≡ cmp a b
unfolding by_parts number_in list_in
by_parts_is value.Null value.Null = refl
by_parts_is (value.Text a) (value.Text b) = refl
by_parts_is (value.Num a) (value.Num b) = then_equal (int_cmp a b)
by_parts_is (value.Day a) (value.Day b) = then_equal (int_cmp a b)
by_parts_is (value.Moment a) (value.Moment b) = then_equal (int_cmp a b)
by_parts_is (value.Ref a) (value.Ref b) = refl
by_parts_is (value.Bool false) (value.Bool false) = refl
by_parts_is (value.Bool false) (value.Bool true) = refl
by_parts_is (value.Bool true) (value.Bool false) = refl
by_parts_is (value.Bool true) (value.Bool true) = refl
by_parts_is a b = refl

pub values_total : IsTotalOrder cmp
unfolding by_parts
values_total = subst IsTotalOrder (λ i a b. by_parts_is a b i) (then_total (on_total kind_place nat_cmp_total) (then_total (on_total number_in int_cmp_total) (on_total list_in nat_list_cmp_total)))
