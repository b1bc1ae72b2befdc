-- Shifts as the code has them, `a * 2 ^ n % 2 ^ 32`, where nothing is shifted out: the number with a field replaced has no more bits than it had.
use mathlib.Core.Path.{◌≡◌, sym, ap, ◌∙◌, subst}
use Prim.Native.Nat.{ℕ, ◌+◌, ◌-◌, ◌*◌, ◌/◌, ◌%◌, ◌^◌, ◌<◌}
use native.Mathlib.Nat.{mod-lt, mod-eq_of_lt, div-le_self, div-mul-le_self}
use native.Mathlib.Omega.{arith}
use lib.Arith.{digits_lt}
use lib.Pow.{pow_pos, pow-add, shr_lt}
use mir.Syntax.{w32}
use mir.Val.{Fits}
use Rattle.limits.proofs.Shifting.{one_shifted}
use Rattle.bits.specs.Inner.{FieldInWord, with_field}

with_field_below : (before width after word number : ℕ) → word < 2 ^ (before + width + after) → number < 2 ^ width
    → with_field word width after number < 2 ^ (before + width + after)
with_field_below before width after word number word_fits number_fits =
    let high_fits : word / 2 ^ after / 2 ^ width < 2 ^ before = shr_lt before width (shr_lt (before + width) after word_fits) in
    let with_number : word / 2 ^ after / 2 ^ width * 2 ^ width + number < 2 ^ before * 2 ^ width = digits_lt high_fits number_fits in
    let with_low : with_field word width after number < 2 ^ before * 2 ^ width * 2 ^ after = digits_lt with_number (mod-lt word (pow_pos after)) in
    let power : 2 ^ (before + width + after) ≡ 2 ^ before * 2 ^ width * 2 ^ after = pow-add 2 (before + width) after ∙ ap (λ (n : ℕ). n * 2 ^ after) (pow-add 2 before width) in
    omega arith

module _ (word width after number : ℕ) (asked : FieldInWord word width after number) where
  upper_small : word / 2 ^ after / 2 ^ width * 2 ^ width < 2 ^ 24
  upper_small = omega (arith, div-mul-le_self (word / 2 ^ after) (2 ^ width), div-le_self word (2 ^ after), asked.word_fits)

  upper_shifted : word / 2 ^ after / 2 ^ width * 2 ^ width % 2 ^ 32 ≡ word / 2 ^ after / 2 ^ width * 2 ^ width
  upper_shifted = let small = upper_small in mod-eq_of_lt (omega arith)

  with_field_small : with_field word width after number < 2 ^ 24
  with_field_small =
      let before : ℕ = 24 - (width + after) in
      let whole : before + width + after ≡ 24 = omega (arith, asked.field_fits) in
      subst (λ (n : ℕ). with_field word width after number < 2 ^ n) whole
      (with_field_below before width after word number (subst (λ (n : ℕ). word < 2 ^ n) (sym whole) asked.word_fits) asked.number_fits)

  pub after_shifted : 1 * 2 ^ after % 2 ^ 32 ≡ 2 ^ after
  after_shifted = one_shifted 32 after (omega (arith, asked.field_fits))

  -- the sum of the shifts is the number with the field replaced
  pub with_field_shifted : (word / 2 ^ after / 2 ^ width * 2 ^ width % 2 ^ 32 + number) * 2 ^ after % 2 ^ 32 + word % (1 * 2 ^ after % 2 ^ 32) ≡ with_field word width after number
  with_field_shifted =
      let small = with_field_small in
      let field : (word / 2 ^ after / 2 ^ width * 2 ^ width + number) * 2 ^ after % 2 ^ 32 ≡ (word / 2 ^ after / 2 ^ width * 2 ^ width + number) * 2 ^ after = mod-eq_of_lt (omega arith) in
      rw (upper_shifted, field, after_shifted)

  pub with_field_fits : Fits w32 ((word / 2 ^ after / 2 ^ width * 2 ^ width % 2 ^ 32 + number) * 2 ^ after % 2 ^ 32 + word % (1 * 2 ^ after % 2 ^ 32))
  with_field_fits = rw with_field_shifted (record { fits = omega (arith, with_field_small) })
