-- Where the fields of a record end: behind the special slots in version 2, behind the terms in any other.
use mathlib.Core.Path.{◌≡◌}
use mathlib.Core.Bool.{Bool, true, false, cond}
use Prim.Native.Nat.{ℕ, ◌+◌, ◌*◌, ◌≤◌}
use native.Mathlib.Nat.{add-zero}
use native.Mathlib.Omega.{arith}
use lib.Dec.{eqb}
use borrow.Author.Tests.{eq-eqb, ne_eqb}
use Rattle.record.specs.Layout.{layout_width}
use Rattle.record.specs.Record.{special_layout, special_count_width, terms_end, fields_end}
use Rattle.record.specs.Inner.{Counted}

module _ (version terms specials : ℕ) where
  pub end_of_second : version ≡ 2 → fields_end version terms specials ≡ terms_end terms + special_count_width + layout_width special_layout * specials
  end_of_second second = rw (eq-eqb version 2 second) (omega arith)

  pub end_of_other : (version ≡ 2 → ⊥) → fields_end version terms specials ≡ terms_end terms
  end_of_other other = rw (ne_eqb version 2 other) (add-zero (terms_end terms))

  -- no record is longer than one of 1,023 terms and 1,023 special slots
  pub end_bound : Counted terms specials → fields_end version terms specials ≤ terms_end 1023 + special_count_width + layout_width special_layout * 1023
  end_bound counted = by_version (eqb version 2)
    where
      by_version : (second : Bool) → terms_end terms + cond second (special_count_width + layout_width special_layout * specials) 0 ≤ terms_end 1023 + special_count_width + layout_width special_layout * 1023
      by_version true = omega (arith, counted.few_terms, counted.few_specials)
      by_version false = omega (arith, counted.few_terms)
