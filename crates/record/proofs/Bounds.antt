-- What the widths of a record's counts and of a header's rows bound: no more than 512 slots, 1,023 terms and 1,023 special slots can be read, and a band of 16 bits.
use mathlib.Core.Bool.{Bool, true, false, cond}
use mathlib.Core.List.{List}
use Prim.Native.Nat.{ℕ, ◌^◌, ◌≤◌, ◌<◌}
use native.Mathlib.Omega.{arith}
use lib.Dec.{eqb}
use Rattle.bits.specs.Bits.{field_at}
use Rattle.bits.proofs.Bytes.{field_below}
use Rattle.record.specs.Record.{header_layout, special_count_width, terms_end, version_in, slots_in, band_in, count_in, special_count_in}
use Rattle.record.specs.Inner.{place_of}

module _ (bytes : List ℕ) where
  pub few_slots : slots_in bytes ≤ 512
  few_slots = omega (arith, field_below bytes (place_of header_layout 1) 9)

  pub band_bound : band_in bytes < 2 ^ 16
  band_bound = field_below bytes (place_of header_layout 2) 16

  pub few_terms : count_in bytes ≤ 1023
  few_terms = omega (arith, field_below bytes (place_of header_layout 4) 10)

  pub few_specials : special_count_in bytes ≤ 1023
  few_specials = by_version (eqb (version_in bytes) 2)
    where
      by_version : (second : Bool) → cond second (field_at bytes (terms_end (count_in bytes)) special_count_width) 0 ≤ 1023
      by_version true = omega (arith, field_below bytes (terms_end (count_in bytes)) special_count_width)
      by_version false = omega arith
