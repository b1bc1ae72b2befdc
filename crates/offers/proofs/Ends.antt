-- Where the record at the front of a buffer ends, as far as the buffer's bytes say.
use mathlib.Core.Path.{◌≡◌, ◌∙◌}
use mathlib.Core.List.{List}
use Prim.Native.Nat.{ℕ, ◌≤◌, ◌<◌}
use native.Mathlib.Omega.{arith}
use lib.ListN.{length}
use borrow.Author.Tests.{ne_eqb}
use Rattle.record.specs.Record.{version_in, count_in, special_count_in, bytes_for}
use Rattle.record.proofs.Ends.{end_of_second}
use Rattle.offers.specs.Offers.{record_end}
use Rattle.offers.specs.Inner.{EndRead}

module _ (buffer : List ℕ) {end : ℕ} where
  -- by both counts
  pub by_counts : end ≡ record_end buffer → EndRead buffer end
  by_counts is = record { inside = λ _. is; outside = λ short. omega (arith, is, short) }

  module _ (is : end ≡ bytes_for (version_in buffer) (count_in buffer) 0) where
    -- another version than 2 has one count
    pub by_one_count : (version_in buffer ≡ 2 → ⊥) → EndRead buffer end
    by_one_count other = by_counts (is ∙ rw (ne_eqb (version_in buffer) 2 other))

    -- a version 2 that ends before its second count
    pub behind : version_in buffer ≡ 2 → length buffer < end → EndRead buffer end
    behind second short =
        let longer : end ≤ record_end buffer = omega (arith, is, end_of_second (version_in buffer) (count_in buffer) 0 second, end_of_second (version_in buffer) (count_in buffer) (special_count_in buffer) second) in
        record { inside = λ fits. absurd (omega (arith, short, fits)); outside = λ _. omega (arith, short, longer) }
