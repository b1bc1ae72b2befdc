-- The units with a fraction: what is read of the fraction, wherever it ends, is added to them; and no fraction is no number.
use Rattle.std.proofs.Common.{◌≡◌, ℕ, ◌+◌, ◌*◌, ◌≤◌, false, List, length, get_or, take, ap, arith}
use mathlib.Core.Option.{none}
use Rattle.decimal.specs.Number.{fraction, added}
use Rattle.decimal.specs.Inner.{in_number, with_units, FrontRead, PartRead}
use Rattle.decimal.proofs.Fronts.{none_in_front}

module _ (units : ℕ) (few : units ≤ 999) (bytes : List ℕ) where
  pub with_fraction : (part count number : ℕ) → FrontRead fraction bytes part count → part ≤ 100 → number ≡ 100 * units + part → PartRead (with_units units) bytes number count
  with_fraction part count number front small is = rw is (record {
    front = record {
      in_reach = front.in_reach;
      whole = λ inside. ap (added (100 * units)) (front.whole inside);
      unbroken = front.unbroken;
      no_other = λ place inside stops other. ap (added (100 * units)) (front.no_other place inside stops other);
    };
    at_most = omega arith;
  })

  pub without : (number count : ℕ) → ((place : ℕ) → place ≤ length bytes → in_number (get_or bytes place 0) ≡ false → fraction (take place bytes) ≡ none) → number ≡ 0 → count ≡ length bytes + 1
      → PartRead (with_units units) bytes number count
  without number count nothing number_is count_is = rw (number_is, count_is) (record {
    front = none_in_front bytes 0 (λ place inside stops. ap (added (100 * units)) (nothing place inside stops));
    at_most = omega arith;
  })
