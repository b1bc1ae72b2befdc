-- `decimal::read::read_units` meets its contract. The invariant (`SoFar`): the digits from `count` on continue those read to all the leading digits.
use Rattle.std.proofs.Common.{◌≡◌, ℕ, ◌+◌, ◌-◌, ◌≤◌, List, length, drop}
use Rattle.decimal.specs.Number.{leading_digits, decimal}
use Rattle.decimal.proofs.read.read_units.Given as goal

-- the digits that are still to be read
unfoldable pub left : List ℕ → ℕ → List ℕ
left bytes count = leading_digits (3 - count) (drop count bytes)

pub record SoFar (bytes : List ℕ) (count units : ℕ) : Type 0 where
  pub in_field : count ≤ length bytes
  pub counted : length (leading_digits 3 bytes) ≡ count + length (left bytes count)
  pub written : decimal 0 (leading_digits 3 bytes) ≡ decimal units (left bytes count)

abbrev pub invariant-loop-count : goal.invariant-loop-count
invariant-loop-count l = SoFar l.bytes l.count l.units
