-- `decimal::read::read_unsigned` meets its contract: with no digit there is no number, and else the units stand before what follows them.
use Rattle.std.proofs.Common.{◌≡◌, ℕ, ◌+◌, ◌-◌, List, length, take, drop, arith}
use Rattle.limits.proofs.Parts.{to_end}
use Rattle.decimal.specs.Number.{unsigned}
use Rattle.decimal.specs.Inner.{with_units, UnitsRead, PartRead}
use Rattle.decimal.proofs.Units.{no_units, units_first}
use Rattle.decimal.proofs.read.read_unsigned.Goals as goal

-- the part of some bytes from a place on, as it is lent
from : ℕ → List ℕ → List ℕ
from start bytes = take (length bytes - start) (drop start bytes)

module _ (bytes : List ℕ) (count units : ℕ) (lent : UnitsRead (from 0 bytes) count units) where
  read : UnitsRead bytes count units
  unfolding from
  read = rw (to_end 0 bytes) at lent

  none_there : (number taken : ℕ) → count ≡ 0 → number ≡ 0 → taken ≡ length (from count bytes) + 1 → PartRead unsigned bytes number taken
  unfolding from
  none_there number taken zero-count number_is taken_is =
      let all : length (from count bytes) ≡ length bytes = rw (to_end count bytes, zero-count) in
      rw (number_is, taken_is, all) (record { front = no_units bytes count units read zero-count; at_most = omega arith })

  together : (number taken : ℕ) → (count ≡ 0 → ⊥) → PartRead (with_units units) (from count bytes) number taken → PartRead unsigned bytes number (count + taken)
  unfolding from
  together number taken some-units part-lent =
      let part = rw (to_end count bytes) at part-lent in
      record { front = units_first bytes count units read some-units number taken part.front; at_most = part.at_most }

pub returns-then-count-eq0 : goal.returns-then-count-eq0
unfolding from
returns-then-count-eq0 c =
    none_there c.args.bytes.now _ _ c.read_units-units.ensures _ _ c.if-count-eq0.true c.no_number.ensures.0
    c.no_number.ensures.1

pub returns : goal.returns
unfolding from
returns c =
    together c.args.bytes.now _ _ c.read_units-units.ensures _ _ c.if-count-eq0.false
    c.read_fraction-part.ensures
