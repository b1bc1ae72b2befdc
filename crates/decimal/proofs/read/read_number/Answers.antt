-- `decimal::read::read_number` meets its contract: the field is a number exactly where the one at its front ends with it.
use Rattle.std.proofs.Common.{◌≡◌, ℕ, false, List, length, get_or, ℤ, pos, sym, arith}
use mathlib.Core.Option.{none}
use lib.ListN.{get_or-eq_default}
use lib.Seq.{take-length}
use Rattle.decimal.specs.Number.{reads_as}
use Rattle.decimal.specs.Answers.{NumberRead}
use Rattle.decimal.specs.Inner.{in_number, FrontRead}
use Rattle.decimal.proofs.read.read_number.Goals as goal

module _ (field : List ℕ) (number : ℤ) (count : ℕ) (front : FrontRead reads_as field number count) where
  not_all : (count ≡ length field → ⊥) → NumberRead field 1 (pos 0)
  not_all elsewhere =
      let stops : in_number (get_or field (length field) 0) ≡ false = rw (get_or-eq_default field 0 {n = length field} (omega arith)) in
      let is : reads_as field ≡ none = rw (take-length field) at (front.no_other (length field) (omega arith) stops (λ same. elsewhere (sym same))) in
      record { refusal_is = rw is; number_is = rw is }

pub returns-else-front-field : goal.returns-else-front-field
returns-else-front-field c = not_all c.args.field.now _ _ c.read_front-front.ensures c.if-front-field.false
