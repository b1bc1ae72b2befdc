-- A number written out takes no more bytes than its destination has.
use mathlib.Core.Path.{sym}
use mathlib.Core.List.{List}
use Prim.Native.Nat.{ℕ, zero, suc, ◌≤◌}
use native.Mathlib.Omega.{arith}
use lib.Dec.{ltb}
use lib.IntN.{ℤ}
use lib.ListN.{length}
use borrow.Author.Tests.{ltb-false}
use Rattle.limits.specs.Limits.{beyond}
use Rattle.limits.proofs.Refusals.{passed, passed_last}
use Rattle.decimal.specs.Written.{written}
use Rattle.decimal.specs.Answers.{NumberWritten}

pub count_within : (number : ℤ) (refusal count : ℕ) (before after : List ℕ) → NumberWritten number refusal count before after → count ≤ length before
count_within number zero count before after of_number =
    let fits = passed_last 5 (ltb (length before) (length (written number))) (passed 1 (beyond 40000 number) _ (sym of_number.refusal_is)).1 in
    omega (arith, of_number.count_is, ltb-false (length before) (length (written number)) fits)
count_within number (suc refusal) count before after of_number = omega (arith, of_number.count_is)
