use mathlib.Core.Path.{◌≡◌, refl, sym, ◌∙◌}
use mathlib.Core.Bool.{false}
use mathlib.Core.List.{List, []}
use Prim.Native.Nat.{ℕ, ◌+◌, ◌-◌, ◌≤◌, ◌<◌}
use native.Mathlib.Omega.{arith}
use lib.Dec.{leb}
use lib.IntN.{ℤ}
use Rattle.windows.specs.Windows.{covers, Sorted}
use Rattle.windows.specs.Scratch.{at, windows_at}
use Rattle.windows.proofs.Reading.{windows_first, windows_none, one_passed}
use Rattle.windows.proofs.Sets.{sorted_lower, above_first, up_to_first}
use Rattle.windows.proofs.is_covered.Goals as goal
use Rattle.windows.proofs.is_covered.Invariants.{NotPassed}

none_covers : (value : ℕ) → covers [] value ≡ false
unfolding covers
none_covers value = refl

module _ {scratch : List ℤ} {place count value next left : ℕ} (so_far : NotPassed scratch place count value next left) where
  decided : 0 < left → value ≤ at scratch (next + 1) → leb (at scratch next) value ≡ covers (windows_at (at scratch) place count) value
  decided some below =
      let here = windows_first (at scratch) next left some in
      sym (so_far.same ∙ rw here (up_to_first _ (windows_at (at scratch) (next + 2) (left - 1)) 0 value (rw here at so_far.sorted) below))

  passed_one : 0 < left → at scratch (next + 1) < value → (fewer : ℕ) → left - 1 ≡ fewer → NotPassed scratch place count value (next + 2) fewer
  unfolding Sorted
  passed_one some above fewer one =
      let here = windows_first (at scratch) next left some in
      let sorted = rw here at so_far.sorted in
      rw⁻¹ one
      record {
        of_list = one_passed so_far.of_list some;
        same = so_far.same ∙ rw here (above_first _ (windows_at (at scratch) (next + 2) (left - 1)) value above);
        sorted = sorted_lower (windows_at (at scratch) (next + 2) (left - 1)) (omega arith) sorted.3;
      }

  none_left : left ≤ 0 → false ≡ covers (windows_at (at scratch) place count) value
  none_left ended = sym (so_far.same ∙ rw (windows_none (at scratch) next left ended) (none_covers value))

pub returns-then-value-load : goal.returns-then-value-load
returns-then-value-load c = rw c.load-then-value-load.ensures.0 (decided c.loop.invariant (omega arith) (omega (arith, c.load.ensures.0, c.if-value-load.true)))

pub loop-preserved : goal.loop-preserved
loop-preserved c = passed_one c.loop.invariant (omega arith) (omega (arith, c.load.ensures.0, c.if-value-load.false)) (c.args.count - (c.loop.counter + 1)) (omega arith)

pub returns : goal.returns
returns c = none_left c.loop.invariant (omega arith)
