use mathlib.Core.Path.{◌≡◌, sym, ap, ◌∙◌}
use mathlib.Core.Logic.{⊎_elim}
use mathlib.Core.List.{List}
use Prim.Native.Nat.{ℕ, ◌+◌, ◌≤◌, ◌<◌}
use native.Mathlib.Omega.{arith}
use lib.ListN.{length, get_or}
use Rattle.std.proofs.lemmas.Bool.{cases_lt}
use Rattle.histogram.specs.Inner.{Ascending, FirstPlace, Nowhere}
use Rattle.histogram.proofs.terms.find.Goals as goal
use Rattle.histogram.proofs.terms.find.Goals.{else-low-nodes-via-then-low-nodes+else-nodes-low, else-low-nodes-via-else-low-nodes}
use Rattle.histogram.proofs.terms.find.Invariants.{Between}

-- an earlier place, or the same, has no greater node
no_greater : {nodes : List ℕ} → Ascending nodes → (p q : ℕ) → p ≤ q → q < length nodes → get_or nodes p 0 ≤ get_or nodes q 0
no_greater {nodes} ascending p q p-to-q q-within =
    ⊎_elim
    (λ less. omega (arith, ascending.each p q less q-within))
    (λ more. let same : p ≡ q = omega arith in omega (arith, ap (λ (k : ℕ). get_or nodes k 0) same))
    (cases_lt p q)

module _ {nodes : List ℕ} {node low high : ℕ} (ascending : Ascending nodes) (between : Between nodes node low high) (middle : ℕ) (from_low : low ≤ middle) (to_high : middle < high) where
  upper_half : get_or nodes middle 0 < node → Between nodes node (middle + 1) high
  upper_half less = record {
    low_first = omega arith;
    within = between.within;
    below = λ k k-below. let high-within = between.within in omega (arith, no_greater ascending k middle (omega arith) (omega arith));
    not_below = between.not_below;
  }

  lower_half : node ≤ get_or nodes middle 0 → Between nodes node low middle
  lower_half not-less = let high-within = between.within in record {
    low_first = from_low;
    within = omega arith;
    below = between.below;
    not_below = λ k k-from k-within. omega (arith, no_greater ascending middle k k-from k-within);
  }

module _ {nodes : List ℕ} {node low high : ℕ} (between : Between nodes node low high) (met : high ≤ low) where
  found_there : low < length nodes → get_or nodes low 0 ≡ node → FirstPlace nodes node low
  found_there low-within same = record {
    within = low-within;
    there = same;
    not_before = λ k k-before k-same. omega (arith, between.below k k-before);
  }

  -- the nodes after `low` are greater than the one there, which is not below the node sought
  found_nowhere : Ascending nodes → (low < length nodes → get_or nodes low 0 ≡ node → ⊥) → Nowhere nodes node
  found_nowhere ascending not_there = record {
    nowhere = λ k k-within k-same.
        ⊎_elim
        (λ before. omega (arith, between.below k before))
        (λ from.
        ⊎_elim
        (λ past. omega (arith, between.not_below low met (omega arith), ascending.each low k past k-within))
        (λ upto. let same : k ≡ low = omega arith in not_there (omega arith) (sym (ap (λ (p : ℕ). get_or nodes p 0) same) ∙ k-same))
        (cases_lt low k))
        (cases_lt k low);
  }

pub loop-low-init : goal.loop-low-init
loop-low-init c = record { low_first = omega arith; within = omega arith; below = λ k none. absurd (omega arith); not_below = λ k past within. absurd (omega arith) }

pub loop-low-preserved-then-nodes-middle : goal.loop-low-preserved-then-nodes-middle
loop-low-preserved-then-nodes-middle c =
    let at-loop = c in
    upper_half at-loop.requires at-loop.loop-low.invariant _ (omega arith) (omega arith) c.if-nodes-middle.true

pub loop-low-preserved : goal.loop-low-preserved
loop-low-preserved c =
    let at-loop = c in
    lower_half at-loop.requires at-loop.loop-low.invariant _ (omega arith) (omega arith) c.if-nodes-middle.false

pub returns-then-nodes-low : goal.returns-then-nodes-low
returns-then-nodes-low c =
    let after-loop = c in
    found_there after-loop.loop-low.invariant after-loop.loop-low-test.false c.if-low-nodes.true c.if-nodes-low.true

pub returns-else-low-nodes : goal.returns-else-low-nodes
returns-else-low-nodes c = found_nowhere c.loop-low.invariant c.loop-low-test.false c.requires not_there
  where
    not_there : c.loop-low.low < length c.args.nodes.now → get_or c.args.nodes.now c.loop-low.low 0 ≡ c.args.node → ⊥
    not_there within same =
        elim c.else-low-nodes.branch [
          | else-low-nodes-via-then-low-nodes+else-nodes-low other ↦ other.if-nodes-low.false same
          | else-low-nodes-via-else-low-nodes past ↦ omega (arith, past.if-low-nodes.false, within)
        ]
