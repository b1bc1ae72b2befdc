-- What a valid list of terms restores lies within ±20,000, as its rest value and its terms' values do.
use mathlib.Core.Bool.{Bool, true, false, cond}
use mathlib.Core.List.{List, [], ◌∷◌}
use Prim.Native.Nat.{ℕ, zero, suc, ◌/◌, ◌≤◌}
use lib.Dec.{eqb}
use lib.IntN.{ℤ, nat_abs}
use Rattle.histogram.specs.declared.Term.{Term}
use Rattle.histogram.specs.Terms.{term_or}
use Rattle.histogram.specs.Restored.{restored}
use Rattle.histogram.proofs.Ascent.{ValidFrom, first_within, rest_valid}

-- the value of a term, or what stands for it
term_within : {last end : ℕ} (otherwise : ℤ) (terms : List Term) (node : ℕ) → ValidFrom last end terms → nat_abs otherwise ≤ 20000 → nat_abs (term_or otherwise terms node) ≤ 20000
unfolding term_or
term_within otherwise [] node valid within = within
term_within otherwise (term ∷ terms) node valid within = split (eqb term.node node) (term_within otherwise terms node (rest_valid valid) within)
  where
    split : (test : Bool) → nat_abs (term_or otherwise terms node) ≤ 20000 → nat_abs (cond test term.value (term_or otherwise terms node)) ≤ 20000
    split true later = first_within valid
    split false later = later

pub restored_within : {last end : ℕ} (rest : ℤ) (terms : List Term) → ValidFrom last end terms → nat_abs rest ≤ 20000 → (count node : ℕ) → nat_abs (restored rest terms count node) ≤ 20000
unfolding restored
restored_within rest terms valid within zero node = within
restored_within rest terms valid within (suc count) node =
    term_within (restored rest terms count (node / 2)) terms node valid (restored_within rest terms valid within count (node / 2))
