-- A profile as the theory of fewest terms takes it: numbers from 0 up. For the proofs alone.
use Rattle.std.specs.Prelude.{Bool, ◌||◌, List, [], ◌∷◌, map, ℕ, zero, suc, ◌+◌, ◌-◌, ◌/◌, ◌≤◌, ◌<◌, leb, ℤ, pos, negsuc, length}
use Rattle.std.proofs.Math.Option.{Option, none, some}
use Rattle.std.proofs.Math.IntN.{sub_ℕ}
use Rattle.histogram.specs.declared.Term.{Term}
use Rattle.histogram.specs.Tree.{height, padded, level_of}
use Rattle.histogram.specs.Errors.{slots_of, setpoint_of, slot_band}
use Rattle.fewest.specs.Node.{placed, chosen}
use Rattle.fewest.specs.Tree.{binary}
use Rattle.fewest.specs.Cost.{fewest}

-- a value within ±20,000 as a number of 0 to 40,000
abbrev pub lifted : ℤ → ℕ
lifted (pos n) = 20000 + n
lifted (negsuc n) = 20000 - suc n

-- the absolute difference
abbrev pub distance : ℕ → ℕ → ℕ
distance a b = (a - b) + (b - a)

-- whether the slot at a leaf accepts a value: it is filler, which accepts every value, or the value is within the slot's band of its setpoint
abbrev pub accepts : List ℤ → List ℕ → ℕ → ℕ → Bool
accepts profile bands leaf value =
    let slot : ℕ = leaf - padded (length profile) in
    leb (slots_of profile) slot || leb (distance (lifted (setpoint_of profile slot)) value) (slot_band bands slot)

-- a term's node and its value, as the theory takes them
abbrev pub term_node : Term → ℕ
term_node term = term.node

abbrev pub term_value : Term → ℕ
term_value term = lifted term.value

-- the fewest terms of a synopsis that keeps its bands, by the theory
abbrev pub fewest_terms : List ℤ → ℤ → List ℕ → ℕ
fewest_terms profile rest bands = fewest binary (accepts profile bands) 40000 (height (length profile)) (lifted rest)

-- bands less a margin: a synopsis that keeps them has that margin at the least
abbrev pub narrowed : ℕ → List ℕ → List ℕ
narrowed margin bands = map (λ band. band - margin) bands

-- a margin that every slot's band leaves room for
pub record Spared (profile : List ℤ) (bands : List ℕ) (margin : ℕ) : Type 0 where
  pub each : (slot : ℕ) → slot < slots_of profile → margin ≤ slot_band bands slot

-- a number of 0 to 40,000 as the value that it was lifted from
abbrev pub lowered : ℕ → ℤ
lowered number = sub_ℕ number 20000

-- a list with a term at a node, or none, before it
abbrev pub with_term : ℕ → Option ℕ → List Term → List Term
with_term node none terms = terms
with_term node (some value) terms = record { node = node; value = lowered value } ∷ terms

-- the terms at `count` nodes from `first` on
unfoldable pub gathered : (ℕ → Option ℕ) → ℕ → ℕ → List Term
gathered term_at first zero = []
gathered term_at first (suc count) = with_term first (term_at first) (gathered term_at (suc first) count)

-- the walk from the root down: the value that comes in at a node so many levels below the root, where each node above chooses what costs least
unfoldable pub comes_in : (cost_of : ℕ → ℕ → ℕ → ℕ) → (height rest levels node : ℕ) → ℕ
comes_in cost_of height rest zero node = rest
comes_in cost_of height rest (suc levels) node =
    let above : ℕ = node / 2 in
    let value : ℕ = comes_in cost_of height rest levels above in
    placed (chosen 40000 (cost_of (height - levels) above) value) value

-- the term that the walk leaves at a node, or none
abbrev pub walked : (cost_of : ℕ → ℕ → ℕ → ℕ) → (height rest node : ℕ) → Option ℕ
walked cost_of height rest node = chosen 40000 (cost_of (height - level_of node) node) (comes_in cost_of height rest (level_of node) node)
