-- The limits that document 01 sets. For the auditor.
use Rattle.std.specs.Prelude.{Bool, true, false, ◌||◌, List, [], ◌∷◌, ℕ, ltb, eqb, ℤ, pos, negsuc, nat_abs}

-- row 2: a number beyond ±limit
abbrev pub beyond : ℕ → ℤ → Bool
beyond limit number = ltb limit (nat_abs number)

-- row 3: a band below 0 or above 40,000
abbrev pub outside_band : ℤ → Bool
outside_band (pos band) = ltb 40000 band
outside_band (negsuc below) = true

-- row 4: no setpoint, or more than 512
abbrev pub outside_slots : ℕ → Bool
outside_slots n = eqb n 0 || ltb 512 n

-- row 2 of setpoints: whether one lies beyond ±20,000
unfoldable pub any_beyond : List ℤ → Bool
any_beyond [] = false
any_beyond (setpoint ∷ setpoints) = beyond 20000 setpoint || any_beyond setpoints
