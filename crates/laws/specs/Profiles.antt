-- Profiles laid end to end, moved and turned: document 02, F-8. For the auditor. Bands are given as the band that each slot goes by.
-- The laws are `joined_law` (proofs/Joined.antt), `moved_law` and `turned_law` (proofs/Moved.antt).
-- The terms and the greatest error are not said to stay; rows of `starred` (crate instances) prove the terms and the greatest errors of two examples.
-- Setpoints 2 and 0 with bands 1 and 2 over the rest value 7 give the term (1, 1) and the greatest error 1; all signs turned they give the term (1, -2) and the greatest error 2. The least margin is 0 both times.
-- Setpoints -20,000 and -19,995 with the band 6 over the rest value -19,993 give the term (2, -20,000), and moved by 2 they give the same term.
-- With one band for all slots the least margin is the band less the greatest error (`margin_of_one_band` of the crate histogram), so there the greatest error stays with it.
use Rattle.std.specs.Prelude.{◌≡◌, ◌⊎◌, List, map, ℕ, ◌+◌, ◌^◌, ℤ, ◌+ℤ◌, neg_ℤ, length}

-- "two profiles of equal length, a power of two": F-8 asks for it "up to 256", the law holds for all
pub record EqualPowerLengths (first second : List ℤ) : Type 0 where
  pub power : ℕ
  pub first_length : length first ≡ 2 ^ power
  pub second_length : length second ≡ 2 ^ power

-- "as many terms as the two together, or exactly one fewer"
abbrev pub TogetherOrOneFewer : (first second joined : ℕ) → Type 0
TogetherOrOneFewer first second joined = (joined ≡ first + second) ⊎ (joined + 1 ≡ first + second)

-- "adding one number to all setpoints"
abbrev pub moved : ℤ → List ℤ → List ℤ
moved number profile = map (λ setpoint. setpoint +ℤ number) profile

-- "turning all signs"
abbrev pub turned : List ℤ → List ℤ
turned profile = map neg_ℤ profile
