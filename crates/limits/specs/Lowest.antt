-- The lowest number that passes a test. For the auditor.
-- `proofs/Lowest.antt` shows that it is what its words say: `lowest_passes`, `lowest_first`.
use Rattle.std.specs.Prelude.{Bool, cond, ℕ, zero, suc}

-- the lowest of 0, 1 and on, `count` of them, that passes a test; `count` where none does
unfoldable pub lowest : (ℕ → Bool) → ℕ → ℕ
lowest test zero = 0
lowest test (suc count) = cond (test 0) 0 (suc (lowest (λ k. test (suc k)) count))
