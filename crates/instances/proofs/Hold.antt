-- Every starred instance holds: numbers by computing what their fields read as, synopses and least bands by computing how many terms are needed, the terms themselves by walking down the windows, and flows by their squares.
use mathlib.Core.Path.{refl}
use native.Mathlib.Omega.{arith}
use mathlib.Core.List.{[], ◌∷◌, ◌++◌}
use lib.IntN.{pos, negsuc}
use Rattle.limits.specs.Limits.{any_beyond}
use Rattle.decimal.specs.Number.{leading_digits, decimal}
use Rattle.bands.specs.Bands.{band_at, bands_from}
use Rattle.histogram.specs.Tree.{height, level_of}
use Rattle.histogram.specs.Terms.{term_or}
use Rattle.histogram.specs.Restored.{restored}
use Rattle.histogram.specs.Errors.{greatest, least}
use Rattle.windows.specs.Windows.{covers, meet, join}
use Rattle.subtree.specs.Answer.{answer}
use Rattle.trace.specs.Trace.{level_terms, upper_terms}
use Rattle.laws.specs.Profiles.{moved, turned}
use Rattle.air.proofs.Roots.{flow_is}
use Rattle.instances.specs.Instances.{AllHold, starred, five, nine, hundreds, last_hundred, three_hundreds, four_rising, four_falling, zero_and_one, zero_and_nine, two_and_zero, at_the_limit, own}
use Rattle.instances.proofs.Rows.{row_builds, row_first, row_least_band}

-- a row and the rows after it
◌and◌ : {A B : Type 0} → A → B → A × B
row and others = (row, others)

infixr 10 ◌and◌
-- the rows of the table, in its order
pub starred_hold : AllHold starred
unfolding any_beyond leading_digits decimal band_at bands_from height level_of term_or restored greatest least covers meet join answer level_terms upper_terms
starred_hold =
    refl
    and refl
    and refl
    and refl
    and refl
    and refl
    and refl
    and refl
    and refl
    and row_builds five (pos 0) tt (omega arith) 5 [] 0 (omega arith) refl (λ more. omega arith) [] refl refl refl
    and row_builds five (pos 0) tt (omega arith) 4 [] 4 (omega arith) refl (λ more. omega arith) (record { node = 1; value = pos 5 } ∷ []) refl refl refl
    and row_builds hundreds (pos 0) tt (omega arith) 50 [] 0 (omega arith) refl (λ more. omega arith) (record { node = 1; value = pos 50 } ∷ []) refl refl refl
    and row_builds hundreds (pos 0) tt (omega arith) 49 [] 49 (omega arith) refl (λ more. omega arith) (record { node = 5; value = pos 100 } ∷ record { node = 7; value = pos 100 } ∷ []) refl refl refl
    and row_least_band hundreds (pos 0) tt (omega arith) (λ positive. omega arith)
    and row_least_band hundreds (pos 0) tt (omega arith) (λ positive. omega arith)
    and row_least_band hundreds (pos 0) tt (omega arith) (λ positive. omega arith)
    and row_builds last_hundred (pos 0) tt (omega arith) 0 [] 0 (omega arith) refl (λ more. omega arith) (record { node = 13; value = pos 100 } ∷ []) refl refl refl
    and row_first last_hundred (pos 0) tt (omega arith) 0 [] 0 (omega arith) refl (λ more. omega arith)
    and row_builds last_hundred (pos 0) tt (omega arith) 60 [] 60 (omega arith) refl (λ more. omega arith) (record { node = 13; value = pos 100 } ∷ []) refl refl refl
    and row_builds three_hundreds (pos 0) tt (omega arith) 0 [] 0 (omega arith) refl (λ more. omega arith) (record { node = 1; value = pos 100 } ∷ []) refl refl refl
    and row_first three_hundreds (pos 0) tt (omega arith) 0 [] 0 (omega arith) refl (λ more. omega arith)
    and row_first four_rising (pos 100) tt (omega arith) 5 [] 0 (omega arith) refl (λ more. omega arith)
    and row_first four_falling (pos 1000) tt (omega arith) 8 [] 0 (omega arith) refl (λ more. omega arith)
    and row_builds zero_and_one (pos 0) tt (omega arith) 1 (own 1 0 ∷ []) 0 (omega arith) refl (λ more. omega arith) (record { node = 1; value = pos 1 } ∷ []) refl refl refl
    and row_first zero_and_one (pos 0) tt (omega arith) 1 (own 1 0 ∷ []) 0 (omega arith) refl (λ more. omega arith)
    and row_builds zero_and_nine (pos 1000) tt (omega arith) 10 (own 1 2 ∷ []) 1 (omega arith) refl (λ more. omega arith) (record { node = 1; value = pos 8 } ∷ []) refl refl refl
    and row_first zero_and_nine (pos 1000) tt (omega arith) 10 (own 1 2 ∷ []) 1 (omega arith) refl (λ more. omega arith)
    and flow_is 1 _ (omega arith)
    and flow_is 2 _ (omega arith)
    and flow_is 400 _ (omega arith)
    and row_builds five (pos 0) tt (omega arith) 0 [] 0 (omega arith) refl (λ more. omega arith) (record { node = 1; value = pos 5 } ∷ []) refl refl refl
    and row_builds nine (pos 0) tt (omega arith) 0 [] 0 (omega arith) refl (λ more. omega arith) (record { node = 1; value = pos 9 } ∷ []) refl refl refl
    and row_builds (five ++ five) (pos 0) tt (omega arith) 0 [] 0 (omega arith) refl (λ more. omega arith) (record { node = 1; value = pos 5 } ∷ []) refl refl refl
    and row_builds (five ++ nine) (pos 0) tt (omega arith) 0 [] 0 (omega arith) refl (λ more. omega arith) (record { node = 1; value = pos 5 } ∷ record { node = 3; value = pos 9 } ∷ []) refl refl refl
    and row_builds two_and_zero (pos 7) tt (omega arith) 1 (own 1 2 ∷ []) 0 (omega arith) refl (λ more. omega arith) (record { node = 1; value = pos 1 } ∷ []) refl refl refl
    and row_first two_and_zero (pos 7) tt (omega arith) 1 (own 1 2 ∷ []) 0 (omega arith) refl (λ more. omega arith)
    and row_builds (turned two_and_zero) (negsuc 6) tt (omega arith) 1 (own 1 2 ∷ []) 0 (omega arith) refl (λ more. omega arith) (record { node = 1; value = negsuc 1 } ∷ []) refl refl refl
    and row_first (turned two_and_zero) (negsuc 6) tt (omega arith) 1 (own 1 2 ∷ []) 0 (omega arith) refl (λ more. omega arith)
    and row_first at_the_limit (negsuc 19992) tt (omega arith) 6 [] 4 (omega arith) refl (λ more. omega arith)
    and row_first (moved (pos 2) at_the_limit) (negsuc 19990) tt (omega arith) 6 [] 4 (omega arith) refl (λ more. omega arith)
    and tt
