-- F-8 of what building answers, for calls that refused nothing.
use mathlib.Core.Path.{◌≡◌}
use mathlib.Core.List.{List, ◌++◌}
use Prim.Native.Nat.{ℕ}
use lib.IntN.{ℤ, ◌+ℤ◌, neg_ℤ}
use Rattle.histogram.specs.declared.Term.{Term}
use Rattle.histogram.specs.Errors.{least_margin}
use Rattle.build.specs.declared.BuiltSynopsis.{BuiltSynopsis}
use Rattle.laws.specs.Profiles.{EqualPowerLengths, TogetherOrOneFewer, moved, turned}
use Rattle.laws.specs.Calls.{Answered}
use Rattle.laws.proofs.Numbers.{best_fewest, best_only}
use Rattle.laws.proofs.Joined.{joined_law}
use Rattle.laws.proofs.Moved.{moved_law, turned_law}
use Rattle.laws.proofs.Calls.{answered_accepted, each_band, answered_numbers}

-- for two profiles and the joined one the count is the sum, or the sum less one
pub joined_counts : {first second : List ℤ} {rest : ℤ} {bands bands' : List ℕ} {one two both : BuiltSynopsis} {terms terms' joined-terms : List Term}
    → EqualPowerLengths first second → Answered first rest bands one terms → Answered second rest bands' two terms' → Answered (first ++ second) rest (bands ++ bands') both joined-terms
    → TogetherOrOneFewer one.count two.count both.count
joined_counts powers answered answered' joined =
    joined_law powers (each_band answered) (answered_accepted answered).in_range (answered_accepted answered').in_range
    (best_fewest (answered_numbers answered)) (best_fewest (answered_numbers answered')) (best_fewest (answered_numbers joined))

-- moved, the count that is answered and the least margin of the terms handed over are the same
pub moved_answers : (number : ℤ) {profile : List ℤ} {rest : ℤ} {bands : List ℕ} {one two : BuiltSynopsis} {terms terms' : List Term}
    → Answered profile rest bands one terms → Answered (moved number profile) (rest +ℤ number) bands two terms'
    → (one.count ≡ two.count) × (least_margin profile rest terms bands ≡ least_margin (moved number profile) (rest +ℤ number) terms' bands)
moved_answers number answered answered' =
    best_only (moved_law number (answered_accepted answered).in_range (answered_accepted answered').in_range (answered_numbers answered)) (answered_numbers answered')

-- and turned
pub turned_answers : {profile : List ℤ} {rest : ℤ} {bands : List ℕ} {one two : BuiltSynopsis} {terms terms' : List Term}
    → Answered profile rest bands one terms → Answered (turned profile) (neg_ℤ rest) bands two terms'
    → (one.count ≡ two.count) × (least_margin profile rest terms bands ≡ least_margin (turned profile) (neg_ℤ rest) terms' bands)
turned_answers answered answered' = best_only (turned_law (answered_accepted answered).in_range (answered_numbers answered)) (answered_numbers answered')
