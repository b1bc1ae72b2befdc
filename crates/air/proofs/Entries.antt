-- A rule of a table: one test that is computed over all entries, and what it says of each.
use mathlib.Core.Path.{◌∙◌, subst, sym}
use mathlib.Core.Bool.{Bool, true, ◌&&◌}
use mathlib.Core.List.{List, [], ◌∷◌}
use Prim.Native.Nat.{ℕ, zero, suc, ◌+◌, ◌<◌}
use native.Mathlib.Nat.{add-zero, zero-add, add-suc, suc-add}
use native.Mathlib.Omega.{arith}
use lib.Dec.{T}
use lib.ListN.{length, get_or}
use mir.Facts.{and_yes}

-- the rule passes at each place and its entry; the table's first place is `start`
abbrev pub passes : (ℕ → ℕ → Bool) → ℕ → List ℕ → Bool
passes rule start [] = true
passes rule start (entry ∷ entries) = rule start entry && passes rule (suc start) entries

counted_from : (rule : ℕ → ℕ → Bool) (table : List ℕ) (start : ℕ) → T (passes rule start table)
    → (place : ℕ) → place < length table → T (rule (start + place) (get_or table place 0))
counted_from rule [] start passed place within = absurd (omega arith)
counted_from rule (entry ∷ entries) start passed zero within =
    subst (λ (k : ℕ). T (rule k entry)) (sym (add-zero start)) (and_yes (rule start entry) (passes rule (suc start) entries) passed).0
counted_from rule (entry ∷ entries) start passed (suc place) within =
    subst (λ (k : ℕ). T (rule k (get_or entries place 0))) (suc-add start place ∙ sym (add-suc start place))
    (counted_from rule entries (suc start) (and_yes (rule start entry) (passes rule (suc start) entries) passed).1 place (omega arith))

pub at_each_place : (rule : ℕ → ℕ → Bool) (table : List ℕ) → T (passes rule 0 table) → (place : ℕ) → place < length table → T (rule place (get_or table place 0))
at_each_place rule table passed place within = subst (λ (k : ℕ). T (rule k (get_or table place 0))) (zero-add place) (counted_from rule table 0 passed place within)
