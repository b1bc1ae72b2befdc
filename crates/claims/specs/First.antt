-- The first of several best synopses: document 02, F-5 and F-6. For the auditor.
-- Of a profile of a slot or more and a rest value within range, and a band for each slot, there is exactly one, and it is `first_synopsis`: `synopsis_first` (proofs/First.antt) and `first_only` (proofs/InOrder.antt).
use Rattle.std.specs.Prelude.{Bool, true, false, not, ◌||◌, ◌&&◌, cond, ℕ, zero, suc, ◌*◌, ◌-◌, T, leb, ltb, eqb, ℤ, pos, ◌-ℤ◌, length}
use mathlib.Core.List.{List, [], ◌∷◌, ◌++◌, map, flat_map}
use Rattle.std.specs.Int.Signed.{lt_z}
use Rattle.histogram.specs.declared.Term.{Term}
use Rattle.histogram.specs.Tree.{padded}
use Rattle.histogram.specs.Errors.{least_margin, kept}
use Rattle.claims.specs.Best.{Best}

-- "lower node first, then lower value": whether a term comes before another
abbrev pub comes_before : Term → Term → Bool
comes_before term other = ltb term.node other.node || (eqb term.node other.node && lt_z term.value other.value)

-- "compare term by term": whether a list of terms comes before another or is the same; the first two terms that differ decide
unfoldable pub in_order : List Term → List Term → Bool
in_order [] others = true
in_order (term ∷ terms) [] = false
in_order (term ∷ terms) (other ∷ others) = comes_before term other || (not (comes_before other term) && in_order terms others)

-- the first of the best synopses: it comes before every best one, or is the same
pub record First (profile : List ℤ) (rest : ℤ) (bands : List ℕ) (terms : List Term) : Type 0 where
  pub best : Best profile rest bands terms
  pub first : (other : List Term) → Best profile rest bands other → T (in_order terms other)

-- the lowest values, `count` of them: -20,000 and on
unfoldable pub lowest_values : ℕ → List ℤ
lowest_values zero = []
lowest_values (suc count) = (pos count -ℤ pos 20000) ∷ lowest_values count

-- every list of terms at `count` nodes from `node` on: each node has no term, or one with a value of -20,000 to 20,000
unfoldable pub term_lists : (node count : ℕ) → List (List Term)
term_lists node zero = [] ∷ []
term_lists node (suc count) =
    let further = term_lists (suc node) count in
    further ++ flat_map (λ (value : ℤ). map (λ (terms : List Term). record { node = node; value = value } ∷ terms) further) (lowest_values 40001)

-- every synopsis of n slots: all lists of terms at nodes 1 to 2m-1
abbrev pub all_synopses : ℕ → List (List Term)
all_synopses n = term_lists 1 (2 * padded n - 1)

module _ {A : Type 0} where
  -- the elements of a list that pass a test
  unfoldable pub those : (A → Bool) → List A → List A
  those test [] = []
  those test (one ∷ others) = cond (test one) (one ∷ those test others) (those test others)

  -- whether all elements of a list pass a test
  unfoldable pub all_pass : (A → Bool) → List A → Bool
  all_pass test [] = true
  all_pass test (one ∷ others) = test one && all_pass test others

  -- the elements of a list that pass a test of two against every element
  abbrev pub foremost : (A → A → Bool) → List A → List A
  foremost test list = those (λ one. all_pass (test one) list) list

  -- the elements of a list for which a number is least, and those for which it is greatest
  abbrev pub least_by : (A → ℕ) → List A → List A
  least_by number = foremost (λ one other. leb (number one) (number other))

  abbrev pub greatest_by : (A → ℕ) → List A → List A
  greatest_by number = foremost (λ one other. leb (number other) (number one))

-- the first of some lists of terms; no term where there is no list
abbrev pub first_of : List (List Term) → List Term
first_of [] = []
first_of (terms ∷ others) = terms

module _ (profile : List ℤ) (rest : ℤ) (bands : List ℕ) where
  -- the synopses that keep the bands
  abbrev pub keeping_synopses : List (List Term)
  keeping_synopses = those (λ terms. kept profile rest terms bands) (all_synopses (length profile))

  -- of these the ones with the fewest terms, and "among smallest synopses the least margin .. is to be the greatest possible"
  abbrev pub best_synopses : List (List Term)
  best_synopses = greatest_by (λ terms. least_margin profile rest terms bands) (least_by length keeping_synopses)

  -- of these "the first": the synopsis that building gives
  unfoldable pub first_synopsis : List Term
  first_synopsis = first_of (foremost in_order best_synopses)
