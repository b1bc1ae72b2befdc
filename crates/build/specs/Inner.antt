-- What inner functions ask and promise. A reader of the promises need not open this file.
use Rattle.std.specs.Prelude.{◌≡◌, Bool, true, false, List, ℕ, suc, ◌≤◌, ◌<◌, ℤ, nat_abs, length, drop}
use Rattle.limits.specs.Limits.{outside_band}
use Rattle.bands.specs.Bands.{specials_among}
use Rattle.histogram.specs.Tree.{padded}
use Rattle.histogram.specs.Terms.{paired}
use Rattle.histogram.specs.Errors.{slot_band, greatest_error, least_margin, Keeps}
use Rattle.verdict.specs.Inner.{Judgeable}
use Rattle.claims.specs.Best.{InRange}
use Rattle.claims.specs.Inner.{narrowed}
use Rattle.claims.specs.First.{first_synopsis}
use Rattle.histogram.specs.declared.Term.{Term}
use Rattle.windows.specs.Scratch.{at}
use Rattle.subtree.specs.Answer.{slot_windows, terms_for}
use Rattle.subtree.specs.Stretch.{Solvable, Solved}
use Rattle.trace.specs.Trace.{upper_terms, Traced}
use Rattle.build.specs.declared.BuiltSynopsis.{BuiltSynopsis}
use Rattle.build.specs.Building.{values_refusal, handed_over}

-- the terms that are traced for bands over a tree of setpoints, where a value comes in at the root
abbrev pub traced_for : (bands : List ℕ) → (height : ℕ) → List ℤ → (value : ℕ) → List Term
traced_for bands height setpoints value = upper_terms (suc height) height (slot_windows bands setpoints) value

-- a tree whose terms with no margin are within a budget, a margin that every band leaves room for, and whether scratch is solved with no margin
pub record Searchable (top height value budget : ℕ) (solved : Bool) (setpoints : List ℤ) (bands : List ℕ) (scratch : List ℤ) : Type 0 where
  pub solvable : Solvable top height setpoints bands scratch
  pub enough : terms_for (narrowed 0 bands) height setpoints value ≤ budget
  pub in_scratch : solved ≡ true → Solved height (slot_windows (narrowed 0 bands) setpoints) (at scratch)

-- the greatest margin up to `top` whose terms are within the budget
pub record GreatestWithin (top height value budget : ℕ) (setpoints : List ℤ) (bands : List ℕ) (margin : ℕ) : Type 0 where
  pub within_top : margin ≤ top
  pub enough : terms_for (narrowed margin bands) height setpoints value ≤ budget
  pub next_not : margin < top → budget < terms_for (narrowed (suc margin) bands) height setpoints value

-- that margin was found, and whether scratch is solved for it
pub record MarginFound (top height value budget : ℕ) (setpoints : List ℤ) (bands : List ℕ) (before after : List ℤ) (margin : ℕ) (solved : Bool) : Type 0 where
  pub greatest_within : GreatestWithin top height value budget setpoints bands margin
  pub same_length : length after ≡ length before
  pub in_scratch : solved ≡ true → Solved height (slot_windows (narrowed margin bands) setpoints) (at after)

-- that margin was found, and scratch is solved for it
pub record MarginSolved (top height value budget : ℕ) (setpoints : List ℤ) (bands : List ℕ) (before after : List ℤ) (margin : ℕ) : Type 0 where
  pub greatest_within : GreatestWithin top height value budget setpoints bands margin
  pub same_length : length after ≡ length before
  pub in_scratch : Solved height (slot_windows (narrowed margin bands) setpoints) (at after)

-- a tree with a stretch of scratch, and room for the terms that it needs for any margin
pub record TreeFits (top height value : ℕ) (setpoints : List ℤ) (bands nodes : List ℕ) (values scratch : List ℤ) : Type 0 where
  pub solvable : Solvable top height setpoints bands scratch
  pub value_within : value ≤ 40000
  pub room : (margin : ℕ) → length (traced_for (narrowed margin bands) height setpoints value) ≤ length nodes
  pub same_room : length values ≡ length nodes

-- the greatest margin that takes no more terms than none, and the terms traced for it
pub record TreeBuilt (top height value : ℕ) (setpoints : List ℤ) (bands nodes nodes' : List ℕ) (values values' : List ℤ) (count margin : ℕ) : Type 0 where
  pub greatest : GreatestWithin top height value (terms_for (narrowed 0 bands) height setpoints value) setpoints bands margin
  pub traced : Traced (traced_for (narrowed margin bands) height setpoints value) nodes nodes' values values' count

-- a profile with bands that building does not refuse
pub record RightProfile (profile : List ℤ) (rest : ℤ) (bands : List ℕ) : Type 0 where
  pub values_right : values_refusal profile rest ≡ 0
  pub each_band : length bands ≡ length profile
  pub bands_within : (slot : ℕ) → slot_band bands slot ≤ 40000

-- a common band, and how many of some bands are not the common one
pub record Counted (common specials : ℕ) (bands : List ℕ) : Type 0 where
  pub specials_are : specials ≡ length (specials_among common bands)
  pub common_within : common ≤ 40000

-- a profile whose numbers are known, and which building does not refuse
pub record KnownProfile (profile : List ℤ) (bands : List ℕ) (rest band : ℤ) (specials : ℕ) : Type 0 where
  pub right : RightProfile profile rest bands
  pub band_inside : outside_band band ≡ false
  pub counted : Counted (nat_abs band) specials bands

-- setpoints, a rest value and scratch that are not refused
pub record Acceptable (profile : List ℤ) (rest : ℤ) (scratch : List ℤ) : Type 0 where
  pub few_slots : length profile ≤ 512
  pub in_range : InRange profile rest
  pub scratch_long : 12288 ≤ length scratch

-- a profile with bands and destinations that building does not refuse
pub record Buildable (profile : List ℤ) (rest : ℤ) (bands nodes : List ℕ) (values scratch : List ℤ) : Type 0 where
  pub acceptable : Acceptable profile rest scratch
  pub some_slot : 1 ≤ length profile
  pub right : RightProfile profile rest bands
  pub same_length : length nodes ≡ length values
  pub destination_long : padded (length profile) ≤ length nodes

-- a synopsis that keeps the bands of a profile, and its least margin
pub record Kept (profile : List ℤ) (rest : ℤ) (bands : List ℕ) (margin : ℕ) (nodes : List ℕ) (values : List ℤ) : Type 0 where
  pub judgeable : Judgeable profile bands rest nodes values
  pub keeps : Keeps profile rest (paired nodes values) bands
  pub margin_is : least_margin profile rest (paired nodes values) bands ≡ margin

-- the first best synopsis is handed over
pub record FirstBuilt (profile : List ℤ) (rest : ℤ) (bands : List ℕ) (answer : BuiltSynopsis) (nodes nodes' : List ℕ) (values values' : List ℤ) : Type 0 where
  pub terms_are : handed_over answer.count nodes' values' ≡ first_synopsis profile rest bands
  pub count_is : answer.count ≡ length (handed_over answer.count nodes' values')
  pub error_is : answer.error ≡ greatest_error profile rest (handed_over answer.count nodes' values')
  pub nodes_past : drop answer.count nodes' ≡ drop answer.count nodes
  pub values_past : drop answer.count values' ≡ drop answer.count values
