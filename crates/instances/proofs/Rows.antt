-- Instances of building and of the least band, from the number of terms that the tree needs for its bands, computed on lists of windows: `row_builds`, `row_first`, `row_least_band`.
use mathlib.Core.Path.{◌≡◌, sym, ◌∙◌}
use mathlib.Core.Bool.{not}
use mathlib.Core.List.{List, [], ◌∷◌}
use Prim.Native.Nat.{ℕ, suc, ◌-◌, ◌≤◌, ◌<◌}
use native.Mathlib.Omega.{arith}
use lib.Dec.{T}
use lib.IntN.{ℤ}
use lib.ListN.{length}
use Rattle.limits.specs.Limits.{any_beyond}
use Rattle.limits.proofs.Beyond.{within_all}
use Rattle.bands.specs.declared.SpecialSlot.{SpecialSlot}
use Rattle.bands.specs.Bands.{slot_bands}
use Rattle.bands.proofs.Bands.{length_slot_bands}
use Rattle.histogram.specs.declared.Term.{Term}
use Rattle.histogram.specs.Tree.{height}
use Rattle.histogram.specs.Errors.{slots_of, slot_band, greatest_error, least}
use Rattle.histogram.proofs.Margins.{least_within, least_bound}
use Rattle.claims.specs.Best.{InRange, one_band}
use Rattle.claims.specs.First.{first_synopsis}
use Rattle.claims.specs.LeastBand.{LeastBand}
use Rattle.claims.specs.Inner.{lifted, fewest_terms, narrowed}
use Rattle.claims.proofs.Reduced.{least_band_lem, length_narrowed}
use Rattle.claims.proofs.First.{GreatestMargin, synopsis_walked}
use Rattle.subtree.specs.Answer.{slot_windows, terms_for}
use Rattle.subtree.proofs.Rows.{profile_needs}
use Rattle.trace.specs.Trace.{upper_terms}
use Rattle.trace.proofs.Walked.{profile_walked}
use Rattle.instances.specs.Instances.{CountAndError}

-- the terms that a profile's tree needs for its bands
abbrev pub needed_terms : List ℤ → ℤ → List ℕ → ℕ
needed_terms profile rest bands = terms_for bands (height (length profile)) profile (lifted rest)

-- a profile of a slot or more and a rest value with no number beyond ±20,000
module _ (profile : List ℤ) (rest : ℤ) (none_beyond : T (not (any_beyond (rest ∷ profile)))) where
  in_range : InRange profile rest
  in_range = record { setpoints_within = λ slot counts. within_all (rest ∷ profile) none_beyond (suc slot); rest_within = within_all (rest ∷ profile) none_beyond 0 }

  needs : (bands : List ℕ) → length bands ≡ length profile → needed_terms profile rest bands ≡ fewest_terms profile rest bands
  needs bands each_band = profile_needs in_range bands each_band

  -- building's synopsis is the walk's for a margin: as many terms are needed with it as with none, and more with one more, where all bands leave room for that
  module _ (some_slot : 1 ≤ slots_of profile) (band : ℕ) (specials : List SpecialSlot) (margin : ℕ) where
    abbrev bands : List ℕ
    bands = slot_bands (length profile) band specials

    as_long : (other : ℕ) → length (narrowed other bands) ≡ length profile
    as_long other = length_narrowed other bands ∙ length_slot_bands (length profile) band specials

    -- the least band
    abbrev top : ℕ
    top = least (slot_band bands) (slots_of profile)

    module _ (spared : margin ≤ top) (as_many : needed_terms profile rest (narrowed margin bands) ≡ needed_terms profile rest bands)
        (needs-more : suc margin ≤ top → needed_terms profile rest bands < needed_terms profile rest (narrowed (suc margin) bands)) where
      of_bands : needed_terms profile rest bands ≡ fewest_terms profile rest bands
      of_bands = needs bands (length_slot_bands (length profile) band specials)

      greatest : GreatestMargin profile rest bands margin
      greatest = record {
        spared = record { each = λ slot counts. omega (arith, least_within (slot_band bands) (slots_of profile) slot counts) };
        no_more = omega (arith, as_many, of_bands, needs (narrowed margin bands) (as_long margin));
        next_more = λ more.
            omega (arith, needs-more (least_bound (slot_band bands) (slots_of profile) (suc margin) some_slot more.each), of_bands, needs (narrowed (suc margin) bands) (as_long (suc margin)));
      }

      -- its terms are those of the walk down the windows
      pub row_first : first_synopsis profile rest bands ≡ upper_terms (suc (height (length profile))) (height (length profile)) (slot_windows (narrowed margin bands) profile) (lifted rest)
      row_first = synopsis_walked in_range some_slot greatest ∙ sym (profile_walked in_range (narrowed margin bands) (as_long margin))

      -- and their number and greatest error are computed from them
      pub row_builds : {count error : ℕ} (terms : List Term)
          → upper_terms (suc (height (length profile))) (height (length profile)) (slot_windows (narrowed margin bands) profile) (lifted rest) ≡ terms
          → length terms ≡ count → greatest_error profile rest terms ≡ error → CountAndError profile rest count error (first_synopsis profile rest bands)
      row_builds terms walked count_is error_is = rw (row_first ∙ walked) record { count_is = count_is; error_is = error_is }

  -- the least band: its terms are within the budget, and those of any narrower band are not
  pub row_least_band : {budget band : ℕ} → needed_terms profile rest (one_band profile band) ≤ budget → (0 < band → budget < needed_terms profile rest (one_band profile (band - 1))) → LeastBand profile rest budget band
  row_least_band {budget} {band} enough needs-more =
      let one : (other : ℕ) → needed_terms profile rest (one_band profile other) ≡ fewest_terms profile rest (one_band profile other) =
      λ other. needs (one_band profile other) (length_slot_bands (length profile) other []) in
      least_band_lem in_range (omega (arith, enough, one band)) (λ positive. omega (arith, needs-more positive, one (band - 1)))
