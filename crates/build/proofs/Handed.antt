-- From what was built over the tree to the first best synopsis of the profile, handed over.
use mathlib.Core.Path.{◌≡◌, sym, ap, ap₂, subst, ◌∙◌}
use mathlib.Core.Bool.{false}
use mathlib.Core.List.{List, []}
use Prim.Native.Nat.{ℕ, suc, ◌-◌, ◌≤◌, ◌<◌}
use native.Mathlib.Omega.{arith}
use lib.Dec.{T}
use lib.IntN.{ℤ}
use lib.ListN.{length, take, drop, length-map}
use Rattle.limits.proofs.Laying.{front_of, past_front}
use Rattle.bands.specs.Inner.{Least}
use Rattle.bands.proofs.Bands.{length_slot_bands}
use Rattle.histogram.specs.declared.Term.{Term}
use Rattle.histogram.specs.Tree.{height}
use Rattle.histogram.specs.Terms.{paired, nodes_of, values_of}
use Rattle.histogram.specs.Errors.{greatest_error, least_margin}
use Rattle.histogram.proofs.Paired.{paired_again}
use Rattle.claims.specs.Best.{InRange, Best, one_band}
use Rattle.claims.specs.First.{first_synopsis}
use Rattle.claims.specs.LeastBand.{LeastBand}
use Rattle.claims.specs.Inner.{lifted, fewest_terms, narrowed, Spared}
use Rattle.claims.proofs.Lifted.{lifted_within}
use Rattle.claims.proofs.Exists.{walked_terms, walked_as_few}
use Rattle.claims.proofs.First.{GreatestMargin, walked_margin, synopsis_walked, synopsis_first}
use Rattle.claims.proofs.Reduced.{one_band_lem, narrowed_none, narrowed_one_band}
use Rattle.claims.proofs.Reduced as Reduced
use Rattle.claims.proofs.Widest.{widest_needs_none}
use Rattle.subtree.specs.Answer.{terms_for}
use Rattle.subtree.specs.Stretch.{Over}
use Rattle.subtree.proofs.Rows.{profile_needs}
use Rattle.trace.specs.Trace.{Traced}
use Rattle.trace.proofs.Walked.{profile_walked}
use Rattle.build.specs.Building.{handed_over}
use Rattle.build.specs.Inner.{Searchable, GreatestWithin, Acceptable, Buildable, Kept, TreeFits, TreeBuilt, FirstBuilt}
use Rattle.build.proofs.Accepted.{none_beyond}
use Rattle.build.proofs.Trees.{profile_solvable, as_many_bands, few_needed}

module _ {terms : List Term} {nodes nodes' : List ℕ} {values values' : List ℤ} {count : ℕ} (traced : Traced terms nodes nodes' values values' count) where
  as_many_nodes : length (nodes_of terms) ≡ count
  as_many_nodes = length-map terms _ ∙ sym traced.count_is

  as_many_values : length (values_of terms) ≡ count
  as_many_values = length-map terms _ ∙ sym traced.count_is

  of_nodes : take count nodes' ≡ nodes_of terms
  of_nodes = rw traced.nodes_are (front_of (nodes_of terms) nodes count as_many_nodes)

  of_values : take count values' ≡ values_of terms
  of_values = rw traced.values_are (front_of (values_of terms) values count as_many_values)

  -- as many nodes and values are handed over as terms
  nodes_handed : length (take count nodes') ≡ count
  nodes_handed = ap (λ (list : List ℕ). length list) of_nodes ∙ as_many_nodes

  values_handed : length (take count values') ≡ count
  values_handed = ap (λ (list : List ℤ). length list) of_values ∙ as_many_values

  -- the terms that were traced are those handed over
  handed_over_lem : handed_over count nodes' values' ≡ terms
  handed_over_lem = ap₂ paired of_nodes of_values ∙ paired_again terms

  -- and past them both destinations hold what they held
  nodes_same : drop count nodes' ≡ drop count nodes
  nodes_same = rw traced.nodes_are (past_front (nodes_of terms) nodes count as_many_nodes)

  values_same : drop count values' ≡ drop count values
  values_same = rw traced.values_are (past_front (values_of terms) values count as_many_values)

module _ (profile : List ℤ) (rest : ℤ) (bands nodes : List ℕ) (values scratch : List ℤ) (buildable : Buildable profile rest bands nodes values scratch)
    (top : ℕ) (top_is : Least bands (length bands) top) where
  in_range : InRange profile rest
  in_range = buildable.acceptable.in_range

  each_band : length bands ≡ length profile
  each_band = buildable.right.each_band

  as_many : (margin : ℕ) → length (narrowed margin bands) ≡ length profile
  as_many = as_many_bands in_range bands each_band

  pub tree_fits : TreeFits top (height (length profile)) (lifted rest) profile bands nodes values scratch
  tree_fits = record {
    solvable = profile_solvable in_range bands each_band buildable.acceptable.few_slots top (record { each = top_is.none_less }) scratch buildable.acceptable.scratch_long;
    value_within = lifted_within rest in_range.rest_within;
    room = λ margin.
        omega (
          arith,
          ap (λ (terms : List Term). length terms) (profile_walked in_range (narrowed margin bands) (as_many margin)),
          walked_as_few in_range (narrowed margin bands),
          few_needed in_range bands each_band margin,
          buildable.destination_long,
        );
    same_room = sym buildable.same_length;
  }

  -- a margin that every band leaves room for is no greater than the least band
  within_top : (margin : ℕ) → Spared profile bands margin → margin ≤ top
  within_top margin spared = omega (arith, spared.each top_is.slot (omega (arith, top_is.within, each_band)), top_is.is_its_band)

  module _ (nodes' : List ℕ) (values' : List ℤ) (count margin : ℕ)
      (built : TreeBuilt top (height (length profile)) (lifted rest) profile bands nodes nodes' values values' count margin) where
    needs : (other : ℕ) → terms_for (narrowed other bands) (height (length profile)) profile (lifted rest) ≡ fewest_terms profile rest (narrowed other bands)
    needs other = profile_needs in_range (narrowed other bands) (as_many other)

    -- with no margin the bands are as they are
    fewest_are : fewest_terms profile rest (narrowed 0 bands) ≡ fewest_terms profile rest bands
    fewest_are = ap (fewest_terms profile rest) (narrowed_none bands)

    -- its least margin is the greatest that needs no more terms than none
    greatest : GreatestMargin profile rest bands margin
    greatest = record {
      spared = record { each = λ slot counts. omega (arith, top_is.none_less slot (omega (arith, each_band)), built.greatest.within_top) };
      no_more = omega (arith, built.greatest.enough, needs margin, needs 0, fewest_are);
      next_more = λ spared. omega (arith, built.greatest.next_not (omega (arith, within_top (suc margin) spared)), needs (suc margin), needs 0, fewest_are);
    }

    terms_walked : handed_over count nodes' values' ≡ walked_terms in_range (narrowed margin bands)
    terms_walked = handed_over_lem built.traced ∙ profile_walked in_range (narrowed margin bands) (as_many margin)

    terms_are : handed_over count nodes' values' ≡ first_synopsis profile rest bands
    terms_are = terms_walked ∙ sym (synopsis_walked in_range buildable.some_slot greatest)

    -- a best synopsis keeps the bands, and can be judged
    pub kept : Kept profile rest bands margin (take count nodes') (take count values')
    kept =
        let best = subst (Best profile rest bands) (sym terms_are) (synopsis_first in_range buildable.some_slot bands).best in
        record {
          judgeable = record {
            same_length = nodes_handed built.traced ∙ sym (values_handed built.traced);
            some_slot = buildable.some_slot;
            few_slots = buildable.acceptable.few_slots;
            each_band = each_band;
            bands_within = buildable.right.bands_within;
            rest_within = in_range.rest_within;
            terms_valid = best.synopsis.valid;
            none_beyond = rw (none_beyond profile rest buildable.right.values_right) tt;
          };
          keeps = best.synopsis.keeps;
          margin_is = ap (λ (terms : List Term). least_margin profile rest terms bands) terms_walked ∙ walked_margin in_range buildable.some_slot greatest;
        }

    pub first_built : (error : ℕ) → error ≡ greatest_error profile rest (handed_over count nodes' values')
        → FirstBuilt profile rest bands (record { count = count; error = error }) nodes nodes' values values'
    first_built error error_is = record {
      terms_are = terms_are;
      count_is = built.traced.count_is ∙ ap (λ (terms : List Term). length terms) (sym (handed_over_lem built.traced));
      error_is = error_is;
      nodes_past = nodes_same built.traced;
      values_past = values_same built.traced;
    }

-- ---- the least band

module _ (profile : List ℤ) (rest : ℤ) (budget : ℕ) (scratch : List ℤ) (acceptable : Acceptable profile rest scratch) where
  abbrev near : InRange profile rest
  near = acceptable.in_range

  as_long : (band : ℕ) → length (one_band profile band) ≡ length profile
  as_long band = length_slot_bands (length profile) band []

  widest_over : Over 40000 (one_band profile 40000)
  widest_over = record { each = λ slot inside. omega (arith, one_band_lem profile 40000 slot (omega (arith, as_long 40000))) }

  -- the terms for a margin of 40,000 are those for the band that it leaves
  needs_left : (margin : ℕ) → terms_for (narrowed margin (one_band profile 40000)) (height (length profile)) profile (lifted rest) ≡ fewest_terms profile rest (one_band profile (40000 - margin))
  needs_left margin =
      profile_needs near (narrowed margin (one_band profile 40000)) (as_many_bands near (one_band profile 40000) (as_long 40000) margin) ∙ narrowed_one_band profile rest 40000 margin

  pub tree_searchable : Searchable 40000 (height (length profile)) (lifted rest) budget false profile (one_band profile 40000) scratch
  tree_searchable = record {
    solvable = profile_solvable near (one_band profile 40000) (as_long 40000) acceptable.few_slots 40000 widest_over scratch acceptable.scratch_long;
    enough = omega (arith, needs_left 0, widest_needs_none near);
    in_scratch = λ wrong. absurd (subst T (sym wrong) tt);
  }

  pub least_found : (margin : ℕ) → GreatestWithin 40000 (height (length profile)) (lifted rest) budget profile (one_band profile 40000) margin → LeastBand profile rest budget (40000 - margin)
  least_found margin greatest =
      Reduced.least_band_lem near (omega (arith, greatest.enough, needs_left margin))
      (λ some.
      let next : 40000 - suc margin ≡ 40000 - margin - 1 = omega arith in
      subst (λ (band : ℕ). budget < fewest_terms profile rest (one_band profile band)) next (omega (arith, greatest.next_not (omega arith), needs_left (suc margin))))
