-- Of a profile of a slot or more and a rest value within range, and a band for each slot, there is a first best synopsis: the walk's for the bands less the greatest margin that needs no more terms.
-- Every best synopsis keeps these too, with as few terms, so that the theory compares them: `walked_first`.
use mathlib.Core.Path.{◌≡◌, refl, sym, ◌∙◌}
use mathlib.Core.Bool.{not}
use mathlib.Core.Logic.{⊎_elim}
use mathlib.Core.List.{List, [], ◌∷◌}
use Prim.Native.Nat.{ℕ, zero, suc, ◌≤◌, ◌<◌}
use native.Mathlib.Decide.{dec_le}
use native.Mathlib.Omega.{arith}
use lib.Dec.{T, lt→ltb}
use lib.IntN.{ℤ, pos, negsuc, nat_abs}
use lib.ListN.{length}
use lib.Signed.{lt_z}
use mir.Facts.{yes_and}
use borrow.Author.Tests.{le-ltb}
use Rattle.limits.proofs.Tests.{either_first, either_second}
use Rattle.histogram.specs.declared.Term.{Term}
use Rattle.histogram.specs.Errors.{slots_of, slot_band, least, least_margin}
use Rattle.histogram.proofs.Ascent.{ValidFrom, first_within, rest_valid}
use Rattle.histogram.proofs.Margins.{least_within, least_bound}
use Rattle.fewest.specs.Terms.{Leads}
use Rattle.claims.specs.Best.{InRange, KeepingSynopsis, Best}
use Rattle.claims.specs.First.{comes_before, in_order, First, first_synopsis}
use Rattle.claims.specs.Inner.{lifted, term_node, term_value, fewest_terms, narrowed, Spared}
use Rattle.claims.proofs.InOrder.{lower_node, lower_value, not_lower}
use Rattle.claims.proofs.Chosen.{first_is}
use Rattle.claims.proofs.Exists.{walked_terms, walked_keeps, walked_as_few, walked_leads}
use Rattle.claims.proofs.Reduced.{wider_bands, narrowed_band, synopsis_needs, keeps_wider, has_margin, keeps_narrowed, no_greater_margin}

-- values lifted compare as they did
lower_lifted : (x y : ℤ) → lifted x < lifted y → T (lt_z x y)
lower_lifted (pos a) (pos b) lower = lt→ltb a b (omega arith)
lower_lifted (pos a) (negsuc b) lower = absurd (omega arith)
lower_lifted (negsuc a) (pos b) lower = tt
lower_lifted (negsuc a) (negsuc b) lower = lt→ltb b a (omega arith)

-- and so do equal ones within ±20,000
same_lifted : (x y : ℤ) → nat_abs x ≤ 20000 → nat_abs y ≤ 20000 → lifted x ≡ lifted y → T (not (lt_z y x))
same_lifted (pos a) (pos b) x-within y-within same = rw (le-ltb b a (omega arith)) tt
same_lifted (pos a) (negsuc b) x-within y-within same = absurd (omega arith)
same_lifted (negsuc a) (pos b) x-within y-within same = tt
same_lifted (negsuc a) (negsuc b) x-within y-within same = rw (le-ltb a b (omega arith)) tt

-- a valid list that leads another in the theory comes before it or is the same
leads_in_order : {last end others-last others-end : ℕ} (terms others : List Term) → ValidFrom last end terms → ValidFrom others-last others-end others
    → Leads term_node term_value terms others → T (in_order terms others)
unfolding Leads in_order
leads_in_order [] others valid others-valid leads = tt
leads_in_order (term ∷ terms) [] valid others-valid leads = leads
leads_in_order (term ∷ terms) (other ∷ others) valid others-valid leads =
    let decides : T (comes_before term other) → T (in_order (term ∷ terms) (other ∷ others)) = either_first (comes_before term other) _ in
    ⊎_elim
    (λ lower. decides (lower_node term other lower))
    (λ level.
    ⊎_elim
    (λ lower. decides (lower_value term other level.0 (lower_lifted term.value other.value lower)))
    (λ same. either_second (comes_before term other) _
    (yes_and (not (comes_before other term)) _
    (not_lower term other level.0 (same_lifted term.value other.value (first_within valid) (first_within others-valid) same.0))
    (leads_in_order terms others (rest_valid valid) (rest_valid others-valid) same.1)))
    level.1)
    leads

-- a margin with which the fewest terms are no more, where with one more they are
pub record GreatestMargin (profile : List ℤ) (rest : ℤ) (bands : List ℕ) (margin : ℕ) : Type 0 where
  pub spared : Spared profile bands margin
  pub no_more : fewest_terms profile rest (narrowed margin bands) ≤ fewest_terms profile rest bands
  pub next_more : Spared profile bands (suc margin) → fewest_terms profile rest bands < fewest_terms profile rest (narrowed (suc margin) bands)

module _ {profile : List ℤ} {rest : ℤ} (in_range : InRange profile rest) (some_slot : 1 ≤ slots_of profile) where
  module _ {bands : List ℕ} {margin : ℕ} (greatest : GreatestMargin profile rest bands margin) where
    -- the walk's list for the bands less that margin
    abbrev walked_list : List Term
    walked_list = walked_terms in_range (narrowed margin bands)

    keeps_narrow : KeepingSynopsis profile rest (narrowed margin bands) walked_list
    keeps_narrow = walked_keeps in_range (narrowed margin bands)

    -- has the fewest terms for the bands themselves
    as_few : length walked_list ≡ fewest_terms profile rest bands
    as_few =
        omega (
          arith,
          walked_as_few in_range (narrowed margin bands),
          greatest.no_more,
          wider_bands profile rest (narrowed margin bands) bands (λ slot counts. omega (arith, narrowed_band margin bands slot)),
        )

    -- no synopsis as short has a greater least margin
    margin_at_most : (other : List Term) → KeepingSynopsis profile rest bands other → length other ≡ length walked_list → least_margin profile rest other bands ≤ margin
    margin_at_most other keeping as_many = no_greater_margin in_range keeping margin (λ spared. omega (arith, as_many, as_few, greatest.next_more spared))

    -- so its least margin is that margin
    pub walked_margin : least_margin profile rest walked_list bands ≡ margin
    walked_margin =
        omega (arith, has_margin in_range margin some_slot greatest.spared keeps_narrow, margin_at_most walked_list (keeps_wider in_range margin keeps_narrow) refl)

    walked_best : Best profile rest bands walked_list
    walked_best = record {
      synopsis = keeps_wider in_range margin keeps_narrow;
      fewest = λ other keeping. omega (arith, as_few, synopsis_needs in_range keeping);
      greatest_margin = λ other keeping as_many. omega (arith, walked_margin, margin_at_most other keeping as_many);
    }

    -- every best synopsis is as short and has that margin too, so the walk's leads it
    best_led : (other : List Term) → Best profile rest bands other → Leads term_node term_value walked_list other
    best_led other best =
        let as_many : length other ≡ length walked_list = omega (arith, best.fewest walked_list walked_best.synopsis, walked_best.fewest other best.synopsis) in
        let as_wide = best.greatest_margin walked_list walked_best.synopsis (sym as_many) in
        walked_leads in_range (narrowed margin bands) other (keeps_narrowed in_range best.synopsis (omega (arith, as_wide, walked_margin))) (as_many ∙ walked_as_few in_range (narrowed margin bands))

    -- the walk's list for the greatest margin that needs no more terms is the first of the best synopses
    walked_first : First profile rest bands walked_list
    walked_first = record {
      best = walked_best;
      first = λ other best. leads_in_order walked_list other (record { passes = walked_best.synopsis.valid }) (record { passes = best.synopsis.valid }) (best_led other best);
    }

    -- so it is `first_synopsis`
    pub synopsis_walked : first_synopsis profile rest bands ≡ walked_list
    synopsis_walked = first_is walked_first

  module _ (bands : List ℕ) where
    -- such a margin is found by going down from one that no band leaves more room for
    margin_from : (margin : ℕ) → Spared profile bands margin → (Spared profile bands (suc margin) → fewest_terms profile rest bands < fewest_terms profile rest (narrowed (suc margin) bands))
        → (found : ℕ) × GreatestMargin profile rest bands found
    margin_from zero spared next_more = (
      0,
      record {
        spared = spared;
        no_more = wider_bands profile rest bands (narrowed 0 bands) (λ slot counts. omega (arith, narrowed_band 0 bands slot));
        next_more = next_more;
      },
    )
    margin_from (suc margin) spared next_more =
        split (dec_le (fewest_terms profile rest (narrowed (suc margin) bands)) (fewest_terms profile rest bands))
        (margin_from margin (record { each = λ slot counts. omega (arith, spared.each slot counts) }))
      where
        split : Dec (fewest_terms profile rest (narrowed (suc margin) bands) ≤ fewest_terms profile rest bands)
            → ((Spared profile bands (suc margin) → fewest_terms profile rest bands < fewest_terms profile rest (narrowed (suc margin) bands)) → (found : ℕ) × GreatestMargin profile rest bands found)
            → (found : ℕ) × GreatestMargin profile rest bands found
        split (yes no_more) lower = (suc margin, record { spared = spared; no_more = no_more; next_more = next_more })
        split (no more) lower = lower (λ _. omega (arith, more))

    -- the least band leaves room for itself and for no more
    abbrev top : ℕ
    top = least (slot_band bands) (slots_of profile)

    found_margin : (found : ℕ) × GreatestMargin profile rest bands found
    found_margin =
        margin_from top (record { each = λ slot counts. least_within (slot_band bands) (slots_of profile) slot counts })
        (λ spared. absurd (omega (arith, least_bound (slot_band bands) (slots_of profile) (suc top) some_slot spared.each)))

    -- `first_synopsis` is the first of the best synopses
    pub synopsis_first : First profile rest bands (first_synopsis profile rest bands)
    synopsis_first = rw (synopsis_walked found_margin.1) (walked_first found_margin.1)
