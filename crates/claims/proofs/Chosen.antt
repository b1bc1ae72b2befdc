-- The first best synopsis is the one that `first_synopsis` selects: `first_is`.
-- `keeping_synopses` has exactly the synopses that keep the bands, `best_synopses` exactly the best ones, and of these the foremost in order is exactly the first.
use mathlib.Core.Path.{◌≡◌, refl}
use mathlib.Core.List.Memᴰ
use mathlib.Core.List.{List, [], ◌∷◌, Memᴰ}
use Prim.Native.Nat.{ℕ}
use native.Mathlib.Omega.{arith}
use lib.Ieee.Bits.{is_true}
use lib.IntN.{ℤ}
use lib.ListN.{length}
use Rattle.histogram.specs.declared.Term.{Term}
use Rattle.histogram.specs.Errors.{least_margin, kept}
use Rattle.histogram.proofs.Kept.{kept_keeps, keeps_kept}
use Rattle.claims.specs.Best.{KeepingSynopsis, Best}
use Rattle.claims.specs.First.{in_order, First, all_synopses, foremost, first_of, keeping_synopses, best_synopses, first_synopsis}
use Rattle.claims.proofs.InOrder.{first_only}
use Rattle.claims.proofs.Enumerated.{synopses_exactly}
use Rattle.claims.proofs.Selected.{Exactly, those_exactly, foremost_exactly, least_exactly, greatest_exactly}

-- the first of some lists, all of which are the same
first_of_same : {terms : List Term} (lists : List (List Term)) → Memᴰ terms lists → ((other : List Term) → Memᴰ other lists → other ≡ terms) → first_of lists ≡ terms
first_of_same [] among same = absurd (Memᴰ.not-nil among)
first_of_same (first ∷ others) among same = same first (Memᴰ.head refl)

module _ (profile : List ℤ) (rest : ℤ) (bands : List ℕ) where
  -- `keeping_synopses` has exactly the synopses that keep the bands
  pub keeping_exactly : Exactly (keeping_synopses profile rest bands) (KeepingSynopsis profile rest bands)
  keeping_exactly =
      let synopses = synopses_exactly (length profile) in
      let selection = those_exactly (λ (terms : List Term). kept profile rest terms bands) (all_synopses (length profile)) in
      record {
        has = λ terms synopsis.
            selection.has terms (synopses.has terms synopsis.valid, rw (keeps_kept profile rest terms bands synopsis.keeps) tt);
        only = λ terms among.
            let found = selection.only terms among in
            record { valid = synopses.only terms found.0; keeps = kept_keeps profile rest terms bands (is_true _ found.1) };
      }

  -- `best_synopses` has exactly the best ones
  pub best_exactly : Exactly (best_synopses profile rest bands) (Best profile rest bands)
  best_exactly =
      let selection = greatest_exactly (λ (terms : List Term). least_margin profile rest terms bands) (least_exactly length keeping_exactly) in
      record {
        has = λ terms best. selection.has terms (record {
          holds = record { holds = best.synopsis; no_greater = best.fewest };
          no_smaller = λ other small.
              best.greatest_margin other small.holds (omega (arith, best.fewest other small.holds, small.no_greater terms best.synopsis));
        });
        only = λ terms among.
            let close = selection.only terms among in
            record {
              synopsis = close.holds.holds;
              fewest = close.holds.no_greater;
              greatest_margin = λ other synopsis as_many.
                  close.no_smaller other (record { holds = synopsis; no_greater = λ another keeps. omega (arith, as_many, close.holds.no_greater another keeps) });
            };
      }

-- the first best synopsis is the one that is selected
pub first_is : {profile : List ℤ} {rest : ℤ} {bands : List ℕ} {terms : List Term} → First profile rest bands terms → first_synopsis profile rest bands ≡ terms
unfolding first_synopsis
first_is {profile} {rest} {bands} {terms} is-first =
    let selection = foremost_exactly in_order (best_exactly profile rest bands) in
    first_of_same (foremost in_order (best_synopses profile rest bands))
    (selection.has terms (record { holds = is-first.best; against = is-first.first }))
    (λ other among. let found = selection.only other among in first_only (record { best = found.holds; first = found.against }) is-first)
