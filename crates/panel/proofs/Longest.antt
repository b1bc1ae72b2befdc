-- The longest record that text to record writes: `PANEL_MOST_BUILT_BYTES` of panel.h.
use mathlib.Core.Path.{◌≡◌}
use mathlib.Core.List.{List}
use Prim.Native.Nat.{ℕ, zero, suc, ◌≤◌}
use native.Mathlib.Omega.{arith}
use lib.IntN.{nat_abs}
use lib.ListN.{length}
use borrow.Author.Tests.{le-ltb}
use Rattle.limits.proofs.Refusals.{then_none}
use Rattle.bands.proofs.Bands.{few_among}
use Rattle.profile.specs.Text.{text_refusal, rest_of, band_of, setpoints_of, bands_of, specials_of}
use Rattle.histogram.proofs.Powers.{padded_bound}
use Rattle.record.specs.Record.{record_length}
use Rattle.claims.proofs.First.{synopsis_first}
use Rattle.build.proofs.Accepted.{profile_accepted}
use Rattle.build.proofs.FewTerms.{best_few}
use Rattle.panel.specs.Results.{synopsis_of, text_record_length, text_to_record_refusal}
use Rattle.panel.proofs.Texts.{known_profile}

-- 512 terms and 512 special slots take 3,273 bytes, and fewer no more
pub length_bound : (terms specials : ℕ) → terms ≤ 512 → specials ≤ 512 → record_length terms specials ≤ 3273
length_bound terms zero few_terms few_specials = omega arith
length_bound terms (suc more) few_terms few_specials = omega arith

-- the synopsis of a text has at most 512 terms, and the text at most 512 special slots
pub longest_record : (text : List ℕ) → text_refusal text ≡ 0 → text_record_length text ≤ 3273
longest_record text right =
    let known = (known_profile text right).right in
    let accepted = profile_accepted (setpoints_of text) (rest_of text) known.values_right in
    let best = (synopsis_first accepted.in_range accepted.slots.some_slot (bands_of text)).best in
    length_bound (length (synopsis_of text)) (length (specials_of text))
    (omega (arith, best_few accepted.in_range known.each_band best, padded_bound accepted.slots.few_slots))
    (omega (arith, few_among (nat_abs (band_of text)) (bands_of text), known.each_band, accepted.slots.few_slots))

-- with 3,273 bytes or more for the record there is no 6: what is refused is the text
pub longest_fits : (text : List ℕ) (places : ℕ) → 3273 ≤ places → text_to_record_refusal text places ≡ text_refusal text
longest_fits text places long =
    then_none (text_refusal text) λ right. rw (le-ltb places (text_record_length text) (omega (arith, longest_record text right)))
