-- Special slots behind the terms: how long their bits are, and both round trips, from those of any field and of any list of entries.
use mathlib.Core.Path.{◌≡◌, refl, sym, ap, ap₂, ◌∙◌}
use mathlib.Core.Bool.{Bool, true, false, not, ◌&&◌, ◌||◌, false≢true}
use mathlib.Core.List.{List, [], ◌∷◌, ◌++◌, append_assoc}
use Prim.Native.Nat.{ℕ, zero, suc, ◌+◌, ◌*◌, ◌^◌, ◌≤◌, ◌<◌}
use native.Mathlib.Omega.{arith}
use lib.Dec.{eqb}
use lib.ListN.{length, get_or, drop, length-append}
use borrow.Author.Tests.{eqb-true, eqb-false, ne_eqb}
use Rattle.bands.specs.declared.SpecialSlot.{SpecialSlot}
use Rattle.bands.proofs.Right.{RightFrom, first_below, first_within, rest_right}
use Rattle.bits.specs.Bits.{bits, bits_of, field_at}
use Rattle.bits.specs.Inner.{Below}
use Rattle.bits.proofs.Numbers.{nil_below, append_below}
use Rattle.bits.proofs.Fields.{length_bits, bits_below}
use Rattle.record.specs.Layout.{layout_width, layout_bits, layout_numbers, held, entries_bits, entries_from}
use Rattle.record.specs.Record.{special_layout, special_count_width, version_for, specials_bits, terms_end, specials_width, version_in, count_in, special_count_in, special_in, specials_in, end_in, known_version}
use Rattle.record.proofs.Ends.{end_of_second, end_of_other}
use Rattle.record.proofs.Layouts.{no_row, row, layout_reads_back, field_reads_back, behind_field, field_in_front}
use Rattle.record.proofs.Entries.{length_entries, entries_below, length_from, ReadsBack, AllReadBack, none_left, and_more, entries_read_back, entries_are_written}

-- ---- how long the bits are, and that they are bits

pub length_specials : (specials : List SpecialSlot) → length (specials_bits specials) ≡ specials_width (version_for (length specials)) (length specials)
length_specials [] = refl
length_specials (special ∷ specials) =
    let all : List SpecialSlot = special ∷ specials in
    length-append (bits special_count_width (length all)) (entries_bits special_layout all)
    ∙ ap₂ (λ (a b : ℕ). a + b) (length_bits special_count_width (length all)) (length_entries special_layout all)

pub specials_below : (specials : List SpecialSlot) → Below 2 (specials_bits specials)
specials_below [] = nil_below (omega arith)
specials_below (special ∷ specials) =
    append_below _ _ (bits_below special_count_width (length (special ∷ specials))) (entries_below special_layout (special ∷ specials))

-- ---- the version by how many special slots there are

-- it is a known one, and version 2 has special slots
pub version_known : (specials : ℕ) → known_version (version_for specials) ≡ true
version_known zero = refl
version_known (suc more) = refl

pub version_fits : (specials : ℕ) → version_for specials < 2 ^ 4
version_fits zero = omega arith
version_fits (suc more) = omega arith

pub some_in_second : (specials : ℕ) → not (eqb (version_for specials) 2 && eqb specials 0) ≡ true
some_in_second zero = refl
some_in_second (suc more) = rw (ne_eqb (suc more) 0 (λ same. omega arith))

pub version_of_some : (specials : ℕ) → (specials ≡ 0 → ⊥) → version_for specials ≡ 2
version_of_some zero some = absurd (some refl)
version_of_some (suc more) some = refl

-- ---- what is written reads back

-- a special slot that fits its fields reads back
pub special_reads_back : (special : SpecialSlot) → special.slot < 2 ^ 9 → special.band < 2 ^ 16 → ReadsBack special_layout special_in special
special_reads_back special slot-fits band_fits = record { reads = there }
  where
    there : (place : ℕ) (bytes back : List ℕ) → drop place (bits_of bytes) ≡ layout_bits special_layout special ++ back → special_in place bytes ≡ special
    there place bytes back stands =
        let numbers : layout_numbers special_layout place bytes ≡ held special_layout special =
        layout_reads_back special special_layout place bytes back (row slot-fits (row band_fits no_row)) stands in
        λ i. record { slot = get_or (numbers i) 0 0; band = get_or (numbers i) 1 0 }

-- right special slots fit their fields
pub right_fit : {first n common : ℕ} (specials : List SpecialSlot) → n ≤ 512 → RightFrom first n common specials → AllReadBack special_layout special_in specials
right_fit [] few right = none_left
right_fit (special ∷ specials) few right =
    and_more (special_reads_back special (omega (arith, first_below right)) (omega (arith, first_within right))) (right_fit specials few (rest_right right))

module _ (bytes back : List ℕ) where
  -- special slots that are written behind the terms, and followed by anything, are read there
  pub specials_read_back : (specials : List SpecialSlot) → length specials < 2 ^ special_count_width → AllReadBack special_layout special_in specials → version_in bytes ≡ version_for (length specials)
      → drop (terms_end (count_in bytes)) (bits_of bytes) ≡ specials_bits specials ++ back → (special_count_in bytes ≡ length specials) × (specials_in bytes ≡ specials)
  unfolding entries_from
  specials_read_back [] few fit version stand = (rw version, rw version)
  specials_read_back (special ∷ specials) few fit version stand =
      let all : List SpecialSlot = special ∷ specials in
      let place : ℕ = terms_end (count_in bytes) in
      let count_stands : drop place (bits_of bytes) ≡ bits special_count_width (length all) ++ (entries_bits special_layout all ++ back) =
      stand ∙ append_assoc (bits special_count_width (length all)) (entries_bits special_layout all) back in
      let count_is : special_count_in bytes ≡ length all = rw version (field_reads_back bytes place special_count_width (length all) _ few count_stands) in (
        count_is,
        ap (λ (count : ℕ). entries_from special_layout special_in count (place + special_count_width) bytes) count_is
            ∙ entries_read_back special_layout special_in all (place + special_count_width) bytes back fit (behind_field place special_count_width (length all) (bits_of bytes) _ count_stands),
      )

-- ---- what is read is written again

module _ (bytes : List ℕ) where
  pub length_specials_in : length (specials_in bytes) ≡ special_count_in bytes
  length_specials_in = length_from special_layout special_in (special_count_in bytes) (terms_end (count_in bytes) + special_count_width) bytes

  -- a known version that is not "a version 2 with no special slot" is that of the special slots
  pub version_is : known_version (version_in bytes) ≡ true → not (eqb (version_in bytes) 2 && eqb (special_count_in bytes) 0) ≡ true → version_in bytes ≡ version_for (length (specials_in bytes))
  version_is known some = by_tests (eqb (version_in bytes) 1) refl (eqb (version_in bytes) 2) refl (eqb (special_count_in bytes) 0) refl known some
    where
      by_tests : (first : Bool) → eqb (version_in bytes) 1 ≡ first → (second : Bool) → eqb (version_in bytes) 2 ≡ second → (none : Bool) → eqb (special_count_in bytes) 0 ≡ none
          → (first || second) ≡ true → not (second && none) ≡ true → version_in bytes ≡ version_for (length (specials_in bytes))
      by_tests true is-first second is-second none is_none known some =
          let version : version_in bytes ≡ 1 = eqb-true (version_in bytes) 1 is-first in
          let count_is : special_count_in bytes ≡ 0 = rw version in
          version ∙ sym (ap version_for (length_specials_in ∙ count_is))
      by_tests false is-first true is-second true is_none known some = absurd (false≢true some)
      by_tests false is-first true is-second false is_none known some =
          eqb-true (version_in bytes) 2 is-second ∙ sym (version_of_some (length (specials_in bytes)) (λ (none : length (specials_in bytes) ≡ 0). eqb-false (special_count_in bytes) 0 is_none (sym length_specials_in ∙ none)))
      by_tests false is-first false is-second none is_none known some = absurd (false≢true known)

  pub specials_are_written : version_in bytes ≡ version_for (length (specials_in bytes)) → end_in bytes ≤ 8 * length bytes
      → specials_bits (specials_in bytes) ++ drop (end_in bytes) (bits_of bytes) ≡ drop (terms_end (count_in bytes)) (bits_of bytes)
  specials_are_written version inside = of (specials_in bytes) refl version
    where
      place : ℕ
      place = terms_end (count_in bytes)

      of : (specials : List SpecialSlot) → specials_in bytes ≡ specials → version_in bytes ≡ version_for (length specials)
          → specials_bits specials ++ drop (end_in bytes) (bits_of bytes) ≡ drop place (bits_of bytes)
      of [] none version = ap (λ (end : ℕ). drop end (bits_of bytes)) (end_of_other (version_in bytes) (count_in bytes) (special_count_in bytes) (λ (second : version_in bytes ≡ 2). omega (arith, second, version)))
      of (special ∷ specials) some version =
          let count : ℕ = special_count_in bytes in
          let end_is : end_in bytes ≡ place + special_count_width + layout_width special_layout * count = end_of_second (version_in bytes) (count_in bytes) count version in
          let count_is : length (special ∷ specials) ≡ count = ap length (sym some) ∙ length_specials_in in
          let count_read : count ≡ field_at bytes place special_count_width = rw version in
          rw (count_is, ← some, append_assoc, end_is, entries_are_written special_layout special_in (λ (at : ℕ) (bytes : List ℕ). refl) count (place + special_count_width) bytes (omega (arith, end_is)), count_read)
          (field_in_front bytes place special_count_width (omega (arith, end_is)))
