-- The walk that writes the special slots among bands one after another: `Entries` for the slots whose band is not the common one.
use mathlib.Core.Path.{◌≡◌, refl, sym, ap, ◌∙◌}
use mathlib.Core.List.{List, [], ◌∷◌}
use Prim.Native.Nat.{ℕ, ◌+◌, ◌*◌, ◌≤◌, ◌<◌}
use native.Mathlib.Omega.{arith}
use lib.ListN.{length, get_or}
use Rattle.bands.specs.declared.SpecialSlot.{SpecialSlot}
use Rattle.bands.specs.Bands.{specials_among}
use Rattle.bands.proofs.Among.{among_from, special_here, common_here, none_left}
use Rattle.bits.specs.Bits.{bits, bits_of, replaced_at}
use Rattle.bits.proofs.Bytes.{length_bits_of}
use Rattle.bits.proofs.Fields.{length_bits}
use Rattle.bits.proofs.Replacing.{replaced_both}
use Rattle.record.specs.Layout.{layout_width, entries_bits}
use Rattle.record.specs.Record.{special_layout, special_count_width, version_for, specials_bits, terms_end}
use Rattle.record.proofs.Ends.{end_of_second}
use Rattle.record.proofs.Specials.{version_of_some}
use Rattle.record_write.specs.Inner.{SpecialsFit, EntryPut}
use Rattle.record_write.proofs.Entries.{first_written, none_to_write}

-- the special slots before `slot` are written: the others, written from `place` on, give what all of them give from `first` on
pub record WrittenUpTo (first common : ℕ) (bands before now : List ℕ) (place slot : ℕ) : Type 0 where
  pub inside : slot ≤ length bands
  pub near : place ≤ first + layout_width special_layout * slot
  pub room : place + layout_width special_layout * length (among_from common bands slot) ≤ 8 * length before
  pub same_length : length now ≡ length before
  pub others_to_come : replaced_at place (entries_bits special_layout (among_from common bands slot)) (bits_of now)
      ≡ replaced_at first (entries_bits special_layout (specials_among common bands)) (bits_of before)

module _ (first common : ℕ) (bands before : List ℕ) where
  module _ {now : List ℕ} {place slot : ℕ} (so_far : WrittenUpTo first common bands before now place slot) (more : slot < length bands) where
    -- the special slot here, and those behind it
    abbrev here : SpecialSlot
    here = record { slot = slot; band = get_or bands slot 0 }

    pub room_for_one : (get_or bands slot 0 ≡ common → ⊥) → place + layout_width special_layout ≤ 8 * length before
    room_for_one own = omega (arith, ap length (special_here common bands slot more own), so_far.room)

    pub one_more_written : {after : List ℕ} {next : ℕ} → (get_or bands slot 0 ≡ common → ⊥) → length after ≡ length now → EntryPut special_layout here place next now after
        → WrittenUpTo first common bands before after next (slot + 1)
    one_more_written own as_long put =
        let within : place ≤ length (bits_of now) = omega (arith, room_for_one own, so_far.same_length, length_bits_of now) in
        record {
          inside = omega arith;
          near = omega (arith, so_far.near, put.next_is);
          room = omega (arith, ap length (special_here common bands slot more own), so_far.room, put.next_is);
          same_length = as_long ∙ so_far.same_length;
          others_to_come =
              first_written special_layout here (among_from common bands (slot + 1)) within put
              ∙ ap (λ specials. replaced_at place (entries_bits special_layout specials) (bits_of now)) (sym (special_here common bands slot more own))
              ∙ so_far.others_to_come;
        }

    pub none_here : get_or bands slot 0 ≡ common → WrittenUpTo first common bands before now place (slot + 1)
    none_here same =
        let left = common_here common bands slot more same in
        record {
          inside = omega arith;
          near = omega (arith, so_far.near);
          room = rw left at so_far.room;
          same_length = so_far.same_length;
          others_to_come = rw left at so_far.others_to_come;
        }

  pub all_written : {now : List ℕ} {place slot : ℕ} → WrittenUpTo first common bands before now place slot → length bands ≤ slot
      → bits_of now ≡ replaced_at first (entries_bits special_layout (specials_among common bands)) (bits_of before)
  all_written {now} {place} {slot} so_far done =
      sym (none_to_write special_layout place (bits_of now)) ∙ rw (none_left common bands slot done) at so_far.others_to_come

-- ---- with their count

-- their count, and then they behind it
pub count_and_specials : (place : ℕ) (specials : List SpecialSlot) (before counted after : List ℕ) → (length specials ≡ 0 → ⊥) → place ≤ length before
    → counted ≡ replaced_at place (bits special_count_width (length specials)) before → after ≡ replaced_at (place + special_count_width) (entries_bits special_layout specials) counted
    → after ≡ replaced_at place (specials_bits specials) before
count_and_specials place [] before counted after some within count_is are = absurd (some refl)
count_and_specials place (special ∷ specials) before counted after some within count_is are =
    let all : List SpecialSlot = special ∷ specials in
    are
    ∙ ap (replaced_at (place + special_count_width) (entries_bits special_layout all)) count_is
    ∙ replaced_both place (place + special_count_width) (bits special_count_width (length all)) (entries_bits special_layout all) before within
    (omega (arith, length_bits special_count_width (length all)))

-- a record with special slots has room for them behind its terms
pub room_for_all : {terms common specials : ℕ} {bands bytes : List ℕ} → SpecialsFit terms common bands specials bytes → (specials ≡ 0 → ⊥)
    → terms_end terms + special_count_width + layout_width special_layout * specials ≤ 8 * length bytes
room_for_all {terms} {common} {specials} fits some = omega (arith, fits.fill_fits.just_room, end_of_second (version_for specials) terms specials (version_of_some specials some))
