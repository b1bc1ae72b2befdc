-- The loop over the slots' lines. Its invariant (`SoFar`): the slots of the lines before `at`, with those of the lines from there on, are all of them,
-- and their setpoints and bands are laid over the two rooms.
use mathlib.Core.Path.{◌≡◌, refl, sym, ap, ap₂, ◌∙◌}
use mathlib.Core.Bool.{Bool, true, false, cond}
use mathlib.Core.List.{List, [], ◌∷◌, ◌++◌, map, append-nil, append_assoc, map-append}
use Prim.Native.Nat.{ℕ, zero, suc, ◌+◌, ◌-◌, ◌≤◌, ◌<◌}
use native.Mathlib.Omega.{arith}
use lib.Dec.{eqb}
use lib.IntN.{ℤ, pos, nat_abs}
use lib.ListN.{length, set, drop, length-append, length-map, drop_of_length-le}
use lib.Seq.{drop-cons}
use borrow.Author.Tests.{eq-eqb, ne_eqb}
use Rattle.std.specs.Prelude.{Ok, Err}
use Rattle.limits.specs.Answers.{◌then◌, granted, laid}
use Rattle.limits.proofs.Laying.{laid_more}
use Rattle.refusals.specs.declared.Refusal.{Refusal}
use Rattle.refusals.specs.declared.Refusal.TheVariants.{SlotsBeyond}
use Rattle.refusals.specs.Rows.{row}
use Rattle.refusals.proofs.Rows.{row_first, row_nothing}
use Rattle.bands.specs.declared.SpecialSlot.{SpecialSlot}
use Rattle.bands.specs.Bands.{specials_from, specials_among}
use Rattle.bands.proofs.Bands.{few_among}
use Rattle.decimal.specs.Answers.{number_or}
use Rattle.profile.specs.declared.line.SlotLine.{SlotLine}
use Rattle.profile.specs.Text.{Slot, is_empty, following, no_slot, line_slot, read_refusal, slot_line_refusal, slots_refusal, slots_read}
use Rattle.profile.specs.Inner.{SlotRead, setpoints_in, bands_in, SlotsRead}

-- a text that has a byte at `at`
pub some_byte : (text : List ℕ) (at : ℕ) → at < length text → is_empty (drop at text) ≡ false
some_byte text at more = rw (drop-cons text at 0 more)

no_refusal : (common : ℤ) (room : ℕ) → slots_refusal common room [] ≡ 0
unfolding slots_refusal
no_refusal common zero = refl
no_refusal common (suc room) = refl

pub none_read : (common : ℤ) (room : ℕ) → slots_read common room [] ≡ []
unfolding slots_read
none_read common zero = refl
none_read common (suc room) = refl

-- one band more: it makes a special slot, or it is the common one
specials_more : (common slot : ℕ) (bands : List ℕ) (band : ℕ)
    → length (specials_from slot common (bands ++ (band ∷ []))) ≡ length (specials_from slot common bands) + cond (eqb band common) 0 1
unfolding specials_from
specials_more common slot [] band = by_band (eqb band common)
  where
    by_band : (same : Bool) → length {A = SpecialSlot} (cond same [] (record { slot = slot; band = band } ∷ [])) ≡ 0 + cond same 0 1
    by_band true = refl
    by_band false = refl
specials_more common slot (first ∷ bands) band = by_first (eqb first common) (specials_more common (suc slot) bands band)
  where
    by_first : (same : Bool)
        → length (specials_from (suc slot) common (bands ++ (band ∷ []))) ≡ length (specials_from (suc slot) common bands) + cond (eqb band common) 0 1
        → length (cond same (specials_from (suc slot) common (bands ++ (band ∷ []))) (record { slot = slot; band = first } ∷ specials_from (suc slot) common (bands ++ (band ∷ []))))
        ≡ length (cond same (specials_from (suc slot) common bands) (record { slot = slot; band = first } ∷ specials_from (suc slot) common bands)) + cond (eqb band common) 0 1
    by_first true shorter = shorter
    by_first false shorter = omega arith

module _ (common : ℕ) (text : List ℕ) (from : ℕ) (setpoints setpoints' : List ℤ) (bands bands' : List ℕ) (at count specials : ℕ) where
  pub record SoFar : Type 0 where
    pub done : List Slot
    pub count_is : count ≡ length done
    pub specials_is : specials ≡ length (specials_among common (bands_in done))
    pub few : count ≤ 512
    pub in_text : at ≤ length text
    pub refusal_is : slots_refusal (pos common) 512 (drop from text) ≡ slots_refusal (pos common) (512 - count) (drop at text)
    pub slots_are : slots_read (pos common) 512 (drop from text) ≡ done ++ slots_read (pos common) (512 - count) (drop at text)
    pub setpoints_are : setpoints' ≡ laid (setpoints_in done) setpoints
    pub bands_are : bands' ≡ laid (bands_in done) bands

pub nothing_read : (common : ℕ) (text : List ℕ) (from : ℕ) (setpoints : List ℤ) (bands : List ℕ) → from ≤ length text → SoFar common text from setpoints setpoints bands bands from 0 0
unfolding specials_from
nothing_read common text from setpoints bands within = record {
  done = [];
  count_is = refl;
  specials_is = refl;
  few = omega arith;
  in_text = within;
  refusal_is = refl;
  slots_are = refl;
  setpoints_are = refl;
  bands_are = refl;
}

-- the list of one more slot's numbers, laid by one store
stored : {A : Type 0} (number : Slot → A) (done : List Slot) (slot : Slot) (before now : List A) (count : ℕ) → now ≡ laid (map number done) before → count ≡ length done
    → count < length before → set now count (number slot) ≡ laid (map number (done ++ (slot ∷ []))) before
stored {A} number done slot before now count is counted room =
    ap₂ (λ (l : List A) (place : ℕ). set l place (number slot)) is (counted ∙ sym (length-map done number))
    ∙ laid_more (map number done) before (number slot) (omega (arith, length-map done number))
    ∙ ap (λ (l : List A). laid l before) (sym (map-append number done (slot ∷ [])))

module _ {common : ℕ} {text : List ℕ} {from : ℕ} {setpoints setpoints' : List ℤ} {bands bands' : List ℕ} {at count specials : ℕ}
    (so_far : SoFar common text from setpoints setpoints' bands bands' at count specials) where
  pub few_specials : specials ≤ 512
  few_specials =
      omega (arith, few_among common (bands_in so_far.done), length-map so_far.done (λ (slot : Slot). nat_abs slot.band), so_far.specials_is, so_far.count_is, so_far.few)

  -- nothing more is read: the slots so far are all of them
  all_done : slots_read (pos common) (512 - count) (drop at text) ≡ [] → slots_read (pos common) 512 (drop from text) ≡ so_far.done
  all_done nothing = so_far.slots_are ∙ ap (λ (slots : List Slot). so_far.done ++ slots) nothing ∙ append-nil so_far.done

  stopped : (refusal : Refusal) → row refusal ≡ slots_refusal (pos common) (512 - count) (drop at text) → slots_read (pos common) (512 - count) (drop at text) ≡ []
      → SlotsRead common text from (Err refusal) setpoints setpoints' bands bands'
  stopped refusal is nothing =
      let all = all_done nothing in
      record {
        refusal_is = is ∙ sym so_far.refusal_is;
        counts_are = tt;
        setpoints_are = rw all so_far.setpoints_are;
        bands_are = rw all so_far.bands_are;
      }

  -- the text has ended
  pub all_read : length text ≤ at → SlotsRead common text from (Ok (record { count = count; specials = specials })) setpoints setpoints' bands bands'
  all_read past =
      let ended : drop at text ≡ [] = drop_of_length-le text {i = at} past in
      let all = all_done (rw ended (none_read (pos common) (512 - count))) in
      record {
        refusal_is = sym (so_far.refusal_is ∙ rw ended (no_refusal (pos common) (512 - count)));
        counts_are = record { count_is = rw all so_far.count_is; specials_is = rw all so_far.specials_is };
        setpoints_are = rw all so_far.setpoints_are;
        bands_are = rw all so_far.bands_are;
      }

  module _ (more : at < length text) where
    -- a byte follows the 514th line
    pub too_many : count ≡ 512 → SlotsRead common text from (Err SlotsBeyond) setpoints setpoints' bands bands'
    unfolding slots_refusal slots_read
    too_many full =
        let no_room : 512 - count ≡ 0 = omega arith in
        stopped SlotsBeyond (rw (no_room, some_byte text at more)) (rw no_room)

    module _ (room : count < 512) where
      one_less : 512 - count ≡ suc (512 - (count + 1))
      one_less = omega arith

      -- what is left, by its first line
      refusal_next : slots_refusal (pos common) (512 - count) (drop at text)
          ≡ read_refusal slot_line_refusal (line_slot (pos common) (drop at text)) then slots_refusal (pos common) (512 - (count + 1)) (following (drop at text))
      unfolding slots_refusal
      refusal_next = rw (one_less, some_byte text at more)

      slots_next : slots_read (pos common) (512 - count) (drop at text)
          ≡ granted (read_refusal slot_line_refusal (line_slot (pos common) (drop at text)))
          (number_or no_slot (line_slot (pos common) (drop at text)) ∷ slots_read (pos common) (512 - (count + 1)) (following (drop at text))) []
      unfolding slots_read
      slots_next = rw (one_less, some_byte text at more)

      pub line_wrong : {refusal : Refusal} → SlotRead (line_slot (pos common) (drop at text)) text at (Err refusal)
          → SlotsRead common text from (Err refusal) setpoints setpoints' bands bands'
      line_wrong {refusal} read =
          stopped refusal
          (sym (refusal_next ∙ rw (← read.refusal_is) (row_first refusal (slots_refusal (pos common) (512 - (count + 1)) (following (drop at text))))))
          (slots_next ∙ rw (← read.refusal_is) (row_nothing refusal _ []))

      -- a line read: its setpoint and band are stored, and what is left begins after it
      module _ (room-setpoints : 512 ≤ length setpoints) (room_bands : 512 ≤ length bands) {line : SlotLine} (read : SlotRead (line_slot (pos common) (drop at text)) text at (Ok line)) where
        abbrev slot : Slot
        slot = record { setpoint = line.setpoint; band = pos line.band }

        one_more : (specials' : ℕ) → specials' ≡ specials + cond (eqb line.band common) 0 1
            → SoFar common text from setpoints (set setpoints' count line.setpoint) bands (set bands' count line.band) line.next (count + 1) specials'
        one_more specials' specials_are =
            let rest = read.line_is.rest_is in
            let no_refusal_here : read_refusal slot_line_refusal (line_slot (pos common) (drop at text)) ≡ 0 = sym read.refusal_is in
            let said = read.line_is.slot_is in
            record {
              done = so_far.done ++ (slot ∷ []);
              count_is = simp length-append (omega (arith, so_far.count_is));
              specials_is =
                  specials_are
                  ∙ ap (λ (n : ℕ). n + cond (eqb line.band common) 0 1) so_far.specials_is
                  ∙ sym (ap (λ (l : List ℕ). length (specials_among common l)) (map-append _ so_far.done (slot ∷ [])) ∙ specials_more common 0 (bands_in so_far.done) line.band);
              few = omega arith;
              in_text = read.line_is.in_text;
              refusal_is = so_far.refusal_is ∙ refusal_next ∙ rw (no_refusal_here, ← rest);
              slots_are =
                  so_far.slots_are
                  ∙ ap (λ (slots : List Slot). so_far.done ++ slots) (slots_next ∙ rw (no_refusal_here, said, ← rest))
                  ∙ sym (append_assoc so_far.done (slot ∷ []) (slots_read (pos common) (512 - (count + 1)) (drop line.next text)));
              setpoints_are = stored (λ (slot : Slot). slot.setpoint) so_far.done slot setpoints setpoints' count so_far.setpoints_are so_far.count_is (omega arith);
              bands_are = stored (λ (slot : Slot). nat_abs slot.band) so_far.done slot bands bands' count so_far.bands_are so_far.count_is (omega arith);
            }

        pub common_band : line.band ≡ common → SoFar common text from setpoints (set setpoints' count line.setpoint) bands (set bands' count common) line.next (count + 1) specials
        common_band same = let none : specials ≡ specials + cond (eqb line.band common) 0 1 = rw (eq-eqb line.band common same) (omega arith) in rw same at (one_more specials none)

        pub own_band : (line.band ≡ common → ⊥) → SoFar common text from setpoints (set setpoints' count line.setpoint) bands (set bands' count line.band) line.next (count + 1) (specials + 1)
        own_band own = one_more (specials + 1) (rw (ne_eqb line.band common own))
