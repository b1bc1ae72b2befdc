-- The walk that reads special slots one after another. What it keeps: the special slots from `place` on are right behind the last slot exactly where all are,
-- and their bands, put over what is there now, give every slot what all of them give it.
use mathlib.Core.Path.{◌≡◌, sym, ap, ◌∙◌}
use mathlib.Core.Bool.{Bool, true, false, not, ◌&&◌, false≢true}
use mathlib.Core.List.{List, ◌∷◌}
use Prim.Native.Nat.{ℕ, suc, ◌+◌, ◌*◌, ◌-◌, ◌≤◌, ◌<◌}
use native.Mathlib.Numerals.{add-one}
use native.Mathlib.Omega.{arith}
use lib.Dec.{leb, ltb}
use lib.ListN.{length, get_or, set, length-set}
use borrow.Author.Tests.{ltb-true, not-true, not-false}
use Rattle.limits.proofs.Tests.{both_hold}
use Rattle.bands.specs.declared.SpecialSlot.{SpecialSlot}
use Rattle.bands.specs.Bands.{right_from, right_specials, band_at}
use Rattle.bands.specs.Inner.{right_here}
use Rattle.bands.proofs.Put.{put_one}
use Rattle.bands.proofs.Right.{RightFrom, none_right, right_first}
use Rattle.record.specs.Layout.{layout_width, entries_from}
use Rattle.record.specs.Record.{special_layout, special_in}
use Rattle.record_read.specs.Inner.{specials_at, WalkRead}

-- a special slot that is right is one of the slots
pub slot_inside : (first n common slot band : ℕ) → right_here first n common slot band ≡ true → slot < n
slot_inside first n common slot band here = ltb-true slot n (both_hold (ltb slot n) _ (both_hold (leb first slot) _ here).1).0

module _ (bytes : List ℕ) (first count common : ℕ) (before : List ℕ) where
  -- all special slots, and how many slots there are
  abbrev all : List SpecialSlot
  all = specials_at count first bytes

  abbrev n : ℕ
  n = length before

  pub record ReadUpTo (now : List ℕ) (place least i : ℕ) : Type 0 where
    pub inside : i ≤ count
    pub place_is : place ≡ first + layout_width special_layout * i
    pub same_length : length now ≡ length before
    pub right_same : right_specials n common all ≡ right_from least n common (specials_at (count - i) place bytes)
    pub put_same : RightFrom least n common (specials_at (count - i) place bytes) → (slot : ℕ)
        → band_at (get_or now slot 0) (specials_at (count - i) place bytes) slot ≡ band_at (get_or before slot 0) all slot

  module _ {now : List ℕ} {place least i : ℕ} (so_far : ReadUpTo now place least i) (more : i < count) where
    -- the special slot here, and those behind it
    abbrev here : SpecialSlot
    here = special_in place bytes

    abbrev others : List SpecialSlot
    others = specials_at (count - (i + 1)) (place + layout_width special_layout) bytes

    left_are : specials_at (count - i) place bytes ≡ here ∷ others
    unfolding entries_from
    left_are = let one_more : count - i ≡ suc (count - (i + 1)) = omega arith in rw one_more

    turn : right_specials n common all ≡ (right_here least n common here.slot here.band && right_from (suc here.slot) n common others)
    turn = so_far.right_same ∙ ap (right_from least n common) left_are ∙ right_first least n common here others

    put_turn : right_here least n common here.slot here.band ≡ true → RightFrom (here.slot + 1) n common others → (slot : ℕ)
        → band_at (get_or (set now here.slot here.band) slot 0) others slot ≡ band_at (get_or before slot 0) all slot
    put_turn right behind slot =
        let at_next : RightFrom (suc here.slot) n common others = rw (add-one here.slot) at behind in
        let from_here : RightFrom least n common (here ∷ others) = record { passes = rw (right_first least n common here others, right) at_next.passes } in
        let within : here.slot < length now = omega (arith, slot_inside least n common here.slot here.band right, so_far.same_length) in
        put_one here others from_here now within slot
        ∙ ap (λ (left : List SpecialSlot). band_at (get_or now slot 0) left slot) (sym left_are)
        ∙ so_far.put_same (rw left_are from_here) slot

    -- what the test of the next special slot tests
    module _ {slot band : ℕ} {wrong : Bool} (slot_is : slot ≡ here.slot) (band_is : band ≡ here.band) (test : wrong ≡ not (right_here least (length now) common slot band)) where
      tested : wrong ≡ not (right_here least n common here.slot here.band)
      tested = rw (slot_is, band_is, so_far.same_length) at test

      pub wrong_here : (now' : List ℕ) → wrong ≡ true → WalkRead all common false before now'
      wrong_here now' is =
          let wrong_lem : right_here least n common here.slot here.band ≡ false = not-true (right_here least n common here.slot here.band) (sym tested ∙ is) in
          record { right_is = sym (turn ∙ rw wrong_lem); put = λ impossible. absurd (false≢true impossible) }

      pub one_more_read : {place' : ℕ} → wrong ≡ false → place' ≡ place + layout_width special_layout → ReadUpTo (set now slot band) place' (slot + 1) (i + 1)
      one_more_read is next_is =
          let right : right_here least n common here.slot here.band ≡ true = not-false (right_here least n common here.slot here.band) (sym tested ∙ is) in
          rw (slot_is, band_is, next_is) record {
            inside = omega arith;
            place_is = omega (arith, so_far.place_is);
            same_length = simp length-set so_far.same_length;
            right_same = turn ∙ rw (right, add-one here.slot);
            put_same = put_turn right;
          }

  pub all_read : {now : List ℕ} {place least i : ℕ} → ReadUpTo now place least i → count ≤ i → WalkRead all common true before now
  unfolding entries_from right_from band_at
  all_read {now} {place} {least} {i} so_far done =
      let none_left : count - i ≡ 0 = omega arith in
      record {
        right_is = sym (so_far.right_same ∙ rw none_left);
        put = λ _. record { same_length = so_far.same_length; each = rw none_left at so_far.put_same (none_right least n common) };
      }
