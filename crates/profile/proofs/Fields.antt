-- What a line says, from the number at its front and the byte behind that number: the byte 10, a space, or another.
use mathlib.Core.Path.{◌≡◌, refl, sym, ap, ◌∙◌}
use mathlib.Core.Bool.{Bool, true, false, cond, ◌||◌, false≢true}
use mathlib.Core.List.{List, ◌∷◌, ◌++◌}
use mathlib.Core.Option.{none, some}
use Prim.Native.Nat.{ℕ, suc, ◌+◌, ◌-◌, ◌≤◌, ◌<◌}
use native.Mathlib.Omega.{arith}
use lib.Dec.{ltb, eqb}
use lib.IntN.{ℤ}
use lib.ListN.{length, get_or, take, drop, length-drop, length-take, get_or-eq_default}
use lib.Seq.{get_or-drop, get_or-take, split_at, drop-drop}
use borrow.Author.Tests.{ltb-true, ltb-false, ne_eqb, eqb-true}
use Rattle.limits.proofs.Parts.{to_end}
use Rattle.decimal.specs.Number.{reads_as}
use Rattle.decimal.specs.Inner.{in_number, FrontRead}
use Rattle.profile.specs.Text.{before, line, ended, following, line_number, slot_of, line_slot, line_band}
use Rattle.profile.proofs.Lines.{in_front, before_fits, stops_behind, mark_behind, Unbroken, following_end, number_to_end, slot_to_end, following_space, slot_to_space, field_in_front, ends_field, field_ends}

-- a byte that ends a field is none of a number's
ends_number : (byte : ℕ) → ends_field byte ≡ true → in_number byte ≡ false
ends_number byte ends = by_end (eqb byte 10) refl (eqb byte 32) refl ends
  where
    by_end : (is-end : Bool) → eqb byte 10 ≡ is-end → (is-space : Bool) → eqb byte 32 ≡ is-space → (is-end || is-space) ≡ true → in_number byte ≡ false
    by_end true is is-space is_32 ends' = rw (eqb-true byte 10 is)
    by_end false is true is_32 ends' = rw (eqb-true byte 32 is_32)
    by_end false is false is_32 ends' = absurd (false≢true ends')

-- the number at the front of a text from a place on, as `read_front` finds it in that part of the text
pub front_from : (text : List ℕ) (at : ℕ) {number : ℤ} {count : ℕ} → FrontRead reads_as (take (length text - at) (drop at text)) number count → FrontRead reads_as (drop at text) number count
front_from text at front = rw (to_end at text) at front

-- the line begins at that place
module _ (text : List ℕ) (at : ℕ) (number : ℤ) (count : ℕ) (front : FrontRead reads_as (drop at text) number count) where
  byte_behind : get_or (drop at text) count 0 ≡ get_or text (at + count) 0
  byte_behind = get_or-drop at text count 0

  -- no byte that is not 0 stands behind the text
  pub in_text : (mark : ℕ) → 0 < mark → get_or text (at + count) 0 ≡ mark → at + count < length text
  in_text mark not-zero at_mark = by_test (ltb (at + count) (length text)) refl
    where
      by_test : (less : Bool) → ltb (at + count) (length text) ≡ less → at + count < length text
      by_test true is = ltb-true (at + count) (length text) is
      by_test false is = absurd (omega (arith, get_or-eq_default text 0 {n = at + count} (ltb-false (at + count) (length text) is)))

  module _ (inside : at + count < length text) where
    count_inside : count < length (drop at text)
    count_inside = simp length-drop (omega arith)

    field_unbroken : Unbroken (take count (drop at text))
    field_unbroken place within =
        let early : place < count = omega (arith, length-take count (drop at text)) in
        rw (get_or-take count (drop at text) place 0 early) (front.unbroken (omega (arith, count_inside)) place early)

    field_is : reads_as (take count (drop at text)) ≡ some number
    field_is = front.whole (omega (arith, count_inside))

    behind_field : drop (suc count) (drop at text) ≡ drop (at + count + 1) text
    behind_field = let further : at + suc count ≡ at + count + 1 = omega arith in drop-drop (suc count) at text ∙ ap (λ (place : ℕ). drop place text) further

    -- the field, the byte behind it and what follows
    parted : (mark : ℕ) → get_or text (at + count) 0 ≡ mark → drop at text ≡ take count (drop at text) ++ (mark ∷ drop (at + count + 1) text)
    parted mark at_mark =
        split_at (drop at text) count 0 count_inside
        ∙ rw (byte_behind ∙ at_mark, behind_field)

  module _ (is-end : get_or text (at + count) 0 ≡ 10) where
    abbrev inside_end : at + count < length text
    inside_end = in_text 10 (omega arith) is-end

    pub number_at_end : line_number (drop at text) ≡ some number
    number_at_end =
        ap line_number (parted inside_end 10 is-end)
        ∙ number_to_end (take count (drop at text)) (drop (at + count + 1) text) (field_unbroken inside_end)
        ∙ field_is inside_end

    pub slot_at_end : (common : ℤ) → line_slot common (drop at text) ≡ some (record { setpoint = number; band = common })
    slot_at_end common =
        ap (line_slot common) (parted inside_end 10 is-end)
        ∙ slot_to_end (take count (drop at text)) (drop (at + count + 1) text) (field_unbroken inside_end) common
        ∙ rw (field_is inside_end)

    pub next_line : drop (at + count + 1) text ≡ following (drop at text)
    next_line =
        sym (ap following (parted inside_end 10 is-end) ∙ following_end (take count (drop at text)) (drop (at + count + 1) text) (field_unbroken inside_end))

  module _ (is-space : get_or text (at + count) 0 ≡ 32) where
    abbrev inside_space : at + count < length text
    inside_space = in_text 32 (omega arith) is-space

    pub slot_at_space : (common : ℤ) → line_slot common (drop at text) ≡ slot_of (some number) (line_number (drop (at + count + 1) text))
    slot_at_space common =
        ap (line_slot common) (parted inside_space 32 is-space)
        ∙ slot_to_space (take count (drop at text)) (drop (at + count + 1) text) (field_unbroken inside_space) common
        ∙ rw (field_is inside_space)

    pub same_following : following (drop (at + count + 1) text) ≡ following (drop at text)
    same_following =
        sym (ap following (parted inside_space 32 is-space) ∙ following_space (take count (drop at text)) (drop (at + count + 1) text) (field_unbroken inside_space))

  -- a front that ends elsewhere, before a byte of no number, is no number
  no_number_in_front : (place : ℕ) → place ≤ length (drop at text) → in_number (get_or (drop at text) place 0) ≡ false
      → (get_or (drop at text) place 0 ≡ get_or text (at + count) 0 → ⊥) → reads_as (take place (drop at text)) ≡ none
  no_number_in_front place within stops other =
      front.no_other place within stops (λ same. other (ap (λ (p : ℕ). get_or (drop at text) p 0) same ∙ byte_behind))

  -- the byte 10 does not follow the number, so that the line is none
  pub no_number : (get_or text (at + count) 0 ≡ 10 → ⊥) → line_number (drop at text) ≡ none
  no_number no_end = by_end (ended (drop at text)) refl
    where
      by_end : (is_ended : Bool) → ended (drop at text) ≡ is_ended → cond is_ended (reads_as (line (drop at text))) none ≡ none
      by_end true is =
          let more = ltb-true (length (line (drop at text))) (length (drop at text)) is in
          rw (← in_front 10 (drop at text))
          (no_number_in_front (length (line (drop at text))) (before_fits 10 (drop at text)) (stops_behind 10 refl (drop at text))
          (λ same. no_end (sym same ∙ mark_behind 10 (drop at text) more)))
      by_end false is = refl

  -- nor does a space
  pub no_slot : (get_or text (at + count) 0 ≡ 10 → ⊥) → (get_or text (at + count) 0 ≡ 32 → ⊥) → (common : ℤ) → line_slot common (drop at text) ≡ none
  no_slot no_end no_space common = by_end (ended (drop at text)) refl
    where
      place : ℕ
      place = length (before 32 (line (drop at text)))

      other_byte : ends_field (get_or (drop at text) place 0) ≡ true → get_or (drop at text) place 0 ≡ get_or text (at + count) 0 → ⊥
      other_byte ends same =
          let not-10 = ne_eqb (get_or text (at + count) 0) 10 no_end in
          let not-32 = ne_eqb (get_or text (at + count) 0) 32 no_space in
          false≢true (rw (same, not-10, not-32) at ends)

      by_end : (is_ended : Bool) → ended (drop at text) ≡ is_ended
          → cond is_ended (slot_of (reads_as (before 32 (line (drop at text)))) (line_band common (line (drop at text)))) none ≡ none
      by_end true is =
          let more = ltb-true (length (line (drop at text))) (length (drop at text)) is in
          let ends = field_ends (drop at text) more in
          let within : place ≤ length (drop at text) = omega (arith, before_fits 32 (line (drop at text)), before_fits 10 (drop at text)) in
          let nothing : reads_as (before 32 (line (drop at text))) ≡ none =
          rw (← field_in_front (drop at text)) (no_number_in_front place within (ends_number (get_or (drop at text) place 0) ends) (other_byte ends)) in
          rw nothing
      by_end false is = refl
