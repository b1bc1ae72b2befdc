-- The bytes before the first mark: they are the front, and the mark stands behind them. Bytes of a number have no mark among them, so put in front they change
-- nothing else; from that comes what a line says whose first field is followed by the byte 10 or by a space.
use mathlib.Core.Path.{◌≡◌, refl, sym, ap, ◌∙◌}
use mathlib.Core.Bool.{Bool, true, false, cond, ◌||◌, or-true}
use mathlib.Core.List.{List, [], ◌∷◌, ◌++◌, append-nil}
use mathlib.Core.Option.{Option, none, some}
use Prim.Native.Nat.compare
use Prim.Native.Nat.{ℕ, suc, ◌+◌, ◌≤◌, ◌<◌}
use native.Mathlib.Omega.{arith}
use lib.Dec.{is_le, eqb}
use lib.IntN.{ℤ}
use lib.ListN.{length, get_or, take, drop, length-append, length-take, get_or-eq_default}
use lib.Seq.{drop-append-add, take-take}
use borrow.Author.Tests.{ltb-true, ltb-false, lt-ltb, le-ltb, ne_eqb, eqb-true}
use Rattle.decimal.specs.Number.{reads_as}
use Rattle.decimal.specs.Inner.{in_number}
use Rattle.decimal.proofs.Fronts.{not_both}
use Rattle.profile.specs.Text.{before, has, behind, line, ended, following, line_number, slot_of, line_slot}

module _ (mark : ℕ) where
  pub in_front : (bytes : List ℕ) → take (length (before mark bytes)) bytes ≡ before mark bytes
  unfolding before
  in_front [] = refl
  in_front (byte ∷ bytes) = by_first (eqb byte mark) (in_front bytes)
    where
      by_first : (at_mark : Bool) → take (length (before mark bytes)) bytes ≡ before mark bytes
          → take (length (cond at_mark [] (byte ∷ before mark bytes))) (byte ∷ bytes) ≡ cond at_mark [] (byte ∷ before mark bytes)
      by_first true shorter = refl
      by_first false shorter = ap (λ (l : List ℕ). byte ∷ l) shorter

  pub before_fits : (bytes : List ℕ) → length (before mark bytes) ≤ length bytes
  before_fits bytes = omega (arith, ap length (in_front bytes), length-take (length (before mark bytes)) bytes)

  pub mark_behind : (bytes : List ℕ) → length (before mark bytes) < length bytes → get_or bytes (length (before mark bytes)) 0 ≡ mark
  unfolding before
  mark_behind [] more = absurd (omega arith)
  mark_behind (byte ∷ bytes) more = by_first (eqb byte mark) refl more (mark_behind bytes)
    where
      by_first : (at_mark : Bool) → eqb byte mark ≡ at_mark → length (cond at_mark [] (byte ∷ before mark bytes)) < length (byte ∷ bytes)
          → (length (before mark bytes) < length bytes → get_or bytes (length (before mark bytes)) 0 ≡ mark)
          → get_or (byte ∷ bytes) (length (cond at_mark [] (byte ∷ before mark bytes))) 0 ≡ mark
      by_first true is more' shorter = eqb-true byte mark is
      by_first false is more' shorter = shorter (omega arith)

-- bytes that numbers are written with
abbrev pub Unbroken : List ℕ → Type 0
Unbroken field = (place : ℕ) → place < length field → in_number (get_or field place 0) ≡ true

module _ (mark : ℕ) (stops : in_number mark ≡ false) where
  -- behind the bytes before the mark no number goes on
  pub stops_behind : (bytes : List ℕ) → in_number (get_or bytes (length (before mark bytes)) 0) ≡ false
  stops_behind bytes = by_end (has mark bytes) refl
    where
      by_end : (there : Bool) → has mark bytes ≡ there → in_number (get_or bytes (length (before mark bytes)) 0) ≡ false
      by_end true is = rw (mark_behind mark bytes (ltb-true (length (before mark bytes)) (length bytes) is)) stops
      by_end false is = rw (get_or-eq_default bytes 0 {n = length (before mark bytes)} (ltb-false (length (before mark bytes)) (length bytes) is))

  -- bytes of a number in front of others
  pub before_over : (field bytes : List ℕ) → Unbroken field → before mark (field ++ bytes) ≡ field ++ before mark bytes
  unfolding before
  before_over [] bytes unbroken = refl
  before_over (byte ∷ field) bytes unbroken =
      let no_mark : eqb byte mark ≡ false = ne_eqb byte mark (λ same. not_both mark (rw same at (unbroken 0 (omega arith))) stops) in
      rw no_mark (ap (λ (l : List ℕ). byte ∷ l) (before_over field bytes (λ place inside. unbroken (suc place) (omega arith))))

  module _ (field bytes : List ℕ) (unbroken : Unbroken field) where
    length_over : length (before mark (field ++ bytes)) ≡ length field + length (before mark bytes)
    length_over = ap length (before_over field bytes unbroken) ∙ length-append field (before mark bytes)

    pub has_over : has mark (field ++ bytes) ≡ has mark bytes
    has_over = by_end (has mark bytes) refl
      where
        by_end : (there : Bool) → has mark bytes ≡ there → has mark (field ++ bytes) ≡ there
        by_end true is =
            let inside = ltb-true (length (before mark bytes)) (length bytes) is in
            lt-ltb (length (before mark (field ++ bytes))) (length (field ++ bytes)) (omega (arith, length_over, length-append field bytes))
        by_end false is =
            let past = ltb-false (length (before mark bytes)) (length bytes) is in
            le-ltb (length (before mark (field ++ bytes))) (length (field ++ bytes)) (omega (arith, length_over, length-append field bytes))

    pub behind_over : behind mark (field ++ bytes) ≡ behind mark bytes
    behind_over =
        let further : suc (length (before mark (field ++ bytes))) ≡ length field + suc (length (before mark bytes)) = omega (arith, length_over) in
        ap (λ (count : ℕ). drop count (field ++ bytes)) further ∙ drop-append-add field bytes (suc (length (before mark bytes)))

-- a field that the byte 10 follows is the line, and has no space
module _ (field rest : List ℕ) (unbroken : Unbroken field) where
  line_to_end : line (field ++ (10 ∷ rest)) ≡ field
  unfolding before
  line_to_end = before_over 10 refl field (10 ∷ rest) unbroken ∙ append-nil field

  ended_to_end : ended (field ++ (10 ∷ rest)) ≡ true
  unfolding before
  ended_to_end = has_over 10 refl field (10 ∷ rest) unbroken ∙ lt-ltb 0 (suc (length rest)) (omega arith)

  pub following_end : following (field ++ (10 ∷ rest)) ≡ rest
  unfolding before
  following_end = behind_over 10 refl field (10 ∷ rest) unbroken

  pub number_to_end : line_number (field ++ (10 ∷ rest)) ≡ reads_as field
  number_to_end = rw (ended_to_end, line_to_end)

  no_space : (before 32 field ≡ field) × (has 32 field ≡ false)
  unfolding before
  no_space =
      let all : before 32 (field ++ []) ≡ field ++ [] = before_over 32 refl field [] unbroken in
      let none_there : has 32 (field ++ []) ≡ false = has_over 32 refl field [] unbroken in
      (rw (append-nil field) at all, rw (append-nil field) at none_there)

  pub slot_to_end : (common : ℤ) → line_slot common (field ++ (10 ∷ rest)) ≡ slot_of (reads_as field) (some common)
  slot_to_end common = rw (ended_to_end, line_to_end, no_space.1, no_space.0)

  -- a field that a space follows: what is behind the space is a line too
  line_to_space : line (field ++ (32 ∷ rest)) ≡ field ++ (32 ∷ line rest)
  unfolding before
  line_to_space = before_over 10 refl field (32 ∷ rest) unbroken

  pub following_space : following (field ++ (32 ∷ rest)) ≡ following rest
  unfolding before
  following_space = behind_over 10 refl field (32 ∷ rest) unbroken

  ended_space : ended (field ++ (32 ∷ rest)) ≡ ended rest
  unfolding before
  ended_space = has_over 10 refl field (32 ∷ rest) unbroken ∙ ap is_le (compare.suc-suc (suc (length (line rest))) (length rest))

  space_there : (before 32 (line (field ++ (32 ∷ rest))) ≡ field) × (has 32 (line (field ++ (32 ∷ rest))) ≡ true) × (behind 32 (line (field ++ (32 ∷ rest))) ≡ line rest)
  unfolding before
  space_there =
      rw line_to_space (
        before_over 32 refl field (32 ∷ line rest) unbroken ∙ append-nil field,
        has_over 32 refl field (32 ∷ line rest) unbroken ∙ lt-ltb 0 (suc (length (line rest))) (omega arith),
        behind_over 32 refl field (32 ∷ line rest) unbroken,
      )

  pub slot_to_space : (common : ℤ) → line_slot common (field ++ (32 ∷ rest)) ≡ slot_of (reads_as field) (line_number rest)
  slot_to_space common = rw (ended_space, space_there.1, space_there.2, space_there.0) (by_end (ended rest) (reads_as field))
    where
      by_end : (is_ended : Bool) (setpoint : Option ℤ) → cond is_ended (slot_of setpoint (reads_as (line rest))) none ≡ slot_of setpoint (cond is_ended (reads_as (line rest)) none)
      by_end true setpoint = refl
      by_end false none = refl
      by_end false (some setpoint) = refl

-- the first field of an ended line is at its front, and ends before a space or the byte 10
pub field_in_front : (text : List ℕ) → take (length (before 32 (line text))) text ≡ before 32 (line text)
field_in_front text =
    sym (take-take (length (before 32 (line text))) (length (line text)) text (before_fits 32 (line text)))
    ∙ ap (take (length (before 32 (line text)))) (in_front 10 text)
    ∙ in_front 32 (line text)

abbrev pub ends_field : ℕ → Bool
ends_field byte = eqb byte 10 || eqb byte 32

pub field_ends : (text : List ℕ) → length (line text) < length text → ends_field (get_or text (length (before 32 (line text))) 0) ≡ true
unfolding before
field_ends [] is_ended = absurd (omega arith)
field_ends (byte ∷ text) is_ended = by_end (eqb byte 10) refl is_ended (field_ends text)
  where
    by_space : (is-space : Bool) → eqb byte 32 ≡ is-space → ends_field (get_or text (length (before 32 (line text))) 0) ≡ true
        → ends_field (get_or (byte ∷ text) (length (cond is-space [] (byte ∷ before 32 (line text)))) 0) ≡ true
    by_space true is later = rw (is, or-true (eqb byte 10))
    by_space false is later = later

    by_end : (is-end : Bool) → eqb byte 10 ≡ is-end → length (cond is-end [] (byte ∷ line text)) < length (byte ∷ text)
        → (length (line text) < length text → ends_field (get_or text (length (before 32 (line text))) 0) ≡ true)
        → ends_field (get_or (byte ∷ text) (length (before 32 (cond is-end [] (byte ∷ line text)))) 0) ≡ true
    by_end true is more later = rw is
    by_end false is more later = by_space (eqb byte 32) refl (later (omega arith))
