-- Lists of what a function gives for 0, 1 and on: their length, their elements, and a part of a list that has just these.
use mathlib.Core.Path.{◌≡◌, refl, sym, ◌∙◌}
use mathlib.Core.List.{List, [], ◌∷◌}
use mathlib.Core.Logic.{⊎_elim}
use Prim.Native.Nat.{ℕ, zero, suc, ◌+◌, ◌-◌, ◌<◌, ◌≤◌}
use native.Mathlib.Omega.{arith}
use lib.ListN.{length, get_or, take, drop, length-append, length-drop, get_or-append}
use lib.Seq.{get_or_at, get_or-take, get_or-drop, ext_get_or, length-take-le}
use Rattle.histogram.specs.Restored.{counted}
use Rattle.std.proofs.lemmas.Bool.{cases_lt}

module _ {ℓ} {A : Type ℓ} (f : ℕ → A) where
  pub length_counted : (count : ℕ) → length (counted f count) ≡ count
  unfolding counted
  length_counted zero = refl
  length_counted (suc count) = length-append (counted f count) (f count ∷ []) ∙ omega (arith, length_counted count)

  last_counted : (otherwise : A) (count : ℕ) → get_or (counted f (suc count)) count otherwise ≡ f count
  unfolding counted
  last_counted otherwise count = get_or_at (counted f count) (f count) [] otherwise count (length_counted count)

  pub get_d_counted : (otherwise : A) (count k : ℕ) → k < count → get_or (counted f count) k otherwise ≡ f k
  unfolding counted
  get_d_counted otherwise zero k below = absurd (omega arith)
  get_d_counted otherwise (suc count) k below =
      ⊎_elim
      (λ before. get_or-append (counted f count) (f count ∷ []) otherwise k (omega (arith, length_counted count)) ∙ get_d_counted otherwise count k before)
      (λ from. let last : k ≡ count = omega arith in rw last (last_counted otherwise count))
      (cases_lt k count)

  -- a part of a list, as code lends it from `start` to `start + count`
  module _ (otherwise : A) (whole : List A) (start count : ℕ) (within : start + count ≤ length whole) where
    length_part : length (take (start + count - start) (drop start whole)) ≡ count
    length_part = length-take-le (start + count - start) (drop start whole) (simp length-drop (omega arith)) ∙ omega arith

    get_d_part : (k : ℕ) → k < count → get_or (take (start + count - start) (drop start whole)) k otherwise ≡ get_or whole (start + k) otherwise
    get_d_part k below = get_or-take (start + count - start) (drop start whole) k otherwise (omega arith) ∙ get_or-drop start whole k otherwise

    pub counted_part : ((k : ℕ) → k < count → get_or whole (start + k) otherwise ≡ f k) → take (start + count - start) (drop start whole) ≡ counted f count
    counted_part each =
        ext_get_or otherwise (take (start + count - start) (drop start whole)) (counted f count) (length_part ∙ sym (length_counted count))
        (λ k below. let inside : k < count = omega (arith, length_part) in get_d_part k inside ∙ each k inside ∙ sym (get_d_counted otherwise count k inside))
