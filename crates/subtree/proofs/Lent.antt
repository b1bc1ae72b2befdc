-- Reading scratch after a part of it was lent and came back: inside the part what came back, elsewhere what was there.
use mathlib.Core.Path.{◌≡◌, sym, ap, ◌∙◌}
use mathlib.Core.List.{List, ◌++◌}
use Prim.Native.Nat.{ℕ, ◌+◌, ◌-◌, ◌≤◌, ◌<◌}
use native.Mathlib.Omega.{arith}
use lib.IntN.{ℤ, pos}
use lib.ListN.{length, get_or, take, get_or-append}
use lib.Seq.{length-take-le, get_or-append-add, get_or-take}
use borrow.Rule.Slice.PartMut.{put_mid, post_of, take_put}
use Rattle.windows.specs.Scratch.{word, at}

module _ (start stop : ℕ) (scratch part : List ℤ) (ordered : start ≤ stop) (inside : stop ≤ length scratch) (long : length part ≡ stop - start) where
  abbrev back : List ℤ
  back = put_mid start (stop - start) scratch part

  pub in_part : (place : ℕ) → place < stop - start → at back (start + place) ≡ at part place
  in_part place within =
      let front : length (take start scratch) ≡ start = length-take-le start scratch (omega arith) in
      let here : start + place ≡ length (take start scratch) + place = omega arith in
      ap (at back) here
      ∙ ap word (get_or-append-add (take start scratch) (part ++ post_of start (stop - start) scratch) place (pos 0)
      ∙ get_or-append part (post_of start (stop - start) scratch) (pos 0) place (omega arith))

  pub before_part : (place : ℕ) → place < start → at back place ≡ at scratch place
  before_part place before =
      ap word (sym (get_or-take start back place (pos 0) before) ∙ ap (λ (list : List ℤ). get_or list place (pos 0)) (take_put start (stop - start) scratch part (omega arith))
      ∙ get_or-take start scratch place (pos 0) before)
