use mathlib.Core.Path.{◌≡◌, refl, sym, ap, ◌∙◌}
use mathlib.Core.List.{List, ◌∷◌}
use Prim.Native.Nat.{ℕ, suc, ◌+◌, ◌<◌}
use native.Mathlib.Numerals.{add-one}
use native.Mathlib.Omega.{arith}
use lib.ListN.{length, get_or, set, length-set, drop_of_length-le}
use Rattle.bands.specs.declared.SpecialSlot.{SpecialSlot}
use Rattle.bands.specs.Bands.{special_slots, band_at}
use Rattle.bands.proofs.Lent.{onwards, special_at, special_there}
use Rattle.bands.proofs.Put.{put_one}
use Rattle.bands.proofs.Right.{RightFrom, first_below, rest_right, right_sooner}
use Rattle.bands.proofs.put_own.Goals as goal
use Rattle.bands.proofs.put_own.Invariants.{PutSoFar}

module _ {specials own before now : List ℕ} {i : ℕ} (so_far : PutSoFar specials own before now i) (same : length specials ≡ length own) (more : i < length specials) where
  next_right : RightFrom 0 (length before) so_far.common (special_at specials own i ∷ onwards specials own (suc i))
  next_right = rw (special_there specials own i same more) at so_far.right

  next_inside : get_or specials i 0 < length now
  next_inside = omega (arith, first_below next_right, so_far.same_length)

  one_more_put : PutSoFar specials own before (set now (get_or specials i 0) (get_or own i 0)) (i + 1)
  one_more_put = rw (add-one i) (record {
    common = so_far.common;
    same_length = simp length-set so_far.same_length;
    right = right_sooner (onwards specials own (suc i)) (rest_right next_right) 0 (omega arith);
    left = λ slot.
        put_one (special_at specials own i) (onwards specials own (suc i)) next_right now next_inside slot
        ∙ ap (λ (l : List SpecialSlot). band_at (get_or now slot 0) l slot) (sym (special_there specials own i same more))
        ∙ so_far.left slot;
  })

pub loop-i-init : goal.loop-i-init
loop-i-init c = record {
  common = c.requires.common;
  same_length = refl;
  right = record { passes = c.requires.right.passes };
  left = λ slot. refl;
}

pub bounds-bands-from : goal.bounds-bands-from
bounds-bands-from c = rw c.from.ensures (next_inside c.loop-i.invariant c.requires.right.same_length c.loop-i-test.true)

pub loop-i-preserved : goal.loop-i-preserved
loop-i-preserved c = rw c.from.ensures (one_more_put c.loop-i.invariant c.requires.right.same_length c.loop-i-test.true)

pub returns : goal.returns
unfolding special_slots band_at
returns c =
    let loop = c.loop-i in
    record {
      same_length = loop.invariant.same_length;
      each = λ slot. rw (drop_of_length-le c.args.specials.now {i = loop.i} c.loop-i-test.false) at (loop.invariant.left slot);
    }
