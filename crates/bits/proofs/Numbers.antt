-- Lists whose numbers are below a limit: the bits of a field and the bytes of a slice. What is joined, cut or dropped from such lists is such a list.
use mathlib.Core.List.{List, [], ◌∷◌, ◌++◌}
use Prim.Native.Nat.{ℕ, zero, suc, ◌+◌, ◌<◌}
use native.Mathlib.Omega.{arith}
use lib.ListN.{get_or, take, drop, replicate}
use lib.Seq.{get_or-drop}
use mir.Syntax.{w8}
use mir.Val.{Fits}
use Rattle.bits.specs.Inner.{Below}

module _ {limit : ℕ} where
  pub nil_below : 0 < limit → Below limit []
  nil_below some = record { each = λ k. some }

  pub cons_below : (number : ℕ) (more : List ℕ) → number < limit → Below limit more → Below limit (number ∷ more)
  cons_below number more small below = record { each = at }
    where
      at : (k : ℕ) → get_or (number ∷ more) k 0 < limit
      at zero = small
      at (suc k) = below.each k

  pub tail_below : (number : ℕ) (more : List ℕ) → Below limit (number ∷ more) → Below limit more
  tail_below number more below = record { each = λ k. below.each (suc k) }

  pub append_below : (front back : List ℕ) → Below limit front → Below limit back → Below limit (front ++ back)
  append_below [] back below-front below-back = below-back
  append_below (number ∷ more) back below-front below-back =
      cons_below number (more ++ back) (below-front.each 0) (append_below more back (tail_below number more below-front) below-back)

  pub drop_below : (count : ℕ) (numbers : List ℕ) → Below limit numbers → Below limit (drop count numbers)
  drop_below count numbers below = record { each = λ k. rw get_or-drop (below.each (count + k)) }

  pub take_below : (count : ℕ) (numbers : List ℕ) → Below limit numbers → Below limit (take count numbers)
  take_below zero numbers below = nil_below (omega (arith, below.each 0))
  take_below (suc count) [] below = below
  take_below (suc count) (number ∷ more) below =
      cons_below number (take count more) (below.each 0) (take_below count more (tail_below number more below))

  pub replicate_below : (count number : ℕ) → 0 < limit → number < limit → Below limit (replicate count number)
  replicate_below zero number some small = nil_below some
  replicate_below (suc count) number some small = cons_below number (replicate count number) small (replicate_below count number some small)

-- what is known of a slice of bytes: `c.shared-slice-known.given`
pub bytes_below : (bytes : List ℕ) → ((k : ℕ) → Fits w8 (get_or bytes k 0)) → Below 256 bytes
bytes_below bytes known = record { each = λ k. (known k).fits }
