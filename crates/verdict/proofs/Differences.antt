-- A number with its sign turned is as large.
use mathlib.Core.Path.{◌≡◌, refl}
use Prim.Native.Nat.{zero, suc}
use lib.IntN.{ℤ, pos, negsuc, neg_ℤ, nat_abs}

pub turned_bound : (b : ℤ) → nat_abs (neg_ℤ b) ≡ nat_abs b
turned_bound (pos zero) = refl
turned_bound (pos (suc b)) = refl
turned_bound (negsuc b) = refl
