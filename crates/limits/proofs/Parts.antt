-- A part of a slice from some place to its end, as it is lent.
use mathlib.Core.Path.{◌≡◌}
use mathlib.Core.List.{List}
use Prim.Native.Nat.{ℕ, ◌-◌}
use native.Mathlib.Omega.{arith}
use lib.ListN.{length, take, drop, length-drop}
use lib.Seq.{take_all}

pub to_end {ℓ} : {A : Type ℓ} (start : ℕ) (list : List A) → take (length list - start) (drop start list) ≡ drop start list
to_end start list = take_all (length list - start) (drop start list) (simp length-drop (omega arith))
