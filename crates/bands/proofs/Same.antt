-- The test whether two lists of bands are the same says that they are equal.
use mathlib.Core.Path.{◌≡◌, refl, ap₂, subst}
use mathlib.Core.Bool.{Bool, true, false, ◌&&◌}
use mathlib.Core.List.{List, [], ◌∷◌}
use Prim.Native.Nat.{ℕ, ◌+◌, ◌<◌}
use native.Mathlib.Numerals.{add-one}
use lib.Dec.{T, eqb, eqb→eq, eqb_refl}
use lib.ListN.{length, get_or, drop}
use lib.Seq.{drop-cons}
use mir.Facts.{and_yes, yes_and}
use Rattle.bands.specs.Bands.{same_bands}

pub same_equal : (bands others : List ℕ) → T (same_bands bands others) → bands ≡ others
unfolding same_bands
same_equal [] [] same = refl
same_equal [] (other ∷ others) same = absurd same
same_equal (band ∷ bands) [] same = absurd same
same_equal (band ∷ bands) (other ∷ others) same =
    let both = and_yes (eqb band other) (same_bands bands others) same in
    ap₂ (λ (b : ℕ) (l : List ℕ). b ∷ l) (eqb→eq band other both.0) (same_equal bands others both.1)

same_itself : (bands : List ℕ) → T (same_bands bands bands)
unfolding same_bands
same_itself [] = tt
same_itself (band ∷ bands) = yes_and (eqb band band) (same_bands bands bands) (eqb_refl band) (same_itself bands)

pub equal_same : (bands others : List ℕ) → bands ≡ others → T (same_bands bands others)
equal_same bands others equal = subst (λ (l : List ℕ). T (same_bands bands l)) equal (same_itself bands)

-- lists that are not equal fail it
pub differ : (bands others : List ℕ) → (bands ≡ others → ⊥) → same_bands bands others ≡ false
differ bands others different = split (same_bands bands others) (λ same. different (same_equal bands others same))
  where
    split : (test : Bool) → (T test → ⊥) → test ≡ false
    split true fails = absurd (fails tt)
    split false fails = refl

-- from a slot on
pub same_from : (bands others : List ℕ) (slot : ℕ) → slot < length bands → slot < length others
    → same_bands (drop slot bands) (drop slot others) ≡ (eqb (get_or bands slot 0) (get_or others slot 0) && same_bands (drop (slot + 1) bands) (drop (slot + 1) others))
unfolding same_bands
same_from bands others slot inside inside' = rw (drop-cons bands slot 0 inside, drop-cons others slot 0 inside', add-one slot)
