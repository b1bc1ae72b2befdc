-- Two tests of which both hold, two of which neither does, and two of which one is enough.
use mathlib.Core.Path.{◌≡◌, refl}
use mathlib.Core.Bool.{Bool, true, false, ◌&&◌, ◌||◌, true≢false, false≢true}
use lib.Dec.{T}

pub both_hold : (one other : Bool) → (one && other) ≡ true → (one ≡ true) × (other ≡ true)
both_hold true true held = (refl, refl)
both_hold true false held = absurd (false≢true held)
both_hold false other held = absurd (false≢true held)

pub neither_holds : (one other : Bool) → (one || other) ≡ false → (one ≡ false) × (other ≡ false)
neither_holds true other held = absurd (true≢false held)
neither_holds false other held = (refl, held)

pub either_first : (one other : Bool) → T one → T (one || other)
either_first true other passes = tt
either_first false other passes = elim passes [ ]

pub either_second : (one other : Bool) → T other → T (one || other)
either_second true other passes = tt
either_second false other passes = passes
