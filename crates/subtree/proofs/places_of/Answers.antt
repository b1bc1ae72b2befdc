-- `subtree::places_of` meets its contract.
use mathlib.Core.Path.{◌≡◌, sym}
use Prim.Native.Nat.{◌+◌, ◌*◌}
use native.Mathlib.Omega.{arith}
use Rattle.subtree.specs.Stretch.{places}
use Rattle.subtree.proofs.Places.{places_are, places_within}
use Rattle.subtree.proofs.places_of.Goals as goal

pub overflow_mul-result-2 : goal.overflow_mul-result-2
overflow_mul-result-2 c =
    let product : c.args.slots * (2 * c.args.height + 6) ≡ places c.args.height + 2 = rw c.requires.1 (sym (places_are c.args.height)) in
    record { fits = omega (arith, product, places_within c.args.height c.requires.0) }

pub overflow_sub-result : goal.overflow_sub-result
overflow_sub-result c =
    let product : c.args.slots * (2 * c.args.height + 6) ≡ places c.args.height + 2 = rw c.requires.1 (sym (places_are c.args.height)) in
    omega (arith, product)

pub returns : goal.returns
returns c =
    let product : c.args.slots * (2 * c.args.height + 6) ≡ places c.args.height + 2 = rw c.requires.1 (sym (places_are c.args.height)) in
    (omega (arith, product), omega (arith, product, places_within c.args.height c.requires.0))
