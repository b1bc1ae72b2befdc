-- What a read gives stands after what earlier reads gave.
use Rattle.std.proofs.Common.{◌≡◌, ℕ, ◌+◌, ◌-◌, ◌≤◌, List, ◌++◌, rules, length, take, drop, sym, ap, ◌∙◌, subst, le_refl, drop_at, length-take-le}
use Rattle.std.proofs.lemmas.Slice.{take-put_mid_below}
use Rattle.std.specs.Io.KnownBytes.{Consumes}
use Rattle.std.proofs.KnownBytes.{Consumes-trans}
use borrow.Rule.Slice.PartMut.{put_mid, post_of}
use lib.Seq.{take-add, take-append-le}
use Rattle.fire.proofs.read_full.Goals as goal

-- a part written from `a` on begins with its own numbers, after what stood before it
begins_anew : (a room n : ℕ) (old part : List ℕ) → a ≤ length old → n ≤ length part → take a old ++ take n part ≡ take (a + n) (put_mid a room old part)
begins_anew a room n old part within fits =
    let new = put_mid a room old part in
    let after = post_of a room old in
    let front : take a new ≡ take a old = take-put_mid_below _ _ _ _ _ (le_refl _) within in
    let back : take n (drop a new) ≡ take n part = ap (take n) (drop_at (take a old) (part ++ after) a (length-take-le a old within)) ∙ take-append-le n part after fits in
    sym (take-add a n new ∙ ap (λ l. l ++ take n (drop a new)) front ∙ ap (λ l. take a old ++ l) back)

pub loop-done-preserved : goal.loop-done-preserved
loop-done-preserved g c =
    let done = c.loop-done.done in
    let places = c.loop-done.places in
    let read = c.in_ok-count.ensures in
    let anew = begins_anew done (length places - done) c.in_ok-count.count places c.read.new.buf c.loop-done.invariant.0 read.bound.0 in
    (search rules, subst (Consumes _ _) anew (Consumes-trans _ _ _ _ _ c.loop-done.invariant.1 read.bytes.0))
