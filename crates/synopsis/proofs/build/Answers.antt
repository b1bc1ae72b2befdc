-- `synopsis::build` meets its contract: the terms built, which the room has places for, are put together over the destination.
use Rattle.std.proofs.Common.{◌≡◌, Err, length, refl, ◌∙◌, rules, arith}
use mir.Facts.{to_z-of_z}
use Rattle.histogram.specs.Terms.{paired}
use Rattle.synopsis.proofs.Rooms.{room_part, reaches, taken, fit_together, few_nodes, few_values, built_over, handed_built}
use Rattle.synopsis.proofs.Many.{built_for}
use Rattle.synopsis.proofs.build.Goals as goal

pub returns-in_err-built : goal.returns-in_err-built
unfolding paired
returns-in_err-built c =
    let a = c.args in
    let said = rw (to_z-of_z c.ranges.rest, to_z-of_z c.ranges.band) at c.in_err-built.ensures in
    let is : c.from_residual.result ≡ Err c.in_err-built.field-0.0 = search rules in
    rw is (
      built_for a.specials.now c.take_apart-special_count.ensures.together_are (built_over (length a.terms.now) (room_part 1024 (length a.terms.now) c.min-places.ensures) said.0),
      record { past = refl; scratch_refused = said.1.scratch_refused },
    )

pub slice_bounds-nodes-end-2 : goal.slice_bounds-nodes-end-2
slice_bounds-nodes-end-2 c = reaches _ _ (few_nodes _ _ c.in_ok-built.ensures.0)

pub slice_bounds-put_together-end : goal.slice_bounds-put_together-end
slice_bounds-put_together-end c = taken _ _ (few_nodes _ _ c.in_ok-built.ensures.0)

pub slice_bounds-values-end-2 : goal.slice_bounds-values-end-2
slice_bounds-values-end-2 c = reaches _ _ (few_values _ _ c.in_ok-built.ensures.0)

pub slice_bounds-put_together-end-2 : goal.slice_bounds-put_together-end-2
slice_bounds-put_together-end-2 c = taken _ _ (few_values _ _ c.in_ok-built.ensures.0)

pub put_together-requires : goal.put_together-requires
put_together-requires c =
    let built = c.in_ok-built.ensures.0 in
    let room = c.build_synopsis.auto.nodes ∙ room_part 1024 (length c.args.terms.now) c.min-places.ensures in
    fit_together _ _ _ _ (few_nodes _ _ built) (few_values _ _ built) (omega (arith, few_nodes _ _ built, room))

pub returns : goal.returns
returns c =
    let a = c.args in
    let said = rw (to_z-of_z c.ranges.rest, to_z-of_z c.ranges.band) at c.in_ok-built.ensures in
    handed_built _ _ (built_for a.specials.now c.take_apart-special_count.ensures.together_are (built_over (length a.terms.now) (room_part 1024 (length a.terms.now) c.min-places.ensures) said.0))
    _ _ a.terms.now c.put_together.ensures said.1.scratch_refused
