-- `build::build_synopsis` meets its contract.
use Rattle.std.proofs.Common.{◌≡◌, Err, length, sym, ◌∙◌, arith, rules, length-append}
use lib.IntN.{nat_abs}
use lib.Seq.{length-take-le, take_at}
use mir.Facts.{to_z-of_z}
use Rattle.bands.specs.Bands.{special_slots, slot_bands}
use Rattle.refusals.specs.Rows.{row}
use Rattle.build.specs.Building.{build_refusal}
use Rattle.build.proofs.Accepted.{buildable, all_counted}
use Rattle.build.proofs.Answers.{refused, handed}
use Rattle.build.proofs.build_synopsis.Goals as goal

pub returns-in_err-refuse_build : goal.returns-in_err-refuse_build
returns-in_err-refuse_build c =
    let a = c.args in
    let specials = special_slots a.specials.now a.own.now in
    let refusal = c.in_err-refuse_build.field-0.0 in
    let is : row refusal ≡ build_refusal a.setpoints.now a.rest a.band specials (length a.nodes.now) (length a.scratch.now) = search rules in
    let returned : c.from_residual.result ≡ Err refusal = search rules in
    rw returned (refused a.setpoints.now a.rest a.band specials a.nodes.now a.values.now a.scratch.now refusal is)

pub slice_bounds-build_first-end : goal.slice_bounds-build_first-end
slice_bounds-build_first-end c =
    let a = c.args in
    let specials = special_slots a.specials.now a.own.now in
    let none : build_refusal a.setpoints.now a.rest a.band specials (length a.nodes.now) (length a.scratch.now) ≡ 0 = search rules in
    let few = (buildable a.setpoints.now a.rest a.band specials a.nodes.now a.values.now a.scratch.now c.requires.1 none).acceptable.few_slots in
    let as_many : length c.spread.new.bands ≡ length a.setpoints.now = c.spread.auto.bands ∙ length-take-le _ _ few in
    sym (length-take-le _ _ (rw length-append (omega (arith, as_many))))

pub build_first-requires : goal.build_first-requires
build_first-requires c =
    let a = c.args in
    let specials = special_slots a.specials.now a.own.now in
    let none : build_refusal a.setpoints.now a.rest a.band specials (length a.nodes.now) (length a.scratch.now) ≡ 0 = search rules in
    let fit = buildable a.setpoints.now a.rest a.band specials a.nodes.now a.values.now a.scratch.now c.requires.1 none in
    let few = fit.acceptable.few_slots in
    let as_many : length c.spread.new.bands ≡ length a.setpoints.now = c.spread.auto.bands ∙ length-take-le _ _ few in
    let spread_is : c.spread.new.bands ≡ slot_bands (length a.setpoints.now) (nat_abs a.band) specials = rw (to_z-of_z c.ranges.band, length-take-le _ _ few) at c.spread.ensures in
    rw (take_at c.spread.new.bands _ (length a.setpoints.now) as_many, spread_is, to_z-of_z c.ranges.rest, to_z-of_z c.ranges.band)
    (fit, all_counted a.setpoints.now a.rest a.band a.specials.now a.own.now (length a.nodes.now) (length a.scratch.now) c.requires.0 none)

pub returns : goal.returns
returns c =
    let a = c.args in
    let specials = special_slots a.specials.now a.own.now in
    let none : build_refusal a.setpoints.now a.rest a.band specials (length a.nodes.now) (length a.scratch.now) ≡ 0 = search rules in
    let few = (buildable a.setpoints.now a.rest a.band specials a.nodes.now a.values.now a.scratch.now c.requires.1 none).acceptable.few_slots in
    let as_many : length c.spread.new.bands ≡ length a.setpoints.now = c.spread.auto.bands ∙ length-take-le _ _ few in
    let spread_is : c.spread.new.bands ≡ slot_bands (length a.setpoints.now) (nat_abs a.band) specials = rw (to_z-of_z c.ranges.band, length-take-le _ _ few) at c.spread.ensures in
    let first = rw (take_at c.spread.new.bands _ (length a.setpoints.now) as_many, spread_is, to_z-of_z c.ranges.rest) at c.build_first.ensures.0 in
    handed a.setpoints.now a.rest a.band specials a.nodes.now a.values.now a.scratch.now none c.build_first.result _ _ _ first
