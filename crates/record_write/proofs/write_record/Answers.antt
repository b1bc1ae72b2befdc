-- `record_write::write_record` meets its contract: the refusal, or what writing for the bands of the special slots answers.
use lib.IntN.{nat_abs}
use mir.Facts.{to_z-of_z}
use Rattle.std.proofs.Common.{rules, ◌≡◌, length, replicate}
use Rattle.limits.proofs.Signed.{narrower}
use Rattle.record_write.proofs.Refusals.{accepted, as_written, no_bands, all_bands, writable}
use Rattle.record_write.proofs.write_record.Goals as goal

pub write_for_bands-requires : goal.write_for_bands-requires
write_for_bands-requires c =
    let a = c.args in
    let none : length a.specials.now ≡ 0 = search rules in
    let right = accepted a.slots a.band a.rest _ _ (rw (to_z-of_z c.ranges.band, to_z-of_z c.ranges.rest) at c.in_ok-refuse.ensures) in
    rw (to_z-of_z c.ranges.band, ← none) (writable c.requires.0 c.requires.1 right (no_bands a.slots (nat_abs a.band) a.specials.now a.own.now c.requires.1 none))

pub returns-then-is_empty : goal.returns-then-is_empty
returns-then-is_empty c =
    let a = c.args in
    let none : length a.specials.now ≡ 0 = search rules in
    let right = accepted a.slots a.band a.rest _ _ (rw (to_z-of_z c.ranges.band, to_z-of_z c.ranges.rest) at c.in_ok-refuse.ensures) in
    let bands_are = no_bands a.slots (nat_abs a.band) a.specials.now a.own.now c.requires.1 none in
    as_written a.slots a.band a.rest _ _ a.destination.now right (rw (to_z-of_z c.ranges.band, narrower c.ranges.rest right.rest_within, bands_are.among) at c.write_for_bands.ensures)

pub write_for_bands-requires-2 : goal.write_for_bands-requires-2
write_for_bands-requires-2 c =
    let a = c.args in
    let right = accepted a.slots a.band a.rest _ _ (rw (to_z-of_z c.ranges.band, to_z-of_z c.ranges.rest) at c.in_ok-refuse.ensures) in
    let bands_are = all_bands a.slots (nat_abs a.band) a.specials.now a.own.now (replicate 512 0) _ right.slots.few_slots right.specials_right_lem (rw (to_z-of_z c.ranges.band) at c.spread.ensures) in
    rw (to_z-of_z c.ranges.band) (writable c.requires.0 c.requires.1 right bands_are)

pub returns : goal.returns
returns c =
    let a = c.args in
    let right = accepted a.slots a.band a.rest _ _ (rw (to_z-of_z c.ranges.band, to_z-of_z c.ranges.rest) at c.in_ok-refuse.ensures) in
    let bands_are = all_bands a.slots (nat_abs a.band) a.specials.now a.own.now (replicate 512 0) _ right.slots.few_slots right.specials_right_lem (rw (to_z-of_z c.ranges.band) at c.spread.ensures) in
    as_written a.slots a.band a.rest _ _ a.destination.now right (rw (to_z-of_z c.ranges.band, narrower c.ranges.rest right.rest_within, bands_are.among) at c.write_for_bands-2.ensures)
