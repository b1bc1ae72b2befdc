-- `record_write::put_record` meets its contract: header, terms, special slots and fill, one behind the other, are the record.
use mathlib.Core.Path.{◌≡◌, sym, ◌∙◌}
use lib.ListN.{length}
use mir.Facts.{to_z-of_z}
use Rattle.bands.specs.Bands.{specials_among}
use Rattle.bits.proofs.Numbers.{bytes_below}
use Rattle.histogram.specs.Terms.{paired}
use Rattle.histogram.proofs.Paired.{length_paired}
use Rattle.record_write.proofs.Whole.{record_laid}
use Rattle.record_write.proofs.put_record.Goals as goal

pub returns : goal.returns
returns c =
    let a = c.args in
    let terms = paired a.nodes.now a.values.now in
    let count : length a.nodes.now ≡ length terms = sym (length_paired a.nodes.now a.values.now c.requires.same_length) in
    let fits = c.requires.specials_fit in
    let counted = fits.specials_counted in
    let header_is = rw (c.version_for.ensures, counted, count, to_z-of_z c.ranges.rest) at c.put_header.ensures in
    let specials_are = rw count at c.put_specials.ensures in
    let fill_is = rw (counted, count) at c.put_fill.ensures in
    let as_long = c.put_header.auto.bytes ∙ rw (counted, count) at fits.fill_fits.just_room in
    record_laid a.slots a.band a.rest terms (specials_among a.band a.bands.now) a.bytes.now _ _ _ _ as_long
    (c.put_specials.auto.bytes ∙ c.put_terms.auto.bytes ∙ as_long)
    (bytes_below _ c.type_inv.bytes)
    header_is c.put_terms.ensures specials_are fill_is
