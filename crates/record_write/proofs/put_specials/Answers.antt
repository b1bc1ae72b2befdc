-- `record_write::put_specials` meets its contract: nothing, or the count and then the special slots behind it.
use mathlib.Core.Path.{◌∙◌}
use native.Mathlib.Omega.{arith}
use Rattle.bands.specs.Bands.{specials_among}
use Rattle.bits.specs.Bits.{bits_of}
use Rattle.bits.proofs.Bytes.{length_bits_of}
use Rattle.record.specs.Record.{terms_end}
use Rattle.record_write.proofs.Specials.{count_and_specials, room_for_all}
use Rattle.record_write.proofs.put_specials.Goals as goal

pub returns : goal.returns
returns c =
    let a = c.args in
    let some = c.if-specials-eq0.false in
    let counted = c.requires.specials_counted in
    let count_is = rw (c.after_terms.ensures, counted) at c.write.ensures in
    let are = rw c.first_special.ensures at c.put_own_bands.ensures in
    count_and_specials (terms_end a.terms) (specials_among a.common a.bands.now) (bits_of a.bytes.now) _ _
    (λ none. some (counted ∙ none)) (omega (arith, room_for_all c.requires some, length_bits_of a.bytes.now)) count_is are
