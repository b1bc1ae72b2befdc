-- `bits::BitPlace::write` meets its contract: the word of three bytes that starts in the place's byte, with the field replaced, is stored back.
use Rattle.std.proofs.Common.{rules}
use Rattle.bits.proofs.Numbers.{bytes_below}
use Rattle.bits.proofs.Words.{written_by_word}
use Rattle.bits.proofs.BitPlace.write.Goals as goal

pub returns : goal.returns
returns c =
    let a = c.args in
    let within = c.requires.within in
    rw (c.put_word.ensures, c.with_field.ensures, c.from.ensures, c.word_at-word.ensures)
    (written_by_word a.bytes.now a.self.at a.width (bytes_below a.bytes.now (search rules)) within.narrow within.inside a.number c.requires.fits)
