-- `bits::BitPlace::read` meets its contract: the field is one of the word of three bytes that starts in the place's byte.
use native.Mathlib.Omega.{arith}
use Rattle.bits.proofs.Numbers.{bytes_below}
use Rattle.limits.proofs.Shifting.{one_shifted}
use Rattle.bits.proofs.Words.{read_by_word}
use Rattle.bits.proofs.BitPlace.read.Goals as goal

pub returns : goal.returns
returns c =
    let a = c.args in
    rw (one_shifted 32 a.width (omega arith), c.word_at-word.ensures)
    (read_by_word a.bytes.now a.self.at a.width (bytes_below a.bytes.now c.type_inv.bytes) c.requires.narrow c.requires.inside)
