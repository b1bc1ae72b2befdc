-- `bits::BitPlace::read_signed` meets its contract: what was read is below 2^width, so it stands for a signed number.
use Rattle.bits.proofs.Bytes.{field_below}
use Rattle.bits.proofs.BitPlace.read_signed.Goals as goal

pub signed_of-requires : goal.signed_of-requires
signed_of-requires c = let a = c.args in (c.requires.narrow, rw c.read.ensures (field_below a.bytes.now a.self.at a.width))
