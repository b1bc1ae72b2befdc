-- `record_read::read_fill` meets its contract: the field reaches to the last bit.
use Rattle.std.proofs.Common.{rules}
use lib.ListN.{length-drop}
use lib.Seq.{take_all}
use Rattle.bits.proofs.Bytes.{length_bits_of}
use Rattle.record_read.proofs.read_fill.Goals as goal

pub returns : goal.returns
returns c = search (rules, length_bits_of, length-drop, take_all)
