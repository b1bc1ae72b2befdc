-- `record_write::put_fill` meets its contract: the bits behind the last field are fewer than eight, and 0 in as many bits is zeros.
use mathlib.Core.Path.{◌≡◌, ◌∙◌}
use mathlib.Core.List.{List, append-nil}
use Prim.Native.Nat.{ℕ, ◌+◌, ◌-◌, ◌*◌, ◌≤◌}
use native.Mathlib.Omega.{arith}
use lib.ListN.{length, drop_of_length-le}
use Rattle.bits.specs.Bits.{bits, bits_of, replaced_at}
use Rattle.bits.proofs.Fields.{length_bits}
use Rattle.bits.proofs.Bytes.{length_bits_of}
use Rattle.record.specs.Record.{version_for, fields_end}
use Rattle.record.proofs.Fill.{bits_of_zero}
use Rattle.record_write.specs.Inner.{filled}
use Rattle.record_write.proofs.put_fill.Goals as goal

-- a field of 0 to the end of the bytes
zeros_to_end : (bytes : List ℕ) (used : ℕ) → used ≤ 8 * length bytes → replaced_at used (bits (8 * length bytes - used) 0) (bits_of bytes) ≡ filled used (bits_of bytes)
zeros_to_end bytes used inside =
    let left : ℕ = 8 * length bytes - used in
    let all : length (bits_of bytes) ≤ used + length (bits left 0) = omega (arith, length_bits left 0, length_bits_of bytes) in
    let as_many : left ≡ length (bits_of bytes) - used = omega (arith, length_bits_of bytes) in
    rw (drop_of_length-le (bits_of bytes) all, append-nil (bits left 0), bits_of_zero left, as_many)

pub returns : goal.returns
returns c =
    let a = c.args in
    let end = fields_end (version_for a.specials) a.terms a.specials in
    let placed : c.after_fields-place.result.at ≡ end = rw c.version_for.ensures at c.after_fields-place.ensures in
    rw placed at c.write.ensures
    ∙ zeros_to_end a.bytes.now end (omega (arith, c.requires.just_room))
