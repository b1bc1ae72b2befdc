-- `offers::record_end` meets its contract: the second count is read where the buffer has it.
use mathlib.Core.Path.{◌≡◌, sym, ◌∙◌}
use Prim.Native.Nat.{◌≤◌}
use native.Mathlib.Omega.{arith}
use Rattle.record.specs.Record.{version_in, count_in, special_count_in}
use Rattle.record.proofs.Bounds.{few_terms, few_specials}
use Rattle.record.proofs.Ends.{end_of_second}
use Rattle.record.proofs.Table.{special_count_field}
use Rattle.offers.proofs.Ends.{by_counts, by_one_count, behind}
use Rattle.offers.proofs.record_end.Goals as goal

pub record_length-least-requires : goal.record_length-least-requires
record_length-least-requires c =
    let count_read : c.from-terms.result ≡ count_in c.args.buffer.now = c.from-terms.ensures ∙ (rw c.places.ensures.of_count at c.read.ensures) in
    let few : c.from-terms.result ≤ 1023 = rw (count_read) (few_terms c.args.buffer.now) in
    record { few_terms = few; few_specials = omega arith }

pub returns-then-version-ne2 : goal.returns-then-version-ne2
returns-then-version-ne2 c =
    let version_read : c.read-version.result ≡ version_in c.args.buffer.now = rw c.start.ensures at c.read-version.ensures in
    let count_read : c.from-terms.result ≡ count_in c.args.buffer.now = c.from-terms.ensures ∙ (rw c.places.ensures.of_count at c.read.ensures) in
    let version = version_read in
    by_one_count c.args.buffer.now (rw (version, count_read) at c.record_length-least.ensures) (λ second. c.if-version-ne2.true (version ∙ second))

pub returns-then-buffer-least : goal.returns-then-buffer-least
returns-then-buffer-least c =
    let version_read : c.read-version.result ≡ version_in c.args.buffer.now = rw c.start.ensures at c.read-version.ensures in
    let count_read : c.from-terms.result ≡ count_in c.args.buffer.now = c.from-terms.ensures ∙ (rw c.places.ensures.of_count at c.read.ensures) in
    let version = version_read in
    behind c.args.buffer.now (rw (version, count_read) at c.record_length-least.ensures) (sym version ∙ c.if-version-ne2.false) c.if-buffer-least.true

pub after_terms-requires : goal.after_terms-requires
after_terms-requires c =
    let count_read : c.from-terms.result ≡ count_in c.args.buffer.now = c.from-terms.ensures ∙ (rw c.places.ensures.of_count at c.read.ensures) in
    let few : c.from-terms.result ≤ 1023 = rw (count_read) (few_terms c.args.buffer.now) in
    few

pub read-requires-2 : goal.read-requires-2
read-requires-2 c =
    let end = end_of_second c.read-version.result c.from-terms.result 0 c.if-version-ne2.false in
    record { narrow = omega arith; inside = omega (arith, c.after_terms.ensures, c.if-buffer-least.false, c.record_length-least.ensures, end) }

pub record_length-requires : goal.record_length-requires
record_length-requires c =
    let version_read : c.read-version.result ≡ version_in c.args.buffer.now = rw c.start.ensures at c.read-version.ensures in
    let count_read : c.from-terms.result ≡ count_in c.args.buffer.now = c.from-terms.ensures ∙ (rw c.places.ensures.of_count at c.read.ensures) in
    let few : c.from-terms.result ≤ 1023 = rw (count_read) (few_terms c.args.buffer.now) in
    let specials_read : c.from-specials.result ≡ special_count_in c.args.buffer.now = let buffer = c.args.buffer.now in
    let second : version_in buffer ≡ 2 = sym (version_read) ∙ c.if-version-ne2.false in
    c.from-specials.ensures ∙ (rw (c.after_terms.ensures, count_read) at c.read-2.ensures) ∙ sym (special_count_field buffer second) in
    record { few_terms = few; few_specials = omega (arith, specials_read, few_specials c.args.buffer.now) }

pub returns : goal.returns
returns c =
    let version_read : c.read-version.result ≡ version_in c.args.buffer.now = rw c.start.ensures at c.read-version.ensures in
    let count_read : c.from-terms.result ≡ count_in c.args.buffer.now = c.from-terms.ensures ∙ (rw c.places.ensures.of_count at c.read.ensures) in
    let specials_read : c.from-specials.result ≡ special_count_in c.args.buffer.now = let buffer = c.args.buffer.now in
    let second : version_in buffer ≡ 2 = sym (version_read) ∙ c.if-version-ne2.false in
    c.from-specials.ensures ∙ (rw (c.after_terms.ensures, count_read) at c.read-2.ensures) ∙ sym (special_count_field buffer second) in
    by_counts c.args.buffer.now (rw (version_read, count_read, specials_read) at c.record_length.ensures)
