-- The loop that writes terms one after another: `Entries` for terms whose nodes and values are lent as two lists.
use mathlib.Core.Path.{◌≡◌, sym, ap, ◌∙◌}
use mathlib.Core.List.{List, []}
use Prim.Native.Nat.{ℕ, suc, ◌+◌, ◌*◌, ◌≤◌, ◌<◌}
use native.Mathlib.Numerals.{add-one}
use native.Mathlib.Omega.{arith}
use lib.IntN.{ℤ}
use lib.ListN.{length, drop, drop_of_length-le}
use Rattle.bits.specs.Bits.{bits_of, replaced_at}
use Rattle.bits.proofs.Bytes.{length_bits_of}
use Rattle.histogram.specs.Terms.{paired}
use Rattle.histogram.proofs.Paired.{onwards, term_at, term_there}
use Rattle.record.specs.Layout.{layout_width}
use Rattle.record.specs.Record.{header_layout, term_layout, terms_bits, terms_end}
use Rattle.record_write.specs.Inner.{EntryPut}
use Rattle.record_write.proofs.Entries.{first_written, none_to_write}

-- the first i terms are written: the others, written from `place` on, give what all of them give behind the header
pub record WrittenSoFar (nodes : List ℕ) (values : List ℤ) (before now : List ℕ) (place i : ℕ) : Type 0 where
  pub inside : i ≤ length nodes
  pub place_is : place ≡ terms_end i
  pub same_length : length now ≡ length before
  pub others_to_come : replaced_at place (terms_bits (onwards nodes values i)) (bits_of now) ≡ replaced_at (layout_width header_layout) (terms_bits (paired nodes values)) (bits_of before)

module _ (nodes : List ℕ) (values : List ℤ) (before : List ℕ) where
  pub one_more_written : {now after : List ℕ} {place next i : ℕ} → length nodes ≡ length values → terms_end (length nodes) ≤ 8 * length before
      → WrittenSoFar nodes values before now place i → i < length nodes → length after ≡ length now
      → EntryPut term_layout (term_at nodes values i) place next now after → WrittenSoFar nodes values before after next (i + 1)
  one_more_written {now} {after} {place} {next} {i} same room so_far more as_long put =
      let within : place ≤ length (bits_of now) = omega (arith, so_far.place_is, so_far.same_length, length_bits_of now) in
      record {
        inside = omega arith;
        place_is = omega (arith, so_far.place_is, put.next_is);
        same_length = as_long ∙ so_far.same_length;
        others_to_come =
            rw (add-one i)
            (first_written term_layout (term_at nodes values i) (onwards nodes values (suc i)) within put
            ∙ ap (λ terms. replaced_at place (terms_bits terms) (bits_of now)) (sym (term_there nodes values i same more))
            ∙ so_far.others_to_come);
      }

  pub all_written : {now : List ℕ} {place i : ℕ} → WrittenSoFar nodes values before now place i → length nodes ≤ i
      → bits_of now ≡ replaced_at (layout_width header_layout) (terms_bits (paired nodes values)) (bits_of before)
  unfolding paired
  all_written {now} {place} {i} so_far done =
      let none_left : drop i nodes ≡ [] = drop_of_length-le nodes done in
      sym (none_to_write term_layout place (bits_of now))
      ∙ sym (ap (λ (l : List ℕ). replaced_at place (terms_bits (paired l (drop i values))) (bits_of now)) none_left)
      ∙ so_far.others_to_come
