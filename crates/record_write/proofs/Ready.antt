-- What follows of a header, terms and bands that can be written: each number fits its field. And the two answers of writing them.
use mathlib.Core.Path.{◌≡◌, refl, sym, ap₂, ◌∙◌}
use mathlib.Core.List.{List, ◌++◌}
use Prim.Native.Nat.{ℕ, ◌*◌, ◌≤◌, ◌<◌}
use native.Mathlib.Omega.{arith}
use lib.IntN.{ℤ}
use lib.ListN.{length, drop}
use borrow.Author.Tests.{lt-ltb, le-ltb}
use Rattle.std.specs.Prelude.{Ok, Err}
use Rattle.refusals.specs.declared.Refusal.TheVariants.{OutputShort}
use Rattle.bands.specs.declared.SpecialSlot.{SpecialSlot}
use Rattle.bands.specs.Bands.{specials_among}
use Rattle.bands.proofs.Bands.{few_among}
use Rattle.bits.proofs.Packing.{length_packed}
use Rattle.histogram.specs.declared.Term.{Term}
use Rattle.histogram.specs.Tree.{padded}
use Rattle.histogram.specs.Terms.{paired}
use Rattle.histogram.proofs.Ascent.{ValidFrom, node_below, valid_few}
use Rattle.histogram.proofs.Paired.{length_paired}
use Rattle.histogram.proofs.Powers.{height_reaches, padded_bound}
use Rattle.record.specs.Record.{record_bits, record_length, record_bytes}
use Rattle.record.specs.Inner.{Counted}
use Rattle.record_write.specs.Inner.{Writable, BandsWritten, RecordFits}

module _ {n common : ℕ} {nodes : List ℕ} {values : List ℤ} {bands : List ℕ} {specials : ℕ} (ready : Writable n common nodes values bands specials) where
  some_end : 0 < 2 * padded n
  some_end = omega (arith, height_reaches n, ready.some_slot)

  end_within : 2 * padded n ≤ 1024
  end_within = omega (arith, padded_bound ready.few_slots)

  proper : ValidFrom 0 (2 * padded n) (paired nodes values)
  proper = record { passes = ready.terms_valid }

  pub counted : Counted (length nodes) specials
  counted = record {
    few_terms = omega (arith, length_paired nodes values ready.terms_paired, valid_few (paired nodes values) some_end proper, end_within);
    few_specials = omega (arith, ready.specials_counted, few_among common bands, ready.bands_of_slots, ready.few_slots);
  }

  -- a record's length by how many terms and special slots there are, and by their lists
  pub long_by_lists : {count : ℕ} → count ≡ record_length (length nodes) specials → count ≡ record_length (length (paired nodes values)) (length (specials_among common bands))
  long_by_lists long = rw (length_paired nodes values ready.terms_paired, ← ready.specials_counted) long

  pub fits_just : (bytes : List ℕ) → length bytes ≡ record_length (length nodes) specials → RecordFits n common nodes values bands specials bytes
  fits_just bytes just_room = record {
    some_slot = ready.some_slot;
    few_slots = ready.few_slots;
    same_length = ready.terms_paired;
    nodes_fit = λ k. omega (arith, end_within, node_below nodes values ready.terms_paired some_end proper k);
    specials_fit = record {
      few_bands = omega (arith, ready.bands_of_slots, ready.few_slots);
      specials_counted = ready.specials_counted;
      fill_fits = record { counted = counted; just_room = just_room };
    };
  }

module _ (n band : ℕ) (rest : ℤ) (terms : List Term) (specials : List SpecialSlot) (before : List ℕ) where
  -- how many bytes the record has
  abbrev long : ℕ
  long = record_length (length terms) (length specials)

  pub too_short : length before < long → BandsWritten n band rest terms specials (Err OutputShort) before before
  too_short short = record { refusal_is = rw (lt-ltb (length before) long short); count_is = refl; destination_is = refl }

  pub record_over : (count : ℕ) (front : List ℕ) → count ≡ long → count ≤ length before → front ≡ record_bytes n band rest terms specials
      → BandsWritten n band rest terms specials (Ok count) before (front ++ drop count before)
  record_over count front count_is fits front_is = record {
    refusal_is = rw (le-ltb (length before) long (omega arith));
    count_is = count_is;
    destination_is = ap₂ (λ (l : List ℕ) (k : ℕ). l ++ drop k before) front_is (count_is ∙ sym (length_packed long (record_bits n band rest terms specials)));
  }
