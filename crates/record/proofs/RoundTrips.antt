-- The two round trips of demand 2, for every header, list of terms and list of special slots, and for every byte string.
-- Both rest on those of any layout and of any list of entries, `Layouts` and `Entries`: a header is a layout at the front, the terms are entries of another behind it,
-- and the special slots are entries of a third behind their count, `Specials`.
use mathlib.Core.Path.{◌≡◌, sym, ap, ap₂, ◌∙◌}
use mathlib.Core.Bool.{Bool, true, not, ◌&&◌}
use mathlib.Core.List.{List, [], ◌∷◌, ◌++◌, append_assoc}
use Prim.Native.Nat.{ℕ, ◌*◌, ◌-◌, ◌^◌, ◌≤◌, ◌<◌}
use native.Mathlib.Omega.{arith}
use lib.Dec.{leb, ltb, eqb}
use lib.IntN.{ℤ, pos, negsuc, nat_abs}
use lib.ListN.{length, get_or, drop, replicate, length-append, length-drop}
use lib.Seq.{drop_at, drop-drop}
use borrow.Author.Tests.{le-leb, le-ltb, eq-eqb, eqb-true, leb-true, ltb-false, not-false}
use Rattle.limits.specs.Limits.{beyond, outside_band, outside_slots}
use Rattle.limits.specs.Answers.{◌when◌, ◌then◌}
use Rattle.limits.proofs.Beyond.{band_accepted}
use Rattle.limits.proofs.Refusals.{none_of_two, passed, passed_last, slots_within}
use Rattle.limits.proofs.Tests.{both_hold}
use Rattle.bands.specs.declared.SpecialSlot.{SpecialSlot}
use Rattle.bands.specs.Bands.{right_specials}
use Rattle.bands.proofs.Bands.{few_specials}
use Rattle.bands.proofs.Right.{RightFrom}
use Rattle.bits.specs.Bits.{number_of, bits_of}
use Rattle.bits.specs.Signed.{signed_of}
use Rattle.bits.specs.Inner.{Below, SignedBits}
use Rattle.bits.proofs.Numbers.{append_below, drop_below}
use Rattle.bits.proofs.Bytes.{length_bits_of, bits_of_below, bytes_from_bits}
use Rattle.bits.proofs.Packing.{length_packed, packed_below, bits_of_packed}
use Rattle.bits.proofs.Complement.{complement_reads_back, complement_fits}
use Rattle.histogram.specs.declared.Term.{Term}
use Rattle.histogram.specs.Tree.{padded}
use Rattle.histogram.specs.Terms.{valid}
use Rattle.histogram.proofs.Ascent.{ValidFrom, first_below, first_within, rest_valid, valid_few}
use Rattle.histogram.proofs.Powers.{height_reaches, padded_bound}
use Rattle.record.specs.Layout.{layout_width, layout_bits, layout_numbers, held}
use Rattle.record.specs.Record.{Header, header_layout, term_layout, special_layout, header_bits, term_bits, terms_bits, version_for, specials_bits, record_bits, terms_end, specials_width, fields_end, bytes_for, record_length, record_bytes, header_numbers, version_in, slots_in, band_in, rest_in, count_in, term_in, terms_from, terms_in, special_count_in, special_in, specials_in, end_in, bytes_in, fill_in, known_version, well_formed, specials_right}
use Rattle.record.specs.Answers.{packing_refusal, header_refusal, record_refusal}
use Rattle.record.proofs.Fill.{zeros, number_of_zeros}
use Rattle.record.proofs.Layouts.{no_row, row, signed_row, length_layout, layout_below, behind_layout, layout_reads_back, layout_is_written}
use Rattle.record.proofs.Entries.{length_entries, entries_below, length_from, ReadsBack, AllReadBack, none_left, and_more, entries_read_back, entries_are_written}
use Rattle.record.proofs.Specials.{length_specials, specials_below, version_fits, version_known, some_in_second, right_fit, specials_read_back, length_specials_in, version_is, specials_are_written}

-- ---- how long the pieces are, and that they are bits

module _ (n band : ℕ) (rest : ℤ) (terms : List Term) (specials : List SpecialSlot) where
  -- the header that is written
  abbrev header : Header
  header = record { version = version_for (length specials); slots = n; band = band; rest = rest; count = length terms }

  pub length_header : length (header_bits (version_for (length specials)) n band rest (length terms)) ≡ layout_width header_layout
  length_header = length_layout header header_layout

  pub record_below : Below 2 (record_bits n band rest terms specials)
  record_below = append_below _ _ (layout_below header header_layout) (append_below _ _ (entries_below term_layout terms) (specials_below specials))

  pub length_record : length (record_bits n band rest terms specials) ≡ fields_end (version_for (length specials)) (length terms) (length specials)
  length_record =
      let in-header = length-append (header_bits (version_for (length specials)) n band rest (length terms)) (terms_bits terms ++ specials_bits specials) in
      let behind = length-append (terms_bits terms) (specials_bits specials) in
      omega (arith, in-header, behind, length_header, length_entries term_layout terms, length_specials specials)

  -- the bits of a record's bytes: its fields, then zeros
  pub written_bits : bits_of (record_bytes n band rest terms specials)
      ≡ record_bits n band rest terms specials ++ replicate (record_length (length terms) (length specials) * 8 - length (record_bits n band rest terms specials)) 0
  written_bits = bits_of_packed (record_length (length terms) (length specials)) (record_bits n band rest terms specials) record_below (omega (arith, length_record))

-- ---- an accepted record is byte for byte what writing its header, terms and special slots produces

-- a term's numbers are those that the term holds
term_exact : (place : ℕ) (bytes : List ℕ) → layout_numbers term_layout place bytes ≡ held term_layout (term_in place bytes)
term_exact place bytes = rw signed_row

module _ (bytes : List ℕ) where
  pub length_terms_in : length (terms_in bytes) ≡ count_in bytes
  length_terms_in = length_from term_layout term_in (count_in bytes) (layout_width header_layout) bytes

  -- the record that writing what was read produces
  abbrev pub rewritten : List ℕ
  rewritten = record_bytes (slots_in bytes) (band_in bytes) (rest_in bytes) (terms_in bytes) (specials_in bytes)

  -- the fields of enough bytes, one after the other
  fields_in_front : version_in bytes ≡ version_for (length (specials_in bytes)) → end_in bytes ≤ 8 * length bytes
      → record_bits (slots_in bytes) (band_in bytes) (rest_in bytes) (terms_in bytes) (specials_in bytes) ++ drop (end_in bytes) (bits_of bytes) ≡ bits_of bytes
  fields_in_front version inside =
      let header : Header = record { version = version_in bytes; slots = slots_in bytes; band = band_in bytes; rest = rest_in bytes; count = count_in bytes } in
      let length_is : slots_in bytes - 1 ≡ get_or (header_numbers bytes) 1 0 = omega arith in
      let numbers_are : header_numbers bytes ≡ held header_layout header = rw (length_is, signed_row) in
      let behind : terms_bits (terms_in bytes) ++ (specials_bits (specials_in bytes) ++ drop (end_in bytes) (bits_of bytes)) ≡ drop (layout_width header_layout) (bits_of bytes) =
      rw (specials_are_written bytes version inside) (entries_are_written term_layout term_in term_exact (count_in bytes) (layout_width header_layout) bytes (omega arith)) in
      rw (← version, length_terms_in, append_assoc (header_bits (version_in bytes) (slots_in bytes) (band_in bytes) (rest_in bytes) (count_in bytes)), append_assoc (terms_bits (terms_in bytes)), behind)
      (layout_is_written header header_layout 0 bytes (omega arith) numbers_are)

  -- the four tests of row 7
  all_right : leb 7 (length bytes) ≡ true → known_version (version_in bytes) ≡ true → eqb (length bytes) (bytes_in bytes) ≡ true → eqb (fill_in bytes) 0 ≡ true → well_formed bytes ≡ true
  all_right long_enough known byte_count fill_zero = ap₂ (λ (a b : Bool). a && b) long_enough (ap₂ (λ (a b : Bool). a && b) known (ap₂ (λ (a b : Bool). a && b) byte_count fill_zero))

  -- what a well-formed record has
  pub record WellFormed : Type 0 where
    pub long_enough : 7 ≤ length bytes
    pub known : known_version (version_in bytes) ≡ true
    pub byte_count : length bytes ≡ bytes_in bytes
    pub fill_zero : fill_in bytes ≡ 0

  pub well_formed_parts : well_formed bytes ≡ true → WellFormed
  well_formed_parts right =
      let long_enough : Bool = leb 7 (length bytes) in
      let known : Bool = known_version (version_in bytes) in
      let byte_count : Bool = eqb (length bytes) (bytes_in bytes) in
      let fill_zero : Bool = eqb (fill_in bytes) 0 in
      let first = both_hold long_enough (known && (byte_count && fill_zero)) right in
      let second = both_hold known (byte_count && fill_zero) first.1 in
      let last = both_hold byte_count fill_zero second.1 in
      record {
        long_enough = leb-true 7 (length bytes) first.0;
        known = second.0;
        byte_count = eqb-true (length bytes) (bytes_in bytes) last.0;
        fill_zero = eqb-true (fill_in bytes) 0 last.1;
      }

  -- a well-formed record of the version that its special slots have
  well_formed_is_written : Below 256 bytes → WellFormed → version_in bytes ≡ version_for (length (specials_in bytes)) → bytes ≡ rewritten
  well_formed_is_written all-bytes parts version =
      let end : ℕ = end_in bytes in
      let count : ℕ = record_length (length (terms_in bytes)) (length (specials_in bytes)) in
      let written : List ℕ = record_bits (slots_in bytes) (band_in bytes) (rest_in bytes) (terms_in bytes) (specials_in bytes) in
      let end_is : fields_end (version_for (length (specials_in bytes))) (length (terms_in bytes)) (length (specials_in bytes)) ≡ end = rw (← version, length_terms_in, length_specials_in bytes) in
      let written_long : length written ≡ end = length_record (slots_in bytes) (band_in bytes) (rest_in bytes) (terms_in bytes) (specials_in bytes) ∙ end_is in
      let fill_long : length (drop end (bits_of bytes)) ≡ count * 8 - length written = simp length-drop (omega (arith, parts.byte_count, length_bits_of bytes)) in
      let fill_is : drop end (bits_of bytes) ≡ replicate (count * 8 - length written) 0 =
      zeros (drop end (bits_of bytes)) (drop_below end (bits_of bytes) (bits_of_below bytes)) parts.fill_zero ∙ ap (λ (k : ℕ). replicate k 0) fill_long in
      bytes_from_bits bytes rewritten all-bytes
      (packed_below count written (record_below (slots_in bytes) (band_in bytes) (rest_in bytes) (terms_in bytes) (specials_in bytes)))
      (sym (written_bits (slots_in bytes) (band_in bytes) (rest_in bytes) (terms_in bytes) (specials_in bytes) ∙ ap (λ (l : List ℕ). written ++ l) (sym fill_is)
      ∙ fields_in_front version (omega (arith, parts.byte_count))))

  -- "a record that is accepted is byte for byte what writing its terms and header produces"
  pub accepted_is_written : Below 256 bytes → record_refusal bytes ≡ 0 → bytes ≡ rewritten
  accepted_is_written all-bytes none =
      let header_right = none_of_two (header_refusal bytes) _ none in
      let seven = passed 6 (not (well_formed bytes)) (2 when beyond 20000 (rest_in bytes) then 3 when ltb 40000 (band_in bytes)) header_right.0 in
      let eight = passed 7 (not (valid (slots_in bytes) (terms_in bytes))) _ header_right.1 in
      let eleven : specials_right bytes ≡ true = not-false (specials_right bytes) (passed_last 10 (not (specials_right bytes)) eight.1) in
      let parts = well_formed_parts (not-false (well_formed bytes) seven.0) in
      let some : Bool = not (eqb (version_in bytes) 2 && eqb (special_count_in bytes) 0) in
      well_formed_is_written all-bytes parts
      (version_is bytes parts.known (both_hold some (right_specials (slots_in bytes) (band_in bytes) (specials_in bytes)) eleven).0)

-- ---- writing and then reading gives the same header, terms and special slots

-- a term that fits its fields reads back
term_reads_back : (term : Term) → term.node < 2 ^ 10 → SignedBits 16 term.value → ReadsBack term_layout term_in term
term_reads_back term node_fits value_fits = record { reads = there }
  where
    there : (place : ℕ) (bytes back : List ℕ) → drop place (bits_of bytes) ≡ term_bits term ++ back → term_in place bytes ≡ term
    there place bytes back stands =
        let numbers : layout_numbers term_layout place bytes ≡ held term_layout term =
        layout_reads_back term term_layout place bytes back (row node_fits (row (complement_fits 16 term.value value_fits) no_row)) stands in
        let value_is : signed_of 16 (get_or (layout_numbers term_layout place bytes) 1 0) ≡ term.value =
        ap (λ (l : List ℕ). signed_of 16 (get_or l 1 0)) numbers ∙ complement_reads_back 16 term.value value_fits in
        λ i. record { node = get_or (numbers i) 0 0; value = value_is i }

-- what bytes read as is a header, terms and special slots
pub record ReadsAs (bytes : List ℕ) (n band : ℕ) (rest : ℤ) (terms : List Term) (specials : List SpecialSlot) : Type 0 where
  pub form_is_right : well_formed bytes ≡ true
  pub version_same : version_in bytes ≡ version_for (length specials)
  pub slots_same : slots_in bytes ≡ n
  pub band_same : band_in bytes ≡ band
  pub rest_same : rest_in bytes ≡ rest
  pub count_same : count_in bytes ≡ length terms
  pub terms_same : terms_in bytes ≡ terms
  pub special_count_same : special_count_in bytes ≡ length specials
  pub specials_same : specials_in bytes ≡ specials

module _ (n band : ℕ) (rest : ℤ) (terms : List Term) (specials : List SpecialSlot) (slots_fit : n - 1 < 2 ^ 9) (some_slot : 1 ≤ n) (band_fits : band < 2 ^ 16) (rest_fits : SignedBits 16 rest)
    (few : length terms < 2 ^ 10) (terms_fit : AllReadBack term_layout term_in terms) (few-special : length specials < 2 ^ 10) (specials_fit : AllReadBack special_layout special_in specials) where
  fields_read_back : ReadsAs (record_bytes n band rest terms specials) n band rest terms specials
  fields_read_back =
      let bytes : List ℕ = record_bytes n band rest terms specials in
      let header : Header = record { version = version_for (length specials); slots = n; band = band; rest = rest; count = length terms } in
      let fill : List ℕ = replicate (record_length (length terms) (length specials) * 8 - length (record_bits n band rest terms specials)) 0 in
      let behind_terms : List ℕ = specials_bits specials ++ fill in
      let header_stands : bits_of bytes ≡ layout_bits header_layout header ++ (terms_bits terms ++ behind_terms) =
      written_bits n band rest terms specials ∙ append_assoc (layout_bits header_layout header) (terms_bits terms ++ specials_bits specials) fill
      ∙ ap (λ (l : List ℕ). layout_bits header_layout header ++ l) (append_assoc (terms_bits terms) (specials_bits specials) fill) in
      let numbers : header_numbers bytes ≡ held header_layout header =
      layout_reads_back header header_layout 0 bytes _ (row (version_fits (length specials)) (row slots_fit (row band_fits (row (complement_fits 16 rest rest_fits) (row few no_row))))) header_stands in
      let in_row : (k : ℕ) → get_or (header_numbers bytes) k 0 ≡ get_or (held header_layout header) k 0 = λ k. ap (λ (l : List ℕ). get_or l k 0) numbers in
      let terms_stand : drop (layout_width header_layout) (bits_of bytes) ≡ terms_bits terms ++ behind_terms = behind_layout header header_layout 0 (bits_of bytes) _ header_stands in
      let version : version_in bytes ≡ version_for (length specials) = in_row 0 in
      let count_is : count_in bytes ≡ length terms = in_row 4 in
      let specials_stand : drop (terms_end (count_in bytes)) (bits_of bytes) ≡ behind_terms =
      ap (λ (k : ℕ). drop (terms_end k) (bits_of bytes)) count_is
      ∙ sym (drop-drop (layout_width term_layout * length terms) (layout_width header_layout) (bits_of bytes))
      ∙ rw terms_stand (drop_at (terms_bits terms) behind_terms (layout_width term_layout * length terms) (length_entries term_layout terms)) in
      let specials_are = specials_read_back bytes fill specials few-special specials_fit version specials_stand in
      let width : ℕ = specials_width (version_in bytes) (special_count_in bytes) in
      let width_is : length (specials_bits specials) ≡ width = length_specials specials ∙ (λ i. specials_width (sym version i) (sym specials_are.0 i)) in
      let fill_stands : drop (end_in bytes) (bits_of bytes) ≡ fill =
      sym (drop-drop width (terms_end (count_in bytes)) (bits_of bytes)) ∙ ap (drop width) specials_stand ∙ drop_at (specials_bits specials) fill width width_is in
      let fill_is : fill_in bytes ≡ 0 = ap number_of fill_stands ∙ number_of_zeros (record_length (length terms) (length specials) * 8 - length (record_bits n band rest terms specials)) in
      let long : length bytes ≡ record_length (length terms) (length specials) = length_packed (record_length (length terms) (length specials)) (record_bits n band rest terms specials) in
      let byte_count : bytes_in bytes ≡ record_length (length terms) (length specials) = λ i. bytes_for (version i) (count_is i) (specials_are.0 i) in
      record {
        form_is_right = all_right bytes (le-leb 7 (length bytes) (omega arith)) (ap known_version version ∙ version_known (length specials)) (eq-eqb (length bytes) (bytes_in bytes) (long ∙ sym byte_count)) (eq-eqb (fill_in bytes) 0 fill_is);
        version_same = version;
        slots_same = omega (arith, in_row 1);
        band_same = in_row 2;
        rest_same = ap (signed_of 16) (in_row 3) ∙ complement_reads_back 16 rest rest_fits;
        count_same = count_is;
        terms_same = ap (λ (k : ℕ). terms_from k (layout_width header_layout) bytes) count_is ∙ entries_read_back term_layout term_in terms (layout_width header_layout) bytes behind_terms terms_fit terms_stand;
        special_count_same = specials_are.0;
        specials_same = specials_are.1;
      }

within_signed : (value : ℤ) → nat_abs value ≤ 20000 → SignedBits 16 value
within_signed (pos number) small = record { some = omega arith; small = omega arith }
within_signed (negsuc below) small = record { some = omega arith; small = omega arith }

-- a valid list of terms fits its fields, and is short enough for its count
valid_fits : {last end : ℕ} (terms : List Term) → end ≤ 2 ^ 10 → ValidFrom last end terms → AllReadBack term_layout term_in terms
valid_fits [] small proper = none_left
valid_fits (term ∷ terms) small proper =
    let node_fits : term.node < 2 ^ 10 = omega (arith, first_below proper) in
    and_more (term_reads_back term node_fits (within_signed term.value (first_within proper))) (valid_fits terms small (rest_valid proper))

-- "Writing a record and reading it gives the same terms and header"; "demand 2's header takes them in", the special slots
pub written_reads_back : (n : ℕ) (band rest : ℤ) (terms : List Term) (specials : List SpecialSlot) → packing_refusal n band rest terms specials ≡ 0
    → (record_refusal (record_bytes n (nat_abs band) rest terms specials) ≡ 0) × ReadsAs (record_bytes n (nat_abs band) rest terms specials) n (nat_abs band) rest terms specials
written_reads_back n band rest terms specials none =
    let four = passed 3 (outside_slots n) _ none in
    let two = passed 1 (beyond 20000 rest) _ four.1 in
    let three = passed 2 (outside_band band) _ two.1 in
    let eight = passed 7 (not (valid n terms)) _ three.1 in
    let eleven = passed_last 10 (not (right_specials n (nat_abs band) specials)) eight.1 in
    let is_valid : valid n terms ≡ true = not-false (valid n terms) eight.0 in
    let are_right : right_specials n (nat_abs band) specials ≡ true = not-false (right_specials n (nat_abs band) specials) eleven in
    let slots = slots_within n four.0 in
    let proper : ValidFrom 0 (2 * padded n) terms = record { passes = rw is_valid tt } in
    let right : RightFrom 0 n (nat_abs band) specials = record { passes = rw are_right tt } in
    let end_small : 2 * padded n ≤ 1024 = omega (arith, padded_bound slots.few_slots) in
    let some_end : 0 < 2 * padded n = omega (arith, height_reaches n, slots.some_slot) in
    let band-small = band_accepted band three.0 in
    let back = fields_read_back n (nat_abs band) rest terms specials (omega (arith, slots.few_slots)) slots.some_slot (omega arith)
    (within_signed rest (ltb-false 20000 (nat_abs rest) two.0)) (omega (arith, valid_few terms some_end proper)) (valid_fits terms end_small proper)
    (omega (arith, few_specials (nat_abs band) n specials right.passes, slots.few_slots)) (right_fit specials slots.few_slots right) in
    (rw (back.form_is_right, back.rest_same, two.0, back.band_same, le-ltb 40000 (nat_abs band) band-small, back.slots_same, back.terms_same, is_valid, back.specials_same, are_right, back.special_count_same, back.version_same, some_in_second (length specials)), back)
