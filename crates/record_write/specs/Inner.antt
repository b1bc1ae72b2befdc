-- What inner functions ask and promise. A reader of the promises need not open this file.
use Rattle.std.specs.Prelude.{◌≡◌, List, [], ◌++◌, ℕ, ◌+◌, ◌*◌, ◌-◌, ◌^◌, ◌≤◌, ◌<◌, ltb, ℤ, length, get_or, take, replicate, Result}
use Rattle.limits.specs.Answers.{◌when◌, granted, laid}
use Rattle.bands.specs.declared.SpecialSlot.{SpecialSlot}
use Rattle.bands.specs.Bands.{specials_among}
use Rattle.bits.specs.Bits.{bits_of, replaced_at}
use Rattle.histogram.specs.declared.Term.{Term}
use Rattle.histogram.specs.Terms.{paired, Valid}
use Rattle.record.specs.Layout.{Field, layout_width, layout_bits}
use Rattle.record.specs.Record.{special_layout, record_length, record_bytes, terms_end}
use Rattle.record.specs.Inner.{Counted}
use Rattle.refusals.specs.declared.Refusal.{Refusal}
use Rattle.refusals.specs.Answers.{refused_with, answered}

-- a length, terms that are valid for it, and the bands that the first slots go by, among them so many that are not the common one
pub record Writable (n common : ℕ) (nodes : List ℕ) (values : List ℤ) (bands : List ℕ) (specials : ℕ) : Type 0 where
  pub some_slot : 1 ≤ n
  pub few_slots : n ≤ 512
  pub terms_paired : length nodes ≡ length values
  pub terms_valid : Valid n (paired nodes values)
  pub bands_of_slots : length bands ≤ n
  pub specials_counted : specials ≡ length (specials_among common bands)

-- the record of such a header, terms and special slots: 6 alone refuses it
pub record BandsWritten (n band : ℕ) (rest : ℤ) (terms : List Term) (specials : List SpecialSlot) (answer : Result ℕ Refusal) (before after : List ℕ) : Type 0 where
  pub refusal_is : refused_with answer ≡ 6 when ltb (length before) (record_length (length terms) (length specials))
  pub count_is : answered 0 answer ≡ granted (refused_with answer) (record_length (length terms) (length specials)) 0
  pub destination_is : after ≡ laid (granted (refused_with answer) (record_bytes n band rest terms specials) []) before

-- numbers of a header that fit their fields, and bytes that have room for it; its band and its rest value fit by their types
pub record HeaderFits (version n count : ℕ) (bytes : List ℕ) : Type 0 where
  pub version_fits : version < 16
  pub some_slot : 1 ≤ n
  pub few_slots : n ≤ 512
  pub few_terms : count ≤ 1023
  pub room : 7 ≤ length bytes

-- bytes that are just as long as a record of so many terms and special slots
pub record FillFits (terms specials : ℕ) (bytes : List ℕ) : Type 0 where
  pub counted : Counted terms specials
  pub just_room : length bytes ≡ record_length terms specials

-- room for terms behind a header, and nodes that fit their fields; their values do by their type
pub record TermsFit (nodes : List ℕ) (values : List ℤ) (bytes : List ℕ) : Type 0 where
  pub same_length : length nodes ≡ length values
  pub nodes_fit : (k : ℕ) → get_or nodes k 0 < 1024
  pub few_terms : length nodes ≤ 1023
  pub room : terms_end (length nodes) ≤ 8 * length bytes

-- so many special slots among bands, and bytes that are just as long as their record
pub record SpecialsFit (terms common : ℕ) (bands : List ℕ) (specials : ℕ) (bytes : List ℕ) : Type 0 where
  pub few_bands : length bands ≤ 512
  pub specials_counted : specials ≡ length (specials_among common bands)
  pub fill_fits : FillFits terms specials bytes

-- the same for a record
pub record RecordFits (n common : ℕ) (nodes : List ℕ) (values : List ℤ) (bands : List ℕ) (specials : ℕ) (bytes : List ℕ) : Type 0 where
  pub some_slot : 1 ≤ n
  pub few_slots : n ≤ 512
  pub same_length : length nodes ≡ length values
  pub nodes_fit : (k : ℕ) → get_or nodes k 0 < 1024
  pub specials_fit : SpecialsFit (length nodes) common bands specials bytes

-- room for the special slots among bands from a place on
pub record WalkFits (place common : ℕ) (bands : List ℕ) (bytes : List ℕ) : Type 0 where
  pub few_bands : length bands ≤ 512
  pub near : place < 2 ^ 32
  pub room : place + layout_width special_layout * length (specials_among common bands) ≤ 8 * length bytes

-- a place with room for an entry, behind which a place can be counted
pub record RoomFor {A : Type 0} (layout : List (Field A)) (place : ℕ) (bytes : List ℕ) : Type 0 where
  pub room : place + layout_width layout ≤ 8 * length bytes
  pub counted : place + layout_width layout < 2 ^ 64

-- an entry written at a place, and the place after it
pub record EntryPut {A : Type 0} (layout : List (Field A)) (entry : A) (place next : ℕ) (before after : List ℕ) : Type 0 where
  pub next_is : next ≡ place + layout_width layout
  pub bits_are : bits_of after ≡ replaced_at place (layout_bits layout entry) (bits_of before)

-- bits with zeros from some place on
abbrev pub filled : ℕ → List ℕ → List ℕ
filled used before = take used before ++ replicate (length before - used) 0
