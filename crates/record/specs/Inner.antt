-- What the places of a record's fields are. A reader of the promises need not open this file.
use Rattle.std.specs.Prelude.{◌≡◌, List, ℕ, ◌≤◌, take}
use Rattle.record.specs.declared.FieldPlaces.{FieldPlaces}
use Rattle.record.specs.Layout.{Field, layout_width}
use Rattle.record.specs.Record.{header_layout}

-- where a row of a layout begins: behind the rows before it
abbrev pub place_of : {A : Type 0} → List (Field A) → ℕ → ℕ
place_of layout row = layout_width (take row layout)

-- where the fields after the version and the first term stand
pub record PlacesAre (places : FieldPlaces) : Type 0 where
  pub of_length : places.length.at ≡ place_of header_layout 1
  pub of_band : places.band.at ≡ place_of header_layout 2
  pub of_rest : places.rest.at ≡ place_of header_layout 3
  pub of_count : places.count.at ≡ place_of header_layout 4
  pub of_terms : places.terms.at ≡ layout_width header_layout

-- as many terms and special slots as their counts can say
pub record Counted (terms specials : ℕ) : Type 0 where
  pub few_terms : terms ≤ 1023
  pub few_specials : specials ≤ 1023
