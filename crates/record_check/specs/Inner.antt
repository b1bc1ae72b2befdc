-- What inner functions ask and promise. A reader of the promises need not open this file.
use Rattle.std.specs.Prelude.{List, ℕ, ◌≤◌, ℤ, length, take}
use Rattle.histogram.specs.declared.Term.{Term}
use Rattle.histogram.specs.Terms.{paired}
use Rattle.verdict.specs.Inner.{Judgeable}
use Rattle.record_read.specs.declared.Header.{Header}

-- the terms at the front of the room, as many as a header counts
abbrev pub room_terms : Header → List ℕ → List ℤ → List Term
room_terms header nodes values = paired (take header.count nodes) (take header.count values)

-- a profile and a record that was read into room, which can be judged
pub record RecordJudgeable (profile : List ℤ) (header : Header) (nodes : List ℕ) (values : List ℤ) (bands : List ℕ) : Type 0 where
  pub in_nodes : header.count ≤ length nodes
  pub in_values : header.count ≤ length values
  pub in_bands : length profile ≤ length bands
  pub judgeable : Judgeable profile (take (length profile) bands) header.rest (take header.count nodes) (take header.count values)
