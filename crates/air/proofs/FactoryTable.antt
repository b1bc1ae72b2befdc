-- The rule of the factory's table: one test, computed at every entry, says that the entry is the flow of its step.
use mathlib.Core.Path.{◌≡◌, sym, ◌∙◌}
use mathlib.Core.Bool.{Bool, ◌&&◌}
use mathlib.Core.List.{List}
use Prim.Native.Nat.{ℕ, suc, ◌*◌, ◌≤◌, ◌<◌}
use native.Mathlib.Omega.{arith}
use lib.Dec.{T, leb, ltb, leb→le, ltb→lt}
use lib.ListN.{length, get_or}
use mir.Facts.{and_yes}
use Rattle.air.specs.Flows.{flow_of}
use Rattle.air.specs.Inner.{LentTable}
use Rattle.air.proofs.Roots.{flow_is}
use Rattle.air.proofs.Entries.{passes, at_each_place}
use Rattle.air.proofs.LowestStep.{factory}

-- the test of one entry: its square is at most 2,500 times the step, and the square of the next number is above that
abbrev pub is_flow : ℕ → ℕ → Bool
is_flow step entry = leb (entry * entry) (2500 * step) && ltb (2500 * step) (suc entry * suc entry)

-- a table at all of whose entries the test passes has the flow of each step
pub each_flow : (table : List ℕ) → T (passes is_flow 0 table) → (step : ℕ) → step < length table → get_or table step 0 ≡ flow_of step
each_flow table passed step within =
    let both = and_yes (leb (get_or table step 0 * get_or table step 0) (2500 * step)) _ (at_each_place is_flow table passed step within) in
    sym (flow_is step (get_or table step 0) (record { reached = leb→le (get_or table step 0 * get_or table step 0) (2500 * step) both.0; next_not = ltb→lt (2500 * step) _ both.1 }))

-- such a table of 401 entries is one that can be searched
pub factory_table : (table : List ℕ) → T (passes is_flow 0 table) → length table ≡ 401 → LentTable table
factory_table table passed long = record {
  each_step = long;
  is_table = record {
    starts = at 0 (omega arith) ∙ factory.starts;
    ends = at 400 (omega arith) ∙ factory.ends;
    never_falls = λ step below. omega (arith, at step (omega arith), at (suc step) (omega arith), factory.never_falls step below);
  };
}
  where
    at : (step : ℕ) → step ≤ 400 → get_or table step 0 ≡ flow_of step
    at step within = each_flow table passed step (omega (arith, long))
