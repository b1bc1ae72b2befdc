-- The part that is handed back is what F-1 says in words.
use mathlib.Core.Path.{◌≡◌, sym, ap, ◌∙◌}
use mathlib.Core.Logic.{inl, inr}
use mathlib.Core.List.{List, []}
use Prim.Native.Nat.{ℕ}
use native.Mathlib.Omega.{arith}
use lib.ListN.{length, take}
use lib.Seq.{length-take-le}
use Rattle.offers.specs.Offers.{record_end, Part, front, better_offer}
use Rattle.offers.specs.Plainly.{HasCandidate, FirstWins, SecondWins, NoCandidate, HandedBack}
use Rattle.offers.proofs.Winners.{Won, neither_won, first_won, second_won, won}

-- a record is not empty
not_empty : {text buffer : List ℕ} → HasCandidate text buffer → take (record_end buffer) buffer ≡ [] → ⊥
not_empty {buffer = buffer} candidate empty = omega (arith, ap length empty, length-take-le (record_end buffer) buffer candidate.ended)

module _ (text : List ℕ) (first second : Part) where
  abbrev part : Part
  part = better_offer text first second

  data Outcome : Type 0 where
    nothing : part ≡ front 0 first → NoCandidate text first.bytes second.bytes → Outcome
    of_first : FirstWins text first second part → Outcome
    of_second : SecondWins text first second part → Outcome

  outcome : Won text first.bytes second.bytes → Outcome
  outcome (neither_won is no-candidate) = nothing (rw is) no-candidate
  outcome (first_won is candidate not_beaten) = of_first (record { part_is = rw is; candidate = candidate; not_beaten = not_beaten })
  outcome (second_won is candidate beats) = of_second (record { part_is = rw is; candidate = candidate; beats = beats })

  pub handed_back : HandedBack text first second (better_offer text first second)
  handed_back = by_outcome (outcome (won text first.bytes second.bytes))
    where
      by_outcome : Outcome → HandedBack text first second part
      by_outcome (nothing is no-candidate) = record {
        refused_is_empty = λ _. is;
        none_is_empty = λ _. is;
        empty_is_none = λ _. no-candidate;
        else_wins = λ some. absurd (some (ap (λ (it : Part). it.bytes) is));
      }
      by_outcome (of_first wins) = record {
        refused_is_empty = λ wrong. absurd (omega (arith, wins.candidate.text_right));
        none_is_empty = λ none. absurd (none.first_none wins.candidate);
        empty_is_none = λ empty. absurd (not_empty wins.candidate (sym (ap (λ (it : Part). it.bytes) wins.part_is) ∙ empty));
        else_wins = λ some. inl wins;
      }
      by_outcome (of_second wins) = record {
        refused_is_empty = λ wrong. absurd (omega (arith, wins.candidate.text_right));
        none_is_empty = λ none. absurd (none.second_none wins.candidate);
        empty_is_none = λ empty. absurd (not_empty wins.candidate (sym (ap (λ (it : Part). it.bytes) wins.part_is) ∙ empty));
        else_wins = λ some. inr wins;
      }
