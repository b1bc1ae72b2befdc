-- `synopsis::read_profile` meets its contract: the text's special slots, which the room has places for, are put together over the destination.
use Rattle.std.proofs.Common.{◌≡◌, List, Err, length, sym, ap, ◌∙◌, rules}
use Rattle.limits.specs.Answers.{laid}
use Rattle.refusals.proofs.Rows.{row_nothing}
use Rattle.bands.specs.declared.SpecialSlot.{SpecialSlot}
use Rattle.profile.specs.Answers.{profile_refusal}
use Rattle.synopsis.specs.Sorts.{special_laws}
use Rattle.synopsis.proofs.Rooms.{room_part, same_text, handed_pairs}
use Rattle.synopsis.proofs.read_profile.Goals as goal

pub returns-in_err-numbers : goal.returns-in_err-numbers
returns-in_err-numbers c =
    let a = c.args in
    let read = c.in_err-numbers.ensures in
    let is : c.from_residual.result ≡ Err c.in_err-numbers.field-0.0 = search rules in
    rw is record {
      refusal_is = read.refusal_is ∙ ap (profile_refusal a.text.now (length a.setpoints.now)) (room_part 513 (length a.specials.now) c.min-limit.ensures) ∙ same_text a.text.now (length a.setpoints.now) (length a.specials.now);
      numbers = read.numbers;
      setpoints_are = read.destination_is;
      specials_are = search (rules, row_nothing);
    }

pub returns : goal.returns
returns c =
    let a = c.args in
    let read = c.in_ok-numbers.ensures in
    record {
      refusal_is = read.refusal_is ∙ ap (profile_refusal a.text.now (length a.setpoints.now)) (room_part 513 (length a.specials.now) c.min-limit.ensures) ∙ same_text a.text.now (length a.setpoints.now) (length a.specials.now);
      numbers = read.numbers;
      setpoints_are = read.destination_is;
      specials_are = c.put_together.ensures ∙ ap (λ (l : List SpecialSlot). laid l a.specials.now) (handed_pairs special_laws _ (sym read.numbers.specials_is) _ _ read.specials_are read.own_are _ _);
    }
