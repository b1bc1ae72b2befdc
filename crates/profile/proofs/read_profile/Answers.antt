-- `profile::read_profile` meets its contract where it refuses nothing: the text's setpoints and special slots are laid over the destinations.
use Rattle.std.proofs.Common.{arith, ◌≡◌, sym, ap, ◌∙◌, nat_abs, List, ℤ, length, take, false, to_z-of_z}
use borrow.Author.Tests.{le-ltb}
use Rattle.limits.specs.Answers.{laid}
use Rattle.limits.specs.Limits.{outside_band}
use Rattle.limits.proofs.Beyond.{band_accepted, band_not_below}
use Rattle.bands.specs.Bands.{specials_among}
use Rattle.profile.specs.Text.{setpoints_of, specials_of}
use Rattle.profile.proofs.Accepted.{accepted, held, band_fits}
use Rattle.profile.proofs.read_profile.Goals as goal

pub overflow_cast-numbers : goal.overflow_cast-numbers
overflow_cast-numbers c =
    let of_text = held c.in_ok-numbers.ensures in
    let band = c.in_ok-numbers.numbers.band in
    let inside : outside_band band ≡ false = rw of_text.band_is (accepted _ of_text.not_refused).band_inside in
    rw (to_z-of_z (band_fits of_text)) (band_not_below band inside, omega (arith, band_accepted band inside))

pub returns : goal.returns
returns c =
    let a = c.args in
    let text = a.text.now in
    let numbers = c.in_ok-numbers.numbers in
    let of_text = held c.in_ok-numbers.ensures in
    let gathered = rw (to_z-of_z (band_fits of_text)) at c.gather.ensures in
    let special_slots : specials_among (nat_abs numbers.band) (take numbers.slots c.read_text.new.bands) ≡ specials_of text = rw (of_text.band_is, of_text.bands_are) in
    record {
      refusal_is =
          sym (rw (
            of_text.not_refused,
            le-ltb (length a.destination.now) (length (setpoints_of text)) (omega (arith, of_text.slots_is)),
            le-ltb (length a.specials.now) (length (specials_of text)) (omega (arith, of_text.specials_is)),
          ));
      numbers = c.in_ok-numbers.ensures.numbers;
      destination_is = c.lay.ensures ∙ ap (λ (l : List ℤ). laid l a.destination.now) of_text.setpoints_are;
      specials_are = gathered.slots_laid ∙ rw special_slots;
      own_are = gathered.bands_laid ∙ rw special_slots;
    }
