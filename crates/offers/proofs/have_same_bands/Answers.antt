-- `offers::have_same_bands` meets its contract: other numbers of special slots, none in either, or a comparison.
use Rattle.std.proofs.Common.{sym, ◌∙◌, ◌≡◌, ℕ, true, false, nat_eq}
use borrow.Author.Tests.{eq-eqb, ne_eqb}
use Rattle.offers.proofs.Bands.{other_numbers, none_special_each}
use Rattle.offers.proofs.have_same_bands.Goals as goal

pub returns-then-specials-eq0 : goal.returns-then-specials-eq0
returns-then-specials-eq0 c =
    eq-eqb c.args.specials 0 c.if-specials-eq0.true
    ∙ none_special_each c.requires c.if-specials-eq0.true (sym c.if-specials-those.true ∙ c.if-specials-eq0.true)

pub returns-else-specials-those : goal.returns-else-specials-those
returns-else-specials-those c = ne_eqb c.args.specials c.args.those c.if-specials-those.false ∙ other_numbers c.requires c.if-specials-those.false
