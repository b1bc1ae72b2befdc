use Rattle.std.proofs.Common.{◌≡◌, ℕ, suc, ◌+◌, ◌<◌, ◌||◌, true, false, List, length, get_or, drop, pos, ℤ, sym, refl, ap, ◌∙◌, arith, rules, add-one, drop_of_length-le}
use lib.Seq.{drop-cons}
use Rattle.limits.specs.Limits.{beyond, any_beyond}
use Rattle.limits.proofs.is_any_beyond.Goals as goal

-- the setpoint at a place decides, and else those after it
next : (setpoints : List ℤ) (i : ℕ) → i < length setpoints → any_beyond (drop i setpoints) ≡ (beyond 20000 (get_or setpoints i (pos 0)) || any_beyond (drop (i + 1) setpoints))
unfolding any_beyond
next setpoints i inside = rw (drop-cons setpoints i (pos 0) inside, add-one i) refl

none_left : (setpoints : List ℤ) (i : ℕ) → length setpoints ≡ i → any_beyond (drop i setpoints) ≡ false
unfolding any_beyond
none_left setpoints i all = rw (drop_of_length-le setpoints {i = i} (omega arith)) refl

pub returns-then-is_beyond : goal.returns-then-is_beyond
returns-then-is_beyond c =
    let setpoints = c.args.setpoints.now in
    let i = c.loop-setpoint.setpoint-index in
    let far : beyond 20000 (get_or setpoints i (pos 0)) ≡ true = search rules in
    sym (c.loop-setpoint.invariant ∙ next setpoints i (omega arith) ∙ rw far refl)

pub loop-setpoint-preserved : goal.loop-setpoint-preserved
loop-setpoint-preserved c =
    let setpoints = c.args.setpoints.now in
    let i = c.loop-setpoint.setpoint-index in
    let near : beyond 20000 (get_or setpoints i (pos 0)) ≡ false = search rules in
    c.loop-setpoint.invariant ∙ next setpoints i (omega arith) ∙ rw near refl

pub returns : goal.returns
returns c = sym (c.loop-setpoint.invariant ∙ none_left c.args.setpoints.now c.loop-setpoint.setpoint-index (omega arith))
