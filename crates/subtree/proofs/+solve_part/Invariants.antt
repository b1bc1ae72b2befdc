-- `subtree::solve_part` meets its contract. The measure is the height.
use Rattle.subtree.proofs.+solve_part.Given as goal

abbrev pub decreases-solve_part : goal.decreases-solve_part
decreases-solve_part l = l.height
