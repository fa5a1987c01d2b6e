use Rattle.std.proofs.Common.{length, ◌≤◌}
use Rattle.load_tree.proofs.Labels.{Behind}
use Rattle.load_tree.proofs.bodies.labels.Given as goal

abbrev pub invariant-labels : goal.invariant-labels
invariant-labels l = (length l.tokens ≤ length l.fn.tokens) × Behind l.source l.fn.tokens l.labels l.tokens

abbrev pub decreases-labels : goal.decreases-labels
decreases-labels l = length l.tokens
