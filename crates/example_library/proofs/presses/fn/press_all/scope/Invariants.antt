use Rattle.std.proofs.Common.{length}
use Rattle.example_library.proofs.presses.fn.press_all.scope.Given as goal

abbrev pub decreases-started : goal.decreases-started
decreases-started g l = length l.started.items
