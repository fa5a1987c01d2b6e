use Rattle.std.proofs.Common.{◌≡◌, ◌+◌, ◌≤◌, drop, length, min, string_bytes}
use Rattle.scan_loop.specs.Framing.{path_over}
use Rattle.show_scan.proofs.view.View.path.Given as goal

-- the path of the body above those so far
abbrev pub invariant-callers : goal.invariant-callers
invariant-callers l =
    (string_bytes l.path ≡ path_over l.self.config (drop l.left l.self.state.frames)) × (l.left ≤ length l.self.state.frames) × (min (l.level + 1) (length l.self.state.frames) ≤ l.left)

abbrev pub decreases-callers : goal.decreases-callers
decreases-callers l = l.left
