use Rattle.show_names.specs.Uses.{uses_left}
use Rattle.show_names.specs.Lines.{AreSound}
use Rattle.show_names.proofs.Pushes.{StillHave}
use Rattle.show_names.proofs.unit_uses.lines_of.Given as goal

abbrev pub invariant-uses : goal.invariant-uses
invariant-uses l = AreSound l.lines × StillHave l.lines (uses_left l.used-iterator) l.steps
