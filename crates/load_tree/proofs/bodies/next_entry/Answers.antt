use Rattle.load_lines.proofs.ByError.{up_by}
use Rattle.load_tree.specs.Bodies.{SpellsNextBy}
use Rattle.load_tree.proofs.Entries.{inner_refused}
use Rattle.load_tree.proofs.Begun.{inner_breaks}
use Rattle.load_tree.proofs.Ahead.{up_so}
use Rattle.load_tree.proofs.LateBodies.{inner_late}
use Rattle.load_tree.proofs.bodies.next_entry.Goals as goal

pub returns-in_err-place-clause-refused : goal.returns-in_err-place-clause-refused
returns-in_err-place-clause-refused c = up_by (SpellsNextBy c.args.last c.args.depth c.args.load c.args.full) _ c.from_residual.ensures.1 (inner_refused c.args.source.now _ _ _ _ _ _ c.if-depth-eq0.false c.in_err-place.ensures.refused)

pub returns-in_err-place-clause-begins : goal.returns-in_err-place-clause-begins
returns-in_err-place-clause-begins c = up_so _ _ c.from_residual.ensures.1 (inner_breaks c.args.last c.args.depth c.args.load c.args.full (c.in_err-place.ensures.begins c.args.last))

pub returns-in_err-place-clause-late : goal.returns-in_err-place-clause-late
returns-in_err-place-clause-late c = up_so _ _ c.from_residual.ensures.1 (inner_late c.args.last c.args.depth c.args.load c.args.full c.if-depth-eq0.false c.in_err-place.ensures.late)
