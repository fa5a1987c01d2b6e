use Rattle.load_lines.proofs.Breaks.{at_first}
use Rattle.load_tree.specs.Bodies.{SpellsBodyBy}
use Rattle.load_tree.proofs.Ahead.{no_line_end, no_steps, up_so}
use Rattle.load_tree.proofs.Begun.{body_breaks, body_within, plainly}
use Rattle.load_tree.proofs.ByError.{up_ahead_by}
use Rattle.load_tree.proofs.LateBodies.{body_none, body_late}
use Rattle.load_tree.proofs.bodies.body.Goals as goal

pub returns-in_err-line_end-clause-refused : goal.returns-in_err-line_end-clause-refused
returns-in_err-line_end-clause-refused c = up_ahead_by (SpellsBodyBy c.args.last) _ c.from_residual.ensures.1 (no_line_end _ _ _ _ c.in_err-line_end.ensures.refused)

pub returns-in_err-steps-clause-refused : goal.returns-in_err-steps-clause-refused
returns-in_err-steps-clause-refused c =
    up_ahead_by (SpellsBodyBy c.args.last) _ c.from_residual-in_err-steps.ensures.1 (no_steps _ _ _ _ _ c.in_ok-line_end.ensures.reads (rw c.skip_lines.ensures.rest at c.in_err-steps.ensures.refused))

pub returns-in_err-line_end-clause-begins : goal.returns-in_err-line_end-clause-begins
returns-in_err-line_end-clause-begins c = up_so _ _ c.from_residual.ensures.1 (plainly (at_first (body_within c.args.last) c.in_err-line_end.ensures.first))

pub returns-in_err-steps-clause-begins : goal.returns-in_err-steps-clause-begins
returns-in_err-steps-clause-begins c = up_so _ _ c.from_residual-in_err-steps.ensures.1 (body_breaks c.args.last c.in_ok-line_end.ensures.reads (rw c.skip_lines.ensures.rest at c.in_err-steps.ensures.begins))

pub returns-in_err-line_end-clause-late : goal.returns-in_err-line_end-clause-late
returns-in_err-line_end-clause-late c = up_so _ _ c.from_residual.ensures.1 (body_none c.args.last c.in_err-line_end.ensures.refused)

pub returns-in_err-steps-clause-late : goal.returns-in_err-steps-clause-late
returns-in_err-steps-clause-late c = up_so _ _ c.from_residual-in_err-steps.ensures.1 (body_late c.args.last c.in_ok-line_end.ensures.reads (rw c.skip_lines.ensures.rest at c.in_err-steps.ensures.late))
