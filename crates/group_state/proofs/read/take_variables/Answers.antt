use Rattle.std.proofs.Common.{inl, inr, refl}
use Rattle.group_state.specs.Variables.{reached}
use Rattle.group_state.specs.Walking.{left_of, RefusesAll}
use Rattle.group_state.proofs.Again.{up_so}
use Rattle.group_state.proofs.read.take_variables.Goals as goal

pub returns-in_err-last-clause-wrong : goal.returns-in_err-last-clause-wrong
returns-in_err-last-clause-wrong c =
    up_so (RefusesAll c.args.verified.now.config c.args.from.rest.now c.args.from.line) c.from_residual-in_err-last.result c.from_residual-in_err-last.ensures.1
    (inr (inl (reached c.take_globals.new.core.group.globals c.in_ok-to.to.rest.now c.in_ok-to.to.line, c.in_ok-to.ensures.found.takes, c.in_err-last.ensures.wrong)))

pub returns-in-Err-clause-wrong : goal.returns-in-Err-clause-wrong
returns-in-Err-clause-wrong c =
    inr (inr (
      reached c.take_globals.new.core.group.globals c.in_ok-to.to.rest.now c.in_ok-to.to.line,
      c.take_tasks.new.core.group.tasks,
      left_of c.in_ok-last.field-0,
      c.in_ok-to.ensures.found.takes,
      c.in_ok-last.ensures.found.takes,
      (refl, c.in-Err.ensures.wrong),
    ))
