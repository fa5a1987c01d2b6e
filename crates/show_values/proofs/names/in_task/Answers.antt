use Rattle.std.proofs.Common.{arith, Some, None, refl}
use Rattle.std.proofs.lemmas.Str.Pattern.{split_once_first}
use Rattle.show_values.proofs.Reading.{no_period, no_task}
use Rattle.show_values.proofs.names.in_task.Goals as goal

pub returns-in_err-front-clause-none : goal.returns-in_err-front-clause-none
returns-in_err-front-clause-none c = λ _. no_period c.args.name.now (split_once_first 46 c.args.name.now None c.in_err-front.ensures.cases (omega arith))

pub returns-in_err-task-clause-none : goal.returns-in_err-task-clause-none
returns-in_err-task-clause-none c = λ _.
    let parts = split_once_first 46 c.args.name.now (Some (c.in_ok-front.front, c.in_ok-front.rest)) c.in_ok-front.ensures.cases (omega arith) in
    no_task c.args.name.now c.in_ok-front.front.now parts.1 (c.in_err-task.ensures.none refl)
