use Rattle.cli_host.proofs.Lines.{digits_utf8}
use Rattle.cli_host.proofs.calls.number_in.Goals as goal

pub returns-in-Err-clause-none : goal.returns-in-Err-clause-none
returns-in-Err-clause-none c = λ _ number is. c.in-Err.ensures.cases.0 (digits_utf8 c.args.word.now is.digits)
