use Rattle.std.proofs.Common.{refl}
use Rattle.cli_host.specs.CallsFile.ArePressWords.{plain}
use Rattle.cli_host.proofs.Lines.{none_of_three}
use Rattle.cli_host.proofs.calls.said_by_three.Goals as goal

pub returns-in_err-press_by-clause-none : goal.returns-in_err-press_by-clause-none
returns-in_err-press_by-clause-none c = λ _ said are.
    none_of_three c.args.bounds.rounds c.args.bounds.floors c.args.bounds.cars c.args.first.now c.requires c.args.second.now c.args.third.now (c.in_err-press_by.ensures.none refl) (c.in_default.ensures.none refl) said are

pub returns-in_default-clause-some : goal.returns-in_default-clause-some
returns-in_default-clause-some c = plain c.args.first.now c.args.second.now c.args.third.now refl c.in_ok-press_by.ensures.some.0 c.in_ok-press_by.ensures.some.1
