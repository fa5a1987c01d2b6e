use Rattle.std.proofs.Common.{refl, sym, subst}
use Rattle.cli_host.specs.Requests.{IsNumberTo}
use Rattle.cli_host.specs.CallsFile.ArePressWords.{at_panel}
use Rattle.cli_host.proofs.Lines.{none_of_four}
use Rattle.cli_host.proofs.calls.said_by_four.Goals as goal

pub returns-in_err-press_by-clause-none : goal.returns-in_err-press_by-clause-none
returns-in_err-press_by-clause-none c = λ _ said are.
    none_of_four c.args.bounds.rounds c.args.bounds.floors c.args.bounds.cars c.args.first.now c.requires c.args.second.now c.args.third.now c.args.fourth.now (λ p is _. c.in_err-press_by.ensures.none refl p is) said are

pub returns-clause-some : goal.returns-clause-some
returns-clause-some c =
    at_panel c.args.first.now c.args.second.now c.args.third.now c.args.fourth.now refl c.in_ok-press_by.ensures.some.0
    (subst (IsNumberTo 4 c.args.fourth.now) (sym c.in_ok-press_by.ensures.some.1) c.in_ok-panel.ensures.some)
