use Rattle.std.proofs.Common.{rules, refl}
use Rattle.cli_explain.specs.Explained.{run_numbers}
use Rattle.cli_explain.proofs.Table.{known, unknown}
use Rattle.cli_explain.proofs.of_run.Goals as goal

pub returns-in_err-meaning_in : goal.returns-in_err-meaning_in
unfolding run_numbers
returns-in_err-meaning_in c =
    (λ some. let none = c.from_residual.ensures in search (rules), λ has. absurd (unknown _ run_numbers _ c.in_err-meaning_in.ensures refl has))

pub returns : goal.returns
unfolding run_numbers
returns c = (λ _. known _ run_numbers _ _ c.in_ok-meaning_in.ensures refl, λ _. refl)
