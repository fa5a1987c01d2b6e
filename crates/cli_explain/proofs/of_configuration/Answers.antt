use Rattle.std.proofs.Common.{rules, refl}
use Rattle.cli_explain.specs.Explained.{configuration_numbers}
use Rattle.cli_explain.proofs.Table.{known, unknown}
use Rattle.cli_explain.proofs.of_configuration.Goals as goal

pub returns-in_err-meaning_in : goal.returns-in_err-meaning_in
unfolding configuration_numbers
returns-in_err-meaning_in c =
    (λ some. let none = c.from_residual.ensures in search (rules), λ has. absurd (unknown _ configuration_numbers _ c.in_err-meaning_in.ensures refl has))

pub returns : goal.returns
unfolding configuration_numbers
returns c = (λ _. known _ configuration_numbers _ _ c.in_ok-meaning_in.ensures refl, λ _. refl)
