-- Codes of what settling gives, for the models whose values they are.
use Rattle.std.specs.Prelude.{List, refl}
use Rattle.std.specs.Coded.{Coded, code_by, coded×, coded_list}
use Rattle.group_spec.specs.declared.image.CarOutputs.{CarOutputs}
use Rattle.group_spec.specs.contracts.image.CarOutputs as outputs
use Rattle.group_spec.specs.declared.report.Rule.{Rule}
use Rattle.group_spec.specs.contracts.report.Rule as rule
use Rattle.group_spec.specs.declared.report.Denial.{Denial}
use Rattle.group_spec.specs.contracts.report.Denial as denial
use Rattle.group_spec.specs.Settle.{Settled, AllSettled}

-- the code of a settled car
abbrev pub settled_code : Coded Settled
settled_code =
    code_by (CarOutputs × List Rule) (coded× outputs.the_row.coded (coded_list rule.the_row.coded)) (λ s. (s.outputs, s.denials)) (λ c. record { outputs = c.0; denials = c.1 }) (λ _. refl)

-- the code of all cars, settled
abbrev pub all_settled_code : Coded AllSettled
all_settled_code =
    code_by (List CarOutputs × List Denial) (coded× (coded_list outputs.the_row.coded) (coded_list denial.the_row.coded)) (λ s. (s.outputs, s.denials)) (λ c. record { outputs = c.0; denials = c.1 }) (λ _. refl)
