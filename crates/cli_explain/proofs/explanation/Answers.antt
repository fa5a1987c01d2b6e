use Rattle.std.proofs.Common.{◌≡◌, Bool, false, true, inl, inr, refl}
use Rattle.std.proofs.lemmas.List.Elements.{Contains-append_left, Contains-append_right, Contains-append_cases}
use Rattle.cli_explain.specs.Explained.{configuration_numbers, numbers, run_numbers}
use Rattle.cli_explain.proofs.explanation.Goals as goal

never : ◌≡◌ {A = Bool} false true → ⊥
never e = cc

pub returns-in-Some : goal.returns-in-Some
unfolding numbers
returns-in-Some c = (λ _. Contains-append_left configuration_numbers run_numbers c.args.number (c.in-Some.ensures.0 refl), λ _. refl)

pub returns-in-None : goal.returns-in-None
unfolding numbers
returns-in-None c = (
  λ some. Contains-append_right configuration_numbers run_numbers c.args.number (c.of_run.ensures.0 some),
  λ has. elim (Contains-append_cases configuration_numbers run_numbers c.args.number has) [
    | inl front ↦ absurd (never (c.in-None.ensures.1 front))
    | inr back ↦ c.of_run.ensures.1 back
  ],
)
