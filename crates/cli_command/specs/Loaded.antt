-- What the verifier of the program answers of a text.
use Rattle.std.specs.Prelude.{◌≡◌, List, ℕ, Result, IfOk, IfErr, IsErrAnd, map}
use Rattle.il_syntax.specs.declared.fault.Refusal.{Refusal}
use Rattle.il_syntax.specs.declared.fault.Refusal.TheVariants.{Fault}
use Rattle.il_syntax.specs.declared.tree.Config.{Config}
use Rattle.il_syntax.specs.declared.tree.Place.{Place}
use Rattle.load_tree.specs.Refused.{IsFault}
use Rattle.scan_task.specs.Scanning.{Program}
use Rattle.group_laws.specs.Runs.{RunsWell}
use Rattle.load_budgets.specs.Costs.{cost_of}
use Rattle.load_text.specs.Loading.{IsSpelled, IsSpelledWith, IsAccepted, IsRefusedFor, IsExplained, ReportsFaultOfText, ReportsFaultOfGrammar}

-- Either a program that the text spells, that breaks no rule and that runs well, or a refusal: from 1 to 6 the fault of the text's bytes, from 10
-- to 12 that of the grammar of a text that has tokens but spells no configuration, otherwise the first fault of the one that it spells. It has no other.
pub record IsLoaded (text : List ℕ) (answer : Result Program Refusal) : Type 0 where
  pub found : IfOk answer (λ v. IsAccepted text v.config)
  pub costs : IfOk answer (λ v. v.costs ≡ map (cost_of v.config) v.config.units)
  pub runs : IfOk answer (λ v. RunsWell v.config)
  pub refused : IsFault answer → (c : Config) → IsAccepted text c → ⊥
  pub named : IsFault answer → (c : Config) → IsSpelled text c → IsErrAnd answer (IsRefusedFor c)
  pub number : IfErr answer (IsExplained text)
  pub one : IsFault answer → (n : ℕ) (p : Place) → IsSpelledWith text (Fault n p) → IsErrAnd answer (λ e. e ≡ Fault n p)
  pub bytes : ReportsFaultOfText text answer
  pub grammar : ReportsFaultOfGrammar text answer
