-- A unit with the numbers of its variables (own rules).
use Rattle.std.specs.Prelude.{ℕ, List, length, refl}
use Rattle.std.specs.Coded.{Coded, code_by, coded×, coded_ℕ}
use Rattle.il_syntax.specs.declared.tree.Config.{Config}
use Rattle.il_syntax.specs.declared.tree.Unit.{Unit as ProgramUnit}
use Rattle.ranges_interval.specs.declared.Interval.{Interval}
use Rattle.base_maps.specs.NameMap.{NameMap, code}
use Rattle.load_scope.specs.Units.{InUnit}
use Rattle.ranges_laws.specs.Facts.{Names}
use Rattle.il_syntax.specs.contracts.tree.Config as config
use Rattle.il_syntax.specs.contracts.tree.Unit as unit

-- the code of a unit with the numbers of its variables
abbrev pub names_code : Coded Names
names_code =
    code_by ((Config × ProgramUnit) × (NameMap ℕ × ℕ)) (coded× (coded× config.the_row.coded unit.the_row.coded) (coded× (code coded_ℕ) coded_ℕ))
    (λ n. ((n.config, n.unit), (n.numbers, n.count))) (λ c. record { config = c.0.0; unit = c.0.1; numbers = c.1.0; count = c.1.1 }) (λ _. refl)

-- a unit with the numbers of its variables
abbrev pub names_of : InUnit → NameMap ℕ → List Interval → Names
names_of u numbers declared = record { config = u.config; unit = u.unit; numbers = numbers; count = length declared }
