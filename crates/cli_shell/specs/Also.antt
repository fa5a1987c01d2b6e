-- The first faults of other units, as they are reported (own rules).
use Rattle.std.specs.Prelude.{◌≡◌, ℕ, List, [], ◌∷◌, ◌++◌, codes, decimal}
use Rattle.il_syntax.specs.declared.tree.Place.{Place}
use Rattle.cli_shell.specs.declared.commands.OtherFault.{OtherFault}

-- the line of one
abbrev pub also_line : OtherFault → List ℕ
also_line fault = codes "also " ++ (decimal fault.number ++ (codes " at line " ++ (decimal fault.place.line ++ codes "\n")))

-- each by its line, and below it what is reported of it
abbrev pub AreAlsoTold : (ℕ → Place → List ℕ → Type 0) → List OtherFault → List ℕ → Type 0
AreAlsoTold IsTold [] told = told ≡ []
AreAlsoTold IsTold (fault ∷ faults) told =
    (own : List ℕ) × (rest : List ℕ) × IsTold fault.number fault.place own × AreAlsoTold IsTold faults rest × (told ≡ (also_line fault ++ own) ++ rest)
