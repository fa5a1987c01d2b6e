-- What is explained (own rules).
use Rattle.std.specs.Prelude.{ℕ, List, [], ◌∷◌, ◌++◌, Option, find, ◌==◌}
use Rattle.cli_explain.specs.declared.Meaning.{Meaning}

-- the numbers of faults of a configuration
unfoldable pub configuration_numbers : List ℕ
configuration_numbers = 1 ∷ 2 ∷ 3 ∷ 4 ∷ 5 ∷ 6 ∷ 10 ∷ 11 ∷ 12 ∷ 20 ∷ 21 ∷ 22 ∷ 23 ∷ 24 ∷ 25 ∷ 30 ∷ 31 ∷ 32 ∷ 33 ∷ 34 ∷ 35 ∷ 37 ∷ 38 ∷ 39 ∷ 36 ∷ 46 ∷ 40 ∷ 41 ∷ 42 ∷ 43 ∷ 44 ∷ 50 ∷ []

-- the numbers of refusals of events and of a station, of faults of traces, of a file of calls, and of the state in a trace
unfoldable pub run_numbers : List ℕ
run_numbers = 60 ∷ 61 ∷ 62 ∷ 63 ∷ 64 ∷ 65 ∷ 70 ∷ 71 ∷ 72 ∷ 80 ∷ 81 ∷ 82 ∷ 83 ∷ 84 ∷ 85 ∷ 86 ∷ 87 ∷ 88 ∷ 89 ∷ []

-- all numbers
unfoldable pub numbers : List ℕ
numbers = configuration_numbers ++ run_numbers

-- the first meaning of a number
unfoldable pub meaning_in : List Meaning → ℕ → Option Meaning
meaning_in meanings number = find (λ m. m.number == number) meanings
