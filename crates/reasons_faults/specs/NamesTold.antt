-- That something is reported (own rule).
use Rattle.std.specs.Prelude.{ℕ, List, Contains}

-- a text has a line: a line feed ends it
abbrev pub HasLine : List ℕ → Type 0
HasLine text = Contains text 10
