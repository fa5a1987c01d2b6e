-- As which files a sink was made (own rules).
use Rattle.std.specs.Prelude.{◌≡◌, ℕ, Bool, false, List, [], ◌∷◌, ◌++◌, Option, Some, None}

-- A sink that goes from file to file: whether its present one was made under this name, and whether each of its pieces waits for the disk; the bytes of the files before it, where the sink
-- reports them; and the names of those that could not be made, where it reports them.
pub record Made : Type 0 where
  pub is : List ℕ → Bool → Bool
  pub ended : Option (List (List ℕ))
  pub missed : Option (List (List ℕ))

-- a stream wasn't made as any file
abbrev pub unmade : Made
unmade = record { is = λ name sync. false; ended = None; missed = None }

-- one more is reported, where they are reported
abbrev pub Logs : Option (List (List ℕ)) → Option (List ℕ) → Option (List (List ℕ)) → Type 0
Logs None x new = Unit {0}
Logs (Some xs) None new = Unit {0}
Logs (Some xs) (Some x) new = new ≡ Some (xs ++ x ∷ [])
