-- The lines of a path (own rules).
use Rattle.std.specs.Prelude.{ℕ, ◌+◌, ◌==◌, if◌then◌else◌, List, [], ◌∷◌, ◌++◌, flat_map, nat_lt, codes, decimal}
use Rattle.cli_output.specs.declared.path.Stretch.{Stretch}

-- The lines of a path, each after a space.
abbrev pub path_text : List ℕ → List ℕ
path_text lines = flat_map (λ line. codes " " ++ decimal line) lines

-- one line
abbrev pub alone : ℕ → Stretch
alone line = record { first = line; last = line }

-- An open stretch, and the stretches after it: a line that is one more than its last lengthens it, any other one begins the next.
unfoldable pub stretches_from : Stretch → List ℕ → List Stretch
stretches_from begun [] = begun ∷ []
stretches_from begun (line ∷ lines) =
    if line == begun.last + 1 then stretches_from (record begun { last = line }) lines else begun ∷ stretches_from (alone line) lines

-- The stretches of lines that follow one another.
abbrev pub stretches : List ℕ → List Stretch
stretches [] = []
stretches (line ∷ lines) = stretches_from (alone line) lines

-- ` 25-28`, or one line alone
abbrev pub stretch_text : Stretch → List ℕ
stretch_text s = codes " " ++ (decimal s.first ++ (if nat_lt s.first s.last then codes "-" ++ decimal s.last else []))

-- The lines of a path, those that follow one another as a range.
abbrev pub ranged_text : List ℕ → List ℕ
ranged_text lines = flat_map stretch_text (stretches lines)
