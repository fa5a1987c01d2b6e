-- What is said of a name that has no value (own rules).
use Rattle.std.specs.Prelude.{ℕ, nat_lt, if◌then◌else◌, List, [], ◌∷◌, ◌++◌, length, take, flat_map, map, Option, Some, None, codes}
use Rattle.il_syntax.specs.declared.tree.Config.{Config}
use Rattle.reasons_names.specs.NamesNear.{Nearest, nearest, predeclared_name}
use Rattle.show_values.specs.Known.{known_names, parts_in}

-- names after a first one, at most seven
abbrev pub more_text : List (List ℕ) → List ℕ
more_text names = flat_map (λ (name : List ℕ). codes ", " ++ name) (take 7 names) ++ (if nat_lt 7 (length names) then codes " .." else [])

-- a name that is near
abbrev pub near_text : Option Nearest → List ℕ
near_text None = []
near_text (Some near) = codes "; near is " ++ near.known.name

-- what is said of a name, by its parts and all names: it has parts, and the first eight, or which name is near
abbrev pub sentence_by : List ℕ → List (List ℕ) → List (List ℕ) → List ℕ
sentence_by name names [] = codes "no field, variable of a task or global has this name" ++ near_text (nearest name (map predeclared_name names))
sentence_by name names (part ∷ parts) = codes "it has parts; name one of " ++ (part ++ more_text parts)

-- of a group
abbrev pub unnamed_sentence : Config → List ℕ → List ℕ
unnamed_sentence c name = sentence_by name (known_names c) (parts_in (known_names c) name)
