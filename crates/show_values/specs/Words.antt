-- What the words of `watch` mean (own rules).
use Rattle.std.specs.Prelude.{ℕ, ◌-◌, if◌then◌else◌, nat_eq, List, [], ◌∷◌, Option, Some, None, codes, flat_map, length, map, take}
use Rattle.std.specs.List.{ends_with}
use Rattle.il_syntax.specs.declared.tree.Config.{Config}
use Rattle.show_values.specs.Known.{parts_of}
use Rattle.show_values.specs.Names.{upper_case}

-- the name before `.*` at the end of a word
abbrev pub starred : List ℕ → Option (List ℕ)
starred word = if ends_with nat_eq word (codes ".*") then Some (take (length word - 2) word) else None

-- the names of parts; a word itself, where there are none
abbrev pub parts_or : List ℕ → List (List ℕ) → List (List ℕ)
parts_or word [] = word ∷ []
parts_or word (part ∷ parts) = part ∷ parts

-- a word is a name, or `NAME.*` all parts of a name that has parts
abbrev pub expanded_by : Config → List ℕ → Option (List ℕ) → List (List ℕ)
expanded_by c word None = word ∷ []
expanded_by c word (Some whole) = parts_or word (parts_of c whole)

-- the names that words in upper case mean
abbrev pub expanded : Config → List (List ℕ) → List (List ℕ)
expanded c words = flat_map (λ (word : List ℕ). expanded_by c word (starred word)) words

-- the names that words mean in a group, in any letter case
abbrev pub meant : Config → List (List ℕ) → List (List ℕ)
meant c words = expanded c (map upper_case words)
