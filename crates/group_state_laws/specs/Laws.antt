-- Laws of reading and writing states (own rules).
use Rattle.std.specs.Prelude.{◌≡◌, ℕ, ◌+◌, ◌<◌, List, ◌++◌, length, map, Contains, Some, Result}
use Rattle.std.specs.List.{AllByRecursion}
use Rattle.il_syntax.specs.declared.tree.Config.{Config}
use Rattle.base_maps.specs.NameMap.{Text, get}
use Rattle.il_semantics.specs.declared.value.Value.{Value}
use Rattle.il_semantics.specs.Ranges.{global_scalars}
use Rattle.il_semantics.specs.Scan.{opening_globals, restricted}
use Rattle.il_semantics.specs.State.{Values}
use Rattle.group_spec.specs.World.{World, Group}
use Rattle.group_laws.specs.Accepted.{IsSound}
use Rattle.group_laws.specs.Holding.{RestsWell}
use Rattle.trace_text.specs.Text.{text_of_lines}
use Rattle.group_state.specs.declared.fault.Wrong.{Wrong}
use Rattle.group_state.specs.Text.{state_lines}
use Rattle.group_state.specs.Reading.{Begun, IsState, ReadsState}

-- a text reads as one thing: one group, or one fault at one line (own rule)
abbrev pub StateReadsOnce : Type 0
StateReadsOnce = (c : Config) (digest text : List ℕ) (a b : Result Begun Wrong) → ReadsState c digest text a → ReadsState c digest text b → a ≡ b

-- A digest is 32 bytes (own rule).
pub record Is32Bytes (digest : List ℕ) : Type 0 where
  pub count : length digest ≡ 32
  pub each : AllByRecursion (λ byte. byte < 256) digest

-- a group without values of globals that the configuration doesn't declare (own rule)
abbrev pub with_declared : Config → Group → Group
with_declared c g = record g { globals = restricted (opening_globals c) g.globals }

-- a group that was read, by its parts (own rule)
abbrev pub begun : Group → List ℕ → ℕ → Begun
begun group rest lines = record { group = group; rest = rest; lines = lines }

-- The state of a world that rests, with any text after it, reads back as the group of the world without undeclared globals.
-- The number of its last line is one more than the number of its lines, since `LIFTTRACE 3` comes first (own rule).
abbrev pub StateReadsBack : Type 0
StateReadsBack =
    (c : Config) → IsSound c → (digest : List ℕ) → Is32Bytes digest → (w : World) → RestsWell c w → (rest : List ℕ)
    → IsState c digest (text_of_lines (state_lines c digest w) ++ rest) (begun (with_declared c w.group) rest (length (state_lines c digest w) + 1))

-- the globals are those of the configuration, and no others (own rule)
abbrev pub AreDeclaredAlone : Config → Values → Type 0
AreDeclaredAlone c values = (q : Text) (v : Value) → get values q ≡ Some v → Contains (map (λ p. p.0) (global_scalars c)) q

-- if a world has the declared globals alone, the group that reads back is its own (own rule)
abbrev pub GroupReadsBack : Type 0
GroupReadsBack =
    (c : Config) → IsSound c → (digest : List ℕ) → Is32Bytes digest → (w : World) → RestsWell c w → AreDeclaredAlone c w.group.globals → (rest : List ℕ)
    → IsState c digest (text_of_lines (state_lines c digest w) ++ rest) (begun w.group rest (length (state_lines c digest w) + 1))
