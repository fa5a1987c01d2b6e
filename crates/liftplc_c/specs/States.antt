-- A state that is written (own rules).
use Rattle.std.specs.Prelude.{◌≡◌, ◌<◌, ◌≤◌, ℕ, List, [], ◌∷◌, ◌++◌, length, take, drop}
use Rattle.trace_text.specs.Text.{last_line}
use Rattle.serve_lines.specs.Waiting.{waiting_events}
use Rattle.serve_blackbox.specs.Heads.{head_text}
use Rattle.group_world.specs.Worlds.{WorldOf}

-- The state of a world as a whole trace of format 3, without rounds, where this is the text of the configuration: the head of the trace that begins at the world, and
-- the last line, with the number of the events of the calls that wait.
abbrev pub whole_state : List ℕ → WorldOf → List ℕ
whole_state source w = head_text w.program.config source w.world ++ (last_line (length (waiting_events w.world)) ++ 10 ∷ [])

-- These bytes, so many, are at the front of a room. After them it is as it was.
pub record StandsIn (old new : List ℕ) (count : ℕ) (bytes : List ℕ) : Type 0 where
  pub many : count ≡ length bytes
  pub fits : count ≤ length old
  pub front : take count new ≡ bytes
  pub behind : drop count new ≡ drop count old

-- A room is too short for these bytes, so many, and is as it was.
pub record IsTooShort (old new : List ℕ) (count : ℕ) (bytes : List ℕ) : Type 0 where
  pub many : count ≡ length bytes
  pub short : length old < count
  pub kept : new ≡ old
