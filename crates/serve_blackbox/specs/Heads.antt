-- How a trace begins (own rules).
use Rattle.std.specs.Prelude.{List, ℕ, ◌++◌}
use Rattle.il_syntax.specs.declared.tree.Config.{Config}
use Rattle.group_spec.specs.World.{World}
use Rattle.group_journal.specs.Rounds.{TakesAll}
use Rattle.group_world.specs.Setting.{resting}
use Rattle.trace_text.specs.Writing.{events_text}
use Rattle.group_state.specs.Text.{state_text}
use Rattle.serve_lines.specs.Waiting.{waiting_events}
use Rattle.sha2.specs.Sha256.{sha256}

-- the head of the trace that begins at a world: its state, and the calls that wait in the hand and on the desk
abbrev pub head_text : Config → List ℕ → World → List ℕ
head_text c source w = state_text c (sha256 source) w ++ events_text (waiting_events w)

-- the events of the head lead from the state to the world
abbrev pub IsAgain : Config → World → Type 0
IsAgain c w = TakesAll c (resting c w.group) (waiting_events w) w
