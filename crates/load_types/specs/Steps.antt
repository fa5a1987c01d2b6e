-- What the pass makes of one place (own rules).
use Rattle.std.specs.Prelude.{ℕ, List, Option, option_map}
use Rattle.il_syntax.specs.declared.tree.Config.{Config}
use Rattle.il_syntax.specs.declared.tree.Unit.{Unit as ProgramUnit}
use Rattle.il_syntax.specs.declared.tree.Instruction.{Instruction}
use Rattle.il_statics.specs.Types.{Deferred, type_after}
use Rattle.load_types.specs.declared.arrival.Arrival.{Arrival}
use Rattle.load_types.specs.declared.arrival.Arrival.TheVariants.{Unreached, Reached}
use Rattle.load_types.specs.Arrivals.{hand_on}

-- the table after a place, by what has arrived there and what waits for a `)`
abbrev pub pass_on : Config → ProgramUnit → ℕ → Instruction → Arrival → Option Deferred → List Arrival → List Arrival
pass_on config unit at instruction Unreached deferred table = table
pass_on config unit at instruction (Reached result) deferred table = hand_on unit.body at instruction (type_after config unit (option_map (λ d. d.0) deferred) instruction result) table
