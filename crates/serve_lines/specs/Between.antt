-- Lines of a reader, their answers and their trace, by the reader and the sinks before and after (own rules).
use Rattle.std.specs.Prelude.{◌≡◌, ◌⊎◌, ℕ, Bool, true, List, []}
use Rattle.std.specs.Io.KnownBytes.{Appends, Consumes}
use Rattle.std.specs.declared.io.traits.Read.{Ghosts as Read}
use Rattle.il_syntax.specs.declared.tree.Config.{Config}
use Rattle.cli_host.specs.declared.sink.Sink.{Ghosts as Sink}
use Rattle.cli_host.specs.Writes.{AppendsFront}
use Rattle.group_spec.specs.World.{World}
use Rattle.serve_lines.specs.declared.said.Said.{Said}
use Rattle.serve_lines.specs.declared.serve.Pause.{Pause}
use Rattle.serve_lines.specs.declared.serve.Pause.TheVariants.{End, Asked}
use Rattle.serve_lines.specs.declared.serve.Stopped.{Stopped}
use Rattle.serve_lines.specs.declared.server.Server.{Server}
use Rattle.serve_lines.specs.declared.server.ServeFault.{ServeFault}
use Rattle.serve_lines.specs.declared.server.ServeFault.TheVariants as fault
use Rattle.serve_lines.specs.Answers.{Acts}
use Rattle.serve_lines.specs.Serving.{Hears, Unheard, is_end, IsServed, IsAsked, IsStopped, at_stop}

-- the configuration of a server, and its world
abbrev pub config_of : Server → Config
config_of s = s.rounds.world.program.config

abbrev pub world_of : Server → World
world_of s = s.rounds.world.world

-- these bytes are put into a sink
abbrev pub IsPut : {X : Type 0} → Sink X → X → X → List ℕ → Type 0
IsPut sink old new = Appends (sink.contents old) (sink.contents new)

-- a front of these is
abbrev pub IsPutFront : {X : Type 0} → Sink X → X → X → List ℕ → Type 0
IsPutFront sink old new = AppendsFront (sink.contents old) (sink.contents new)

-- these are taken of a reader
abbrev pub IsRead : {X : Type 0} → Read X → X → X → List ℕ → Type 0
IsRead reader old new = Consumes (reader.remaining old) (reader.remaining new)

-- Why what is said isn't answered: memory is missing, and nothing was written; or the output failed, with a front of the answer to what was done.
abbrev pub IsUnanswered : {O : Type 0} → Sink O → Server → Server → Said → O → O → ServeFault → Type 0
IsUnanswered out before after said o p why =
    ((why ≡ fault.Memory) × IsPut out o p [])
    ⊎ ((why ≡ fault.Output) × (out.has_failed p ≡ true) × ((text : List ℕ) × Acts (config_of before) said (world_of before) (world_of after) text × IsPutFront out o p text))

-- a line is heard, as it says; the answer is whether it is the end
abbrev pub IsHeard : {O T : Type 0} → Sink O → Sink T → Server → Server → List ℕ → O → O → T → T → Bool → Type 0
IsHeard out trace before after line o p t u ended =
    (said : Said) × (text : List ℕ) × (events : List ℕ) × Hears (config_of before) line said (world_of before) (world_of after) before.count after.count text events × IsPut out o p text × IsPut trace t u events × (ended ≡ is_end said)

-- a line isn't
abbrev pub IsUnheard : {O T : Type 0} → Sink O → Sink T → Server → List ℕ → O → O → T → T → ServeFault → Type 0
IsUnheard out trace before line o p t u =
    Unheard (config_of before) line (world_of before) before.count (out.has_failed p) (trace.has_failed u) (IsPut out o p) (IsPutFront out o p) (IsPut trace t u) (IsPutFront trace t u)

-- all lines are served, up to the end
abbrev pub ServesAll : {R O T : Type 0} → Read R → Sink O → Sink T → Server → Server → R → R → O → O → T → T → Type 0
ServesAll reader out trace before after r s o p t u =
    IsServed (config_of before) (world_of before) before.count (world_of after) after.count (IsRead reader r s) (IsPut out o p) (IsPut trace t u)

-- Lines are served, after so many, up to the end or to the one that asks for another trace.
abbrev pub Pauses : {R O T : Type 0} → Read R → Sink O → Sink T → Server → Server → ℕ → List ℕ → R → R → O → O → T → T → Pause → Type 0
Pauses reader out trace before after heard line r s o p t u End = ServesAll reader out trace before after r s o p t u
Pauses reader out trace before after heard line r s o p t u (Asked number) =
    IsAsked (config_of before) (world_of before) before.count (world_of after) after.count (IsRead reader r s) (IsPut out o p) (IsPut trace t u) heard line number

-- serving stops before the end
abbrev pub Stops : {R O T : Type 0} → Read R → Sink O → Sink T → Server → ℕ → R → R → O → O → T → T → Stopped → Type 0
Stops reader out trace before heard r s o p t u stopped =
    IsStopped (config_of before) (world_of before) before.count heard (at_stop (reader.remaining s) (out.has_failed p) (trace.has_failed u)) (IsRead reader r s) (IsPut out o p) (IsPutFront out o p) (IsPut trace t u) (IsPutFront trace t u) stopped.stop stopped.line
