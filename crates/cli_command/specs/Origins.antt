-- Where a group begins that serves (own rules).
use Rattle.std.specs.Prelude.{◌≡◌, ◌⊎◌, ℕ, zero, suc, List, [], ◌++◌, codes, decimal, length, string_bytes, Option, Some, None}
use Rattle.il_syntax.specs.declared.tree.Config.{Config}
use Rattle.cli_host.specs.declared.files.ReadFault.{ReadFault}
use Rattle.cli_host.specs.declared.status.Fault.{Fault}
use Rattle.cli_host.specs.declared.status.Fault.TheVariants.{NoMemory}
use Rattle.cli_host.specs.Messages.{fault_of_reading}
use Rattle.cli_shell.specs.Runs.{most_trace_bytes}
use Rattle.group_spec.specs.World.{World, opening}
use Rattle.serve_lines.specs.Waiting.{waiting_events}
use Rattle.serve_blackbox.specs.Heads.{head_text, IsAgain}
use Rattle.serve_blackbox.specs.Resuming.{IsLeft, IsNotLeft}
use Rattle.cli_command.specs.declared.origin.Prepared.{Prepared}

-- WHERE A GROUP BEGINS

-- it begins at its opening, or where the trace of a name ends
abbrev pub IsOrigin : (List ℕ → ℕ → List ℕ → Type 0) → Config → List ℕ → Option (List ℕ) → World → ℕ → Type 0
IsOrigin reads c source None w dropped = (w ≡ opening c) × (dropped ≡ 0)
IsOrigin reads c source (Some name) w dropped = (trace : List ℕ) × reads name most_trace_bytes trace × IsLeft c source trace w dropped

-- The trace of a name can't be read, or it isn't one that leads there. Memory may be missing.
abbrev pub IsNoOrigin : (List ℕ → ℕ → List ℕ → Type 0) → (List ℕ → ℕ → ReadFault → Type 0) → Config → List ℕ → Option (List ℕ) → Fault → Type 0
IsNoOrigin reads fails c source None fault = fault ≡ NoMemory
IsNoOrigin reads fails c source (Some name) fault =
    ((why : ReadFault) × fails name most_trace_bytes why × (fault ≡ fault_of_reading why))
    ⊎ (((trace : List ℕ) × reads name most_trace_bytes trace × IsNotLeft c source trace fault) ⊎ (fault ≡ NoMemory))

-- WHAT IS WRITTEN OF IT

-- what is reported of so many events that are dropped: nothing of none
abbrev pub dropped_text : ℕ → List ℕ
dropped_text zero = []
dropped_text (suc n) = codes "events dropped: " ++ (decimal (suc n) ++ codes "\n")

-- a group is ready to serve from there, with the head of its trace and what is reported of events that are dropped
pub record IsPrepared (reads : List ℕ → ℕ → List ℕ → Type 0) (c : Config) (source : List ℕ) (from : Option (List ℕ)) (p : Prepared) : Type 0 where
  pub dropped : ℕ
  pub origin : IsOrigin reads c source from p.world.world dropped
  pub head : string_bytes p.head.text ≡ head_text c source p.world.world
  pub events : p.head.events ≡ length (waiting_events p.world.world)
  pub again : IsAgain c p.world.world
  pub told : string_bytes p.told ≡ dropped_text dropped
