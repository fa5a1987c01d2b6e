-- What words ask for, and that it is `run`.
use Rattle.std.proofs.Common.{◌≡◌, ℕ, Bool, true, List, map, string_bytes, ap, subst, sym, ◌∙◌}
use Rattle.std.specs.Prelude.{◌||◌}
use Rattle.il_syntax.specs.declared.tree.Place.{Place}
use Rattle.cli_host.specs.declared.files.ReadFault.{ReadFault}
use Rattle.cli_host.specs.declared.files.Reading.{Reading}
use Rattle.cli_host.specs.declared.request.Flags.{Flags}
use Rattle.cli_host.specs.declared.request.Plain.{Plain}
use Rattle.cli_host.specs.declared.request.Request.{Request}
use Rattle.cli_host.specs.declared.request.Request.TheVariants as request
use Rattle.cli_host.specs.declared.request.Simulating.TheVariants as simulating
use Rattle.cli_host.specs.Requests.{Asks, with_flags}
use Rattle.cli_shell.specs.Runs.{AskForRun, IsAnswerOf, IsFileAnswer, IsForRun, asked, runs}
use Rattle.cli_shell.specs.declared.commands.OtherFault.{OtherFault}
use Rattle.cli_messages.specs.Outputs.{Outcome}

-- a request that is `run` with its flag is `run`
runs_plain : (words : List (List ℕ)) (flags : Flags) (asked : Request) → Asks words asked → runs (with_flags flags asked) ≡ true → AskForRun words
runs_plain words flags (request.Check checked) asks e = cc
runs_plain words flags (request.Show command shown) asks e = cc
runs_plain words flags (request.Rounds simulating.Sim rounds) asks e = cc
runs_plain words flags (request.Rounds simulating.Run rounds) asks e = (rounds, asks)
runs_plain words flags (request.Rounds simulating.Denials rounds) asks e = cc
runs_plain words flags (request.Rounds simulating.Watch rounds) asks e = cc
runs_plain words flags (request.Trace command traced) asks e = cc

pub asks_for_run : (plain : Plain) → {request : Request} → IsForRun plain request → AskForRun (map string_bytes plain.words.items)
asks_for_run plain is = runs_plain (map string_bytes plain.words.items) plain.flags is.asked is.asks (ap runs (sym is.flagged) ∙ is.is_run)

-- the answer of a request is that of its words
pub answer_of : (reads : List ℕ → ℕ → List ℕ → Type 0) (fails : List ℕ → ℕ → ReadFault → Type 0) (gives : Request → List ℕ → Reading → Outcome → Type 0) (reasons : List ℕ → ℕ → Place → List ℕ → Type 0) (others : List ℕ → ℕ → Place → List OtherFault → Type 0) (always : Bool) (plain : Plain) (outcome : Outcome) (below : List ℕ)
    → (of : Request) → Asks (map string_bytes plain.words.items) of → (flagged : Request) → flagged ≡ with_flags plain.flags of → (wanted : Bool) → wanted ≡ (always || plain.explains)
    → IsFileAnswer reads fails gives reasons others wanted flagged outcome below → IsAnswerOf reads fails gives reasons others always plain outcome below
answer_of reads fails gives reasons others always plain outcome below of asks flagged is_flagged wanted is_wanted is =
    asked of asks (subst (λ r. IsFileAnswer reads fails gives reasons others (always || plain.explains) r outcome below) is_flagged (subst (λ w. IsFileAnswer reads fails gives reasons others w flagged outcome below) is_wanted is))
