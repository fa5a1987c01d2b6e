-- How a run ends, by its outcome and how that was shown.
use Rattle.std.proofs.Common.{◌≡◌, ◌⊎◌, ◌++◌, ℕ, List, [], Bool, true, Ok, Err, IfOk, IfErr, inl, inr, sym, refl, ap, ◌∙◌}
use Rattle.std.specs.Io.KnownBytes.{Appends, Keeps}
use Rattle.cli_host.specs.Messages.{status_of, message_of}
use Rattle.cli_messages.specs.declared.output.Output.{Output}
use Rattle.cli_shell.specs.Runs.{Held, HasPrinted}
use Rattle.cli_messages.specs.Outputs.{Outcome, Warns, bytes_of}
use Rattle.cli_host.specs.Writes.{AppendsFront, Writes}
use Rattle.cli_host.specs.declared.status.Fault.{Fault}
use Rattle.cli_host.specs.declared.status.Fault.TheVariants as fault
use Rattle.cli_host.specs.declared.status.Status.{Status}
use Rattle.cli_host.specs.declared.status.Status.TheVariants as status

-- no fault ends as done
never_done : (f : Fault) → status_of f ≡ status.Done → ⊥
never_done (fault.Misuse text) e = cc
never_done (fault.RefusedText number place) e = cc
never_done (fault.Refused number line) e = cc
never_done (fault.BadPress word) e = cc
never_done fault.TooManyPresses e = cc
never_done (fault.BadFire word) e = cc
never_done (fault.BadSpan word) e = cc
never_done (fault.BadScan why word) e = cc
never_done (fault.BadName word says) e = cc
never_done (fault.CannotRead cause) e = cc
never_done fault.CannotWrite e = cc
never_done fault.NoMemory e = cc

-- one fault alone ends as an output that can't be written
cannot_write_only : (f : Fault) → status_of f ≡ status.CannotWrite → f ≡ fault.CannotWrite
cannot_write_only (fault.Misuse text) e = cc
cannot_write_only (fault.RefusedText number place) e = cc
cannot_write_only (fault.Refused number line) e = cc
cannot_write_only (fault.BadPress word) e = cc
cannot_write_only fault.TooManyPresses e = cc
cannot_write_only (fault.BadFire word) e = cc
cannot_write_only (fault.BadSpan word) e = cc
cannot_write_only (fault.BadScan why word) e = cc
cannot_write_only (fault.BadName word says) e = cc
cannot_write_only (fault.CannotRead cause) e = cc
cannot_write_only fault.CannotWrite e = refl
cannot_write_only fault.NoMemory e = cc

module _ (Of : Outcome → List ℕ → Type 0) (outcome : Outcome) (below : List ℕ) (result : Status) (answered : Of outcome below) where
  -- where it is done, the outcome was an output, and it and its warnings were written
  done_of : (Written Warned : Output → Type 0) → IfOk outcome (λ output. result ≡ status.Done → Written output) → IfOk outcome (λ output. result ≡ status.Done → Warned output) → IfErr outcome (λ f. result ≡ status_of f)
      → result ≡ status.Done → (output : Output) × (text : List ℕ) × Of (Ok output) text × Written output × Warned output
  done_of Written Warned shown warned ends e = by outcome answered shown warned ends
    where
      by : (o : Outcome) → Of o below → IfOk o (λ output. result ≡ status.Done → Written output) → IfOk o (λ output. result ≡ status.Done → Warned output) → IfErr o (λ f. result ≡ status_of f)
          → (output : Output) × (text : List ℕ) × Of (Ok output) text × Written output × Warned output
      by (Ok output) m shown warned ends = (output, below, m, shown e, warned e)
      by (Err f) m shown warned ends = absurd (never_done f (sym ends ∙ e))

  -- where the output can't be written, the outcome was one, and a front of it was written
  front_of : (Begun : Output → Type 0) → (outcome ≡ Err fault.CannotWrite → ⊥) → IfOk outcome (λ output. result ≡ status.CannotWrite → Begun output) → IfErr outcome (λ f. result ≡ status_of f)
      → result ≡ status.CannotWrite → (output : Output) × (text : List ℕ) × Of (Ok output) text × Begun output
  front_of Begun never front ends e = by outcome answered never front ends
    where
      by : (o : Outcome) → Of o below → (o ≡ Err fault.CannotWrite → ⊥) → IfOk o (λ output. result ≡ status.CannotWrite → Begun output) → IfErr o (λ f. result ≡ status_of f)
          → (output : Output) × (text : List ℕ) × Of (Ok output) text × Begun output
      by (Ok output) m never front ends = (output, below, m, front e)
      by (Err f) m never front ends = absurd (never (ap Err (cannot_write_only f (sym ends ∙ e))))

  -- else the outcome was a fault, or the output failed, and the message was written, with what is below it
  told_of : (Told : List ℕ → Type 0) (failed : Bool)
      → IfOk outcome (λ _. (result ≡ status.Done) ⊎ ((result ≡ status.CannotWrite) × (failed ≡ true)))
      → IfOk outcome (λ _. result ≡ status.CannotWrite → Told (message_of fault.CannotWrite))
      → IfErr outcome (λ f. result ≡ status_of f) → IfErr outcome (λ f. Told (message_of f ++ below))
      → (result ≡ status.Done) ⊎ ((f : Fault) × (text : List ℕ) × (Of (Err f) text ⊎ ((f ≡ fault.CannotWrite) × (failed ≡ true) × (text ≡ []))) × (status_of f ≡ result) × Told (message_of f ++ text))
  told_of Told failed ok unwritten ends told = by outcome answered ok unwritten ends told
    where
      by : (o : Outcome) → Of o below → IfOk o (λ _. (result ≡ status.Done) ⊎ ((result ≡ status.CannotWrite) × (failed ≡ true)))
          → IfOk o (λ _. result ≡ status.CannotWrite → Told (message_of fault.CannotWrite)) → IfErr o (λ f. result ≡ status_of f) → IfErr o (λ f. Told (message_of f ++ below))
          → (result ≡ status.Done) ⊎ ((f : Fault) × (text : List ℕ) × (Of (Err f) text ⊎ ((f ≡ fault.CannotWrite) × (failed ≡ true) × (text ≡ []))) × (status_of f ≡ result) × Told (message_of f ++ text))
      by (Ok output) m (inl done) unwritten ends told = inl done
      by (Ok output) m (inr (is, fails)) unwritten ends told = inr (fault.CannotWrite, [], inr (refl, fails, refl), sym is, unwritten is)
      by (Err f) m ok unwritten ends told = inr (f, below, inl m, sym ends, told)

  -- a fault leaves the output as it was
  nothing_of : (Kept : Type 0) (failed : Bool) → IfOk outcome (λ _. (result ≡ status.Done) ⊎ ((result ≡ status.CannotWrite) × (failed ≡ true))) → IfErr outcome (λ _. Kept)
      → (result ≡ status.Done) ⊎ (((result ≡ status.CannotWrite) × (failed ≡ true)) ⊎ Kept)
  nothing_of Kept failed ok kept = by outcome ok kept
    where
      by : (o : Outcome) → IfOk o (λ _. (result ≡ status.Done) ⊎ ((result ≡ status.CannotWrite) × (failed ≡ true))) → IfErr o (λ _. Kept) → (result ≡ status.Done) ⊎ (((result ≡ status.CannotWrite) × (failed ≡ true)) ⊎ Kept)
      by (Ok output) (inl done) kept = inl done
      by (Ok output) (inr fails) kept = inr (inl fails)
      by (Err f) ok kept = inr (inr kept)

  -- all that is said of the two streams
  pub printed_of : (out err : Held) → (outcome ≡ Err fault.CannotWrite → ⊥)
      → IfOk outcome (λ _. (result ≡ status.Done) ⊎ ((result ≡ status.CannotWrite) × (out.failed ≡ true)))
      → IfOk outcome (λ output. result ≡ status.Done → Appends out.before out.after (bytes_of output))
      → IfOk outcome (λ output. result ≡ status.CannotWrite → AppendsFront out.before out.after (bytes_of output))
      → IfOk outcome (λ output. result ≡ status.Done → Warns output err.before err.after err.failed)
      → IfOk outcome (λ _. result ≡ status.CannotWrite → Writes err.before err.after err.failed (message_of fault.CannotWrite))
      → IfErr outcome (λ f. result ≡ status_of f) → IfErr outcome (λ _. Keeps out.before out.after)
      → IfErr outcome (λ f. Writes err.before err.after err.failed (message_of f ++ below)) → HasPrinted Of out err result
  printed_of out err never ends shown front warned unwritten fault kept told = record {
    done = done_of (λ output. Appends out.before out.after (bytes_of output)) (λ output. Warns output err.before err.after err.failed) shown warned fault;
    told = told_of (Writes err.before err.after err.failed) out.failed ends unwritten fault told;
    nothing = nothing_of (Keeps out.before out.after) out.failed ends kept;
    front = front_of (λ output. AppendsFront out.before out.after (bytes_of output)) never front fault;
  }
