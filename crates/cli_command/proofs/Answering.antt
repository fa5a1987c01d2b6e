-- What the program gives of its words, by what it gives of the words as they are read.
use Rattle.std.proofs.Common.{◌≡◌, ◌||◌, ℕ, Bool, List, Option, Some, None, IfSome, map, string_bytes, subst}
use Rattle.cli_host.specs.declared.files.ReadFault.{ReadFault}
use Rattle.cli_host.specs.declared.request.Flags.{Flags}
use Rattle.cli_host.specs.declared.request.Plain.{Plain}
use Rattle.cli_host.specs.declared.serving.Serving.{Serving}
use Rattle.cli_host.specs.declared.status.Status.{Status}
use Rattle.cli_host.specs.Requests.{explains, flags_of, plain_words}
use Rattle.cli_host.specs.Servings.{Serves}
use Rattle.cli_shell.specs.Runs.{AskForRun}
use Rattle.cli_command.specs.Programs.{AreUntouched, IsProgramAnswer, IsRunAnswer, plain, printed, printed_run, unread, unread_run}
use Rattle.cli_command.specs.Servings.{Streams}

pub if_some : {A : Type 0} {P Q : A → Type 0} (o : Option A) → ((x : A) → P x → Q x) → IfSome o P → IfSome o Q
if_some (Some x) f is = f x is
if_some None f is = tt

-- words that ask for `run` don't ask to serve
pub never_served : (words : List (List ℕ)) → AskForRun words → (serving : Serving) → Serves words serving → ⊥
never_served words ask serving serves =
    let run = ask.1.are in
    let serve = serves.are in cc

module _ (given : Plain) (words : List (List ℕ)) (are : map string_bytes given.words.items ≡ plain_words words) (says : given.explains ≡ explains words) (flags : given.flags ≡ flags_of words) where
  -- what holds of the words as they are read
  pub as_read : (always : Bool) (P : Bool → List (List ℕ) → Flags → Type 0) → P (always || given.explains) (map string_bytes given.words.items) given.flags → P (always || explains words) (plain_words words) (flags_of words)
  as_read always P is =
      subst (λ e. P (always || e) (plain_words words) (flags_of words)) says
      (subst (λ ws. P (always || given.explains) ws (flags_of words)) are (subst (λ f. P (always || given.explains) (map string_bytes given.words.items) f) flags is))

module _ (reads : List ℕ → ℕ → List ℕ → Type 0) (fails : List ℕ → ℕ → ReadFault → Type 0) where
  -- the command `run` among the others
  pub of_run : (always : Bool) (words : List (List ℕ)) → AskForRun (plain_words words) → (s : Streams) → AreUntouched s → (ends : Status) → IsRunAnswer reads fails always words s.out s.err ends → IsProgramAnswer reads fails always words s ends
  of_run always words ask s untouched ends (unread_run is) = unread is untouched
  of_run always words ask s untouched ends (printed_run is) = plain (printed (never_served (plain_words words) ask) is untouched)
