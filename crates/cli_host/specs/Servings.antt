-- What the words of `serve` ask for (own rules).
use Rattle.std.specs.Prelude.{◌≡◌, ℕ, Bool, true, false, List, [], ◌∷◌, Option, Some, None, option_map, codes}
use Rattle.cli_host.specs.declared.serving.Given.{Given}
use Rattle.cli_host.specs.declared.serving.Serving.{Serving}
use Rattle.cli_host.specs.declared.serving.Tracing.{Tracing}
use Rattle.cli_host.specs.Requests.{IsOption}

-- the name of the trace, where one is written
abbrev pub traced_name : Option Tracing → Option (List ℕ)
traced_name tracing = option_map (λ tracing. tracing.name.now) tracing

-- the name of the trace with whose last state it begins
abbrev pub continued_name : Option Tracing → Option (List ℕ)
continued_name None = None
continued_name (Some tracing) = option_map (λ name. name.now) tracing.from

-- whether its lines wait for the disk
abbrev pub syncs : Option Tracing → Bool
syncs None = false
syncs (Some tracing) = tracing.sync

-- what words give: FILE, OLD of `--from OLD`, TRACE of `--trace TRACE`, and whether `--sync` is one of them
pub record Taken : Type 0 where
  pub file : Option (List ℕ)
  pub from : Option (List ℕ)
  pub trace : Option (List ℕ)
  pub sync : Bool

-- what no words give
abbrev pub nothing_taken : Taken
nothing_taken = record { file = None; from = None; trace = None; sync = false }

-- what was given so far
abbrev pub given_of : Given → Taken
given_of given = record {
  file = option_map (λ name. name.now) given.file;
  from = option_map (λ name. name.now) given.from;
  trace = option_map (λ name. name.now) given.trace;
  sync = given.sync;
}

-- what `serve` is asked for
abbrev pub taken_of : Serving → Taken
taken_of serving = record {
  file = Some serving.file.now;
  from = continued_name serving.trace;
  trace = traced_name serving.trace;
  sync = syncs serving.trace;
}

-- a word alone: FILE or `--sync`, which isn't given yet
pub data GiveWord (word : List ℕ) (before next : Taken) : Type 0 where
  of_file : (IsOption word → ⊥) → before.file ≡ None → next ≡ record before { file = Some word } → GiveWord word before next
  of_sync : word ≡ codes "--sync" → before.sync ≡ false → next ≡ record before { sync = true } → GiveWord word before next

-- an option and its value: `--from OLD` or `--trace TRACE`, which isn't given yet
pub data GiveValue (option value : List ℕ) (before next : Taken) : Type 0 where
  of_from : option ≡ codes "--from" → (IsOption value → ⊥) → before.from ≡ None → next ≡ record before { from = Some value } → GiveValue option value before next
  of_trace : option ≡ codes "--trace" → (IsOption value → ⊥) → before.trace ≡ None → next ≡ record before { trace = Some value } → GiveValue option value before next

-- the first words, one or two, and those after them
pub data GiveFirst (words : List (List ℕ)) (before next : Taken) (rest : List (List ℕ)) : Type 0 where
  one_word : (word : List ℕ) → words ≡ word ∷ rest → GiveWord word before next → GiveFirst words before next rest
  two_words : (option value : List ℕ) → words ≡ option ∷ value ∷ rest → GiveValue option value before next → GiveFirst words before next rest

-- what words give beside what is given before them
pub data Give : List (List ℕ) → Taken → Taken → Type 0 where
  no_words : (taken : Taken) → Give [] taken taken
  more_words : (words rest : List (List ℕ)) (before next after : Taken) → GiveFirst words before next rest → Give rest next after → Give words before after

-- FILE, `--from OLD`, `--trace TRACE` and `--sync`, in any order and each once at most: FILE always, `--from OLD` and `--sync` beside `--trace TRACE` alone
abbrev pub TakesToServe : List (List ℕ) → Serving → Type 0
TakesToServe words serving = Give words nothing_taken (taken_of serving)

-- `serve`, and after it what it takes
pub record Serves (words : List (List ℕ)) (serving : Serving) : Type 0 where
  pub rest : List (List ℕ)
  pub are : words ≡ codes "serve" ∷ rest
  pub takes : TakesToServe rest serving
