-- Words that ask for help, the version, or what a number means (own rules).
use Rattle.std.specs.Prelude.{◌≡◌, ◌==◌, ◌&&◌, ◌||◌, ℕ, Bool, true, false, List, [], ◌∷◌, bytes_eq, codes, slice_index}
use Rattle.std.specs.List.{list_any}
use Rattle.cli_help.specs.declared.command.Answer.{Answer}
use Rattle.cli_help.specs.declared.command.Answer.TheVariants.{Help, Misuse, NoMemory}

-- a word that begins with `-h` or `-V`
abbrev pub is_short_help : List ℕ → Bool
is_short_help word = slice_index word 0 == 45 && (slice_index word 1 == 104 || slice_index word 1 == 86)

-- an option that asks for help or the version; after a short one others may be
abbrev pub is_help_option : List ℕ → Bool
is_help_option word = bytes_eq word (codes "--help") || bytes_eq word (codes "--version") || is_short_help word

abbrev pub has_help_option : List (List ℕ) → Bool
has_help_option words = list_any is_help_option words

-- the commands `help` and `explain`
abbrev pub is_helper : List ℕ → Bool
is_helper word = bytes_eq word (codes "help") || bytes_eq word (codes "explain")

abbrev pub begin_with_help : List (List ℕ) → Bool
begin_with_help [] = false
begin_with_help (word ∷ words) = is_helper word

-- words ask for help: `help` or `explain` comes first, or one of them is such an option
abbrev pub ask_for_help : List (List ℕ) → Bool
ask_for_help words = begin_with_help words || has_help_option words

-- help is given only where it was asked for
abbrev pub IsAskedFor : List (List ℕ) → Answer → Type 0
IsAskedFor words (Help text) = ask_for_help words ≡ true
IsAskedFor words (Misuse text) = Unit {0}
IsAskedFor words NoMemory = Unit {0}
