-- What is below a fault that names a word or a file (own rules).
use Rattle.std.specs.Prelude.{ℕ, List, ◌++◌, codes}
use Rattle.cli_messages.specs.Places.{quoted, shown_name}

-- `WORD: ` and a sentence
abbrev pub word_notice : List ℕ → List ℕ → List ℕ
word_notice word sentence = quoted word ++ (codes ": " ++ (sentence ++ codes "\n"))

-- `NAME: ` and a sentence
abbrev pub file_notice : List ℕ → List ℕ → List ℕ
file_notice name sentence = shown_name name ++ (codes ": " ++ (sentence ++ codes "\n"))

-- a sentence alone
abbrev pub plain_notice : List ℕ → List ℕ
plain_notice sentence = sentence ++ codes "\n"
