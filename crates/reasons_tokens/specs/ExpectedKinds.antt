-- The kinds of what may be expected at a place of a text (own rules).
use Rattle.std.specs.Prelude.{ℕ, List, [], ◌∷◌, codes}
use Rattle.reasons_tokens.specs.declared.expected.Expected.{Expected}

-- a kind: how it is reported, and a token of it; the end of the text has none
pub record ExpectedKind : Type 0 where
  pub words : List ℕ
  pub sample : List ℕ

-- a kind by its words and its token
abbrev pub expects : List ℕ → List ℕ → ExpectedKind
expects words sample = record { words = words; sample = sample }

-- the kind of a row
abbrev pub kind_of : Expected → ExpectedKind
kind_of row = expects row.words.now row.sample.now

-- the kinds, in the order in which they are reported
unfoldable pub expected_kinds : List ExpectedKind
expected_kinds =
    expects (codes "the end of the line") (codes "\n") ∷
    expects (codes "the end of the text") [] ∷
    expects (codes "an instruction") (codes "JMP") ∷
    expects (codes "an instruction but JMP, CAL and RET") (codes "NOT") ∷
    expects (codes "`LD` or `LDN`") (codes "LD") ∷
    expects (codes "a name") (codes "X") ∷
    expects (codes "`CARS`") (codes "CARS") ∷
    expects (codes "`FLOORS`") (codes "FLOORS") ∷
    expects (codes "`SLOTS`") (codes "SLOTS") ∷
    expects (codes "a literal") (codes "TRUE") ∷
    expects (codes "a number") (codes "1") ∷
    expects (codes "a duration") (codes "T#1s") ∷
    expects (codes "a type") (codes "BOOL") ∷
    expects (codes "`INT`") (codes "INT") ∷
    expects (codes "`(`") (codes "(") ∷
    expects (codes "`)`") (codes ")") ∷
    expects (codes "`[`") (codes "[") ∷
    expects (codes "`]`") (codes "]") ∷
    expects (codes "`,`") (codes ",") ∷
    expects (codes "`:`") (codes ":") ∷
    expects (codes "`:=`") (codes ":=") ∷
    expects (codes "`=>`") (codes "=>") ∷
    expects (codes "`;`") (codes ";") ∷
    expects (codes "`..`") (codes "..") ∷
    expects (codes "`.`") (codes ".") ∷
    expects (codes "`ARRAY`") (codes "ARRAY") ∷
    expects (codes "`OF`") (codes "OF") ∷
    expects (codes "`VAR_INPUT`") (codes "VAR_INPUT") ∷
    expects (codes "`VAR_OUTPUT`") (codes "VAR_OUTPUT") ∷
    expects (codes "`VAR`") (codes "VAR") ∷
    expects (codes "`VAR_EXTERNAL`") (codes "VAR_EXTERNAL") ∷
    expects (codes "`END_VAR`") (codes "END_VAR") ∷
    expects (codes "`FUNCTION`") (codes "FUNCTION") ∷
    expects (codes "`FUNCTION_BLOCK`") (codes "FUNCTION_BLOCK") ∷
    expects (codes "`PROGRAM`") (codes "PROGRAM") ∷
    expects (codes "`CONFIGURATION`") (codes "CONFIGURATION") ∷
    expects (codes "`END_FUNCTION`") (codes "END_FUNCTION") ∷
    expects (codes "`END_FUNCTION_BLOCK`") (codes "END_FUNCTION_BLOCK") ∷
    expects (codes "`END_PROGRAM`") (codes "END_PROGRAM") ∷
    expects (codes "`VAR_GLOBAL`") (codes "VAR_GLOBAL") ∷
    expects (codes "`CONSTANT`") (codes "CONSTANT") ∷
    expects (codes "`RESOURCE`") (codes "RESOURCE") ∷
    expects (codes "`ON`") (codes "ON") ∷
    expects (codes "`TASK`") (codes "TASK") ∷
    expects (codes "`INTERVAL`") (codes "INTERVAL") ∷
    expects (codes "`PRIORITY`") (codes "PRIORITY") ∷
    expects (codes "`WITH`") (codes "WITH") ∷
    expects (codes "`END_RESOURCE`") (codes "END_RESOURCE") ∷
    expects (codes "`END_CONFIGURATION`") (codes "END_CONFIGURATION") ∷
    []
