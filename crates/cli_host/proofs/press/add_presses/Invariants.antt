use Rattle.std.proofs.Common.{ℕ, List, ◌++◌, map, take}
use Rattle.std.specs.Prelude.{string_bytes}
use Rattle.cli_host.specs.Presses.{AreOfWords}
use Rattle.cli_host.proofs.press.add_presses.Given as goal

-- the presses of the words so far
abbrev pub invariant-words : goal.invariant-words
invariant-words l = (before : List (List ℕ)) → AreOfWords l.rounds l.floors before l.fn.presses → AreOfWords l.rounds l.floors (before ++ map string_bytes (take l.word-index l.words)) l.presses
