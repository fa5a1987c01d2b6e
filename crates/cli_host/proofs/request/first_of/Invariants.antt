use Rattle.std.proofs.Common.{ℕ, List, ◌≡◌, ◌<◌, map}
use Rattle.std.specs.Prelude.{slice_get, Some, string_bytes}
use Rattle.cli_host.proofs.request.first_of.Given as goal

-- none of the words so far
abbrev pub invariant-words : goal.invariant-words
invariant-words l = (l.place ≡ l.word-index) × ((k : ℕ) (word : List ℕ) → k < l.word-index → slice_get (map string_bytes l.words) k ≡ Some word → word ≡ l.option → ⊥)
