use Rattle.std.proofs.Common.{◌≡◌, length}
use Rattle.std.specs.Prelude.{option_map}
use Rattle.cli_host.specs.CallsFile.{words_left, pieces_left}
use Rattle.cli_host.specs.declared.calls.Cut.TheVariants.{Blank}
use Rattle.cli_host.proofs.calls.next_word.Given as goal

-- no word so far
abbrev pub invariant-pieces : goal.invariant-pieces
invariant-pieces l = words_left (option_map (λ left. left.now) l.left) ≡ words_left (option_map (λ left. left.now) l.rest)

abbrev pub decreases-pieces : goal.decreases-pieces
decreases-pieces l = length (pieces_left Blank (option_map (λ left. left.now) l.rest))
