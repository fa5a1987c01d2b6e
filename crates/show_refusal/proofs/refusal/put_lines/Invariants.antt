use Rattle.std.proofs.Common.{◌≡◌, ◌++◌, flat_map, length}
use Rattle.std.specs.Prelude.{option_map}
use Rattle.show_refusal.specs.Refusals.{line_tokens}
use Rattle.show_refusal.specs.Pieces.{lines_of, lines_left}
use Rattle.show_refusal.proofs.refusal.put_lines.Given as goal

-- the lines that are left complete the tokens
abbrev pub invariant-lines : goal.invariant-lines
invariant-lines l = record {
  before : l.json.before ≡ l.initial.json.before;
  tokens : l.json.tokens ++ flat_map line_tokens (lines_left (option_map (λ left. left.now) l.rest)) ≡ l.initial.json.tokens ++ flat_map line_tokens (lines_of l.told);
}

abbrev pub decreases-lines : goal.decreases-lines
decreases-lines l = length (lines_left (option_map (λ left. left.now) l.rest))
