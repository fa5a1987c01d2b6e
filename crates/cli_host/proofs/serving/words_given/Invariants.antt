use Rattle.std.proofs.Common.{length, map}
use Rattle.std.specs.Prelude.{string_bytes}
use Rattle.cli_host.specs.Servings.{Give, Taken, given_of, nothing_taken}
use Rattle.cli_host.proofs.serving.words_given.Given as goal

-- all words give what those that are left give beside what is given
abbrev pub invariant-words : goal.invariant-words
invariant-words l = record {
  whole : (after : Taken) → Give (map string_bytes l.rest) (given_of l.given) after → Give (map string_bytes l.words) nothing_taken after;
  left : (after : Taken) → Give (map string_bytes l.words) nothing_taken after → Give (map string_bytes l.rest) (given_of l.given) after;
}

abbrev pub decreases-words : goal.decreases-words
decreases-words l = length (map string_bytes l.rest)
