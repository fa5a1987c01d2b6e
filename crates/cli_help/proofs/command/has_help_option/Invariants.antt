use Rattle.std.proofs.Common.{◌≡◌, drop, map, string_bytes}
use Rattle.cli_help.specs.Helps.{has_help_option}
use Rattle.cli_help.proofs.command.has_help_option.Given as goal

-- the words that are left report
abbrev pub invariant-words : goal.invariant-words
invariant-words l = has_help_option (map string_bytes l.words) ≡ has_help_option (map string_bytes (drop l.word-index l.words))
