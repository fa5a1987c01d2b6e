use Rattle.std.proofs.Common.{◌≡◌, drop, map, string_bytes}
use Rattle.cli_host.specs.Requests.{explains}
use Rattle.cli_host.proofs.request.explains.Given as goal

-- the words that are left report
abbrev pub invariant-words : goal.invariant-words
invariant-words l = explains (map string_bytes l.words) ≡ explains (map string_bytes (drop l.word-index l.words))
