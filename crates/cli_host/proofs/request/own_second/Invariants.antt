use Rattle.std.proofs.Common.{◌≡◌, drop, map, string_bytes}
use Rattle.cli_host.specs.Requests.{own_second}
use Rattle.cli_host.proofs.request.own_second.Given as goal

-- the words that are left report
abbrev pub invariant-words : goal.invariant-words
invariant-words l = own_second (map string_bytes l.words) ≡ own_second (map string_bytes (drop l.word-index l.words))
