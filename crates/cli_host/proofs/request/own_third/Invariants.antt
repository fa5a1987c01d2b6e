use Rattle.std.proofs.Common.{◌≡◌, drop, map, string_bytes}
use Rattle.cli_host.specs.Requests.{own_third}
use Rattle.cli_host.proofs.request.own_third.Given as goal

-- the words that are left report
abbrev pub invariant-words : goal.invariant-words
invariant-words l = own_third (map string_bytes l.words) ≡ own_third (map string_bytes (drop l.word-index l.words))
