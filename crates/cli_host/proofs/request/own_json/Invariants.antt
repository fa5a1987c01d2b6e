use Rattle.std.proofs.Common.{◌≡◌, drop, map, string_bytes}
use Rattle.cli_host.specs.Requests.{own_json}
use Rattle.cli_host.proofs.request.own_json.Given as goal

-- the words that are left report
abbrev pub invariant-words : goal.invariant-words
invariant-words l = own_json (map string_bytes l.words) ≡ own_json (map string_bytes (drop l.word-index l.words))
