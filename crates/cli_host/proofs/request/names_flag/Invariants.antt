use Rattle.std.proofs.Common.{◌≡◌, drop, map, string_bytes}
use Rattle.std.specs.Prelude.{option_map}
use Rattle.cli_host.specs.Requests.{names_flag}
use Rattle.cli_host.proofs.request.names_flag.Given as goal

-- the words that are left report
abbrev pub invariant-words : goal.invariant-words
invariant-words l =
    let flag = option_map (λ flag. flag.now) l.flag in names_flag flag (map string_bytes l.words) ≡ names_flag flag (map string_bytes (drop l.word-index l.words))
