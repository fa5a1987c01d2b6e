use Rattle.std.proofs.Common.{◌≡◌, ◌++◌, drop, flat_map, map, string_bytes}
use Rattle.std.specs.Prelude.{option_map}
use Rattle.cli_host.specs.Requests.{plain_word}
use Rattle.cli_host.proofs.request.plain_words.Given as goal

-- the words so far, and those in place of the words that are left
abbrev pub invariant-words : goal.invariant-words
invariant-words l = map string_bytes l.plain.items ++ flat_map (plain_word (option_map (λ flag. flag.now) l.own) (option_map (λ flag. flag.now) l.second) (option_map (λ flag. flag.now) l.third) (option_map (λ flag. flag.now) l.json)) (map string_bytes (drop l.word-index l.words)) ≡ flat_map (plain_word (option_map (λ flag. flag.now) l.own) (option_map (λ flag. flag.now) l.second) (option_map (λ flag. flag.now) l.third) (option_map (λ flag. flag.now) l.json)) (map string_bytes l.words)
