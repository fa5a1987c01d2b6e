use Rattle.std.proofs.Common.{arith, ◌≡◌, ◌∷◌, [], ℕ, ◌<◌, List, length, Bor, Option, Some, None}
use Rattle.std.specs.Prelude.{IfSome, IsNone}
use Rattle.std.specs.Option.{MatchOption}
use Rattle.std.specs.List.{position_or_len, before_first, after_first}
use Rattle.std.proofs.lemmas.Str.Pattern.{split_once_first}
use Rattle.cli_host.specs.Presses.{parts_of}
use Rattle.cli_host.proofs.Parts.{is_colon, one_part, part_before}
use Rattle.cli_host.proofs.press.first_part.Goals as goal

abbrev Cut : List ℕ → Option (Bor (List ℕ) × Bor (List ℕ)) → Type 0
Cut text r = MatchOption r (position_or_len is_colon text ≡ length text) (λ x. (position_or_len is_colon text < length text) × (x.0.now ≡ before_first is_colon text) × (x.1.now ≡ after_first is_colon text))

some_of : (text : List ℕ) (r : Option (Bor (List ℕ) × Bor (List ℕ))) → Cut text r → IfSome r (λ parts. parts_of text ≡ parts.0.now ∷ parts_of parts.1.now)
some_of text (Some x) h = part_before text x.0.now x.1.now h.0 h.1 h.2
some_of text None h = tt

none_of : (text : List ℕ) (r : Option (Bor (List ℕ) × Bor (List ℕ))) → Cut text r → IsNone r → parts_of text ≡ text ∷ []
none_of text (Some x) h e = let no = e in cc
none_of text None h e = one_part text h

pub returns-clause-some : goal.returns-clause-some
returns-clause-some c = some_of c.args.text.now c.split_once.result (split_once_first 58 c.args.text.now c.split_once.result c.split_once.ensures.cases (omega arith))

pub returns-clause-none : goal.returns-clause-none
returns-clause-none c = none_of c.args.text.now c.split_once.result (split_once_first 58 c.args.text.now c.split_once.result c.split_once.ensures.cases (omega arith))
