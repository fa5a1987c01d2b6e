-- Words as text.
use Rattle.std.proofs.Common.{◌≡◌, ℕ, ◌-◌, List, take, drop, ◌∙◌, ap}
use Rattle.std.specs.Prelude.{slice_range}
use Rattle.std.specs.Char.{to_ascii_uppercase}
use Rattle.std.proofs.lemmas.List.{drop-map, take-map}
use Rattle.il_syntax.specs.Text.{upper_case}

-- a part of the text in upper case
pub upper_part : (text upper : List ℕ) (i j : ℕ) → upper ≡ upper_case text → slice_range upper i j ≡ upper_case (slice_range text i j)
upper_part text upper i j is =
    ap (λ xs. take (j - i) (drop i xs)) is ∙ ap (take (j - i)) (drop-map to_ascii_uppercase i text) ∙ take-map to_ascii_uppercase (j - i) (drop i text)
