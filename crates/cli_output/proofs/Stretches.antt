-- A line after a stretch lengthens it, or begins the next.
use Rattle.std.proofs.Common.{◌≡◌, ℕ, ◌+◌, ◌==◌, if◌then◌else◌, true, false, List, ◌∷◌, ◌++◌, flat_map, sym, ap, ◌∙◌, append_assoc}
use Rattle.cli_output.specs.Paths.{alone, stretches_from, stretch_text}
use Rattle.cli_output.specs.declared.path.Stretch.{Stretch}

pub lengthens : (s : Stretch) (line : ℕ) (lines : List ℕ) → (line == s.last + 1) ≡ true → stretches_from s (line ∷ lines) ≡ stretches_from (record s { last = line }) lines
unfolding stretches_from
lengthens s line lines is = ap (λ t. if t then stretches_from (record s { last = line }) lines else s ∷ stretches_from (alone line) lines) is

ends : (s : Stretch) (line : ℕ) (lines : List ℕ) → (line == s.last + 1) ≡ false → stretches_from s (line ∷ lines) ≡ s ∷ stretches_from (alone line) lines
unfolding stretches_from
ends s line lines is = ap (λ t. if t then stretches_from (record s { last = line }) lines else s ∷ stretches_from (alone line) lines) is

-- the text of one that ends was written
pub ended : (s : Stretch) (line : ℕ) (lines before after : List ℕ) → (line == s.last + 1) ≡ false → after ≡ before ++ stretch_text s → after ++ flat_map stretch_text (stretches_from (alone line) lines) ≡ before ++ flat_map stretch_text (stretches_from s (line ∷ lines))
ended s line lines before after is e =
    ap (λ text. text ++ flat_map stretch_text (stretches_from (alone line) lines)) e
    ∙ append_assoc before (stretch_text s) (flat_map stretch_text (stretches_from (alone line) lines))
    ∙ ap (λ spans. before ++ flat_map stretch_text spans) (sym (ends s line lines is))
