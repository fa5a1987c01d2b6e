use Rattle.std.proofs.Common.{◌≡◌, ◌++◌, List, ℕ, Option, map, drop}
use Rattle.il_statics.specs.Tables.{word}
use Rattle.load_scope.specs.declared.entry.BlockType.{BlockType}
use Rattle.load_slots.specs.Making.{word_variable}
use Rattle.load_code.specs.declared.laying.Opening.{Opening}
use Rattle.load_code.specs.Laying.{list_openings}
use Rattle.load_code.proofs.laying.add_words.Given as goal

-- the slots so far, with those of the words that are left, are all
abbrev pub invariant-words : goal.invariant-words
invariant-words l = (inner : List ℕ → Option BlockType → List Opening) → l.openings ++ list_openings inner l.path (map (λ w. word_variable (word w)) (drop l.each-index l.words)) ≡ l.initial.openings ++ list_openings inner l.path (map (λ w. word_variable (word w)) l.words)
