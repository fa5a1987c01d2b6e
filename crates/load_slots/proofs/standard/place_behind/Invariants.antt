use Rattle.std.proofs.Common.{◌≡◌, map, drop}
use Rattle.il_statics.specs.Tables.{word}
use Rattle.load_slots.specs.Making.{place_from, word_variable}
use Rattle.load_slots.proofs.standard.place_behind.Given as goal

-- the place among those that are left is that among all
abbrev pub invariant-loop-at : goal.invariant-loop-at
invariant-loop-at l = place_from l.at (map (λ w. word_variable (word w)) (drop l.at l.words)) l.name ≡ place_from 0 (map (λ w. word_variable (word w)) l.words) l.name
