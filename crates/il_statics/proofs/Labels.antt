-- Where labels are.
use Rattle.std.proofs.Common.{◌≡◌, ℕ, suc, ◌+◌, ◌≤◌, Bool, true, false, if◌then◌else◌, List, [], ◌∷◌, map, length, Option, Some, None, arith}
use Rattle.il_syntax.specs.declared.tree.Step.{Step}
use Rattle.il_statics.specs.Names.{Spelling, is_one_of}
use Rattle.il_statics.specs.Types.{label_from}

same_some : (a b : ℕ) → Some a ≡ Some b → a ≡ b
same_some a b e = cc

-- a label is no further than after the last instruction
pub label_within : (at : ℕ) (steps : List Step) (last : List Spelling) (name : Spelling) (to : ℕ) → label_from at steps last name ≡ Some to → to ≤ at + length steps
label_within at [] last name to e = by_test (is_one_of last name) e
  where
    by_test : (b : Bool) → (if b then Some at else None) ≡ Some to → to ≤ at + 0
    by_test true e = let same : at ≡ to = same_some at to e in omega arith
    by_test false e = absurd (let bad : ◌≡◌ {A = Option ℕ} None (Some to) = e in cc)
label_within at (s ∷ steps) last name to e = by_test (is_one_of (map (λ l. l.name) s.labels) name) (label_within (at + 1) steps last name to) e
  where
    by_test : (b : Bool) → (label_from (at + 1) steps last name ≡ Some to → to ≤ (at + 1) + length steps) → (if b then Some at else label_from (at + 1) steps last name) ≡ Some to → to ≤ at + suc (length steps)
    by_test true below e = let same : at ≡ to = same_some at to e in omega arith
    by_test false below e = let h = below e in omega arith
