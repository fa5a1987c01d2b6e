-- Parentheses, as a loop over the instructions keeps them.
use Rattle.std.proofs.Common.{◌≡◌, ℕ, Bool, true, false, ◌&&◌, List, [], ◌∷◌, ◌++◌, append-nil, refl, sym, ◌∙◌, ap, arith}
use Rattle.std.specs.Prelude.{IsTrue, ◌==◌, max}
use Rattle.il_syntax.specs.declared.tree.Step.{Step}
use Rattle.il_syntax.specs.Grammar.{may_stand, needs_load, depth_after, is_nested, greatest_depth}
use Rattle.load_lines.proofs.Chain.{regroup}

-- What a loop knows after these instructions: how many parentheses are open, whether a load has to follow, and how many were open at most.
pub record IsOpen (xs : List Step) (depth : ℕ) (load : Bool) (most : ℕ) : Type 0 where
  pub nested : (more : List Step) → is_nested 0 false (xs ++ more) ≡ is_nested depth load more
  pub deep : (more : List Step) → greatest_depth 0 (xs ++ more) ≡ max most (greatest_depth depth more)

-- the greatest of three
max_three : (a b c : ℕ) → max (max a b) c ≡ max a (max b c)
max_three a b c = omega arith

-- a loop begins
pub none_open : IsOpen [] 0 false 0
none_open = record { nested = λ more. refl; deep = λ more. omega arith }

-- an instruction that may be there
pub one_open : (xs : List Step) (depth : ℕ) (load : Bool) (most : ℕ) (x : Step) → IsOpen xs depth load most → may_stand depth load x ≡ true
    → IsOpen (xs ++ x ∷ []) (depth_after depth x.instruction) (needs_load x.instruction) (max most depth)
one_open xs depth load most x here may = record {
  nested = λ more. ap (λ ys. is_nested 0 false ys) (sym (regroup xs x more)) ∙ here.nested (x ∷ more) ∙ ap (λ b. b && is_nested (depth_after depth x.instruction) (needs_load x.instruction) more) may;
  deep = λ more. ap (λ ys. greatest_depth 0 ys) (sym (regroup xs x more)) ∙ here.deep (x ∷ more) ∙ sym (max_three most depth (greatest_depth (depth_after depth x.instruction) more));
}

-- an instruction that may not: nothing that begins so is nested
pub stands_wrongly : (xs : List Step) (depth : ℕ) (load : Bool) (most : ℕ) (x : Step) → IsOpen xs depth load most → may_stand depth load x ≡ false
    → (more : List Step) → IsTrue (is_nested 0 false (xs ++ x ∷ more)) → ⊥
stands_wrongly xs depth load most x here may more w =
    let e = here.nested (x ∷ more) ∙ ap (λ b. b && is_nested (depth_after depth x.instruction) (needs_load x.instruction) more) may in
    let bad : false ≡ true = sym e ∙ w in
    cc

-- the end: no parenthesis is open
pub closed : (xs : List Step) (depth : ℕ) (load : Bool) (most : ℕ) → IsOpen xs depth load most → is_nested 0 false xs ≡ (depth == 0)
closed xs depth load most here = ap (λ ys. is_nested 0 false ys) (sym (append-nil xs)) ∙ here.nested []
