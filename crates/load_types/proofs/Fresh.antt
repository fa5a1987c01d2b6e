-- The table at the entry of a body.
use Rattle.std.proofs.Common.{◌≡◌, ℕ, zero, suc, ◌+◌, ◌<◌, List, [], ◌∷◌, ◌++◌, length, length-append, Bool, true, if◌then◌else◌, None, refl, sym, ap, ◌∙◌, subst, arith}
use Rattle.load_types.specs.declared.arrival.Arrival.{Arrival}
use Rattle.load_types.specs.declared.arrival.Arrival.TheVariants.{Unreached, Reached}
use Rattle.load_types.specs.Arrivals.{held}
use Rattle.load_types.specs.Places.{IsFresh}

pub pushed : {X : Type 0} (old new : List X) (x : X) (t : Bool) → new ≡ (if t then old ++ x ∷ [] else old) → t ≡ true → new ≡ old ++ x ∷ []
pushed old new x t e is = e ∙ ap (λ b. if b then old ++ x ∷ [] else old) is

pub fresh_one : (new : List Arrival) → new ≡ Reached None ∷ [] → IsFresh 0 new
fresh_one new e = subst (IsFresh 0) (sym e) (record { long = refl; entry = refl; others = others })
  where
    others : (p : ℕ) → 0 < p → held (Reached None ∷ []) p ≡ Unreached
    others zero up = absurd (omega arith)
    others (suc p) up = refl

held_more : (xs : List Arrival) (p : ℕ) → 0 < length xs → held (xs ++ Unreached ∷ []) p ≡ held xs p
held_more [] p up = absurd (omega arith)
held_more (x ∷ xs) zero up = refl
held_more (x ∷ []) (suc zero) up = refl
held_more (x ∷ []) (suc (suc p)) up = refl
held_more (x ∷ y ∷ xs) (suc p) up = held_more (y ∷ xs) p (omega arith)

pub fresh_more : (n : ℕ) (old new : List Arrival) → IsFresh n old → new ≡ old ++ Unreached ∷ [] → IsFresh (n + 1) new
fresh_more n old new f e =
    let up : 0 < length old = omega (arith, f.long) in
    subst (IsFresh (n + 1)) (sym e) (record {
      long = length-append old (Unreached ∷ []) ∙ ap (λ k. k + 1) f.long;
      entry = held_more old 0 up ∙ f.entry;
      others = λ p q. held_more old p up ∙ f.others p q;
    })
