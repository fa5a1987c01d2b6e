-- Ends of tokens, and cuts.
use Rattle.std.proofs.Common.{◌≡◌, ◌≤◌, ℕ, Bool, true, false, List, [], ◌∷◌, length, refl, sym, ◌∙◌, ap, subst, inl, inr, arith}
use Rattle.std.specs.Prelude.{◌⊎◌, if◌then◌else◌}
use Rattle.il_syntax.specs.declared.token.Token.{Token}
use Rattle.il_syntax.specs.Grammar.{Gap, tight, loose, is_line_end, skip_line_ends}
use Rattle.il_syntax_laws.specs.Alike.{IsEndOf, AreAlike}
use Rattle.il_syntax_laws.specs.GoesOn.{IsCut}
use Rattle.il_syntax_laws.proofs.Alike.{end_self, end_length, end_same, loose_gap}
use Rattle.il_syntax_laws.proofs.Open.{cut_end}
use Rattle.il_syntax_laws.proofs.GoesOn.{cut_here}

-- ENDS

-- of two ends one is an end of the other
pub one_within : (a b us : List Token) → IsEndOf a us → IsEndOf b us → IsEndOf a b ⊎ IsEndOf b a
one_within a b [] p q = inl (subst (λ x. IsEndOf x b) (sym p) (end_same b [] q))
one_within a b (u ∷ us) (inl p) q = inr (subst (λ x. IsEndOf b x) (sym p) q)
one_within a b (u ∷ us) (inr p) (inl q) = inl (subst (λ x. IsEndOf a x) (sym q) (inr p))
one_within a b (u ∷ us) (inr p) (inr q) = one_within a b us p q

-- one text is cut as the other is
pub cut_back : (text other : List ℕ) (at ts us vs : List Token) → IsCut text other at ts us vs → IsCut other text vs us ts at
cut_back text other at [] [] vs c = (sym c.1, sym c.0)
cut_back text other at [] (u ∷ us) vs c = inl (sym c.1, sym c.0)
cut_back text other at (t ∷ ts) [] vs (inl c) = (sym c.1, sym c.0)
cut_back text other at (t ∷ ts) (u ∷ us) vs (inl c) = inl (sym c.1, sym c.0)
cut_back text other at (t ∷ ts) us vs (inr c) = subst (λ x. IsCut other text vs x (t ∷ ts) at) (sym c.1) (inr (ts, refl, sym c.2, cut_back text other at ts c.0 vs c.3))

-- where only line ends come before the cut, what follows line ends follows it
pub past_cut : (text other : List ℕ) (at ts us vs : List Token) → IsCut text other at ts us vs → length (skip_line_ends ts) ≤ length at → IsEndOf (skip_line_ends us) vs
past_cut text other at [] us vs c l = subst (λ x. IsEndOf (skip_line_ends us) x) c.1 (loose_gap.ends us)
past_cut text other at (t ∷ ts) us vs (inl c) l = subst (λ x. IsEndOf (skip_line_ends us) x) c.1 (loose_gap.ends us)
past_cut text other at (t ∷ ts) us vs (inr c) l =
    subst (λ x. IsEndOf (skip_line_ends x) vs) (sym c.1) (go (is_line_end t.kind) (λ k. past_cut text other at ts c.0 vs c.3 k) l)
  where
    go : (b : Bool) → (length (skip_line_ends ts) ≤ length at → IsEndOf (skip_line_ends c.0) vs) → length (if b then skip_line_ends ts else t ∷ ts) ≤ length at
        → IsEndOf (if b then skip_line_ends c.0 else t ∷ c.0) vs
    go true f k = f k
    go false f k = let short = end_length at ts (cut_end text other at ts c.0 vs c.3) in absurd (omega (arith, short, k))

-- at the edge of a cut what follows a gap follows it
pub record PastCut (gap : Gap) : Type 0 where
  pub past : (text other : List ℕ) (at m n vs : List Token) → IsCut text other at m n vs → at ≡ gap m → IsEndOf (gap n) vs

pub tight_past : PastCut tight
tight_past = record { past = λ text other at m n vs c edge. subst (λ x. IsEndOf n x) (cut_here text other at m n vs c edge) (end_self n) }

pub loose_past : PastCut loose
loose_past = record { past = λ text other at m n vs c edge. let same = ap length edge in past_cut text other at m n vs c (omega (arith, same)) }

-- the end of all tokens is an end
pub end_none : (ts : List Token) → IsEndOf [] ts
end_none [] = refl
end_none (t ∷ ts) = inr (end_none ts)

-- tokens that are alike up to their end are the same
pub alike_whole : (text other : List ℕ) (ts us : List Token) → AreAlike text other [] ts us → us ≡ ts
alike_whole text other [] us a = a.1
alike_whole text other (t ∷ ts) us a = go (λ more. alike_whole text other ts a.0 more) a.3
  where
    go : (AreAlike text other [] ts a.0 → a.0 ≡ ts) → ([] ≡ t ∷ ts) ⊎ AreAlike text other [] ts a.0 → us ≡ t ∷ ts
    go f (inl e) = absurd cc
    go f (inr more) = a.1 ∙ ap (λ x. t ∷ x) (f more)
