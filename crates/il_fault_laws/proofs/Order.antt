-- Of two faults none follows the other, where the first is an unexpected token or a parenthesis too deep.
use Rattle.std.specs.Prelude.{◌⊎◌}
use Rattle.std.proofs.Common.{◌≡◌, ℕ, List, [], ◌∷◌, length, sym, ◌∙◌, ap, subst, inl, inr, arith}
use Rattle.il_syntax.specs.declared.token.Token.{Token}
use Rattle.il_syntax.specs.declared.tree.Place.{Place}
use Rattle.il_syntax_laws.specs.Alike.{IsEndOf, AreAlike}
use Rattle.il_syntax_laws.specs.GoesOn.{IsCut}
use Rattle.il_syntax_laws.proofs.Alike.{end_self, end_length, alike_end}
use Rattle.il_syntax_laws.proofs.GoesOn.{cut_here}
use Rattle.load_lines.specs.declared.stop.SyntaxError.{SyntaxError}
use Rattle.load_lines.specs.declared.stop.SyntaxError.TheVariants.{Unexpected, TooDeep, TooMany}
use Rattle.il_fault_laws.proofs.Parts.{Parts}

-- a text that is cut after a token is alike up to it
pub cut_alike : (text other : List ℕ) (at : List Token) (t : Token) (back ts us vs : List Token) → IsCut text other at ts us vs → IsEndOf (t ∷ back) ts → IsEndOf at back → AreAlike text other (t ∷ back) ts us
cut_alike text other at t back [] us vs c e k = absurd cc
cut_alike text other at t back (u ∷ ts) us vs (inl c) e k =
    let same = ap length c.0 in
    let short = end_length at back k in
    let long = end_length (t ∷ back) (u ∷ ts) e in
    absurd (omega (arith, same, short, long))
cut_alike text other at t back (u ∷ ts) us vs (inr c) e k = (c.0, c.1, c.2, go e (λ m. cut_alike text other at t back ts c.0 vs c.3 m k))
  where
    go : ((t ∷ back ≡ u ∷ ts) ⊎ IsEndOf (t ∷ back) ts) → (IsEndOf (t ∷ back) ts → AreAlike text other (t ∷ back) ts c.0) → (t ∷ back ≡ u ∷ ts) ⊎ AreAlike text other (t ∷ back) ts c.0
    go (inl same) f = inl same
    go (inr m) f = inr (f m)

-- two texts that are both alike to a third up to a token are alike up to it
pub alike_between : (text a b : List ℕ) (t : Token) (back ts us vs ws : List Token) → IsCut text a back ts us vs → AreAlike text b (t ∷ back) ts ws → AreAlike a b (t ∷ vs) us ws
alike_between text a b t back [] us vs ws c d = absurd (cc d.0)
alike_between text a b t back (u ∷ ts) us vs ws (inl c) d =
    let same = ap length c.0 in
    let long = end_length (t ∷ back) (u ∷ ts) (alike_end text b (t ∷ back) (u ∷ ts) ws d) in
    absurd (omega (arith, same, long))
alike_between text a b t back (u ∷ ts) us vs ws (inr c) d =
    subst (λ (x : List Token). AreAlike a b (t ∷ vs) x ws) (sym c.1) (d.0, d.1, sym c.2 ∙ d.2, go d.3 (λ m. alike_between text a b t back ts c.0 vs d.0 c.3 m))
  where
    go : ((t ∷ back ≡ u ∷ ts) ⊎ AreAlike text b (t ∷ back) ts d.0) → (AreAlike text b (t ∷ back) ts d.0 → AreAlike a b (t ∷ vs) c.0 d.0) → (t ∷ vs ≡ u ∷ c.0) ⊎ AreAlike a b (t ∷ vs) c.0 d.0
    go (inl same) f =
        let first : t ≡ u = cc in
        let rest : back ≡ ts = cc in
        let here : c.0 ≡ vs = cut_here text a back ts c.0 vs c.3 rest in
        inl (ap (λ (x : Token). x ∷ vs) first ∙ ap (λ (l : List Token). u ∷ l) (sym here))
    go (inr m) f = inr (f m)

module _ (text : List ℕ) (ts : List Token) where
  -- a fault after an unexpected token
  pub behind_unexpected : (p q : Place) (error : SyntaxError) (t : Token) (back at : List Token) → Parts text ts p Unexpected (t ∷ back) → Parts text ts q error at → IsEndOf at back → ⊥
  behind_unexpected p q error t back at e f k =
      let b = f.before in
      e.nowhere b.0 b.1 (cut_alike text b.0 at t back ts b.1 b.2 b.4 e.inside k) b.5 b.6 tt

  -- or after a parenthesis too deep
  pub behind_deep : (p q : Place) (error : SyntaxError) (t : Token) (back at : List Token) → Parts text ts p TooDeep (t ∷ back) → Parts text ts q error at → IsEndOf at back → ⊥
  behind_deep p q error t back at e f k =
      let b = f.before in
      e.nowhere b.0 b.1 (cut_alike text b.0 at t back ts b.1 b.2 b.4 e.inside k) b.5 b.6 b.7.0

  -- with an unexpected token a limit alone forbids nothing
  pub not_deep_there : (p q : Place) (at : List Token) → Parts text ts p Unexpected at → Parts text ts q TooDeep at → ⊥
  not_deep_there p q at e f =
      let w = f.with in
      let b = w.3 in
      let inside = subst (λ (x : List Token). IsEndOf x ts) w.2 e.inside in
      let a = cut_alike text b.0 w.1 w.0 w.1 ts b.1 b.2 b.4 inside (end_self w.1) in
      e.nowhere b.0 b.1 (subst (λ (x : List Token). AreAlike text b.0 x ts b.1) (sym w.2) a) b.5 b.6 tt

  pub not_many_there : (p q : Place) (at : List Token) → Parts text ts p Unexpected at → Parts text ts q TooMany at → ⊥
  not_many_there p q at e f =
      let w = f.with in
      let b = w.3 in
      let inside = subst (λ (x : List Token). IsEndOf x ts) w.2 e.inside in
      let a = cut_alike text b.0 w.1 w.0 w.1 ts b.1 b.2 b.4 inside (end_self w.1) in
      e.nowhere b.0 b.1 (subst (λ (x : List Token). AreAlike text b.0 x ts b.1) (sym w.2) a) b.5 b.6 tt
