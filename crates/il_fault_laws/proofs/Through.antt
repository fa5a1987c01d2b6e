-- Cuts, one after another.
use Rattle.std.proofs.Common.{◌≡◌, ℕ, List, [], ◌∷◌, length, refl, sym, ◌∙◌, ap, subst, inl, inr, arith}
use Rattle.il_syntax.specs.declared.token.Token.{Token}
use Rattle.il_syntax_laws.specs.Alike.{IsEndOf, AreAlike}
use Rattle.il_syntax_laws.specs.GoesOn.{IsCut}
use Rattle.il_syntax_laws.proofs.Alike.{end_same, end_self, end_length}
use Rattle.il_syntax_laws.proofs.Open.{cut_end}
use Rattle.il_syntax_laws.proofs.GoesOn.{cut_here}
use Rattle.load_tree.proofs.Cuts.{cut_back}
use Rattle.il_fault_laws.proofs.Order.{cut_alike}

-- what follows the cut is an end of the other text
pub cut_rest : (text other : List ℕ) (at ts us vs : List Token) → IsCut text other at ts us vs → IsEndOf vs us
cut_rest text other at ts us vs c = cut_end other text vs us ts at (cut_back text other at ts us vs c)

-- a text that is cut at one place is cut at each before it
pub cut_earlier : (text other : List ℕ) (at mid ts us vs : List Token) → IsCut text other at ts us vs → IsEndOf at mid → IsEndOf mid ts → (ms : List Token) × IsCut text other mid ts us ms × IsCut text other at mid ms vs
cut_earlier text other at mid [] us vs c k e = (us, (e, refl), subst (λ (x : List Token). IsCut text other at x us vs) (sym e) c)
cut_earlier text other at mid (u ∷ ts) us vs c k (inl same) = (us, inl (same, refl), subst (λ (x : List Token). IsCut text other at x us vs) (sym same) c)
cut_earlier text other at mid (u ∷ ts) us vs (inl c) k (inr e) =
    let same = ap length c.0 in
    let a = end_length at mid k in
    let b = end_length mid ts e in
    absurd (omega (arith, same, a, b))
cut_earlier text other at mid (u ∷ ts) us vs (inr c) k (inr e) = let r = cut_earlier text other at mid ts c.0 vs c.3 k e in (r.0, inr (c.0, c.1, c.2, r.1), r.2)

-- a text that is cut as another is
pub cut_trans : (text a b : List ℕ) (back ts us vs ws xs : List Token) → IsCut text a back ts us vs → IsCut a b vs us ws xs → IsCut text b back ts ws xs
cut_trans text a b back [] us vs ws xs c d = (c.0, cut_here a b vs us ws xs d (sym c.1))
cut_trans text a b back (u ∷ ts) us vs ws xs (inl c) d = inl (c.0, cut_here a b vs us ws xs d (sym c.1))
cut_trans text a b back (u ∷ ts) us vs ws xs (inr c) d = go (subst (λ (x : List Token). IsCut a b vs x ws xs) c.1 d) (λ w f. cut_trans text a b back ts c.0 vs w xs c.3 f)
  where
    go : IsCut a b vs (u ∷ c.0) ws xs → ((w : List Token) → IsCut a b vs c.0 w xs → IsCut text b back ts w xs) → IsCut text b back (u ∷ ts) ws xs
    go (inl f) g =
        let same = ap length f.0 in
        let short = end_length vs c.0 (cut_rest text a back ts c.0 vs c.3) in
        absurd (omega (arith, same, short))
    go (inr f) g = inr (f.0, f.1, c.2 ∙ f.2, g f.0 f.3)

-- a text that is cut like another, after a token or later, is alike up to this token
pub through : (text a b : List ℕ) (t : Token) (back ts us vs m ws xs : List Token) → IsCut text a back ts us vs → IsCut a b m us ws xs → IsEndOf m vs → IsEndOf (t ∷ back) ts → AreAlike text b (t ∷ back) ts ws
through text a b t back ts us vs m ws xs c d k e =
    let r = cut_earlier a b m vs us ws xs d k (cut_rest text a back ts us vs c) in
    cut_alike text b back t back ts ws r.0 (cut_trans text a b back ts us vs ws r.0 c r.1) e (end_self back)

-- the token before a cut
pub before_cut : (text other : List ℕ) (t : Token) (back ts us vs : List Token) → IsCut text other back ts us vs → IsEndOf (t ∷ back) ts → IsEndOf (t ∷ vs) us
before_cut text other t back [] us vs c e = absurd cc
before_cut text other t back (u ∷ ts) us vs (inl c) e =
    let same = ap length c.0 in
    let long = end_length (t ∷ back) (u ∷ ts) e in
    absurd (omega (arith, same, long))
before_cut text other t back (u ∷ ts) us vs (inr c) (inl e) =
    let first : t ≡ u = cc in
    let rest : back ≡ ts = cc in
    let here : c.0 ≡ vs = cut_here text other back ts c.0 vs c.3 rest in
    end_same us (t ∷ vs) (c.1 ∙ ap (λ (l : List Token). u ∷ l) here ∙ ap (λ (x : Token). x ∷ vs) (sym first))
before_cut text other t back (u ∷ ts) us vs (inr c) (inr e) = subst (λ (x : List Token). IsEndOf (t ∷ vs) x) (sym c.1) (inr (before_cut text other t back ts c.0 vs c.3 e))

-- the tokens after two cuts, one token apart
pub next_cut : (text other : List ℕ) (x : Token) (back ts us ms ns : List Token) → IsCut text other (x ∷ back) ts us ms → IsCut text other back ts us ns → ms ≡ x ∷ ns
next_cut text other x back [] us ms ns c d = absurd (cc c.0)
next_cut text other x back (u ∷ ts) us ms ns (inl c) (inl d) = let a = ap length c.0 in let b = ap length d.0 in absurd (omega (arith, a, b))
next_cut text other x back (u ∷ ts) us ms ns (inl c) (inr d) =
    let whole = c.0 in
    let first : x ≡ u = cc in
    let rest : back ≡ ts = cc in
    let here : d.0 ≡ ns = cut_here text other back ts d.0 ns d.3 rest in
    sym c.1 ∙ d.1 ∙ ap (λ (l : List Token). u ∷ l) here ∙ ap (λ (y : Token). y ∷ ns) (sym first)
next_cut text other x back (u ∷ ts) us ms ns (inr c) (inl d) =
    let a = end_length (x ∷ back) ts (cut_end text other (x ∷ back) ts c.0 ms c.3) in
    let b = ap length d.0 in
    absurd (omega (arith, a, b))
next_cut text other x back (u ∷ ts) us ms ns (inr c) (inr d) =
    let both : (u ∷ c.0) ≡ (u ∷ d.0) = sym c.1 ∙ d.1 in
    let same : d.0 ≡ c.0 = cc in
    next_cut text other x back ts c.0 ms ns c.3 (subst (λ (k : List Token). IsCut text other back ts k ns) same d.3)
