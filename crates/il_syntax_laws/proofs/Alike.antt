-- Tokens that are alike up to one of them, and rules put together from rules that hold of alike tokens.
use Rattle.std.proofs.Common.{◌≡◌, ◌≤◌, ℕ, Bool, true, false, List, [], ◌∷◌, length, refl, sym, ◌∙◌, ap, subst, inl, inr, arith}
use Rattle.std.specs.Prelude.{◌⊎◌, if◌then◌else◌}
use Rattle.il_syntax.specs.declared.token.Token.{Token}
use Rattle.il_syntax.specs.declared.token.Sign.TheVariants.{Comma}
use Rattle.il_syntax.specs.declared.token.Kind.TheVariants as kind
use Rattle.il_syntax.specs.declared.tree.Place.{Place}
use Rattle.il_syntax.specs.Grammar.{Front, Gap, tight, loose, is_line_end, skip_line_ends, ◌⟨◌⟩◌, ◌⨾◌, ◌⋯◌, AfterLines, Nothing, TheEnd, No, One, At, Repeats, TheSign, Listed}
use Rattle.il_syntax_laws.specs.Alike.{HasSameBytes, IsEndOf, AreAlike, IsGap, Carries, IsTold}

-- an end is no longer than the whole
pub end_length : (back ts : List Token) → IsEndOf back ts → length back ≤ length ts
end_length back [] e = let same = ap length e in omega (arith, same)
end_length back (t ∷ ts) (inl e) = let same = ap length e in omega (arith, same)
end_length back (t ∷ ts) (inr p) = let less = end_length back ts p in omega (arith, less)

-- the whole is an end
pub end_self : (ts : List Token) → IsEndOf ts ts
end_self [] = refl
end_self (t ∷ ts) = inl refl

-- nothing is an end
pub end_empty : (ts : List Token) → IsEndOf [] ts
end_empty [] = refl
end_empty (t ∷ ts) = inr (end_empty ts)

-- an end of an end
pub end_of_end : (a b c : List Token) → IsEndOf b c → IsEndOf a b → IsEndOf a c
end_of_end a b [] p q = subst (λ x. IsEndOf a x) p q
end_of_end a b (t ∷ c) (inl e) q = subst (λ x. IsEndOf a x) e q
end_of_end a b (t ∷ c) (inr p) q = inr (end_of_end a b c p q)

-- the same list
pub end_same : (a b : List Token) → a ≡ b → IsEndOf b a
end_same a b e = subst (λ x. IsEndOf x a) e (end_self a)

-- lists are alike up to an end of them
pub alike_end : (text other : List ℕ) (back ts us : List Token) → AreAlike text other back ts us → IsEndOf back ts
alike_end text other back [] us a = a.0
alike_end text other back (t ∷ ts) us a = go a.3 (λ b. alike_end text other back ts a.0 b)
  where
    go : ((back ≡ t ∷ ts) ⊎ AreAlike text other back ts a.0) → (AreAlike text other back ts a.0 → IsEndOf back ts) → IsEndOf back (t ∷ ts)
    go (inl e) f = inl e
    go (inr b) f = inr (f b)

-- a list is alike to itself, up to an end of it
pub alike_self : (text : List ℕ) (back ts : List Token) → IsEndOf back ts → AreAlike text text back ts ts
alike_self text back [] e = (e, refl)
alike_self text back (t ∷ ts) (inl e) = (ts, refl, refl, inl e)
alike_self text back (t ∷ ts) (inr p) = (ts, refl, refl, inr (alike_self text back ts p))

-- directly
pub tight_gap : IsGap tight
tight_gap = record { ends = λ ts. end_self ts; alike = λ text other back ts us a l. a }

-- the tokens after line ends
skip_ends : (ts : List Token) → IsEndOf (skip_line_ends ts) ts
skip_ends [] = refl
skip_ends (t ∷ ts) = go (is_line_end t.kind) (skip_ends ts)
  where
    go : (b : Bool) → IsEndOf (skip_line_ends ts) ts → IsEndOf (if b then skip_line_ends ts else t ∷ ts) (t ∷ ts)
    go true e = inr e
    go false e = inl refl

skip_alike : (text other : List ℕ) (back ts us : List Token) → AreAlike text other back ts us → length back ≤ length (skip_line_ends ts)
    → AreAlike text other back (skip_line_ends ts) (skip_line_ends us)
skip_alike text other back [] us a l = (a.0, ap skip_line_ends a.1)
skip_alike text other back (t ∷ ts) us a l =
    subst (λ x. AreAlike text other back (skip_line_ends (t ∷ ts)) (skip_line_ends x)) (sym a.1) (go (is_line_end t.kind) a.0 a.2 a.3 l (λ b k. skip_alike text other back ts a.0 b k))
  where
    go : (b : Bool) (vs : List Token) → HasSameBytes text other t → ((back ≡ t ∷ ts) ⊎ AreAlike text other back ts vs) → length back ≤ length (if b then skip_line_ends ts else t ∷ ts)
        → (AreAlike text other back ts vs → length back ≤ length (skip_line_ends ts) → AreAlike text other back (skip_line_ends ts) (skip_line_ends vs))
        → AreAlike text other back (if b then skip_line_ends ts else t ∷ ts) (if b then skip_line_ends vs else t ∷ vs)
    go true vs s (inl e) l f = let same = ap length e in let less = end_length (skip_line_ends ts) ts (skip_ends ts) in absurd (omega (arith, same, less, l))
    go true vs s (inr b) l f = f b l
    go false vs s d l f = (vs, refl, s, d)

-- with any number of line ends between
pub loose_gap : IsGap loose
loose_gap = record { ends = λ ts. skip_ends ts; alike = λ text other back ts us a l. skip_alike text other back ts us a l }

-- what a gap leaves is no longer
pub gap_length : {gap : Gap} → IsGap gap → (ts : List Token) → length (gap ts) ≤ length ts
gap_length {gap = gap} is ts = end_length (gap ts) ts (is.ends ts)

-- a rule that looks no further than the next token
pub loosely : {F : List ℕ → Front} → Carries tight F → Carries loose F
loosely one = record {
  ends = one.ends;
  over = λ text other back ts us m a p l. let less = gap_length loose_gap m in one.over text other back ts us m a p (omega (arith, l, less));
}

-- one token, of which something holds that its bytes tell
pub one_carries : {P : List ℕ → Token → Type 0} → ((text other : List ℕ) (t : Token) → HasSameBytes text other t → P text t → P other t)
    → Carries tight (λ text. One (P text))
one_carries {P = P} same = record { ends = ends; over = go }
  where
    ends : (text : List ℕ) (ts m : List Token) → One (P text) ts m → IsEndOf m ts
    ends text [] m p = absurd p
    ends text (t ∷ ts) m p = inr (end_same ts m p.1)

    go : (text other : List ℕ) (back ts us m : List Token) → AreAlike text other back ts us → One (P text) ts m → length back ≤ length m
        → (n : List Token) × One (P other) us n × AreAlike text other back m n
    go text other back [] us m a p l = absurd p
    go text other back (t ∷ ts) us m a p l = (a.0, subst (λ x. One (P other) x a.0) (sym a.1) (same text other t a.2 p.0, refl), behind a.3)
      where
        behind : ((back ≡ t ∷ ts) ⊎ AreAlike text other back ts a.0) → AreAlike text other back m a.0
        behind (inl e) = let long = ap length e in let short = ap length p.1 in absurd (omega (arith, long, short, l))
        behind (inr b) = subst (λ x. AreAlike text other back x a.0) p.1 b

-- where no such token is, none is at the front of alike tokens
pub still_none : {P : List ℕ → Token → Type 0} → ((text other : List ℕ) (t : Token) → HasSameBytes text other t → P text t → P other t)
    → (text other : List ℕ) (back ts us : List Token) → AreAlike text other back ts us → ((m : List Token) → One (P text) ts m → ⊥) → (m : List Token) → One (P other) us m → ⊥
still_none {P = P} same text other back [] us a none m p = subst (λ x. One (P other) x m) a.1 p
still_none {P = P} same text other back (t ∷ ts) us a none m p =
    let here = subst (λ x. One (P other) x m) a.1 p in
    none ts (same other text t (sym a.2) here.0, refl)

pub one_told : {P : List ℕ → Token → Type 0} → ((text other : List ℕ) (t : Token) → HasSameBytes text other t → P text t → P other t) → IsTold (λ text. One (P text))
one_told same = record { still = λ text other back ts us a none m p. still_none same text other back ts us a none m p }

-- no such token
pub no_carries : {P : List ℕ → Token → Type 0} → ((text other : List ℕ) (t : Token) → HasSameBytes text other t → P text t → P other t)
    → Carries tight (λ text. No (One (P text)))
no_carries {P = P} same = record {
  ends = λ text ts m p. end_same ts m p.0;
  over = λ text other back ts us m a p l. (us, (refl, λ k q. still_none same text other back ts us a p.1 k q), subst (λ x. AreAlike text other back x us) p.0 a);
}

-- no such token after any line ends
pub none_after_lines : {P : List ℕ → Token → Type 0} → ((text other : List ℕ) (t : Token) → HasSameBytes text other t → P text t → P other t)
    → Carries loose (λ text. No (AfterLines (One (P text))))
none_after_lines {P = P} same = record {
  ends = λ text ts m p. end_same ts m p.0;
  over = λ text other back ts us m a p l.
      let skipped = skip_alike text other back ts us a (subst (λ x. length back ≤ length (skip_line_ends x)) (sym p.0) l) in
      (us, (refl, λ k q. still_none same text other back (skip_line_ends ts) (skip_line_ends us) skipped p.1 k q), subst (λ x. AreAlike text other back x us) p.0 a);
}

-- nothing
pub nothing_carries : Carries tight (λ text. Nothing)
nothing_carries = record {
  ends = λ text ts m p. end_same ts m p;
  over = λ text other back ts us m a p l. (us, refl, subst (λ x. AreAlike text other back x us) p a);
}

-- one rule after another, which may look at the first token after the gap
pub in_turn : {F G : List ℕ → Front} {one two gap : Gap} → IsGap gap → IsGap two → ((k : List Token) → length (gap k) ≤ length (one k)) → Carries one F → Carries two G
    → Carries two (λ text. F text ⟨ gap ⟩ G text)
in_turn {gap = gap} is far fits first second = record {
  ends = λ text ts m p.
      end_of_end m (gap p.0) ts (end_of_end (gap p.0) p.0 ts (first.ends text ts p.0 p.1) (is.ends p.0)) (second.ends text (gap p.0) m p.2);
  over = λ text other back ts us m a p l.
      let a1 = gap_length far m in
      let a2 = end_length m (gap p.0) (second.ends text (gap p.0) m p.2) in
      let a3 = fits p.0 in
      let f = first.over text other back ts us p.0 a p.1 (omega (arith, l, a1, a2, a3)) in
      let g = second.over text other back (gap p.0) (gap f.0) m (is.alike text other back p.0 f.0 f.2 (omega (arith, l, a1, a2))) p.2 l in
      (g.0, (f.0, f.1, g.1), g.2);
}

-- a rule that looks no further than the next token, and another after it
pub follows : {F G : List ℕ → Front} {two gap : Gap} → IsGap gap → IsGap two → Carries tight F → Carries two G → Carries two (λ text. F text ⟨ gap ⟩ G text)
follows is far first second = in_turn is far (gap_length is) first second

-- a rule that looks at the first token after line ends, and another after these
pub follows_lines : {F G : List ℕ → Front} {two : Gap} → IsGap two → Carries loose F → Carries two G → Carries two (λ text. F text ⋯ G text)
follows_lines far first second = in_turn loose_gap far (λ k. omega arith) first second

-- after line ends an end is an end
pub skip_length : (m ts : List Token) → IsEndOf m ts → length (skip_line_ends m) ≤ length (skip_line_ends ts)
skip_length m [] e = let same = ap (λ x. length (skip_line_ends x)) e in omega (arith, same)
skip_length m (t ∷ ts) (inl e) = let same = ap (λ x. length (skip_line_ends x)) e in omega (arith, same)
skip_length m (t ∷ ts) (inr p) = go (is_line_end t.kind) (skip_length m ts p)
  where
    go : (b : Bool) → length (skip_line_ends m) ≤ length (skip_line_ends ts) → length (skip_line_ends m) ≤ length (if b then skip_line_ends ts else t ∷ ts)
    go true f = f
    go false f = let less = end_length (skip_line_ends ts) ts (skip_ends ts) in omega (arith, f, less)

-- two rules that look at the first token after line ends, one directly after the other
pub follows_directly : {F G : List ℕ → Front} → Carries loose F → Carries loose G → Carries loose (λ text. F text ⨾ G text)
follows_directly first second = record {
  ends = λ text ts m p. end_of_end m p.0 ts (first.ends text ts p.0 p.1) (second.ends text p.0 m p.2);
  over = λ text other back ts us m a p l.
      let a1 = skip_length m p.0 (second.ends text p.0 m p.2) in
      let f = first.over text other back ts us p.0 a p.1 (omega (arith, l, a1)) in
      let g = second.over text other back p.0 f.0 m f.2 p.2 l in
      (g.0, (f.0, f.1, g.1), g.2);
}

-- after any number of line ends
pub after : {F : List ℕ → Front} {look : Gap} → IsGap look → Carries look F → Carries look (λ text. AfterLines (F text))
after far one = record {
  ends = λ text ts m p. end_of_end m (skip_line_ends ts) ts (skip_ends ts) (one.ends text (skip_line_ends ts) m p);
  over = λ text other back ts us m a p l.
      let a1 = gap_length far m in
      let a2 = end_length m (skip_line_ends ts) (one.ends text (skip_line_ends ts) m p) in
      one.over text other back (skip_line_ends ts) (skip_line_ends us) m (skip_alike text other back ts us a (omega (arith, l, a1, a2))) p l;
}

-- at a place
pub placed : {F : List ℕ → Front} {look : Gap} (place : Place) → Carries look F → Carries look (λ text. At place (F text))
placed {F = F} {look = look} place one = record { ends = ends; over = go }
  where
    ends : (text : List ℕ) (ts m : List Token) → At place (F text) ts m → IsEndOf m ts
    ends text [] m p = absurd p
    ends text (t ∷ ts) m p = one.ends text (t ∷ ts) m p.2

    go : (text other : List ℕ) (back ts us m : List Token) → AreAlike text other back ts us → At place (F text) ts m → length back ≤ length (look m)
        → (n : List Token) × At place (F other) us n × AreAlike text other back m n
    go text other back [] us m a p l = absurd p
    go text other back (t ∷ ts) us m a p l =
        let f = one.over text other back (t ∷ ts) us m a p.2 l in
        (f.0, subst (λ x. At place (F other) x f.0) (sym a.1) (p.0, p.1, subst (λ x. F other x f.0) a.1 f.1), f.2)

-- with a fact of the value
pub given : {F : List ℕ → Front} {look : Gap} (X : Type 0) → Carries look F → Carries look (λ text ts rest. X × F text ts rest)
given X one = record {
  ends = λ text ts m p. one.ends text ts m p.1;
  over = λ text other back ts us m a p l. let f = one.over text other back ts us m a p.1 l in (f.0, (p.0, f.1), f.2);
}

-- one of two rules
pub one_of : {F G : List ℕ → Front} {look : Gap} → Carries look F → Carries look G → Carries look (λ text ts rest. F text ts rest ⊎ G text ts rest)
one_of {F = F} {G = G} {look = look} left right = record { ends = ends; over = go }
  where
    ends : (text : List ℕ) (ts m : List Token) → (F text ts m ⊎ G text ts m) → IsEndOf m ts
    ends text ts m (inl p) = left.ends text ts m p
    ends text ts m (inr p) = right.ends text ts m p

    go : (text other : List ℕ) (back ts us m : List Token) → AreAlike text other back ts us → (F text ts m ⊎ G text ts m) → length back ≤ length (look m)
        → (n : List Token) × (F other us n ⊎ G other us n) × AreAlike text other back m n
    go text other back ts us m a (inl p) l = let f = left.over text other back ts us m a p l in (f.0, inl f.1, f.2)
    go text other back ts us m a (inr p) l = let f = right.over text other back ts us m a p l in (f.0, inr f.1, f.2)

-- no rule
pub never : {look : Gap} → Carries look (λ text ts rest. ⊥)
never = record { ends = λ text ts m p. absurd p; over = λ text other back ts us m a p l. absurd p }

-- things one after another
pub repeated : {A : Type 0} {P : List ℕ → A → Front} {E : List ℕ → Front} {look : Gap} → IsGap look → ((x : A) → Carries loose (λ text. P text x)) → Carries look E
    → (xs : List A) → Carries look (λ text. Repeats (P text) xs (E text))
repeated far one end [] = end
repeated far one end (x ∷ xs) = follows_lines far (one x) (repeated far one end xs)

-- things with commas between them
pub listed : {A : Type 0} {P : List ℕ → A → Front} {E : List ℕ → Front} {look gap : Gap} → IsGap gap → IsGap look → ((x : A) → Carries tight (λ text. P text x)) → Carries look E
    → (xs : List A) → Carries look (λ text. Listed gap (P text) xs (E text))
listed is far one end [] = never
listed is far one end (x ∷ []) = follows is far (one x) end
listed is far one end (x ∷ y ∷ ys) = follows is far (one x) (follows is far (one_carries (λ text other t s p. p)) (listed is far one end (y ∷ ys)))
