-- Each rule of the grammar holds of tokens that are cut after it, if what is there now passes its test.
use Rattle.std.proofs.Common.{◌≡◌, ◌<◌, ◌≤◌, ℕ, Bool, true, false, List, [], ◌∷◌, length, refl, sym, ◌∙◌, ap, subst, inl, inr, arith, Option, Some, None}
use Rattle.std.specs.Prelude.{◌⊎◌, ℤ, IsTrue, bytes_eq, codes, if◌then◌else◌}
use Rattle.il_syntax.specs.declared.token.Token.{Token}
use Rattle.il_syntax.specs.declared.token.Sign.{Sign}
use Rattle.il_syntax.specs.declared.token.Sign.TheVariants.{Assign, Arrow, Range, Colon, Semicolon, Comma, OpenParenthesis, CloseParenthesis, OpenBracket, CloseBracket, Dot}
use Rattle.il_syntax.specs.declared.keyword.Keyword.{Keyword}
use Rattle.il_syntax.specs.declared.keyword.Keyword.TheVariants as word
use Rattle.il_syntax.specs.declared.tree.Place.{Place}
use Rattle.il_syntax.specs.declared.tree.Literal.{Literal}
use Rattle.il_syntax.specs.declared.tree.Literal.TheVariants as literal
use Rattle.il_syntax.specs.declared.tree.Subrange.{Subrange}
use Rattle.il_syntax.specs.declared.tree.Scalar.{Scalar}
use Rattle.il_syntax.specs.declared.tree.Form.{Form as TypeForm}
use Rattle.il_syntax.specs.declared.tree.Form.TheVariants as form
use Rattle.il_syntax.specs.declared.tree.WrittenType.{WrittenType}
use Rattle.il_syntax.specs.declared.tree.Named.{Named}
use Rattle.il_syntax.specs.declared.tree.Initial.{Initial}
use Rattle.il_syntax.specs.declared.tree.Declaration.{Declaration}
use Rattle.il_syntax.specs.declared.tree.Index.{Index}
use Rattle.il_syntax.specs.declared.tree.Index.TheVariants as index
use Rattle.il_syntax.specs.declared.tree.Reference.{Reference}
use Rattle.il_syntax.specs.declared.tree.Reference.TheVariants as reference
use Rattle.il_syntax.specs.declared.tree.Operand.{Operand}
use Rattle.il_syntax.specs.declared.tree.Operator.{Operator}
use Rattle.il_syntax.specs.declared.tree.Operator.TheVariants as operator
use Rattle.il_syntax.specs.declared.tree.Logic.TheVariants.{Conjunction, Disjunction, Exclusive}
use Rattle.il_syntax.specs.declared.tree.Argument.{Argument}
use Rattle.il_syntax.specs.declared.tree.Argument.TheVariants as argument
use Rattle.il_syntax.specs.declared.tree.Instruction.{Instruction}
use Rattle.il_syntax.specs.declared.tree.Instruction.TheVariants as instruction
use Rattle.il_syntax.specs.declared.tree.Step.{Step}
use Rattle.il_syntax.specs.declared.tree.Body.{Body}
use Rattle.il_syntax.specs.declared.tree.UnitKind.{UnitKind}
use Rattle.il_syntax.specs.declared.tree.UnitKind.TheVariants as unit
use Rattle.il_syntax.specs.declared.tree.Unit.{Unit as ProgramUnit}
use Rattle.il_syntax.specs.declared.tree.Size.{Size}
use Rattle.il_syntax.specs.declared.tree.Task.{Task}
use Rattle.il_syntax.specs.declared.tree.ProgramLine.{ProgramLine}
use Rattle.il_syntax.specs.Text.{is_grouped}
use Rattle.std.specs.Char.{is_ascii_digit}
use Rattle.il_syntax.specs.Words.{IsName}
use Rattle.il_syntax.specs.Grammar.{Front, Gap, tight, loose, is_line_end, skip_line_ends, ◌⟨◌⟩◌, ◌⨾◌, ◌⋯◌, AfterLines, Nothing, No, One, At, Repeats, Listed, unit_word, end_word}
use Rattle.il_syntax.specs.Grammar.{TheSign, TheLineEnd, ANumber, ATyped, TheWord, AWord, AName, TheName, SomeName, TheText, ADecimal, ALiteral, SpellsSubrange, SpellsScalar, SpellsForm, SpellsType, SpellsInitial, SpellsDeclaration, SpellsExternal, SpellsList, SpellsFilledList, SpellsOptionalList, SpellsIndex, SpellsReference, SpellsOperand, SpellsTarget, TheLetterN, BehindAmpersand, SpellsAmpersand, SpellsShortly, SpellsOperator, SpellsArgument, SpellsArguments, SpellsOperands, SpellsFirst, SpellsInstruction, SpellsLabel, SpellsLabelled, SpellsStep, SpellsLabelLine, SpellsBody, SpellsNoExternals, SpellsExternals, SpellsResult, SpellsUnit, SpellsSize, SpellsGlobals, SpellsTask, SpellsProgramLine}
use Rattle.il_syntax_laws.specs.Alike.{HasSameBytes, IsEndOf, IsGap}
use Rattle.il_syntax_laws.specs.GoesOn.{IsCut, Test, always, stops, lacks, quiet, calm, settled}
use Rattle.il_syntax_laws.proofs.Alike.{end_length, end_of_end, end_same, tight_gap, loose_gap, gap_length, skip_length}
use Rattle.il_syntax_laws.proofs.Local.{same_name, word_same}

-- A rule holds of tokens that are cut after it. It looks ahead as far as the first token after `look`: where this is kept, nothing is tested.
pub record Opens (look : Gap) (test : Test) (F : List ℕ → Front) : Type 0 where
  pub ends : (text : List ℕ) (ts m : List Token) → F text ts m → IsEndOf m ts
  pub keeps : (text other : List ℕ) (at ts us vs m : List Token) → F text ts m → IsEndOf at m → IsCut text other at ts us vs
      → ((length at < length (look m)) ⊎ test other vs) → (n : List Token) × F other us n × IsCut text other at m n vs

-- A rule takes a token after `look` at least.
pub record Takes (look : Gap) (F : List ℕ → Front) : Type 0 where
  pub less : (text : List ℕ) (ts m : List Token) → F text ts m → length m < length (look ts)

-- What a gap leaves of cut tokens is cut, if the cut is after the gap.
pub record IsOpenGap (gap : Gap) : Type 0 where
  pub is : IsGap gap
  pub cut : (text other : List ℕ) (at ts us vs : List Token) → IsCut text other at ts us vs → length at < length (gap ts) → IsCut text other at (gap ts) (gap us) vs

-- what follows the cut is an end
pub cut_end : (text other : List ℕ) (at ts us vs : List Token) → IsCut text other at ts us vs → IsEndOf at ts
cut_end text other at [] us vs c = c.0
cut_end text other at (t ∷ ts) us vs (inl c) = inl c.0
cut_end text other at (t ∷ ts) us vs (inr c) = inr (cut_end text other at ts c.0 vs c.3)

-- tokens that are cut after the front have the same first token
cut_later : (text other : List ℕ) (at : List Token) (t : Token) (ts us vs : List Token) → IsCut text other at (t ∷ ts) us vs → length at ≤ length ts
    → (ws : List Token) × (us ≡ t ∷ ws) × HasSameBytes text other t × IsCut text other at ts ws vs
cut_later text other at t ts us vs (inl c) l = let same = ap length c.0 in absurd (omega (arith, same, l))
cut_later text other at t ts us vs (inr c) l = c

-- the gaps
pub tight_open : IsOpenGap tight
tight_open = record { is = tight_gap; cut = λ text other at ts us vs c l. c }

skip_cut : (text other : List ℕ) (at ts us vs : List Token) → IsCut text other at ts us vs → length at < length (skip_line_ends ts) → IsCut text other at (skip_line_ends ts) (skip_line_ends us) vs
skip_cut text other at [] us vs c l = absurd (omega (arith, l))
skip_cut text other at (t ∷ ts) us vs c l =
    let less = end_length (skip_line_ends (t ∷ ts)) (t ∷ ts) (loose_gap.ends (t ∷ ts)) in
    let k = cut_later text other at t ts us vs c (omega (arith, less, l)) in
    subst (λ x. IsCut text other at (skip_line_ends (t ∷ ts)) (skip_line_ends x) vs) (sym k.1) (go (is_line_end t.kind) k.0 k.2 k.3 (λ short. skip_cut text other at ts k.0 vs k.3 short) l)
  where
    go : (b : Bool) (ws : List Token) → HasSameBytes text other t → IsCut text other at ts ws vs
        → (length at < length (skip_line_ends ts) → IsCut text other at (skip_line_ends ts) (skip_line_ends ws) vs) → length at < length (if b then skip_line_ends ts else t ∷ ts)
        → IsCut text other at (if b then skip_line_ends ts else t ∷ ts) (if b then skip_line_ends ws else t ∷ ws) vs
    go true ws s c f l = f l
    go false ws s c f l = inr (ws, refl, s, c)

pub loose_open : IsOpenGap loose
loose_open = record { is = loose_gap; cut = skip_cut }

-- what begins with no line end is cut there as well
pub skip_still : (text other : List ℕ) (at ts us vs : List Token) → IsCut text other at ts us vs → IsEndOf at (skip_line_ends ts) → skip_line_ends vs ≡ vs
    → IsCut text other at (skip_line_ends ts) (skip_line_ends us) vs
skip_still text other at [] us vs c e still = (c.0, ap skip_line_ends c.1 ∙ still)
skip_still text other at (t ∷ ts) us vs (inl c) e still = go (is_line_end t.kind) e
  where
    go : (b : Bool) → IsEndOf at (if b then skip_line_ends ts else t ∷ ts) → IsCut text other at (if b then skip_line_ends ts else t ∷ ts) (skip_line_ends us) vs
    go true e =
        let same = ap length c.0 in
        let less = end_length at (skip_line_ends ts) e in
        let more = end_length (skip_line_ends ts) ts (loose_gap.ends ts) in
        absurd (omega (arith, same, less, more))
    go false e = inl (c.0, ap skip_line_ends c.1 ∙ still)
skip_still text other at (t ∷ ts) us vs (inr c) e still =
    subst (λ x. IsCut text other at (skip_line_ends (t ∷ ts)) (skip_line_ends x) vs) (sym c.1) (go (is_line_end t.kind) (λ k. skip_still text other at ts c.0 vs c.3 k still) e)
  where
    go : (b : Bool) → (IsEndOf at (skip_line_ends ts) → IsCut text other at (skip_line_ends ts) (skip_line_ends c.0) vs) → IsEndOf at (if b then skip_line_ends ts else t ∷ ts)
        → IsCut text other at (if b then skip_line_ends ts else t ∷ ts) (if b then skip_line_ends c.0 else t ∷ c.0) vs
    go true f e = f e
    go false f e = inr (c.0, refl, c.2, c.3)

either : {A B C : Type 0} → A ⊎ B → (B → C) → A ⊎ C
either (inl a) f = inl a
either (inr b) f = inr (f b)

-- more may be asked
pub asks : {F : List ℕ → Front} {look : Gap} {weak strong : Test} → ((other : List ℕ) (vs : List Token) → strong other vs → weak other vs) → Opens look weak F → Opens look strong F
asks more one = record {
  ends = one.ends;
  keeps = λ text other at ts us vs m p e c d. one.keeps text other at ts us vs m p e c (either d (λ k. more other vs k));
}

-- where nothing is asked, anything may be
pub freely : {F : List ℕ → Front} {look : Gap} {test : Test} → Opens look always F → Opens look test F
freely one = asks (λ other vs k. tt) one

-- a rule that looks no further than the next token
pub loosely : {F : List ℕ → Front} {test : Test} → Opens tight test F → Opens loose test F
loosely one = record {
  ends = one.ends;
  keeps = λ text other at ts us vs m p e c d.
      let less = gap_length loose_gap m in
      one.keeps text other at ts us vs m p e c (nearer at m less d);
}
  where
    nearer : {T : Type 0} (at m : List Token) → length (skip_line_ends m) ≤ length m → ((length at < length (skip_line_ends m)) ⊎ T) → (length at < length m) ⊎ T
    nearer at m less (inl l) = inl (omega (arith, l, less))
    nearer at m less (inr k) = inr k

-- one token, of which something holds that its bytes tell
pub one_opens : {P : List ℕ → Token → Type 0} → ((text other : List ℕ) (t : Token) → HasSameBytes text other t → P text t → P other t) → Opens tight always (λ text. One (P text))
one_opens {P = P} same = record { ends = ends; keeps = go }
  where
    ends : (text : List ℕ) (ts m : List Token) → One (P text) ts m → IsEndOf m ts
    ends text [] m p = absurd p
    ends text (t ∷ ts) m p = inr (end_same ts m p.1)

    go : (text other : List ℕ) (at ts us vs m : List Token) → One (P text) ts m → IsEndOf at m → IsCut text other at ts us vs → ((length at < length m) ⊎ always other vs)
        → (n : List Token) × One (P other) us n × IsCut text other at m n vs
    go text other at [] us vs m p e c d = absurd p
    go text other at (t ∷ ts) us vs m p e c d =
        let less = end_length at m e in
        let here = ap length p.1 in
        let k = cut_later text other at t ts us vs c (omega (arith, less, here)) in
        (k.0, subst (λ x. One (P other) x k.0) (sym k.1) (same text other t k.2 p.0, refl), subst (λ x. IsCut text other at x k.0 vs) p.1 k.3)

-- no such token
pub no_opens : {P : List ℕ → Token → Type 0} → ((text other : List ℕ) (t : Token) → HasSameBytes text other t → P text t → P other t)
    → Opens tight (λ other vs. (rest : List Token) → One (P other) vs rest → ⊥) (λ text. No (One (P text)))
no_opens {P = P} same = record {
  ends = λ text ts m p. end_same ts m p.0;
  keeps = λ text other at ts us vs m p e c d. (us, (refl, go text other at ts us vs c (shorter at ts m p.0 d) p.1), subst (λ x. IsCut text other at x us vs) p.0 c);
}
  where
    shorter : {T : Type 0} (at ts m : List Token) → ts ≡ m → ((length at < length m) ⊎ T) → (length at < length ts) ⊎ T
    shorter at ts m e (inl l) = let same = ap length e in inl (omega (arith, same, l))
    shorter at ts m e (inr k) = inr k

    go : (text other : List ℕ) (at ts us vs : List Token) → IsCut text other at ts us vs → ((length at < length ts) ⊎ ((r : List Token) → One (P other) vs r → ⊥))
        → ((rest : List Token) → One (P text) ts rest → ⊥) → (rest : List Token) → One (P other) us rest → ⊥
    go text other at [] us vs c (inl l) none rest p = omega (arith, l)
    go text other at [] us vs c (inr k) none rest p = k rest (subst (λ x. One (P other) x rest) c.1 p)
    go text other at (t ∷ ts) us vs (inl c) (inl l) none rest p = let same = ap length c.0 in omega (arith, l, same)
    go text other at (t ∷ ts) us vs (inl c) (inr k) none rest p = k rest (subst (λ x. One (P other) x rest) c.1 p)
    go text other at (t ∷ ts) us vs (inr c) d none rest p =
        let here = subst (λ x. One (P other) x rest) c.1 p in
        none ts (same other text t (sym c.2) here.0, refl)

-- no such token after line ends
pub no_after_opens : {P : List ℕ → Token → Type 0} → ((text other : List ℕ) (t : Token) → HasSameBytes text other t → P text t → P other t)
    → Opens loose (stops (λ text. One (P text))) (λ text. No (AfterLines (One (P text))))
no_after_opens {P = P} same = record {
  ends = λ text ts m p. end_same ts m p.0;
  keeps = λ text other at ts us vs m p e c d. (us, (refl, go text other at ts us vs c (shorter at ts m p.0 d) p.1), subst (λ x. IsCut text other at x us vs) p.0 c);
}
  where
    shorter : {T : Type 0} (at ts m : List Token) → ts ≡ m → ((length at < length (skip_line_ends m)) ⊎ T) → (length at < length (skip_line_ends ts)) ⊎ T
    shorter at ts m e (inl l) = let same = ap (λ x. length (skip_line_ends x)) e in inl (omega (arith, same, l))
    shorter at ts m e (inr k) = inr k

    go : (text other : List ℕ) (at ts us vs : List Token) → IsCut text other at ts us vs → ((length at < length (skip_line_ends ts)) ⊎ stops (λ text. One (P text)) other vs)
        → ((rest : List Token) → One (P text) (skip_line_ends ts) rest → ⊥) → (rest : List Token) → One (P other) (skip_line_ends us) rest → ⊥
    go text other at [] us vs c (inl l) none rest p = omega (arith, l)
    go text other at [] us vs c (inr k) none rest p = k rest (subst (λ x. One (P other) (skip_line_ends x) rest) c.1 p)
    go text other at (t ∷ ts) us vs (inl c) (inl l) none rest p =
        let same = ap length c.0 in
        let less = end_length (skip_line_ends (t ∷ ts)) (t ∷ ts) (loose_gap.ends (t ∷ ts)) in
        omega (arith, l, same, less)
    go text other at (t ∷ ts) us vs (inl c) (inr k) none rest p = k rest (subst (λ x. One (P other) (skip_line_ends x) rest) c.1 p)
    go text other at (t ∷ ts) us vs (inr c) d none rest p =
        on (is_line_end t.kind) (λ l m. go text other at ts c.0 vs c.3 l m rest) d none (subst (λ x. One (P other) (skip_line_ends x) rest) c.1 p)
      where
        on : (b : Bool) → (((length at < length (skip_line_ends ts)) ⊎ stops (λ text. One (P text)) other vs) → ((r : List Token) → One (P text) (skip_line_ends ts) r → ⊥) → One (P other) (skip_line_ends c.0) rest → ⊥)
            → ((length at < length (if b then skip_line_ends ts else t ∷ ts)) ⊎ stops (λ text. One (P text)) other vs)
            → ((r : List Token) → One (P text) (if b then skip_line_ends ts else t ∷ ts) r → ⊥) → One (P other) (if b then skip_line_ends c.0 else t ∷ c.0) rest → ⊥
        on true f d none p = f d none p
        on false f d none p = none ts (same other text t (sym c.2) p.0, refl)

-- nothing
pub nothing_opens : {look : Gap} → Opens look always (λ text. Nothing)
nothing_opens = record {
  ends = λ text ts m p. end_same ts m p;
  keeps = λ text other at ts us vs m p e c d. (us, refl, subst (λ x. IsCut text other at x us vs) p c);
}

-- one rule after another, where the second takes a token: of the first nothing is asked
pub in_turn : {F G : List ℕ → Front} {one two gap : Gap} {first second : Test} → IsOpenGap gap → ((k : List Token) → length (gap k) ≤ length (one k)) → Opens one first F → Takes tight G → Opens two second G
    → Opens two second (λ text. F text ⟨ gap ⟩ G text)
in_turn {gap = gap} over fits f some g = record {
  ends = λ text ts m p. end_of_end m (gap p.0) ts (end_of_end (gap p.0) p.0 ts (f.ends text ts p.0 p.1) (over.is.ends p.0)) (g.ends text (gap p.0) m p.2);
  keeps = λ text other at ts us vs m p e c d.
      let short = end_length at m e in
      let less = some.less text (gap p.0) m p.2 in
      let far = fits p.0 in
      let inside = end_of_end at (gap p.0) p.0 (over.is.ends p.0) (end_of_end at m (gap p.0) (g.ends text (gap p.0) m p.2) e) in
      let k = f.keeps text other at ts us vs p.0 p.1 inside c (inl (omega (arith, short, less, far))) in
      let l = g.keeps text other at (gap p.0) (gap k.0) vs m p.2 e (over.cut text other at p.0 k.0 vs k.2 (omega (arith, short, less))) d in
      (l.0, (k.0, k.1, l.1), l.2);
}

-- the same, where the first looks no further than the next token
pub follows : {F G : List ℕ → Front} {two gap : Gap} {first second : Test} → IsOpenGap gap → Opens tight first F → Takes tight G → Opens two second G → Opens two second (λ text. F text ⟨ gap ⟩ G text)
follows over f some g = in_turn over (λ k. gap_length over.is k) f some g

-- the same, where the first looks at the first token after line ends
pub follows_lines : {F G : List ℕ → Front} {two : Gap} {first second : Test} → Opens loose first F → Takes tight G → Opens two second G → Opens two second (λ text. F text ⋯ G text)
follows_lines f some g = in_turn loose_open (λ k. omega arith) f some g

-- one rule directly after another, where the second takes a token that is no line end
pub behind : {F G : List ℕ → Front} {two : Gap} {first second : Test} → Opens loose first F → Takes loose G → Opens two second G → Opens two second (λ text. F text ⨾ G text)
behind f some g = record {
  ends = λ text ts m p. end_of_end m p.0 ts (f.ends text ts p.0 p.1) (g.ends text p.0 m p.2);
  keeps = λ text other at ts us vs m p e c d.
      let short = end_length at m e in
      let less = some.less text p.0 m p.2 in
      let k = f.keeps text other at ts us vs p.0 p.1 (end_of_end at m p.0 (g.ends text p.0 m p.2) e) c (inl (omega (arith, short, less))) in
      let l = g.keeps text other at p.0 k.0 vs m p.2 e k.2 d in
      (l.0, (k.0, k.1, l.1), l.2);
}

-- how far a rule looks: no less far, if it ends earlier
abbrev IsLook : Gap → Type 0
IsLook look = (m ts : List Token) → IsEndOf m ts → length (look m) ≤ length (look ts)

-- one rule directly after another, where the same is asked of both
both_look : {F G : List ℕ → Front} {look : Gap} {test : Test} → IsLook look → Opens look test F → Opens look test G → Opens look test (λ text. F text ⨾ G text)
both_look {look = look} far f g = record {
  ends = λ text ts m p. end_of_end m p.0 ts (f.ends text ts p.0 p.1) (g.ends text p.0 m p.2);
  keeps = λ text other at ts us vs m p e c d.
      let inside = g.ends text p.0 m p.2 in
      let k = f.keeps text other at ts us vs p.0 p.1 (end_of_end at m p.0 inside e) c (nearer at m p.0 (far m p.0 inside) d) in
      let l = g.keeps text other at p.0 k.0 vs m p.2 e k.2 d in
      (l.0, (k.0, k.1, l.1), l.2);
}
  where
    nearer : {T : Type 0} (at m ts : List Token) → length (look m) ≤ length (look ts) → ((length at < length (look m)) ⊎ T) → (length at < length (look ts)) ⊎ T
    nearer at m ts less (inl l) = inl (omega (arith, l, less))
    nearer at m ts less (inr k) = inr k

pub both : {F G : List ℕ → Front} {test : Test} → Opens tight test F → Opens tight test G → Opens tight test (λ text. F text ⨾ G text)
both f g = both_look (λ m ts e. end_length m ts e) f g

pub both_lines : {F G : List ℕ → Front} {test : Test} → Opens loose test F → Opens loose test G → Opens loose test (λ text. F text ⨾ G text)
both_lines f g = both_look skip_length f g

-- a rule that takes no token, after a gap of line ends
pub at_last : {F G : List ℕ → Front} {weak : Test} → Opens tight always F → Opens tight weak G → Opens loose (λ other vs. weak other vs × (skip_line_ends vs ≡ vs)) (λ text. F text ⋯ G text)
at_last {weak = weak} f g = record {
  ends = λ text ts m p. end_of_end m (skip_line_ends p.0) ts (end_of_end (skip_line_ends p.0) p.0 ts (f.ends text ts p.0 p.1) (loose_gap.ends p.0)) (g.ends text (skip_line_ends p.0) m p.2);
  keeps = λ text other at ts us vs m p e c d.
      let inside = g.ends text (skip_line_ends p.0) m p.2 in
      let k = f.keeps text other at ts us vs p.0 p.1 (end_of_end at (skip_line_ends p.0) p.0 (loose_gap.ends p.0) (end_of_end at m (skip_line_ends p.0) inside e)) c (inr tt) in
      let l = g.keeps text other at (skip_line_ends p.0) (skip_line_ends k.0) vs m p.2 e (cut text other at p.0 k.0 vs m k.2 inside e d) (nearer other at m vs d) in
      (l.0, (k.0, k.1, l.1), l.2);
}
  where
    cut : (text other : List ℕ) (at ts us vs m : List Token) → IsCut text other at ts us vs → IsEndOf m (skip_line_ends ts) → IsEndOf at m
        → ((length at < length (skip_line_ends m)) ⊎ (weak other vs × (skip_line_ends vs ≡ vs))) → IsCut text other at (skip_line_ends ts) (skip_line_ends us) vs
    cut text other at ts us vs m c e i (inl l) =
        let a1 = gap_length loose_gap m in
        let a2 = end_length m (skip_line_ends ts) e in
        skip_cut text other at ts us vs c (omega (arith, l, a1, a2))
    cut text other at ts us vs m c e i (inr k) = skip_still text other at ts us vs c (end_of_end at m (skip_line_ends ts) e i) k.1

    nearer : (other : List ℕ) (at m vs : List Token) → ((length at < length (skip_line_ends m)) ⊎ (weak other vs × (skip_line_ends vs ≡ vs))) → (length at < length m) ⊎ weak other vs
    nearer other at m vs (inl l) = let less = gap_length loose_gap m in inl (omega (arith, l, less))
    nearer other at m vs (inr k) = inr k.0

-- after any number of line ends
pub after : {F : List ℕ → Front} {look : Gap} {test : Test} → Takes tight F → Opens look test F → Opens look test (λ text. AfterLines (F text))
after some one = record {
  ends = λ text ts m p. end_of_end m (skip_line_ends ts) ts (loose_gap.ends ts) (one.ends text (skip_line_ends ts) m p);
  keeps = λ text other at ts us vs m p e c d.
      let short = end_length at m e in
      let less = some.less text (skip_line_ends ts) m p in
      one.keeps text other at (skip_line_ends ts) (skip_line_ends us) vs m p e (skip_cut text other at ts us vs c (omega (arith, short, less))) d;
}

-- at a place
pub placed : {F : List ℕ → Front} {look : Gap} {test : Test} (place : Place) → Takes tight F → Opens look test F → Opens look test (λ text. At place (F text))
placed {F = F} {look = look} {test = test} place some one = record { ends = ends; keeps = go }
  where
    ends : (text : List ℕ) (ts m : List Token) → At place (F text) ts m → IsEndOf m ts
    ends text [] m p = absurd p
    ends text (t ∷ ts) m p = one.ends text (t ∷ ts) m p.2

    go : (text other : List ℕ) (at ts us vs m : List Token) → At place (F text) ts m → IsEndOf at m → IsCut text other at ts us vs → ((length at < length (look m)) ⊎ test other vs)
        → (n : List Token) × At place (F other) us n × IsCut text other at m n vs
    go text other at [] us vs m p e c d = absurd p
    go text other at (t ∷ ts) us vs m p e c d =
        let short = end_length at m e in
        let less = some.less text (t ∷ ts) m p.2 in
        let k = cut_later text other at t ts us vs c (omega (arith, short, less)) in
        let f = one.keeps text other at (t ∷ ts) us vs m p.2 e c d in
        (f.0, subst (λ x. At place (F other) x f.0) (sym k.1) (p.0, p.1, subst (λ x. F other x f.0) k.1 f.1), f.2)

-- with a fact of the value
pub given : {F : List ℕ → Front} {look : Gap} {test : Test} (X : Type 0) → Opens look test F → Opens look test (λ text ts rest. X × F text ts rest)
given X one = record {
  ends = λ text ts m p. one.ends text ts m p.1;
  keeps = λ text other at ts us vs m p e c d. let f = one.keeps text other at ts us vs m p.1 e c d in (f.0, (p.0, f.1), f.2);
}

-- one of two rules
pub one_of : {F G : List ℕ → Front} {look : Gap} {test : Test} → Opens look test F → Opens look test G → Opens look test (λ text ts rest. F text ts rest ⊎ G text ts rest)
one_of {F = F} {G = G} {look = look} {test = test} left right = record { ends = ends; keeps = go }
  where
    ends : (text : List ℕ) (ts m : List Token) → (F text ts m ⊎ G text ts m) → IsEndOf m ts
    ends text ts m (inl p) = left.ends text ts m p
    ends text ts m (inr p) = right.ends text ts m p

    go : (text other : List ℕ) (at ts us vs m : List Token) → (F text ts m ⊎ G text ts m) → IsEndOf at m → IsCut text other at ts us vs → ((length at < length (look m)) ⊎ test other vs)
        → (n : List Token) × (F other us n ⊎ G other us n) × IsCut text other at m n vs
    go text other at ts us vs m (inl p) e c d = let f = left.keeps text other at ts us vs m p e c d in (f.0, inl f.1, f.2)
    go text other at ts us vs m (inr p) e c d = let f = right.keeps text other at ts us vs m p e c d in (f.0, inr f.1, f.2)

-- no rule
pub never : {look : Gap} {test : Test} → Opens look test (λ text ts rest. ⊥)
never = record { ends = λ text ts m p. absurd p; keeps = λ text other at ts us vs m p e c d. absurd p }

-- A rule that holds of tokens that are cut after it, and takes one at least.
pub record Fills (look : Gap) (test : Test) (F : List ℕ → Front) : Type 0 where
  pub opens : Opens look test F
  pub takes : Takes tight F

-- where nothing is asked, anything may be
fill_freely : {F : List ℕ → Front} {look : Gap} {test : Test} → Fills look always F → Fills look test F
fill_freely one = record { opens = freely one.opens; takes = one.takes }

-- a rule that looks no further than the next token
fill_loosely : {F : List ℕ → Front} {test : Test} → Fills tight test F → Fills loose test F
fill_loosely one = record { opens = loosely one.opens; takes = one.takes }

-- both
pub fill_any : {F : List ℕ → Front} {test : Test} → Fills tight always F → Fills loose test F
fill_any one = fill_freely (fill_loosely one)

-- one token
pub token : {P : List ℕ → Token → Type 0} → ((text other : List ℕ) (t : Token) → HasSameBytes text other t → P text t → P other t) → Fills tight always (λ text. One (P text))
token {P = P} same = record { opens = one_opens same; takes = record { less = less } }
  where
    less : (text : List ℕ) (ts m : List Token) → One (P text) ts m → length m < length ts
    less text [] m p = absurd p
    less text (t ∷ ts) m p = let here = ap length p.1 in omega (arith, here)

last_less : {F G : List ℕ → Front} {look gap : Gap} {first : Test} → IsOpenGap gap → Opens look first F → Takes tight G → Takes tight (λ text. F text ⟨ gap ⟩ G text)
last_less {gap = gap} over f some = record {
  less = λ text ts m p.
      let a1 = some.less text (gap p.0) m p.2 in
      let a2 = gap_length over.is p.0 in
      let a3 = end_length p.0 ts (f.ends text ts p.0 p.1) in
      omega (arith, a1, a2, a3);
}

first_less : {F G : List ℕ → Front} {look : Gap} {test : Test} → Takes tight F → Opens look test G → Takes tight (λ text. F text ⨾ G text)
first_less some g = record {
  less = λ text ts m p.
      let a1 = some.less text ts p.0 p.1 in
      let a2 = end_length m p.0 (g.ends text p.0 m p.2) in
      omega (arith, a1, a2);
}

-- one rule after another
pub next : {F G : List ℕ → Front} {two gap : Gap} {first second : Test} → IsOpenGap gap → Fills tight first F → Fills two second G → Fills two second (λ text. F text ⟨ gap ⟩ G text)
next over f g = record { opens = follows over f.opens g.takes g.opens; takes = last_less over f.opens g.takes }

pub next_lines : {F G : List ℕ → Front} {two : Gap} {first second : Test} → Fills loose first F → Fills two second G → Fills two second (λ text. F text ⋯ G text)
next_lines f g = record { opens = follows_lines f.opens g.takes g.opens; takes = last_less loose_open f.opens g.takes }

-- after any number of line ends, at a place, with a fact, one of two, none
pub fill_after : {F : List ℕ → Front} {look : Gap} {test : Test} → Fills look test F → Fills look test (λ text. AfterLines (F text))
fill_after one = record {
  opens = after one.takes one.opens;
  takes = record {
    less = λ text ts m p.
        let a1 = one.takes.less text (skip_line_ends ts) m p in
        let a2 = gap_length loose_gap ts in
        omega (arith, a1, a2);
  };
}

pub fill_placed : {F : List ℕ → Front} {look : Gap} {test : Test} (place : Place) → Fills look test F → Fills look test (λ text. At place (F text))
fill_placed {F = F} place one = record { opens = placed place one.takes one.opens; takes = record { less = less } }
  where
    less : (text : List ℕ) (ts m : List Token) → At place (F text) ts m → length m < length ts
    less text [] m p = absurd p
    less text (t ∷ ts) m p = one.takes.less text (t ∷ ts) m p.2

pub fill_given : {F : List ℕ → Front} {look : Gap} {test : Test} (X : Type 0) → Fills look test F → Fills look test (λ text ts rest. X × F text ts rest)
fill_given X one = record { opens = given X one.opens; takes = record { less = λ text ts m p. one.takes.less text ts m p.1 } }

fill_one_of : {F G : List ℕ → Front} {look : Gap} {test : Test} → Fills look test F → Fills look test G → Fills look test (λ text ts rest. F text ts rest ⊎ G text ts rest)
fill_one_of {F = F} {G = G} left right = record { opens = one_of left.opens right.opens; takes = record { less = less } }
  where
    less : (text : List ℕ) (ts m : List Token) → (F text ts m ⊎ G text ts m) → length m < length ts
    less text ts m (inl p) = left.takes.less text ts m p
    less text ts m (inr p) = right.takes.less text ts m p

fill_never : {look : Gap} {test : Test} → Fills look test (λ text ts rest. ⊥)
fill_never = record { opens = never; takes = record { less = λ text ts m p. absurd p } }

-- things one after another
pub repeated : {A : Type 0} {P : List ℕ → A → Front} {E : List ℕ → Front} {look : Gap} {first second : Test} → ((x : A) → Fills loose first (λ text. P text x)) → Fills look second E
    → (xs : List A) → Fills look second (λ text. Repeats (P text) xs (E text))
repeated one end [] = end
repeated one end (x ∷ xs) = next_lines (one x) (repeated one end xs)

-- things with commas between them
pub listed : {A : Type 0} {P : List ℕ → A → Front} {E : List ℕ → Front} {gap : Gap} {first second : Test} → IsOpenGap gap → ((x : A) → Fills tight first (λ text. P text x)) → Fills tight second E
    → (xs : List A) → Fills tight second (λ text. Listed gap (P text) xs (E text))
listed over one end [] = fill_never
listed over one end (x ∷ []) = next over (one x) end
listed over one end (x ∷ y ∷ ys) = next over (one x) (next over (token (λ text other t s p. p)) (listed over one end (y ∷ ys)))

pub listed_loosely : {A : Type 0} {P : List ℕ → A → Front} {E : List ℕ → Front} {first second : Test} → ((x : A) → Fills loose first (λ text. P text x)) → Fills tight second E
    → (xs : List A) → Fills tight second (λ text. Listed loose (P text) xs (E text))
listed_loosely one end [] = fill_never
listed_loosely one end (x ∷ []) = next_lines (one x) end
listed_loosely one end (x ∷ y ∷ ys) = next_lines (one x) (next loose_open (token (λ text other t s p. p)) (listed_loosely one end (y ∷ ys)))

-- single tokens
pub sign_fills : (s : Sign) → Fills tight always (λ text. TheSign s)
sign_fills s = token (λ text other t same p. p)

pub line_end_fills : Fills tight always (λ text. TheLineEnd)
line_end_fills = token (λ text other t same p. p)

pub number_fills : (v : ℤ) → Fills tight always (λ text. ANumber v)
number_fills v = token (λ text other t same p. p)

pub typed_fills : (v : Literal) → Fills tight always (λ text. ATyped v)
typed_fills v = token (λ text other t same p. p)

pub word_fills : (k : Keyword) → Fills tight always (λ text. TheWord text k)
word_fills k = token (word_same k)

pub any_word_fills : (n : List ℕ) → Fills tight always (λ text. AWord text n)
any_word_fills n = token (λ text other t same p. (p.0, sym (same_name text other t same) ∙ p.1))

pub name_fills : (n : List ℕ) → Fills tight always (λ text. AName text n)
name_fills n = token (λ text other t same p. (p.0, sym (same_name text other t same) ∙ p.1, p.2))

pub the_name_fills : (n : Named) → Fills tight always (λ text. TheName text n)
the_name_fills n = fill_placed n.place (name_fills n.name)

pub some_name_fills : Fills tight always (λ text. SomeName text)
some_name_fills = token (λ text other t same p. (p.0, subst (λ x. IsName x) (same_name text other t same) p.1))

pub text_fills : (n : List ℕ) → Fills tight always (λ text. TheText text n)
text_fills n = token (λ text other t same p. (p.0, subst (λ x. IsTrue (bytes_eq x n)) (same_name text other t same) p.1))

pub decimal_fills : (v : ℤ) → Fills tight always (λ text. ADecimal text v)
decimal_fills v = token (λ text other t same p. (p.0, subst (λ x. IsTrue (is_grouped is_ascii_digit x)) same p.1))

pub letter_fills : (at : ℕ) → Fills tight always (λ text. TheLetterN text at)
letter_fills at = token (λ text other t same p. (p.0, subst (λ x. IsTrue (bytes_eq x (codes "N"))) (same_name text other t same) p.1, p.2))

-- types
pub literal_fills : (l : Literal) → Fills tight always (λ text. ALiteral text l)
literal_fills (literal.Truth truth) = word_fills (word.Truth truth)
literal_fills (literal.Bare value) = number_fills value
literal_fills (literal.Whole type value) = typed_fills (literal.Whole type value)
literal_fills (literal.Time value) = typed_fills (literal.Time value)

some_subrange : (s : Subrange) → Fills tight always (λ text. SpellsSubrange text (Some s))
some_subrange s =
    fill_after (next loose_open (sign_fills OpenParenthesis) (next loose_open (number_fills s.lower) (next loose_open (sign_fills Range) (next loose_open (number_fills s.upper) (sign_fills CloseParenthesis)))))

pub subrange_opens : (s : Option Subrange) → Opens loose quiet (λ text. SpellsSubrange text s)
subrange_opens None = asks (λ other vs q. q.parenthesis) (no_after_opens (λ text other t same p. p))
subrange_opens (Some s) = freely (loosely (some_subrange s).opens)

pub scalar_fills : (s : Scalar) → Fills loose quiet (λ text. SpellsScalar text s)
scalar_fills s = record {
  opens = both_lines (freely (loosely (word_fills (word.Elementary s.elementary)).opens)) (subrange_opens s.subrange);
  takes = first_less (word_fills (word.Elementary s.elementary)).takes (subrange_opens s.subrange);
}

pub form_fills : (f : TypeForm) → Fills loose quiet (λ text. SpellsForm text f)
form_fills (form.Scalar s) = scalar_fills s
form_fills (form.Array bounds element) =
    next loose_open (word_fills word.Array) (next loose_open (sign_fills OpenBracket) (next loose_open (number_fills bounds.lower) (next loose_open (sign_fills Range) (next loose_open (number_fills bounds.upper)
    (next loose_open (sign_fills CloseBracket) (next loose_open (word_fills word.Of) (scalar_fills element)))))))
form_fills (form.Block n) = fill_any (name_fills n)

pub type_fills : (t : WrittenType) → Fills loose quiet (λ text. SpellsType text t)
type_fills t = fill_placed t.place (form_fills t.form)

pub initial_fills : (i : Option Initial) → Fills tight always (λ text. SpellsInitial text i)
initial_fills None = sign_fills Semicolon
initial_fills (Some i) = next loose_open (sign_fills Assign) (next loose_open (fill_placed i.place (literal_fills i.literal)) (sign_fills Semicolon))

pub names_fill : (ns : List Named) → Fills tight always (λ text. Listed loose (TheName text) ns (TheSign Colon))
names_fill ns = listed loose_open the_name_fills (sign_fills Colon) ns

pub declaration_fills : (d : Declaration) → Fills tight always (λ text. SpellsDeclaration text d)
declaration_fills d = next loose_open (names_fill d.names) (next_lines (type_fills d.declared) (initial_fills d.initial))

pub external_fills : (d : Declaration) → Fills tight always (λ text. SpellsExternal text d)
external_fills d = record {
  opens = record {
    ends = λ text ts m p. (declaration_fills d).opens.ends text ts m p.2;
    keeps = λ text other at ts us vs m p e c a. let f = (declaration_fills d).opens.keeps text other at ts us vs m p.2 e c a in (f.0, (p.0, p.1, f.1), f.2);
  };
  takes = record { less = λ text ts m p. (declaration_fills d).takes.less text ts m p.2 };
}

pub list_fills : (k : Keyword) {P : List ℕ → Declaration → Front} → ((d : Declaration) → Fills tight always (λ text. P text d)) → (ds : List Declaration) → Fills tight always (λ text. SpellsList text k (P text) ds)
list_fills k one ds = fill_after (next loose_open (word_fills k) (repeated {first = always} (λ d. fill_any (one d)) (word_fills word.EndVar) ds))

pub filled_opens : (k : Keyword) (ds : List Declaration) → Opens loose (lacks k) (λ text. SpellsFilledList text k ds)
filled_opens k [] = no_after_opens (word_same k)
filled_opens k (d ∷ ds) = freely (loosely (list_fills k declaration_fills (d ∷ ds)).opens)

pub optional_opens : (k : Keyword) {P : List ℕ → Declaration → Front} → ((d : Declaration) → Fills tight always (λ text. P text d)) → (ds : List Declaration) → Opens loose (lacks k) (λ text. SpellsOptionalList text k (P text) ds)
optional_opens k one ds = one_of (freely (loosely (list_fills k one ds).opens)) (given _ (no_after_opens (word_same k)))

-- operands
pub index_fills : (i : Index) → Fills tight always (λ text. SpellsIndex text i)
index_fills (index.Number value) = number_fills value
index_fills (index.Variable n) = name_fills n

no_element : Opens tight calm (λ text. No (TheSign OpenBracket))
no_element = asks (λ other vs q. q.bracket) (no_opens (λ text other t same p. p))

no_member : Opens tight calm (λ text. No (TheSign Dot))
no_member = asks (λ other vs q. q.dot) (no_opens (λ text other t same p. p))

no_more : Opens tight calm (λ text. No (TheSign OpenBracket) ⨾ No (TheSign Dot))
no_more = both no_element no_member

variable_less : {gap : Gap} → IsGap gap → (n : List ℕ) → Takes tight (λ text. AName text n ⟨ gap ⟩ No (TheSign OpenBracket) ⨾ No (TheSign Dot))
variable_less {gap = gap} is n = record {
  less = λ text ts m p.
      let a1 = (name_fills n).takes.less text ts p.0 p.1 in
      let a2 = gap_length is p.0 in
      let a3 = end_length m (gap p.0) (no_more.ends text (gap p.0) m p.2) in
      omega (arith, a1, a2, a3);
}

element_fills : {gap : Gap} → IsOpenGap gap → (n : List ℕ) (i : Index) → Fills tight always (λ text. SpellsReference text gap (reference.Element n i))
element_fills over n i = next over (name_fills n) (next over (sign_fills OpenBracket) (next over (index_fills i) (sign_fills CloseBracket)))

member_fills : {gap : Gap} → IsOpenGap gap → (n m : List ℕ) → Fills tight always (λ text. SpellsReference text gap (reference.Member n m))
member_fills over n m = next over (name_fills n) (next over (sign_fills Dot) (any_word_fills m))

pub reference_fills : (r : Reference) → Fills tight calm (λ text. SpellsReference text tight r)
reference_fills (reference.Literal value) = fill_freely (literal_fills value)
reference_fills (reference.Variable n) = record { opens = both (freely (name_fills n).opens) no_more; takes = variable_less tight_gap n }
reference_fills (reference.Element n i) = fill_freely (element_fills tight_open n i)
reference_fills (reference.Member n m) = fill_freely (member_fills tight_open n m)

pub loose_reference_fills : (r : Reference) → Fills loose settled (λ text. SpellsReference text loose r)
loose_reference_fills (reference.Literal value) = fill_any (literal_fills value)
loose_reference_fills (reference.Variable n) = record { opens = at_last (name_fills n).opens no_more; takes = variable_less loose_gap n }
loose_reference_fills (reference.Element n i) = fill_any (element_fills loose_open n i)
loose_reference_fills (reference.Member n m) = fill_any (member_fills loose_open n m)

pub operand_fills : (o : Operand) → Fills tight calm (λ text. SpellsOperand text tight o)
operand_fills o = fill_placed o.place (reference_fills o.reference)

pub loose_operand_fills : (o : Operand) → Fills loose settled (λ text. SpellsOperand text loose o)
loose_operand_fills o = fill_placed o.place (loose_reference_fills o.reference)

pub target_fills : (o : Operand) → Fills tight calm (λ text. SpellsTarget text o)
target_fills o = fill_given _ (operand_fills o)

behind_ampersand : (b : Bool) (at : ℕ) → Opens tight calm (λ text. BehindAmpersand text b at)
behind_ampersand true at = freely (letter_fills at).opens
behind_ampersand false at =
    asks (λ other vs q. q.letter at)
    (no_opens (λ text other t same p. (p.0, subst (λ x. IsTrue (bytes_eq x (codes "N"))) (same_name text other t same) p.1, p.2)))

pub ampersand_fills : (b : Bool) → Fills tight calm (λ text. SpellsAmpersand text b)
ampersand_fills b = record { opens = record { ends = ends; keeps = go }; takes = record { less = less } }
  where
    ends : (text : List ℕ) (ts m : List Token) → SpellsAmpersand text b ts m → IsEndOf m ts
    ends text [] m p = absurd p
    ends text (t ∷ ts) m p = inr ((behind_ampersand b t.end).ends text ts m p.1)

    less : (text : List ℕ) (ts m : List Token) → SpellsAmpersand text b ts m → length m < length ts
    less text [] m p = absurd p
    less text (t ∷ ts) m p = let short = end_length m ts ((behind_ampersand b t.end).ends text ts m p.1) in omega (arith, short)

    go : (text other : List ℕ) (at ts us vs m : List Token) → SpellsAmpersand text b ts m → IsEndOf at m → IsCut text other at ts us vs → ((length at < length m) ⊎ calm other vs)
        → (n : List Token) × SpellsAmpersand other b us n × IsCut text other at m n vs
    go text other at [] us vs m p e c d = absurd p
    go text other at (t ∷ ts) us vs m p e c d =
        let a1 = end_length at m e in
        let a2 = end_length m ts ((behind_ampersand b t.end).ends text ts m p.1) in
        let k = cut_later text other at t ts us vs c (omega (arith, a1, a2)) in
        let f = (behind_ampersand b t.end).keeps text other at ts k.0 vs m p.1 e k.3 d in
        (f.0, subst (λ x. SpellsAmpersand other b x f.0) (sym k.1) (p.0, f.1), f.2)

pub shortly_fills : (o : Operator) → Fills tight calm (λ text. SpellsShortly text o)
shortly_fills (operator.Logic Conjunction negated) = ampersand_fills negated
shortly_fills (operator.Logic Disjunction negated) = fill_never
shortly_fills (operator.Logic Exclusive negated) = fill_never
shortly_fills (operator.Arithmetic a) = fill_never
shortly_fills (operator.Comparison c) = fill_never

pub operator_fills : (o : Operator) → Fills tight calm (λ text. SpellsOperator text o)
operator_fills o = fill_one_of (fill_freely (word_fills (word.Operate o))) (shortly_fills o)

-- arguments
pub argument_fills : (a : Argument) → Fills loose settled (λ text. SpellsArgument text a)
argument_fills (argument.Input input operand) = next loose_open (fill_placed input.place (any_word_fills input.name)) (next loose_open (sign_fills Assign) (loose_operand_fills operand))
argument_fills (argument.Output output target) = fill_any (next loose_open (fill_placed output.place (any_word_fills output.name)) (next loose_open (sign_fills Arrow) (the_name_fills target)))

pub inside_fills : (xs : List Argument) → Fills tight always (λ text. Listed loose (SpellsArgument text) xs (TheSign CloseParenthesis))
inside_fills xs = listed_loosely argument_fills (sign_fills CloseParenthesis) xs

pub arguments_fill : (xs : List Argument) → Fills tight always (λ text. SpellsArguments text xs)
arguments_fill [] = fill_one_of line_end_fills (next loose_open (sign_fills OpenParenthesis) (next tight_open (sign_fills CloseParenthesis) line_end_fills))
arguments_fill (x ∷ xs) = next loose_open (sign_fills OpenParenthesis) (next tight_open (inside_fills (x ∷ xs)) line_end_fills)

pub listed_operands_fill : (xs : List Operand) → Fills tight always (λ text. Listed tight (SpellsOperand text tight) xs TheLineEnd)
listed_operands_fill xs = listed tight_open operand_fills line_end_fills xs

pub operands_fill : (xs : List Operand) → Fills tight always (λ text. SpellsOperands text xs)
operands_fill [] = line_end_fills
operands_fill (x ∷ xs) = listed_operands_fill (x ∷ xs)

pub first_fills : (o : Option Operand) → Fills tight always (λ text. SpellsFirst text o)
first_fills None = line_end_fills
first_fills (Some o) = next tight_open (operand_fills o) line_end_fills

-- instructions
pub instruction_fills : (i : Instruction) → Fills tight always (λ text. SpellsInstruction text i)
instruction_fills (instruction.Load negated operand) = next tight_open (word_fills _) (next tight_open (operand_fills operand) line_end_fills)
instruction_fills (instruction.Store store target) = next tight_open (word_fills _) (next tight_open (target_fills target) line_end_fills)
instruction_fills instruction.Not = next tight_open (word_fills _) line_end_fills
instruction_fills (instruction.Operate op operand) = next tight_open (operator_fills op) (next tight_open (operand_fills operand) line_end_fills)
instruction_fills (instruction.Defer op first) = next tight_open (operator_fills op) (next tight_open (sign_fills OpenParenthesis) (first_fills first))
instruction_fills instruction.Evaluate = next tight_open (sign_fills CloseParenthesis) line_end_fills
instruction_fills (instruction.Jump condition label) = next tight_open (word_fills _) (next tight_open (the_name_fills label) line_end_fills)
instruction_fills (instruction.Return condition) = next tight_open (word_fills _) line_end_fills
instruction_fills (instruction.Call condition instance arguments) = next tight_open (word_fills _) (next tight_open (the_name_fills instance) (arguments_fill arguments))
instruction_fills (instruction.Invoke function operands) = next tight_open (the_name_fills function) (operands_fill operands)

pub label_fills : (n : Named) → Fills tight always (λ text. SpellsLabel text n)
label_fills n = next tight_open (the_name_fills n) (sign_fills Colon)

pub label_line_fills : (n : Named) → Fills tight always (λ text. SpellsLabelLine text n)
label_line_fills n = next tight_open (label_fills n) line_end_fills

pub labelled_fills : {F : List ℕ → Front} {look : Gap} {test : Test} → Fills look test F → (ns : List Named) → Fills look test (λ text. SpellsLabelled text ns (F text))
labelled_fills one [] = one
labelled_fills one (n ∷ []) = next loose_open (label_fills n) one
labelled_fills one (n ∷ o ∷ ns) = next tight_open (label_fills n) (next loose_open line_end_fills (labelled_fills one (o ∷ ns)))

pub step_fills : (s : Step) → Fills tight always (λ text. SpellsStep text s)
step_fills s = labelled_fills (fill_placed s.place (instruction_fills s.instruction)) s.labels

pub ends_fill : (k : Keyword) (place : Place) (ns : List Named) → Fills tight always (λ text. Repeats (SpellsLabelLine text) ns (At place (TheWord text k)))
ends_fill k place ns = repeated {first = always} (λ n. fill_any (label_line_fills n)) (fill_placed place (word_fills k)) ns

pub lines_fill : (k : Keyword) (b : Body) → Fills tight always (λ text. Repeats (SpellsStep text) b.steps (Repeats (SpellsLabelLine text) b.last_labels (At b.end (TheWord text k))))
lines_fill k b = repeated {first = always} (λ s. fill_any (step_fills s)) (ends_fill k b.end b.last_labels) b.steps

pub body_fills : (k : Keyword) (b : Body) → Fills tight always (λ text. SpellsBody text k b)
body_fills k b = fill_given _ (next loose_open line_end_fills (lines_fill k b))

-- units
pub no_externals_open : (ds : List Declaration) → Opens loose (lacks word.VarExternal) (λ text. SpellsNoExternals text ds)
no_externals_open ds = given _ (no_after_opens (word_same word.VarExternal))

pub unit_externals_opens : (kind : UnitKind) (ds : List Declaration) → Opens loose (lacks word.VarExternal) (λ text. SpellsExternals text kind ds)
unit_externals_opens (unit.Function result place) ds = no_externals_open ds
unit_externals_opens unit.FunctionBlock ds = no_externals_open ds
unit_externals_opens unit.Program ds = optional_opens word.VarExternal external_fills ds

pub result_opens : (kind : UnitKind) → Opens loose quiet (λ text. SpellsResult text kind)
result_opens (unit.Function result place) = (fill_after (next loose_open (sign_fills Colon) (fill_placed place (scalar_fills result)))).opens
result_opens unit.FunctionBlock = freely nothing_opens
result_opens unit.Program = freely nothing_opens

-- what is in a unit after its head takes a token that is no line end
record Reaches (F : List ℕ → Front) : Type 0 where
  opens : Opens tight always F
  takes : Takes loose F

reach_behind : {F G : List ℕ → Front} {test : Test} → Opens loose test F → Reaches G → Reaches (λ text. F text ⨾ G text)
reach_behind f g = record {
  opens = behind f g.takes g.opens;
  takes = record {
    less = λ text ts m p.
        let a1 = g.takes.less text p.0 m p.2 in
        let a2 = skip_length p.0 ts (f.ends text ts p.0 p.1) in
        omega (arith, a1, a2);
  };
}

body_reaches : (k : Keyword) (b : Body) → Reaches (λ text. SpellsBody text k b)
body_reaches k b = record {
  opens = (body_fills k b).opens;
  takes = record {
    less = λ text ts m p.
        let a1 = (lines_fill k b).takes.less text (skip_line_ends p.1.0) m p.1.2 in
        let a2 = skip_length p.1.0 ts (line_end_fills.opens.ends text ts p.1.0 p.1.1) in
        omega (arith, a1, a2);
  };
}

inner_reaches : (u : ProgramUnit) → Reaches (λ text. SpellsResult text u.kind ⨾ SpellsFilledList text word.VarInput u.inputs ⨾ SpellsFilledList text word.VarOutput u.outputs
    ⨾ SpellsOptionalList text word.Var (SpellsDeclaration text) u.variables ⨾ SpellsExternals text u.kind u.externals ⨾ SpellsBody text (end_word u.kind) u.body)
inner_reaches u =
    reach_behind (result_opens u.kind) (reach_behind (filled_opens word.VarInput u.inputs) (reach_behind (filled_opens word.VarOutput u.outputs)
    (reach_behind (optional_opens word.Var declaration_fills u.variables) (reach_behind (unit_externals_opens u.kind u.externals) (body_reaches (end_word u.kind) u.body)))))

nearly : {F : List ℕ → Front} → Takes loose F → Takes tight F
nearly some = record { less = λ text ts m p. let a1 = some.less text ts m p in let a2 = gap_length loose_gap ts in omega (arith, a1, a2) }

pub unit_fills : (u : ProgramUnit) → Fills tight always (λ text. SpellsUnit text u)
unit_fills u =
    let inner = inner_reaches u in
    fill_given _ (next loose_open (fill_placed u.place (word_fills (unit_word u.kind))) (next tight_open (the_name_fills u.name) (record { opens = inner.opens; takes = nearly inner.takes })))

-- the configuration
pub size_fills : (n : List ℕ) (s : Size) → Fills tight always (λ text. SpellsSize text n s)
size_fills n s =
    next loose_open (text_fills n) (next loose_open (sign_fills Colon) (next loose_open (word_fills _) (next loose_open (sign_fills Assign)
    (next loose_open (fill_placed s.place (decimal_fills s.value)) (sign_fills Semicolon)))))

pub globals_open_at : (place : Option Place) (ds : List Declaration) → Opens loose (lacks word.VarGlobal) (λ text. SpellsGlobals text place ds)
globals_open_at None ds = given _ (no_after_opens (word_same word.VarGlobal))
globals_open_at (Some place) ds =
    freely (loosely (fill_after (fill_placed place (next loose_open (word_fills word.VarGlobal) (repeated {first = always} (λ d. fill_any (declaration_fills d)) (word_fills word.EndVar) ds)))).opens)

pub task_fills : (t : Task) → Fills tight always (λ text. SpellsTask text t)
task_fills t =
    next loose_open (fill_placed t.place (word_fills word.Task)) (next loose_open (the_name_fills t.name) (next loose_open (sign_fills OpenParenthesis)
    (next loose_open (word_fills word.Interval) (next loose_open (sign_fills Assign) (next loose_open (typed_fills (literal.Time t.interval))
    (next loose_open (sign_fills Comma) (next loose_open (word_fills word.Priority) (next loose_open (sign_fills Assign)
    (next loose_open (decimal_fills t.priority) (next loose_open (sign_fills CloseParenthesis) (sign_fills Semicolon)))))))))))

pub program_line_fills : (p : ProgramLine) → Fills tight always (λ text. SpellsProgramLine text p)
program_line_fills p =
    next loose_open (fill_placed p.place (word_fills word.Program)) (next loose_open (the_name_fills p.name) (next loose_open (word_fills word.With)
    (next loose_open (the_name_fills p.task) (next loose_open (sign_fills Colon) (next loose_open (the_name_fills p.program) (sign_fills Semicolon))))))
