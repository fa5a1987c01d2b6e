-- Operands, operators and arguments.
use Rattle.std.proofs.Common.{◌≡◌, ℕ, List, [], ◌∷◌, refl, sym, ◌∙◌, ap, subst, inl, inr, Bool, true, false}
use Rattle.il_syntax.specs.declared.token.Token.{Token}
use Rattle.il_syntax.specs.declared.token.Sign.TheVariants.{OpenBracket, CloseBracket, Dot, Ampersand}
use Rattle.il_syntax.specs.declared.keyword.Keyword.TheVariants as word
use Rattle.il_syntax.specs.declared.tree.Literal.{Literal}
use Rattle.il_syntax.specs.declared.tree.Literal.TheVariants as literal
use Rattle.il_syntax.specs.declared.tree.Index.{Index}
use Rattle.il_syntax.specs.declared.tree.Index.TheVariants as index
use Rattle.il_syntax.specs.declared.tree.Reference.{Reference}
use Rattle.il_syntax.specs.declared.tree.Reference.TheVariants as reference
use Rattle.il_syntax.specs.declared.tree.Operand.{Operand}
use Rattle.il_syntax.specs.declared.tree.Operator.{Operator}
use Rattle.il_syntax.specs.declared.tree.Operator.TheVariants as operator
use Rattle.il_syntax.specs.declared.tree.Logic.TheVariants.{Conjunction, Disjunction, Exclusive}
use Rattle.il_syntax.specs.Grammar.{Gap, tight, TheSign, ALiteral, SpellsIndex, SpellsReference, SpellsOperand, SpellsTarget, SpellsAmpersand, SpellsShortly, SpellsOperator}
use Rattle.il_syntax_laws.specs.One.{IsDeterministic}
use Rattle.il_syntax_laws.proofs.Combinators.{chain, behind, before, both, through, no_one, at_place, one_token}
use Rattle.il_syntax_laws.proofs.Leads.{Lead, reserved, name, number, typed, sign, lead, word_lead, name_lead, sign_lead, number_lead, at_holds, word_one, name_one, any_word_one, sign_sure, number_one}
use Rattle.il_syntax_laws.proofs.Types.{literal_lead_of, literal_lead, literal_one}

-- whether a literal may begin so
abbrev pub is_literal_lead : Lead → Bool
is_literal_lead (reserved (word.Truth truth)) = true
is_literal_lead number = true
is_literal_lead typed = true
is_literal_lead _ = false

-- whether an operand may begin so
abbrev pub is_operand_lead : Lead → Bool
is_operand_lead (reserved (word.Truth truth)) = true
is_operand_lead number = true
is_operand_lead typed = true
is_operand_lead name = true
is_operand_lead _ = false

-- whether an operator may begin so
abbrev pub is_operator_lead : Lead → Bool
is_operator_lead (reserved (word.Operate o)) = true
is_operator_lead (sign Ampersand) = true
is_operator_lead _ = false

-- whether an operand is a literal
abbrev is_literal : Reference → Bool
is_literal (reference.Literal value) = true
is_literal _ = false

module _ (text : List ℕ) where
  -- a literal begins like one
  begins_literal : (l : Literal) (ts r : List Token) → ALiteral text l ts r → is_literal_lead (lead text ts) ≡ true
  begins_literal l ts r p = ap is_literal_lead (literal_lead text l ts r p) ∙ go l
    where
      go : (l : Literal) → is_literal_lead (literal_lead_of l) ≡ true
      go (literal.Truth truth) = refl
      go (literal.Bare value) = refl
      go (literal.Whole type value) = refl
      go (literal.Time value) = refl

  -- an index is one
  pub index_one : IsDeterministic (SpellsIndex text)
  index_one = record { only = go }
    where
      go : (a b : Index) (ts r s : List Token) → SpellsIndex text a ts r → SpellsIndex text b ts s → (a ≡ b) × (r ≡ s)
      go (index.Number a) (index.Number b) ts r s p q = let same = number_one.only a b ts r s p q in (λ i. index.Number (same.0 i), same.1)
      go (index.Variable a) (index.Variable b) ts r s p q = let same = (name_one text).only a b ts r s p q in (λ i. index.Variable (same.0 i), same.1)
      go (index.Number a) (index.Variable b) ts r s p q = absurd (cc (number_lead text a ts r p, name_lead text b ts s q))
      go (index.Variable b) (index.Number a) ts r s p q = absurd (cc (number_lead text a ts s q, name_lead text b ts r p))

  -- an operand that is a name is one
  variable_one : (gap : Gap) → IsDeterministic (λ (n : List ℕ). SpellsReference text gap (reference.Variable n))
  variable_one gap = before gap (name_one text) (both tight (no_one (TheSign OpenBracket)) (no_one (TheSign Dot)))

  -- an element is one
  element_one : (gap : Gap) → IsDeterministic (λ (x : List ℕ × Index). SpellsReference text gap (reference.Element x.0 x.1))
  element_one gap = chain gap (name_one text) (behind gap (sign_sure OpenBracket) (before gap index_one (sign_sure CloseBracket)))

  -- a member is one
  member_one : (gap : Gap) → IsDeterministic (λ (x : List ℕ × List ℕ). SpellsReference text gap (reference.Member x.0 x.1))
  member_one gap = chain gap (name_one text) (behind gap (sign_sure Dot) (any_word_one text))

  -- the first token says whether an operand is a literal
  reference_tag : (gap : Gap) (a : Reference) (ts r : List Token) → SpellsReference text gap a ts r → is_literal_lead (lead text ts) ≡ is_literal a
  reference_tag gap (reference.Literal value) ts r p = begins_literal value ts r p
  reference_tag gap (reference.Variable n) ts r p = ap is_literal_lead (name_lead text n ts p.0 p.1)
  reference_tag gap (reference.Element n i) ts r p = ap is_literal_lead (name_lead text n ts p.0 p.1)
  reference_tag gap (reference.Member n m) ts r p = ap is_literal_lead (name_lead text n ts p.0 p.1)

  -- a name with a bracket after it, and one with none
  no_element : (gap : Gap) (a b : List ℕ) (i : Index) (ts r s : List Token)
      → SpellsReference text gap (reference.Variable a) ts r → SpellsReference text gap (reference.Element b i) ts s → ⊥
  no_element gap a b i ts r s p q =
      let same = (name_one text).only a b ts p.0 q.0 p.1 q.1 in
      p.2.1.1 q.2.0 (subst (λ m. TheSign OpenBracket (gap m) q.2.0) (sym same.1) q.2.1)

  -- a name with a dot after it, and one with none
  no_member : (gap : Gap) (a b m : List ℕ) (ts r s : List Token)
      → SpellsReference text gap (reference.Variable a) ts r → SpellsReference text gap (reference.Member b m) ts s → ⊥
  no_member gap a b m ts r s p q =
      let same = (name_one text).only a b ts p.0 q.0 p.1 q.1 in
      p.2.2.1 q.2.0 (subst (λ k. TheSign Dot k q.2.0) (ap gap (sym same.1) ∙ p.2.1.0) q.2.1)

  -- a name with a bracket after it, and one with a dot
  not_both : (gap : Gap) (a b m : List ℕ) (i : Index) (ts r s : List Token)
      → SpellsReference text gap (reference.Element a i) ts r → SpellsReference text gap (reference.Member b m) ts s → ⊥
  not_both gap a b m i ts r s p q =
      let same = (name_one text).only a b ts p.0 q.0 p.1 q.1 in
      cc (sign_lead text OpenBracket (gap p.0) p.2.0 p.2.1, sign_lead text Dot (gap q.0) q.2.0 q.2.1, same.1)

  -- an operand is one
  pub reference_one : (gap : Gap) → IsDeterministic (SpellsReference text gap)
  reference_one gap = record { only = go }
    where
      go : (a b : Reference) (ts r s : List Token) → SpellsReference text gap a ts r → SpellsReference text gap b ts s → (a ≡ b) × (r ≡ s)
      go (reference.Literal a) (reference.Literal b) ts r s p q = let same = (literal_one text).only a b ts r s p q in (λ i. reference.Literal (same.0 i), same.1)
      go (reference.Variable a) (reference.Variable b) ts r s p q = let same = (variable_one gap).only a b ts r s p q in (λ i. reference.Variable (same.0 i), same.1)
      go (reference.Element a x) (reference.Element b y) ts r s p q =
          let same = (element_one gap).only (a, x) (b, y) ts r s p q in (λ i. reference.Element (same.0 i).0 (same.0 i).1, same.1)
      go (reference.Member a x) (reference.Member b y) ts r s p q =
          let same = (member_one gap).only (a, x) (b, y) ts r s p q in (λ i. reference.Member (same.0 i).0 (same.0 i).1, same.1)
      go (reference.Variable a) (reference.Element b y) ts r s p q = absurd (no_element gap a b y ts r s p q)
      go (reference.Element a x) (reference.Variable b) ts r s p q = absurd (no_element gap b a x ts s r q p)
      go (reference.Variable a) (reference.Member b y) ts r s p q = absurd (no_member gap a b y ts r s p q)
      go (reference.Member a x) (reference.Variable b) ts r s p q = absurd (no_member gap b a x ts s r q p)
      go (reference.Element a x) (reference.Member b y) ts r s p q = absurd (not_both gap a b y x ts r s p q)
      go (reference.Member a x) (reference.Element b y) ts r s p q = absurd (not_both gap b a x y ts s r q p)
      go a b ts r s p q = absurd (cc (reference_tag gap a ts r p, reference_tag gap b ts s q))

  -- an operand at its place is one
  pub operand_one : (gap : Gap) → IsDeterministic (SpellsOperand text gap)
  operand_one gap =
      through (λ o. (o.place, o.reference)) (λ a b e i. record { place = (e i).0; reference = (e i).1 }) (at_place (reference_one gap))

  -- an operand begins like one
  pub begins_operand : (gap : Gap) (o : Operand) (ts r : List Token) → SpellsOperand text gap o ts r → is_operand_lead (lead text ts) ≡ true
  begins_operand gap o ts r p = go o.reference (at_holds text (SpellsReference text gap o.reference) o.place ts r p)
    where
      literals : (l : Literal) → is_operand_lead (literal_lead_of l) ≡ true
      literals (literal.Truth truth) = refl
      literals (literal.Bare value) = refl
      literals (literal.Whole type value) = refl
      literals (literal.Time value) = refl

      go : (a : Reference) → SpellsReference text gap a ts r → is_operand_lead (lead text ts) ≡ true
      go (reference.Literal value) p = ap is_operand_lead (literal_lead text value ts r p) ∙ literals value
      go (reference.Variable n) p = ap is_operand_lead (name_lead text n ts p.0 p.1)
      go (reference.Element n i) p = ap is_operand_lead (name_lead text n ts p.0 p.1)
      go (reference.Member n m) p = ap is_operand_lead (name_lead text n ts p.0 p.1)

  -- an operand that may be stored into is one
  pub target_one : IsDeterministic (SpellsTarget text)
  target_one = record { only = λ a b ts r s p q. (operand_one tight).only a b ts r s p.1 q.1 }

  -- the sign of an operator, and the N after it, are one
  pub ampersand_one : IsDeterministic (SpellsAmpersand text)
  ampersand_one = record { only = go }
    where
      go : (a b : Bool) (ts r s : List Token) → SpellsAmpersand text a ts r → SpellsAmpersand text b ts s → (a ≡ b) × (r ≡ s)
      go a b [] r s p q = absurd p
      go true true (t ∷ ts) r s p q = (refl, (one_token _).only ts r s p.1 q.1)
      go true false (t ∷ ts) r s p q = absurd (q.1.1 r p.1)
      go false true (t ∷ ts) r s p q = absurd (p.1.1 s q.1)
      go false false (t ∷ ts) r s p q = (refl, sym p.1.0 ∙ q.1.0)

  -- an operator that has a sign is a conjunction
  shortly : (o : Operator) (ts r : List Token) → SpellsShortly text o ts r → (negated : Bool) × (o ≡ operator.Logic Conjunction negated) × SpellsAmpersand text negated ts r
  shortly (operator.Logic Conjunction negated) ts r p = (negated, refl, p)
  shortly (operator.Logic Disjunction negated) ts r p = absurd p
  shortly (operator.Logic Exclusive negated) ts r p = absurd p
  shortly (operator.Arithmetic a) ts r p = absurd p
  shortly (operator.Comparison c) ts r p = absurd p

  -- the sign of an operator begins with it
  ampersand_lead : (negated : Bool) (ts r : List Token) → SpellsAmpersand text negated ts r → lead text ts ≡ sign Ampersand
  ampersand_lead negated [] r p = absurd p
  ampersand_lead negated (t ∷ ts) r p = rw p.0 refl

  -- an operator that has a sign begins with it
  pub shortly_lead : (o : Operator) (ts r : List Token) → SpellsShortly text o ts r → lead text ts ≡ sign Ampersand
  shortly_lead o ts r p = let short = shortly o ts r p in ampersand_lead short.0 ts r short.2

  -- an operator is one, by its word or by its sign
  pub operator_one : IsDeterministic (SpellsOperator text)
  operator_one = record { only = go }
    where
      go : (a b : Operator) (ts r s : List Token) → SpellsOperator text a ts r → SpellsOperator text b ts s → (a ≡ b) × (r ≡ s)
      go a b ts r s (inl p) (inl q) = let same = (word_one text).only (word.Operate a) (word.Operate b) ts r s p q in (cc same.0, same.1)
      go a b ts r s (inl p) (inr q) = absurd (cc (word_lead text (word.Operate a) ts r p, shortly_lead b ts s q))
      go a b ts r s (inr p) (inl q) = absurd (cc (word_lead text (word.Operate b) ts s q, shortly_lead a ts r p))
      go a b ts r s (inr p) (inr q) =
          let short = shortly a ts r p in
          let other = shortly b ts s q in
          let same = ampersand_one.only short.0 other.0 ts r s short.2 other.2 in
          (short.1 ∙ ap (operator.Logic Conjunction) same.0 ∙ sym other.1, same.1)

  -- an operator begins like one
  pub begins_operator : (o : Operator) (ts r : List Token) → SpellsOperator text o ts r → is_operator_lead (lead text ts) ≡ true
  begins_operator o ts r (inl p) = ap is_operator_lead (word_lead text (word.Operate o) ts r p)
  begins_operator o ts r (inr p) = ap is_operator_lead (shortly_lead o ts r p)
