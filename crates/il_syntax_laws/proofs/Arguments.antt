-- Arguments of calls, and the operands of an invoked function.
use Rattle.std.proofs.Common.{◌≡◌, ℕ, List, [], ◌∷◌, refl, ap, inl, inr, Bool, true, false, Option, Some, None}
use Rattle.il_syntax.specs.declared.token.Token.{Token}
use Rattle.il_syntax.specs.declared.token.Sign.TheVariants.{Assign, Arrow, Comma, OpenParenthesis, CloseParenthesis}
use Rattle.il_syntax.specs.declared.token.Kind.TheVariants as kind
use Rattle.il_syntax.specs.declared.keyword.Keyword.{Keyword}
use Rattle.il_syntax.specs.declared.tree.Named.{Named}
use Rattle.il_syntax.specs.declared.tree.Operand.{Operand}
use Rattle.il_syntax.specs.declared.tree.Argument.{Argument}
use Rattle.il_syntax.specs.declared.tree.Argument.TheVariants as argument
use Rattle.il_syntax.specs.Text.{name_of}
use Rattle.il_syntax.specs.Words.{keyword_of}
use Rattle.il_syntax.specs.Grammar.{tight, loose, ◌⨾◌, ◌⋯◌, skip_line_ends, Listed, TheSign, TheLineEnd, AWord, SpellsOperand, SpellsArgument, SpellsArguments, SpellsOperands, SpellsFirst}
use Rattle.il_syntax_laws.specs.One.{IsDeterministic, IsSure}
use Rattle.il_syntax_laws.proofs.Combinators.{chain, behind, before, both, through, at_place, listed}
use Rattle.il_syntax_laws.proofs.Leads.{Lead, reserved, name, lead, lead_of, sign_lead, line_end_lead, at_holds, any_word_one, the_name_one, sign_sure, line_end_sure}
use Rattle.il_syntax_laws.proofs.Operands.{is_operand_lead, operand_one, begins_operand}

-- whether a word may begin so
abbrev is_word_lead : Lead → Bool
is_word_lead (reserved k) = true
is_word_lead name = true
is_word_lead _ = false

-- a word is reserved or a name
reserved_or_not : (k : Option Keyword) → is_word_lead (lead_of kind.Word k) ≡ true
reserved_or_not (Some k) = refl
reserved_or_not None = refl

module _ (text : List ℕ) where
  -- an argument to an input is one
  input_one : IsDeterministic (λ (x : Named × Operand). SpellsArgument text (argument.Input x.0 x.1))
  input_one =
      through (λ x. ((x.0.place, x.0.name), x.1)) (λ a b e i. (record { place = (e i).0.0; name = (e i).0.1 }, (e i).1))
      (chain loose (at_place (any_word_one text)) (behind loose (sign_sure Assign) (operand_one text loose)))

  -- an argument from an output is one
  output_one : IsDeterministic (λ (x : Named × Named). SpellsArgument text (argument.Output x.0 x.1))
  output_one =
      through (λ x. ((x.0.place, x.0.name), x.1)) (λ a b e i. (record { place = (e i).0.0; name = (e i).0.1 }, (e i).1))
      (chain loose (at_place (any_word_one text)) (behind loose (sign_sure Arrow) (the_name_one text)))

  -- a word with `:=` after it, and one with `=>`
  not_both : (a b target : Named) (o : Operand) (ts r s : List Token) → SpellsArgument text (argument.Input a o) ts r → SpellsArgument text (argument.Output b target) ts s → ⊥
  not_both a b target o ts r s p q =
      let same = (at_place (any_word_one text)).only (a.place, a.name) (b.place, b.name) ts p.0 q.0 p.1 q.1 in
      cc (sign_lead text Assign (skip_line_ends p.0) p.2.0 p.2.1, sign_lead text Arrow (skip_line_ends q.0) q.2.0 q.2.1, same.1)

  -- an argument is one
  pub argument_one : IsDeterministic (SpellsArgument text)
  argument_one = record { only = go }
    where
      go : (a b : Argument) (ts r s : List Token) → SpellsArgument text a ts r → SpellsArgument text b ts s → (a ≡ b) × (r ≡ s)
      go (argument.Input a x) (argument.Input b y) ts r s p q = let same = input_one.only (a, x) (b, y) ts r s p q in (λ i. argument.Input (same.0 i).0 (same.0 i).1, same.1)
      go (argument.Output a x) (argument.Output b y) ts r s p q = let same = output_one.only (a, x) (b, y) ts r s p q in (λ i. argument.Output (same.0 i).0 (same.0 i).1, same.1)
      go (argument.Input a x) (argument.Output b y) ts r s p q = absurd (not_both a b y x ts r s p q)
      go (argument.Output a x) (argument.Input b y) ts r s p q = absurd (not_both b a x y ts s r q p)

  -- a word begins like one
  a_word : (n : List ℕ) (ts r : List Token) → AWord text n ts r → is_word_lead (lead text ts) ≡ true
  a_word n [] r p = absurd p
  a_word n (t ∷ ts) r p = rw p.0.0 (reserved_or_not (keyword_of (name_of text t)))

  -- an argument begins with a word
  begins_argument : (a : Argument) (ts r : List Token) → SpellsArgument text a ts r → is_word_lead (lead text ts) ≡ true
  begins_argument (argument.Input w o) ts r p = a_word w.name ts p.0 (at_holds text (AWord text w.name) w.place ts p.0 p.1)
  begins_argument (argument.Output w o) ts r p = a_word w.name ts p.0 (at_holds text (AWord text w.name) w.place ts p.0 p.1)

  -- a list of arguments begins with a word
  begins_arguments : (xs : List Argument) (ts r : List Token) → Listed loose (SpellsArgument text) xs (TheSign CloseParenthesis) ts r → is_word_lead (lead text ts) ≡ true
  begins_arguments [] ts r p = absurd p
  begins_arguments (x ∷ []) ts r p = begins_argument x ts p.0 p.1
  begins_arguments (x ∷ y ∷ ys) ts r p = begins_argument x ts p.0 p.1

  -- the rest after an empty list of arguments is one
  no_arguments : IsSure (TheSign OpenParenthesis ⋯ TheSign CloseParenthesis ⨾ TheLineEnd)
  no_arguments = both loose (sign_sure OpenParenthesis) (both tight (sign_sure CloseParenthesis) line_end_sure)

  -- a list of arguments in parentheses is one
  some_arguments : IsDeterministic (λ (xs : List Argument). TheSign OpenParenthesis ⋯ Listed loose (SpellsArgument text) xs (TheSign CloseParenthesis) ⨾ TheLineEnd)
  some_arguments =
      behind loose (sign_sure OpenParenthesis)
      (before tight (listed loose argument_one (sign_sure CloseParenthesis) (record { never = λ a b ts r s p q. cc (sign_lead text CloseParenthesis ts r p, sign_lead text Comma ts s q) })) line_end_sure)

  -- an empty list of arguments, and one that is not
  not_empty : (x : Argument) (xs : List Argument) (ts r s : List Token) → SpellsArguments text [] ts r → SpellsArguments text (x ∷ xs) ts s → ⊥
  not_empty x xs ts r s (inl p) q = cc (line_end_lead text ts r p, sign_lead text OpenParenthesis ts q.0 q.1)
  not_empty x xs ts r s (inr p) q =
      let opened = (sign_sure OpenParenthesis).only ts p.0 q.0 p.1 q.1 in
      let word = begins_arguments (x ∷ xs) (skip_line_ends q.0) q.2.0 q.2.1 in
      cc (ap is_word_lead (sign_lead text CloseParenthesis (skip_line_ends p.0) p.2.0 p.2.1), word, opened)

  -- the arguments of a call are one, with parentheses or without
  pub arguments_one : IsDeterministic (SpellsArguments text)
  arguments_one = record { only = go }
    where
      go : (a b : List Argument) (ts r s : List Token) → SpellsArguments text a ts r → SpellsArguments text b ts s → (a ≡ b) × (r ≡ s)
      go [] [] ts r s (inl p) (inl q) = (refl, line_end_sure.only ts r s p q)
      go [] [] ts r s (inr p) (inr q) = (refl, no_arguments.only ts r s p q)
      go [] [] ts r s (inl p) (inr q) = absurd (cc (line_end_lead text ts r p, sign_lead text OpenParenthesis ts q.0 q.1))
      go [] [] ts r s (inr p) (inl q) = absurd (cc (line_end_lead text ts s q, sign_lead text OpenParenthesis ts p.0 p.1))
      go [] (y ∷ ys) ts r s p q = absurd (not_empty y ys ts r s p q)
      go (x ∷ xs) [] ts r s p q = absurd (not_empty x xs ts s r q p)
      go (x ∷ xs) (y ∷ ys) ts r s p q = some_arguments.only (x ∷ xs) (y ∷ ys) ts r s p q

  -- operands with commas between them are one
  listed_operands : IsDeterministic (λ (xs : List Operand). Listed tight (SpellsOperand text tight) xs TheLineEnd)
  listed_operands = listed tight (operand_one text tight) line_end_sure (record { never = λ a b ts r s p q. cc (line_end_lead text ts r p, sign_lead text Comma ts s q) })

  -- operands with commas between them begin with one
  pub begins_operands : (xs : List Operand) (ts r : List Token) → Listed tight (SpellsOperand text tight) xs TheLineEnd ts r → is_operand_lead (lead text ts) ≡ true
  begins_operands [] ts r p = absurd p
  begins_operands (x ∷ []) ts r p = begins_operand text tight x ts p.0 p.1
  begins_operands (x ∷ y ∷ ys) ts r p = begins_operand text tight x ts p.0 p.1

  -- the operands of a function are one
  pub operands_one : IsDeterministic (SpellsOperands text)
  operands_one = record { only = go }
    where
      go : (a b : List Operand) (ts r s : List Token) → SpellsOperands text a ts r → SpellsOperands text b ts s → (a ≡ b) × (r ≡ s)
      go [] [] ts r s p q = (refl, line_end_sure.only ts r s p q)
      go [] (y ∷ ys) ts r s p q = absurd (cc (ap is_operand_lead (line_end_lead text ts r p), begins_operands (y ∷ ys) ts s q))
      go (x ∷ xs) [] ts r s p q = absurd (cc (ap is_operand_lead (line_end_lead text ts s q), begins_operands (x ∷ xs) ts r p))
      go (x ∷ xs) (y ∷ ys) ts r s p q = listed_operands.only (x ∷ xs) (y ∷ ys) ts r s p q

  -- the operand after a parenthesis is one, missing or not
  pub first_one : IsDeterministic (SpellsFirst text)
  first_one = record { only = go }
    where
      inside : IsDeterministic (λ (o : Operand). SpellsOperand text tight o ⨾ TheLineEnd)
      inside = before tight (operand_one text tight) line_end_sure

      go : (a b : Option Operand) (ts r s : List Token) → SpellsFirst text a ts r → SpellsFirst text b ts s → (a ≡ b) × (r ≡ s)
      go None None ts r s p q = (refl, line_end_sure.only ts r s p q)
      go None (Some y) ts r s p q = absurd (cc (ap is_operand_lead (line_end_lead text ts r p), begins_operand text tight y ts q.0 q.1))
      go (Some x) None ts r s p q = absurd (cc (ap is_operand_lead (line_end_lead text ts s q), begins_operand text tight x ts p.0 p.1))
      go (Some x) (Some y) ts r s p q = let same = inside.only x y ts r s p q in (λ i. Some (same.0 i), same.1)
