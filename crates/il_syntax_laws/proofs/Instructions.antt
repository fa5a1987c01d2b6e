-- Instructions.
use Rattle.std.proofs.Common.{◌≡◌, ℕ, List, [], ◌∷◌, refl, ap, subst, inl, inr, Bool, Option}
use Rattle.il_syntax.specs.declared.token.Token.{Token}
use Rattle.il_syntax.specs.declared.token.Sign.TheVariants.{Colon, OpenParenthesis, CloseParenthesis, Ampersand}
use Rattle.il_syntax.specs.declared.keyword.Keyword.{Keyword}
use Rattle.il_syntax.specs.declared.keyword.Keyword.TheVariants as word
use Rattle.il_syntax.specs.declared.tree.Named.{Named}
use Rattle.il_syntax.specs.declared.tree.Operand.{Operand}
use Rattle.il_syntax.specs.declared.tree.Operator.{Operator}
use Rattle.il_syntax.specs.declared.tree.Store.{Store}
use Rattle.il_syntax.specs.declared.tree.Condition.{Condition}
use Rattle.il_syntax.specs.declared.tree.Argument.{Argument}
use Rattle.il_syntax.specs.declared.tree.Instruction.{Instruction}
use Rattle.il_syntax.specs.declared.tree.Instruction.TheVariants as instruction
use Rattle.il_syntax.specs.Grammar.{tight, TheSign, TheWord, SpellsOperator, SpellsOperands, SpellsInstruction, SpellsLabel}
use Rattle.il_syntax_laws.specs.One.{IsDeterministic, IsSure}
use Rattle.il_syntax_laws.proofs.Combinators.{chain, behind, before, both, through}
use Rattle.il_syntax_laws.proofs.Leads.{Lead, reserved, name, sign, lead, word_lead, the_name_lead, sign_lead, line_end_lead, word_one, word_sure, the_name_one, sign_sure, line_end_sure}
use Rattle.il_syntax_laws.proofs.Operands.{is_operand_lead, operand_one, begins_operand, target_one, operator_one, shortly_lead}
use Rattle.il_syntax_laws.proofs.Arguments.{arguments_one, operands_one, first_one, begins_operands}

-- what the first token tells of an instruction
pub data Sort : Type 0 where
  none loads stores negates operates evaluates jumps leaves calls invokes : Sort

-- what instruction begins so
abbrev pub sort_at : Lead → Sort
sort_at (reserved (word.Load negated)) = loads
sort_at (reserved (word.Store store)) = stores
sort_at (reserved word.Not) = negates
sort_at (reserved (word.Operate o)) = operates
sort_at (reserved (word.Jump condition)) = jumps
sort_at (reserved (word.Return condition)) = leaves
sort_at (reserved (word.Call condition)) = calls
sort_at (sign Ampersand) = operates
sort_at (sign CloseParenthesis) = evaluates
sort_at name = invokes
sort_at _ = none

-- the sort of an instruction
abbrev pub sort_of : Instruction → Sort
sort_of (instruction.Load negated operand) = loads
sort_of (instruction.Store store target) = stores
sort_of instruction.Not = negates
sort_of (instruction.Operate op operand) = operates
sort_of (instruction.Defer op first) = operates
sort_of instruction.Evaluate = evaluates
sort_of (instruction.Jump condition label) = jumps
sort_of (instruction.Return condition) = leaves
sort_of (instruction.Call condition instance arguments) = calls
sort_of (instruction.Invoke function operands) = invokes

module _ (text : List ℕ) where
  -- an operator begins an operation
  pub operator_sort : (o : Operator) (ts r : List Token) → SpellsOperator text o ts r → sort_at (lead text ts) ≡ operates
  operator_sort o ts r (inl p) = ap sort_at (word_lead text (word.Operate o) ts r p)
  operator_sort o ts r (inr p) = ap sort_at (shortly_lead text o ts r p)

  -- the first token tells the sort of an instruction
  pub instruction_sort : (i : Instruction) (ts r : List Token) → SpellsInstruction text i ts r → sort_at (lead text ts) ≡ sort_of i
  instruction_sort (instruction.Load negated operand) ts r p = ap sort_at (word_lead text (word.Load negated) ts p.0 p.1)
  instruction_sort (instruction.Store store target) ts r p = ap sort_at (word_lead text (word.Store store) ts p.0 p.1)
  instruction_sort instruction.Not ts r p = ap sort_at (word_lead text word.Not ts p.0 p.1)
  instruction_sort (instruction.Operate op operand) ts r p = operator_sort op ts p.0 p.1
  instruction_sort (instruction.Defer op first) ts r p = operator_sort op ts p.0 p.1
  instruction_sort instruction.Evaluate ts r p = ap sort_at (sign_lead text CloseParenthesis ts p.0 p.1)
  instruction_sort (instruction.Jump condition label) ts r p = ap sort_at (word_lead text (word.Jump condition) ts p.0 p.1)
  instruction_sort (instruction.Return condition) ts r p = ap sort_at (word_lead text (word.Return condition) ts p.0 p.1)
  instruction_sort (instruction.Call condition instance arguments) ts r p = ap sort_at (word_lead text (word.Call condition) ts p.0 p.1)
  instruction_sort (instruction.Invoke function operands) ts r p = ap sort_at (the_name_lead text function ts p.0 p.1)

  -- a load is one
  load_one : IsDeterministic (λ (x : Bool × Operand). SpellsInstruction text (instruction.Load x.0 x.1))
  load_one = chain tight (through (λ n. word.Load n) (λ a b e. cc e) (word_one text)) (before tight (operand_one text tight) line_end_sure)

  -- a store is one
  store_one : IsDeterministic (λ (x : Store × Operand). SpellsInstruction text (instruction.Store x.0 x.1))
  store_one = chain tight (through (λ s. word.Store s) (λ a b e. cc e) (word_one text)) (before tight (target_one text) line_end_sure)

  -- an operation is one
  operate_one : IsDeterministic (λ (x : Operator × Operand). SpellsInstruction text (instruction.Operate x.0 x.1))
  operate_one = chain tight (operator_one text) (before tight (operand_one text tight) line_end_sure)

  -- an operation with a parenthesis is one
  defer_one : IsDeterministic (λ (x : Operator × Option Operand). SpellsInstruction text (instruction.Defer x.0 x.1))
  defer_one = chain tight (operator_one text) (behind tight (sign_sure OpenParenthesis) (first_one text))

  -- a jump is one
  jump_one : IsDeterministic (λ (x : Condition × Named). SpellsInstruction text (instruction.Jump x.0 x.1))
  jump_one = chain tight (through (λ c. word.Jump c) (λ a b e. cc e) (word_one text)) (before tight (the_name_one text) line_end_sure)

  -- a return is one
  return_one : IsDeterministic (λ (c : Condition). SpellsInstruction text (instruction.Return c))
  return_one = before tight (through (λ c. word.Return c) (λ a b e. cc e) (word_one text)) line_end_sure

  -- a call is one
  call_one : IsDeterministic (λ (x : Condition × (Named × List Argument)). SpellsInstruction text (instruction.Call x.0 x.1.0 x.1.1))
  call_one = chain tight (through (λ c. word.Call c) (λ a b e. cc e) (word_one text)) (chain tight (the_name_one text) (arguments_one text))

  -- a function with its operands is one
  invoke_one : IsDeterministic (λ (x : Named × List Operand). SpellsInstruction text (instruction.Invoke x.0 x.1))
  invoke_one = chain tight (the_name_one text) (operands_one text)

  -- the rest after NOT is one
  not_sure : IsSure (SpellsInstruction text instruction.Not)
  not_sure = both tight (word_sure text word.Not) line_end_sure

  -- the rest after `)` is one
  evaluate_sure : IsSure (SpellsInstruction text instruction.Evaluate)
  evaluate_sure = both tight (sign_sure CloseParenthesis) line_end_sure

  -- after an operator is an operand or a parenthesis
  not_deferred : (o other : Operator) (x : Operand) (first : Option Operand) (ts r s : List Token)
      → SpellsInstruction text (instruction.Operate o x) ts r → SpellsInstruction text (instruction.Defer other first) ts s → ⊥
  not_deferred o other x first ts r s p q =
      let same = (operator_one text).only o other ts p.0 q.0 p.1 q.1 in
      let operand = begins_operand text tight x p.0 p.2.0 p.2.1 in
      let parenthesis = ap is_operand_lead (sign_lead text OpenParenthesis q.0 q.2.0 q.2.1) in
      cc (operand, parenthesis, same.1)

  -- an instruction is one
  pub instruction_one : IsDeterministic (SpellsInstruction text)
  instruction_one = record { only = go }
    where
      go : (a b : Instruction) (ts r s : List Token) → SpellsInstruction text a ts r → SpellsInstruction text b ts s → (a ≡ b) × (r ≡ s)
      go (instruction.Load a x) (instruction.Load b y) ts r s p q = let same = load_one.only (a, x) (b, y) ts r s p q in (λ i. instruction.Load (same.0 i).0 (same.0 i).1, same.1)
      go (instruction.Store a x) (instruction.Store b y) ts r s p q = let same = store_one.only (a, x) (b, y) ts r s p q in (λ i. instruction.Store (same.0 i).0 (same.0 i).1, same.1)
      go instruction.Not instruction.Not ts r s p q = (refl, not_sure.only ts r s p q)
      go (instruction.Operate a x) (instruction.Operate b y) ts r s p q = let same = operate_one.only (a, x) (b, y) ts r s p q in (λ i. instruction.Operate (same.0 i).0 (same.0 i).1, same.1)
      go (instruction.Defer a x) (instruction.Defer b y) ts r s p q = let same = defer_one.only (a, x) (b, y) ts r s p q in (λ i. instruction.Defer (same.0 i).0 (same.0 i).1, same.1)
      go (instruction.Operate a x) (instruction.Defer b y) ts r s p q = absurd (not_deferred a b x y ts r s p q)
      go (instruction.Defer a x) (instruction.Operate b y) ts r s p q = absurd (not_deferred b a y x ts s r q p)
      go instruction.Evaluate instruction.Evaluate ts r s p q = (refl, evaluate_sure.only ts r s p q)
      go (instruction.Jump a x) (instruction.Jump b y) ts r s p q = let same = jump_one.only (a, x) (b, y) ts r s p q in (λ i. instruction.Jump (same.0 i).0 (same.0 i).1, same.1)
      go (instruction.Return a) (instruction.Return b) ts r s p q = let same = return_one.only a b ts r s p q in (λ i. instruction.Return (same.0 i), same.1)
      go (instruction.Call a x v) (instruction.Call b y w) ts r s p q =
          let same = call_one.only (a, (x, v)) (b, (y, w)) ts r s p q in (λ i. instruction.Call (same.0 i).0 (same.0 i).1.0 (same.0 i).1.1, same.1)
      go (instruction.Invoke a x) (instruction.Invoke b y) ts r s p q = let same = invoke_one.only (a, x) (b, y) ts r s p q in (λ i. instruction.Invoke (same.0 i).0 (same.0 i).1, same.1)
      go a b ts r s p q = absurd (cc (instruction_sort a ts r p, instruction_sort b ts s q))

  -- after a name that begins an instruction is no colon
  operands_no_colon : (xs : List Operand) (ts r s : List Token) → SpellsOperands text xs ts r → TheSign Colon ts s → ⊥
  operands_no_colon [] ts r s p q = cc (line_end_lead text ts r p, sign_lead text Colon ts s q)
  operands_no_colon (x ∷ xs) ts r s p q = cc (begins_operands text (x ∷ xs) ts r p, ap is_operand_lead (sign_lead text Colon ts s q))

  -- an instruction is no label
  pub instruction_no_label : (i : Instruction) (n : Named) (ts r s : List Token) → SpellsInstruction text i ts r → SpellsLabel text n ts s → ⊥
  instruction_no_label (instruction.Invoke f xs) n ts r s p q =
      let same = (the_name_one text).only f n ts p.0 q.0 p.1 q.1 in
      operands_no_colon xs q.0 r s (subst (λ m. SpellsOperands text xs m r) same.1 p.2) q.2
  instruction_no_label i n ts r s p q = cc (instruction_sort i ts r p, ap sort_at (the_name_lead text n ts q.0 q.1))

  -- a word that begins no instruction
  pub instruction_no_word : (i : Instruction) (k : Keyword) (ts r s : List Token) → sort_at (reserved k) ≡ none → SpellsInstruction text i ts r → TheWord text k ts s → ⊥
  instruction_no_word (instruction.Load negated operand) k ts r s other p q =
      cc (instruction_sort (instruction.Load negated operand) ts r p, ap sort_at (word_lead text k ts s q), other)
  instruction_no_word i k ts r s other p q = cc (instruction_sort i ts r p, ap sort_at (word_lead text k ts s q), other)
