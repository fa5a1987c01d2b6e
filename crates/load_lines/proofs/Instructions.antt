-- Instructions, told apart by their first token.
use Rattle.std.specs.Prelude.{◌⊎◌}
use Rattle.std.proofs.Common.{◌≡◌, ◌≤◌, length, arith, ℕ, Bool, true, false, List, [], ◌∷◌, drop, refl, sym, ◌∙◌, ap, subst, inl, inr, Option, Some, None}
use Rattle.il_syntax.specs.declared.token.Token.{Token}
use Rattle.il_syntax.specs.declared.token.Kind.{Kind}
use Rattle.il_syntax.specs.declared.token.Kind.TheVariants as kind
use Rattle.il_syntax.specs.declared.token.Sign.{Sign}
use Rattle.il_syntax.specs.declared.token.Sign.TheVariants.{Comma, Range, OpenParenthesis, CloseParenthesis, Ampersand}
use Rattle.il_syntax.specs.declared.keyword.Keyword.{Keyword}
use Rattle.il_syntax.specs.declared.keyword.Keyword.TheVariants as word
use Rattle.il_syntax.specs.declared.tree.Subrange.{Subrange}
use Rattle.il_syntax.specs.declared.tree.Named.{Named}
use Rattle.il_syntax.specs.declared.tree.Operand.{Operand}
use Rattle.il_syntax.specs.declared.tree.Argument.{Argument}
use Rattle.il_syntax.specs.declared.tree.Argument.TheVariants as argument
use Rattle.il_syntax.specs.declared.tree.Operator.{Operator}
use Rattle.il_syntax.specs.declared.tree.Operator.TheVariants as operator
use Rattle.il_syntax.specs.declared.tree.Logic.TheVariants.{Conjunction}
use Rattle.il_syntax.specs.declared.tree.Store.{Store}
use Rattle.il_syntax.specs.declared.tree.Condition.{Condition}
use Rattle.il_syntax.specs.declared.tree.Instruction.{Instruction}
use Rattle.il_syntax.specs.declared.tree.Instruction.TheVariants as instruction
use Rattle.il_syntax.specs.Words.{keyword_of}
use Rattle.il_syntax.specs.Text.{name_of}
use Rattle.il_syntax.specs.Grammar.{Front, One, tight, loose, ◌⨾◌, ◌⋯◌, skip_line_ends, TheSign, TheWord, TheName, TheLineEnd, TheLetterN, ANumber, SpellsSubrange, SpellsScalar, SpellsOperator, SpellsArgument, SpellsArguments, SpellsOperands, SpellsInstruction}
use Rattle.il_syntax_laws.specs.One.{IsDeterministic}
use Rattle.il_syntax_laws.proofs.Combinators.{listed}
use Rattle.il_syntax_laws.proofs.Leads.{reserved, name, number, typed, sign, line_end, nothing, lead, lead_of as kind_lead, the_name_one, sign_sure}
use Rattle.il_syntax_laws.proofs.Leads.{Lead as Beginning}
use Rattle.il_syntax_laws.proofs.Operands.{operator_one}
use Rattle.il_syntax_laws.proofs.Arguments.{argument_one}
use Rattle.il_syntax_laws.proofs.Instructions.{sort_of, operator_sort, instruction_sort, none, loads, stores, negates, evaluates, jumps, leaves, calls, sort_at}
use Rattle.load_lines.specs.Lead.{lead_of, lead_at}
use Rattle.il_syntax_laws.specs.Alike.{IsEndOf, AreAlike, IsGap, IsLocal}
use Rattle.il_syntax_laws.proofs.Alike.{end_self, end_length, end_of_end, tight_gap, loose_gap}
use Rattle.il_syntax_laws.proofs.Local.{inside_carries, sign_local, sign_told, operator_local, the_name_local}
use Rattle.load_lines.specs.declared.stop.SyntaxError.TheVariants.{Unexpected}
use Rattle.load_lines.specs.Reads.{fault_at, GoesOnNoMore, Reads, Refuses, Stands, Misses, Eats, SpellsLine, SpellsWork, SpellsRoomy, SpellsTargetLine, SpellsNameLine, SpellsCalled, SpellsInside, SpellsOpened, SpellsListed}
use Rattle.load_lines.specs.declared.lead.Lead.{Lead}
use Rattle.load_lines.specs.declared.lead.Lead.TheVariants as first
use Rattle.load_lines.specs.declared.stop.Stop.{Stop}
use Rattle.load_lines.proofs.Leaves.{sign_is, line_end_lead, sign_lead, sign_there, lead_alike, by_lead}
use Rattle.load_lines.proofs.Chain.{Lacks, lift, past, past_part, valued, as_value}

-- what tokens begin with, without its value
abbrev plain : Lead → Beginning
plain first.Nothing = nothing
plain (first.Reserved k) = reserved k
plain first.Name = name
plain (first.Number v) = number
plain (first.Typed v) = typed
plain (first.Sign s) = sign s
plain first.LineEnd = line_end

-- after one token
pub behind_one : (P : Token → Type 0) (ts m : List Token) → One P ts m → m ≡ drop 1 ts
behind_one P [] m p = absurd p
behind_one P (t ∷ ts) m p = sym p.1

plain_kind : (kd : Kind) (k : Option Keyword) → kind_lead kd k ≡ plain (lead_of kd k)
plain_kind kind.Word (Some k) = refl
plain_kind kind.Word None = refl
plain_kind (kind.Number v) k = refl
plain_kind (kind.Typed v) k = refl
plain_kind (kind.Sign s) k = refl
plain_kind kind.LineEnd k = refl

module _ (text : List ℕ) where
  same_lead : (ts : List Token) → lead text ts ≡ plain (lead_at text ts)
  unfolding lead_at
  same_lead [] = refl
  same_lead (t ∷ ts) = plain_kind t.kind (keyword_of (name_of text t))

  -- the sort of instruction that begins so
  pub sorted : (l : Lead) (ts : List Token) → lead_at text ts ≡ l → sort_at (lead text ts) ≡ sort_at (plain l)
  sorted l ts e = ap sort_at (same_lead ts ∙ ap plain e)

  -- what follows the first token
  moved : (P : Token → Type 0) (Q : Front) (ts r : List Token) → (One P ⨾ Q) ts r → Q (drop 1 ts) r
  moved P Q ts r w = subst (λ (x : List Token). Q x r) (behind_one P ts w.0 w.1) w.2

  word_moved : (k : Keyword) (Q : Front) (ts r : List Token) → (TheWord text k ⨾ Q) ts r → Q (drop 1 ts) r
  word_moved k Q ts r w = moved _ Q ts r w

  -- an instruction of this sort, whose part after its first token isn't there
  sort_refused : {B : Type 0} (room : Bool) (l : Lead) (Q : B → Front) (ts : List Token) → lead_at text ts ≡ l
      → ((i : Instruction) (r : List Token) → sort_of i ≡ sort_at (plain l) → SpellsInstruction text i ts r → (b : B) × Q b (drop 1 ts) r)
      → Lacks Q (drop 1 ts) → Lacks (SpellsRoomy text room) ts
  sort_refused room l Q ts is_so back bad = λ i r w. let x = back i r (sym (instruction_sort text i ts r w.1) ∙ sorted l ts is_so) w.1 in bad x.0 r x.1

  load_refused_lacks : (room n : Bool) (ts : List Token) → lead_at text ts ≡ first.Reserved (word.Load n) → Lacks (SpellsLine text) (drop 1 ts) → Lacks (SpellsRoomy text room) ts
  load_refused_lacks room n ts l bad = sort_refused room _ (SpellsLine text) ts l back bad
    where
      back : (i : Instruction) (r : List Token) → sort_of i ≡ loads → SpellsInstruction text i ts r → (o : Operand) × SpellsLine text o (drop 1 ts) r
      back (instruction.Load m o) r s w = (o, word_moved (word.Load m) (SpellsLine text o) ts r w)
      back i r s w = absurd cc

  store_refused_lacks : (room : Bool) (k : Store) (ts : List Token) → lead_at text ts ≡ first.Reserved (word.Store k) → Lacks (SpellsTargetLine text) (drop 1 ts) → Lacks (SpellsRoomy text room) ts
  store_refused_lacks room k ts l bad = sort_refused room _ (SpellsTargetLine text) ts l back bad
    where
      back : (i : Instruction) (r : List Token) → sort_of i ≡ stores → SpellsInstruction text i ts r → (o : Operand) × SpellsTargetLine text o (drop 1 ts) r
      back (instruction.Store m o) r s w = (o, word_moved (word.Store m) (SpellsTargetLine text o) ts r w)
      back i r s w = absurd cc

  jump_refused_lacks : (room : Bool) (k : Condition) (ts : List Token) → lead_at text ts ≡ first.Reserved (word.Jump k) → Lacks (SpellsNameLine text) (drop 1 ts) → Lacks (SpellsRoomy text room) ts
  jump_refused_lacks room k ts l bad = sort_refused room _ (SpellsNameLine text) ts l back bad
    where
      back : (i : Instruction) (r : List Token) → sort_of i ≡ jumps → SpellsInstruction text i ts r → (n : Named) × SpellsNameLine text n (drop 1 ts) r
      back (instruction.Jump m n) r s w = (n, word_moved (word.Jump m) (SpellsNameLine text n) ts r w)
      back i r s w = absurd cc

  call_refused_lacks : (room : Bool) (k : Condition) (ts : List Token) → lead_at text ts ≡ first.Reserved (word.Call k) → Lacks (SpellsCalled text) (drop 1 ts) → Lacks (SpellsRoomy text room) ts
  call_refused_lacks room k ts l bad = sort_refused room _ (SpellsCalled text) ts l back bad
    where
      back : (i : Instruction) (r : List Token) → sort_of i ≡ calls → SpellsInstruction text i ts r → (x : Named × List Argument) × SpellsCalled text x (drop 1 ts) r
      back (instruction.Call m n a) r s w = ((n, a), word_moved (word.Call m) (SpellsCalled text (n, a)) ts r w)
      back i r s w = absurd cc

  not_refused_lacks : (room : Bool) (ts : List Token) → lead_at text ts ≡ first.Reserved word.Not → Lacks (λ (u : Unit {0}). TheLineEnd) (drop 1 ts) → Lacks (SpellsRoomy text room) ts
  not_refused_lacks room ts l bad = sort_refused room _ (λ (u : Unit {0}). TheLineEnd) ts l back bad
    where
      back : (i : Instruction) (r : List Token) → sort_of i ≡ negates → SpellsInstruction text i ts r → (u : Unit {0}) × TheLineEnd (drop 1 ts) r
      back instruction.Not r s w = (tt, word_moved word.Not TheLineEnd ts r w)
      back i r s w = absurd cc

  return_refused_lacks : (room : Bool) (k : Condition) (ts : List Token) → lead_at text ts ≡ first.Reserved (word.Return k) → Lacks (λ (u : Unit {0}). TheLineEnd) (drop 1 ts) → Lacks (SpellsRoomy text room) ts
  return_refused_lacks room k ts l bad = sort_refused room _ (λ (u : Unit {0}). TheLineEnd) ts l back bad
    where
      back : (i : Instruction) (r : List Token) → sort_of i ≡ leaves → SpellsInstruction text i ts r → (u : Unit {0}) × TheLineEnd (drop 1 ts) r
      back (instruction.Return m) r s w = (tt, word_moved (word.Return m) TheLineEnd ts r w)
      back i r s w = absurd cc

  evaluate_refused_lacks : (room : Bool) (ts : List Token) → lead_at text ts ≡ first.Sign CloseParenthesis → Lacks (λ (u : Unit {0}). TheLineEnd) (drop 1 ts) → Lacks (SpellsRoomy text room) ts
  evaluate_refused_lacks room ts l bad = sort_refused room _ (λ (u : Unit {0}). TheLineEnd) ts l back bad
    where
      back : (i : Instruction) (r : List Token) → sort_of i ≡ evaluates → SpellsInstruction text i ts r → (u : Unit {0}) × TheLineEnd (drop 1 ts) r
      back instruction.Evaluate r s w = (tt, moved _ TheLineEnd ts r w)
      back i r s w = absurd cc

  -- the operator is there, and what has to follow doesn't
  work_refused_lacks : (room : Bool) (op : Operator) (ts m : List Token) → SpellsOperator text op ts m → Lacks (SpellsWork text room op) m → Lacks (SpellsRoomy text room) ts
  work_refused_lacks room op ts m here bad = go
    where
      go : (i : Instruction) (r : List Token) → SpellsRoomy text room i ts r → ⊥
      go (instruction.Operate o x) r w =
          let same = (operator_one text).only o op ts w.1.0 m w.1.1 here in
          bad (instruction.Operate o x) r (same.0, subst (λ (k : List Token). SpellsLine text x k r) same.1 w.1.2)
      go (instruction.Defer o x) r w =
          let same = (operator_one text).only o op ts w.1.0 m w.1.1 here in
          bad (instruction.Defer o x) r (same.0, w.0, (subst (λ (k : List Token). SpellsWork text room o (instruction.Defer o x) k r) same.1 (refl, w.0, w.1.2)).2)
      go i r w = let a = instruction_sort text i ts r w.1 in let b = operator_sort text op ts m here in cc

  -- and does
  pub work_read : (room : Bool) (op : Operator) (ts m r : List Token) (i : Instruction) → SpellsOperator text op ts m → Reads (SpellsWork text room op) m i r → Reads (SpellsRoomy text room) ts i r
  work_read room op ts m r i here so = record { found = go i so.found }
    where
      there : (o : Operator) → o ≡ op → SpellsOperator text o ts m
      there o e = subst (λ (x : Operator). SpellsOperator text x ts m) (sym e) here

      go : (i : Instruction) → SpellsWork text room op i m r → SpellsRoomy text room i ts r
      go (instruction.Operate o x) w = (tt, (m, there o w.0, w.1))
      go (instruction.Defer o x) w = (w.1, (m, there o w.0, w.2))
      go i w = absurd w

  -- `&`, and the N after it
  pub ampersand_there : (t : Token) (ts us m : List Token) (b : Bool) → ts ≡ t ∷ us → lead_at text ts ≡ first.Sign Ampersand → Eats (TheLetterN text t.end) (drop 1 ts) b m
      → SpellsOperator text (operator.Logic Conjunction b) ts m
  unfolding lead_at
  ampersand_there t [] us m b e l n = absurd cc
  ampersand_there t (u ∷ vs) us m true e l n =
      let same : u ≡ t = cc in
      inr (sign_is u.kind _ Ampersand l, subst (λ (x : Token). TheLetterN text x.end vs m) (sym same) n)
  ampersand_there t (u ∷ vs) us m false e l n =
      let same : u ≡ t = cc in
      inr (sign_is u.kind _ Ampersand l, (sym n.0, subst (λ (x : Token). (other : List Token) → TheLetterN text x.end vs other → ⊥) (sym same) n.1))

  -- a function whose name isn't there
  function_refused_lacks : (room : Bool) (ts : List Token) → lead_at text ts ≡ first.Name → Lacks (TheName text) ts → Lacks (SpellsRoomy text room) ts
  function_refused_lacks room ts l bad = go
    where
      go : (i : Instruction) (r : List Token) → SpellsRoomy text room i ts r → ⊥
      go (instruction.Invoke f xs) r w = bad f w.1.0 w.1.1
      go i r w = let a = instruction_sort text i ts r w.1 in let b = sorted _ ts l in cc

  -- or whose operands don't
  operands_refused_lacks : (room : Bool) (ts m : List Token) (n : Named) → lead_at text ts ≡ first.Name → Reads (TheName text) ts n m → Lacks (SpellsOperands text) m → Lacks (SpellsRoomy text room) ts
  operands_refused_lacks room ts m n l here bad = go
    where
      go : (i : Instruction) (r : List Token) → SpellsRoomy text room i ts r → ⊥
      go (instruction.Invoke f xs) r w =
          let same = (the_name_one text).only f n ts w.1.0 m w.1.1 here.found in
          bad xs r (subst (λ (k : List Token). SpellsOperands text xs k r) same.1 w.1.2)
      go i r w = let a = instruction_sort text i ts r w.1 in let b = sorted _ ts l in cc

  -- operands, at least one
  pub listed_read : (ts r : List Token) (xs : List Operand) → Reads (SpellsListed text) ts xs r → Reads (SpellsOperands text) ts xs r
  listed_read ts r [] here = absurd here.found
  listed_read ts r (x ∷ xs) here = record { found = here.found }

  listed_refused_lacks : (ts : List Token) → (lead_at text ts ≡ first.LineEnd → ⊥) → Lacks (SpellsListed text) ts → Lacks (SpellsOperands text) ts
  listed_refused_lacks ts missing bad = go
    where
      go : (xs : List Operand) (r : List Token) → SpellsOperands text xs ts r → ⊥
      go [] r w = missing (line_end_lead text ts r w)
      go (x ∷ xs) r w = bad (x ∷ xs) r w

  -- arguments begin with a word, and with no sign
  argument_no_sign : (s : Sign) (a : Argument) (ts r q : List Token) → SpellsArgument text a ts r → TheSign s ts q → ⊥
  argument_no_sign s a [] r q w p = p
  argument_no_sign s (argument.Input n o) (t ∷ ts) r q w p = let x = w.1.2.0.0 in cc (x, p.0)
  argument_no_sign s (argument.Output n o) (t ∷ ts) r q w p = let x = w.1.2.0.0 in cc (x, p.0)

  inside_no_sign : (s : Sign) (xs : List Argument) (ts r q : List Token) → SpellsInside text xs ts r → TheSign s ts q → ⊥
  inside_no_sign s [] ts r q w p = w
  inside_no_sign s (x ∷ []) ts r q w p = argument_no_sign s x ts w.0 q w.1 p
  inside_no_sign s (x ∷ y ∷ ys) ts r q w p = argument_no_sign s x ts w.0 q w.1 p

  inside_one : IsDeterministic (SpellsInside text)
  inside_one = listed loose (argument_one text) (sign_sure CloseParenthesis) (record { never = λ a b ts r s p q. cc (sign_lead text CloseParenthesis ts r p, sign_lead text Comma ts s q) })

  -- no parenthesis opens, and the line doesn't end
  none_opens_lacks : (ts : List Token) → ((m : List Token) → TheSign OpenParenthesis ts m → ⊥) → Lacks (λ (u : Unit {0}). TheLineEnd) ts → Lacks (SpellsArguments text) ts
  none_opens_lacks ts missing bad = go
    where
      go : (xs : List Argument) (r : List Token) → SpellsArguments text xs ts r → ⊥
      go [] r (inl p) = bad tt r p
      go [] r (inr p) = missing p.0 p.1
      go (x ∷ xs) r w = missing w.0 w.1

  -- after the parenthesis that opens
  opened : (Q : Front) (ts m r : List Token) → TheSign OpenParenthesis ts m → (TheSign OpenParenthesis ⋯ Q) ts r → Q (skip_line_ends m) r
  opened Q ts m r there w = subst (λ (k : List Token). Q (skip_line_ends k) r) ((sign_sure OpenParenthesis).only ts w.0 m w.1 there) w.2

  -- a parenthesis opens, and nothing that may follow it is there
  opened_refused_lacks : (ts m : List Token) → TheSign OpenParenthesis ts m → Lacks (SpellsOpened text) (skip_line_ends m) → Lacks (SpellsArguments text) ts
  opened_refused_lacks ts m there bad = go
    where
      go : (xs : List Argument) (r : List Token) → SpellsArguments text xs ts r → ⊥
      go [] r (inl p) = let a = line_end_lead text ts r p in let b = sign_lead text OpenParenthesis ts m there in cc
      go [] r (inr p) = bad [] r (opened (SpellsOpened text []) ts m r there p)
      go (x ∷ xs) r w = bad (x ∷ xs) r (opened (SpellsOpened text (x ∷ xs)) ts m r there w)

  -- and does
  pub arguments_read : (ts m r : List Token) (ys : List Argument) → TheSign OpenParenthesis ts m → Reads (SpellsOpened text) (skip_line_ends m) ys r → Reads (SpellsArguments text) ts ys r
  arguments_read ts m r [] there here = record { found = inr (m, there, here.found) }
  arguments_read ts m r (y ∷ ys) there here = record { found = (m, there, here.found) }

  -- a parenthesis closes, and the line doesn't end
  closed_refused_lacks : (ts k : List Token) → TheSign CloseParenthesis ts k → Lacks (λ (u : Unit {0}). TheLineEnd) k → Lacks (SpellsOpened text) ts
  closed_refused_lacks ts k close bad = go
    where
      go : (xs : List Argument) (r : List Token) → SpellsOpened text xs ts r → ⊥
      go [] r w = bad tt r (subst (λ (x : List Token). TheLineEnd x r) ((sign_sure CloseParenthesis).only ts w.0 k w.1 close) w.2)
      go (x ∷ xs) r w = inside_no_sign CloseParenthesis (x ∷ xs) ts w.0 k w.1 close

  -- none closes, and no argument follows
  inside_refused_lacks : (ts : List Token) → ((k : List Token) → TheSign CloseParenthesis ts k → ⊥) → Lacks (SpellsInside text) ts → Lacks (SpellsOpened text) ts
  inside_refused_lacks ts missing bad = go
    where
      go : (xs : List Argument) (r : List Token) → SpellsOpened text xs ts r → ⊥
      go [] r w = missing w.0 w.1
      go (x ∷ xs) r w = bad (x ∷ xs) w.0 w.1

  -- arguments are there, and the line doesn't end
  unended_refused_lacks : (ts k : List Token) (ys : List Argument) → ((k : List Token) → TheSign CloseParenthesis ts k → ⊥) → Reads (SpellsInside text) ts ys k → Lacks (λ (u : Unit {0}). TheLineEnd) k → Lacks (SpellsOpened text) ts
  unended_refused_lacks ts k ys missing here bad = go
    where
      go : (xs : List Argument) (r : List Token) → SpellsOpened text xs ts r → ⊥
      go [] r w = missing w.0 w.1
      go (x ∷ xs) r w =
          let same = inside_one.only (x ∷ xs) ys ts w.0 k w.1 here.found in
          bad tt r (subst (λ (j : List Token). TheLineEnd j r) same.1 w.2)

  -- and does
  pub inside_read : (ts k r : List Token) (ys : List Argument) → Reads (SpellsInside text) ts ys k → Stands TheLineEnd k r → Reads (SpellsOpened text) ts ys r
  inside_read ts k r [] here ended = absurd here.found
  inside_read ts k r (y ∷ ys) here ended = record { found = (k, here.found, ended.found) }

  -- no instruction begins so
  none_refused_lacks : (room : Bool) (l : Lead) (ts : List Token) → lead_at text ts ≡ l → sort_at (plain l) ≡ none → Lacks (SpellsRoomy text room) ts
  none_refused_lacks room l ts is_so out = λ i r w. go i (sym (instruction_sort text i ts r w.1) ∙ sorted l ts is_so ∙ out)
    where
      go : (i : Instruction) → sort_of i ≡ none → ⊥
      go (instruction.Load negated operand) s = cc
      go i s = cc

-- after one token
pub next_gap : IsGap (λ ts. drop 1 ts)
next_gap = record { ends = ends; alike = go }
  where
    ends : (ts : List Token) → IsEndOf (drop 1 ts) ts
    ends [] = refl
    ends (t ∷ ts) = inr (end_self ts)

    go : (text other : List ℕ) (back ts us : List Token) → AreAlike text other back ts us → length back ≤ length (drop 1 ts) → AreAlike text other back (drop 1 ts) (drop 1 us)
    go text other back [] us a l = (a.0, ap (drop 1) a.1)
    go text other back (t ∷ ts) us a l = subst (λ x. AreAlike text other back ts (drop 1 x)) (sym a.1) (behind a.3)
      where
        behind : ((back ≡ t ∷ ts) ⊎ AreAlike text other back ts a.0) → AreAlike text other back ts a.0
        behind (inl e) = let same = ap length e in absurd (omega (arith, same, l))
        behind (inr b) = b

-- arguments after the parenthesis that opens
inside_local : IsLocal tight SpellsInside
inside_local = record { one = λ text. inside_one text; carries = inside_carries }

module _ (text : List ℕ) where
  -- what follows the first token is refused
  behind_word : {A : Type 0} {P : List ℕ → A → Front} (room : Bool) (ts : List Token) (e : Stop) → ((other : List ℕ) (us : List Token) → lead_at other us ≡ lead_at text ts → Lacks (P other) (drop 1 us) → Lacks (SpellsRoomy other room) us)
      → Refuses P text (drop 1 ts) e → Refuses (λ text. SpellsRoomy text room) text ts e
  behind_word room ts e f bad = past next_gap (λ other us back a gone. f other us (lead_alike text other back ts us a) gone) bad

  -- what follows the word of an elementary type
  pub scalar_refused : (ts : List Token) (e : Stop) → Refuses SpellsSubrange text (drop 1 ts) e → Refuses SpellsScalar text ts e
  scalar_refused ts e bad = past next_gap (λ other us back a gone s r w. gone s.subrange r (word_moved other (word.Elementary s.elementary) (SpellsSubrange other s.subrange) us r w)) bad

  -- a parenthesis opens after any line ends, and what follows are no limits
  pub subrange_refused : (ts k : List Token) (e : Stop) → TheSign OpenParenthesis (skip_line_ends ts) k
      → Refuses (λ text (s : Subrange). TheSign OpenParenthesis ⋯ ANumber s.lower ⋯ TheSign Range ⋯ ANumber s.upper ⋯ TheSign CloseParenthesis) text (skip_line_ends ts) e → Refuses SpellsSubrange text ts e
  subrange_refused ts k e there bad = lift (loose_gap.ends ts) (λ back gone. record {
    inside = end_of_end back (skip_line_ends ts) ts (loose_gap.ends ts) gone.inside;
    never = λ other us a x r w.
        let b = loose_gap.alike text other back ts us a (end_length back (skip_line_ends ts) gone.inside) in
        go back gone other us b (sign_there other OpenParenthesis (skip_line_ends us) (lead_alike text other back (skip_line_ends ts) (skip_line_ends us) b ∙ sign_lead text OpenParenthesis (skip_line_ends ts) k there)) x r w;
  }) bad
    where
      go : (back : List Token) → GoesOnNoMore (λ text (s : Subrange). TheSign OpenParenthesis ⋯ ANumber s.lower ⋯ TheSign Range ⋯ ANumber s.upper ⋯ TheSign CloseParenthesis) text (skip_line_ends ts) back
          → (other : List ℕ) (us : List Token) → AreAlike text other back (skip_line_ends ts) (skip_line_ends us) → TheSign OpenParenthesis (skip_line_ends us) (drop 1 (skip_line_ends us)) → (x : Option Subrange) (r : List Token)
          → SpellsSubrange other x us r → ⊥
      go back gone other us b here None r w = w.1 (drop 1 (skip_line_ends us)) here
      go back gone other us b here (Some s) r w = gone.never other (skip_line_ends us) b s r w

  pub load_refused : (room n : Bool) (ts : List Token) (e : Stop) → lead_at text ts ≡ first.Reserved (word.Load n) → Refuses SpellsLine text (drop 1 ts) e → Refuses (λ text. SpellsRoomy text room) text ts e
  load_refused room n ts e l bad = behind_word room ts e (λ other us same gone. load_refused_lacks other room n us (same ∙ l) gone) bad

  pub store_refused : (room : Bool) (k : Store) (ts : List Token) (e : Stop) → lead_at text ts ≡ first.Reserved (word.Store k) → Refuses SpellsTargetLine text (drop 1 ts) e → Refuses (λ text. SpellsRoomy text room) text ts e
  store_refused room k ts e l bad = behind_word room ts e (λ other us same gone. store_refused_lacks other room k us (same ∙ l) gone) bad

  pub jump_refused : (room : Bool) (k : Condition) (ts : List Token) (e : Stop) → lead_at text ts ≡ first.Reserved (word.Jump k) → Refuses SpellsNameLine text (drop 1 ts) e → Refuses (λ text. SpellsRoomy text room) text ts e
  jump_refused room k ts e l bad = behind_word room ts e (λ other us same gone. jump_refused_lacks other room k us (same ∙ l) gone) bad

  pub call_refused : (room : Bool) (k : Condition) (ts : List Token) (e : Stop) → lead_at text ts ≡ first.Reserved (word.Call k) → Refuses SpellsCalled text (drop 1 ts) e → Refuses (λ text. SpellsRoomy text room) text ts e
  call_refused room k ts e l bad = behind_word room ts e (λ other us same gone. call_refused_lacks other room k us (same ∙ l) gone) bad

  pub not_refused : (room : Bool) (ts : List Token) (e : Stop) → lead_at text ts ≡ first.Reserved word.Not → Misses (λ text. TheLineEnd) text (drop 1 ts) e → Refuses (λ text. SpellsRoomy text room) text ts e
  not_refused room ts e l bad = behind_word room ts e (λ other us same gone. not_refused_lacks other room us (same ∙ l) gone) (as_value bad)

  pub return_refused : (room : Bool) (k : Condition) (ts : List Token) (e : Stop) → lead_at text ts ≡ first.Reserved (word.Return k) → Misses (λ text. TheLineEnd) text (drop 1 ts) e → Refuses (λ text. SpellsRoomy text room) text ts e
  return_refused room k ts e l bad = behind_word room ts e (λ other us same gone. return_refused_lacks other room k us (same ∙ l) gone) (as_value bad)

  pub evaluate_refused : (room : Bool) (ts : List Token) (e : Stop) → lead_at text ts ≡ first.Sign CloseParenthesis → Misses (λ text. TheLineEnd) text (drop 1 ts) e → Refuses (λ text. SpellsRoomy text room) text ts e
  evaluate_refused room ts e l bad = behind_word room ts e (λ other us same gone. evaluate_refused_lacks other room us (same ∙ l) gone) (as_value bad)

  -- the operator is there, and what has to follow doesn't
  pub work_refused : (room : Bool) (op : Operator) (ts m : List Token) (e : Stop) → SpellsOperator text op ts m → Refuses (λ text. SpellsWork text room op) text m e → Refuses (λ text. SpellsRoomy text room) text ts e
  work_refused room op ts m e here bad = past_part tight_gap operator_local here (λ other us back n a there gone. work_refused_lacks other room op us n there gone) bad

  -- a function whose name isn't there
  pub function_refused : (room : Bool) (ts : List Token) (e : Stop) → lead_at text ts ≡ first.Name → Refuses TheName text ts e → Refuses (λ text. SpellsRoomy text room) text ts e
  function_refused room ts e l bad = past tight_gap (λ other us back a gone. function_refused_lacks other room us (lead_alike text other back ts us a ∙ l) gone) bad

  -- or whose operands don't
  pub operands_refused : (room : Bool) (ts m : List Token) (n : Named) (e : Stop) → lead_at text ts ≡ first.Name → Reads (TheName text) ts n m → Refuses SpellsOperands text m e → Refuses (λ text. SpellsRoomy text room) text ts e
  operands_refused room ts m n e l here bad =
      past_part tight_gap the_name_local here.found (λ other us back k a there gone. operands_refused_lacks other room us k n (lead_alike text other back ts us a ∙ l) (record { found = there }) gone) bad

  pub listed_refused : (ts : List Token) (e : Stop) → (lead_at text ts ≡ first.LineEnd → ⊥) → Refuses SpellsListed text ts e → Refuses SpellsOperands text ts e
  listed_refused ts e missing bad = past tight_gap (λ other us back a gone. listed_refused_lacks other us (λ l. missing (sym (lead_alike text other back ts us a) ∙ l)) gone) bad

  -- no parenthesis opens, and the line doesn't end
  pub none_opens : (ts : List Token) (e : Stop) → ((m : List Token) → TheSign OpenParenthesis ts m → ⊥) → Misses (λ text. TheLineEnd) text ts e → Refuses SpellsArguments text ts e
  none_opens ts e missing bad = past tight_gap (λ other us back a gone. none_opens_lacks other us (λ m w. (sign_told OpenParenthesis).still text other back ts us a missing m w) gone) (as_value bad)

  -- a parenthesis opens, and nothing that may follow it is there
  pub opened_refused : (ts m : List Token) (e : Stop) → TheSign OpenParenthesis ts m → Refuses SpellsOpened text (skip_line_ends m) e → Refuses SpellsArguments text ts e
  opened_refused ts m e there bad = past_part loose_gap (valued (sign_local OpenParenthesis)) there (λ other us back n a here gone. opened_refused_lacks other us n here gone) bad

  -- a parenthesis closes, and the line doesn't end
  pub closed_refused : (ts k : List Token) (e : Stop) → TheSign CloseParenthesis ts k → Misses (λ text. TheLineEnd) text k e → Refuses SpellsOpened text ts e
  closed_refused ts k e close bad = past_part tight_gap (valued (sign_local CloseParenthesis)) close (λ other us back n a here gone. closed_refused_lacks other us n here gone) (as_value bad)

  -- none closes, and no argument follows
  pub inside_refused : (ts : List Token) (e : Stop) → ((k : List Token) → TheSign CloseParenthesis ts k → ⊥) → Refuses SpellsInside text ts e → Refuses SpellsOpened text ts e
  inside_refused ts e missing bad = past tight_gap (λ other us back a gone. inside_refused_lacks other us (λ m w. (sign_told CloseParenthesis).still text other back ts us a missing m w) gone) bad

  -- arguments are there, and the line doesn't end
  pub unended_refused : (ts k : List Token) (ys : List Argument) (e : Stop) → ((k : List Token) → TheSign CloseParenthesis ts k → ⊥) → Reads (SpellsInside text) ts ys k → Misses (λ text. TheLineEnd) text k e → Refuses SpellsOpened text ts e
  unended_refused ts k ys e missing here bad =
      past_part tight_gap inside_local here.found (λ other us back n a there gone.
      unended_refused_lacks other us n ys (λ m w. (sign_told CloseParenthesis).still text other back ts us a missing m w) (record { found = there }) gone) (as_value bad)

  -- no instruction begins so
  pub none_refused : (room : Bool) (l : Lead) (ts : List Token) (e : Stop) → lead_at text ts ≡ l → sort_at (plain l) ≡ none → e ≡ fault_at Unexpected ts → Refuses (λ text. SpellsRoomy text room) text ts e
  none_refused room l ts e is_so out here = by_lead Unexpected refl (λ other us same x r w. none_refused_lacks other room l us (same ∙ is_so) out x r w) here

-- a word that begins no instruction
pub no_word : (k : Keyword) → ((n : Bool) → k ≡ word.Load n → ⊥) → ((s : Store) → k ≡ word.Store s → ⊥) → (k ≡ word.Not → ⊥) → ((o : Operator) → k ≡ word.Operate o → ⊥) → ((c : Condition) → k ≡ word.Jump c → ⊥)
    → ((c : Condition) → k ≡ word.Return c → ⊥) → ((c : Condition) → k ≡ word.Call c → ⊥) → sort_at (reserved k) ≡ none
no_word (word.Load n) a b c d e f g = absurd (a n refl)
no_word (word.Store s) a b c d e f g = absurd (b s refl)
no_word word.Not a b c d e f g = absurd (c refl)
no_word (word.Operate o) a b c d e f g = absurd (d o refl)
no_word (word.Jump x) a b c d e f g = absurd (e x refl)
no_word (word.Return x) a b c d e f g = absurd (f x refl)
no_word (word.Call x) a b c d e f g = absurd (g x refl)
no_word k a b c d e f g = refl

-- a sign that begins none
pub no_sign : (s : Sign) → (s ≡ Ampersand → ⊥) → (s ≡ CloseParenthesis → ⊥) → sort_at (sign s) ≡ none
no_sign Ampersand a b = absurd (a refl)
no_sign CloseParenthesis a b = absurd (b refl)
no_sign s a b = refl

-- neither a name nor a word nor a sign
pub no_other : (l : Lead) → (l ≡ first.Name → ⊥) → ((k : Keyword) → l ≡ first.Reserved k → ⊥) → ((s : Sign) → l ≡ first.Sign s → ⊥) → sort_at (plain l) ≡ none
no_other first.Name a b c = absurd (a refl)
no_other (first.Reserved k) a b c = absurd (b k refl)
no_other (first.Sign s) a b c = absurd (c s refl)
no_other l a b c = refl
