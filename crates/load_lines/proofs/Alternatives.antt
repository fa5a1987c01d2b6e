-- Alternatives, told apart by the first token.
use Rattle.std.proofs.Common.{◌≡◌, ℕ, Bool, true, false, List, drop, refl, sym, ◌∙◌, subst}
use Rattle.il_syntax.specs.declared.token.Token.{Token}
use Rattle.il_syntax.specs.declared.token.Sign.TheVariants.{Assign, Arrow, Range, Colon, Comma, OpenParenthesis, OpenBracket, Dot}
use Rattle.il_syntax.specs.declared.keyword.Keyword.TheVariants as word
use Rattle.il_syntax.specs.declared.tree.Named.{Named}
use Rattle.il_syntax.specs.declared.tree.Elementary.{Elementary}
use Rattle.il_syntax.specs.declared.tree.Subrange.{Subrange}
use Rattle.il_syntax.specs.declared.tree.Form.{Form as TypeForm}
use Rattle.il_syntax.specs.declared.tree.Form.TheVariants as form
use Rattle.il_syntax.specs.declared.tree.Literal.{Literal}
use Rattle.il_syntax.specs.declared.tree.Literal.TheVariants as literal
use Rattle.il_syntax.specs.declared.tree.Reference.{Reference}
use Rattle.il_syntax.specs.declared.tree.Reference.TheVariants as reference
use Rattle.il_syntax.specs.Grammar.{Front, Gap, skip_line_ends, tight, loose, ◌⋯◌, Listed, TheSign, TheName, ANumber, AName, AWord, ALiteral, SpellsScalar, SpellsForm, SpellsReference, SpellsFirst, SpellsOperand, SpellsArgument}
use Rattle.il_syntax.specs.declared.tree.Argument.{Argument}
use Rattle.il_syntax.specs.declared.tree.Argument.TheVariants as argument
use Rattle.il_syntax.specs.declared.token.Sign.{Sign}
use Rattle.il_syntax.specs.declared.tree.Operator.{Operator}
use Rattle.il_syntax.specs.declared.tree.Instruction.{Instruction}
use Rattle.il_syntax.specs.declared.tree.Instruction.TheVariants as instruction
use Rattle.il_syntax_laws.specs.One.{IsDeterministic}
use Rattle.il_syntax_laws.proofs.Combinators.{chain, behind, listed, before, through, at_place}
use Rattle.il_syntax_laws.proofs.Operands.{operand_one}
use Rattle.il_syntax_laws.proofs.Leads.{at_holds, the_name_one, name_one, number_one, any_word_one, sign_sure, line_end_sure}
use Rattle.load_lines.specs.Lead.{lead_at}
use Rattle.il_syntax_laws.specs.Alike.{IsGap, IsLocal}
use Rattle.il_syntax_laws.proofs.Alike.{end_self, tight_gap, loose_gap, follows, placed}
use Rattle.il_syntax_laws.proofs.Local.{number_carries, sign_carries, names_carries, operand_carries, line_end_carries, any_word_carries, sign_local, sign_told, name_local}
use Rattle.load_lines.specs.declared.tokens.Gap.{Gap as GapKind}
use Rattle.load_lines.specs.declared.tokens.Gap.TheVariants as gap
use Rattle.load_lines.specs.declared.stop.SyntaxError.TheVariants.{Unexpected, TooDeep}
use Rattle.load_lines.specs.Reads.{fault_at, gap_of, Reads, Refuses, SpellsRange, SpellsArray, SpellsLine, SpellsWork, AnyNamed}
use Rattle.load_lines.specs.Operands.{SpellsElement, SpellsSelector, SpellsPassed, reference_of, argument_of}
use Rattle.load_lines.specs.declared.operand.Selector.{Selector}
use Rattle.load_lines.specs.declared.operand.Selector.TheVariants as selector
use Rattle.load_lines.specs.declared.operand.Passed.{Passed}
use Rattle.load_lines.specs.declared.operand.Passed.TheVariants as passed
use Rattle.load_lines.specs.declared.lead.Lead.{Lead}
use Rattle.load_lines.specs.declared.lead.Lead.TheVariants as lead
use Rattle.load_lines.specs.declared.stop.Stop.{Stop}
use Rattle.load_lines.proofs.Leaves.{word_lead, name_lead, sign_lead, number_lead, typed_lead, sign_there, lead_alike, by_lead}
use Rattle.load_lines.proofs.Chain.{Lacks, lift, past, past_part, valued}

-- two numbers with `..` between them are one range
pub range_one : IsDeterministic SpellsRange
range_one = through (λ s. (s.lower, s.upper)) (λ a b e i. record { lower = (e i).0; upper = (e i).1 }) (chain loose number_one (behind loose (sign_sure Range) number_one))

-- and are in alike tokens
pub range_local : IsLocal tight (λ text. SpellsRange)
range_local = record { one = λ text. range_one; carries = λ s. follows loose_gap tight_gap (number_carries s.lower) (follows loose_gap tight_gap (sign_carries Range) (number_carries s.upper)) }

-- a range, and what has to follow, as one row
pub range_refused : {B : Type 0} {text : List ℕ} {ts : List Token} {e : Stop} (f : B → Subrange) (Q : List ℕ → B → Front) → Refuses (λ text b. SpellsRange (f b) ⋯ Q text b) text ts e
    → Refuses (λ text b. ANumber (f b).lower ⋯ TheSign Range ⋯ ANumber (f b).upper ⋯ Q text b) text ts e
range_refused f Q bad = lift (end_self _) (λ back gone. record {
  inside = gone.inside;
  never = λ other us a b r w. gone.never other us a b r (w.2.2.0, (w.0, w.1, (w.2.0, w.2.1, w.2.2.1)), w.2.2.2);
}) bad

module _ (text : List ℕ) where
  -- the names of a declaration are one
  pub names_one : IsDeterministic (λ (ns : List Named). Listed loose (TheName text) ns (TheSign Colon))
  names_one = listed loose (the_name_one text) (sign_sure Colon) (record { never = λ a b ts r s p q. cc (sign_lead text Colon ts r p, sign_lead text Comma ts s q) })

  -- what a type begins with
  abbrev form_begins : TypeForm → Lead
  form_begins (form.Scalar s) = lead.Reserved (word.Elementary s.elementary)
  form_begins (form.Array bounds element) = lead.Reserved word.Array
  form_begins (form.Block n) = lead.Name

  form_lead : (f : TypeForm) (ts r : List Token) → SpellsForm text f ts r → lead_at text ts ≡ form_begins f
  form_lead (form.Scalar s) ts r p = word_lead text (word.Elementary s.elementary) ts p.0 p.1
  form_lead (form.Array bounds element) ts r p = word_lead text word.Array ts p.0 p.1
  form_lead (form.Block n) ts r p = name_lead text n ts r p

  -- a type that begins as a scalar is one
  scalar_form_lacks : (ts : List Token) (el : Elementary) → lead_at text ts ≡ lead.Reserved (word.Elementary el) → Lacks (SpellsScalar text) ts → Lacks (SpellsForm text) ts
  scalar_form_lacks ts el l bad = go
    where
      go : (f : TypeForm) (r : List Token) → SpellsForm text f ts r → ⊥
      go (form.Scalar s) r w = bad s r w
      go (form.Array b s) r w = let x = form_lead (form.Array b s) ts r w in cc
      go (form.Block n) r w = let x = form_lead (form.Block n) ts r w in cc

  -- a type that begins as an array is one
  array_form_lacks : (ts : List Token) → lead_at text ts ≡ lead.Reserved word.Array → Lacks (SpellsArray text) ts → Lacks (SpellsForm text) ts
  array_form_lacks ts l bad = go
    where
      go : (f : TypeForm) (r : List Token) → SpellsForm text f ts r → ⊥
      go (form.Scalar s) r w = let x = form_lead (form.Scalar s) ts r w in cc
      go (form.Array b s) r w = bad (b, s) r w
      go (form.Block n) r w = let x = form_lead (form.Block n) ts r w in cc

  -- what a literal begins with
  abbrev literal_begins : Literal → Lead
  literal_begins (literal.Truth truth) = lead.Reserved (word.Truth truth)
  literal_begins (literal.Bare value) = lead.Number value
  literal_begins (literal.Whole type value) = lead.Typed (literal.Whole type value)
  literal_begins (literal.Time value) = lead.Typed (literal.Time value)

  literal_lead : (l : Literal) (ts r : List Token) → ALiteral text l ts r → lead_at text ts ≡ literal_begins l
  literal_lead (literal.Truth truth) ts r p = word_lead text (word.Truth truth) ts r p
  literal_lead (literal.Bare value) ts r p = number_lead text value ts r p
  literal_lead (literal.Whole type value) ts r p = typed_lead text (literal.Whole type value) ts r p
  literal_lead (literal.Time value) ts r p = typed_lead text (literal.Time value) ts r p

  not_literal : (l : Literal) (ts r : List Token) → lead_at text ts ≡ lead.Name → ALiteral text l ts r → ⊥
  not_literal (literal.Truth truth) ts r e p = let x = literal_lead (literal.Truth truth) ts r p in cc
  not_literal (literal.Bare value) ts r e p = let x = literal_lead (literal.Bare value) ts r p in cc
  not_literal (literal.Whole type value) ts r e p = let x = literal_lead (literal.Whole type value) ts r p in cc
  not_literal (literal.Time value) ts r e p = let x = literal_lead (literal.Time value) ts r p in cc

  -- what doesn't begin with a name is a literal
  literal_reference_lacks : (gap : Gap) (ts : List Token) → (lead_at text ts ≡ lead.Name → ⊥) → Lacks (ALiteral text) ts → Lacks (SpellsReference text gap) ts
  literal_reference_lacks gap ts other bad = go
    where
      go : (x : Reference) (r : List Token) → SpellsReference text gap x ts r → ⊥
      go (reference.Literal l) r w = bad l r w
      go (reference.Variable n) r w = other (name_lead text n ts w.0 w.1)
      go (reference.Element n i) r w = other (name_lead text n ts w.0 w.1)
      go (reference.Member n m) r w = other (name_lead text n ts w.0 w.1)

  -- a bracket follows a name
  bracket_refused_lacks : (gap : Gap) (ts k : List Token) → TheSign OpenBracket ts k → Lacks (SpellsElement text gap) (gap k) → Lacks (SpellsSelector text gap) ts
  bracket_refused_lacks gap ts k there bad = go
    where
      go : (x : Selector) (r : List Token) → SpellsSelector text gap x ts r → ⊥
      go selector.Whole r w = w.1.1 k there
      go (selector.Element i) r w =
          let same = (sign_sure OpenBracket).only ts w.0 k w.1 there in
          bad i r (subst (λ (x : List Token). SpellsElement text gap i (gap x) r) same w.2)
      go (selector.Member m) r w =
          let x = sign_lead text Dot ts w.0 w.1 in
          let y = sign_lead text OpenBracket ts k there in
          cc

  -- a dot does
  dot_refused_lacks : (gap : Gap) (ts k : List Token) → ((m : List Token) → TheSign OpenBracket ts m → ⊥) → TheSign Dot ts k → Lacks (AWord text) (gap k) → Lacks (SpellsSelector text gap) ts
  dot_refused_lacks gap ts k none there bad = go
    where
      go : (x : Selector) (r : List Token) → SpellsSelector text gap x ts r → ⊥
      go selector.Whole r w = w.2.1 k (subst (λ (x : List Token). TheSign Dot x k) w.1.0 there)
      go (selector.Element i) r w = none w.0 w.1
      go (selector.Member m) r w =
          let same = (sign_sure Dot).only ts w.0 k w.1 there in
          bad m r (subst (λ (x : List Token). AWord text m (gap x) r) same w.2)

  -- no name is there
  no_name_lacks : (gap : Gap) (ts : List Token) → lead_at text ts ≡ lead.Name → Lacks (AName text) ts → Lacks (SpellsReference text gap) ts
  no_name_lacks gap ts l bad = go
    where
      go : (x : Reference) (r : List Token) → SpellsReference text gap x ts r → ⊥
      go (reference.Literal a) r w = not_literal a ts r l w
      go (reference.Variable n) r w = bad n w.0 w.1
      go (reference.Element n i) r w = bad n w.0 w.1
      go (reference.Member n m) r w = bad n w.0 w.1

  -- a name is there, and nothing that may follow it
  selector_refused_lacks : (gap : Gap) (ts m : List Token) (n : List ℕ) → Reads (AName text) ts n m → Lacks (SpellsSelector text gap) (gap m) → Lacks (SpellsReference text gap) ts
  selector_refused_lacks gap ts m n here bad = go
    where
      moved : (s : Selector) (a : List ℕ) (j r : List Token) → AName text a ts j → SpellsSelector text gap s (gap j) r → SpellsSelector text gap s (gap m) r
      moved s a j r p w = subst (λ (x : List Token). SpellsSelector text gap s (gap x) r) ((name_one text).only a n ts j m p here.found).1 w

      go : (x : Reference) (r : List Token) → SpellsReference text gap x ts r → ⊥
      go (reference.Literal l) r w = not_literal l ts r (name_lead text n ts m here.found) w
      go (reference.Variable a) r w = bad selector.Whole r (moved selector.Whole a w.0 r w.1 w.2)
      go (reference.Element a i) r w = bad (selector.Element i) r (moved (selector.Element i) a w.0 r w.1 w.2)
      go (reference.Member a b) r w = bad (selector.Member b) r (moved (selector.Member b) a w.0 r w.1 w.2)

  -- a name, and what follows it
  pub selected_read : (gap : Gap) (ts m r : List Token) (n : List ℕ) (s : Selector) → Reads (AName text) ts n m → Reads (SpellsSelector text gap) (gap m) s r → Reads (SpellsReference text gap) ts (reference_of n s) r
  selected_read gap ts m r n selector.Whole here behind = record { found = (m, here.found, behind.found) }
  selected_read gap ts m r n (selector.Element i) here behind = record { found = (m, here.found, behind.found) }
  selected_read gap ts m r n (selector.Member b) here behind = record { found = (m, here.found, behind.found) }

  -- a line is one
  line_one : IsDeterministic (SpellsLine text)
  line_one = before tight (operand_one text tight) line_end_sure

  literal_no_sign : (l : Literal) (s : Sign) (ts r : List Token) → lead_at text ts ≡ lead.Sign s → ALiteral text l ts r → ⊥
  literal_no_sign (literal.Truth truth) s ts r e p = let x = literal_lead (literal.Truth truth) ts r p in cc
  literal_no_sign (literal.Bare value) s ts r e p = let x = literal_lead (literal.Bare value) ts r p in cc
  literal_no_sign (literal.Whole type value) s ts r e p = let x = literal_lead (literal.Whole type value) ts r p in cc
  literal_no_sign (literal.Time value) s ts r e p = let x = literal_lead (literal.Time value) ts r p in cc

  -- no operand begins with a sign
  no_sign : (gap : Gap) (x : Reference) (s : Sign) (ts r : List Token) → lead_at text ts ≡ lead.Sign s → SpellsReference text gap x ts r → ⊥
  no_sign gap (reference.Literal l) s ts r e p = literal_no_sign l s ts r e p
  no_sign gap (reference.Variable n) s ts r e p = let x = name_lead text n ts p.0 p.1 in cc
  no_sign gap (reference.Element n i) s ts r e p = let x = name_lead text n ts p.0 p.1 in cc
  no_sign gap (reference.Member n m) s ts r e p = let x = name_lead text n ts p.0 p.1 in cc

  -- a parenthesis that opens after an operator
  opened_refused_lacks : (room : Bool) (op : Operator) (ts m : List Token) → TheSign OpenParenthesis ts m → Lacks (SpellsFirst text) m → Lacks (SpellsWork text room op) ts
  opened_refused_lacks room op ts m there bad = go
    where
      go : (i : Instruction) (r : List Token) → SpellsWork text room op i ts r → ⊥
      go (instruction.Operate o operand) r w =
          no_sign tight operand.reference OpenParenthesis ts w.1.0 (sign_lead text OpenParenthesis ts m there)
          (at_holds text (SpellsReference text tight operand.reference) operand.place ts w.1.0 w.1.1)
      go (instruction.Defer o first) r w =
          let same = (sign_sure OpenParenthesis).only ts w.2.0 m w.2.1 there in
          bad first r (subst (λ (x : List Token). SpellsFirst text first x r) same w.2.2)
      go _ r w = w

  -- and has no room
  too_deep_lacks : (room : Bool) (op : Operator) (ts m : List Token) → TheSign OpenParenthesis ts m → room ≡ false → Lacks (SpellsWork text room op) ts
  too_deep_lacks room op ts m there none = go
    where
      go : (i : Instruction) (r : List Token) → SpellsWork text room op i ts r → ⊥
      go (instruction.Operate o operand) r w =
          no_sign tight operand.reference OpenParenthesis ts w.1.0 (sign_lead text OpenParenthesis ts m there)
          (at_holds text (SpellsReference text tight operand.reference) operand.place ts w.1.0 w.1.1)
      go (instruction.Defer o first) r w = let yes : room ≡ true = w.1 in cc
      go _ r w = w

  -- and where none opens
  operand_refused_lacks : (room : Bool) (op : Operator) (ts : List Token) → ((m : List Token) → TheSign OpenParenthesis ts m → ⊥) → Lacks (SpellsLine text) ts → Lacks (SpellsWork text room op) ts
  operand_refused_lacks room op ts none bad = go
    where
      go : (i : Instruction) (r : List Token) → SpellsWork text room op i ts r → ⊥
      go (instruction.Operate o operand) r w = bad operand r w.1
      go (instruction.Defer o first) r w = none w.2.0 w.2.1
      go _ r w = w

  -- a word at its place is one
  pub any_named_one : IsDeterministic (AnyNamed text)
  any_named_one = through (λ n. (n.place, n.name)) (λ x y e i. record { place = (e i).0; name = (e i).1 }) (at_place (any_word_one text))

  -- a word that is none
  word_refused_lacks : (ts : List Token) → Lacks (AnyNamed text) ts → Lacks (SpellsArgument text) ts
  word_refused_lacks ts bad = go
    where
      go : (x : Argument) (r : List Token) → SpellsArgument text x ts r → ⊥
      go (argument.Input n o) r w = bad n w.0 w.1
      go (argument.Output n t) r w = bad n w.0 w.1

  -- after `:=` an operand is
  input_refused_lacks : (ts k : List Token) → TheSign Assign ts k → Lacks (SpellsOperand text loose) (skip_line_ends k) → Lacks (SpellsPassed text) ts
  input_refused_lacks ts k there bad = go
    where
      go : (x : Passed) (r : List Token) → SpellsPassed text x ts r → ⊥
      go (passed.Input o) r w =
          let same = (sign_sure Assign).only ts w.0 k w.1 there in
          bad o r (subst (λ (x : List Token). SpellsOperand text loose o (skip_line_ends x) r) same w.2)
      go (passed.Output t) r w =
          let x = sign_lead text Arrow ts w.0 w.1 in
          let y = sign_lead text Assign ts k there in
          cc

  -- where no `:=` is, it is an output
  output_refused_lacks : (ts : List Token) → ((k : List Token) → TheSign Assign ts k → ⊥) → Lacks (λ (t : Named). TheSign Arrow ⋯ TheName text t) ts → Lacks (SpellsPassed text) ts
  output_refused_lacks ts none bad = go
    where
      go : (x : Passed) (r : List Token) → SpellsPassed text x ts r → ⊥
      go (passed.Input o) r w = none w.0 w.1
      go (passed.Output t) r w = bad t r w

  -- a word is there, and passes nothing
  passed_refused_lacks : (ts m : List Token) (n : Named) → Reads (AnyNamed text) ts n m → Lacks (SpellsPassed text) (skip_line_ends m) → Lacks (SpellsArgument text) ts
  passed_refused_lacks ts m n here bad = go
    where
      moved : (p : Passed) (a : Named) (j r : List Token) → AnyNamed text a ts j → SpellsPassed text p (skip_line_ends j) r → SpellsPassed text p (skip_line_ends m) r
      moved p a j r q w = subst (λ (x : List Token). SpellsPassed text p (skip_line_ends x) r) (any_named_one.only a n ts j m q here.found).1 w

      go : (x : Argument) (r : List Token) → SpellsArgument text x ts r → ⊥
      go (argument.Input a o) r w = bad (passed.Input o) r (moved (passed.Input o) a w.0 r w.1 w.2)
      go (argument.Output a t) r w = bad (passed.Output t) r (moved (passed.Output t) a w.0 r w.1 w.2)

  -- a word, and what it passes
  pub argument_read : (ts m r : List Token) (n : Named) (p : Passed) → Reads (AnyNamed text) ts n m → Reads (SpellsPassed text) (skip_line_ends m) p r → Reads (SpellsArgument text) ts (argument_of n p) r
  argument_read ts m r n (passed.Input o) here behind = record { found = (m, here.found, behind.found) }
  argument_read ts m r n (passed.Output t) here behind = record { found = (m, here.found, behind.found) }

-- the names of a declaration, in alike tokens
pub names_local : IsLocal tight (λ text (ns : List Named). Listed loose (TheName text) ns (TheSign Colon))
names_local = record { one = λ text. names_one text; carries = names_carries }

-- a line
pub line_local : IsLocal tight SpellsLine
line_local = record { one = λ text. line_one text; carries = λ o. follows tight_gap tight_gap (operand_carries tight_gap o) line_end_carries }

-- a word at its place
pub any_named_local : IsLocal tight AnyNamed
any_named_local = record { one = λ text. any_named_one text; carries = λ n. placed n.place (any_word_carries n.name) }

-- what is passed over between two symbols
pub gap_is : (g : GapKind) → IsGap (gap_of g)
gap_is gap.Tight = tight_gap
gap_is gap.Loose = loose_gap

module _ (text : List ℕ) where
  -- a type that begins as a scalar is one
  pub scalar_form : (ts : List Token) (e : Stop) (el : Elementary) → lead_at text ts ≡ lead.Reserved (word.Elementary el) → Refuses SpellsScalar text ts e → Refuses SpellsForm text ts e
  scalar_form ts e el l bad = past tight_gap (λ other us back a gone. scalar_form_lacks other us el (lead_alike text other back ts us a ∙ l) gone) bad

  -- a type that begins as an array is one
  pub array_form : (ts : List Token) (e : Stop) → lead_at text ts ≡ lead.Reserved word.Array → Refuses SpellsArray text ts e → Refuses SpellsForm text ts e
  array_form ts e l bad = past tight_gap (λ other us back a gone. array_form_lacks other us (lead_alike text other back ts us a ∙ l) gone) bad

  -- a type begins with an elementary type, with ARRAY or with a name
  pub no_form : (ts : List Token) (e : Stop) → ((el : Elementary) → lead_at text ts ≡ lead.Reserved (word.Elementary el) → ⊥) → (lead_at text ts ≡ lead.Reserved word.Array → ⊥) → (lead_at text ts ≡ lead.Name → ⊥)
      → e ≡ fault_at Unexpected ts → Refuses SpellsForm text ts e
  no_form ts e scalar array block here = by_lead Unexpected refl (λ other us same x r w. go other us same x r w) here
    where
      go : (other : List ℕ) (us : List Token) → lead_at other us ≡ lead_at text ts → (x : TypeForm) (r : List Token) → SpellsForm other x us r → ⊥
      go other us same (form.Scalar s) r w = scalar s.elementary (sym same ∙ form_lead other (form.Scalar s) us r w)
      go other us same (form.Array b s) r w = array (sym same ∙ form_lead other (form.Array b s) us r w)
      go other us same (form.Block n) r w = block (sym same ∙ form_lead other (form.Block n) us r w)

  -- a block's type is its name
  pub block_form : (ts : List Token) (e : Stop) → lead_at text ts ≡ lead.Name → Refuses AName text ts e → Refuses SpellsForm text ts e
  block_form ts e l bad = past tight_gap (λ other us back a gone. go other us (lead_alike text other back ts us a ∙ l) gone) bad
    where
      go : (other : List ℕ) (us : List Token) → lead_at other us ≡ lead.Name → Lacks (AName other) us → (x : TypeForm) (r : List Token) → SpellsForm other x us r → ⊥
      go other us l gone (form.Scalar s) r w = let x = form_lead other (form.Scalar s) us r w in cc
      go other us l gone (form.Array b s) r w = let x = form_lead other (form.Array b s) us r w in cc
      go other us l gone (form.Block n) r w = gone n r w

  -- what doesn't begin with a name is a literal
  pub literal_reference : {gap : Gap} (ts : List Token) (e : Stop) → (lead_at text ts ≡ lead.Name → ⊥) → Refuses ALiteral text ts e → Refuses (λ text. SpellsReference text gap) text ts e
  literal_reference {gap = gap} ts e none bad = past tight_gap (λ other us back a gone. literal_reference_lacks other gap us (λ l. none (sym (lead_alike text other back ts us a) ∙ l)) gone) bad

  -- a bracket follows a name
  pub bracket_refused : {gap : Gap} (is : IsGap gap) (ts k : List Token) (e : Stop) → TheSign OpenBracket ts k → Refuses (λ text. SpellsElement text gap) text (gap k) e → Refuses (λ text. SpellsSelector text gap) text ts e
  bracket_refused {gap = gap} is ts k e there bad =
      past_part is (valued (sign_local OpenBracket)) there (λ other us back n a here gone. bracket_refused_lacks other gap us n here gone) bad

  -- a dot does
  pub dot_refused : {gap : Gap} (is : IsGap gap) (ts k : List Token) (e : Stop) → ((m : List Token) → TheSign OpenBracket ts m → ⊥) → TheSign Dot ts k → Refuses AWord text (gap k) e → Refuses (λ text. SpellsSelector text gap) text ts e
  dot_refused {gap = gap} is ts k e none there bad =
      past_part is (valued (sign_local Dot)) there (λ other us back n a here gone.
      dot_refused_lacks other gap us n (λ m w. (sign_told OpenBracket).still text other back ts us a none m w) here gone) bad

  -- no name is there
  pub no_name : {gap : Gap} (ts : List Token) (e : Stop) → lead_at text ts ≡ lead.Name → Refuses AName text ts e → Refuses (λ text. SpellsReference text gap) text ts e
  no_name {gap = gap} ts e l bad = past tight_gap (λ other us back a gone. no_name_lacks other gap us (lead_alike text other back ts us a ∙ l) gone) bad

  -- a name is there, and nothing that may follow it
  pub selector_refused : {gap : Gap} (is : IsGap gap) (ts m : List Token) (n : List ℕ) (e : Stop) → Reads (AName text) ts n m → Refuses (λ text. SpellsSelector text gap) text (gap m) e
      → Refuses (λ text. SpellsReference text gap) text ts e
  selector_refused {gap = gap} is ts m n e here bad =
      past_part is name_local here.found (λ other us back k a there gone. selector_refused_lacks other gap us k n (record { found = there }) gone) bad

  -- a parenthesis that opens after an operator
  pub opened_refused : (room : Bool) (op : Operator) (ts m : List Token) (e : Stop) → TheSign OpenParenthesis ts m → Refuses SpellsFirst text m e → Refuses (λ text. SpellsWork text room op) text ts e
  opened_refused room op ts m e there bad =
      past_part tight_gap (valued (sign_local OpenParenthesis)) there (λ other us back n a here gone. opened_refused_lacks other room op us n here gone) bad

  -- and has no room
  pub too_deep : (room : Bool) (op : Operator) (ts m : List Token) (e : Stop) → TheSign OpenParenthesis ts m → room ≡ false → e ≡ fault_at TooDeep ts → Refuses (λ text. SpellsWork text room op) text ts e
  too_deep room op ts m e there none here = by_lead TooDeep refl (λ other us same x r w. go other us same x r w) here
    where
      go : (other : List ℕ) (us : List Token) → lead_at other us ≡ lead_at text ts → (i : Instruction) (r : List Token) → SpellsWork other room op i us r → ⊥
      go other us same i r w =
          too_deep_lacks other room op us (drop 1 us) (sign_there other OpenParenthesis us (same ∙ sign_lead text OpenParenthesis ts m there)) none i r w

  -- and where none opens
  pub operand_refused : (room : Bool) (op : Operator) (ts : List Token) (e : Stop) → ((m : List Token) → TheSign OpenParenthesis ts m → ⊥) → Refuses SpellsLine text ts e → Refuses (λ text. SpellsWork text room op) text ts e
  operand_refused room op ts e none bad =
      past tight_gap (λ other us back a gone. operand_refused_lacks other room op us (λ m w. (sign_told OpenParenthesis).still text other back ts us a none m w) gone) bad

  -- a word that is none
  pub word_refused : (ts : List Token) (e : Stop) → Refuses AnyNamed text ts e → Refuses SpellsArgument text ts e
  word_refused ts e bad = past tight_gap (λ other us back a gone. word_refused_lacks other us gone) bad

  -- after `:=` an operand is
  pub input_refused : (ts k : List Token) (e : Stop) → TheSign Assign ts k → Refuses (λ text. SpellsOperand text loose) text (skip_line_ends k) e → Refuses SpellsPassed text ts e
  input_refused ts k e there bad = past_part loose_gap (valued (sign_local Assign)) there (λ other us back n a here gone. input_refused_lacks other us n here gone) bad

  -- where no `:=` is, it is an output
  pub output_refused : (ts : List Token) (e : Stop) → ((k : List Token) → TheSign Assign ts k → ⊥) → Refuses (λ text (t : Named). TheSign Arrow ⋯ TheName text t) text ts e → Refuses SpellsPassed text ts e
  output_refused ts e none bad = past tight_gap (λ other us back a gone. output_refused_lacks other us (λ m w. (sign_told Assign).still text other back ts us a none m w) gone) bad

  -- a word is there, and passes nothing
  pub passed_refused : (ts m : List Token) (n : Named) (e : Stop) → Reads (AnyNamed text) ts n m → Refuses SpellsPassed text (skip_line_ends m) e → Refuses SpellsArgument text ts e
  passed_refused ts m n e here bad = past_part loose_gap any_named_local here.found (λ other us back k a there gone. passed_refused_lacks other us k n (record { found = there }) gone) bad
