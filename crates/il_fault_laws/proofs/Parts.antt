-- What a fault of the grammar says, of one error and of the tokens from its token on.
use Rattle.std.specs.Prelude.{◌⊎◌}
use Rattle.std.proofs.Common.{◌≡◌, ◌<◌, ◌≤◌, ℕ, List, [], ◌∷◌, length, drop, refl, sym, ◌∙◌, ap, subst, inl, inr, arith}
use Rattle.il_syntax.specs.declared.fault.Refusal.{Refusal}
use Rattle.il_syntax.specs.declared.fault.Refusal.TheVariants.{Fault}
use Rattle.il_syntax.specs.declared.token.Token.{Token}
use Rattle.il_syntax.specs.declared.tree.Place.{Place}
use Rattle.il_syntax.specs.declared.tree.Config.{Config}
use Rattle.il_syntax.specs.Text.{AreBlanks, AreTokens}
use Rattle.il_syntax.specs.Grammar.{AfterLines, SpellsConfig}
use Rattle.load_tokens.proofs.Blanks.{blank_within}
use Rattle.load_tokens.proofs.Lexemes.{lexeme_within}
use Rattle.il_syntax_laws.specs.Alike.{IsEndOf, AreAlike}
use Rattle.il_syntax_laws.specs.GoesOn.{IsCut}
use Rattle.il_syntax_laws.proofs.Alike.{end_of_end, alike_self}
use Rattle.load_lines.specs.declared.stop.SyntaxError.{SyntaxError}
use Rattle.load_lines.specs.declared.stop.SyntaxError.TheVariants.{Unexpected, TooDeep, TooMany}
use Rattle.load_lines.specs.declared.lead.Lead.{Lead}
use Rattle.load_lines.specs.declared.lead.Lead.TheVariants as lead
use Rattle.load_lines.specs.Lead.{lead_at}
use Rattle.load_lines.specs.Reads.{number_of, past_name, turn}
use Rattle.load_lines.proofs.Instructions.{next_gap}
use Rattle.load_tree.specs.Refused.{IsSmall, Keeps, IsPlaceAt, IsBegun, KeepsBefore, GoesOnWith, GoesOnNowhere, GoesOnBefore}
use Rattle.load_tree.specs.Late.{WhereUnexpected, AreLateUnits, NoneTooMany}
use Rattle.load_tree.proofs.Cuts.{one_within}
use Rattle.il_fault_laws.specs.Faults.{IsFaultOfGrammar}

-- THE PLACES OF TOKENS

-- blanks go up
blanks_up : (text ends : List ℕ) (i j : ℕ) → AreBlanks text ends i j → i ≤ j
blanks_up text [] i j h = omega (arith, h)
blanks_up text (k ∷ ends) i j h = omega (arith, (blank_within text i k h.0).0, blanks_up text ends k j h.1)

-- tokens follow the place that they are read from
pub tokens_up : (text : List ℕ) (at : ℕ) (ts : List Token) (t : Token) (back : List Token) → AreTokens text at ts → IsEndOf (t ∷ back) ts → at ≤ t.start
tokens_up text at [] t back h e = absurd cc
tokens_up text at (u ∷ ts) t back h (inl e) =
    let same : t ≡ u = cc in
    let up = blanks_up text h.0.gap.0 at u.start h.0.gap.1 in
    subst (λ (x : Token). at ≤ x.start) (sym same) up
tokens_up text at (u ∷ ts) t back h (inr e) =
    let up = blanks_up text h.0.gap.0 at u.start h.0.gap.1 in
    let within = lexeme_within text u.kind u.start u.end h.0.lexeme in
    let more = tokens_up text u.end ts t back h.1 e in
    omega (arith, up, within.0, more)

-- one after another begins later
pub starts_rise : (text : List ℕ) (at : ℕ) (ts : List Token) (t : Token) (back : List Token) (u : Token) (more : List Token) → AreTokens text at ts → IsEndOf (t ∷ back) ts → IsEndOf (u ∷ more) back → t.start < u.start
starts_rise text at [] t back u more h e k = absurd cc
starts_rise text at (x ∷ ts) t back u more h (inl e) k =
    let same : t ≡ x = cc in
    let rest : back ≡ ts = cc in
    let within = lexeme_within text x.kind x.start x.end h.0.lexeme in
    let up = tokens_up text x.end ts u more h.1 (subst (λ (l : List Token). IsEndOf (u ∷ more) l) rest k) in
    subst (λ (y : Token). y.start < u.start) (sym same) (omega (arith, within.0, up))
starts_rise text at (x ∷ ts) t back u more h (inr e) k = starts_rise text x.end ts t back u more h.1 e k

-- each is in the text
pub starts_within : (text : List ℕ) (at : ℕ) (ts : List Token) (t : Token) (back : List Token) → AreTokens text at ts → IsEndOf (t ∷ back) ts → t.start < length text
starts_within text at [] t back h e = absurd cc
starts_within text at (u ∷ ts) t back h (inl e) =
    let same : t ≡ u = cc in
    let within = lexeme_within text u.kind u.start u.end h.0.lexeme in
    subst (λ (x : Token). x.start < length text) (sym same) (omega (arith, within.0, within.1))
starts_within text at (u ∷ ts) t back h (inr e) = starts_within text u.end ts t back h.1 e

-- tokens that begin at one byte are one
pub one_start : (text : List ℕ) (ts : List Token) (t u : Token) (back more : List Token) → AreTokens text 0 ts → IsEndOf (t ∷ back) ts → IsEndOf (u ∷ more) ts → t.start ≡ u.start → (◌≡◌ {A = List Token} (t ∷ back) (u ∷ more))
one_start text ts t u back more h p q same = go (one_within (t ∷ back) (u ∷ more) ts p q)
  where
    go : IsEndOf (t ∷ back) (u ∷ more) ⊎ IsEndOf (u ∷ more) (t ∷ back) → (◌≡◌ {A = List Token} (t ∷ back) (u ∷ more))
    go (inl (inl e)) = e
    go (inl (inr e)) = let less = starts_rise text 0 ts u more t back h q e in absurd (omega (arith, less, same))
    go (inr (inl e)) = sym e
    go (inr (inr e)) = let less = starts_rise text 0 ts t back u more h p e in absurd (omega (arith, less, same))

-- a place is that of one end of the tokens
pub one_place : (text : List ℕ) (ts at back : List Token) (place : Place) → AreTokens text 0 ts → length text ≤ 262144 → IsEndOf at ts → IsEndOf back ts → IsPlaceAt text place at → IsPlaceAt text place back → at ≡ back
one_place text ts [] [] place h short p q a b = refl
one_place text ts [] (u ∷ more) place h short p q a b =
    let less = starts_within text 0 ts u more h q in
    let here = a (omega (arith, short)) in
    absurd (omega (arith, less, here.0, b.0))
one_place text ts (t ∷ back) [] place h short p q a b =
    let less = starts_within text 0 ts t back h p in
    let here = b (omega (arith, short)) in
    absurd (omega (arith, less, here.0, a.0))
one_place text ts (t ∷ back) (u ∷ more) place h short p q a b = one_start text ts t u back more h p q (sym a.0 ∙ b.0)

-- two places of one end are one
pub same_place : (text : List ℕ) (at : List Token) (p q : Place) → length text ≤ 262144 → IsPlaceAt text p at → IsPlaceAt text q at → p ≡ q
same_place text [] p q short a b =
    let x = a (omega (arith, short)) in
    let y = b (omega (arith, short)) in
    λ i. record { offset = (x.0 ∙ sym y.0) i; line = (x.1 ∙ sym y.1) i }
same_place text (t ∷ back) p q short a b = λ i. record { offset = (a.0 ∙ sym b.0) i; line = (a.1 ∙ sym b.1) i }

-- THE PARTS OF A FAULT

-- errors of one number are one
pub one_error : (a b : SyntaxError) → number_of a ≡ number_of b → a ≡ b
one_error Unexpected Unexpected e = refl
one_error TooDeep TooDeep e = refl
one_error TooMany TooMany e = refl
one_error Unexpected TooDeep e = absurd (omega (arith, e))
one_error Unexpected TooMany e = absurd (omega (arith, e))
one_error TooDeep Unexpected e = absurd (omega (arith, e))
one_error TooDeep TooMany e = absurd (omega (arith, e))
one_error TooMany Unexpected e = absurd (omega (arith, e))
one_error TooMany TooDeep e = absurd (omega (arith, e))

-- no text goes on
abbrev pub Nowhere : List ℕ → List Token → SyntaxError → List Token → Type 0
Nowhere text ts error at = (other : List ℕ) (others : List Token) → AreAlike text other (turn error text at) ts others → (c : Config) → AfterLines (SpellsConfig other c) others [] → Keeps error c → ⊥

-- nothing is too many before an unexpected token
abbrev pub Early : List ℕ → List Token → SyntaxError → List Token → Type 0
Early text ts error at = WhereUnexpected error ((other : List ℕ) (others vs : List Token) → IsCut text other at ts others vs → (c : Config) → AfterLines (SpellsConfig other c) others [] → AreLateUnits vs c.units)

-- what a fault says
pub record Parts (text : List ℕ) (ts : List Token) (place : Place) (error : SyntaxError) (at : List Token) : Type 0 where
  pub inside : IsEndOf at ts
  pub there : IsPlaceAt text place at
  pub nowhere : Nowhere text ts error at
  pub before : IsBegun KeepsBefore text ts at
  pub with : GoesOnWith error text ts at
  pub early : Early text ts error at

pub parts_of : (text : List ℕ) (ts : List Token) (number : ℕ) (place : Place) → AreTokens text 0 ts → length text ≤ 262144 → GoesOnNowhere text ts (Fault number place) → GoesOnBefore text ts (Fault number place) → NoneTooMany text ts (Fault number place)
    → (error : SyntaxError) × (at : List Token) × (number ≡ number_of error) × Parts text ts place error at
parts_of text ts number place cut short a b c =
    let error_b : b.0 ≡ a.0 = one_error b.0 a.0 (sym b.2 ∙ a.2) in
    let error_c : c.0 ≡ a.0 = one_error c.0 a.0 (sym c.2 ∙ a.2) in
    let at_b : b.1 ≡ a.1 = one_place text ts b.1 a.1 place cut short b.3 a.3 b.4 a.4 in
    let at_c : c.1 ≡ a.1 = one_place text ts c.1 a.1 place cut short c.3 a.3 c.4 a.4 in (
      a.0,
      a.1,
      a.2,
      record {
        inside = a.3;
        there = a.4;
        nowhere = a.5;
        before = subst (λ (x : List Token). IsBegun KeepsBefore text ts x) at_b b.5;
        with = subst (λ (x : List Token). GoesOnWith a.0 text ts x) at_b (subst (λ (x : SyntaxError). GoesOnWith x text ts b.1) error_b b.6);
        early = subst (λ (x : List Token). Early text ts a.0 x) at_c (subst (λ (x : SyntaxError). Early text ts x c.1) error_c c.5);
      },
    )

-- the parts of a fault of the grammar
pub fault_parts : (text : List ℕ) (ts : List Token) (e : Refusal) → AreTokens text 0 ts → length text ≤ 262144 → IsFaultOfGrammar text ts e
    → (place : Place) × (error : SyntaxError) × (at : List Token) × (e ≡ Fault (number_of error) place) × Parts text ts place error at
fault_parts text ts e cut short is =
    let number = is.fault.0 in
    let place = is.fault.1.0 in
    let same = is.fault.1.1 in
    let p = parts_of text ts number place cut short (subst (λ (x : Refusal). GoesOnNowhere text ts x) same is.nowhere) (subst (λ (x : Refusal). GoesOnBefore text ts x) same is.before) (subst (λ (x : Refusal). NoneTooMany text ts x) same is.early) in
    (place, p.0, p.1, same ∙ ap (λ (n : ℕ). Fault n place) p.2, p.3)

-- the token with which none goes on is one of them
pub turn_inside : (text : List ℕ) (ts at : List Token) (error : SyntaxError) → IsEndOf at ts → IsEndOf (turn error text at) ts
turn_inside text ts at Unexpected e = e
turn_inside text ts at TooDeep e = e
turn_inside text ts at TooMany e = go (lead_at text at)
  where
    go : (l : Lead) → IsEndOf (past_name l at) ts
    go lead.Name = end_of_end (drop 1 at) at ts e (next_gap.ends at)
    go l = e

-- NONE

-- a text within the limits has no fault
pub none_there : (text : List ℕ) (ts : List Token) (c : Config) (e : Refusal) → AfterLines (SpellsConfig text c) ts [] → IsSmall c → IsFaultOfGrammar text ts e → ⊥
none_there text ts c e w small is =
    let a : GoesOnNowhere text ts (Fault is.fault.0 is.fault.1.0) = subst (λ (x : Refusal). GoesOnNowhere text ts x) is.fault.1.1 is.nowhere in
    a.5 text ts (alike_self text (turn a.0 text a.1) ts (turn_inside text ts a.1 a.0 a.3)) c w (keeps a.0)
  where
    keeps : (error : SyntaxError) → Keeps error c
    keeps Unexpected = tt
    keeps TooDeep = small.nesting
    keeps TooMany = (small.units, small.instructions)
