-- A text has one fault of the grammar at most.
use Rattle.std.specs.Prelude.{◌⊎◌}
use Rattle.std.specs.List.{All}
use Rattle.std.proofs.Common.{◌≡◌, ◌<◌, ◌≤◌, ℕ, zero, suc, List, [], ◌∷◌, ◌++◌, length, refl, sym, ◌∙◌, ap, subst, inl, inr, arith, Option}
use Rattle.std.proofs.lemmas.List.Elements.{All-nil, All-cons, All-append, All-head}
use Rattle.il_syntax.specs.declared.fault.Refusal.{Refusal}
use Rattle.il_syntax.specs.declared.fault.Refusal.TheVariants.{Fault}
use Rattle.il_syntax.specs.declared.token.Token.{Token}
use Rattle.il_syntax.specs.declared.tree.Place.{Place}
use Rattle.il_syntax.specs.declared.tree.Operand.{Operand}
use Rattle.il_syntax.specs.declared.tree.Operator.{Operator}
use Rattle.il_syntax.specs.declared.tree.Instruction.{Instruction}
use Rattle.il_syntax.specs.declared.tree.Instruction.TheVariants as instruction
use Rattle.il_syntax.specs.declared.tree.Step.{Step}
use Rattle.il_syntax.specs.declared.tree.Unit.{Unit as ProgramUnit}
use Rattle.il_syntax.specs.declared.tree.Config.{Config}
use Rattle.il_syntax.specs.Text.{AreTokens}
use Rattle.il_syntax.specs.Grammar.{Front, At, TheWord, SpellsOperator, SpellsInstruction, SpellsLabelled, skip_line_ends, depth_after, greatest_depth, unit_word}
use Rattle.il_statics.specs.Written.{IsNested}
use Rattle.il_syntax_laws.specs.Alike.{IsEndOf}
use Rattle.il_syntax_laws.specs.GoesOn.{IsCut}
use Rattle.il_syntax_laws.proofs.Alike.{end_same, end_self, end_of_end, alike_self, loose_gap}
use Rattle.il_syntax_laws.proofs.Leads.{at_holds}
use Rattle.il_syntax_laws.proofs.Open.{instruction_fills, operator_fills}
use Rattle.load_lines.specs.declared.stop.SyntaxError.{SyntaxError}
use Rattle.load_lines.specs.declared.stop.SyntaxError.TheVariants.{Unexpected, TooDeep, TooMany}
use Rattle.load_lines.specs.Reads.{number_of}
use Rattle.load_tree.specs.Refused.{GoesBeyond, IsBegun}
use Rattle.load_tree.proofs.Cuts.{one_within, cut_back}
use Rattle.il_fault_laws.specs.Faults.{IsFaultOfGrammar}
use Rattle.il_fault_laws.proofs.Parts.{Parts, fault_parts, same_place}
use Rattle.il_fault_laws.proofs.Order.{behind_unexpected, behind_deep, not_deep_there, not_many_there}
use Rattle.il_fault_laws.proofs.Surplus.{at_token}
use Rattle.il_fault_laws.proofs.Completed.{EndsIn, EndsWith, word_completed}
use Rattle.il_fault_laws.proofs.Through.{cut_earlier, cut_trans, through, next_cut}
use Rattle.il_fault_laws.proofs.Found.{HasStep, found_step, in_unit}
use Rattle.il_fault_laws.proofs.Ends.{IsShallow, inner, own_rest, behind_step, behind_operator, here_inside}
use Rattle.il_fault_laws.proofs.Before.{HasBoth, same_front, same_both}
use Rattle.il_fault_laws.proofs.Many.{StepSurplus, UnitSurplus, surplus_of, all_parts, nested_ends, begun, begun_there}
use Rattle.il_fault_laws.proofs.Behind.{many_then_later, many_then_unexpected, many_then_many, many_then_deep}

-- A PARENTHESIS TOO DEEP, AND ONE OF TOO MANY

-- what ends after a token
tail_end : (t : Token) (tail m : List Token) → IsEndOf m (t ∷ tail) → length m < length (t ∷ tail) → IsEndOf m tail
tail_end t tail m (inl e) l = let same = ap length e in absurd (omega (arith, same, l))
tail_end t tail m (inr e) l = e

-- lists with one front
same_rest : {A : Type 0} (front xs ys : List A) → front ++ xs ≡ front ++ ys → xs ≡ ys
same_rest [] xs ys e = e
same_rest (z ∷ front) xs ys e = let rest : front ++ xs ≡ front ++ ys = cc in same_rest front xs ys rest

-- a `)` opens none
evaluate_opens : (depth : ℕ) → depth_after depth instruction.Evaluate ≤ depth
evaluate_opens zero = omega arith
evaluate_opens (suc depth) = omega arith

-- an instruction opens a parenthesis, or none
opens_or : (i : Instruction) → ((op : Operator) × (first : Option Operand) × (i ≡ instruction.Defer op first)) ⊎ ((depth : ℕ) → depth_after depth i ≤ depth)
opens_or (instruction.Load n o) = inr (λ depth. omega arith)
opens_or (instruction.Store k o) = inr (λ depth. omega arith)
opens_or instruction.Not = inr (λ depth. omega arith)
opens_or (instruction.Operate op o) = inr (λ depth. omega arith)
opens_or (instruction.Defer op first) = inl (op, first, refl)
opens_or instruction.Evaluate = inr evaluate_opens
opens_or (instruction.Jump k n) = inr (λ depth. omega arith)
opens_or (instruction.Return k) = inr (λ depth. omega arith)
opens_or (instruction.Call k n a) = inr (λ depth. omega arith)
opens_or (instruction.Invoke f a) = inr (λ depth. omega arith)

-- units, and a shallow one, are shallow
nested_with : (front : List ProgramUnit) (c : Config) → All (λ (v : ProgramUnit). greatest_depth 0 v.body.steps ≤ 16) front → EndsWith front c → IsNested c
nested_with front c low e =
    subst (λ (us : List ProgramUnit). All (λ (v : ProgramUnit). greatest_depth 0 v.body.steps ≤ 16) us) (sym e.1)
    (All-append (λ (v : ProgramUnit). greatest_depth 0 v.body.steps ≤ 16) front (e.0 ∷ []) low
    (All-cons (λ (v : ProgramUnit). greatest_depth 0 v.body.steps ≤ 16) e.0 [] e.2 (All-nil (λ (v : ProgramUnit). greatest_depth 0 v.body.steps ≤ 16))))

module _ (text : List ℕ) (ts : List Token) (cut : AreTokens text 0 ts) (p q : Place) (t : Token) (back : List Token) (e : Parts text ts p TooDeep (t ∷ back)) (f : Parts text ts q TooMany (t ∷ back)) where
  -- the text in which the first surplus is at the token, cut as the one that goes on up to it
  between : IsCut (begun text ts cut q t back f).0 e.before.0 (t ∷ (begun text ts cut q t back f).2) (begun text ts cut q t back f).1 e.before.1 e.before.2
  between =
      let b = begun text ts cut q t back f in
      let m = cut_earlier text b.0 back (t ∷ back) ts b.1 b.2 b.4 (inr (end_self back)) e.inside in
      let is = next_cut text b.0 t back ts b.1 m.0 b.2 m.1 b.4 in
      subst (λ (k : List Token). IsCut b.0 e.before.0 k b.1 e.before.1 e.before.2) is (cut_trans b.0 text e.before.0 m.0 b.1 ts (t ∷ back) e.before.1 e.before.2 (cut_back text b.0 (t ∷ back) ts b.1 m.0 m.1) e.before.4)

  low : (front more : List ProgramUnit) → e.before.5.units ≡ front ++ more → All (λ (v : ProgramUnit). greatest_depth 0 v.body.steps ≤ 16) front × All (λ (v : ProgramUnit). greatest_depth 0 v.body.steps ≤ 16) more
  low front more is =
      all_parts (λ (v : ProgramUnit). greatest_depth 0 v.body.steps ≤ 16) front more (subst (λ (us : List ProgramUnit). All (λ (v : ProgramUnit). greatest_depth 0 v.body.steps ≤ 16) us) is e.before.7.0)

  no_deep_unit : UnitSurplus t (begun text ts cut q t back f).5 → ⊥
  no_deep_unit s =
      let b = begun text ts cut q t back f in
      let there = begun_there text ts cut q t back f in
      let full = s.full in
      let h = same_front b.0 b.1 b.3 t b.2 there b.5 b.6 e.before.0 e.before.1 e.before.2 between e.before.5 e.before.6 s.front s.unit s.behind s.units (omega (arith, full)) s.there in
      let k = in_unit b.0 b.1 b.3 t b.2 there b.5 b.6 s.front s.unit s.behind s.units in
      let inside = end_of_end k.0 (skip_line_ends b.1) b.1 (loose_gap.ends b.1) k.4 in
      let here = at_token b.0 b.0 b.1 b.3 t b.2 there (TheWord b.0 (unit_word s.unit.kind)) s.unit.place k.0 k.3.1.0 inside s.there k.3.1.1 in
      let first = subst (λ (j : List Token). TheWord b.0 (unit_word s.unit.kind) j k.3.1.0) here (at_holds b.0 (TheWord b.0 (unit_word s.unit.kind)) s.unit.place k.0 k.3.1.0 k.3.1.1) in
      let g = word_completed b.0 b.1 b.3 s.front s.unit.kind s.unit.place k.0 k.3.1.0 k.2 k.3.1.1 in
      let a = through text b.0 g.0 t back ts b.1 b.2 k.3.1.0 g.1 g.2 b.4 g.4 (end_same b.2 k.3.1.0 first.1) e.inside in
      e.nowhere g.0 g.1 a g.5 g.6 (nested_with s.front g.5 (low s.front h.0 h.1).0 g.7)

  module _ (s : StepSurplus t (begun text ts cut q t back f).5) where
    own : HasStep (begun text ts cut q t back f).0 t s.front s.steps (begun text ts cut q t back f).1 (begun text ts cut q t back f).5
    own =
        let b = begun text ts cut q t back f in
        let there = begun_there text ts cut q t back f in
        found_step b.0 b.1 b.3 t b.2 there b.5 b.6 b.0 b.1 (alike_self b.0 (t ∷ b.2) b.1 there) b.5 b.6 s.front s.unit s.behind s.units s.steps s.more s.step s.split s.number s.there

    own_step : own.it.more ≡ s.step ∷ s.more
    own_step =
        let units = same_rest s.front (own.unit ∷ own.more) (s.unit ∷ s.behind) (sym own.units ∙ s.units) in
        let unit : own.unit ≡ s.unit = cc in
        same_rest s.steps own.it.more (s.step ∷ s.more) (sym own.it.steps ∙ ap (λ (v : ProgramUnit). v.body.steps) unit ∙ s.split)

    no_deep_step : ⊥
    no_deep_step = go (opens_or s.step.instruction)
      where
        b : IsBegun (λ vs c. GoesBeyond TooMany t c.units) text ts back
        b = begun text ts cut q t back f

        there : IsEndOf (t ∷ b.2) b.1
        there = begun_there text ts cut q t back f

        both : HasBoth s.front s.steps e.before.5
        both = same_both b.0 b.1 b.3 t b.2 there b.5 b.6 e.before.0 e.before.1 e.before.2 between e.before.5 e.before.6 s.front s.unit s.behind s.units s.steps s.more s.step s.split s.before s.there

        parts : All (λ (v : ProgramUnit). greatest_depth 0 v.body.steps ≤ 16) s.front × All (λ (v : ProgramUnit). greatest_depth 0 v.body.steps ≤ 16) (both.0 ∷ both.1)
        parts = low s.front (both.0 ∷ both.1) both.3

        shallow : IsShallow (s.steps ++ both.2)
        shallow = subst (λ (ys : List Step). IsShallow ys) both.4 (All-head (λ (v : ProgramUnit). greatest_depth 0 v.body.steps ≤ 16) both.0 both.1 parts.1)

        -- a shallow text that goes on with the token
        shallow_on : (m : List Token) → IsEndOf m b.2 → IsBegun (λ vs c. EndsIn s.front own.unit IsShallow c) b.0 b.1 m → ⊥
        shallow_on m end g = e.nowhere g.0 g.1 (through text b.0 g.0 t back ts b.1 b.2 m g.1 g.2 b.4 g.4 end e.inside) g.5 g.6 (nested_ends s.front own.unit IsShallow g.5 parts.0 (λ ys is. is) g.7)

        -- where the token begins a part, this ends after it
        ends_behind : (F : Front) (m : List Token) → ((xs : List Token) → F xs m → IsEndOf m xs × (length m < length xs)) → SpellsLabelled b.0 s.step.labels (At s.step.place F) own.it.here m → IsEndOf m b.2
        ends_behind F m law w =
            let k = inner b.0 s.step.labels s.step.place F own.it.here m w in
            let inside = end_of_end k.0 own.it.here b.1 (here_inside b.0 b.1 t s.front s.steps b.5 own) k.1 in
            let here = at_token b.0 b.0 b.1 b.3 t b.2 there F s.step.place k.0 m inside s.there k.2 in
            let x = law (t ∷ b.2) (subst (λ (j : List Token). F j m) here (at_holds b.0 F s.step.place k.0 m k.2)) in
            tail_end t b.2 m x.0 x.1

        go : ((op : Operator) × (first : Option Operand) × (s.step.instruction ≡ instruction.Defer op first)) ⊎ ((depth : ℕ) → depth_after depth s.step.instruction ≤ depth) → ⊥
        go (inl x) =
            let g = behind_operator b.0 b.1 b.3 t s.front s.steps b.5 own s.step s.more own_step both.2 shallow x.0 x.1 x.2 in
            shallow_on g.0 (ends_behind (SpellsOperator b.0 x.0) g.0 (λ xs w. ((operator_fills x.0).opens.ends b.0 xs g.0 w, (operator_fills x.0).takes.less b.0 xs g.0 w)) g.1) g.2
        go (inr none) =
            let rest = own_rest b.0 b.1 b.3 t s.front s.steps b.5 own s.step s.more own_step in
            let i = s.step.instruction in
            shallow_on rest.0 (ends_behind (SpellsInstruction b.0 i) rest.0 (λ xs w. ((instruction_fills i).opens.ends b.0 xs rest.0 w, (instruction_fills i).takes.less b.0 xs rest.0 w)) rest.1)
            (behind_step b.0 b.1 b.3 t s.front s.steps b.5 own s.step s.more own_step both.2 shallow none)

  pub deep_not_many : ⊥
  deep_not_many = elim (surplus_of t (begun text ts cut q t back f).5 (begun text ts cut q t back f).7) [ inl s ↦ no_deep_unit s | inr s ↦ no_deep_step s ]

-- TWO FAULTS

module _ (text : List ℕ) (ts : List Token) (cut : AreTokens text 0 ts) where
  -- where a limit alone forbids a token, there is one
  no_end : (p : Place) → Parts text ts p TooMany [] → ⊥
  no_end p e = let is : (◌≡◌ {A = List Token} [] (e.with.0 ∷ e.with.1)) = e.with.2 in cc

  no_deep_end : (p : Place) → Parts text ts p TooDeep [] → ⊥
  no_deep_end p e = let is : (◌≡◌ {A = List Token} [] (e.with.0 ∷ e.with.1)) = e.with.2 in cc

  deep_or_many : (p q : Place) (at : List Token) → Parts text ts p TooDeep at → Parts text ts q TooMany at → ⊥
  deep_or_many p q [] e f = no_end q f
  deep_or_many p q (t ∷ back) e f = deep_not_many text ts cut p q t back e f

  -- faults of one token are of one error
  same_error : (a b : SyntaxError) (p q : Place) (at : List Token) → Parts text ts p a at → Parts text ts q b at → a ≡ b
  same_error Unexpected Unexpected p q at e f = refl
  same_error TooDeep TooDeep p q at e f = refl
  same_error TooMany TooMany p q at e f = refl
  same_error Unexpected TooDeep p q at e f = absurd (not_deep_there text ts p q at e f)
  same_error TooDeep Unexpected p q at e f = absurd (not_deep_there text ts q p at f e)
  same_error Unexpected TooMany p q at e f = absurd (not_many_there text ts p q at e f)
  same_error TooMany Unexpected p q at e f = absurd (not_many_there text ts q p at f e)
  same_error TooDeep TooMany p q at e f = absurd (deep_or_many p q at e f)
  same_error TooMany TooDeep p q at e f = absurd (deep_or_many q p at f e)

  many_first : (b : SyntaxError) (p q : Place) (t : Token) (back at : List Token) → Parts text ts p TooMany (t ∷ back) → Parts text ts q b at → IsEndOf at back → ⊥
  many_first Unexpected p q t [] at e f k = many_then_unexpected text ts cut p q t [] e (subst (λ (x : List Token). Parts text ts q Unexpected x) k f)
  many_first TooDeep p q t [] at e f k = no_deep_end q (subst (λ (x : List Token). Parts text ts q TooDeep x) k f)
  many_first TooMany p q t [] at e f k = no_end q (subst (λ (x : List Token). Parts text ts q TooMany x) k f)
  many_first b p q t (x ∷ back) at e f (inr k) = many_then_later text ts cut p q t x back at b e f k
  many_first Unexpected p q t (x ∷ back) at e f (inl k) = many_then_unexpected text ts cut p q t (x ∷ back) e (subst (λ (y : List Token). Parts text ts q Unexpected y) k f)
  many_first TooDeep p q t (x ∷ back) at e f (inl k) = many_then_deep text ts cut p q t x back e (subst (λ (y : List Token). Parts text ts q TooDeep y) k f)
  many_first TooMany p q t (x ∷ back) at e f (inl k) = many_then_many text ts cut p q t x back e (subst (λ (y : List Token). Parts text ts q TooMany y) k f)

  -- none follows another
  none_behind : (a b : SyntaxError) (p q : Place) (t : Token) (back at : List Token) → Parts text ts p a (t ∷ back) → Parts text ts q b at → IsEndOf at back → ⊥
  none_behind Unexpected b p q t back at e f k = behind_unexpected text ts p q b t back at e f k
  none_behind TooDeep b p q t back at e f k = behind_deep text ts p q b t back at e f k
  none_behind TooMany b p q t back at e f k = many_first b p q t back at e f k

  -- so they name one token
  same_end : (a b : SyntaxError) (p q : Place) (at back : List Token) → Parts text ts p a at → Parts text ts q b back → IsEndOf back at → back ≡ at
  same_end a b p q [] back e f k = k
  same_end a b p q (t ∷ at) back e f (inl k) = k
  same_end a b p q (t ∷ at) back e f (inr k) = absurd (none_behind a b p q t at back e f k)

-- a text has one fault of the grammar at most
pub one_fault : (text : List ℕ) (ts : List Token) (e f : Refusal) → AreTokens text 0 ts → length text ≤ 262144 → IsFaultOfGrammar text ts e → IsFaultOfGrammar text ts f → e ≡ f
one_fault text ts e f cut short x y =
    let a = fault_parts text ts e cut short x in
    let b = fault_parts text ts f cut short y in
    let at : b.2 ≡ a.2 = elim (one_within a.2 b.2 ts a.4.inside b.4.inside) [
      | inl k ↦ sym (same_end text ts cut b.1 a.1 b.0 a.0 b.2 a.2 b.4 a.4 k)
      | inr k ↦ same_end text ts cut a.1 b.1 a.0 b.0 a.2 b.2 a.4 b.4 k
    ] in
    let own = subst (λ (k : List Token). Parts text ts b.0 b.1 k) at b.4 in
    let error = same_error text ts cut a.1 b.1 a.0 b.0 a.2 a.4 own in
    let place = same_place text a.2 a.0 b.0 short a.4.there own.there in
    a.3 ∙ (λ i. Fault (number_of (error i)) (place i)) ∙ sym b.3
