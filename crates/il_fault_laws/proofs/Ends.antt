-- How a body is completed: after a label, after an instruction, and after an operator.
use Rattle.std.specs.Prelude.{IsTrue, ◌==◌, ◌||◌, not, max}
use Rattle.std.proofs.Common.{◌≡◌, ◌≤◌, ℕ, zero, suc, Bool, true, false, ◌&&◌, List, [], ◌∷◌, ◌++◌, length, append-nil, refl, sym, ◌∙◌, ap, subst, inr, arith, Option}
use Rattle.il_syntax.specs.declared.token.Token.{Token}
use Rattle.il_syntax.specs.declared.token.Sign.TheVariants.{OpenParenthesis}
use Rattle.il_syntax.specs.declared.keyword.Keyword.{Keyword}
use Rattle.il_syntax.specs.declared.tree.Place.{Place}
use Rattle.il_syntax.specs.declared.tree.Named.{Named}
use Rattle.il_syntax.specs.declared.tree.Operand.{Operand}
use Rattle.il_syntax.specs.declared.tree.Operator.{Operator}
use Rattle.il_syntax.specs.declared.tree.Instruction.{Instruction}
use Rattle.il_syntax.specs.declared.tree.Instruction.TheVariants as instruction
use Rattle.il_syntax.specs.declared.tree.Step.{Step}
use Rattle.il_syntax.specs.declared.tree.UnitKind.{UnitKind}
use Rattle.il_syntax.specs.declared.tree.Unit.{Unit as ProgramUnit}
use Rattle.il_syntax.specs.declared.tree.Config.{Config}
use Rattle.il_syntax.specs.Text.{AreTokens}
use Rattle.il_syntax.specs.Grammar.{Front, tight, ◌⨾◌, skip_line_ends, Nothing, At, Repeats, TheSign, TheLineEnd, SpellsOperand, SpellsOperator, SpellsFirst, SpellsInstruction, SpellsLabel, SpellsLabelled, SpellsStep, SpellsLabelLine, end_word, is_nested, may_stand, depth_after, needs_load, greatest_depth}
use Rattle.il_syntax_laws.specs.Alike.{IsEndOf}
use Rattle.il_syntax_laws.specs.GoesOn.{always}
use Rattle.il_syntax_laws.proofs.Alike.{end_self, end_length, end_of_end, loose_gap}
use Rattle.il_syntax_laws.proofs.Leads.{at_holds}
use Rattle.il_syntax_laws.proofs.Instructions.{instruction_no_label}
use Rattle.il_syntax_laws.proofs.Open.{line_end_fills, label_fills, label_line_fills, labelled_fills, fill_placed, operator_fills, step_fills}
use Rattle.il_syntax_laws.proofs.Samples.{word_sample, true_sample, line_end_sample, closing_samples, rest_samples, rest_sampled, line_end_sampled, placed_word_sampled, operand_line_sampled}
use Rattle.il_syntax_laws.proofs.GoesOn.{cut_here, is_solid, samples_apart, stays_loose, passes_calm, IsFilling}
use Rattle.load_lines.proofs.Chain.{regroup}
use Rattle.load_lines.proofs.Nesting.{IsOpen, none_open, one_open, closed}
use Rattle.load_tree.specs.Refused.{IsBegun}
use Rattle.load_tree.proofs.Entries.{step_filling, not_zero, both_left}
use Rattle.load_tree.proofs.Rests.{unit_filling}
use Rattle.il_fault_laws.proofs.Runs.{join_run}
use Rattle.il_fault_laws.proofs.Headings.{heading_of, split_unit}
use Rattle.il_fault_laws.proofs.Surplus.{IsLabel, TheEndOf}
use Rattle.il_fault_laws.proofs.Completed.{heading_opens, fill_end, cut_run, open_steps, depth_least, EndsIn, Rests, completed}
use Rattle.il_fault_laws.proofs.Found.{HasStep}

-- no more than 16 parentheses are open at once
abbrev pub IsShallow : List Step → Type 0
IsShallow steps = greatest_depth 0 steps ≤ 16

label_line_filling : IsFilling tight always (λ text. SpellsLabelLine text)
label_line_filling = record { one = label_line_fills }

closing_solid : (last : Keyword) (depth : ℕ) → is_solid (closing_samples last depth) ≡ true
closing_solid last zero = refl
closing_solid last (suc depth) = refl

rest_solid : (last : Keyword) (depth : ℕ) (load : Bool) → is_solid (rest_samples last depth load) ≡ true
rest_solid last zero load = refl
rest_solid last (suc depth) false = refl
rest_solid last (suc depth) true = refl

-- after a label its line ends, and the body
label_rests : (K : List Step → Type 0) (text : List ℕ) (kind : UnitKind) (steps : List Step) (here : List Token) (t : Token) (tl r : List Token) (ls : List Named) (n : Named) → Repeats (SpellsLabelLine text) ls Nothing here (t ∷ tl) → SpellsLabel text n (t ∷ tl) r
    → IsTrue (is_nested 0 false (steps ++ [])) → K (steps ++ []) → Rests kind steps K text here r (line_end_sample ∷ word_sample (end_word kind) ∷ [])
label_rests K text kind steps here t tl r ls n run label nested keeps = λ other us vs rest c a solid.
    let inside = (label_fills n).opens.ends text (t ∷ tl) r label in
    let k = cut_run label_line_filling text other ls here us (t ∷ tl) r vs c run inside ((label_fills n).takes.less text (t ∷ tl) r label) in
    let l = (label_fills n).opens.keeps text other r (t ∷ tl) k.0 vs r label (end_self r) k.2 (inr tt) in
    let edge = cut_here text other r r l.0 vs l.2 refl in
    let mid = samples_apart other (line_end_sample ∷ []) (word_sample (end_word kind) ∷ []) vs rest a in
    let line = line_end_sampled.stands other vs mid.0 mid.1 tt in
    let last = (placed_word_sampled (end_word kind)).stands other mid.0 rest mid.2 tt in
    let still = (stays_loose {samples = word_sample (end_word kind) ∷ []} {test = always} refl).same other mid.0 rest mid.2 tt in (
      [],
      (ls ++ n ∷ [], last.0),
      join_run (SpellsLabelLine other) ls (n ∷ []) (TheEndOf other (end_word kind) ([], last.0)) us k.0 rest k.1
          (mid.0, (vs, subst (λ (x : List Token). SpellsLabel other n k.0 x) edge l.1, line.1), subst (λ (x : List Token). TheEndOf other (end_word kind) ([], last.0) x rest) (sym still) last.1),
      nested,
      keeps,
    )

-- after an instruction the parentheses are closed
step_rests : (text : List ℕ) (kind : UnitKind) (steps : List Step) (here m : List Token) (s : Step) (depth : ℕ) (load : Bool) (most : ℕ) → SpellsStep text s here m → IsOpen (steps ++ s ∷ []) depth load most → depth ≤ 16 → most ≤ 16
    → Rests kind steps IsShallow text here m (rest_samples (end_word kind) depth load)
step_rests text kind steps here m s depth load most step open_ few low = λ other us vs rest c a solid.
    let k = (step_fills s).opens.keeps text other m here us vs m step (end_self m) c (inr tt) in
    let edge = cut_here text other m m k.0 vs k.2 refl in
    let x = (rest_sampled (end_word kind) depth load).stands other vs rest a tt in
    let still = (stays_loose {test = always} (rest_solid (end_word kind) depth load)).same other vs rest a tt in
    let deep = ap (λ ys. greatest_depth 0 ys) (regroup steps s x.0.0) ∙ open_.deep x.0.0 in (
      s ∷ x.0.0,
      x.0.1,
      (vs, subst (λ (j : List Token). SpellsStep other s us j) edge k.1, subst (λ (j : List Token). Repeats (SpellsStep other) x.0.0 (TheEndOf other (end_word kind) x.0.1) j rest) (sym still) x.1.1),
      ap (λ ys. is_nested 0 false ys) (regroup steps s x.0.0) ∙ open_.nested x.0.0 ∙ x.1.0,
      small (greatest_depth 0 (steps ++ s ∷ x.0.0)) most (greatest_depth depth x.0.0) deep x.1.2 low,
    )
  where
    small : (g a b : ℕ) → g ≡ max a b → b ≤ depth → a ≤ 16 → g ≤ 16
    small g a b e l k = omega (arith, e, l, few, k)

-- an operand after an operator
at_more : (p : Place) (F G : Front) (us m r : List Token) → At p F us m → G m r → At p (F ⨾ G) us r
at_more p F G [] m r w g = absurd w
at_more p F G (u ∷ us) m r w g = (w.0, w.1, (m, w.2, g))

labelled_more : (text : List ℕ) (ns : List Named) (p : Place) (F G : Front) (us m r : List Token) → SpellsLabelled text ns (At p F) us m → G m r → SpellsLabelled text ns (At p (F ⨾ G)) us r
labelled_more text [] p F G us m r w g = at_more p F G us m r w g
labelled_more text (n ∷ []) p F G us m r w g = (w.0, w.1, at_more p F G (skip_line_ends w.0) m r w.2 g)
labelled_more text (n ∷ o ∷ ns) p F G us m r w g = (w.0, w.1, (w.2.0, w.2.1, labelled_more text (o ∷ ns) p F G (skip_line_ends w.2.0) m r w.2.2 g))

-- an operator with its labels, as an operation
abbrev operation : List Named → Place → Operator → Operand → Step
operation ns p op o = record { labels = ns; place = p; instruction = instruction.Operate op o }

operator_rests : (text : List ℕ) (kind : UnitKind) (steps : List Step) (here m : List Token) (ns : List Named) (p : Place) (op : Operator) (depth : ℕ) (load : Bool) (most : ℕ) → SpellsLabelled text ns (At p (SpellsOperator text op)) here m
    → IsOpen steps depth load most → ((o : Operand) → may_stand depth load (operation ns p op o) ≡ true) → depth ≤ 16 → most ≤ 16 → Rests kind steps IsShallow text here m ((true_sample ∷ line_end_sample ∷ []) ++ rest_samples (end_word kind) depth false)
operator_rests text kind steps here m ns p op depth load most w open_ may few low = λ other us vs rest c a solid.
    let calm_here = (passes_calm {samples = (true_sample ∷ line_end_sample ∷ []) ++ rest_samples (end_word kind) depth false} {test = always} refl).yes other vs rest a tt in
    let k = (labelled_fills (fill_placed p (operator_fills op)) ns).opens.keeps text other m here us vs m w (end_self m) c (inr calm_here) in
    let edge = cut_here text other m m k.0 vs k.2 refl in
    let mid = samples_apart other (true_sample ∷ line_end_sample ∷ []) (rest_samples (end_word kind) depth false) vs rest a in
    let o = operand_line_sampled.stands other vs mid.0 mid.1 tt in
    let x = (rest_sampled (end_word kind) depth false).stands other mid.0 rest mid.2 tt in
    let still = (stays_loose {test = always} (rest_solid (end_word kind) depth false)).same other mid.0 rest mid.2 tt in
    let s = operation ns p op o.0 in
    let next = one_open steps depth load most s open_ (may o.0) in
    let deep = ap (λ ys. greatest_depth 0 ys) (regroup steps s x.0.0) ∙ next.deep x.0.0 in (
      s ∷ x.0.0,
      x.0.1,
      (
        mid.0,
        labelled_more other ns p (SpellsOperator other op) (SpellsOperand other tight o.0 ⨾ TheLineEnd) us vs mid.0 (subst (λ (j : List Token). SpellsLabelled other ns (At p (SpellsOperator other op)) us j) edge k.1) o.1,
        subst (λ (j : List Token). Repeats (SpellsStep other) x.0.0 (TheEndOf other (end_word kind) x.0.1) j rest) (sym still) x.1.1,
      ),
      ap (λ ys. is_nested 0 false ys) (regroup steps s x.0.0) ∙ next.nested x.0.0 ∙ x.1.0,
      small (greatest_depth 0 (steps ++ s ∷ x.0.0)) (greatest_depth depth x.0.0) deep x.1.2,
    )
  where
    small : (g b : ℕ) → g ≡ max (max most depth) b → b ≤ depth → g ≤ 16
    small g b e l = omega (arith, e, l, few, low)

-- WHAT STANDS IN A TEXT

-- what is open after instructions that begin shallow ones
pub bounds : (steps more : List Step) (depth : ℕ) (load : Bool) (most : ℕ) → IsOpen steps depth load most → IsShallow (steps ++ more) → (depth ≤ 16) × (most ≤ 16)
bounds steps more depth load most o low = go (greatest_depth 0 (steps ++ more)) (greatest_depth depth more) (o.deep more) (depth_least depth more) low
  where
    go : (g b : ℕ) → g ≡ max most b → depth ≤ b → g ≤ 16 → (depth ≤ 16) × (most ≤ 16)
    go g b e l k = (omega (arith, e, l, k), omega (arith, e, k))

-- where labels are none is open
no_depth : (depth : ℕ) (load : Bool) (s : Step) (l : Named) (ls : List Named) → s.labels ≡ l ∷ ls → may_stand depth load s ≡ true → depth ≡ 0
no_depth zero load s l ls is may = refl
no_depth (suc depth) load s l ls is may =
    let zero_labels = both_left _ _ (both_left _ _ may) in
    let some : (length s.labels == 0) ≡ false = ap (λ (xs : List Named). length xs == 0) is ∙ not_zero (length ls) in
    let bad : false ≡ true = sym some ∙ zero_labels in
    absurd cc

first_label : (text : List ℕ) (t : Token) (here : List Token) → IsLabel text t here → (n : Named) × (r : List Token) × SpellsLabel text n here r
first_label text t here ([], tl, run, n, r, label) = (n, r, subst (λ (x : List Token). SpellsLabel text n x r) (sym run) label)
first_label text t here (l ∷ ls, tl, run, n, r, label) = (l, run.1.0, run.1.1)

module _ (text : List ℕ) where
  nested_label : (steps more : List Step) (last : Keyword) (y : List Named × Place) (t : Token) (here q : List Token) → IsTrue (is_nested 0 false (steps ++ more)) → Repeats (SpellsStep text) more (TheEndOf text last y) here q → IsLabel text t here → IsTrue (is_nested 0 false (steps ++ []))
  nested_label steps [] last y t here q nested w label = nested
  nested_label steps (s ∷ more) last y t here q nested w label = go s.labels refl w.1
    where
      go : (ns : List Named) → s.labels ≡ ns → SpellsLabelled text ns (At s.place (SpellsInstruction text s.instruction)) here w.0 → IsTrue (is_nested 0 false (steps ++ []))
      go [] is at = let l = first_label text t here label in absurd (instruction_no_label text s.instruction l.0 here w.0 l.1 (at_holds text (SpellsInstruction text s.instruction) s.place here w.0 at) l.2)
      go (n ∷ ns) is at =
          let o = open_steps [] steps (s ∷ more) 0 false 0 none_open nested in
          let may = both_left _ _ (sym (o.3.nested (s ∷ more)) ∙ nested) in
          let none = no_depth o.0 o.1 s n ns is may in
          ap (λ ys. is_nested 0 false ys) (append-nil steps) ∙ closed steps o.0 o.1 o.2 o.3 ∙ ap (λ (d : ℕ). d == 0) none

-- an instruction with its labels, without these
pub inner : (text : List ℕ) (ns : List Named) (p : Place) (F : Front) (us m : List Token) → SpellsLabelled text ns (At p F) us m → (xs : List Token) × IsEndOf xs us × At p F xs m
inner text [] p F us m w = (us, end_self us, w)
inner text (n ∷ []) p F us m w =
    (skip_line_ends w.0, end_of_end (skip_line_ends w.0) w.0 us ((label_fills n).opens.ends text us w.0 w.1) (loose_gap.ends w.0), w.2)
inner text (n ∷ o ∷ ns) p F us m w =
    let k = inner text (o ∷ ns) p F (skip_line_ends w.2.0) m w.2.2 in
    let e = end_of_end (skip_line_ends w.2.0) w.2.0 w.0 (line_end_fills.opens.ends text w.0 w.2.0 w.2.1) (loose_gap.ends w.2.0) in
    (k.0, end_of_end k.0 (skip_line_ends w.2.0) us (end_of_end (skip_line_ends w.2.0) w.0 us ((label_fills n).opens.ends text us w.0 w.1) e) k.1, k.2)

-- the first of two parts after labels
at_first : (p : Place) (F G : Front) (us r : List Token) → At p (F ⨾ G) us r → (m : List Token) × At p F us m × G m r
at_first p F G [] r w = absurd w
at_first p F G (u ∷ us) r w = (w.2.0, (w.0, w.1, w.2.1), w.2.2)

labelled_first : (text : List ℕ) (ns : List Named) (p : Place) (F G : Front) (us r : List Token) → SpellsLabelled text ns (At p (F ⨾ G)) us r → (m : List Token) × SpellsLabelled text ns (At p F) us m × G m r
labelled_first text [] p F G us r w = at_first p F G us r w
labelled_first text (n ∷ []) p F G us r w = let k = at_first p F G (skip_line_ends w.0) r w.2 in (k.0, (w.0, w.1, k.1), k.2)
labelled_first text (n ∷ o ∷ ns) p F G us r w = let k = labelled_first text (o ∷ ns) p F G (skip_line_ends w.2.0) r w.2.2 in (k.0, (w.0, w.1, (w.2.0, w.2.1, k.1)), k.2)

-- TEXTS THAT GO ON

-- an operation with an operand may be where one with a parenthesis may
operation_may : (depth : ℕ) (load : Bool) (s : Step) (op : Operator) (first : Option Operand) → s.instruction ≡ instruction.Defer op first → may_stand depth load s ≡ true → (o : Operand) → may_stand depth load (operation s.labels s.place op o) ≡ true
operation_may zero load s op first is may o = refl
operation_may (suc depth) load s op first is may o = go load (length s.labels == 0) (subst (λ (i : Instruction). may_stand (suc depth) load (record { labels = s.labels; place = s.place; instruction = i }) ≡ true) is may)
  where
    go : (l b : Bool) → ((b && true) && (not l || false)) ≡ true → ((b && true) && (not l || false)) ≡ true
    go l b e = e

module _ (text : List ℕ) (whole : List Token) (cut : AreTokens text 0 whole) (t : Token) (front : List ProgramUnit) (steps : List Step) (d : Config) (h : HasStep text t front steps whole d) where
  -- the parentheses of the unit fit
  all_nested : IsTrue (is_nested 0 false (steps ++ h.it.more))
  all_nested = let x = split_unit text h.unit h.from h.behind h.spelled in subst (λ (ys : List Step). IsTrue (is_nested 0 false ys)) h.it.steps x.2.0

  -- after a label
  pub behind_label : (l : IsLabel text t h.it.here) → IsBegun (λ vs c. EndsIn front h.unit (λ ys. ys ≡ steps ++ []) c) text whole l.4
  behind_label l =
      let inside = (label_fills l.3).opens.ends text (t ∷ l.1) l.4 l.5 in
      let less = (label_fills l.3).takes.less text (t ∷ l.1) l.4 l.5 in
      let e = fill_end label_line_filling text l.0 h.it.here (t ∷ l.1) l.2 in
      let short = end_length (t ∷ l.1) h.it.here e in
      completed text whole cut front h.unit steps (λ ys. ys ≡ steps ++ []) h.from h.it.bt h.it.line h.it.here l.4 (line_end_sample ∷ word_sample (end_word h.unit.kind) ∷ []) h.read h.spelled.0 h.it.heading h.it.line_end h.it.read (end_of_end l.4 (t ∷ l.1) h.it.here e inside) (omega (arith, less, short))
      (label_rests (λ ys. ys ≡ steps ++ []) text h.unit.kind steps h.it.here t l.1 l.4 l.0 l.3 l.2 l.5 (nested_label text steps h.it.more (end_word h.unit.kind) (h.unit.body.last_labels, h.unit.body.end) t h.it.here h.behind all_nested h.it.rest l) refl)

  module _ (s : Step) (ms : List Step) (is : h.it.more ≡ s ∷ ms) where
    -- the instruction at the token
    pub own_rest : Repeats (SpellsStep text) (s ∷ ms) (TheEndOf text (end_word h.unit.kind) (h.unit.body.last_labels, h.unit.body.end)) h.it.here h.behind
    own_rest = subst (λ (ys : List Step). Repeats (SpellsStep text) ys (TheEndOf text (end_word h.unit.kind) (h.unit.body.last_labels, h.unit.body.end)) h.it.here h.behind) is h.it.rest

    pub own_nested : IsTrue (is_nested 0 false (steps ++ s ∷ ms))
    own_nested = subst (λ (ys : List Step). IsTrue (is_nested 0 false (steps ++ ys))) is all_nested

    -- after an instruction that opens no parenthesis
    pub behind_step : (shallow : List Step) → IsShallow (steps ++ shallow) → ((depth : ℕ) → depth_after depth s.instruction ≤ depth) → IsBegun (λ vs c. EndsIn front h.unit IsShallow c) text whole own_rest.0
    behind_step shallow low opens_none =
        let o = open_steps [] steps (s ∷ ms) 0 false 0 none_open own_nested in
        let may = both_left _ _ (sym (o.3.nested (s ∷ ms)) ∙ own_nested) in
        let next = one_open steps o.0 o.1 o.2 s o.3 may in
        let b = bounds steps shallow o.0 o.1 o.2 o.3 low in
        let down = opens_none o.0 in
        completed text whole cut front h.unit steps IsShallow h.from h.it.bt h.it.line h.it.here own_rest.0 (rest_samples (end_word h.unit.kind) (depth_after o.0 s.instruction) (needs_load s.instruction)) h.read h.spelled.0 h.it.heading h.it.line_end h.it.read ((step_fills s).opens.ends text h.it.here own_rest.0 own_rest.1)
        ((step_fills s).takes.less text h.it.here own_rest.0 own_rest.1)
        (step_rests text h.unit.kind steps h.it.here own_rest.0 s (depth_after o.0 s.instruction) (needs_load s.instruction) (max o.2 o.0) own_rest.1 next (below o.0 (depth_after o.0 s.instruction) down b.0) (both_low o.2 o.0 b.1 b.0))
      where
        below : (d n : ℕ) → n ≤ d → d ≤ 16 → n ≤ 16
        below d n a b = omega (arith, a, b)

        both_low : (a b : ℕ) → a ≤ 16 → b ≤ 16 → max a b ≤ 16
        both_low a b x y = omega (arith, x, y)

    -- after its operator, where it opens one
    pub behind_operator : (shallow : List Step) → IsShallow (steps ++ shallow) → (op : Operator) (first : Option Operand) → s.instruction ≡ instruction.Defer op first
        → (m : List Token) × SpellsLabelled text s.labels (At s.place (SpellsOperator text op)) h.it.here m × IsBegun (λ vs c. EndsIn front h.unit IsShallow c) text whole m
    behind_operator shallow low op first deferred =
        let o = open_steps [] steps (s ∷ ms) 0 false 0 none_open own_nested in
        let may = both_left _ _ (sym (o.3.nested (s ∷ ms)) ∙ own_nested) in
        let b = bounds steps shallow o.0 o.1 o.2 o.3 low in
        let at = subst (λ (i : Instruction). SpellsLabelled text s.labels (At s.place (SpellsInstruction text i)) h.it.here own_rest.0) deferred own_rest.1 in
        let k = labelled_first text s.labels s.place (SpellsOperator text op) (TheSign OpenParenthesis ⨾ SpellsFirst text first) h.it.here own_rest.0 at in
        let fill = labelled_fills (fill_placed s.place (operator_fills op)) s.labels in (
          k.0,
          k.1,
          completed text whole cut front h.unit steps IsShallow h.from h.it.bt h.it.line h.it.here k.0 ((true_sample ∷ line_end_sample ∷ []) ++ rest_samples (end_word h.unit.kind) o.0 false) h.read h.spelled.0 h.it.heading h.it.line_end h.it.read (fill.opens.ends text h.it.here k.0 k.1) (fill.takes.less text h.it.here k.0 k.1)
              (operator_rests text h.unit.kind steps h.it.here k.0 s.labels s.place op o.0 o.1 o.2 k.1 o.3 (operation_may o.0 o.1 s op first deferred may) b.0 b.1),
        )

-- what follows the instructions is an end
pub here_inside : (text : List ℕ) (whole : List Token) (t : Token) (front : List ProgramUnit) (steps : List Step) (d : Config) (h : HasStep text t front steps whole d) → IsEndOf h.it.here whole
here_inside text whole t front steps d h =
    let e1 = fill_end step_filling text steps (skip_line_ends h.it.line) h.it.here h.it.read in
    let e2 = end_of_end h.it.here (skip_line_ends h.it.line) h.it.line (loose_gap.ends h.it.line) e1 in
    let e3 = end_of_end h.it.here h.it.line h.it.bt (line_end_fills.opens.ends text h.it.bt h.it.line h.it.line_end) e2 in
    let e4 = end_of_end h.it.here h.it.bt h.from ((heading_opens h.unit.kind (heading_of h.unit)).ends text h.from h.it.bt h.it.heading) e3 in
    let e5 = end_of_end h.it.here h.from (skip_line_ends whole) (fill_end unit_filling text front (skip_line_ends whole) h.from h.read) e4 in
    end_of_end h.it.here (skip_line_ends whole) whole (loose_gap.ends whole) e5

-- and so is a label there
pub label_inside : (text : List ℕ) (whole : List Token) (t : Token) (front : List ProgramUnit) (steps : List Step) (d : Config) (h : HasStep text t front steps whole d) (l : IsLabel text t h.it.here) → IsEndOf (t ∷ l.1) whole
label_inside text whole t front steps d h l = end_of_end (t ∷ l.1) h.it.here whole (here_inside text whole t front steps d h) (fill_end label_line_filling text l.0 h.it.here (t ∷ l.1) l.2)
