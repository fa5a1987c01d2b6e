-- The current result on a straight line, and what breaks the rules of types there.
use Rattle.std.proofs.Common.{◌≡◌, ℕ, zero, suc, ◌+◌, ◌≤◌, true, List, [], ◌∷◌, ◌++◌, length, take, refl, sym, ap, ◌∙◌, subst, Option, Some, None, option_map, option_and_then, slice_get, arith, add-one, inl, inr}
use Rattle.std.specs.Prelude.{Contains}
use Rattle.std.proofs.lemmas.Option.{slice_get_cases, slice_get_within}
use Rattle.il_syntax.specs.declared.tree.Config.{Config}
use Rattle.il_syntax.specs.declared.tree.Unit.{Unit as ProgramUnit}
use Rattle.il_syntax.specs.declared.tree.Body.{Body}
use Rattle.il_syntax.specs.declared.tree.Step.{Step}
use Rattle.il_syntax.specs.declared.tree.Named.{Named}
use Rattle.il_syntax.specs.declared.tree.Place.{Place}
use Rattle.il_syntax.specs.declared.tree.Elementary.{Elementary}
use Rattle.il_syntax.specs.declared.tree.Instruction.{Instruction}
use Rattle.il_syntax.specs.declared.tree.Instruction.TheVariants.{Load, Store, Not, Operate, Invoke}
use Rattle.il_statics.specs.Types.{type_behind, type_after, typing_numbers, opener, opened_behind, opened_after, innermost, goes_on, Opened, JumpsAt, Follows, onward, jumped, IsReached, IsResultAt, IsDeferredAt}
use Rattle.il_witnesses.specs.Straight.{AreStraightSteps, IsStraightInstruction}
use Rattle.il_witnesses.specs.Straight.{type_line, line_type, AreTyped}
use Rattle.il_statics.specs.Faults.{BreaksTypes, of_instruction, Typing, HasNoFault, Broken}
use Rattle.il_statics.proofs.Passes.{only_one, leads_on, join_of_paths, paths_of_join, GivesBehind, entry-none}

-- the one unit
pub only_unit : (config : Config) (unit : ProgramUnit) → config.units ≡ unit ∷ [] → (other : ProgramUnit) → Contains config.units other → other ≡ unit
only_unit config unit alone other c = only_one unit other (subst (λ l. Contains l other) alone c)

-- it is among the units
pub among_units : (config : Config) (unit : ProgramUnit) → config.units ≡ unit ∷ [] → Contains config.units unit
among_units config unit alone = subst (λ l. Contains l unit) (sym alone) (0, omega arith, refl)

-- each instruction of a body that is supported is supported, and has no label
pub step_supported : (steps : List Step) → AreStraightSteps steps → (at : ℕ) (s : Step) → slice_get steps at ≡ Some s → (s.labels ≡ []) × IsStraightInstruction s.instruction
step_supported [] c at s e = let bad : None ≡ Some s = e in cc
step_supported (x ∷ xs) c zero s e = let same : x ≡ s = cc in subst (λ y. (y.labels ≡ []) × IsStraightInstruction y.instruction) same (c.0, c.1)
step_supported (x ∷ xs) c (suc at) s e = step_supported xs c.2 at s e

-- the next place follows it
pub on_and_on : (i : Instruction) → IsStraightInstruction i → goes_on i ≡ true
on_and_on (Load negated operand) c = refl
on_and_on (Store kind to) c = refl
on_and_on Not c = refl
on_and_on (Operate operator operand) c = refl
on_and_on (Invoke function operands) c = refl
on_and_on _ c = absurd c

-- it opens no parenthesis
pub opens_none : (opened : List Opened) (at : ℕ) (i : Instruction) → IsStraightInstruction i → opened_after opened at i ≡ opened
opens_none opened at (Load negated operand) c = refl
opens_none opened at (Store kind to) c = refl
opens_none opened at Not c = refl
opens_none opened at (Operate operator operand) c = refl
opens_none opened at (Invoke function operands) c = refl
opens_none opened at _ c = absurd c

-- no instruction jumps
pub no_jump : (body : Body) → AreStraightSteps body.steps → (at : ℕ) (s : Step) (label : Named) → JumpsAt body at s label → ⊥
no_jump body c at s label j = subst IsStraightInstruction j.jumps (step_supported body.steps c at s j.stands).1

-- only the next place follows
follows_next : (body : Body) → AreStraightSteps body.steps → (at to : ℕ) → Follows body at to → to ≡ at + 1
follows_next body c at to (onward s stands on next) = next
follows_next body c at to (jumped s label jumps known up) = absurd (no_jump body c at s label jumps)

-- nothing is open
open_none : (steps : List Step) → AreStraightSteps steps → (start at : ℕ) → opened_behind [] start steps at ≡ []
open_none [] c start at = refl
open_none (s ∷ steps) c start zero = refl
open_none (s ∷ steps) c start (suc at) = ap (λ o. opened_behind o (start + 1) steps at) (opens_none [] start s.instruction c.1) ∙ open_none steps c.2 (start + 1) at

-- no parenthesis is open
pub opener_none : (body : Body) → AreStraightSteps body.steps → (at : ℕ) → opener body at ≡ None
unfolding opener
opener_none body c at = ap innermost (open_none body.steps c 0 at)

-- nothing waits
pub waits_none : (config : Config) (unit : ProgramUnit) (o : Option Opened) → o ≡ None → IsDeferredAt config unit o None
waits_none config unit o e = subst (λ p. IsDeferredAt config unit p None) (sym e) refl

-- one instruction more
pub type_line_next : (config : Config) (unit : ProgramUnit) (steps : List Step) (at : ℕ) (s : Step) (before : Option Elementary) → slice_get steps at ≡ Some s
    → type_line config unit (take (suc at) steps) before ≡ type_after config unit None s.instruction (type_line config unit (take at steps) before)
type_line_next config unit [] at s before e = let bad : None ≡ Some s = e in cc
type_line_next config unit (x ∷ xs) zero s before e = let same : x ≡ s = cc in ap (λ y. type_after config unit None y.instruction before) same
type_line_next config unit (x ∷ xs) (suc at) s before e = type_line_next config unit xs at s (type_after config unit None x.instruction before) e

-- a place on the line: it is reached, with this result
pub record IsOnLine (config : Config) (unit : ProgramUnit) (at : ℕ) : Type 0 where
  pub reached : IsReached unit.body at
  pub result : IsResultAt config unit at (line_type config unit at)

-- from one place to the next
line_next : (config : Config) (unit : ProgramUnit) → AreStraightSteps unit.body.steps → (n : ℕ) (s : Step) → slice_get unit.body.steps n ≡ Some s → IsOnLine config unit n → IsOnLine config unit (n + 1)
line_next config unit supported n s e here =
    record { reached = there; result = result_at (line_type config unit (n + 1)) refl }
  where
    on : Follows unit.body n (n + 1)
    on = onward s e (on_and_on s.instruction (step_supported unit.body.steps supported n s e).1) refl

    there : IsReached unit.body (n + 1)
    there = (here.reached.0 ++ (n + 1) ∷ [], leads_on unit.body 0 here.reached.0 n (n + 1) here.reached.1 on)

    behind : type_behind config unit n (line_type config unit n) ≡ line_type config unit (n + 1)
    behind =
        ap (λ o. option_and_then (λ x. type_after config unit (option_map (λ o. o.1) (opener unit.body n)) x.instruction (line_type config unit n)) o) e
        ∙ ap (λ o. type_after config unit (option_map (λ o. o.1) o) s.instruction (line_type config unit n)) (opener_none unit.body supported n)
        ∙ sym (type_line_next config unit unit.body.steps n s None e) ∙ ap (λ k. type_line config unit (take k unit.body.steps) None) (sym (add-one n))

    from_next : (mid : ℕ) → n + 1 ≡ mid + 1 → n ≡ mid
    from_next mid same = omega arith

    result_at : (t : Option Elementary) → line_type config unit (n + 1) ≡ t → IsResultAt config unit (n + 1) t
    result_at (Some g) is =
        paths_of_join config unit (n + 1) g (omega arith) there (λ mid r f. let same : n ≡ mid = from_next mid (follows_next unit.body supported mid (n + 1) f) in subst (λ m. GivesBehind config unit m g) same (record { result = line_type config unit n; is = here.result; gives = behind ∙ is }))
    result_at None is =
        λ given all. none_is given (behind ∙ is) (join_of_paths config unit n (n + 1) given all here.reached on (line_type config unit n) here.result)
      where
        none_is : {t : Option Elementary} (g : Elementary) → t ≡ None → t ≡ Some g → ⊥
        none_is g a b = let bad : None ≡ Some g = sym a ∙ b in cc

-- each place of the body, and its end
pub on_line : (config : Config) (unit : ProgramUnit) → AreStraightSteps unit.body.steps → (n : ℕ) → n ≤ length unit.body.steps → IsOnLine config unit n
on_line config unit supported zero low = record { reached = ([], refl); result = entry-none config unit }
on_line config unit supported (suc n) low =
    let here = on_line config unit supported n (omega arith) in
    subst (IsOnLine config unit) (add-one n) (elim (slice_get_cases unit.body.steps n).1 [ inl x ↦ line_next config unit supported n x.0 x.2 here | inr x ↦ absurd (omega (arith, x.0)) ])

-- a rule of types that an instruction of the line breaks
pub breaks_on_line : (config : Config) (unit : ProgramUnit) → config.units ≡ unit ∷ [] → AreStraightSteps unit.body.steps → (n : ℕ) (p : Place) (at : ℕ) (s : Step) → slice_get unit.body.steps at ≡ Some s
    → Contains (typing_numbers config unit s.instruction (line_type config unit at) None) n → p ≡ s.place → BreaksTypes config n p
breaks_on_line config unit alone supported n p at s e c is = of_instruction (record {
  unit = unit;
  at = at;
  step = s;
  before = line_type config unit at;
  deferred = None;
  is_step = record { written = among_units config unit alone; stands = e };
  result = (on_line config unit supported at (let low = slice_get_within unit.body.steps at s e in omega arith)).result;
  waits = waits_none config unit (opener unit.body at) (opener_none unit.body supported at);
  broken = c;
  is_place = is;
})

-- where nothing of types is broken, no instruction of the line breaks one of its rules
pub are_typed : (config : Config) (unit : ProgramUnit) → config.units ≡ unit ∷ [] → AreStraightSteps unit.body.steps → HasNoFault (Broken Typing config) → AreTyped config unit
are_typed config unit alone supported unbroken at s e number c = unbroken number s.place (breaks_on_line config unit alone supported number s.place at s e c refl)
