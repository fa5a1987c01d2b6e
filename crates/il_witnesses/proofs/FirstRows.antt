-- Faults that are the first of their phase.
use Rattle.std.proofs.Common.{◌≡◌, ℕ, ◌<◌, ◌≤◌, zero, suc, [], ◌∷◌, refl, arith, ap, sym, subst, ◌∙◌}
use Rattle.std.specs.Prelude.{Option, Some, None, Contains, slice_get}
use Rattle.il_syntax.specs.declared.tree.Place.{Place}
use Rattle.il_syntax.specs.declared.tree.Step.{Step}
use Rattle.il_syntax.specs.declared.tree.Named.{Named}
use Rattle.std.proofs.lemmas.Option.{slice_get_within}
use Rattle.il_syntax.specs.declared.tree.Unit.{Unit as ProgramUnit}
use Rattle.il_syntax.specs.declared.tree.ProgramLine.{ProgramLine}
use Rattle.il_syntax.specs.declared.tree.Config.{Config}
use Rattle.il_syntax.specs.declared.tree.Elementary.{Elementary}
use Rattle.il_statics.specs.Names.{Spelling, standard_function}
use Rattle.il_statics.specs.Types.{typing_numbers, type_after, opener, IsTypingBroken, IsDeferredAt, IsResultAt, IsReached, IsJump, JumpsAt, Deferred, Opened, TaskWrites, unknown_label as label_unknown, backward, unreached as never_reached, two_writers as written_twice}
use Rattle.il_statics.specs.Order.{HasTooManySlots, of_task, of_globals}
use Rattle.il_witnesses.specs.Straight.{line_type, AreStraightSteps}
use Rattle.il_statics.specs.Faults.{Broken, Declaring, Typing, Ordering, duplicate, unknown, empty_range, initial_outside, bad_task, other_type, of_instruction, unknown_label, backward_jump, two_writers, unreached, recursive, long_chain, too_many_slots, BreaksDeclarations, BreaksTypes, BreaksOrder, IsNoLater, earlier, same_place, IsFirst}
use Rattle.il_witnesses.proofs.Straight.{only_unit, on_line, opener_none, no_jump}
use Rattle.il_statics.proofs.Passes.{only_one, one_result}
use Rattle.il_witnesses.specs.Trees.{place}
use Rattle.il_witnesses.specs.Cases.{predeclared_unit, calls_itself, negated_number, negated_number_unit, added_boolean, added_boolean_unit, great_literal, great_literal_unit, no_result, no_result_unit, one_argument, one_argument_unit}
use Rattle.il_witnesses.proofs.DeclarationRows.{predeclared_unit-row}
use Rattle.il_witnesses.proofs.TypeRows.{calls_itself-row, negated_number-row, added_boolean-row, great_literal-row, no_result-row, one_argument-row}

-- AT THE FRONT OF A TEXT

-- the numbers of declarations begin with 20
from_twenty : (config : Config) (n : ℕ) (p : Place) → BreaksDeclarations config n p → 20 ≤ n
from_twenty config n p (duplicate e h) = omega arith
from_twenty config n p (unknown e h) = omega arith
from_twenty config n p (empty_range e h) = omega arith
from_twenty config n p (initial_outside e h) = omega arith
from_twenty config n p (bad_task e h) = omega arith
from_twenty config n p (other_type e h) = omega arith

-- at the front of the text a number that is not greater comes first
front : (n m : ℕ) (p q : Place) → p.offset ≡ 0 → n ≤ m → IsNoLater n p m q
front n m p q start le = go q.offset refl
  where
    go : (o : ℕ) → q.offset ≡ o → IsNoLater n p m q
    go zero is = same_place (start ∙ sym is) le
    go (suc o) is = earlier (omega (arith, start, is))

pub predeclared_unit-first : IsFirst (Broken Declaring predeclared_unit) 20 (place 0 1)
predeclared_unit-first = record { broken = predeclared_unit-row; first = λ m q b. front 20 m (place 0 1) q refl (from_twenty predeclared_unit m q b) }

-- the one PROGRAM line follows the front
late_line : (p : Place) → HasTooManySlots calls_itself p → 0 < p.offset
late_line p (of_task line program functions among is those many at) =
    let here : p.offset ≡ line.place.offset = ap (λ (x : Place). x.offset) at in
    let there = ap (λ (l : ProgramLine). l.place.offset) (only_one _ line among) in
    omega arith
late_line p (of_globals many at) = let bad : None ≡ Some p = at in absurd cc

pub calls_itself-first : IsFirst (Broken Ordering calls_itself) 36 (place 0 1)
calls_itself-first = record { broken = calls_itself-row; first = go }
  where
    go : (m : ℕ) (q : Place) → BreaksOrder calls_itself m q → IsNoLater 36 (place 0 1) m q
    go m q (recursive e h) = front 36 m (place 0 1) q refl (omega arith)
    go m q (long_chain e h) = front 36 m (place 0 1) q refl (omega arith)
    go m q (too_many_slots e h) = earlier (late_line q h)

-- ON A STRAIGHT LINE

-- a rule of types that is broken on a straight line is one of an instruction
record BreaksOnLine (config : Config) (unit : ProgramUnit) (n : ℕ) (p : Place) : Type 0 where
  at : ℕ
  step : Step
  stands : slice_get unit.body.steps at ≡ Some step
  broken : Contains (typing_numbers config unit step.instruction (line_type config unit at) None) n
  is_place : p ≡ step.place

-- nothing waits
waits_for_none : (config : Config) (unit : ProgramUnit) (o : Option Opened) (d : Option Deferred) → o ≡ None → IsDeferredAt config unit o d → d ≡ None
waits_for_none config unit None d e h = h
waits_for_none config unit (Some o) d e h = let bad : Some o ≡ None = e in absurd cc

-- a broken instruction of the unit
of_unit : (config : Config) (unit : ProgramUnit) → AreStraightSteps unit.body.steps → (n : ℕ) (p : Place) (h : IsTypingBroken config n p) → h.unit ≡ unit → BreaksOnLine config unit n p
of_unit config unit supported n p h same =
    let stands : slice_get unit.body.steps h.at ≡ Some h.step = subst (λ (u : ProgramUnit). slice_get u.body.steps h.at ≡ Some h.step) same h.is_step.stands in
    let low = slice_get_within unit.body.steps h.at h.step stands in
    let result = subst (λ (u : ProgramUnit). IsResultAt config u h.at h.before) same h.result in
    let before : h.before ≡ line_type config unit h.at = one_result config unit h.at (line_type config unit h.at) (on_line config unit supported h.at (omega arith)).result h.before result in
    let waits = subst (λ (u : ProgramUnit). IsDeferredAt config u (opener u.body h.at) h.deferred) same h.waits in
    let deferred : h.deferred ≡ None = waits_for_none config unit (opener unit.body h.at) h.deferred (opener_none unit.body supported h.at) waits in
    let of_this = subst (λ (u : ProgramUnit). Contains (typing_numbers config u h.step.instruction h.before h.deferred) n) same h.broken in
    let of_line = subst (λ (b : Option Elementary). Contains (typing_numbers config unit h.step.instruction b h.deferred) n) before of_this in
    record { at = h.at; step = h.step; stands = stands; broken = subst (λ (d : Option Deferred). Contains (typing_numbers config unit h.step.instruction (line_type config unit h.at) d) n) deferred of_line; is_place = h.is_place }

-- no instruction of the unit jumps
no_jump_of : (config : Config) (unit : ProgramUnit) → config.units ≡ unit ∷ [] → AreStraightSteps unit.body.steps → (u : ProgramUnit) (at : ℕ) (s : Step) (l : Named) → IsJump config u at s l → ⊥
no_jump_of config unit alone supported u at s l j =
    no_jump unit.body supported at s l (subst (λ (v : ProgramUnit). JumpsAt v.body at s l) (only_unit config unit alone u j.written) j.jumps)

-- one PROGRAM line has one task
one_task : (config : Config) (line : ProgramLine) → config.programs ≡ line ∷ [] → (task name : Spelling) → TaskWrites config task name → task ≡ line.task.name
one_task config line lines task name w =
    sym w.of_task ∙ ap (λ (l : ProgramLine). l.task.name) (only_one line w.line (subst (λ ls. Contains ls w.line) lines w.listed))

-- what is broken on a straight line that one task runs
on_the_line : (config : Config) (unit : ProgramUnit) → config.units ≡ unit ∷ [] → AreStraightSteps unit.body.steps → (line : ProgramLine) → config.programs ≡ line ∷ [] → (n : ℕ) (p : Place) → BreaksTypes config n p → BreaksOnLine config unit n p
on_the_line config unit alone supported line lines n p (of_instruction h) = of_unit config unit supported n p h (only_unit config unit alone h.unit h.is_step.written)
on_the_line config unit alone supported line lines n p (unknown_label e (label_unknown u at s l j none is)) = absurd (no_jump_of config unit alone supported u at s l j)
on_the_line config unit alone supported line lines n p (backward_jump e (backward u at to s l j found up is)) = absurd (no_jump_of config unit alone supported u at s l j)
on_the_line config unit alone supported line lines n p (two_writers e (written_twice name first second u among stores is_first one two other)) =
    absurd (other (one_task config line lines first name one ∙ sym (one_task config line lines second name two)))
on_the_line config unit alone supported line lines n p (unreached e (never_reached u at s h none is)) =
    let same = only_unit config unit alone u h.written in
    let stands : slice_get unit.body.steps at ≡ Some s = subst (λ (v : ProgramUnit). slice_get v.body.steps at ≡ Some s) same h.stands in
    let low = slice_get_within unit.body.steps at s stands in
    absurd (none (subst (λ (v : ProgramUnit). IsReached v.body at) (sym same) (on_line config unit supported at (omega arith)).reached))

-- what is at a place of a list of one
by_one : (a : Step) (P : ℕ → Step → Type 0) → P 0 a → (at : ℕ) (s : Step) → slice_get (a ∷ []) at ≡ Some s → P at s
by_one a P p zero s e = subst (P 0) (step_is a s e) p
  where
    step_is : (s t : Step) → Some s ≡ Some t → s ≡ t
    step_is s t e = cc
by_one a P p (suc k) s e = let bad : None ≡ Some s = e in absurd cc

-- what is at a place of a list of two
by_two : (a b : Step) (P : ℕ → Step → Type 0) → P 0 a → P 1 b → (at : ℕ) (s : Step) → slice_get (a ∷ b ∷ []) at ≡ Some s → P at s
by_two a b P p q zero s e = by_one a P p zero s e
by_two a b P p q (suc k) s e = by_one b (λ n t. P (suc n) t) q k s e

-- an instruction that breaks one number there alone
at_place : (n m : ℕ) (p q there : Place) → p.offset ≡ there.offset → Contains (n ∷ []) m → q ≡ there → IsNoLater n p m q
at_place n m p q there here c is = same_place (here ∙ sym (ap (λ (x : Place). x.offset) is)) (let one = only_one n m c in omega arith)

-- one that breaks nothing
breaks_none : (m : ℕ) (X : Type 0) → Contains [] m → X
breaks_none m X c = absurd (omega (arith, c.1))

pub negated_number-first : IsFirst (Broken Typing negated_number) 30 (place 10 2)
unfolding typing_numbers
negated_number-first = record {
  broken = negated_number-row;
  first = λ m q b.
      let h = on_the_line negated_number negated_number_unit refl (refl, tt, tt) _ refl m q b in
      let P : ℕ → Step → Type 0 = λ at s. Contains (typing_numbers negated_number negated_number_unit s.instruction (line_type negated_number negated_number_unit at) None) m → q ≡ s.place → IsNoLater 30 (place 10 2) m q in
      by_one _ P (λ c is. at_place 30 m (place 10 2) q (place 10 2) refl c is) h.at h.step h.stands h.broken h.is_place;
}

pub added_boolean-first : IsFirst (Broken Typing added_boolean) 30 (place 15 3)
unfolding typing_numbers type_after standard_function
added_boolean-first = record {
  broken = added_boolean-row;
  first = λ m q b.
      let h = on_the_line added_boolean added_boolean_unit refl (refl, tt, (refl, (tt, tt), tt)) _ refl m q b in
      let P : ℕ → Step → Type 0 = λ at s. Contains (typing_numbers added_boolean added_boolean_unit s.instruction (line_type added_boolean added_boolean_unit at) None) m → q ≡ s.place → IsNoLater 30 (place 15 3) m q in
      by_two _ _ P (λ c is. breaks_none m _ c) (λ c is. at_place 30 m (place 15 3) q (place 15 3) refl c is) h.at h.step h.stands h.broken h.is_place;
}

pub great_literal-first : IsFirst (Broken Typing great_literal) 31 (place 15 3)
unfolding typing_numbers type_after standard_function
great_literal-first = record {
  broken = great_literal-row;
  first = λ m q b.
      let h = on_the_line great_literal great_literal_unit refl (refl, tt, (refl, (tt, tt), tt)) _ refl m q b in
      let P : ℕ → Step → Type 0 = λ at s. Contains (typing_numbers great_literal great_literal_unit s.instruction (line_type great_literal great_literal_unit at) None) m → q ≡ s.place → IsNoLater 31 (place 15 3) m q in
      by_two _ _ P (λ c is. breaks_none m _ c) (λ c is. at_place 31 m (place 15 3) q (place 15 3) refl c is) h.at h.step h.stands h.broken h.is_place;
}

pub one_argument-first : IsFirst (Broken Typing one_argument) 37 (place 15 3)
unfolding typing_numbers type_after standard_function
one_argument-first = record {
  broken = one_argument-row;
  first = λ m q b.
      let h = on_the_line one_argument one_argument_unit refl (refl, tt, (refl, (refl, (tt, tt)), tt)) _ refl m q b in
      let P : ℕ → Step → Type 0 = λ at s. Contains (typing_numbers one_argument one_argument_unit s.instruction (line_type one_argument one_argument_unit at) None) m → q ≡ s.place → IsNoLater 37 (place 15 3) m q in
      by_two _ _ P (λ c is. breaks_none m _ c) (λ c is. at_place 37 m (place 15 3) q (place 15 3) refl c is) h.at h.step h.stands h.broken h.is_place;
}

pub no_result-first : IsFirst (Broken Typing no_result) 32 (place 10 2)
unfolding typing_numbers standard_function
no_result-first = record {
  broken = no_result-row;
  first = λ m q b.
      let h = on_the_line no_result no_result_unit refl (refl, (refl, (tt, (tt, tt))), tt) _ refl m q b in
      let P : ℕ → Step → Type 0 = λ at s. Contains (typing_numbers no_result no_result_unit s.instruction (line_type no_result no_result_unit at) None) m → q ≡ s.place → IsNoLater 32 (place 10 2) m q in
      by_one _ P (λ c is. at_place 32 m (place 10 2) q (place 10 2) refl c is) h.at h.step h.stands h.broken h.is_place;
}
