-- The numbers of refusals, one argument after another.
use Rattle.std.proofs.Common.{◌≡◌, ℕ, zero, suc, ◌+◌, Bool, true, false, if◌then◌else◌, List, [], ◌∷◌, length, drop, Option, Some, None, slice_get, refl, sym, ap, ◌∙◌, add-one, arith}
use Rattle.ranges_interval.specs.declared.Interval.{Interval}
use Rattle.il_syntax.specs.declared.tree.Operand.{Operand}
use Rattle.il_syntax.specs.declared.tree.Argument.{Argument}
use Rattle.il_syntax.specs.declared.tree.Argument.TheVariants.{Input, Output}
use Rattle.base_maps.specs.NameMap.{get}
use Rattle.ranges_laws.specs.Facts.{Names, variables_of}
use Rattle.ranges_laws.specs.Numbers.{is_inside, unless_outside, operands_fault, arguments_fault}
use Rattle.ranges_pass.specs.Kinds.{is_argument_inside}
use Rattle.ranges_transfer.specs.Scopes.{denoted}

module _ (n : Names) (row : List Interval) where
  -- OPERANDS

  operands_next : (os : List Operand) (i : ℕ) (o : Operand) (number : ℕ) → slice_get os i ≡ Some o
      → operands_fault n.config n.unit (get (variables_of n row)) (drop i os) number ≡ unless_outside (get (variables_of n row)) (denoted n o.reference) (operands_fault n.config n.unit (get (variables_of n row)) (drop (suc i) os) number)
  operands_next [] i o number e = absurd (let bad : ◌≡◌ {A = Option Operand} None (Some o) = e in cc)
  operands_next (x ∷ os) zero o number e = ap (λ (y : Operand). unless_outside (get (variables_of n row)) (denoted n y.reference) (operands_fault n.config n.unit (get (variables_of n row)) os number)) (same x o e)
    where
      same : (x o : Operand) → Some x ≡ Some o → x ≡ o
      same x o e = cc
  operands_next (x ∷ os) (suc i) o number e = operands_next os i o number e

  abbrev pub OperandsOn : List Operand → ℕ → ℕ → Type 0
  OperandsOn os i number = operands_fault n.config n.unit (get (variables_of n row)) os number ≡ operands_fault n.config n.unit (get (variables_of n row)) (drop i os) number

  pub operand_outside : (os : List Operand) (i : ℕ) (o : Operand) (b : Bool) (number : ℕ) → OperandsOn os i number → slice_get os i ≡ Some o → b ≡ is_inside (get (variables_of n row)) (denoted n o.reference) → b ≡ false → 42 ≡ operands_fault n.config n.unit (get (variables_of n row)) os number
  operand_outside os i o b number on at is no_ =
      sym (on ∙ operands_next os i o number at ∙ ap (λ t. if t then operands_fault n.config n.unit (get (variables_of n row)) (drop (suc i) os) number else 42) (sym is ∙ no_))

  pub operand_goes_on : (os : List Operand) (i : ℕ) (o : Operand) (b : Bool) (number : ℕ) → OperandsOn os i number → slice_get os i ≡ Some o → b ≡ is_inside (get (variables_of n row)) (denoted n o.reference) → b ≡ true → OperandsOn os (i + 1) number
  operand_goes_on os i o b number on at is yes_ =
      on ∙ operands_next os i o number at ∙ ap (λ t. if t then operands_fault n.config n.unit (get (variables_of n row)) (drop (suc i) os) number else 42) (sym is ∙ yes_)
      ∙ ap (λ k. operands_fault n.config n.unit (get (variables_of n row)) (drop k os) number) (sym (add-one i))

  none_left : (os : List Operand) (i number : ℕ) → i ≡ length os → operands_fault n.config n.unit (get (variables_of n row)) (drop i os) number ≡ number
  none_left [] zero number e = refl
  none_left [] (suc i) number e = absurd (omega arith)
  none_left (x ∷ os) zero number e = absurd (omega arith)
  none_left (x ∷ os) (suc i) number e = none_left os i number (omega arith)

  pub operands_end : (os : List Operand) (i number : ℕ) → OperandsOn os i number → i ≡ length os → number ≡ operands_fault n.config n.unit (get (variables_of n row)) os number
  operands_end os i number on e = sym (on ∙ none_left os i number e)

  -- ARGUMENTS

  arguments_next : (os : List Argument) (i : ℕ) (a : Argument) → slice_get os i ≡ Some a
      → arguments_fault n.config n.unit (get (variables_of n row)) (drop i os) ≡ (if is_argument_inside n row a then arguments_fault n.config n.unit (get (variables_of n row)) (drop (suc i) os) else 42)
  arguments_next [] i a e = absurd (let bad : ◌≡◌ {A = Option Argument} None (Some a) = e in cc)
  arguments_next (x ∷ os) zero a e = by_kind x ∙ ap (λ y. if is_argument_inside n row y then arguments_fault n.config n.unit (get (variables_of n row)) os else 42) (same x a e)
    where
      same : (x a : Argument) → Some x ≡ Some a → x ≡ a
      same x a e = cc

      by_kind : (x : Argument) → arguments_fault n.config n.unit (get (variables_of n row)) (x ∷ os) ≡ (if is_argument_inside n row x then arguments_fault n.config n.unit (get (variables_of n row)) os else 42)
      by_kind (Input word o) = refl
      by_kind (Output word to) = refl
  arguments_next (x ∷ os) (suc i) a e = arguments_next os i a e

  abbrev pub ArgumentsOn : List Argument → ℕ → Type 0
  ArgumentsOn os i = arguments_fault n.config n.unit (get (variables_of n row)) os ≡ arguments_fault n.config n.unit (get (variables_of n row)) (drop i os)

  pub argument_outside : (os : List Argument) (i : ℕ) (a : Argument) (b : Bool) → ArgumentsOn os i → slice_get os i ≡ Some a → b ≡ is_argument_inside n row a → b ≡ false → 42 ≡ arguments_fault n.config n.unit (get (variables_of n row)) os
  argument_outside os i a b on at is no_ = sym (on ∙ arguments_next os i a at ∙ ap (λ t. if t then arguments_fault n.config n.unit (get (variables_of n row)) (drop (suc i) os) else 42) (sym is ∙ no_))

  pub argument_inside : (os : List Argument) (i : ℕ) (a : Argument) (b : Bool) → ArgumentsOn os i → slice_get os i ≡ Some a → b ≡ is_argument_inside n row a → b ≡ true → ArgumentsOn os (i + 1)
  argument_inside os i a b on at is yes_ =
      on ∙ arguments_next os i a at ∙ ap (λ t. if t then arguments_fault n.config n.unit (get (variables_of n row)) (drop (suc i) os) else 42) (sym is ∙ yes_)
      ∙ ap (λ k. arguments_fault n.config n.unit (get (variables_of n row)) (drop k os)) (sym (add-one i))

  no_more : (os : List Argument) (i : ℕ) → i ≡ length os → arguments_fault n.config n.unit (get (variables_of n row)) (drop i os) ≡ 44
  no_more [] zero e = refl
  no_more [] (suc i) e = absurd (omega arith)
  no_more (x ∷ os) zero e = absurd (omega arith)
  no_more (x ∷ os) (suc i) e = no_more os i (omega arith)

  pub arguments_end : (os : List Argument) (i : ℕ) → ArgumentsOn os i → i ≡ length os → 44 ≡ arguments_fault n.config n.unit (get (variables_of n row)) os
  arguments_end os i on e = sym (on ∙ no_more os i e)
