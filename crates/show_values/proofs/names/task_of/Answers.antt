use Rattle.std.proofs.Common.{arith, ◌≡◌, ◌++◌, ◌∷◌, [], ℕ, sym, ◌∙◌}
use Rattle.std.specs.Prelude.{codes, ◌+◌}
use Rattle.show_values.proofs.Reading.{named, none_named, each_of_eight}
use Rattle.show_values.proofs.names.task_of.Goals as goal

pub returns-in-CAR1-clause-some : goal.returns-in-CAR1-clause-some
returns-in-CAR1-clause-some c = (omega arith, c.in-CAR1.is ∙ sym (named 1 (omega arith) (omega arith)))

pub returns-in-CAR2-clause-some : goal.returns-in-CAR2-clause-some
returns-in-CAR2-clause-some c = (omega arith, c.in-CAR2.is ∙ sym (named 2 (omega arith) (omega arith)))

pub returns-in-CAR3-clause-some : goal.returns-in-CAR3-clause-some
returns-in-CAR3-clause-some c = (omega arith, c.in-CAR3.is ∙ sym (named 3 (omega arith) (omega arith)))

pub returns-in-CAR4-clause-some : goal.returns-in-CAR4-clause-some
returns-in-CAR4-clause-some c = (omega arith, c.in-CAR4.is ∙ sym (named 4 (omega arith) (omega arith)))

pub returns-in-CAR5-clause-some : goal.returns-in-CAR5-clause-some
returns-in-CAR5-clause-some c = (omega arith, c.in-CAR5.is ∙ sym (named 5 (omega arith) (omega arith)))

pub returns-in-CAR6-clause-some : goal.returns-in-CAR6-clause-some
returns-in-CAR6-clause-some c = (omega arith, c.in-CAR6.is ∙ sym (named 6 (omega arith) (omega arith)))

pub returns-in-CAR7-clause-some : goal.returns-in-CAR7-clause-some
returns-in-CAR7-clause-some c = (omega arith, c.in-CAR7.is ∙ sym (named 7 (omega arith) (omega arith)))

pub returns-in-CAR8-clause-some : goal.returns-in-CAR8-clause-some
returns-in-CAR8-clause-some c = (omega arith, c.in-CAR8.is ∙ sym (named 8 (omega arith) (omega arith)))

pub returns-in_default-clause-none : goal.returns-in_default-clause-none
returns-in_default-clause-none c = λ _.
    none_named c.args.word.now c.in_default.not-GROUP
    (each_of_eight (λ (car : ℕ). c.args.word.now ≡ codes "CAR" ++ (48 + car) ∷ [] → ⊥) c.in_default.not-CAR1 c.in_default.not-CAR2 c.in_default.not-CAR3 c.in_default.not-CAR4 c.in_default.not-CAR5 c.in_default.not-CAR6 c.in_default.not-CAR7 c.in_default.not-CAR8)
