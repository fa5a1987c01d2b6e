use Rattle.il_syntax.specs.declared.token.Sign.TheVariants.{OpenParenthesis}
use Rattle.il_syntax.specs.Grammar.{TheSign}
use Rattle.load_lines.specs.Reads.{SpellsWorkBy}
use Rattle.load_lines.proofs.Chain.{was_there, was_missing}
use Rattle.load_lines.proofs.ByError.{up_by, deeper}
use Rattle.load_lines.proofs.Alternatives.{opened_refused, operand_refused}
use Rattle.il_syntax.specs.declared.tree.Instruction.TheVariants as instruction
use Rattle.load_lines.specs.Reads.{SpellsWorkOf}
use Rattle.load_lines.proofs.Breaks.{map_breaks, part_tight}
use Rattle.il_syntax_laws.proofs.Samples.{operand_line_sampled}
use Rattle.std.proofs.Common.{refl, Some, false}
use Rattle.il_syntax_laws.proofs.Open.{sign_fills}
use Rattle.load_lines.proofs.Completions.{as_effect, deep_breaks, up_so}
use Rattle.load_lines.specs.Reads.Effect.{Even, Opening}
use Rattle.load_lines.proofs.source.Source.work.Goals as goal

pub returns-in_err-first-clause-refused : goal.returns-in_err-first-clause-refused
returns-in_err-first-clause-refused c =
    let there = was_there (TheSign OpenParenthesis) c.args.tokens.now _ c.eat_sign.new.tokens c.eat_sign.ensures.eaten c.if-eat_sign.true in
    up_by (SpellsWorkBy c.args.room c.args.operator) _ c.from_residual.ensures.1 (opened_refused c.args.self.now _ _ _ _ _ there c.in_err-first.ensures.refused)

pub returns-in_err-operand-clause-refused : goal.returns-in_err-operand-clause-refused
returns-in_err-operand-clause-refused c =
    let none = was_missing (TheSign OpenParenthesis) c.args.tokens.now _ c.eat_sign.new.tokens c.eat_sign.ensures.eaten c.if-eat_sign.false in
    up_by (SpellsWorkBy c.args.room c.args.operator) _ c.from_residual-in_err-operand.ensures.1 (operand_refused c.args.self.now _ _ _ _ none.1 (rw none.0 at c.in_err-operand.ensures.refused))

pub returns-then-not-room-clause-refused : goal.returns-then-not-room-clause-refused
returns-then-not-room-clause-refused c =
    let there = was_there (TheSign OpenParenthesis) c.args.tokens.now _ c.eat_sign.new.tokens c.eat_sign.ensures.eaten c.if-eat_sign.true in
    deeper c.args.self.now _ _ _ _ _ there c.if-not-room.true c.fault-fault.ensures

pub returns-then-not-room-clause-begins : goal.returns-then-not-room-clause-begins
returns-then-not-room-clause-begins c =
    let there = was_there (TheSign OpenParenthesis) c.args.tokens.now _ c.eat_sign.new.tokens c.eat_sign.ensures.eaten c.if-eat_sign.true in
    deep_breaks c.args.operator _ _ there c.fault-fault.ensures

pub returns-in_err-first-clause-begins : goal.returns-in_err-first-clause-begins
returns-in_err-first-clause-begins c =
    let there = was_there (TheSign OpenParenthesis) c.args.tokens.now _ c.eat_sign.new.tokens c.eat_sign.ensures.eaten c.if-eat_sign.true in
    up_so _ _ c.from_residual.ensures.1 (as_effect (Opening false) (map_breaks {Q = λ text. SpellsWorkOf c.args.operator text c.args.room (Opening false)} (λ x. instruction.Defer c.args.operator (Some x)) (λ x other us r w. (refl, (refl, c.if-not-room.false, w))) (part_tight (sign_fills OpenParenthesis) (record { found = there }) operand_line_sampled c.in_err-first.ensures.begins)))

pub returns-in_err-operand-clause-begins : goal.returns-in_err-operand-clause-begins
returns-in_err-operand-clause-begins c =
    let none = was_missing (TheSign OpenParenthesis) c.args.tokens.now _ c.eat_sign.new.tokens c.eat_sign.ensures.eaten c.if-eat_sign.false in
    up_so _ _ c.from_residual-in_err-operand.ensures.1 (as_effect Even (map_breaks {Q = λ text. SpellsWorkOf c.args.operator text c.args.room Even} (λ x. instruction.Operate c.args.operator x) (λ x other us r w. (refl, (refl, w))) (rw none.0 at c.in_err-operand.ensures.begins)))
