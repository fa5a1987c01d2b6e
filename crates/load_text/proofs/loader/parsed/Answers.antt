use Rattle.std.proofs.Common.{sym, ◌∙◌, subst}
use Rattle.il_syntax.specs.Text.{AreTokens}
use Rattle.il_syntax.specs.declared.tree.Config.{Config}
use Rattle.il_syntax_laws.proofs.Spelled.{spelled_written}
use Rattle.load_tokens.proofs.Cut.{cut}
use Rattle.load_text.specs.Loading.{IsExplained}
use Rattle.load_text.proofs.Explaining.{handed_as, explained_by_tokens, explained_by_parser, reported_by_tokens, no_fault_of_bytes, fault_of_parser, no_grammar_by_tokens, reported_by_parser, no_grammar_of_spelled}
use Rattle.load_text.proofs.Accepting.{handed_on, none_spelled}
use Rattle.load_text.proofs.Phases.{spells_only}
use Rattle.load_text.proofs.loader.parsed.Goals as goal

-- NO TOKENS

pub returns-in_err-tokens-clause-none : goal.returns-in_err-tokens-clause-none
returns-in_err-tokens-clause-none c = λ fault d a. c.in_err-tokens.ensures.refused (handed_on Config _ _ c.from_residual.ensures.1 fault) a.limits.bytes a.spelled.0 a.spelled.1

pub returns-in_err-tokens-clause-number : goal.returns-in_err-tokens-clause-number
returns-in_err-tokens-clause-number c = handed_as (IsExplained c.args.text.now) _ _ c.from_residual.ensures.1 (explained_by_tokens c.args.text.now _ c.in_err-tokens.ensures.too_long c.in_err-tokens.ensures.number c.in_err-tokens.ensures.refused c.in_err-tokens.ensures.fault)

pub returns-in_err-tokens-clause-bytes : goal.returns-in_err-tokens-clause-bytes
returns-in_err-tokens-clause-bytes c = reported_by_tokens c.args.text.now _ _ c.from_residual.ensures.1 c.in_err-tokens.ensures.fault

pub returns-in_err-tokens-clause-grammar : goal.returns-in_err-tokens-clause-grammar
returns-in_err-tokens-clause-grammar c = no_grammar_by_tokens c.args.text.now _ _ c.from_residual.ensures.1 c.in_err-tokens.ensures.refused

-- NO TREE

pub returns-in_err-config-clause-grammar : goal.returns-in_err-config-clause-grammar
returns-in_err-config-clause-grammar c =
    reported_by_parser c.one_fault_of_grammar.ensures.once c.args.text.now _ _ c.from_residual-in_err-config.ensures.1 (cut c.args.text.now)
    (λ fault. fault_of_parser c.args.text.now _ c.deref.result.now c.in_ok-tokens.ensures.short (subst (AreTokens c.args.text.now 0) (sym c.deref.ensures.value) c.in_ok-tokens.ensures.found) fault c.in_err-config.ensures.nowhere c.in_err-config.ensures.before c.in_err-config.ensures.early)

pub returns-in_err-config-clause-bytes : goal.returns-in_err-config-clause-bytes
returns-in_err-config-clause-bytes c = λ n l fault. absurd (no_fault_of_bytes c.args.text.now _ n l c.in_ok-tokens.ensures.short c.in_ok-tokens.ensures.found fault)

pub returns-in_err-config-clause-none : goal.returns-in_err-config-clause-none
returns-in_err-config-clause-none c = λ fault.
    none_spelled c.args.text.now c.deref.result.now (λ ts cut. c.in_ok-tokens.ensures.only ts cut ∙ sym c.deref.ensures.value) (c.in_err-config.ensures.refused (handed_on Config _ _ c.from_residual-in_err-config.ensures.1 fault))

pub returns-in_err-config-clause-number : goal.returns-in_err-config-clause-number
returns-in_err-config-clause-number c =
    handed_as (IsExplained c.args.text.now) _ _ c.from_residual-in_err-config.ensures.1
    (explained_by_parser c.args.text.now _ c.in_err-config.ensures.number (λ fault. fault_of_parser c.args.text.now _ c.deref.result.now c.in_ok-tokens.ensures.short (subst (AreTokens c.args.text.now 0) (sym c.deref.ensures.value) c.in_ok-tokens.ensures.found) fault c.in_err-config.ensures.nowhere c.in_err-config.ensures.before c.in_err-config.ensures.early) (λ fault. none_spelled c.args.text.now c.deref.result.now (λ ts cut. c.in_ok-tokens.ensures.only ts cut ∙ sym c.deref.ensures.value) (c.in_err-config.ensures.refused fault)))

-- THE CONFIGURATION

pub returns-clause-only : goal.returns-clause-only
returns-clause-only c =
    spells_only c.args.text.now c.deref.result.now c.in_ok-config.config (λ ts cut. c.in_ok-tokens.ensures.only ts cut ∙ sym c.deref.ensures.value) c.in_ok-tokens.ensures.short c.in_ok-config.ensures.spelled c.in_ok-config.ensures.limits c.in_ok-config.ensures.only

pub returns-clause-written : goal.returns-clause-written
returns-clause-written c = spelled_written c.args.text.now c.in_ok-config.config c.in_ok-config.ensures.spelled

pub returns-clause-nested : goal.returns-clause-nested
returns-clause-nested c = c.in_ok-config.ensures.small.nesting

pub returns-clause-bytes : goal.returns-clause-bytes
returns-clause-bytes c = λ n l fault. no_fault_of_bytes c.args.text.now _ n l c.in_ok-tokens.ensures.short c.in_ok-tokens.ensures.found fault

pub returns-clause-grammar : goal.returns-clause-grammar
returns-clause-grammar c = λ n p fault.
    no_grammar_of_spelled c.one_fault_of_grammar.ensures.none c.args.text.now c.in_ok-config.ensures.spelled.0 c.in_ok-config.config (λ ts is. cut c.args.text.now ts c.in_ok-config.ensures.spelled.0 is c.in_ok-config.ensures.spelled.1) c.in_ok-config.ensures.spelled.2 c.in_ok-config.ensures.small _ fault
