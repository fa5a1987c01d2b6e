use Rattle.il_syntax.specs.declared.keyword.Keyword.TheVariants as word
use Rattle.il_syntax.specs.Grammar.{TheWord}
use Rattle.load_tree.proofs.Missing.{it_stands, it_is_missing}
use Rattle.load_tree.proofs.OneUnit.{refused_so, unit_refused, other_refused}
use Rattle.load_tree.proofs.LateUnits.{unit_late, other_late}
use Rattle.load_tree.proofs.one_unit.unit.Goals as goal

pub returns-then-word_stands-clause-refused : goal.returns-then-word_stands-clause-refused
returns-then-word_stands-clause-refused c =
    let there = it_stands (TheWord c.args.source.now word.Program) c.args.tokens.now _ c.word_stands.ensures.stands c.if-word_stands.true in
    refused_so (λ e. unit_refused c.args.source.now word.Program _ _ e there.1) _ c.program_unit.ensures.refused

pub returns-then-word_stands-2-clause-refused : goal.returns-then-word_stands-2-clause-refused
returns-then-word_stands-2-clause-refused c =
    let there = it_stands (TheWord c.args.source.now word.FunctionBlock) c.args.tokens.now _ c.word_stands-2.ensures.stands c.if-word_stands-2.true in
    refused_so (λ e. unit_refused c.args.source.now word.FunctionBlock _ _ e there.1) _ c.block_unit.ensures.refused

pub returns-clause-refused : goal.returns-clause-refused
returns-clause-refused c =
    let program = it_is_missing (TheWord c.args.source.now word.Program) c.args.tokens.now _ c.word_stands.ensures.stands c.if-word_stands.false in
    let block = it_is_missing (TheWord c.args.source.now word.FunctionBlock) c.args.tokens.now _ c.word_stands-2.ensures.stands c.if-word_stands-2.false in
    refused_so (λ e. other_refused c.args.source.now _ e program block) _ c.function_unit.ensures.refused

pub returns-then-word_stands-clause-late : goal.returns-then-word_stands-clause-late
returns-then-word_stands-clause-late c =
    let there = it_stands (TheWord c.args.source.now word.Program) c.args.tokens.now _ c.word_stands.ensures.stands c.if-word_stands.true in
    refused_so (λ e. unit_late word.Program there.0 there.1) _ c.program_unit.ensures.late

pub returns-then-word_stands-2-clause-late : goal.returns-then-word_stands-2-clause-late
returns-then-word_stands-2-clause-late c =
    let there = it_stands (TheWord c.args.source.now word.FunctionBlock) c.args.tokens.now _ c.word_stands-2.ensures.stands c.if-word_stands-2.true in
    refused_so (λ e. unit_late word.FunctionBlock there.0 there.1) _ c.block_unit.ensures.late

pub returns-clause-late : goal.returns-clause-late
returns-clause-late c =
    let program = it_is_missing (TheWord c.args.source.now word.Program) c.args.tokens.now _ c.word_stands.ensures.stands c.if-word_stands.false in
    let block = it_is_missing (TheWord c.args.source.now word.FunctionBlock) c.args.tokens.now _ c.word_stands-2.ensures.stands c.if-word_stands-2.false in
    refused_so (λ e. other_late program block) _ c.function_unit.ensures.late
