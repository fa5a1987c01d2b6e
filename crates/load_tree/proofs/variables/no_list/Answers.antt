use Rattle.il_syntax.specs.Grammar.{TheWord}
use Rattle.load_lines.proofs.Chain.{it_comes}
use Rattle.load_tree.proofs.Missing.{list_comes}
use Rattle.load_tree.proofs.variables.no_list.Goals as goal

pub returns-then-comes-clause-refused : goal.returns-then-comes-clause-refused
returns-then-comes-clause-refused c =
    let there = it_comes (TheWord c.args.source.now c.args.keyword) c.args.tokens.now _ c.comes.ensures.comes c.if-comes.true in
    list_comes c.args.source.now _ _ _ _ there.1 (rw (c.skip_lines.ensures.rest, c.ahead-ahead.ensures) at c.outside.ensures)

pub returns-then-comes-clause-first : goal.returns-then-comes-clause-first
returns-then-comes-clause-first c = λ _. rw (c.skip_lines.ensures.rest, c.ahead-ahead.ensures) at c.outside.ensures
