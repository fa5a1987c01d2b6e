use Rattle.il_syntax.specs.Grammar.{TheWord, SpellsFilledList}
use Rattle.load_lines.proofs.Chain.{it_comes}
use Rattle.load_tree.proofs.Missing.{filled_refused, filled_read}
use Rattle.load_tree.proofs.Ahead.{up_ahead}
use Rattle.load_tree.proofs.Rests.{filled_is}
use Rattle.load_lines.proofs.Breaks.{map_breaks, up_breaks}
use Rattle.load_tree.proofs.variables.filled_list.Goals as goal

pub returns-in_err-full_list-clause-refused : goal.returns-in_err-full_list-clause-refused
returns-in_err-full_list-clause-refused c =
    let there = it_comes (TheWord c.args.source.now c.args.keyword) c.args.tokens.now _ c.comes.ensures.comes c.if-not-comes.false in
    up_ahead _ c.from_residual.ensures.1 (filled_refused c.args.source.now _ _ _ _ there.1 c.in_err-full_list.ensures.refused)

pub returns-clause-reads : goal.returns-clause-reads
returns-clause-reads c = filled_read c.args.source.now _ _ _ _ c.in_ok-full_list.ensures.reads

pub returns-in_err-full_list-clause-begins : goal.returns-in_err-full_list-clause-begins
returns-in_err-full_list-clause-begins c = up_breaks _ c.from_residual.ensures.1 (map_breaks {Q = λ text. SpellsFilledList text c.args.keyword} (λ x. x) (filled_is c.args.keyword) c.in_err-full_list.ensures.begins)
