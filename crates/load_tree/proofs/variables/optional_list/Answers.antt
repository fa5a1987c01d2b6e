use Rattle.il_syntax.specs.Grammar.{TheWord, SpellsDeclaration, SpellsOptionalList}
use Rattle.load_lines.proofs.Chain.{it_comes}
use Rattle.load_tree.proofs.Missing.{optional_refused}
use Rattle.load_tree.proofs.Ahead.{up_ahead}
use Rattle.std.proofs.Common.{inl}
use Rattle.load_lines.proofs.Breaks.{map_breaks, up_breaks}
use Rattle.load_tree.proofs.variables.optional_list.Goals as goal

pub returns-in_err-list-clause-refused : goal.returns-in_err-list-clause-refused
returns-in_err-list-clause-refused c =
    let there = it_comes (TheWord c.args.source.now c.args.keyword) c.args.tokens.now _ c.comes.ensures.comes c.if-not-comes.false in
    up_ahead _ c.from_residual.ensures.1 (optional_refused c.args.source.now _ _ _ _ _ there.1 c.in_err-list.ensures.refused)

pub returns-in_err-list-clause-begins : goal.returns-in_err-list-clause-begins
returns-in_err-list-clause-begins c = up_breaks _ c.from_residual.ensures.1 (map_breaks {Q = λ text. SpellsOptionalList text c.args.keyword (SpellsDeclaration text)} (λ x. x) (λ x other us r w. inl w) c.in_err-list.ensures.begins)
