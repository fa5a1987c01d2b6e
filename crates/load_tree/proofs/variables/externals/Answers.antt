use Rattle.il_syntax.specs.declared.keyword.Keyword.TheVariants as word
use Rattle.il_syntax.specs.Grammar.{TheWord, SpellsExternal, SpellsOptionalList}
use Rattle.load_lines.proofs.Chain.{it_comes}
use Rattle.load_tree.proofs.Missing.{optional_refused}
use Rattle.load_tree.proofs.Ahead.{up_ahead}
use Rattle.std.proofs.Common.{inl}
use Rattle.load_lines.proofs.Breaks.{map_breaks, up_breaks}
use Rattle.load_tree.proofs.variables.externals.Goals as goal

pub returns-in_err-external_list-clause-refused : goal.returns-in_err-external_list-clause-refused
returns-in_err-external_list-clause-refused c =
    let there = it_comes (TheWord c.args.source.now word.VarExternal) c.args.tokens.now _ c.comes.ensures.comes c.if-not-comes.false in
    up_ahead _ c.from_residual.ensures.1 (optional_refused c.args.source.now _ _ _ _ _ there.1 c.in_err-external_list.ensures.refused)

pub returns-in_err-external_list-clause-begins : goal.returns-in_err-external_list-clause-begins
returns-in_err-external_list-clause-begins c = up_breaks _ c.from_residual.ensures.1 (map_breaks {Q = λ text. SpellsOptionalList text word.VarExternal (SpellsExternal text)} (λ x. x) (λ x other us r w. inl w) c.in_err-external_list.ensures.begins)
