use Rattle.il_syntax.specs.declared.keyword.Keyword.TheVariants as word
use Rattle.il_syntax.specs.Grammar.{TheWord}
use Rattle.load_lines.proofs.Chain.{up, it_comes}
use Rattle.load_tree.proofs.Parts.{globals_read, globals_refused}
use Rattle.std.proofs.Common.{Some}
use Rattle.load_tree.specs.Parts.{SpellsSomeGlobals}
use Rattle.load_lines.proofs.Breaks.{map_breaks, up_breaks}
use Rattle.load_tree.proofs.configuration.globals.Goals as goal

pub returns-in_err-place-clause-refused : goal.returns-in_err-place-clause-refused
returns-in_err-place-clause-refused c =
    let there = it_comes (TheWord c.args.source.now word.VarGlobal) c.args.tokens.now _ c.comes.ensures.comes c.if-not-comes.false in
    up _ c.from_residual.ensures.1 (globals_refused c.args.source.now _ _ _ there.1 c.in_err-place.ensures.refused)

pub returns-clause-reads : goal.returns-clause-reads
returns-clause-reads c = globals_read c.args.source.now _ _ _ _ c.in_ok-place.ensures.reads

pub returns-in_err-place-clause-begins : goal.returns-in_err-place-clause-begins
returns-in_err-place-clause-begins c = up_breaks _ c.from_residual.ensures.1 (map_breaks {Q = SpellsSomeGlobals} (λ x. (Some x.0, x.1)) (λ x other us r w. (globals_read other us r x.0 x.1 (record { found = w })).found) c.in_err-place.ensures.begins)
