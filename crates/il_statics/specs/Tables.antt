-- The tables of standard names that the code has, as the rules have them.
use Rattle.std.specs.Prelude.{map}
use Rattle.il_syntax.specs.declared.tree.Elementary.{Elementary}
use Rattle.il_statics.specs.Names.{Spelling, WordLists}
use Rattle.il_statics.specs.declared.names.StandardBlock.{StandardBlock}
use Rattle.il_statics.specs.declared.names.StandardFunction.{StandardFunction}
use Rattle.il_statics.specs.declared.standard.BlockWord.{BlockWord}
use Rattle.il_statics.specs.declared.standard.BlockWords.{BlockWords}
use Rattle.il_statics.specs.declared.standard.NamedBlock.{NamedBlock}
use Rattle.il_statics.specs.declared.standard.NamedFunction.{NamedFunction}

-- a word with its type
abbrev pub word : BlockWord → Spelling × Elementary
word w = (w.name.now, w.elementary)

-- the words of a block
abbrev pub word_lists : BlockWords → WordLists
word_lists w = record { inputs = map word w.inputs.now; outputs = map word w.outputs.now; inner = map word w.inner.now }

-- a block under its name
abbrev pub named_block : NamedBlock → Spelling × StandardBlock
named_block b = (b.name.now, b.block)

-- a function under its name
abbrev pub named_function : NamedFunction → Spelling × StandardFunction
named_function f = (f.name.now, f.function)
