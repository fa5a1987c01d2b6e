-- The words that are told before the others of their length.
use Rattle.std.proofs.Common.{◌≡◌, ℕ, List, Some, false, ap}
use Rattle.std.specs.Prelude.{codes}
use Rattle.il_syntax.specs.declared.keyword.Keyword.TheVariants as word
use Rattle.il_syntax.specs.declared.tree.Store.TheVariants.{Plain}
use Rattle.il_syntax.specs.Text.{entry_of}
use Rattle.load_lines.specs.Lengths.{two_letter_words}

pub load : (w : List ℕ) → w ≡ codes "LD" → entry_of two_letter_words w ≡ Some (word.Load false)
unfolding entry_of
load w is = ap (entry_of two_letter_words) is

pub store : (w : List ℕ) → w ≡ codes "ST" → entry_of two_letter_words w ≡ Some (word.Store Plain)
unfolding entry_of
store w is = ap (entry_of two_letter_words) is
