use Rattle.std.proofs.Common.{◌≡◌, take, map}
use Rattle.il_statics.specs.Names.{named_forms}
use Rattle.reasons_types.specs.ArgumentReasons.{words_of}
use Rattle.reasons_types.proofs.types_words.declared_words.Given as goal

-- the names so far
abbrev pub invariant-declarations : goal.invariant-declarations
invariant-declarations l = map (λ w. w.now) l.found.items ≡ words_of (named_forms (take l.declaration-index l.declarations))
