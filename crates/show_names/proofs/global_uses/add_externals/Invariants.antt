use Rattle.std.proofs.Common.{◌≡◌}
use Rattle.il_statics.specs.Names.{Spelling}
use Rattle.show_names.specs.Names.{names_left, is_declared}
use Rattle.show_names.specs.Lines.{AreSound}
use Rattle.show_names.proofs.Pushes.{HavePlacesOf}
use Rattle.show_names.proofs.Seen.{is_told}
use Rattle.show_names.proofs.global_uses.add_externals.Given as goal

abbrev pub invariant-names : goal.invariant-names
invariant-names l =
    AreSound l.lines
    × HavePlacesOf l.initial.lines l.lines l.seen l.uses.unit.now
    × ((name : Spelling) → is_told l.seen (names_left l.declared-iterator) name ≡ is_declared l.uses.unit.now.externals name)
