-- The world behind a pointer (own rule).
use Rattle.std.specs.Prelude.{◌≡◌, Option, Some, None}
use base.Fml.{Fml, fex, ftrue}
use denote.RawPtr.{Ptr}
use Rattle.std_alloc.specs.Box.Ownership.{box_owns}
use Rattle.std.specs.declared.alloc.Global.{Global}
use Rattle.std.specs.contracts.impls.GlobalAllocator.TheImpl.{ghosts}
use Rattle.group_world.specs.Worlds.{WorldOf}
use Rattle.group_rounds.specs.declared.kept.Rounds.{Rounds}
use Rattle.group_rounds.specs.contracts.kept.Rounds.{the_row}

-- the rounds of a world
abbrev pub RoundsOf : WorldOf → Type 0
RoundsOf w = (rounds : Rounds) × (rounds.world ≡ w)

-- what is owned behind a pointer by an allocator: these rounds, and the right to free their block
abbrev pub boxes : Ptr → Rounds → Global → Fml
boxes p rounds alloc = box_owns (ghosts.dealloc_token alloc) the_row p rounds

-- what is owned behind a pointer: the rounds of a world and the right to free their block, or nothing
abbrev pub holds : Ptr → Option WorldOf → Fml
holds p None = ftrue
holds p (Some w) = fex Global (λ alloc. fex (RoundsOf w) (λ kept. boxes p kept.0 alloc))
