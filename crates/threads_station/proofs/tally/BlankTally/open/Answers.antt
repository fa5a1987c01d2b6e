use Rattle.std.proofs.Common.{◌≡◌, ◌<◌, ◌∙◌, [], sym, arith}
use Rattle.threads_station.proofs.Meeting.{both_is, parts_so}
use Rattle.threads_station.proofs.tally.BlankTally.open.Goals as goal

pub split_seat-other-requires : goal.split_seat-other-requires
split_seat-other-requires g c =
    let both = both_is c.self.inside.both.views c.into_seat-seat.result.me.0 0 c.self.invariant.2 c.into_seat-seat.ensures.2 in (
      c.into_seat-seat.ensures.0 ∙ c.self.invariant.1,
      omega (arith, c.self.invariant.0),
      parts_so c.self.inside.table.shared.key c.into_seat-seat.result.id c.into_seat-seat.result.me.0 [] [] both,
    )
