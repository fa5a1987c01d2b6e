use Rattle.std.proofs.Common.{◌≡◌, ◌<◌, ◌∙◌, sym, ap, arith}
use Rattle.atomic_table.specs.declared.badge.Badge.{Badge}
use Rattle.threads_station.specs.declared.tally.View.{View}
use Rattle.threads_station.specs.Halves.{known}
use Rattle.threads_station.proofs.Meeting.{half_is, joins_so, together_is, enter_so, entered_so, parts_so}
use Rattle.threads_station.proofs.tally.Tally.meet.Goals as goal

pub join_seat-requires : goal.join_seat-requires
join_seat-requires g c =
    let mine = c.self.inside.half in
    let other = c.mark.inside.half in
    let first = half_is mine.views c.into_seat-seat.result.me.0 c.self.invariant.3 (sym (ap (λ (b : Badge View). b.views) c.replace.ensures.value) ∙ c.into_seat-seat.ensures.2) in
    let second = half_is other.views c.into_seat-other.result.me.0 c.mark.invariant.1 (sym (ap (λ (b : Badge View). b.views) c.replace-2.ensures.value) ∙ c.into_seat-other.ensures.2) in (
      c.into_seat-seat.ensures.0 ∙ ap (λ (b : Badge View). b.table_id) c.replace.ensures.value ∙ c.self.invariant.2 ∙ sym c.self.invariant.1,
      c.into_seat-other.ensures.0 ∙ ap (λ (b : Badge View). b.table_id) c.replace-2.ensures.value ∙ c.mark.invariant.0 ∙ sym c.self.invariant.1,
      c.into_seat-other.ensures.3,
      omega (arith, c.self.invariant.0),
      joins_so c.self.inside.table.shared.key c.into_seat-seat.result.id c.into_seat-other.result.id c.into_seat-seat.result.me.0 c.into_seat-other.result.me.0 (known mine.views) (known other.views) first second,
    )

pub load-requires : goal.load-requires
load-requires g c =
    let mine = c.self.inside.half in
    let other = c.mark.inside.half in
    let first = half_is mine.views c.into_seat-seat.result.me.0 c.self.invariant.3 (sym (ap (λ (b : Badge View). b.views) c.replace.ensures.value) ∙ c.into_seat-seat.ensures.2) in
    let second = half_is other.views c.into_seat-other.result.me.0 c.mark.invariant.1 (sym (ap (λ (b : Badge View). b.views) c.replace-2.ensures.value) ∙ c.into_seat-other.ensures.2) in
    let both = ap (λ m. m.0) c.join_seat.ensures.2 ∙ together_is c.into_seat-seat.result.me.0 c.into_seat-other.result.me.0 (known mine.views) (known other.views) first second in (
      c.join_seat.ensures.0 ∙ c.into_seat-seat.ensures.0 ∙ ap (λ (b : Badge View). b.table_id) c.replace.ensures.value ∙ c.self.invariant.2 ∙ sym c.self.invariant.1,
      omega (arith, c.self.invariant.0),
      enter_so c.self.inside.table.shared.key c.self.inside.table.shared.table_id.slots 0 c.join_seat.new.seat.id c.join_seat.new.seat.me.0 (known mine.views) (known other.views) g.E.Entering.calls c.join_seat.new.seat.me.1 both,
    )

pub split_seat-other-requires : goal.split_seat-other-requires
split_seat-other-requires g c =
    let mine = c.self.inside.half in
    let other = c.mark.inside.half in
    let first = half_is mine.views c.into_seat-seat.result.me.0 c.self.invariant.3 (sym (ap (λ (b : Badge View). b.views) c.replace.ensures.value) ∙ c.into_seat-seat.ensures.2) in
    let second = half_is other.views c.into_seat-other.result.me.0 c.mark.invariant.1 (sym (ap (λ (b : Badge View). b.views) c.replace-2.ensures.value) ∙ c.into_seat-other.ensures.2) in
    let both = ap (λ m. m.0) c.join_seat.ensures.2 ∙ together_is c.into_seat-seat.result.me.0 c.into_seat-other.result.me.0 (known mine.views) (known other.views) first second in
    let entered = entered_so c.join_seat.new.seat.me.0 c.load.new.seat.me.0 (known mine.views) (known other.views) g.E.Entering.calls both c.load.ensures.2.1 in (
      c.load.ensures.0 ∙ c.join_seat.ensures.0 ∙ c.into_seat-seat.ensures.0 ∙ ap (λ (b : Badge View). b.table_id) c.replace.ensures.value ∙ c.self.invariant.2 ∙ sym c.self.invariant.1,
      omega (arith, c.self.invariant.0),
      parts_so c.self.inside.table.shared.key c.load.new.seat.id c.load.new.seat.me.0 _ _ entered.1,
    )
