use Rattle.std.proofs.Common.{◌<◌, length, subst, sym, arith}
use Rattle.scan_loop.proofs.Callers.{callers_length, aside_few}
use Rattle.scan_loop.proofs.frames.Frames.push.Goals as goal

pub push-requires : goal.push-requires
push-requires c =
    let callers = c.self.inside.callers.items in
    let aside = c.self.inside.aside.items in
    let room = subst (λ fs. length fs < 16) (sym c.self.view_is) c.requires in
    (omega arith, omega (arith, room, callers_length callers aside))

pub push-requires-then-defers : goal.push-requires-then-defers
push-requires-then-defers c =
    let callers = c.self.inside.callers.items in
    let aside = c.self.inside.aside.items in
    let room = subst (λ fs. length fs < 16) (sym c.self.view_is) c.requires in
    (omega arith, omega (arith, room, callers_length callers aside, aside_few callers aside c.self.invariant))
