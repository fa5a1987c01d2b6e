use Rattle.std.proofs.Common.{ap, ◌∙◌, ◌++◌, ◌∷◌, [], length, arith}
use Rattle.group_spec.specs.Replies.{reply_with}
use Rattle.group_world.specs.Running.{Answers}
use Rattle.group_world.proofs.Replying.{one_reply_more, still_reports, replies_many}
use Rattle.group_world.proofs.replies.Replies.push.Goals as goal

pub add-requires : goal.add-requires
add-requires c =
    let many = replies_many c.self.inside.replies.items c.self.inside.reports.items c.self.invariant in
    let items = ap (λ (v : Answers). length v.items) c.self.view_is in
    let room = ap (λ (v : Answers). v.room) c.self.view_is in
    let low = c.requires.room in
    omega (arith, many, items, room, low)

pub invariant_of-self : goal.invariant_of-self
invariant_of-self c = still_reports c.self.inside.replies.items _ c.self.inside.reports.items c.keep.new.reports.items c.args.reply c.self.invariant c.add.ensures.items c.keep.ensures.many

pub returns-clause-items : goal.returns-clause-items
returns-clause-items c =
    one_reply_more c.self.inside.replies.items _ c.self.inside.reports.items c.keep.new.reports.items c.args.reply c.args.report.now c.self.invariant c.add.ensures.items c.keep.ensures.plain c.keep.ensures.one
    ∙ ap (λ (v : Answers). v.items ++ reply_with c.args.reply c.args.report.now ∷ []) c.self.view_is
