use Rattle.std.proofs.Common.{true, false, Bool, ap, subst, ◌<◌, length, sym, ◌∙◌, arith, option_map}
use Rattle.ranges_transfer.specs.Tables.{moved, Comes}
use Rattle.ranges_transfer.proofs.Tables.{both_of, both_length, goes_over, stops_first, stops_second, stops_moves, stop_with, goes_past, held_is}
use Rattle.ranges_transfer.proofs.pass.step.Goals as goal

pub refusal-refusal-requires-clause-fine : goal.refusal-refusal-requires-clause-fine
refusal-refusal-requires-clause-fine g c =
    let inside : c.args.place < length c.args.waiting.now.items = omega (arith, c.requires.low) in
    c.requires.fine c.in-Some.facts (held_is c.args.waiting.now.items c.args.place c.index_mut.result.now inside c.index_mut.ensures.value ∙ sym c.take.ensures.value ∙ c.in-Some.is)

pub hand_on-requires-clause-fine : goal.hand_on-requires-clause-fine
hand_on-requires-clause-fine g c =
    let inside : c.args.place < length c.args.waiting.now.items = omega (arith, c.requires.low) in
    c.requires.fine c.in-Some.facts (held_is c.args.waiting.now.items c.args.place c.index_mut.result.now inside c.index_mut.ensures.value ∙ sym c.take.ensures.value ∙ c.in-Some.is)

pub returns-in_default-2 : goal.returns-in_default-2
returns-in_default-2 g c =
    let inside : c.args.place < length c.args.waiting.now.items = omega (arith, c.requires.low) in
    let holds = held_is c.args.waiting.now.items c.args.place c.index_mut.result.now inside c.index_mut.ensures.value ∙ sym c.take.ensures.value ∙ c.in-Some.is in
    stop_with g.F.Flow.join (g.F.Flow.moves c.args.flow.now) (g.F.Flow.refuses c.args.flow.now) c.args.place c.args.waiting.now.items c.in-Some.facts holds
    (stops_moves g.F.Flow.join (g.F.Flow.moves c.args.flow.now) c.args.place c.args.waiting.now.items c.in-Some.facts c.requires.low holds (c.in_ok-next.ensures ∙ ap (option_map moved) c.in_default-2.is)) c.refusal-refusal.result c.refusal-refusal.ensures

pub returns-then-not-bring : goal.returns-then-not-bring
returns-then-not-bring g c =
    let join = g.F.Flow.join in
    let moves = g.F.Flow.moves c.args.flow.now in
    let m = moved c.in-Some-2.field-0 in
    let are = c.in_ok-next.ensures ∙ ap (option_map moved) c.in-Some-2.is in
    let ahead = c.requires.ahead c.in-Some.facts m are in
    let both = both_of join moves c.args.place c.args.waiting.now.items c.bring.new.waiting.items c.index_mut.result.now c.take.result c.take.new.self c.in-Some.facts m c.onward.result c.bring.result false
    c.requires.low c.index_mut.ensures.value c.take.ensures.value c.in-Some.is c.take.ensures.after are ahead c.onward.ensures c.bring.ensures c.if-not-bring.true in
    stop_with join moves (g.F.Flow.refuses c.args.flow.now) c.args.place c.args.waiting.now.items c.in-Some.facts both.holds
    (stops_first join moves c.args.place c.args.waiting.now.items c.in-Some.facts m c.bring.new.waiting.items both) c.refusal-refusal.result c.refusal-refusal.ensures

pub returns-then-not-bring-2 : goal.returns-then-not-bring-2
returns-then-not-bring-2 g c =
    let join = g.F.Flow.join in
    let moves = g.F.Flow.moves c.args.flow.now in
    let m = moved c.in-Some-2.field-0 in
    let are = c.in_ok-next.ensures ∙ ap (option_map moved) c.in-Some-2.is in
    let ahead = c.requires.ahead c.in-Some.facts m are in
    let both = both_of join moves c.args.place c.args.waiting.now.items c.bring.new.waiting.items c.index_mut.result.now c.take.result c.take.new.self c.in-Some.facts m c.onward.result c.bring.result true
    c.requires.low c.index_mut.ensures.value c.take.ensures.value c.in-Some.is c.take.ensures.after are ahead c.onward.ensures c.bring.ensures c.if-not-bring.false in
    stop_with join moves (g.F.Flow.refuses c.args.flow.now) c.args.place c.args.waiting.now.items c.in-Some.facts both.holds
    (stops_second join moves c.args.place c.args.waiting.now.items c.in-Some.facts m c.bring.new.waiting.items c.bring-2.new.waiting.items both (both_length join moves c.args.place c.args.waiting.now.items c.in-Some.facts m true c.bring.new.waiting.items both)
    (subst (λ (b : Bool). Comes join c.in-Some-2.field-0.jump c.bring.new.waiting.items b c.bring-2.new.waiting.items) c.if-not-bring-2.true c.bring-2.ensures))
    c.refusal-refusal.result c.refusal-refusal.ensures

pub returns : goal.returns
returns g c =
    let join = g.F.Flow.join in
    let moves = g.F.Flow.moves c.args.flow.now in
    let m = moved c.in-Some-2.field-0 in
    let are = c.in_ok-next.ensures ∙ ap (option_map moved) c.in-Some-2.is in
    let ahead = c.requires.ahead c.in-Some.facts m are in
    let both = both_of join moves c.args.place c.args.waiting.now.items c.bring.new.waiting.items c.index_mut.result.now c.take.result c.take.new.self c.in-Some.facts m c.onward.result c.bring.result true
    c.requires.low c.index_mut.ensures.value c.take.ensures.value c.in-Some.is c.take.ensures.after are ahead c.onward.ensures c.bring.ensures c.if-not-bring.false in
    goes_over join moves c.args.place c.args.waiting.now.items c.in-Some.facts m c.bring.new.waiting.items c.bring-2.new.waiting.items both (both_length join moves c.args.place c.args.waiting.now.items c.in-Some.facts m true c.bring.new.waiting.items both)
    (subst (λ (b : Bool). Comes join c.in-Some-2.field-0.jump c.bring.new.waiting.items b c.bring-2.new.waiting.items) c.if-not-bring-2.false c.bring-2.ensures)

pub returns-in_default : goal.returns-in_default
returns-in_default g c =
    let inside : c.args.place < length c.args.waiting.now.items = omega (arith, c.requires.low) in
    goes_past g.F.Flow.join (g.F.Flow.moves c.args.flow.now) c.args.place c.args.waiting.now.items c.take.new.self c.requires.low (held_is c.args.waiting.now.items c.args.place c.index_mut.result.now inside c.index_mut.ensures.value ∙ sym c.take.ensures.value ∙ c.in_default.is)
