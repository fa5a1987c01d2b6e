use Rattle.std.proofs.Common.{sym, ◌∙◌, ap}
use Rattle.il_syntax.specs.declared.keyword.Keyword.{Keyword}
use Rattle.load_tree.specs.Bodies.{may_begin, RefusesPlaced}
use Rattle.load_tree.specs.GoesOn.{BreaksPlaced}
use Rattle.load_tree.proofs.Ahead.{up_so}
use Rattle.load_tree.proofs.Entries.{stands_not, full_refused, placed_refused, placed_read}
use Rattle.load_tree.proofs.Begun.{instruction_breaks, placed_first}
use Rattle.load_tree.proofs.Surplus.{surplus_breaks}
use Rattle.load_tree.specs.Late.{EndsNone}
use Rattle.load_tree.proofs.Late.{own_edge, own_full, own_inside}
use Rattle.load_tree.proofs.bodies.placed.Goals as goal

pub returns-then-not-may_begin-clause-refused : goal.returns-then-not-may_begin-clause-refused
returns-then-not-may_begin-clause-refused c =
    stands_not c.args.source.now _ _ _ _ _ (ap (λ l. may_begin c.args.depth c.args.load l) (sym c.requires.lead) ∙ sym c.may_begin.ensures ∙ c.if-not-may_begin.true) c.outside-then-not-may_begin.ensures

pub returns-clause-reads : goal.returns-clause-reads
returns-clause-reads c =
    placed_read c.args.source.now _ _ _ _ _ _ _ _ c.requires.depth c.has_room.ensures.yes c.in-Some.ensures
    (ap (λ l. may_begin c.args.depth c.args.load l) (sym c.requires.lead) ∙ sym c.may_begin.ensures ∙ c.if-not-may_begin.false) c.if-full.false c.in_ok-instruction.ensures.reads

pub returns-then-full-clause-refused : goal.returns-then-full-clause-refused
returns-then-full-clause-refused c = full_refused c.args.source.now _ _ _ c.args.lead _ _ c.if-full.true c.requires.lead c.surplus.ensures

pub returns-in_err-instruction-clause-refused : goal.returns-in_err-instruction-clause-refused
returns-in_err-instruction-clause-refused c =
    up_so (λ e. RefusesPlaced c.args.source.now c.args.depth c.args.load c.args.full c.args.tokens.now e) _ c.from_residual.ensures.1 (placed_refused c.args.source.now _ _ _ _ _ _ c.has_room.ensures.no c.in_err-instruction.ensures.refused)

pub returns-in_default-clause-begins : goal.returns-in_default-clause-begins
returns-in_default-clause-begins c = λ last. placed_first last c.args.depth c.args.load c.args.full c.requires.depth (λ _. c.outside.ensures)

pub returns-then-not-may_begin-clause-begins : goal.returns-then-not-may_begin-clause-begins
returns-then-not-may_begin-clause-begins c = λ last. placed_first last c.args.depth c.args.load c.args.full c.requires.depth (λ _. c.outside-then-not-may_begin.ensures)

pub returns-then-full-clause-begins : goal.returns-then-full-clause-begins
returns-then-full-clause-begins c =
    λ last. surplus_breaks c.args.depth c.args.load c.args.full last c.args.lead c.requires.depth c.if-full.true c.requires.lead (ap (λ l. may_begin c.args.depth c.args.load l) (sym c.requires.lead) ∙ sym c.may_begin.ensures ∙ c.if-not-may_begin.false) c.surplus.ensures

pub returns-in_err-instruction-clause-begins : goal.returns-in_err-instruction-clause-begins
returns-in_err-instruction-clause-begins c =
    up_so (λ e. (last : Keyword) → BreaksPlaced last c.args.depth c.args.load c.args.full c.args.source.now c.args.tokens.now e) _ c.from_residual.ensures.1
    (λ last. instruction_breaks c.args.depth c.args.load c.args.full last c.requires.depth c.if-full.false c.has_room.ensures.yes (ap (λ l. may_begin c.args.depth c.args.load l) (sym c.requires.lead) ∙ sym c.may_begin.ensures ∙ c.if-not-may_begin.false) c.in_err-instruction.ensures.begins)

pub returns-in_default-clause-late : goal.returns-in_default-clause-late
returns-in_default-clause-late c = own_edge c.outside.ensures

pub returns-then-not-may_begin-clause-late : goal.returns-then-not-may_begin-clause-late
returns-then-not-may_begin-clause-late c = own_edge c.outside-then-not-may_begin.ensures

pub returns-then-full-clause-late : goal.returns-then-full-clause-late
returns-then-full-clause-late c = own_full c.surplus.ensures

pub returns-in_err-instruction-clause-late : goal.returns-in_err-instruction-clause-late
returns-in_err-instruction-clause-late c =
    up_so (λ e. EndsNone c.args.full c.args.source.now c.args.tokens.now e) _ c.from_residual.ensures.1 (own_inside c.has_room.result c.if-full.false c.in_err-instruction.ensures.refused)
