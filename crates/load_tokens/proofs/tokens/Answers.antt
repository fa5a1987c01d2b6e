use Rattle.std.proofs.Common.{inr}
use Rattle.load_tokens.proofs.FirstError.{fault_is, done_token, done_blank}
use Rattle.load_tokens.specs.LexicalErrors.{AreTokensTo}
use Rattle.std.proofs.Common.{◌+◌, arith, sym, ap, subst, ◌∙◌}
use Rattle.il_syntax.specs.declared.token.Token.{Token}
use Rattle.il_syntax.specs.Text.{line_at}
use Rattle.load_tokens.specs.Pieces.{IsPiece}
use Rattle.load_tokens.proofs.Places.{line_on}
use Rattle.load_tokens.proofs.Cut.{cut}
use Rattle.load_tokens.proofs.Steps.{Read, read_blank, read_token, read_all, stuck}
use Rattle.load_tokens.proofs.tokens.Goals as goal
use Rattle.load_tokens.proofs.tokens.Goals.{in-Token+in_ok-push, in_default}

pub returns-in-Err-clause-refused : goal.returns-in-Err-clause-refused
returns-in-Err-clause-refused c = λ _ _. stuck c.args.text.now c.pieces.at c.pieces.found.items c.pieces-test.true c.in-Err.ensures.none c.pieces.invariant.read

pub pieces-preserved : goal.pieces-preserved
pieces-preserved c = record {
  within = c.in-Ok.ensures.within.1;
  line =
      ap (λ n. n + c.in-Ok.stretch.feeds) c.pieces.invariant.line ∙ ap (λ n. line_at c.args.text.now c.pieces.at + n) c.in-Ok.ensures.feeds
      ∙ sym (line_on c.args.text.now c.pieces.at c.in-Ok.stretch.end (omega (arith, c.in-Ok.ensures.within.0)));
  done = elim c.match-piece.branch [
    | in-Token+in_ok-push w ↦
        let t : Token = record { kind = w.in-Token.kind; start = c.pieces.at; end = c.in-Ok.stretch.end; line = c.pieces.line } in
        let lexeme = subst (λ p. IsPiece c.args.text.now p c.pieces.at c.in-Ok.stretch.end) w.in-Token.is c.in-Ok.ensures.found in
        subst (λ items. AreTokensTo c.args.text.now 0 items c.in-Ok.stretch.end) (sym (ap (λ v. v.items) w.found-is ∙ w.in_ok-push.ensures.items)) (done_token c.args.text.now t c.pieces.found.items lexeme c.pieces.invariant.line c.pieces.invariant.done)
    | in_default w ↦
        let blank = subst (λ p. IsPiece c.args.text.now p c.pieces.at c.in-Ok.stretch.end) w.in_default.is c.in-Ok.ensures.found in
        rw w.found-is (done_blank c.args.text.now c.pieces.at c.in-Ok.stretch.end c.pieces.found.items blank c.pieces.invariant.done)
  ];
  read = elim c.match-piece.branch [
    | in-Token+in_ok-push w ↦
        let t : Token = record { kind = w.in-Token.kind; start = c.pieces.at; end = c.in-Ok.stretch.end; line = c.pieces.line } in
        let lexeme = subst (λ p. IsPiece c.args.text.now p c.pieces.at c.in-Ok.stretch.end) w.in-Token.is c.in-Ok.ensures.found in
        subst (λ items. Read c.args.text.now c.in-Ok.stretch.end items) (sym (ap (λ v. v.items) w.found-is ∙ w.in_ok-push.ensures.items)) (read_token c.args.text.now t c.pieces.found.items lexeme c.pieces.invariant.line c.pieces.invariant.read)
    | in_default w ↦
        let blank = subst (λ p. IsPiece c.args.text.now p c.pieces.at c.in-Ok.stretch.end) w.in_default.is c.in-Ok.ensures.found in
        rw w.found-is (read_blank c.args.text.now c.pieces.at c.in-Ok.stretch.end c.pieces.found.items blank c.pieces.invariant.read)
  ];
}

pub returns-clause-found : goal.returns-clause-found
returns-clause-found c = read_all c.args.text.now c.pieces.at c.pieces.found.items (omega (arith, c.pieces.invariant.within, c.pieces-test.false)) c.pieces.invariant.read

pub returns-clause-only : goal.returns-clause-only
returns-clause-only c = λ ts h.
    cut c.args.text.now ts c.pieces.found.items h (read_all c.args.text.now c.pieces.at c.pieces.found.items (omega (arith, c.pieces.invariant.within, c.pieces-test.false)) c.pieces.invariant.read)

pub returns-in-Err-clause-fault : goal.returns-in-Err-clause-fault
returns-in-Err-clause-fault c =
    inr (fault_is c.args.text.now c.pieces.found.items c.pieces.at c.in-Err.misread.error c.in-Err.misread.at c.refusal.result c.pieces.invariant.done c.pieces-test.true
    c.if-text-gt-LONGEST_TEXT.false c.in-Err.ensures.none c.in-Err.ensures.error c.refusal.ensures.exactly)
