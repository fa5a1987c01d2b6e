use Rattle.std.proofs.Common.{◌≡◌, ℕ, subst, sym, inl}
use Rattle.scan_task.specs.Scanning.{Program}
use Rattle.il_syntax.specs.declared.fault.Refusal.{Refusal}
use Rattle.il_syntax.specs.declared.fault.Refusal.TheVariants.{Fault}
use Rattle.il_syntax.specs.declared.tree.Config.{Config}
use Rattle.il_syntax.specs.declared.tree.Place.{Place}
use Rattle.serve_blackbox.specs.Resuming.{IsLeft}
use Rattle.load_text.specs.Loading.{IsAccepted, IsExplained, IsRefusedFor, IsSpelled, IsSpelledWith}
use Rattle.group_laws.specs.Runs.{RunsWell}
use Rattle.liftplc_c.specs.Refusals.{fault_in}
use Rattle.liftplc_c.proofs.Refusing.{by_fault, reported, text_few, text_not_done, text_not_trace, left_status, left_not_refused}
use Rattle.liftplc_c.proofs.resuming.liftplc_open_from.Goals as goal

-- the text is accepted

pub returns-in-Ok-clause-status : goal.returns-in-Ok-clause-status
returns-in-Ok-clause-status c = left_status c.open_where_left.result c.open_where_left.ensures.status

pub returns-in-Ok-clause-refused : goal.returns-in-Ok-clause-refused
returns-in-Ok-clause-refused c one = left_not_refused c.open_where_left.result c.open_where_left.ensures.status one

pub returns-in-Ok-clause-named : goal.returns-in-Ok-clause-named
returns-in-Ok-clause-named c one = left_not_refused c.open_where_left.result c.open_where_left.ensures.status one

pub returns-in-Ok-clause-number : goal.returns-in-Ok-clause-number
returns-in-Ok-clause-number c one = left_not_refused c.open_where_left.result c.open_where_left.ensures.status one

pub returns-in-Ok-clause-one : goal.returns-in-Ok-clause-one
returns-in-Ok-clause-one c one = left_not_refused c.open_where_left.result c.open_where_left.ensures.status one

pub returns-in-Ok-clause-opened : goal.returns-in-Ok-clause-opened
returns-in-Ok-clause-opened c zero =
    let o = c.open_where_left.ensures.opened zero in
    let same = sym o.2 in (
      o.0,
      o.1,
      subst (λ (p : Program). IsAccepted c.args.text.now p.config) same c.in-Ok.ensures.found,
      subst (λ (p : Program). IsLeft p.config c.args.text.now c.args.trace.now o.0.world c.open_where_left.new.dropped) same o.3,
      subst (λ (p : Program). RunsWell p.config) same c.in-Ok.ensures.runs,
    )

pub returns-in-Ok-clause-led : goal.returns-in-Ok-clause-led
returns-in-Ok-clause-led c zero =
    let o = c.open_where_left.ensures.opened zero in
    (o.0, o.1, o.4)

pub returns-in-Ok-clause-no_trace : goal.returns-in-Ok-clause-no_trace
returns-in-Ok-clause-no_trace c ten = (c.in-Ok.verified.config, c.in-Ok.ensures.found, c.open_where_left.ensures.no_trace ten)

pub returns-in-Ok-clause-bytes : goal.returns-in-Ok-clause-bytes
returns-in-Ok-clause-bytes c number place is = absurd (c.in-Ok.ensures.bytes number place is)

pub returns-in-Ok-clause-grammar : goal.returns-in-Ok-clause-grammar
returns-in-Ok-clause-grammar c number place is = absurd (c.in-Ok.ensures.grammar number place is)

-- the text is refused

pub returns-in-Err-clause-status : goal.returns-in-Err-clause-status
returns-in-Err-clause-status c = inl (text_few c.refuse_text.result c.refuse_text.ensures.either)

pub returns-in-Err-clause-opened : goal.returns-in-Err-clause-opened
returns-in-Err-clause-opened c zero = text_not_done c.refuse_text.result c.refuse_text.ensures.either zero

pub returns-in-Err-clause-led : goal.returns-in-Err-clause-led
returns-in-Err-clause-led c zero = text_not_done c.refuse_text.result c.refuse_text.ensures.either zero

pub returns-in-Err-clause-no_trace : goal.returns-in-Err-clause-no_trace
returns-in-Err-clause-no_trace c ten = text_not_trace c.refuse_text.result c.refuse_text.ensures.either ten

pub returns-in-Err-clause-offset : goal.returns-in-Err-clause-offset
returns-in-Err-clause-offset c ten = text_not_trace c.refuse_text.result c.refuse_text.ensures.either ten

pub returns-in-Err-clause-refused : goal.returns-in-Err-clause-refused
returns-in-Err-clause-refused c =
    by_fault (λ (e : Refusal). (d : Config) → IsAccepted c.args.text.now d → ⊥) c.in-Err.why (fault_in c.refuse_text.new.refusal) c.refuse_text.result
    c.refuse_text.ensures.status c.refuse_text.ensures.written c.in-Err.ensures.refused

pub returns-in-Err-clause-named : goal.returns-in-Err-clause-named
returns-in-Err-clause-named c =
    by_fault (λ (e : Refusal). (d : Config) → IsSpelled c.args.text.now d → IsRefusedFor d e) c.in-Err.why (fault_in c.refuse_text.new.refusal) c.refuse_text.result
    c.refuse_text.ensures.status c.refuse_text.ensures.written c.in-Err.ensures.named

pub returns-in-Err-clause-number : goal.returns-in-Err-clause-number
returns-in-Err-clause-number c =
    by_fault (IsExplained c.args.text.now) c.in-Err.why (fault_in c.refuse_text.new.refusal) c.refuse_text.result
    c.refuse_text.ensures.status c.refuse_text.ensures.written (λ _. c.in-Err.ensures.number)

pub returns-in-Err-clause-one : goal.returns-in-Err-clause-one
returns-in-Err-clause-one c =
    by_fault (λ (e : Refusal). (n : ℕ) (p : Place) → IsSpelledWith c.args.text.now (Fault n p) → e ≡ Fault n p) c.in-Err.why (fault_in c.refuse_text.new.refusal) c.refuse_text.result
    c.refuse_text.ensures.status c.refuse_text.ensures.written c.in-Err.ensures.one

pub returns-in-Err-clause-bytes : goal.returns-in-Err-clause-bytes
returns-in-Err-clause-bytes c number place is =
    reported c.in-Err.why (fault_in c.refuse_text.new.refusal) number c.refuse_text.result place c.refuse_text.ensures.status c.refuse_text.ensures.written (c.in-Err.ensures.bytes number place is)

pub returns-in-Err-clause-grammar : goal.returns-in-Err-clause-grammar
returns-in-Err-clause-grammar c number place is =
    reported c.in-Err.why (fault_in c.refuse_text.new.refusal) number c.refuse_text.result place c.refuse_text.ensures.status c.refuse_text.ensures.written (c.in-Err.ensures.grammar number place is)
