use Rattle.std.proofs.Common.{◌≡◌, ℕ}
use Rattle.il_syntax.specs.declared.fault.Refusal.{Refusal}
use Rattle.il_syntax.specs.declared.fault.Refusal.TheVariants.{Fault}
use Rattle.il_syntax.specs.declared.tree.Config.{Config}
use Rattle.il_syntax.specs.declared.tree.Place.{Place}
use Rattle.load_text.specs.Loading.{IsAccepted, IsExplained, IsRefusedFor, IsSpelled, IsSpelledWith}
use Rattle.liftplc_c.specs.Refusals.{fault_in}
use Rattle.liftplc_c.proofs.Refusing.{by_fault, reported, text_few, text_not_done}
use Rattle.liftplc_c.proofs.opening.liftplc_open.Goals as goal

pub returns-in-Ok-clause-bytes : goal.returns-in-Ok-clause-bytes
returns-in-Ok-clause-bytes c number place is = absurd (c.in-Ok.ensures.bytes number place is)

pub returns-in-Ok-clause-grammar : goal.returns-in-Ok-clause-grammar
returns-in-Ok-clause-grammar c number place is = absurd (c.in-Ok.ensures.grammar number place is)

pub returns-in-Err-clause-status : goal.returns-in-Err-clause-status
returns-in-Err-clause-status c = text_few c.refuse_text.result c.refuse_text.ensures.either

pub returns-in-Err-clause-opened : goal.returns-in-Err-clause-opened
returns-in-Err-clause-opened c zero = text_not_done c.refuse_text.result c.refuse_text.ensures.either zero

pub returns-in-Err-clause-led : goal.returns-in-Err-clause-led
returns-in-Err-clause-led c zero = text_not_done c.refuse_text.result c.refuse_text.ensures.either zero

pub returns-in-Err-clause-refused : goal.returns-in-Err-clause-refused
returns-in-Err-clause-refused c =
    by_fault (λ (e : Refusal). (d : Config) → IsAccepted c.args.text.now d → ⊥) c.in-Err.why (fault_in c.refuse_text.new.refusal) c.refuse_text.result
    c.refuse_text.ensures.status c.refuse_text.ensures.written c.in-Err.ensures.refused

pub returns-in-Err-clause-named : goal.returns-in-Err-clause-named
returns-in-Err-clause-named c =
    by_fault (λ (e : Refusal). (d : Config) → IsSpelled c.args.text.now d → IsRefusedFor d e) c.in-Err.why (fault_in c.refuse_text.new.refusal) c.refuse_text.result
    c.refuse_text.ensures.status c.refuse_text.ensures.written c.in-Err.ensures.named

pub returns-in-Err-clause-number : goal.returns-in-Err-clause-number
returns-in-Err-clause-number c =
    by_fault (IsExplained c.args.text.now) c.in-Err.why (fault_in c.refuse_text.new.refusal) c.refuse_text.result
    c.refuse_text.ensures.status c.refuse_text.ensures.written (λ _. c.in-Err.ensures.number)

pub returns-in-Err-clause-one : goal.returns-in-Err-clause-one
returns-in-Err-clause-one c =
    by_fault (λ (e : Refusal). (n : ℕ) (p : Place) → IsSpelledWith c.args.text.now (Fault n p) → e ≡ Fault n p) c.in-Err.why (fault_in c.refuse_text.new.refusal) c.refuse_text.result
    c.refuse_text.ensures.status c.refuse_text.ensures.written c.in-Err.ensures.one

pub returns-in-Err-clause-bytes : goal.returns-in-Err-clause-bytes
returns-in-Err-clause-bytes c number place is =
    reported c.in-Err.why (fault_in c.refuse_text.new.refusal) number c.refuse_text.result place c.refuse_text.ensures.status c.refuse_text.ensures.written (c.in-Err.ensures.bytes number place is)

pub returns-in-Err-clause-grammar : goal.returns-in-Err-clause-grammar
returns-in-Err-clause-grammar c number place is =
    reported c.in-Err.why (fault_in c.refuse_text.new.refusal) number c.refuse_text.result place c.refuse_text.ensures.status c.refuse_text.ensures.written (c.in-Err.ensures.grammar number place is)
