use Rattle.std.proofs.Common.{◌≡◌, Bool, true, false, [], inl, inr, refl, sym, append-nil}
use Rattle.cli_messages.specs.Places.{more_text}
use Rattle.cli_messages.proofs.place.put_more.Goals as goal

pub returns-in_ok-put_sayer-in-Some : goal.returns-in_ok-put_sayer-in-Some
returns-in_ok-put_sayer-in-Some c = (more_text c.args.number, inl (c.in-Some.ensures.0 refl, refl), c.in_ok-put_sayer-in-Some.ensures)

pub returns-in-None : goal.returns-in-None
returns-in-None c = ([], inr ((λ has. let bad : ◌≡◌ {A = Bool} false true = c.in-None.ensures.1 has in cc), refl), sym (append-nil c.args.to.now.items))
