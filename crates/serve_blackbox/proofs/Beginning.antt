-- Where a group goes on.
use Rattle.std.proofs.Common.{inl, inr, Result, Ok, Err, IfOk, IfErr, ap, ◌∙◌}
use Rattle.std.specs.Prelude.{is_some}
use Rattle.il_syntax.specs.declared.tree.Config.{Config}
use Rattle.group_spec.specs.World.{World, scan_at}
use Rattle.group_laws.specs.Runs.{Begins}
use Rattle.group_laws.proofs.Openings.{no_scan_open}
use Rattle.group_journal.specs.Closed.{IsClosed}

-- no scan is open where runs begin
pub begins_closed : (c : Config) (w : World) → Begins c w → IsClosed w
begins_closed c w (inl is) j = ap (λ (x : World). is_some (scan_at x j)) is ∙ ap is_some (no_scan_open c j)
begins_closed c w (inr rests) j = ap is_some (rests.closed j)

pub if_ok_map : {A E : Type 0} (P Q : A → Type 0) (r : Result A E) → ((x : A) → P x → Q x) → IfOk r P → IfOk r Q
if_ok_map P Q (Ok x) go p = go x p
if_ok_map P Q (Err e) go p = tt

pub if_err_map : {A E : Type 0} (P Q : E → Type 0) (r : Result A E) → ((e : E) → P e → Q e) → IfErr r P → IfErr r Q
if_err_map P Q (Ok x) go p = tt
if_err_map P Q (Err e) go p = go e p

-- of two facts about an answer both hold
pub if_ok_both : {A E : Type 0} (P Q R : A → Type 0) (r : Result A E) → ((x : A) → P x → Q x → R x) → IfOk r P → IfOk r Q → IfOk r R
if_ok_both P Q R (Ok x) go p q = go x p q
if_ok_both P Q R (Err e) go p q = tt
