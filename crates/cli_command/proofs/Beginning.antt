-- Where a group begins.
use Rattle.std.proofs.Common.{◌≡◌, inl, Result, Ok, Err, IfOk}
use Rattle.il_syntax.specs.declared.tree.Config.{Config}
use Rattle.group_spec.specs.World.{World, opening}
use Rattle.group_journal.specs.Closed.{IsClosed}
use Rattle.serve_blackbox.proofs.Beginning.{begins_closed}

-- no scan is open at the opening
pub opening_closed : (c : Config) (w : World) → w ≡ opening c → IsClosed w
opening_closed c w is = begins_closed c w (inl is)

pub if_ok_map : {A E : Type 0} (P Q : A → Type 0) (r : Result A E) → ((x : A) → P x → Q x) → IfOk r P → IfOk r Q
if_ok_map P Q (Ok x) go p = go x p
if_ok_map P Q (Err e) go p = tt
