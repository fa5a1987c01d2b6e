use Rattle.std.proofs.Common.{◌≡◌, sym, ap, ◌∙◌, List, reverse, slice_get, Option, Bor}
use Rattle.std.specs.Prelude.{option_map}
use Rattle.std.proofs.lemmas.Iterator.Consumers.{nth_from_yields_List}
use Rattle.std.proofs.lemmas.Iterator.Adapters.{YieldsList-from_rev_slice}
use Rattle.scan_loop.specs.declared.frames.Caller.{Caller}
use Rattle.scan_loop.specs.Frames.{Suspended}
use Rattle.scan_loop.proofs.Callers.{suspended_at}
use Rattle.scan_loop.proofs.frames.Frames.frame_at.Goals as goal

pub returns-in_err-caller : goal.returns-in_err-caller
returns-in_err-caller c =
    let callers = c.self.inside.callers.items in
    let found : option_map (λ (b : Bor Caller). b.now) c.nth.result ≡ slice_get (reverse callers) c.args.level = nth_from_yields_List c.nth.result c.nth.new.self c.args.level c.nth.ensures.ran (YieldsList-from_rev_slice callers (cc)) in
    c.from_residual.ensures
    ∙ sym (ap (λ (o : Option (Bor Caller)). option_map (λ (x : Caller). x.frame) (option_map (λ (b : Bor Caller). b.now) o)) c.in_err-caller.was)
    ∙ ap (option_map (λ (x : Caller). x.frame)) found
    ∙ sym (suspended_at (reverse callers) (reverse c.self.inside.aside.items) c.args.level)
    ∙ ap (λ (fs : List Suspended). option_map (λ (s : Suspended). s.frame) (slice_get fs c.args.level)) c.self.view_is

pub returns : goal.returns
returns c =
    let callers = c.self.inside.callers.items in
    let found : option_map (λ (b : Bor Caller). b.now) c.nth.result ≡ slice_get (reverse callers) c.args.level = nth_from_yields_List c.nth.result c.nth.new.self c.args.level c.nth.ensures.ran (YieldsList-from_rev_slice callers (cc)) in
    sym (ap (λ (o : Option (Bor Caller)). option_map (λ (x : Caller). x.frame) (option_map (λ (b : Bor Caller). b.now) o)) c.in_ok-caller.was)
    ∙ ap (option_map (λ (x : Caller). x.frame)) found
    ∙ sym (suspended_at (reverse callers) (reverse c.self.inside.aside.items) c.args.level)
    ∙ ap (λ (fs : List Suspended). option_map (λ (s : Suspended). s.frame) (slice_get fs c.args.level)) c.self.view_is
