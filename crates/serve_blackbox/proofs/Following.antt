-- From trace to trace.
use Rattle.std.proofs.Common.{◌≡◌, ℕ, List, Option, Result, Ok, IfOk, refl, ◌∙◌, subst}
use Rattle.std.specs.Io.KnownBytes.{Appends, Consumes}
use Rattle.il_syntax.specs.declared.tree.Config.{Config}
use Rattle.scan_task.specs.Scanning.{Program}
use Rattle.group_spec.specs.World.{World}
use Rattle.cli_host.specs.Writes.{AppendsFront}
use Rattle.serve_lines.specs.declared.serve.Stopped.{Stopped}
use Rattle.serve_lines.specs.Saying.{AsksFor}
use Rattle.serve_lines.specs.Serving.{IsAsked, IsServed, IsStopped}
use Rattle.serve_lines.proofs.Replaying.{serves_taken, served_taken}
use Rattle.serve_blackbox.specs.declared.group.Halt.TheVariants as halt
use Rattle.serve_blackbox.specs.declared.keep.KeepFault.{KeepFault}
use Rattle.serve_blackbox.specs.declared.keep.KeepFault.TheVariants as unkept
use Rattle.serve_blackbox.specs.Ending.{Final, IsEndedFrom, IsHaltedFrom, IsUnkept, stop_at}
use Rattle.serve_blackbox.specs.Keeping.{Spot, IsAskedAt, IsGone, Leads}
use Rattle.serve_blackbox.specs.Keeping as keeping

pub ok_of : {A E : Type 0} (P : A → Type 0) (r : Result A E) (x : A) → r ≡ Ok x → IfOk r P → P x
ok_of P r x is p = subst (λ q. IfOk q P) is p

-- where another trace is asked for, by what serving says of it
pub asked_at : (c : Config) (s t : Spot) (last name : List ℕ) → IsAsked c s.world s.count t.world t.count (Consumes s.left t.left) (Appends s.out t.out) (Appends s.trace t.trace) s.heard last t.heard → AsksFor last name → t.made ≡ s.made → IsAskedAt c s t name
asked_at c s t last name asked asks made =
    let taken = serves_taken c asked.lines s.world t.world s.count t.count asked.text asked.events asked.serves in
    record {
      last = last;
      asked = asked;
      asks = asks;
      leads = (taken.0, taken.3, taken.2, subst (Appends s.trace t.trace) taken.1 asked.traced);
      made = made;
    }

-- the same at any line and of any reader
pub goes_there : (c : Config) (source : List ℕ) (s t : Spot) (name : List ℕ) (heard : ℕ) (left : Option (List ℕ)) → IsGone c source s t name → IsGone c source (record s { heard = heard; left = left }) (record t { heard = heard; left = left }) name
goes_there c source s t name heard left (kept, goes) = (
  kept,
  record {
    turns = goes.turns;
    again = goes.again;
    answered = goes.answered;
    world = goes.world;
    count = goes.count;
    heard = refl;
    left = refl;
  },
)

-- and what is not told
pub unkept_there : (c : Config) (source : List ℕ) (s : Spot) (name : List ℕ) (f : Final) (heard : ℕ) (left : Option (List ℕ)) (why : KeepFault) → IsUnkept c source s name f why → IsUnkept c source (record s { heard = heard; left = left }) name (record f { left = left }) why
unkept_there c source s name f heard left unkept.Memory is = is
unkept_there c source s name f heard left unkept.Trace is = is
unkept_there c source s name f heard left unkept.Output is = is

-- the end, by what serving says of it
pub ended_from : (c : Config) (source : List ℕ) (s m : Spot) (f : Final) (v : World) (next : ℕ) → Leads c source s m → IsServed c m.world m.count v next (Consumes m.left f.left) (Appends m.out f.out) (Appends m.trace f.trace) → f.made ≡ m.made → IsEndedFrom c source s f
ended_from c source s m f v next leads served made =
    let taken = served_taken c m.world m.count v next (Consumes m.left f.left) (Appends m.out f.out) (Appends m.trace f.trace) served in
    record {
      m = m;
      leads = leads;
      v = v;
      next = next;
      served = served;
      replays = (taken.0, taken.1, subst (Appends m.trace f.trace) taken.2 served.traced);
      made = made;
    }

module _ (p q : Program) (same : q ≡ p) (source : List ℕ) (s m : Spot) (leads : Leads p.config source s m) where
  pub ends_here : (f : Final) (v : World) (next : ℕ) → IsServed q.config m.world m.count v next (Consumes m.left f.left) (Appends m.out f.out) (Appends m.trace f.trace) → f.made ≡ m.made → IsEndedFrom p.config source s f
  ends_here f v next served made =
      ended_from p.config source s m f v next leads (subst (λ (x : Program). IsServed x.config m.world m.count v next (Consumes m.left f.left) (Appends m.out f.out) (Appends m.trace f.trace)) same served) made

  pub halts_here : (f : Final) (h : Stopped) → IsStopped q.config m.world m.count m.heard (stop_at f) (Consumes m.left f.left) (Appends m.out f.out) (AppendsFront m.out f.out) (Appends m.trace f.trace) (AppendsFront m.trace f.trace) h.stop h.line → f.made ≡ m.made
      → IsHaltedFrom p.config source s f (halt.Stop h)
  halts_here f h stopped made = (
    m,
    leads,
    subst (λ (x : Program). IsStopped x.config m.world m.count m.heard (stop_at f) (Consumes m.left f.left) (Appends m.out f.out) (AppendsFront m.out f.out) (Appends m.trace f.trace) (AppendsFront m.trace f.trace) h.stop h.line) same stopped,
    made,
  )

  module _ (a : Spot) (last name : List ℕ) (asked : IsAsked q.config m.world m.count a.world a.count (Consumes m.left a.left) (Appends m.out a.out) (Appends m.trace a.trace) m.heard last a.heard) (asks : AsksFor last name) (made : a.made ≡ m.made) (r : Program) (on : r ≡ q) where
    asked_here : IsAskedAt p.config m a name
    asked_here = asked_at p.config m a last name (subst (λ (x : Program). IsAsked x.config m.world m.count a.world a.count (Consumes m.left a.left) (Appends m.out a.out) (Appends m.trace a.trace) m.heard last a.heard) same asked) asks made

    pub goes_on_here : (t : Spot) → IsGone r.config source a t name → Leads p.config source s t
    goes_on_here t gone = keeping.more m a t name leads asked_here (subst (λ (x : Program). IsGone x.config source a t name) (on ∙ same) gone)

    pub unkept_here : (f : Final) (why : KeepFault) → f.left ≡ a.left → IsUnkept r.config source a name f why → IsHaltedFrom p.config source s f (halt.Keep why)
    unkept_here f why left unkept = (m, a, name, leads, asked_here, left, subst (λ (x : Program). IsUnkept x.config source a name f why) (on ∙ same) unkept)
