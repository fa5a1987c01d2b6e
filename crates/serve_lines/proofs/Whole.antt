-- After whole lines no scan is open.
use Rattle.std.proofs.Common.{◌≡◌, ℕ, zero, suc, ◌+◌, ◌≤◌, ◌<◌, ◌⊎◌, inl, inr, ◌==◌, Bool, true, false, List, [], ◌∷◌, ◌++◌, length, length-append, take, drop, Some, if◌then◌else◌, refl, sym, ap, ◌∙◌, subst, arith, zero-add, Option}
use Rattle.std.proofs.lemmas.Bool.Decides.{nat_tests}
use Rattle.std.specs.Prelude.{nat_lt, ◌&&◌, get_or, slice_get, slice_set, is_some}
use Rattle.il_syntax.specs.declared.tree.Config.{Config}
use Rattle.scan_task.specs.Scanning.{IsRunnable}
use Rattle.scan_task.proofs.Scans.{sound_of}
use Rattle.scan_task.proofs.Sizes.{sizes_fit}
use Rattle.group_spec.specs.declared.event.EventFault.{EventFault}
use Rattle.group_spec.specs.declared.trace.TraceEvent.{TraceEvent}
use Rattle.group_spec.specs.declared.trace.TraceEvent.TheVariants as traced
use Rattle.il_semantics.specs.State.{State}
use Rattle.group_spec.specs.Image.{sizes_of}
use Rattle.group_spec.specs.World.{World, flat, scan_at}
use Rattle.group_laws.specs.Accepted.{IsSound}
use Rattle.group_laws.specs.Runs.{IsReached}
use Rattle.group_laws.proofs.Lists.{same_or_other}
use Rattle.group_journal.specs.Closed.{IsClosed, open_behind, open_along}
use Rattle.group_journal.specs.Rounds.{TakesAll, IsRefusedAt}
use Rattle.group_laws.proofs.Accepted.{opens_well, scans_well}
use Rattle.group_laws.proofs.Running.{reached_world_holds}
use Rattle.group_journal.proofs.Along.{along, along_reached}
use Rattle.serve_lines.specs.Going.{opened, are_shut, ends_line, whole_from, all_shut, whole_events}
use Rattle.trace_text.proofs.Left.{left_after}

-- whose scans are open after events, one after the other
abbrev along_all : List Bool → List TraceEvent → List Bool
along_all marks [] = marks
along_all marks (e ∷ events) = along_all (opened marks e) events

-- AT A TASK

set_same : (marks : List Bool) (t : ℕ) (now : Bool) → t < length marks → get_or (slice_set marks t now) t false ≡ now
set_same [] t now low = absurd (omega (arith, low))
set_same (m ∷ marks) zero now low = refl
set_same (m ∷ marks) (suc t) now low = set_same marks t now (omega (arith, low))

set_other : (marks : List Bool) (u t : ℕ) (now : Bool) → (u ≡ t → ⊥) → get_or (slice_set marks u now) t false ≡ get_or marks t false
set_other [] u t now other = refl
set_other (m ∷ marks) zero zero now other = absurd (other refl)
set_other (m ∷ marks) zero (suc t) now other = refl
set_other (m ∷ marks) (suc u) zero now other = refl
set_other (m ∷ marks) (suc u) (suc t) now other = set_other marks u t now (λ same. other (ap suc same))

set_at : (marks : List Bool) (u t : ℕ) (now : Bool) → t < length marks → get_or (slice_set marks u now) t false ≡ (if u == t then now else get_or marks t false)
set_at marks u t now low = by (same_or_other u t)
  where
    by : ((u ≡ t) × ((u == t) ≡ true)) ⊎ ((u ≡ t → ⊥) × ((u == t) ≡ false)) → get_or (slice_set marks u now) t false ≡ (if u == t then now else get_or marks t false)
    by (inl same) = subst (λ k. get_or (slice_set marks k now) t false ≡ now) (sym same.0) (set_same marks t now low) ∙ ap (λ b. if b then now else get_or marks t false) (sym same.1)
    by (inr other) = set_other marks u t now other.0 ∙ ap (λ b. if b then now else get_or marks t false) (sym other.1)

set_long : (marks : List Bool) (u : ℕ) (now : Bool) → length (slice_set marks u now) ≡ length marks
set_long [] u now = refl
set_long (m ∷ marks) zero now = refl
set_long (m ∷ marks) (suc u) now = ap suc (set_long marks u now)

opened_at : (marks : List Bool) (e : TraceEvent) (t : ℕ) → t < length marks → get_or (opened marks e) t false ≡ open_behind t (get_or marks t false) e
opened_at marks (traced.Start u) t low = set_at marks u t true low
opened_at marks (traced.Commit u) t low = set_at marks u t false low
opened_at marks (traced.Press call) t low = refl
opened_at marks (traced.Gather floor) t low = refl
opened_at marks (traced.Refresh fields) t low = refl

opened_long : (marks : List Bool) (e : TraceEvent) → length (opened marks e) ≡ length marks
opened_long marks (traced.Start u) = set_long marks u true
opened_long marks (traced.Commit u) = set_long marks u false
opened_long marks (traced.Press call) = refl
opened_long marks (traced.Gather floor) = refl
opened_long marks (traced.Refresh fields) = refl

all_at : (events : List TraceEvent) (marks : List Bool) (t : ℕ) → t < length marks → get_or (along_all marks events) t false ≡ open_along t (get_or marks t false) events
all_at [] marks t low = refl
all_at (e ∷ events) marks t low =
    let long = opened_long marks e in
    all_at events (opened marks e) t (omega (arith, low, long)) ∙ ap (λ b. open_along t b events) (opened_at marks e t low)

shut_at : (marks : List Bool) (t : ℕ) → are_shut marks ≡ true → get_or marks t false ≡ false
shut_at [] t shut = refl
shut_at (true ∷ marks) t shut = absurd (cc)
shut_at (false ∷ marks) zero shut = refl
shut_at (false ∷ marks) (suc t) shut = shut_at marks t shut

-- THE FRONT THAT IS CHOSEN

-- so many events, after which no scan is open
pub record IsShutAt (marks : List Bool) (events : List TraceEvent) (n : ℕ) : Type 0 where
  pub within : n ≤ length events
  pub shut : are_shut (along_all marks (take n events)) ≡ true

both_true : (a b : Bool) → (a && b) ≡ true → b ≡ true
both_true true b is = is
both_true false b is = absurd (cc)

-- what is chosen of these events: nothing beyond what was before, or so many of them
abbrev Chosen : ℕ → List Bool → ℕ → ℕ → List TraceEvent → ℕ → Type 0
Chosen last marks whole count events r = (r ≡ whole) ⊎ ((n : ℕ) × (r ≡ count + n) × IsShutAt marks events n)

later : (marks : List Bool) (e : TraceEvent) (events : List TraceEvent) (count r n : ℕ) → r ≡ (count + 1) + n → IsShutAt (opened marks e) events n → (m : ℕ) × (r ≡ count + m) × IsShutAt marks (e ∷ events) m
later marks e events count r n is shut = let within = shut.within in (suc n, omega (arith, is), record { within = omega (arith, within); shut = shut.shut })

next : (last : ℕ) (e : TraceEvent) (events : List TraceEvent) (marks : List Bool) (whole count r : ℕ) (b : Bool) → (ends_line last e && are_shut (opened marks e)) ≡ b
    → Chosen last (opened marks e) (if b then count + 1 else whole) (count + 1) events r → Chosen last marks whole count (e ∷ events) r
next last e events marks whole count r true is (inl same) = inr (1, same, record { within = omega (arith); shut = both_true (ends_line last e) (are_shut (opened marks e)) is })
next last e events marks whole count r false is (inl same) = inl same
next last e events marks whole count r b is (inr more) = inr (later marks e events count r more.0 more.1 more.2)

chosen : (last : ℕ) (events : List TraceEvent) (marks : List Bool) (whole count : ℕ) → Chosen last marks whole count events (whole_from last marks whole count events)
chosen last [] marks whole count = inl refl
chosen last (e ∷ events) marks whole count =
    next last e events marks whole count (whole_from last marks whole count (e ∷ events)) (ends_line last e && are_shut (opened marks e)) refl
    (chosen last events (opened marks e) (if ends_line last e && are_shut (opened marks e) then count + 1 else whole) (count + 1))

-- IN A WORLD

-- no scan is open after the events that are in whole lines
shut_front : (c : Config) → IsSound c → (w v : World) (events : List TraceEvent) (n t : ℕ) → IsReached c w → IsClosed w → IsShutAt all_shut events n → TakesAll c w (take n events) v → t < 9 → is_some (scan_at v t) ≡ false
shut_front c sound w v events n t reached closed shut taken low =
    along c sound (take n events) w v t reached taken ∙ ap (λ b. open_along t b (take n events)) (closed t ∙ sym (shut_at all_shut t refl))
    ∙ sym (all_at (take n events) all_shut t low) ∙ shut_at (along_all all_shut (take n events)) t shut.shut

no_scan : (ss : List (Option State)) (t : ℕ) → length ss ≤ t → is_some (flat (slice_get ss t)) ≡ false
no_scan [] t high = refl
no_scan (s ∷ ss) zero high = absurd (omega (arith, high))
no_scan (s ∷ ss) (suc t) high = no_scan ss t (omega (arith, high))

front_closes : (c : Config) → IsSound c → (sizes_of c).cars ≤ 8 → (w v : World) (events : List TraceEvent) (n : ℕ) → IsReached c w → IsClosed w → IsShutAt all_shut events n → TakesAll c w (take n events) v → IsClosed v
front_closes c sound few w v events n reached closed shut taken t = by (nat_lt t 9) refl
  where
    by : (b : Bool) → nat_lt t 9 ≡ b → is_some (scan_at v t) ≡ false
    by true is = let low : t < 9 = grind (arith, nat_tests) in shut_front c sound w v events n t reached closed shut taken low
    by false is =
        let there = along_reached c (take n events) w v reached taken in
        let holds = reached_world_holds c (opens_well c sound) (scans_well c sound) v there in
        let long = holds.1.scans in
        let high : 9 ≤ t = grind (arith, nat_tests) in
        no_scan v.scans t (omega (arith, long, few, high))

-- after the events that are in whole lines no scan is open
pub whole_closes : (c : Config) → IsSound c → (sizes_of c).cars ≤ 8 → (last : ℕ) (w v : World) (events : List TraceEvent) → IsReached c w → IsClosed w → TakesAll c w (take (whole_events last events) events) v → IsClosed v
unfolding whole_events
whole_closes c sound few last w v events reached closed taken = by (chosen last events all_shut 0 0)
  where
    by : Chosen last all_shut 0 0 events (whole_from last all_shut 0 0 events) → IsClosed v
    by (inl none) = subst IsClosed (subst (λ n. TakesAll c w (take n events) v) none taken) closed
    by (inr some) = front_closes c sound few w v events some.0 reached closed some.2 (subst (λ n. TakesAll c w (take n events) v) (some.1 ∙ zero-add some.0) taken)

-- so many events are there
pub whole_within : (last : ℕ) (events : List TraceEvent) → whole_events last events ≤ length events
unfolding whole_events
whole_within last events = by (chosen last events all_shut 0 0)
  where
    by : Chosen last all_shut 0 0 events (whole_from last all_shut 0 0 events) → whole_from last all_shut 0 0 events ≤ length events
    by (inl none) = omega (arith, none)
    by (inr some) = let is = some.1 in let within = some.2.within in omega (arith, is, within)

-- the same of a program that runs
pub whole_closes_in : (c : Config) → IsRunnable c → (last : ℕ) (w v : World) (events : List TraceEvent) → IsReached c w → IsClosed w → TakesAll c w (take (whole_events last events) events) v → IsClosed v
whole_closes_in c runs = whole_closes c (sound_of c runs) (sizes_fit c runs).0.1

take_short : (n : ℕ) (events : List TraceEvent) → length (take n events) ≤ length events
take_short zero events = omega (arith)
take_short (suc n) [] = omega (arith)
take_short (suc n) (e ∷ events) = let rest = take_short n events in omega (arith, rest)

-- an event that is refused is one of them
pub refused_within : (c : Config) (w : World) (events : List TraceEvent) (n index : ℕ) (why : EventFault) → IsRefusedAt c w (take n events) index why → index ≤ length events
refused_within c w events n index why r =
    let fits : length (r.first ++ r.event ∷ r.rest) ≤ length events = subst (λ es. length es ≤ length events) r.are (take_short n events) in
    let both = length-append r.first (r.event ∷ r.rest) in
    let behind = r.behind in
    omega (arith, fits, both, behind)

-- THE COUNT, ONE EVENT MORE

-- how many are in whole lines after an event
abbrev pub whole_after : ℕ → TraceEvent → List Bool → ℕ → ℕ → ℕ
whole_after last e marks count whole = if ends_line last e && are_shut (opened marks e) then count + 1 else whole

pub whole_more : (last : ℕ) (events : List TraceEvent) (count : ℕ) (marks now : List Bool) (e : TraceEvent) (whole next : ℕ) → slice_get events count ≡ Some e → now ≡ opened marks e → next ≡ whole_after last e marks count whole
    → whole_from last marks whole count (drop count events) ≡ whole_from last now next (count + 1) (drop (count + 1) events)
whole_more last events count marks now e whole next at is_now is_next =
    ap (whole_from last marks whole count) (left_after events count e at)
    ∙ ap (λ n. whole_from last (opened marks e) n (count + 1) (drop (count + 1) events)) (sym is_next)
    ∙ ap (λ m. whole_from last m next (count + 1) (drop (count + 1) events)) (sym is_now)

-- a line ends
pub line_ends : (last : ℕ) (e : TraceEvent) (marks now : List Bool) (count whole : ℕ) → now ≡ opened marks e → ends_line last e ≡ true → are_shut now ≡ true → count + 1 ≡ whole_after last e marks count whole
line_ends last e marks now count whole is_now ends shut =
    sym (ap (λ b. if b && are_shut (opened marks e) then count + 1 else whole) ends ∙ ap (λ b. if true && b then count + 1 else whole) (ap are_shut (sym is_now) ∙ shut))

-- it goes on: the event can't end it, or a scan is open
pub line_goes_on : (last : ℕ) (e : TraceEvent) (marks : List Bool) (count whole : ℕ) → ends_line last e ≡ false → whole ≡ whole_after last e marks count whole
line_goes_on last e marks count whole never = sym (ap (λ b. if b && are_shut (opened marks e) then count + 1 else whole) never)

pub scan_is_open : (last : ℕ) (e : TraceEvent) (marks now : List Bool) (count whole : ℕ) → now ≡ opened marks e → ends_line last e ≡ true → are_shut now ≡ false → whole ≡ whole_after last e marks count whole
scan_is_open last e marks now count whole is_now ends still =
    sym (ap (λ b. if b && are_shut (opened marks e) then count + 1 else whole) ends ∙ ap (λ b. if true && b then count + 1 else whole) (ap are_shut (sym is_now) ∙ still))
