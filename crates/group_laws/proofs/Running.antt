-- The law of all runs.
use Rattle.std.proofs.Common.{◌≡◌, ◌≤◌, ◌⊎◌, inl, inr, ℕ, suc, ◌+◌, Bool, true, false, List, [], ◌∷◌, ◌++◌, length, refl, sym, ap, ◌∙◌, subst, Some, None, Option, Ok, Err, IsOk, append_assoc, append-nil, length-append, arith}
use Rattle.il_syntax.specs.declared.tree.Config.{Config}
use Rattle.il_syntax.specs.declared.tree.Unit.{Unit as ProgramUnit}
use Rattle.il_semantics.specs.State.{State}
use Rattle.il_semantics.specs.Step.{step, Next as Goes}
use Rattle.il_semantics.specs.Scan.{Reaches, has_ended}
use Rattle.group_spec.specs.declared.event.Event.{Event}
use Rattle.group_spec.specs.declared.event.Event.TheVariants.{Start}
use Rattle.group_spec.specs.Replies.{Started}
use Rattle.group_spec.specs.Replies.{Reply}
use Rattle.group_spec.specs.Snapshot.{program_of, scan_begins}
use Rattle.group_spec.specs.World.{Next, World, TaskState, happens, run, and_then, opening, task_at, scan_at, beginning_of, counted, answered}
use Rattle.group_laws.specs.Tasks.{IsTaskOf, budget_of}
use Rattle.group_laws.specs.Scans.{ScansWell, OpensWell, ScanHolds}
use Rattle.group_laws.specs.Holding.{IsOpen, SeatHolds, TaskHolds, WorldHolds, RestsWell, Leads}
use Rattle.group_laws.specs.Runs.{HasNoStart, IsStarted, WorldWellFrom, RunsWellFrom, Begins, OpeningHolds, SoundRunsWell, ReachedHolds}
use Rattle.group_laws.proofs.Steps.{answered_more, reaches_more, counts_start}
use Rattle.group_laws.proofs.Events.{event_leads, scan_known}
use Rattle.group_laws.proofs.Openings.{world_opens, no_scan_open}
use Rattle.group_laws.proofs.Following.{appends, same_end}
use Rattle.group_laws.proofs.Coming.{Comes, stays, ends, begins, moves, scan_comes}
use Rattle.il_semantics.specs.Ranges.{HoldsTask}

-- A run from a world, and what holds where it has led.
record History (c : Config) (base : World) (past : List Event) (answers : List Reply) (w : World) : Type 0 where
  pub is : run c base [] past ≡ Ok (w, answers)
  pub many : length past ≡ length answers
  pub holds : WorldHolds c (λ t. answered t 0 past answers) w
  pub started : (t : ℕ) (scan : State) → scan_at w t ≡ Some scan → IsStarted c base past answers t scan

none_some : {A : Type 0} {X : Type 0} (o : Option X) (x : X) → o ≡ None → o ≡ Some x → A
none_some o x a b = let bad : None ≡ Some x = sym a ∙ b in cc

first : (c : Config) (base : World) → RestsWell c base → History c base [] [] base
first c base rests = record { is = refl; many = refl; holds = rests.holds; started = λ t scan there. none_some (scan_at base t) scan (rests.closed t) there }

-- the opening rests
pub opening_rests : OpeningHolds
opening_rests c opens = record { holds = world_opens c opens; closed = no_scan_open c }

same_state : (o : Option State) (a b : State) → o ≡ Some a → o ≡ Some b → a ≡ b
same_state o a b p q = let both : Some a ≡ Some b = sym p ∙ q in cc

-- an event that counts otherwise is no Start that was answered
no_start : (t : ℕ) (e : Event) (r : Reply) → ((n : ℕ) → (k : ℕ) × (counted t n e r ≡ k) × (n ≤ k)) → ¬ ((e ≡ Start t) × (r ≡ Started))
no_start t e r counts both =
    let zero_there : counted t 1 e r ≡ 0 = ap (λ d. counted t 1 d r) both.0 ∙ ap (λ q. counted t 1 (Start t) q) both.1 ∙ counts_start t 1 in
    let one = counts 1 in
    let none : one.0 ≡ 0 = sym one.1 ∙ zero_there in
    omega (arith, none, one.2)

no_start_more : (t : ℕ) (es : List Event) (rs : List Reply) (e : Event) (r : Reply) → HasNoStart t es rs → length es ≡ length rs → ¬ ((e ≡ Start t) × (r ≡ Started)) → HasNoStart t (es ++ e ∷ []) (rs ++ r ∷ [])
no_start_more t [] [] e r h many other = (other, tt)
no_start_more t [] (q ∷ rs) e r h many other = absurd (omega (arith, many))
no_start_more t (d ∷ es) [] e r h many other = absurd h
no_start_more t (d ∷ es) (q ∷ rs) e r h many other = (h.0, no_start_more t es rs e r h.1 (omega (arith, many)) other)

-- as many replies as events follows the Start
as_many : (c : Config) (base : World) (past : List Event) (answers : List Reply) (t : ℕ) (scan : State) (s : IsStarted c base past answers t scan) → length past ≡ length answers → length s.before_it ≡ length s.answers → length s.behind_it ≡ length s.since
as_many c base past answers t scan s many before_it =
    let events : length past ≡ length s.before_it + length (Start t ∷ s.behind_it) = ap length s.is ∙ length-append s.before_it (Start t ∷ s.behind_it) in
    let replies : length answers ≡ length s.answers + length (Started ∷ s.since) = ap length s.replies_are ∙ length-append s.answers (Started ∷ s.since) in
    omega (arith, events, replies, many, before_it)

-- a scan that was started before the last event
still_started :
    (c : Config) (base : World) (past : List Event) (answers : List Reply) (e : Event) (r : Reply) (t : ℕ) (old scan : State) (s : IsStarted c base past answers t old) → length past ≡ length answers → length s.before_it ≡ length s.answers → ¬ ((e ≡ Start t) × (r ≡ Started))
    → ((before_it : List Event) (before : World) (task : TaskState) → Reaches c (answered t 0 past answers) (scan_begins c t (beginning_of before.group task)) old → Reaches c (answered t 0 (past ++ e ∷ []) (answers ++ r ∷ [])) (scan_begins c t (beginning_of before.group task)) scan)
    → IsStarted c base (past ++ e ∷ []) (answers ++ r ∷ []) t scan
still_started c base past answers e r t old scan s many before_it other more =
    record {
      before_it = s.before_it;
      behind_it = s.behind_it ++ e ∷ [];
      is = ap (λ es. es ++ e ∷ []) s.is ∙ append_assoc s.before_it (Start t ∷ s.behind_it) (e ∷ []);
      answers = s.answers;
      since = s.since ++ r ∷ [];
      replies_are = ap (λ rs. rs ++ r ∷ []) s.replies_are ∙ append_assoc s.answers (Started ∷ s.since) (r ∷ []);
      last = no_start_more t s.behind_it s.since e r s.last (as_many c base past answers t old s many before_it) other;
      before = s.before;
      reached = s.reached;
      task = s.task;
      there = s.there;
      reaches = more s.before_it s.before s.task s.reaches;
    }

-- a run gives a reply an event
replies_many : (c : Config) (es : List Event) (w v : World) (so_far replies : List Reply) → run c w so_far es ≡ Ok (v, replies) → length so_far + length es ≡ length replies
replies_many c [] w v so_far replies is = let same : so_far ≡ replies = ap (λ p. p.1) (same_end w v so_far replies is) in let long : length so_far ≡ length replies = ap length same in omega (arith, long)
replies_many c (e ∷ es) w v so_far replies is = by (happens c w e) (λ x rs. replies_many c es x v rs replies) is
  where
    by : (n : Next) → ((x : World) (rs : List Reply) → run c x rs es ≡ Ok (v, replies) → length rs + length es ≡ length replies) → and_then n (λ m. run c m.0 (so_far ++ m.1 ∷ []) es) ≡ Ok (v, replies) → length so_far + length (e ∷ es) ≡ length replies
    by (Err halt) rest is = cc
    by (Ok m) rest is =
        let all : length (so_far ++ m.1 ∷ []) + length es ≡ length replies = rest m.0 (so_far ++ m.1 ∷ []) is in
        let more : length (so_far ++ m.1 ∷ []) ≡ length so_far + 1 = length-append so_far (m.1 ∷ []) in
        omega (arith, all, more)

before_many : (c : Config) (base : World) (past : List Event) (answers : List Reply) (t : ℕ) (scan : State) (s : IsStarted c base past answers t scan) → length s.before_it ≡ length s.answers
before_many c base past answers t scan s = let all : length {A = Reply} [] + length s.before_it ≡ length s.answers = replies_many c s.before_it base s.before [] s.answers s.reached in omega (arith, all)

started_next :
    (c : Config) (base : World) (past : List Event) (answers : List Reply) (w v : World) (e : Event) (r : Reply) (t : ℕ) (scan : State) → History c base past answers w → Comes c w e r t (scan_at v t) → scan_at v t ≡ Some scan → IsStarted c base (past ++ e ∷ []) (answers ++ r ∷ []) t scan
started_next c base past answers w v e r t scan h (stays is counts) there =
    let same : answered t 0 past answers ≡ answered t 0 (past ++ e ∷ []) (answers ++ r ∷ []) = sym (answered_more t 0 past answers e r h.many ∙ counts (answered t 0 past answers)) in
    let old : IsStarted c base past answers t scan = h.started t scan (sym is ∙ there) in
    still_started c base past answers e r t scan scan old h.many (before_many c base past answers t scan old) (no_start t e r (λ n. (n, counts n, omega arith)))
    (λ before_it before task reaches. subst (λ n. Reaches c n (scan_begins c t (beginning_of before.group task)) scan) same reaches)
started_next c base past answers w v e r t scan h (ends is) there = none_some (scan_at v t) scan is there
started_next c base past answers w v e r t scan h (begins task is_start is_started is_task is counts) there =
    let none : 0 ≡ answered t 0 (past ++ e ∷ []) (answers ++ r ∷ []) = sym (answered_more t 0 past answers e r h.many ∙ counts (answered t 0 past answers)) in
    record {
      before_it = past;
      behind_it = [];
      is = ap (λ x. past ++ x ∷ []) is_start;
      answers = answers;
      since = [];
      replies_are = ap (λ x. answers ++ x ∷ []) is_started;
      last = tt;
      before = w;
      reached = h.is;
      task = task;
      there = is_task;
      reaches = subst (λ n. Reaches c n (scan_begins c t (beginning_of w.group task)) scan) none (same_state (scan_at v t) scan (scan_begins c t (beginning_of w.group task)) there is);
    }
started_next c base past answers w v e r t scan h (moves old new was goes is counts) there =
    let one : suc (answered t 0 past answers) ≡ answered t 0 (past ++ e ∷ []) (answers ++ r ∷ []) = sym (answered_more t 0 past answers e r h.many ∙ counts (answered t 0 past answers)) in
    let same : new ≡ scan = same_state (scan_at v t) new scan is there in
    let earlier : IsStarted c base past answers t old = h.started t old was in
    still_started c base past answers e r t old scan earlier h.many (before_many c base past answers t old earlier) (no_start t e r (λ n. (suc n, counts n, omega arith)))
    (λ before_it before task reaches.
    let start : State = scan_begins c t (beginning_of before.group task) in
    subst (λ n. Reaches c n start scan) one (subst (λ x. Reaches c (suc (answered t 0 past answers)) start x) same (reaches_more c (answered t 0 past answers) start old new reaches goes)))

-- one event more
next :
    (c : Config) (base : World) (past : List Event) (answers : List Reply) (w v : World) (e : Event) (r : Reply) → History c base past answers w → happens c w e ≡ Ok (v, r) → WorldHolds c (λ t. counted t (answered t 0 past answers) e r) v
    → History c base (past ++ e ∷ []) (answers ++ r ∷ []) v
next c base past answers w v e r h is holds =
    let counts : ◌≡◌ {A = ℕ → ℕ} (λ t. counted t (answered t 0 past answers) e r) (λ t. answered t 0 (past ++ e ∷ []) (answers ++ r ∷ [])) = λ i t. sym (answered_more t 0 past answers e r h.many) i in
    let more : length (past ++ e ∷ []) ≡ length past + 1 = length-append past (e ∷ []) in
    let told_more : length (answers ++ r ∷ []) ≡ length answers + 1 = length-append answers (r ∷ []) in
    record {
      is = appends c base [] past (e ∷ []) ∙ ap (λ x. and_then x (λ n. run c n.0 n.1 (e ∷ []))) h.is ∙ ap (λ x. and_then x (λ n. run c n.0 (answers ++ n.1 ∷ []) [])) is;
      many = more ∙ ap (λ n. n + 1) h.many ∙ sym told_more;
      holds = subst (λ f. WorldHolds c f v) counts holds;
      started = λ t scan there. started_next c base past answers w v e r t scan h (scan_comes c (λ t. answered t 0 past answers) w v e r h.holds is t) there;
    }

-- where a run leads
record Ran (c : Config) (base : World) (past : List Event) (answers : List Reply) (w : World) (events : List Event) : Type 0 where
  pub after : World
  pub replies : List Reply
  pub is : run c w answers events ≡ Ok (after, replies)
  pub history : History c base (past ++ events) replies after

runs_on : (c : Config) (base : World) → OpensWell c → ScansWell c → (events past : List Event) (answers : List Reply) (w : World) → History c base past answers w → Ran c base past answers w events
runs_on c base opens sound [] past answers w h = record { after = w; replies = answers; is = refl; history = subst (λ es. History c base es answers w) (sym (append-nil past)) h }
runs_on c base opens sound (e ∷ events) past answers w h =
    let lead : Leads c (λ t. answered t 0 past answers) e (happens c w e) = event_leads c opens.sized sound (λ t. answered t 0 past answers) w e h.holds in
    let rest : Ran c base (past ++ e ∷ []) (answers ++ lead.reply ∷ []) lead.after events =
    runs_on c base opens sound events (past ++ e ∷ []) (answers ++ lead.reply ∷ []) lead.after (next c base past answers w lead.after e lead.reply h lead.is lead.holds) in
    record {
      after = rest.after;
      replies = rest.replies;
      is = ap (λ n. and_then n (λ m. run c m.0 (answers ++ m.1 ∷ []) events)) lead.is ∙ rest.is;
      history = subst (λ es. History c base es rest.replies rest.after) (append_assoc past (e ∷ []) events) rest.history;
    }

ran : (c : Config) (base : World) → RestsWell c base → OpensWell c → ScansWell c → (events : List Event) → Ran c base [] [] base events
ran c base rests opens sound events = runs_on c base opens sound events [] [] base (first c base rests)

-- the history of a run that is given
history : (c : Config) (base : World) → RestsWell c base → OpensWell c → ScansWell c → (events : List Event) (w : World) (replies : List Reply) → run c base [] events ≡ Ok (w, replies) → History c base events replies w
history c base rests opens sound events w replies is =
    let r : Ran c base [] [] base events = ran c base rests opens sound events in
    let same : ◌≡◌ {A = World × List Reply} (r.after, r.replies) (w, replies) = same_end r.after w r.replies replies (sym r.is ∙ is) in
    subst (λ (p : World × List Reply). History c base events p.1 p.0) same r.history

-- WHAT HOLDS THERE

same_unit : (o : Option ProgramUnit) (u v : ProgramUnit) → o ≡ Some u → o ≡ Some v → u ≡ v
same_unit o u v p q = let both : Some u ≡ Some v = sym p ∙ q in cc

task_there :
    (c : Config) (t n : ℕ) (u : ProgramUnit) (o : Option TaskState) (s : Option State) → SeatHolds c t n o s → IsTaskOf c t u → (task : TaskState) × (o ≡ Some task) × HoldsTask c u task.variables
task_there c t n u None None h is = none_some (program_of c t) u (h is.within) is.program
task_there c t n u None (Some s) h is = absurd h
task_there c t n u (Some task) s h is = (task, refl, subst (λ v. HoldsTask c v task.variables) (same_unit (program_of c t) h.unit u h.is.program is.program) h.variables)

-- an open scan has its task
seat_of_scan : (c : Config) (t n : ℕ) (o : Option TaskState) (s : Option State) (scan : State) → SeatHolds c t n o s → s ≡ Some scan → (task : TaskState) × TaskHolds c t n task (Some scan)
seat_of_scan c t n None None scan h e = cc
seat_of_scan c t n None (Some s) scan h e = absurd h
seat_of_scan c t n (Some task) s scan h e = (task, subst (λ x. TaskHolds c t n task x) e h)

-- at the budget it has ended
ends_there : (c : Config) (t n : ℕ) (task : TaskState) (scan : State) (b : Bool) → ScansWell c → TaskHolds c t n task (Some scan) → n ≡ budget_of c t → has_ended scan ≡ b → has_ended scan ≡ true
ends_there c t n task scan true sound seat full is = is
ends_there c t n task scan false sound seat full is =
    let open_scan : IsOpen c t n task scan = seat.scanning in
    let known : ScanHolds c t seat.unit n scan = sound t seat.unit open_scan.group task n scan seat.is open_scan.ranges seat.variables open_scan.reaches in
    let goes : (next : State) × (step c scan ≡ Goes next) = known.goes_on is in
    let more : ScanHolds c t seat.unit (suc n) goes.0 =
    sound t seat.unit open_scan.group task (suc n) goes.0 seat.is open_scan.ranges seat.variables (reaches_more c n (scan_begins c t (beginning_of open_scan.group task)) scan goes.0 open_scan.reaches goes.1) in
    absurd (omega (arith, full, more.within))

well_there : (c : Config) (base : World) → ScansWell c → (events : List Event) (w : World) (replies : List Reply) → History c base events replies w → WorldWellFrom c base events replies w
well_there c base sound events w replies h =
    let holds = h.holds in
    let count : ℕ → ℕ = λ t. answered t 0 events replies in
    record {
      ranges = holds.ranges;
      obeys = holds.obeys;
      tasks = λ t u is. task_there c t (count t) u (task_at w.group t) (scan_at w t) (holds.each t) is;
      within = holds.within;
      started = h.started;
      ends = λ t scan there full.
          let seat = seat_of_scan c t (count t) (task_at w.group t) (scan_at w t) scan (holds.each t) there in
          ends_there c t (count t) seat.0 scan (has_ended scan) sound seat.1 full refl;
      goes_on = λ t scan there going.
          let seat = seat_of_scan c t (count t) (task_at w.group t) (scan_at w t) scan (holds.each t) there in
          let known : ScanHolds c t seat.1.unit (count t) scan = scan_known c count w t seat.0 scan sound seat.1 in
          known.goes_on going;
      replies = sym h.many;
      tickets = holds.tickets;
      desk = holds.desk;
      hand = holds.hand;
    }

-- from a world that rests
runs_from : (c : Config) → OpensWell c → ScansWell c → (base : World) → RestsWell c base → RunsWellFrom c base
runs_from c opens sound base rests =
    record {
      steady = λ events. let r : Ran c base [] [] base events = ran c base rests opens sound events in subst IsOk (sym r.is) refl;
      well = λ events w replies is. well_there c base sound events w replies (history c base rests opens sound events w replies is);
    }

pub runs_well : SoundRunsWell
runs_well c opens sound =
    let first : RunsWellFrom c (opening c) = runs_from c opens sound (opening c) (opening_rests c opens) in record { steady = first.steady; well = first.well; resumed = runs_from c opens sound }

-- where runs begin, the world rests
begins_at_rest : (c : Config) → OpensWell c → (base : World) → Begins c base → RestsWell c base
begins_at_rest c opens base (inl is) = subst (RestsWell c) (sym is) (opening_rests c opens)
begins_at_rest c opens base (inr rests) = rests

pub reached_world_holds : ReachedHolds
reached_world_holds c opens sound w reached =
    let rests : RestsWell c reached.base = begins_at_rest c opens reached.base reached.begins in
    let h : History c reached.base reached.events reached.replies w = history c reached.base rests opens sound reached.events w reached.replies reached.is in (λ t. answered t 0 reached.events reached.replies, h.holds)
