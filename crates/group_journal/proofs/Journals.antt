-- Journals: what a further entry adds, and whose scans are open.
use Rattle.std.proofs.Common.{◌≡◌, ◌≢◌, ℕ, zero, suc, ◌+◌, ◌%◌, ◌<◌, ◌⊎◌, inl, inr, Bool, true, false, ◌==◌, List, [], ◌∷◌, ◌++◌, map, length, replicate, Option, Some, None, Result, Ok, Err, if◌then◌else◌, refl, sym, ap, ◌∙◌, subst, arith, eqb-true, length-append, append-nil}
use Rattle.std.specs.Prelude.{slice_get, slice_set, is_some}
use Rattle.il_syntax.specs.declared.tree.Config.{Config}
use Rattle.il_semantics.specs.State.{State}
use Rattle.il_semantics.specs.Step.{Outcome, Next as Goes, Trapped, Stuck, step as scan_step}
use Rattle.il_semantics.specs.Scan.{has_ended}
use Rattle.group_spec.specs.declared.image.Fields.{Fields}
use Rattle.group_spec.specs.declared.calls.Call.{Call}
use Rattle.group_spec.specs.declared.event.Event.{Event}
use Rattle.group_spec.specs.declared.event.Event.TheVariants.{Start, Instruction, Commit, Refresh, Press, Gather}
use Rattle.group_spec.specs.declared.event.EventFault.{EventFault}
use Rattle.group_spec.specs.Image.{Obeys}
use Rattle.group_spec.specs.Hands.{has_call, has_from, floors_of}
use Rattle.group_spec.specs.Replies.{Reply, Refused}
use Rattle.group_spec.specs.World.{World, Halt, TaskState, Next, InRanges, flat, task_at, scan_at, opening, happens, run, and_then, starts, starts_from, instructs, instructs_in, instructs_scan, stepped, commits, commits_scan, commits_ended, refreshes, presses, presses_floors, presses_new, gathers, gathers_from}
use Rattle.group_laws.specs.Accepted.{IsSound}
use Rattle.group_laws.specs.Holding.{SeatHolds, TaskHolds, WorldHolds}
use Rattle.group_laws.specs.Runs.{IsReached}
use Rattle.std.proofs.lemmas.List.{append_assoc}
use Rattle.group_laws.proofs.Accepted.{opens_well, scans_well}
use Rattle.group_laws.proofs.Histories.{reached_well}
use Rattle.group_laws.proofs.Following.{follow, before, ended, same_end, goes_on}
use Rattle.group_laws.proofs.Lists.{get_other, same_or_other}
use Rattle.group_laws.proofs.Running.{reached_world_holds}
use Rattle.group_laws.proofs.Seats.{flat_same}
use Rattle.group_laws.proofs.Openings.{no_scan_open}
use Rattle.group_spec.specs.declared.journal.Entry.{Entry}
use Rattle.group_spec.specs.declared.journal.Entry.TheVariants as entry
use Rattle.group_journal.specs.Journal.{Enters, events_of, IsAccepted, AreAccepted, Runs, IsJournalOf, entries_by, entered_by, calls_entered, actor_of, open_after, MayFollow, Alternate, IsOpenWhereOdd, refresher}
use Rattle.group_journal.specs.Pages.{Page, Kept, Adds}
use Rattle.group_journal.proofs.Scanning.{within}

-- A FURTHER ENTRY

pub runs_more : (c : Config) (w m v : World) (entries : List Entry) (e : Entry) (answer : Reply) → Runs c w entries m → Enters c m e v answer → Runs c w (entries ++ e ∷ []) v
runs_more c w m v [] e answer same step = (v, answer, subst (λ x. Enters c x e v answer) (sym same) step, refl)
runs_more c w m v (d ∷ entries) e answer (x, told, first, rest) step = (x, told, first, runs_more c x m v entries e answer rest step)

pub entry_keeps : (b p : Page) (e : Entry) (answer : Reply) → Kept b → length b.journal < b.capacity → Adds b e answer p → p.world.desk ≡ [] → p.world.hand ≡ [] → Kept p
entry_keeps b p e answer kept room adds desk hand =
    let more : length p.journal ≡ length b.journal + 1 = ap length adds.journal ∙ length-append b.journal (e ∷ []) in
    record {
      room = omega (arith, more, room, adds.capacity);
      run = subst (λ c. IsJournalOf c p.journal p.world) (sym adds.config) (subst (λ es. IsJournalOf b.config es p.world) (sym adds.journal) (runs_more b.config (opening b.config) b.world p.world b.journal e answer kept.run adds.step));
      desk = desk;
      hand = hand;
    }

pub entries_more : (actor : ℕ) (entries : List Entry) (e : Entry) → entries_by actor (entries ++ e ∷ []) ≡ entries_by actor entries + (if actor_of e == actor then 1 else 0)
entries_more actor [] e = omega arith
entries_more actor (d ∷ entries) e = let rest = entries_more actor entries e in omega (arith, rest)

pub entered_more : (entries : List Entry) (e : Entry) → calls_entered (entries ++ e ∷ []) ≡ calls_entered entries ++ entered_by e
entered_more [] e = append-nil (entered_by e)
entered_more (d ∷ entries) e = ap (λ cs. entered_by d ++ cs) (entered_more entries e) ∙ sym (append_assoc (entered_by d) (calls_entered entries) (entered_by e))

-- RUNS OF EVENTS

pub runs_reach : (c : Config) (entries : List Entry) (w v : World) → IsReached c w → Runs c w entries v → IsReached c v
runs_reach c [] w v reached same = subst (IsReached c) same reached
runs_reach c (e ∷ entries) w v reached (m, answer, step, rest) = runs_reach c entries m v (goes_on c w m [] (step.replies ++ answer ∷ []) (events_of step.instructions e) reached step.happens) rest

pub opening_reached : (c : Config) → IsReached c (opening c)
opening_reached c = record { base = opening c; begins = inl refl; events = []; replies = []; is = refl }

pub journal_reaches : (c : Config) (entries : List Entry) (w : World) → IsJournalOf c entries w → IsReached c w
journal_reaches c entries w runs = runs_reach c entries (opening c) w (opening_reached c) runs

pub journal_is_well : (c : Config) → IsSound c → (entries : List Entry) (w : World) → IsJournalOf c entries w → InRanges c w.group × Obeys w.group.image
journal_is_well c sound entries w runs =
    let reached = journal_reaches c entries w runs in
    let well = reached_well c sound w reached in
    (well.ranges, well.obeys)

-- WHOSE SCANS ARE OPEN

-- after an event of a task its scan is open or not, and the others are as they were
pub record Puts (w v : World) (u : ℕ) (now : Bool) : Type 0 where
  pub own : is_some (scan_at v u) ≡ now
  pub others : (t : ℕ) → (t ≡ u → ⊥) → scan_at v t ≡ scan_at w t

abbrev pub Led : World → Reply → Next
Led v r = Ok (v, r)

pub same_world : (a b : World) (r q : Reply) → Led a r ≡ Led b q → (a ≡ b) × (r ≡ q)
same_world a b r q e = let pair : ◌≡◌ {A = World × Reply} (a, r) (b, q) = cc in (ap (λ x. x.0) pair, ap (λ x. x.1) pair)

refused : {A : Type 0} (w v : World) (fault : EventFault) (r : Reply) → Led w (Refused fault) ≡ Led v r → IsAccepted r → A
refused w v fault r e h = let same : Refused fault ≡ r = (same_world w v (Refused fault) r e).1 in absurd (subst IsAccepted (sym same) h)

puts : (w v : World) (u : ℕ) (o : Option State) → u < length w.scans → v.scans ≡ slice_set w.scans u o → Puts w v u (is_some o)
puts w v u o among is = record {
  own = ap is_some (ap (λ ss. flat (slice_get ss u)) is ∙ flat_same w.scans u o among);
  others = λ t other. ap (λ ss. flat (slice_get ss t)) is ∙ ap flat (get_other w.scans u t o other);
}

-- START

start_puts : (c : Config) (w v : World) (u : ℕ) (r : Reply) (o : Option TaskState) (s : Option State) → ((task : TaskState) → o ≡ Some task → u < length w.scans) → scan_at w u ≡ s → starts c w u o ≡ Led v r → IsAccepted r → (is_some (scan_at w u) ≡ false) × Puts w v u true
start_puts c w v u r None s place is e h = refused w v _ r e h
start_puts c w v u r (Some task) (Some x) place is e h = refused w v _ r (sym (ap (starts_from c w u task) is) ∙ e) h
start_puts c w v u r (Some task) None place is e h =
    let left = (same_world _ v _ r (sym (ap (starts_from c w u task) is) ∙ e)).0 in
    (ap is_some is, puts w v u (Some _) (place task refl) (ap (λ (x : World). x.scans) (sym left)))

-- INSTRUCTION

stepped_puts : (c : Config) (w v : World) (u : ℕ) (r : Reply) (o : Outcome) → u < length w.scans → stepped w u o ≡ Led v r → Puts w v u true
stepped_puts c w v u r (Trapped trap) among e = cc
stepped_puts c w v u r Stuck among e = cc
stepped_puts c w v u r (Goes s) among e = puts w v u (Some s) among (ap (λ (x : World). x.scans) (sym (same_world _ v _ r e).0))

instruction_puts : (c : Config) (w v : World) (u : ℕ) (r : Reply) (o : Option TaskState) (s : Option State) (b : Bool) → scan_at w u ≡ s → ((x : State) → s ≡ Some x → has_ended x ≡ b) → instructs c w u o ≡ Led v r → IsAccepted r → (is_some (scan_at w u) ≡ true) × Puts w v u true
instruction_puts c w v u r None s b is ends e h = refused w v _ r e h
instruction_puts c w v u r (Some task) None b is ends e h = refused w v _ r (sym (ap (instructs_in c w u) is) ∙ e) h
instruction_puts c w v u r (Some task) (Some x) true is ends e h = refused w v _ r (sym (ap (instructs_scan c w u x) (ends x refl)) ∙ sym (ap (instructs_in c w u) is) ∙ e) h
instruction_puts c w v u r (Some task) (Some x) false is ends e h =
    (ap is_some is, stepped_puts c w v u r (scan_step c x) (within w.scans u x is) (sym (ap (instructs_scan c w u x) (ends x refl)) ∙ sym (ap (instructs_in c w u) is) ∙ e))

-- COMMIT

commit_puts : (c : Config) (w v : World) (u : ℕ) (r : Reply) (o : Option TaskState) (s : Option State) (b : Bool) → scan_at w u ≡ s → ((x : State) → s ≡ Some x → has_ended x ≡ b) → commits c w u o ≡ Led v r → IsAccepted r → (is_some (scan_at w u) ≡ true) × Puts w v u false
commit_puts c w v u r None s b is ends e h = refused w v _ r e h
commit_puts c w v u r (Some task) None b is ends e h = refused w v _ r (sym (ap (commits_scan c w u task) is) ∙ e) h
commit_puts c w v u r (Some task) (Some x) false is ends e h = refused w v _ r (sym (ap (commits_ended c w u task x) (ends x refl)) ∙ sym (ap (commits_scan c w u task) is) ∙ e) h
commit_puts c w v u r (Some task) (Some x) true is ends e h =
    let left = (same_world _ v _ r (sym (ap (commits_ended c w u task x) (ends x refl)) ∙ sym (ap (commits_scan c w u task) is) ∙ e)).0 in
    (ap is_some is, puts w v u None (within w.scans u x is) (ap (λ (y : World). y.scans) (sym left)))

abbrev ended_of : Option State → Bool
ended_of None = false
ended_of (Some x) = has_ended x

-- RUNS OF THE EVENTS OF AN ENTRY

abbrev pub Ends : Config → World → List Reply → List Event → World → List Reply → Type 0
Ends c w earlier events v all = run c w earlier events ≡ Ok (v, all)

accepted_right : (xs ys : List Reply) → AreAccepted (xs ++ ys) → AreAccepted ys
accepted_right [] ys h = h
accepted_right (x ∷ xs) ys h = accepted_right xs ys h.1

-- the replies of a run follows those before it
extends : (c : Config) (w v : World) (earlier all : List Reply) (events : List Event) → Ends c w earlier events v all → (more : List Reply) × (all ≡ earlier ++ more)
extends c w v earlier all events is =
    let more = ended c w v earlier all (run c w [] events) (sym (follow c w earlier events) ∙ is) in
    let same : ◌≡◌ {A = Result (World × List Reply) Halt} (Ok (v, earlier ++ more.0)) (Ok (v, all)) = ap (before earlier) (sym more.1) ∙ sym (follow c w earlier events) ∙ is in
    (more.0, ap (λ x. x.1) (sym (same_end v v (earlier ++ more.0) all same)))

-- A run that ends takes its first event, which is accepted where all are, and goes on.
pub record Goes_on (c : Config) (w v : World) (earlier all : List Reply) (e : Event) (events : List Event) : Type 0 where
  pub next : World
  pub reply : Reply
  pub happens : happens c w e ≡ Led next reply
  pub rest : Ends c next (earlier ++ reply ∷ []) events v all
  pub accepted : IsAccepted reply

pub takes_first : (c : Config) (w v : World) (earlier all : List Reply) (e : Event) (events : List Event) → Ends c w earlier (e ∷ events) v all → AreAccepted all → Goes_on c w v earlier all e events
takes_first c w v earlier all e events is accepted = by (happens c w e) refl is
  where
    by : (n : Next) → happens c w e ≡ n → and_then n (λ m. run c m.0 (earlier ++ m.1 ∷ []) events) ≡ Ok (v, all) → Goes_on c w v earlier all e events
    by (Err halt) h is = cc
    by (Ok m) h is =
        let more = extends c m.0 v (earlier ++ m.1 ∷ []) all events is in
        let here : AreAccepted ((earlier ++ m.1 ∷ []) ++ more.0) = subst AreAccepted more.1 accepted in
        let back : AreAccepted (m.1 ∷ more.0) = accepted_right earlier (m.1 ∷ more.0) (subst AreAccepted (append_assoc earlier (m.1 ∷ []) more.0) here) in
        record { next = m.0; reply = m.1; happens = h; rest = is; accepted = back.0 }

pub ended_run : (c : Config) (w v : World) (earlier all : List Reply) → Ends c w earlier [] v all → w ≡ v
ended_run c w v earlier all is = ap (λ p. p.0) (same_end w v earlier all is)

happens_instruction : (c : Config) (w v : World) (u : ℕ) (r : Reply) → happens c w (Instruction u) ≡ Led v r → IsAccepted r → (is_some (scan_at w u) ≡ true) × Puts w v u true
unfolding happens
happens_instruction c w v u r e h = instruction_puts c w v u r (task_at w.group u) (scan_at w u) (ended_of (scan_at w u)) refl (λ x is. ap ended_of (sym is)) e h

pub happens_commit : (c : Config) (w v : World) (u : ℕ) (r : Reply) → happens c w (Commit u) ≡ Led v r → IsAccepted r → (is_some (scan_at w u) ≡ true) × Puts w v u false
unfolding happens
happens_commit c w v u r e h = commit_puts c w v u r (task_at w.group u) (scan_at w u) (ended_of (scan_at w u)) refl (λ x is. ap ended_of (sym is)) e h

pub happens_start : (c : Config) (w v : World) (u : ℕ) (r : Reply) → ((task : TaskState) → task_at w.group u ≡ Some task → u < length w.scans) → happens c w (Start u) ≡ Led v r → IsAccepted r → (is_some (scan_at w u) ≡ false) × Puts w v u true
unfolding happens
happens_start c w v u r place e h = start_puts c w v u r (task_at w.group u) (scan_at w u) place refl e h

-- scans of others after two events of one task
puts_both : (w m v : World) (u : ℕ) (a b : Bool) → Puts w m u a → Puts m v u b → Puts w v u b
puts_both w m v u a b first next = record { own = next.own; others = λ t other. next.others t other ∙ first.others t other }

pub commit_run : (c : Config) (n : ℕ) (w v : World) (u : ℕ) (earlier all : List Reply) → Ends c w earlier (replicate n (Instruction u) ++ Commit u ∷ []) v all → AreAccepted all → (is_some (scan_at w u) ≡ true) × Puts w v u false
commit_run c zero w v u earlier all is accepted =
    let g = takes_first c w v earlier all (Commit u) [] is accepted in
    subst (λ x. (is_some (scan_at w u) ≡ true) × Puts w x u false) (ended_run c g.next v _ all g.rest) (happens_commit c w g.next u g.reply g.happens g.accepted)
commit_run c (suc n) w v u earlier all is accepted =
    let g = takes_first c w v earlier all (Instruction u) (replicate n (Instruction u) ++ Commit u ∷ []) is accepted in
    let first = happens_instruction c w g.next u g.reply g.happens g.accepted in
    let rest = commit_run c n g.next v u (earlier ++ g.reply ∷ []) all g.rest accepted in
    (first.0, puts_both w g.next v u true false first.1 rest.1)

-- EVENTS OF NO TASK

presses_scans : (w v : World) (call : Call) (r : Reply) (floors same has : Bool) → (call.from == call.to) ≡ same → has_call w.desk call ≡ has → presses w call floors ≡ Led v r → v.scans ≡ w.scans
presses_scans w v call r false same has a b e = ap (λ (x : World). x.scans) (sym (same_world _ v _ r e).0)
presses_scans w v call r true true has a b e = ap (λ (x : World). x.scans) (sym (same_world _ v _ r (sym (ap (presses_floors w call) a) ∙ e)).0)
presses_scans w v call r true false true a b e = ap (λ (x : World). x.scans) (sym (same_world _ v _ r (sym (ap (presses_new w call) b) ∙ sym (ap (presses_floors w call) a) ∙ e)).0)
presses_scans w v call r true false false a b e = ap (λ (x : World). x.scans) (sym (same_world _ v _ r (sym (ap (presses_new w call) b) ∙ sym (ap (presses_floors w call) a) ∙ e)).0)

gathers_scans : (w v : World) (floor : ℕ) (r : Reply) (is has : Bool) → has_from w.hand floor ≡ has → gathers w floor is ≡ Led v r → v.scans ≡ w.scans
gathers_scans w v floor r false has a e = ap (λ (x : World). x.scans) (sym (same_world _ v _ r e).0)
gathers_scans w v floor r true true a e = ap (λ (x : World). x.scans) (sym (same_world _ v _ r (sym (ap (gathers_from w floor) a) ∙ e)).0)
gathers_scans w v floor r true false a e = ap (λ (x : World). x.scans) (sym (same_world _ v _ r (sym (ap (gathers_from w floor) a) ∙ e)).0)

refreshes_scans : (w v : World) (fields : Fields) (r : Reply) (b : Bool) → refreshes w fields b ≡ Led v r → v.scans ≡ w.scans
refreshes_scans w v fields r false e = ap (λ (x : World). x.scans) (sym (same_world _ v _ r e).0)
refreshes_scans w v fields r true e = ap (λ (x : World). x.scans) (sym (same_world _ v _ r e).0)

-- an event of no task
pub data IsQuiet : Event → Type 0 where
  pressing : {call : Call} → IsQuiet (Press call)
  gathering : {floor : ℕ} → IsQuiet (Gather floor)
  refreshing : {fields : Fields} → IsQuiet (Refresh fields)

quiet_scans : (c : Config) (w v : World) (e : Event) (r : Reply) → IsQuiet e → happens c w e ≡ Led v r → v.scans ≡ w.scans
unfolding happens
quiet_scans c w v (Start u) r quiet is = elim quiet [ ]
quiet_scans c w v (Instruction u) r quiet is = elim quiet [ ]
quiet_scans c w v (Commit u) r quiet is = elim quiet [ ]
quiet_scans c w v (Press call) r pressing is = presses_scans w v call r _ (call.from == call.to) (has_call w.desk call) refl refl is
quiet_scans c w v (Gather floor) r gathering is = gathers_scans w v floor r _ (has_from w.hand floor) refl is
quiet_scans c w v (Refresh fields) r refreshing is = refreshes_scans w v fields r _ is

abbrev pub AreQuiet : List Event → Type 0
AreQuiet [] = Unit {0}
AreQuiet (e ∷ events) = IsQuiet e × AreQuiet events

pub quiet_run : (c : Config) (events : List Event) (w v : World) (earlier all : List Reply) → AreQuiet events → Ends c w earlier events v all → AreAccepted all → v.scans ≡ w.scans
quiet_run c [] w v earlier all quiet is accepted = ap (λ (x : World). x.scans) (sym (ended_run c w v earlier all is))
quiet_run c (e ∷ events) w v earlier all quiet is accepted =
    let g = takes_first c w v earlier all e events is accepted in
    quiet_run c events g.next v (earlier ++ g.reply ∷ []) all quiet.1 g.rest accepted ∙ quiet_scans c w g.next e g.reply quiet.0 g.happens

quiet_append : (xs ys : List Event) → AreQuiet xs → AreQuiet ys → AreQuiet (xs ++ ys)
quiet_append [] ys a b = b
quiet_append (x ∷ xs) ys a b = (a.0, quiet_append xs ys a.1 b)

quiet_presses : (calls : List Call) → AreQuiet (map Press calls)
quiet_presses [] = tt
quiet_presses (call ∷ calls) = (pressing, quiet_presses calls)

quiet_gathers : (floors : List ℕ) → AreQuiet (map Gather floors)
quiet_gathers [] = tt
quiet_gathers (floor ∷ floors) = (gathering, quiet_gathers floors)

-- ENTRIES OF A TASK

-- what an entry needs of a task's scan, and what it leaves
pub record Opens (w v : World) (e : Entry) (t : ℕ) : Type 0 where
  pub may : MayFollow t (is_some (scan_at w t)) e
  pub left : is_some (scan_at v t) ≡ open_after t (is_some (scan_at w t)) e

pub by_task : (w v : World) (u t : ℕ) (now : Bool) → Puts w v u now → is_some (scan_at v t) ≡ (if u == t then now else is_some (scan_at w t))
by_task w v u t now p = by (same_or_other u t)
  where
    by : ((u ≡ t) × ((u == t) ≡ true)) ⊎ ((u ≡ t → ⊥) × ((u == t) ≡ false)) → is_some (scan_at v t) ≡ (if u == t then now else is_some (scan_at w t))
    by (inl same) = rw same.1 (subst (λ k. is_some (scan_at v k) ≡ now) same.0 p.own)
    by (inr other) = rw other.1 (ap is_some (p.others t (λ e. other.0 (sym e))))

pub has_place : (c : Config) → IsSound c → (w : World) → IsReached c w → (u : ℕ) (task : TaskState) → task_at w.group u ≡ Some task → u < length w.scans
has_place c sound w reached u task is =
    let holds : (steps : ℕ → ℕ) × WorldHolds c steps w = reached_world_holds c (opens_well c sound) (scans_well c sound) w reached in
    let seat : TaskHolds c u (holds.0 u) task (scan_at w u) = subst (λ x. SeatHolds c u (holds.0 u) x (scan_at w u)) is (holds.1.each u) in
    let low = seat.is.within in
    let long = holds.1.scans in
    omega (arith, low, long)

entry_opens : (c : Config) → IsSound c → (w v : World) (e : Entry) (answer : Reply) (t : ℕ) → IsReached c w → Enters c w e v answer → Opens w v e t
entry_opens c sound w v (entry.Start u) answer t reached step =
    let g = takes_first c w v [] (step.replies ++ answer ∷ []) (Start u) [] step.happens step.accepted in
    let same = ended_run c g.next v _ (step.replies ++ answer ∷ []) g.rest in
    let p = happens_start c w g.next u g.reply (has_place c sound w reached u) g.happens g.accepted in
    record { may = λ is. subst (λ k. is_some (scan_at w k) ≡ false) is p.0; left = by_task w v u t true (subst (λ x. Puts w x u true) same p.1) }
entry_opens c sound w v (entry.Commit u) answer t reached step =
    let p = commit_run c step.instructions w v u [] (step.replies ++ answer ∷ []) step.happens step.accepted in
    record { may = λ is. subst (λ k. is_some (scan_at w k) ≡ true) is p.0; left = by_task w v u t false p.1 }
entry_opens c sound w v (entry.Refresh fields entered) answer t reached step =
    let quiet = quiet_append (map Press entered) (map Gather (floors_of entered) ++ Refresh fields ∷ []) (quiet_presses entered) (quiet_append (map Gather (floors_of entered)) (Refresh fields ∷ []) (quiet_gathers (floors_of entered)) (refreshing, tt)) in
    record { may = tt; left = ap (λ ss. is_some (flat (slice_get ss t))) (quiet_run c (map Press entered ++ (map Gather (floors_of entered) ++ Refresh fields ∷ [])) w v [] (step.replies ++ answer ∷ []) quiet step.happens step.accepted) }

alternate_from : (c : Config) → IsSound c → (entries : List Entry) (w v : World) (t : ℕ) (was : Bool) → IsReached c w → is_some (scan_at w t) ≡ was → Runs c w entries v → Alternate t was entries
alternate_from c sound [] w v t was reached is runs = tt
alternate_from c sound (e ∷ entries) w v t was reached is (m, answer, step, rest) =
    let o = entry_opens c sound w m e answer t reached step in
    let there = goes_on c w m [] (step.replies ++ answer ∷ []) (events_of step.instructions e) reached step.happens in
    (subst (λ b. MayFollow t b e) is o.may, alternate_from c sound entries m v t (open_after t was e) there (o.left ∙ ap (λ b. open_after t b e) is) rest)

-- one for a scan that is open
abbrev one_if : Bool → ℕ
one_if b = if b then 1 else 0

odd_step : (e : Entry) (t : ℕ) (was : Bool) (n : ℕ) (last : Bool) → t ≢ refresher → MayFollow t was e → (n + one_if (open_after t was e)) % 2 ≡ one_if last → (((if actor_of e == t then 1 else 0) + n) + one_if was) % 2 ≡ one_if last
odd_step (entry.Start u) t was n last task may h = by (u == t) refl h
  where
    by : (b : Bool) → (u == t) ≡ b → (n + one_if (if b then true else was)) % 2 ≡ one_if last → (((if b then 1 else 0) + n) + one_if was) % 2 ≡ one_if last
    by true e h = let none : was ≡ false = may (eqb-true u t e) in let same : ((1 + n) + 0) ≡ n + 1 = omega arith in rw none (ap (λ k. k % 2) same ∙ h)
    by false e h = let same : ((0 + n) + one_if was) ≡ n + one_if was = omega arith in ap (λ k. k % 2) same ∙ h
odd_step (entry.Commit u) t was n last task may h = by (u == t) refl h
  where
    by : (b : Bool) → (u == t) ≡ b → (n + one_if (if b then false else was)) % 2 ≡ one_if last → (((if b then 1 else 0) + n) + one_if was) % 2 ≡ one_if last
    by true e h = let one : was ≡ true = may (eqb-true u t e) in let same : ((1 + n) + 1) % 2 ≡ (n + 0) % 2 = omega arith in rw one (same ∙ h)
    by false e h = let same : ((0 + n) + one_if was) ≡ n + one_if was = omega arith in ap (λ k. k % 2) same ∙ h
odd_step (entry.Refresh fields entered) t was n last task may h = by (refresher == t) refl
  where
    by : (b : Bool) → (refresher == t) ≡ b → (((if b then 1 else 0) + n) + one_if was) % 2 ≡ one_if last
    by true e = absurd (task (sym (eqb-true refresher t e)))
    by false e = let same : ((0 + n) + one_if was) ≡ n + one_if was = omega arith in ap (λ k. k % 2) same ∙ h

odd_from : (c : Config) → IsSound c → (entries : List Entry) (w v : World) (t : ℕ) → t ≢ refresher → IsReached c w → Runs c w entries v → (entries_by t entries + one_if (is_some (scan_at w t))) % 2 ≡ one_if (is_some (scan_at v t))
odd_from c sound [] w v t task reached same = subst (λ x. (0 + one_if (is_some (scan_at w t))) % 2 ≡ one_if (is_some (scan_at x t))) same (by (is_some (scan_at w t)))
  where
    by : (b : Bool) → (0 + one_if b) % 2 ≡ one_if b
    by true = refl
    by false = refl
odd_from c sound (e ∷ entries) w v t task reached (m, answer, step, rest) =
    let o = entry_opens c sound w m e answer t reached step in
    let there = goes_on c w m [] (step.replies ++ answer ∷ []) (events_of step.instructions e) reached step.happens in
    odd_step e t (is_some (scan_at w t)) (entries_by t entries) (is_some (scan_at v t)) task o.may (ap (λ b. (entries_by t entries + one_if b) % 2) (sym o.left) ∙ odd_from c sound entries m v t task there rest)

pub entries_alternate : (c : Config) → IsSound c → (entries : List Entry) (w : World) (t : ℕ) → IsJournalOf c entries w → Alternate t false entries × (t ≢ refresher → IsOpenWhereOdd w entries t)
entries_alternate c sound entries w t runs =
    let none : is_some (scan_at (opening c) t) ≡ false = ap is_some (no_scan_open c t) in
    let reached = opening_reached c in (
      alternate_from c sound entries (opening c) w t false reached none runs,
      λ task. (let same : entries_by t entries + 0 ≡ entries_by t entries = omega arith in ap (λ k. k % 2) (sym same) ∙ ap (λ b. (entries_by t entries + one_if b) % 2) (sym none) ∙ odd_from c sound entries (opening c) w t task reached runs),
    )
