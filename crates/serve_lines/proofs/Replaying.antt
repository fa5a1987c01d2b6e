-- What is traced of a line leads to the same world.
use Rattle.std.proofs.Common.{◌≡◌, ℕ, ◌+◌, length, length-append, append-nil, add-zero, arith, Bool, true, false, List, [], ◌∷◌, ◌++◌, map, flat_map, if◌then◌else◌, Result, Ok, Err, refl, sym, ap, ◌∙◌, subst}
use Rattle.std.specs.Prelude.{◌&&◌, not, ◌==◌}
use Rattle.il_syntax.specs.declared.tree.Config.{Config}
use Rattle.group_spec.specs.declared.calls.Call.{Call}
use Rattle.group_spec.specs.declared.event.Event.{Event}
use Rattle.group_spec.specs.declared.event.Event.TheVariants as event
use Rattle.group_spec.specs.declared.trace.TraceEvent.{TraceEvent}
use Rattle.group_spec.specs.declared.trace.TraceEvent.TheVariants as traced
use Rattle.group_spec.specs.Image.{sizes_of, is_floor}
use Rattle.group_spec.specs.Replies.{Reply, Refreshed}
use Rattle.group_spec.specs.Hands.{has_call}
use Rattle.group_spec.specs.declared.image.Fields.{Fields}
use Rattle.group_spec.specs.World.{World, Halt, Next, happens, run, and_then, presses, presses_floors, presses_new}
use Rattle.group_laws.proofs.Following.{follow, before}
use Rattle.trace_text.specs.declared.format.Format.TheVariants.{Two}
use Rattle.trace_text.specs.Text.{last_line, line_of, text_of_lines}
use Rattle.trace_text.specs.Writing.{events_text}
use Rattle.trace_text.proofs.Texts.{text_append}
use Rattle.trace_text.proofs.Writes.{events_append}
use Rattle.group_journal.specs.Journal.{AreAccepted, IsAccepted}
use Rattle.group_journal.specs.Rounds.{Happen, TakesAll, floors_rising, tasks_in_order}
use Rattle.group_journal.proofs.Taking.{happen_one}
use Rattle.group_rounds.specs.declared.notice.Notice.{Notice}
use Rattle.group_rounds.specs.Rounds.{IsRoundOf, ScansNoticed}
use Rattle.serve_lines.specs.declared.said.Said.{Said}
use Rattle.serve_lines.specs.declared.said.Said.TheVariants.{Round, Press, End}
use Rattle.serve_lines.specs.Saying.{events_of, scan_events, is_call}
use Rattle.serve_lines.specs.Answers.{Acts}
use Rattle.serve_lines.specs.Serving.{IsServed, Serves, behind_head, is_end, traced_text}

-- THE FIRST OF SOME EVENTS

cut_rest : (c : Config) (w m v : World) (e : Event) (es : List Event) (r : Reply) (replies : List Reply) (o : Result (World × List Reply) Halt) → happens c w e ≡ Ok (m, r) → run c m [] es ≡ o → before (r ∷ []) o ≡ Ok (v, replies) → AreAccepted replies
    → Happen c w (e ∷ []) m × Happen c m es v
cut_rest c w m v e es r replies (Err halt) first rest is accepted = absurd (cc)
cut_rest c w m v e es r replies (Ok n) first rest is accepted =
    let both : (n.0, r ∷ n.1) ≡ (v, replies) = cc in
    let end : n.0 ≡ v = ap (λ (x : World × List Reply). x.0) both in
    let all : r ∷ n.1 ≡ replies = ap (λ (x : World × List Reply). x.1) both in
    let taken : AreAccepted (r ∷ n.1) = subst AreAccepted (sym all) accepted in (
      happen_one c w m e r first taken.0,
      subst (Happen c m es) end (record { replies = n.1; runs = rest; accepted = taken.1 }),
    )

cut_first : (c : Config) (w v : World) (e : Event) (es : List Event) (replies : List Reply) (o : Next) → happens c w e ≡ o → and_then o (λ n. run c n.0 (n.1 ∷ []) es) ≡ Ok (v, replies) → AreAccepted replies → (m : World) × Happen c w (e ∷ []) m × Happen c m es v
cut_first c w v e es replies (Err halt) first is accepted = absurd (cc)
cut_first c w v e es replies (Ok n) first is accepted =
    let parts = cut_rest c w n.0 v e es n.1 replies (run c n.0 [] es) first refl (sym (follow c n.0 (n.1 ∷ []) es) ∙ is) accepted in
    (n.0, parts.0, parts.1)

pub cut : (c : Config) (w v : World) (e : Event) (es : List Event) → Happen c w (e ∷ es) v → (m : World) × Happen c w (e ∷ []) m × Happen c m es v
cut c w v e es all = cut_first c w v e es all.replies (happens c w e) refl all.runs all.accepted

pub none_left : (c : Config) (w v : World) → Happen c w [] v → w ≡ v
none_left c w v all = let both : Ok (w, []) ≡ Ok (v, all.replies) = all.runs in let pair : (w, []) ≡ (v, all.replies) = cc in ap (λ (x : World × List Reply). x.0) pair

-- WHAT IS TAKEN

pub joined : (c : Config) (xs ys : List TraceEvent) (w m v : World) → TakesAll c w xs m → TakesAll c m ys v → TakesAll c w (xs ++ ys) v
joined c [] ys w m v same rest = subst (λ x. TakesAll c x ys v) (sym same) rest
joined c (x ∷ xs) ys w m v (u, first, more) rest = (u, first, joined c xs ys u m v more rest)

pub gathers_taken : (c : Config) (floors : List ℕ) (w v : World) → Happen c w (map event.Gather floors) v → TakesAll c w (map traced.Gather floors) v
gathers_taken c [] w v all = none_left c w v all
gathers_taken c (floor ∷ floors) w v all =
    let parts = cut c w v (event.Gather floor) (map event.Gather floors) all in
    (parts.0, parts.1, gathers_taken c floors parts.0 v parts.2)

scans_taken : (c : Config) (tasks : List ℕ) (w v : World) (scanned : List Notice) → ScansNoticed c tasks w v scanned → TakesAll c w (flat_map scan_events tasks) v
scans_taken c [] w v scanned (same, none) = same
scans_taken c (t ∷ tasks) w v scanned (m, report, rest, scan, others, is) =
    (scan.0.started, happen_one c w scan.0.started (event.Start t) _ scan.0.start tt, (m, scan.0.rest, scans_taken c tasks m v rest others))

round_taken : (c : Config) (fields : Fields) (w v : World) (notices : List Notice) → IsRoundOf c fields w v notices → TakesAll c w (events_of c (Round fields)) v
round_taken c fields w v notices round =
    joined c (map traced.Gather (floors_rising c)) (traced.Refresh fields ∷ flat_map scan_events (tasks_in_order c)) w round.gathered v (gathers_taken c (floors_rising c) w round.gathered round.desk)
    (round.refreshed, happen_one c round.gathered round.refreshed (event.Refresh fields) (Refreshed round.report) round.refresh tt, scans_taken c (tasks_in_order c) round.refreshed v round.scanned round.scans)

-- PRESSES

abbrev Stays : World → Next → Type 0
Stays w (Err halt) = ⊥
Stays w (Ok n) = w ≡ n.0

abbrev Accepts : Next → Type 0
Accepts (Err halt) = ⊥
Accepts (Ok n) = IsAccepted n.1

module _ (w : World) (call : Call) where
  same_floor : (d : Bool) → not d ≡ false → Stays w (presses_floors w call d)
  same_floor true is = refl
  same_floor false is = absurd (cc)

  stays : (a b : Bool) → (a && (b && not (call.from == call.to))) ≡ false → Stays w (presses w call (a && b))
  stays false b is = refl
  stays true false is = refl
  stays true true is = same_floor (call.from == call.to) is

  new_press : (b : Bool) → Accepts (presses_new w call b)
  new_press true = tt
  new_press false = tt

  other_floor : (d : Bool) → not d ≡ true → Accepts (presses_floors w call d)
  other_floor true is = absurd (cc)
  other_floor false is = new_press (has_call w.desk call)

  accepts : (a b : Bool) → (a && (b && not (call.from == call.to))) ≡ true → Accepts (presses w call (a && b))
  accepts false b is = absurd (cc)
  accepts true false is = absurd (cc)
  accepts true true is = other_floor (call.from == call.to) is

press_stays : (c : Config) (w : World) (call : Call) → is_call (sizes_of c) call ≡ false → Stays w (happens c w (event.Press call))
unfolding happens
press_stays c w call is = stays w call (is_floor (sizes_of c) call.from) (is_floor (sizes_of c) call.to) is

press_accepted : (c : Config) (w : World) (call : Call) → is_call (sizes_of c) call ≡ true → Accepts (happens c w (event.Press call))
unfolding happens
press_accepted c w call is = accepts w call (is_floor (sizes_of c) call.from) (is_floor (sizes_of c) call.to) is

press_taken : (c : Config) (w v : World) (call : Call) (r : Reply) → happens c w (event.Press call) ≡ Ok (v, r) → TakesAll c w (events_of c (Press call)) v
press_taken c w v call r is = by (is_call (sizes_of c) call) refl
  where
    by : (b : Bool) → is_call (sizes_of c) call ≡ b → TakesAll c w (if b then traced.Press call ∷ [] else []) v
    by true so = (v, happen_one c w v (event.Press call) r is (subst Accepts is (press_accepted c w call so)), refl)
    by false so = subst (Stays w) is (press_stays c w call so)

-- what is said leads to the world to which its events lead in a trace
pub acts_taken : (c : Config) (said : Said) (w v : World) (text : List ℕ) → Acts c said w v text → TakesAll c w (events_of c said) v
acts_taken c (Round fields) w v text (notices, round, is) = round_taken c fields w v notices round
acts_taken c (Press call) w v text (reply, is, so) = press_taken c w v call reply is
acts_taken c End w v text (same, is) = same

-- ALL LINES

-- what is traced of a line that isn't the end
line_traced : (c : Config) (said : Said) (count : ℕ) → is_end said ≡ false → traced_text c said count ≡ events_text (events_of c said)
line_traced c (Round fields) count goes = refl
line_traced c (Press call) count goes = refl
line_traced c End count goes = absurd (cc)

-- what is traced of lines are events, which lead to the same world
pub serves_taken : (c : Config) (lines : List (List ℕ)) (w v : World) (count next : ℕ) (text events : List ℕ) → Serves c lines w count v next text events → (es : List TraceEvent) × (events ≡ events_text es) × (next ≡ count + length es) × TakesAll c w es v
serves_taken c [] w v count next text events (same, counted, no_text, none) = ([], none, sym counted ∙ sym (add-zero count), same)
serves_taken c (line ∷ lines) w v count next text events (said, m, k, first, one, rest, others, hears, goes, serves, is, are) =
    let more = serves_taken c lines m v k next rest others serves in
    let here = events_of c said in
    let both = length-append here more.0 in
    let counted = hears.counted in
    let follows = more.2 in (
      here ++ more.0,
      are ∙ ap (λ l. l ++ others) (hears.traced ∙ line_traced c said count goes) ∙ ap (λ l. events_text here ++ l) more.1 ∙ sym (events_append here more.0),
      omega (arith, both, counted, follows),
      joined c here more.0 w m v (acts_taken c said w m first hears.acts) more.3,
    )

-- the same of all lines up to the end: it is what follows the head of the trace of those events
pub served_taken : (c : Config) (w : World) (count : ℕ) (v : World) (next : ℕ) (Taken Out Trace : List ℕ → Type 0) → (s : IsServed c w count v next Taken Out Trace) → (es : List TraceEvent) × TakesAll c w es v × (s.events ++ s.ends ≡ behind_head count es)
served_taken c w count v next Taken Out Trace s =
    let before = serves_taken c s.lines w s.behind count s.many s.text s.events s.serves in
    let es = before.0 in
    let many : s.many ≡ count + length es = before.2 in
    let last : s.ends ≡ last_line (count + length es) ++ 10 ∷ [] = s.hears.traced ∙ ap (λ n. last_line n ++ 10 ∷ []) many in
    let ends : events_text es ++ (last_line (count + length es) ++ 10 ∷ []) ≡ text_of_lines (map (line_of Two) es ++ last_line (count + length es) ∷ []) =
    ap (λ l. events_text es ++ l) (sym (append-nil (last_line (count + length es) ++ 10 ∷ []))) ∙ sym (text_append (map (line_of Two) es) (last_line (count + length es) ∷ []))
    in (
      es,
      subst (λ x. TakesAll c w es x) s.hears.acts.0 before.3,
      ap (λ l. l ++ s.ends) before.1 ∙ ap (λ l. events_text es ++ l) last ∙ ends,
    )
