-- How a trace begins, by its parts.
use borrow.Author.Tests.{eqb-true}
use Rattle.std.proofs.Common.{◌≡◌, ◌≢◌, inl, inr, ℕ, zero, suc, ◌+◌, ◌-◌, ◌^◌, ◌<◌, ◌≤◌, List, [], ◌∷◌, ◌++◌, length, length-append, map, replicate, slice_get, refl, sym, ap, subst, ◌∙◌, arith, Some, None, Option, Ok, Err}
use Rattle.std.specs.Prelude.{◌==◌, true, IfSome, IfOk, IfErr, option_map, Result}
use Rattle.il_syntax.specs.declared.tree.Config.{Config}
use Rattle.il_semantics.specs.State.{State}
use Rattle.scan_task.specs.Scanning.{IsRunnable}
use Rattle.scan_task.proofs.Scans.{sound_of}
use Rattle.scan_task.proofs.Sizes.{sizes_fit}
use Rattle.cli_host.specs.declared.status.Fault.{Fault}
use Rattle.cli_host.specs.declared.status.Fault.TheVariants as status
use Rattle.group_laws.specs.Runs.{Begins, IsReached}
use Rattle.group_laws.proofs.Accepted.{opens_well, scans_well}
use Rattle.group_laws.proofs.Resting.{reached_rests}
use Rattle.group_spec.specs.declared.trace.TraceEvent.{TraceEvent}
use Rattle.group_spec.specs.Image.{sizes_of}
use Rattle.group_spec.specs.World.{World, Group, flat, scan_at}
use Rattle.trace_text.specs.declared.fault.TraceFault.{TraceFault}
use Rattle.trace_text.specs.declared.fault.TraceFault.TheVariants.{BadLine, Truncated, Write, Memory}
use Rattle.trace_text.specs.declared.format.Format.{Format}
use Rattle.trace_text.specs.declared.format.Format.TheVariants.{One, Two}
use Rattle.trace_text.specs.Fronts.{RefusesFront}
use Rattle.trace_text.specs.Reading.{IsOneLine, Splits, ReadsFront, greatest_trace}
use Rattle.trace_text.specs.Text.{first_line as trace_line, last_line, line_of, text_of, text_of_lines, IsTraceIn}
use Rattle.group_world.specs.Setting.{resting}
use Rattle.group_state.specs.declared.fault.StateError.{StateError}
use Rattle.group_state.specs.declared.fault.StateError.TheVariants as error
use Rattle.group_state.specs.Beginnings.{events_text, line_behind, HasNoState, BeginsTrace, goes_on, no_trace, no_state, no_events, IsUnbegun}
use Rattle.group_state.specs.Following.{IsStateOf, fault_line, fault_behind, error_line, error_fault, IsEventless}
use Rattle.group_state.specs.Reading.{Begun, IsState, Explains}
use Rattle.group_state.specs.Text.{first_line}
use Rattle.group_state.proofs.Within.{state_within, wrong_within}
use Rattle.sha2.specs.Sha256.{sha256}

-- HOW LONG A TRACE IS

lines_fit : (lines : List (List ℕ)) → length lines ≤ length (text_of_lines lines)
lines_fit [] = omega arith
lines_fit (l ∷ lines) =
    let more : length lines ≤ length (text_of_lines lines) = lines_fit lines in
    let here : length (l ++ 10 ∷ []) ≡ length l + 1 = length-append l (10 ∷ []) in
    let all : length ((l ++ 10 ∷ []) ++ text_of_lines lines) ≡ length (l ++ 10 ∷ []) + length (text_of_lines lines) = length-append (l ++ 10 ∷ []) (text_of_lines lines) in
    omega (arith, more, here, all)

opening_fits : (format : Format) (lines : List (List ℕ)) → 12 + length lines ≤ length (text_of_lines (trace_line format ∷ lines))
opening_fits One lines =
    let more = lines_fit lines in
    let long : length (text_of_lines (trace_line One ∷ lines)) ≡ 12 + length (text_of_lines lines) = length-append (trace_line One ++ 10 ∷ []) (text_of_lines lines) in
    omega (arith, more, long)
opening_fits Two lines =
    let more = lines_fit lines in
    let long : length (text_of_lines (trace_line Two ∷ lines)) ≡ 12 + length (text_of_lines lines) = length-append (trace_line Two ++ 10 ∷ []) (text_of_lines lines) in
    omega (arith, more, long)

as_many : (format : Format) (events : List TraceEvent) → length (map (line_of format) events) ≡ length events
as_many format [] = refl
as_many format (e ∷ events) = let more : length (map (line_of format) events) ≡ length events = as_many format events in omega (arith, more)

whole_fits : (format : Format) (cars : ℕ) (text : List ℕ) (events : List TraceEvent) → IsTraceIn format cars text events → 12 + length events ≤ length text
whole_fits format cars text events t =
    let last : List (List ℕ) = last_line (length events) ∷ [] in
    let fits = opening_fits format (map (line_of format) events ++ last) in
    let lines : length (map (line_of format) events ++ last) ≡ length (map (line_of format) events) + 1 = length-append (map (line_of format) events) last in
    let many = as_many format events in
    let long : length text ≡ length (text_of format events) = ap length t.spelled in
    omega (arith, fits, lines, many, long)

front_fits : (format : Format) (text : List ℕ) (events : List TraceEvent) (piece : List ℕ) → text ≡ text_of_lines (trace_line format ∷ map (line_of format) events) ++ piece → 12 + length events ≤ length text
front_fits format text events piece e =
    let fits = opening_fits format (map (line_of format) events) in
    let many = as_many format events in
    let long : length text ≡ length (text_of_lines (trace_line format ∷ map (line_of format) events)) + length piece =
    ap length e ∙ length-append (text_of_lines (trace_line format ∷ map (line_of format) events)) piece in
    omega (arith, fits, many, long)

-- a text has its first line, and a byte at least for each event
pub events_fit : (cars : ℕ) (text : List ℕ) (events : List TraceEvent) (cut : Option ℕ) → ReadsFront cars text events cut → (12 + length events ≤ length text) × (length text ≤ greatest_trace)
events_fit cars text events None h = (elim h.1 [ inl one ↦ whole_fits One cars text events one | inr two ↦ whole_fits Two cars text events two ], h.0)
events_fit cars text events (Some line) h = (front_fits h.2.0 text events h.2.1 h.2.4, h.0)

pub cut_place : (cars : ℕ) (text : List ℕ) (events : List TraceEvent) (line : ℕ) → ReadsFront cars text events (Some line) → line ≡ length events + 2
cut_place cars text events line h = h.1

splits_fit : (text : List ℕ) (lines : List (List ℕ)) (piece : List ℕ) → Splits text lines piece → length lines ≤ length text
splits_fit text lines piece s =
    let fits = lines_fit lines in
    let long : length text ≡ length (text_of_lines lines) + length piece = ap length s.whole ∙ length-append (text_of_lines lines) piece in
    omega (arith, fits, long)

-- a fault is in a line of the text, or in the one after them
pub fault_fits : (cars : ℕ) (text : List ℕ) (why : TraceFault) → RefusesFront cars text why → fault_line why ≤ length text + 1
fault_fits cars text (BadLine line) h =
    elim h [
      | inl long ↦ let at : line ≡ 1 = long.1 in omega (arith, at)
      | inr bad ↦
          let fits : length bad.1.lines ≤ length text = splits_fit text bad.1.lines bad.1.piece bad.1.splits in
          elim bad.1.wrong [
            | inl first ↦ let within : line ≤ length bad.1.lines = first.within in omega (arith, fits, within)
            | inr over ↦ let at : line ≡ length bad.1.lines + 1 = over.2 in omega (arith, fits, at)
          ]
    ]
fault_fits cars text (Truncated line) h = let at : line ≡ 1 = h.2 in omega (arith, at)
fault_fits cars text Write h = absurd h
fault_fits cars text Memory h = omega arith

-- after a state the text of the events is as long as what is there, and a first line
pub events_long : (rest : List ℕ) → length (events_text rest) ≡ 12 + length rest
events_long rest = let long : length (trace_line Two ++ (10 ∷ rest)) ≡ 11 + length (10 ∷ rest) = length-append (trace_line Two) (10 ∷ rest) in omega (arith, long)

-- after a state of so many lines
pub few_events : (cars lines : ℕ) (rest : List ℕ) (events : List TraceEvent) (cut : Option ℕ) → lines + length rest + 11 ≤ greatest_trace → ReadsFront cars (events_text rest) events cut → lines + length events ≤ greatest_trace
few_events cars lines rest events cut room h =
    let fit : 12 + length events ≤ length (events_text rest) = (events_fit cars (events_text rest) events cut h).0 in
    let long = events_long rest in
    omega (arith, fit, long, room)

pub cut_fits : (cars lines : ℕ) (rest : List ℕ) (events : List TraceEvent) (cut : Option ℕ) → 1 ≤ lines → lines + length rest + 11 ≤ greatest_trace → ReadsFront cars (events_text rest) events cut → IfSome cut (λ line. line_behind lines line < 2 ^ 32)
cut_fits cars lines rest events None some room h = tt
cut_fits cars lines rest events (Some line) some room h =
    let few : lines + length events ≤ 67108864 = few_events cars lines rest events (Some line) room h in
    let at : line ≡ length events + 2 = h.1 in
    omega (arith, few, at, some)

pub fault_behind_fits : (cars lines : ℕ) (rest : List ℕ) (why : TraceFault) → lines + length rest + 11 ≤ greatest_trace → RefusesFront cars (events_text rest) why → fault_line why + (lines - 1) < 2 ^ 32
fault_behind_fits cars lines rest why room h =
    let fit : fault_line why ≤ length (events_text rest) + 1 = fault_fits cars (events_text rest) why h in
    let long = events_long rest in
    let low : lines + length rest + 11 ≤ 67108864 = room in
    omega (arith, fit, long, low)

-- after the opening
pub few_opened : (cars : ℕ) (text : List ℕ) (events others : List TraceEvent) (cut : Option ℕ) (lines : ℕ) → ReadsFront cars text events cut → others ≡ events → lines ≡ 1 → lines + length others ≤ greatest_trace
few_opened cars text events others cut lines h same one =
    let fit = events_fit cars text events cut h in
    let long : length others ≡ length events = ap length same in
    omega (arith, fit.0, fit.1, long, one)

-- A TEXT WITHOUT A STATE

-- a text has one state
state_once : (a b : List ℕ) → first_line ++ (10 ∷ a) ≡ first_line ++ (10 ∷ b) → a ≡ b
state_once a b e = cc

none_of : (rest : List ℕ) → true ≡ (length rest == 0) → rest ≡ []
none_of [] e = refl
none_of (byte ∷ rest) e = let no : suc (length rest) ≡ 0 = eqb-true (suc (length rest)) 0 (sym e) in absurd (omega (arith, no))

-- nothing is there but the first line
pub empty_state : (text rest : List ℕ) → text ≡ first_line ++ (10 ∷ rest) → true ≡ (length rest == 0) → HasNoState text
empty_state text rest is none state same some small = some (state_once state rest (sym same ∙ is) ∙ none_of rest none)

-- RESULTS

pub ok_both : {X E : Type 0} (P Q R : X → Type 0) (r : Result X E) → ((x : X) → P x → Q x → R x) → IfOk r P → IfOk r Q → IfOk r R
ok_both P Q R (Ok x) f h k = f x h k
ok_both P Q R (Err e) f h k = tt

pub ok_three : {X E : Type 0} (P Q R S : X → Type 0) (r : Result X E) → ((x : X) → P x → Q x → R x → S x) → IfOk r P → IfOk r Q → IfOk r R → IfOk r S
ok_three P Q R S (Ok x) f h k l = f x h k l
ok_three P Q R S (Err e) f h k l = tt

pub err_then : {X E : Type 0} (P Q : E → Type 0) (r : Result X E) → ((e : E) → P e → Q e) → IfErr r P → IfErr r Q
err_then P Q (Ok x) f h = tt
err_then P Q (Err e) f h = f e h

-- A WORLD THAT RESTS

none_there : (count t : ℕ) → flat (slice_get (replicate {A = Option State} count None) t) ≡ None
none_there zero t = refl
none_there (suc count) zero = refl
none_there (suc count) (suc t) = none_there count t

-- a world that was reached rests where no scan is open
pub rests_by : (c : Config) → IsRunnable c → (g : Group) (w : World) → w ≡ resting c g → IsReached c w → Begins c w
rests_by c runs g w is reached =
    inr (reached_rests c (opens_well c (sound_of c runs)) (scans_well c (sound_of c runs)) w reached (λ t. ap (λ (v : World). scan_at v t) is ∙ none_there (suc (sizes_of c).cars) t))

-- WHY A TRACE ISN'T READ

-- a text of format 1 or 2
pub unread : (c : Config) (source text : List ℕ) (why : TraceFault) (fault : Fault) → HasNoState text → RefusesFront (sizes_of c).cars text why → fault ≡ fault_behind 0 why → IsUnbegun c source text fault
unread c source text (BadLine line) fault none h is = subst (IsUnbegun c source text) (sym is) (no_trace none (BadLine line) h (refl, let e : line + 0 ≡ line = omega arith in e))
unread c source text (Truncated line) fault none h is = subst (IsUnbegun c source text) (sym is) (no_trace none (Truncated line) h (refl, let e : line + 0 ≡ line = omega arith in e))
unread c source text Write fault none h is = absurd h
unread c source text Memory fault none h is = subst (IsUnbegun c source text) (sym is) tt

-- a text with a line feed has a whole line
no_one_line : (line rest : List ℕ) → IsOneLine (line ++ (10 ∷ rest)) → ⊥
no_one_line [] rest one = one.0 refl
no_one_line (byte ∷ line) rest one = no_one_line line rest one.1

-- lines after a state
pub eventless : (cars lines : ℕ) (rest : List ℕ) (why : TraceFault) (fault : Fault) → RefusesFront cars (events_text rest) why → fault ≡ fault_behind (lines - 1) why → IsEventless cars lines rest fault
eventless cars lines rest (BadLine place) fault h is = subst (IsEventless cars lines rest) (sym is) (place, h, refl, refl)
eventless cars lines rest (Truncated place) fault h is = absurd (no_one_line (trace_line Two) rest h.1)
eventless cars lines rest Write fault h is = absurd h
eventless cars lines rest Memory fault h is = subst (IsEventless cars lines rest) (sym is) tt

module _ (c : Config) (source text state : List ℕ) (of : IsStateOf text state) where
  -- no state
  pub stateless : (error : StateError) (fault : Fault) → Explains c (sha256 source) state error → fault ≡ error_fault error → IsUnbegun c source text fault
  stateless (error.Unread wrong) fault h is = subst (IsUnbegun c source text) (sym is) (no_state state wrong of.whole of.some of.small h refl refl)
  stateless error.Memory fault h is = subst (IsUnbegun c source text) (sym is) tt

  text_long : length text ≡ 12 + length state
  text_long = let long : length (first_line ++ (10 ∷ state)) ≡ 11 + length (10 ∷ state) = length-append first_line (10 ∷ state) in omega (arith, ap length of.whole, long)

  -- the line of what is wrong with it
  pub error_fits : IsRunnable c → (error : StateError) → Explains c (sha256 source) state error → error_line error < 2 ^ 32
  error_fits runs (error.Unread wrong) h =
      let line : wrong.line ≤ 7 + (sizes_of c).cars + (sizes_of c).slots + length state = wrong_within c (sha256 source) state wrong h in
      let cars : (sizes_of c).cars ≤ 8 = (sizes_fit c runs).0.1 in
      let slots : (sizes_of c).slots ≤ 64 = (sizes_fit c runs).2.1 in
      let long : length text ≡ 12 + length state = text_long in
      let small : length text ≤ 67108864 = of.small in
      omega (arith, line, cars, slots, long, small)
  error_fits runs error.Memory h = omega arith

  module _ (begun : Begun) (is : IsState c (sha256 source) state begun) where
    pub some_lines : 1 ≤ begun.lines
    some_lines = (state_within c (sha256 source) state begun is).0

    pub few_lines : begun.lines + length begun.rest + 11 ≤ greatest_trace
    few_lines =
        let lines : begun.lines + length begun.rest ≤ length state + 1 = (state_within c (sha256 source) state begun is).1 in
        let long : length text ≡ 12 + length state = text_long in
        let small : length text ≤ greatest_trace = of.small in
        omega (arith, lines, long, small)

    pub follows :
        (w : World) (events : List TraceEvent) (lines : ℕ) (cut : Option ℕ) → w ≡ resting c begun.group → lines ≡ begun.lines
        → (place : Option ℕ) × ReadsFront (sizes_of c).cars (events_text begun.rest) events place × (cut ≡ option_map (line_behind lines) place) → BeginsTrace c source text w events lines cut
    follows w events lines cut world count read = goes_on state begun of.whole of.small is world count read.0 read.1 read.2

    pub no_events_there : (fault : Fault) → IsEventless (sizes_of c).cars begun.lines begun.rest fault → IsUnbegun c source text fault
    no_events_there (status.Refused number line) h = no_events state begun of.whole of.small is h.0 h.1 h.2 h.3
    no_events_there status.NoMemory h = tt
    no_events_there (status.Misuse words) h = absurd h
    no_events_there (status.RefusedText number place) h = absurd h
    no_events_there (status.BadPress word) h = absurd h
    no_events_there status.TooManyPresses h = absurd h
    no_events_there (status.BadFire word) h = absurd h
    no_events_there (status.BadSpan word) h = absurd h
    no_events_there (status.BadScan why word) h = absurd h
    no_events_there (status.BadName word says) h = absurd h
    no_events_there (status.CannotRead cause) h = absurd h
    no_events_there status.CannotWrite h = absurd h
