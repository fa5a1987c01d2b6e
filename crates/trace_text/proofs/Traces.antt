-- Lines that begin a trace, and what reading a text then gives.
use Rattle.std.proofs.Common.{◌≡◌, ◌≢◌, ◌⊎◌, inl, inr, ℕ, suc, ◌+◌, ◌-◌, ◌≤◌, append_assoc, append-nil, List, [], ◌∷◌, ◌++◌, length, length-append, get_or, take, refl, sym, ap, subst, ◌∙◌, arith}
use Rattle.std.specs.Prelude.{map, Some, None, Result, Ok, Err, IfOk, IfErr, MatchResult, IsErrAnd}
use Rattle.std.specs.List.{AllByRecursion}
use Rattle.std.proofs.lemmas.List.{take-append-le, take_all}
use Rattle.group_spec.specs.declared.trace.TraceEvent.{TraceEvent}
use Rattle.trace_text.specs.declared.format.Format.{Format}
use Rattle.trace_text.specs.declared.format.Format.TheVariants.{One, Two}
use Rattle.trace_text.specs.declared.fault.TraceFault.{TraceFault}
use Rattle.trace_text.specs.declared.fault.TraceFault.TheVariants.{BadLine, Truncated, Write, Memory}
use Rattle.trace_text.specs.Reading.{IsOneLine, Splits, AreTrace, Begin, IsFirstWrong, IsWrongAt, EndsAt, Reads, ReadsFront, greatest_trace}
use Rattle.trace_text.specs.Fronts.{FrontAnswers, RefusesFront}
use Rattle.trace_text.specs.declared.read.Front.{Front}
use Rattle.trace_text.specs.Text.{line_of, first_line, last_line, trace_lines, text_of_lines, text_of, IsTraced, AreTraced, IsTraceIn, Format1, Format2}
use Rattle.trace_text.specs.Parts.{EndsWrong}
use Rattle.trace_text.specs.Told.{event_lines}
use Rattle.trace_text.proofs.Bytes.{each_append}
use Rattle.trace_text.proofs.Lines.{NoEvent, not_last}
use Rattle.trace_text.proofs.Texts.{split, splits_behind, text_more, first_one, lines_one}

pub line_head : (a b : List ℕ) (x y : List (List ℕ)) → a ∷ x ≡ b ∷ y → a ≡ b
line_head a b x y e = cc

pub line_tail : (a b : List ℕ) (x y : List (List ℕ)) → a ∷ x ≡ b ∷ y → x ≡ y
line_tail a b x y e = cc

pub first_once : (f g : Format) → first_line f ≡ first_line g → f ≡ g
first_once One One e = refl
first_once Two Two e = refl
first_once One Two e = let d : ◌≡◌ {A = ℕ} 49 50 = ap (λ (l : List ℕ). get_or l 10 0) e in absurd (omega arith)
first_once Two One e = let d : ◌≡◌ {A = ℕ} 50 49 = ap (λ (l : List ℕ). get_or l 10 0) e in absurd (omega arith)

-- the first line and those of events
abbrev pub opening : Format → List TraceEvent → List (List ℕ)
opening format events = first_line format ∷ map (line_of format) events

pub opening_begins : (format : Format) (cars : ℕ) (events : List TraceEvent) → AreTraced format cars events → Begin cars (opening format events)
opening_begins format cars events h = (last_line (length events) ∷ [], record { format = format; events = events; traced = h; spelled = refl })

pub opening_one : (format : Format) (cars : ℕ) (events : List TraceEvent) → AreTraced format cars events → AllByRecursion IsOneLine (opening format events)
opening_one format cars events h = (first_one format, lines_one format cars events h)

length_map : (format : Format) (events : List TraceEvent) → length (map (line_of format) events) ≡ length events
length_map format [] = refl
length_map format (e ∷ events) = ap suc (length_map format events)

-- What comes after the lines of events, where the lines go on as those of a trace: its last line at its place, or a further event.
abbrev Follows : Format → ℕ → List TraceEvent → List TraceEvent → List ℕ → List ℕ → List (List ℕ) → Type 0
Follows format cars events others next last rest = ((next ≡ last) × (length events ≡ length others) × (rest ≡ [])) ⊎ ((e : TraceEvent) × IsTraced format cars e × (next ≡ line_of format e))

follow : (format : Format) (cars : ℕ) (events others : List TraceEvent) (next last : List ℕ) (rest : List (List ℕ)) → ((e : TraceEvent) → line_of format e ≢ last) → AreTraced format cars others
    → map (line_of format) events ++ (next ∷ rest) ≡ map (line_of format) others ++ last ∷ [] → Follows format cars events others next last rest
follow format cars [] [] next last rest n h e = inl (line_head _ _ _ _ e, refl, line_tail _ _ _ _ e)
follow format cars [] (o ∷ others) next last rest n h e = inr (o, h.0, line_head _ _ _ _ e)
follow format cars (o ∷ events) [] next last rest n h e = absurd (n o (line_head _ _ _ _ e))
follow format cars (o ∷ events) (p ∷ others) next last rest n h e =
    elim (follow format cars events others next last rest n h.1 (line_tail _ _ _ _ e)) [
      | inl k ↦ inl (k.0, ap suc k.1, k.2)
      | inr k ↦ inr k
    ]

-- lines that begin a trace in a format
abbrev Spelled : Format → ℕ → List (List ℕ) → List TraceEvent → Type 0
Spelled format cars lines others = AreTraced format cars others × (lines ≡ map (line_of format) others ++ last_line (length others) ∷ [])

in_format : (format : Format) (cars : ℕ) (lines : List (List ℕ)) → (t : AreTrace cars (first_line format ∷ lines)) → Spelled format cars lines t.events
in_format format cars lines t =
    let same : t.format ≡ format = first_once t.format format (sym (line_head _ _ _ _ t.spelled)) in
    subst (λ (g : Format). Spelled g cars lines t.events) same (t.traced, line_tail _ _ _ _ t.spelled)

pub next_begins : (format : Format) (cars : ℕ) (events : List TraceEvent) (next : List ℕ) → Begin cars (opening format events ++ next ∷ [])
    → (next ≡ last_line (length events)) ⊎ ((e : TraceEvent) × IsTraced format cars e × (next ≡ line_of format e))
next_begins format cars events next b =
    let flat : (map (line_of format) events ++ next ∷ []) ++ b.0 ≡ map (line_of format) events ++ (next ∷ b.0) = append_assoc (map (line_of format) events) (next ∷ []) b.0 in
    let t = in_format format cars ((map (line_of format) events ++ next ∷ []) ++ b.0) b.1 in
    elim (follow format cars events b.1.events next (last_line (length b.1.events)) b.0 (not_last format (length b.1.events)) t.0 (sym flat ∙ t.1)) [
      | inl k ↦ inl (k.0 ∙ ap last_line (sym k.1))
      | inr k ↦ inr k
    ]

-- nothing follows a whole trace
pub whole_ends : (format : Format) (cars : ℕ) (events : List TraceEvent) (next : List ℕ) → Begin cars (trace_lines format events ++ next ∷ []) → ⊥
whole_ends format cars events next b =
    let lines = (map (line_of format) events ++ last_line (length events) ∷ []) ++ next ∷ [] in
    let flat : lines ++ b.0 ≡ map (line_of format) events ++ (last_line (length events) ∷ (next ∷ b.0)) =
    append_assoc (map (line_of format) events ++ last_line (length events) ∷ []) (next ∷ []) b.0 ∙ append_assoc (map (line_of format) events) (last_line (length events) ∷ []) (next ∷ b.0) in
    let t = in_format format cars (lines ++ b.0) b.1 in
    elim (follow format cars events b.1.events (last_line (length events)) (last_line (length b.1.events)) (next ∷ b.0) (not_last format (length b.1.events)) t.0 (sym flat ∙ t.1)) [
      | inl k ↦ absurd (let n : next ∷ b.0 ≡ [] = k.2 in cc)
      | inr k ↦ not_last format (length events) k.0 (sym k.2)
    ]

-- the lines of events alone are no whole trace
no_last : (format : Format) (events others : List TraceEvent) (last : List ℕ) → ((e : TraceEvent) → line_of format e ≢ last) → map (line_of format) events ≡ map (line_of format) others ++ last ∷ [] → ⊥
no_last format [] [] last n e = absurd (cc)
no_last format [] (o ∷ others) last n e = absurd (cc)
no_last format (o ∷ events) [] last n e = n o (line_head _ _ _ _ e)
no_last format (o ∷ events) (p ∷ others) last n e = no_last format events others last n (line_tail _ _ _ _ e)

pub opening_open : (format : Format) (cars : ℕ) (events : List TraceEvent) → AreTrace cars (opening format events) → ⊥
opening_open format cars events t =
    let u = in_format format cars (map (line_of format) events) t in no_last format events t.events (last_line (length t.events)) (not_last format (length t.events)) u.1

pub nothing_open : (cars : ℕ) → AreTrace cars [] → ⊥
nothing_open cars t = absurd (let e : [] ≡ trace_lines t.format t.events = t.spelled in cc)

pub nothing_begins : (cars : ℕ) → Begin cars []
nothing_begins cars = (trace_lines One [], record { format = One; events = []; traced = tt; spelled = refl })

-- The answers.
take_front : (xs ys : List (List ℕ)) → take (length xs) (xs ++ ys) ≡ xs
take_front xs ys = take-append-le (length xs) xs ys (omega arith) ∙ take_all (length xs) xs (omega arith)

first_wrong : (cars : ℕ) (before : List (List ℕ)) (next : List ℕ) (more : List (List ℕ)) → Begin cars before → ¬ Begin cars (before ++ next ∷ []) → IsFirstWrong cars ((before ++ next ∷ []) ++ more) (length before + 1)
first_wrong cars before next more b w =
    let long : length (before ++ next ∷ []) ≡ length before + 1 = length-append before (next ∷ []) in
    let all : take (length before + 1) ((before ++ next ∷ []) ++ more) ≡ before ++ next ∷ [] = subst (λ (n : ℕ). take n ((before ++ next ∷ []) ++ more) ≡ before ++ next ∷ []) long (take_front (before ++ next ∷ []) more) in
    let less : (length before + 1) - 1 ≡ length before = omega arith in
    let flat : (before ++ next ∷ []) ++ more ≡ before ++ (next ∷ more) = append_assoc before (next ∷ []) more in
    let front : take ((length before + 1) - 1) ((before ++ next ∷ []) ++ more) ≡ before =
    ap (λ (n : ℕ). take n ((before ++ next ∷ []) ++ more)) less ∙ (ap (take (length before)) flat ∙ take_front before (next ∷ more)) in
    record {
      within = omega (arith, long, length-append (before ++ next ∷ []) more);
      before = subst (Begin cars) (sym front) b;
      wrong = λ c. w (subst (Begin cars) all c);
    }

-- a complete line that is wrong
pub wrong_at : (cars : ℕ) (text : List ℕ) (number : ℕ) (before : List (List ℕ)) (next behind : List ℕ) → AllByRecursion IsOneLine before → IsOneLine next → Begin cars before → ¬ Begin cars (before ++ next ∷ [])
    → text ≡ text_of_lines before ++ (next ++ (10 ∷ behind)) → number ≡ length before + 1 → IsWrongAt cars text number
wrong_at cars text number before next behind h k b w e n =
    let rest = split behind in
    let one : AllByRecursion IsOneLine (before ++ next ∷ []) = each_append IsOneLine before (next ∷ []) h (k, tt) in
    record {
      lines = (before ++ next ∷ []) ++ rest.0;
      piece = rest.1;
      splits = splits_behind text behind (before ++ next ∷ []) rest.0 rest.1 one (e ∙ text_more before next behind) rest.2;
      wrong = inl (subst (IsFirstWrong cars ((before ++ next ∷ []) ++ rest.0)) (sym n) (first_wrong cars before next rest.0 b w));
    }

behind_by : (format : Format) (cars : ℕ) (text : List ℕ) (number : ℕ) (events : List TraceEvent) (behind : List ℕ) → AreTraced format cars events → AllByRecursion IsOneLine (trace_lines format events)
    → behind ≢ [] → text ≡ text_of_lines (trace_lines format events) ++ behind → number ≡ length (trace_lines format events) + 1
    → (lines : List (List ℕ)) (piece : List ℕ) → Splits behind lines piece → IsWrongAt cars text number
behind_by format cars text number events behind h one some e n [] piece s =
    let all : trace_lines format events ++ [] ≡ trace_lines format events = append-nil (trace_lines format events) in
    record {
      lines = trace_lines format events;
      piece = piece;
      splits = subst (λ (l : List (List ℕ)). Splits text l piece) all (splits_behind text behind (trace_lines format events) [] piece one e s);
      wrong = inr (record { format = format; events = events; traced = h; spelled = refl }, λ is. some (s.whole ∙ is), n);
    }
behind_by format cars text number events behind h one some e n (next ∷ more) piece s =
    let all : (trace_lines format events ++ next ∷ []) ++ more ≡ trace_lines format events ++ (next ∷ more) = append_assoc (trace_lines format events) (next ∷ []) more in
    let begins : Begin cars (trace_lines format events) = ([], subst (AreTrace cars) (sym (append-nil (trace_lines format events))) (record { format = format; events = events; traced = h; spelled = refl })) in
    let wrong : IsFirstWrong cars (trace_lines format events ++ (next ∷ more)) number =
    subst (IsFirstWrong cars (trace_lines format events ++ (next ∷ more))) (sym n)
    (subst (λ (l : List (List ℕ)). IsFirstWrong cars l (length (trace_lines format events) + 1)) all (first_wrong cars (trace_lines format events) next more begins (whole_ends format cars events next))) in
    record { lines = trace_lines format events ++ (next ∷ more); piece = piece; splits = splits_behind text behind (trace_lines format events) (next ∷ more) piece one e s; wrong = inl wrong }

-- something after a whole trace
pub wrong_behind : (format : Format) (cars : ℕ) (text : List ℕ) (number : ℕ) (events : List TraceEvent) (behind : List ℕ) → AreTraced format cars events → AllByRecursion IsOneLine (trace_lines format events)
    → behind ≢ [] → text ≡ text_of_lines (trace_lines format events) ++ behind → number ≡ length (trace_lines format events) + 1 → IsWrongAt cars text number
wrong_behind format cars text number events behind h one some e n = behind_by format cars text number events behind h one some e n (split behind).0 (split behind).1 (split behind).2

-- the text ends too early
pub ends_at : (cars : ℕ) (text : List ℕ) (number : ℕ) (lines : List (List ℕ)) (piece : List ℕ) → AllByRecursion IsOneLine lines → IsOneLine piece → Begin cars lines → (AreTrace cars lines → ⊥)
    → text ≡ text_of_lines lines ++ piece → number ≡ length lines + 1 → EndsAt cars text number
ends_at cars text number lines piece h k b o e n =
    record { lines = lines; piece = piece; splits = record { whole = e; each_line = h; last_piece = k }; begin = b; no_end = o; place = n }

-- Reading line by line: the text so far is the first line and those of the events, and then what is left.
pub record HasRead (format : Format) (cars : ℕ) (text : List ℕ) (events : List TraceEvent) (rest : List ℕ) : Type 0 where
  pub traced : AreTraced format cars events
  pub whole : text ≡ text_of_lines (opening format events) ++ rest

-- the text after a first line
abbrev pub behind_first : Format → List ℕ → List ℕ
behind_first format text = first_line format ++ (10 ∷ text)

map_more : (format : Format) (events : List TraceEvent) (e : TraceEvent) → map (line_of format) (events ++ e ∷ []) ≡ map (line_of format) events ++ line_of format e ∷ []
map_more format [] e = refl
map_more format (o ∷ events) e = ap (λ (l : List (List ℕ)). line_of format o ∷ l) (map_more format events e)

-- the lines so far are those of the events, and then what is left
pub record HasReadLines (format : Format) (cars : ℕ) (text : List ℕ) (events : List TraceEvent) (rest : List ℕ) : Type 0 where
  pub traced : AreTraced format cars events
  pub whole : text ≡ event_lines format events ++ rest

-- then so is the text with the first line
pub read_behind_first : (format : Format) (cars : ℕ) (text : List ℕ) (events : List TraceEvent) (rest : List ℕ) → HasReadLines format cars text events rest → HasRead format cars (behind_first format text) events rest
read_behind_first format cars text events rest r =
    record {
      traced = r.traced;
      whole = ap (behind_first format) r.whole ∙ (sym (append_assoc (first_line format) (10 ∷ []) (event_lines format events ++ rest)) ∙ sym (append_assoc (first_line format ++ 10 ∷ []) (event_lines format events) rest));
    }

-- nothing is read yet
pub nothing_read : (format : Format) (cars : ℕ) (text : List ℕ) → HasReadLines format cars text [] text
nothing_read format cars text = record { traced = tt; whole = refl }

-- one line more
pub lines_read_more : (format : Format) (cars : ℕ) (text : List ℕ) (events : List TraceEvent) (rest : List ℕ) (e : TraceEvent) (line behind : List ℕ) → HasReadLines format cars text events rest
    → rest ≡ line ++ (10 ∷ behind) → IsTraced format cars e → line ≡ line_of format e → HasReadLines format cars text (events ++ e ∷ []) behind
lines_read_more format cars text events rest e line behind r s h l =
    let lines : map (line_of format) events ++ line ∷ [] ≡ map (line_of format) (events ++ e ∷ []) = ap (λ (l : List ℕ). map (line_of format) events ++ l ∷ []) l ∙ sym (map_more format events e) in
    record {
      traced = each_append (IsTraced format cars) events (e ∷ []) r.traced (h, tt);
      whole = r.whole ∙ (ap (λ (t : List ℕ). event_lines format events ++ t) s ∙ (text_more (map (line_of format) events) line behind ∙ ap (λ (l : List (List ℕ)). text_of_lines l ++ behind) lines));
    }

pub has_read_first : (format : Format) (cars : ℕ) (text : List ℕ) → HasRead format cars (behind_first format text) [] text
has_read_first format cars text = record { traced = tt; whole = text_more [] (first_line format) text }

pub has_read_more : (format : Format) (cars : ℕ) (text : List ℕ) (events : List TraceEvent) (rest : List ℕ) (e : TraceEvent) (line behind : List ℕ) → HasRead format cars text events rest
    → rest ≡ line ++ (10 ∷ behind) → IsTraced format cars e → line ≡ line_of format e → HasRead format cars text (events ++ e ∷ []) behind
has_read_more format cars text events rest e line behind r s h l =
    let lines : opening format events ++ line ∷ [] ≡ opening format (events ++ e ∷ []) = ap (λ (l : List ℕ). opening format events ++ l ∷ []) l ∙ ap (λ (l : List (List ℕ)). first_line format ∷ l) (sym (map_more format events e)) in
    record {
      traced = each_append (IsTraced format cars) events (e ∷ []) r.traced (h, tt);
      whole = r.whole ∙ (ap (λ (t : List ℕ). text_of_lines (opening format events) ++ t) s ∙ (text_more (opening format events) line behind ∙ ap (λ (l : List (List ℕ)). text_of_lines l ++ behind) lines));
    }

opening_length : (format : Format) (events : List TraceEvent) → length (opening format events) ≡ length events + 1
opening_length format events = omega (arith, length_map format events)

pub trace_length : (format : Format) (events : List TraceEvent) → length (trace_lines format events) ≡ length events + 2
trace_length format events = omega (arith, length-append (map (line_of format) events) (last_line (length events) ∷ []), length_map format events)

-- no complete line is left
pub reads_truncated : (format : Format) (cars : ℕ) (text : List ℕ) (events : List TraceEvent) (rest : List ℕ) (number : ℕ) → HasRead format cars text events rest → length text ≤ greatest_trace → IsOneLine rest
    → number ≡ length events + 2 → Reads cars text (Err (Truncated number))
reads_truncated format cars text events rest number r h one n =
    (h, ends_at cars text number (opening format events) rest (opening_one format cars events r.traced) one (opening_begins format cars events r.traced) (opening_open format cars events) r.whole (omega (arith, n, opening_length format events)))

-- a line of no event
reads_bad : (format : Format) (cars : ℕ) (text : List ℕ) (events : List TraceEvent) (rest : List ℕ) (number : ℕ) (line behind : List ℕ) → HasRead format cars text events rest → length text ≤ greatest_trace
    → rest ≡ line ++ (10 ∷ behind) → IsOneLine line → NoEvent format cars line → (line ≡ last_line (length events) → ⊥) → number ≡ length events + 2 → Reads cars text (Err (BadLine number))
reads_bad format cars text events rest number line behind r h s one none l n =
    inr (
      h,
      wrong_at cars text number (opening format events) line behind (opening_one format cars events r.traced) one (opening_begins format cars events r.traced)
          (λ b. elim (next_begins format cars events line b) [ inl is ↦ l is | inr is ↦ none is.0 is.1 is.2 ])
          (r.whole ∙ ap (λ (t : List ℕ). text_of_lines (opening format events) ++ t) s) (omega (arith, n, opening_length format events)),
    )

whole_text : (format : Format) (cars : ℕ) (text : List ℕ) (events : List TraceEvent) (rest line behind : List ℕ) → HasRead format cars text events rest → rest ≡ line ++ (10 ∷ behind) → line ≡ last_line (length events)
    → text ≡ text_of_lines (trace_lines format events) ++ behind
whole_text format cars text events rest line behind r s l =
    r.whole ∙ (ap (λ (t : List ℕ). text_of_lines (opening format events) ++ t) s ∙ (text_more (opening format events) line behind ∙ ap (λ (l : List ℕ). text_of_lines (opening format events ++ l ∷ []) ++ behind) l))

-- something is after the last line
reads_behind : (format : Format) (cars : ℕ) (text : List ℕ) (events : List TraceEvent) (rest : List ℕ) (number : ℕ) (line behind : List ℕ) → HasRead format cars text events rest → length text ≤ greatest_trace
    → rest ≡ line ++ (10 ∷ behind) → IsOneLine line → line ≡ last_line (length events) → behind ≢ [] → number ≡ length events + 2 → Reads cars text (Err (BadLine (number + 1)))
reads_behind format cars text events rest number line behind r h s one l some n =
    let lines : AllByRecursion IsOneLine (trace_lines format events) = each_append IsOneLine (opening format events) (last_line (length events) ∷ []) (opening_one format cars events r.traced) (subst IsOneLine l one, tt) in
    inr (h, wrong_behind format cars text (number + 1) events behind r.traced lines some (whole_text format cars text events rest line behind r s l) (omega (arith, n, trace_length format events)))

in_either : (format : Format) (cars : ℕ) (text : List ℕ) (events : List TraceEvent) → IsTraceIn format cars text events → Format1 cars text events ⊎ Format2 cars text events
in_either One cars text events t = inl t
in_either Two cars text events t = inr t

-- the whole text is read
reads_all : (format : Format) (cars : ℕ) (text : List ℕ) (events : List TraceEvent) (rest line behind : List ℕ) → HasRead format cars text events rest → length text ≤ greatest_trace
    → rest ≡ line ++ (10 ∷ behind) → line ≡ last_line (length events) → behind ≡ [] → Reads cars text (Ok events)
reads_all format cars text events rest line behind r h s l none =
    let spelled : text ≡ text_of format events = whole_text format cars text events rest line behind r s l ∙ (ap (λ (t : List ℕ). text_of format events ++ t) none ∙ append-nil (text_of format events)) in
    (h, in_either format cars text events (record { spelled = spelled; traced = r.traced }))

-- a result, and what its events are
abbrev pub Answers : {V : Type 0} → (V → List TraceEvent) → ℕ → List ℕ → Result V TraceFault → Type 0
Answers items cars text r = MatchResult r (λ v. Reads cars text (Ok (items v))) (λ f. Reads cars text (Err f))

-- the same, of a whole trace or of no front
abbrev pub AnswersWhole : {V : Type 0} → (V → List TraceEvent) → ℕ → List ℕ → Result V TraceFault → Type 0
AnswersWhole items cars text r = MatchResult r (λ v. Reads cars text (Ok (items v))) (RefusesFront cars text)

pub answers_ended : {V : Type 0} (items : V → List TraceEvent) (format : Format) (cars : ℕ) (text : List ℕ) (events : List TraceEvent) (rest : List ℕ) (number : ℕ) (line behind : List ℕ) (r : Result V TraceFault)
    → HasRead format cars text events rest → length text ≤ greatest_trace → rest ≡ line ++ (10 ∷ behind) → IsOneLine line → NoEvent format cars line → number ≡ length events + 2
    → IfOk r (λ v. (items v ≡ events) × (line ≡ last_line (length events)) × (behind ≡ [])) → IfErr r (λ f. EndsWrong (line ≡ last_line (length events)) behind number f) → AnswersWhole items cars text r
answers_ended items format cars text events rest number line behind (Ok v) r h s one none n ok err =
    subst (λ (es : List TraceEvent). Reads cars text (Ok es)) (sym ok.0) (reads_all format cars text events rest line behind r h s ok.1 ok.2)
answers_ended items format cars text events rest number line behind (Err f) r h s one none n ok err =
    elim err [
      | inl k ↦ subst (RefusesFront cars text) (sym k.0) (reads_bad format cars text events rest number line behind r h s one none k.1 n)
      | inr k ↦ subst (RefusesFront cars text) (sym k.0) (reads_behind format cars text events rest number line behind r h s one k.1 k.2 n)
    ]

-- No first line.
pub reads_nothing : (cars : ℕ) (text : List ℕ) → length text ≤ greatest_trace → IsOneLine text → Reads cars text (Err (Truncated 1))
reads_nothing cars text h one = (h, ends_at cars text 1 [] text tt one (nothing_begins cars) (nothing_open cars) refl refl)

pub reads_no_format : (cars : ℕ) (text first rest : List ℕ) → length text ≤ greatest_trace → text ≡ first ++ (10 ∷ rest) → IsOneLine first → ((format : Format) → first ≡ first_line format → ⊥) → Reads cars text (Err (BadLine 1))
reads_no_format cars text first rest h e one none =
    inr (h, wrong_at cars text 1 [] first rest tt one (nothing_begins cars) (λ b. none b.1.format (line_head _ _ _ _ b.1.spelled)) e refl)

-- THE FRONT OF A TRACE

-- the lines so far are a front
pub front_so_far : (format : Format) (cars : ℕ) (text : List ℕ) (events : List TraceEvent) (rest : List ℕ) (number : ℕ) → HasRead format cars text events rest → length text ≤ greatest_trace → IsOneLine rest → number ≡ length events + 2 → ReadsFront cars text events (Some number)
front_so_far format cars text events rest number r h one n = (h, n, (format, rest, r.traced, one, r.whole))

-- a front that isn't whole is a trace that is cut off
pub front_truncated : (cars : ℕ) (text : List ℕ) (events : List TraceEvent) (number : ℕ) → ReadsFront cars text events (Some number) → Reads cars text (Err (Truncated number))
front_truncated cars text events number (h, n, (format, piece, traced, one, whole)) = reads_truncated format cars text events piece number (record { traced = traced; whole = whole }) h one n

-- why there is no front, said of the whole text
pub front_refused : (cars : ℕ) (text : List ℕ) (fault : TraceFault) → RefusesFront cars text fault → Reads cars text (Err fault)
front_refused cars text (BadLine line) h = h
front_refused cars text (Truncated line) (h, one, is) = subst (λ (n : ℕ). Reads cars text (Err (Truncated n))) (sym is) (reads_nothing cars text h one)
front_refused cars text Write h = h
front_refused cars text Memory h = tt

-- and it goes up so
pub refused_so : {V : Type 0} (P : V → Type 0) (cars : ℕ) (text : List ℕ) (fault : TraceFault) (r : Result V TraceFault) → IsErrAnd r (λ f. f ≡ fault) → RefusesFront cars text fault → MatchResult r P (λ f. Reads cars text (Err f))
refused_so P cars text fault (Ok v) is h = absurd is
refused_so P cars text fault (Err f) is h = subst (λ (g : TraceFault). Reads cars text (Err g)) (sym is) (front_refused cars text fault h)

-- one that is whole is a trace
pub front_whole : (cars : ℕ) (text : List ℕ) (r : Result Front TraceFault) → AnswersWhole (λ f. f.events) cars text r → IfOk r (λ f. f.cut ≡ None) → FrontAnswers cars text r
front_whole cars text (Ok f) a whole = subst (ReadsFront cars text f.events) (sym whole) a
front_whole cars text (Err fault) a whole = a

-- the front is read after the first line
pub front_behind : (format : Format) (cars : ℕ) (text first rest : List ℕ) (r : Result Front TraceFault) → text ≡ first ++ (10 ∷ rest) → first ≡ first_line format → FrontAnswers cars (behind_first format rest) r → FrontAnswers cars text r
front_behind format cars text first rest r e f a =
    let whole : behind_first format rest ≡ text = sym (e ∙ ap (λ (l : List ℕ). l ++ (10 ∷ rest)) f) in
    subst (λ (t : List ℕ). FrontAnswers cars t r) whole a
