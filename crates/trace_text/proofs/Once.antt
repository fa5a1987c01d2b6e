-- Reading a text gives one thing.
use Rattle.std.proofs.Common.{◌≡◌, ◌≢◌, ◌⊎◌, inl, inr, ℕ, zero, suc, ◌-◌, ◌<◌, ◌≤◌, append_assoc, append-nil, List, [], ◌∷◌, ◌++◌, length, length-append, take, drop, refl, sym, ap, subst, ◌∙◌, arith, take-append-drop}
use Rattle.std.specs.Prelude.{Result, MatchResult}
use Rattle.trace_text.specs.declared.fault.TraceFault.{TraceFault}
use Rattle.std.specs.Prelude.{map, Ok, Err}
use Rattle.group_spec.specs.declared.trace.TraceEvent.{TraceEvent}
use Rattle.trace_text.specs.declared.format.Format.{Format}
use Rattle.trace_text.specs.declared.format.Format.TheVariants.{One, Two}
use Rattle.trace_text.specs.declared.fault.TraceFault.TheVariants.{BadLine, Truncated, Write, Memory}
use Rattle.trace_text.specs.Reading.{IsOneLine, Splits, AreTrace, Begin, IsFirstWrong, IsWrongAt, EndsAt, Reads, greatest_trace}
use Rattle.trace_text.specs.Text.{line_of, last_line, trace_lines, text_of_lines, text_of, AreTraced, IsTraceIn, Format1, Format2}
use Rattle.trace_text.specs.Laws.{Answer, ReadsOnce, ReadsWritten}
use Rattle.trace_text.specs.Written.{traced, text_of_entries}
use Rattle.trace_text.proofs.Bytes.{each_append}
use Rattle.trace_text.proofs.Lines.{not_last, line_once}
use Rattle.trace_text.proofs.Texts.{splits_once, last_one}
use Rattle.trace_text.proofs.Traces.{Answers, opening, opening_one, first_once, line_head, line_tail, trace_length}

pub lines_long : (lines : List (List ℕ)) → length lines ≤ length (text_of_lines lines)
lines_long [] = omega arith
lines_long (line ∷ lines) = omega (arith, length-append (line ++ 10 ∷ []) (text_of_lines lines), length-append line (10 ∷ []), lines_long lines)

in_some : (cars : ℕ) (text : List ℕ) (events : List TraceEvent) → Format1 cars text events ⊎ Format2 cars text events → (format : Format) × IsTraceIn format cars text events
in_some cars text events t =
    elim t [
      | inl k ↦ (One, k)
      | inr k ↦ (Two, k)
    ]

whole_splits : (format : Format) (cars : ℕ) (text : List ℕ) (events : List TraceEvent) → IsTraceIn format cars text events → length text ≤ greatest_trace → Splits text (trace_lines format events) []
whole_splits format cars text events t h =
    let few : length (trace_lines format events) ≤ length text = omega (arith, ap length t.spelled, lines_long (trace_lines format events)) in
    record {
      whole = t.spelled ∙ sym (append-nil (text_of format events));
      each_line = each_append IsOneLine (opening format events) (last_line (length events) ∷ []) (opening_one format cars events t.traced) (last_one (length events) (omega (arith, h, few, trace_length format events)), tt);
      last_piece = tt;
    }

events_once : (format : Format) (cars n m : ℕ) (es fs : List TraceEvent) → AreTraced format cars es → AreTraced format cars fs
    → map (line_of format) es ++ last_line n ∷ [] ≡ map (line_of format) fs ++ last_line m ∷ [] → es ≡ fs
events_once format cars n m [] [] h k e = refl
events_once format cars n m [] (b ∷ fs) h k e = absurd (not_last format n b (sym (line_head _ _ _ _ e)))
events_once format cars n m (a ∷ es) [] h k e = absurd (not_last format m a (line_head _ _ _ _ e))
events_once format cars n m (a ∷ es) (b ∷ fs) h k e =
    let first : a ≡ b = line_once format cars a b h.0 k.0 (line_head _ _ _ _ e) in
    let others : es ≡ fs = events_once format cars n m es fs h.1 k.1 (line_tail _ _ _ _ e) in
    cc

traces_once : (f g : Format) (cars : ℕ) (es fs : List TraceEvent) → AreTraced f cars es → AreTraced g cars fs → trace_lines f es ≡ trace_lines g fs → es ≡ fs
traces_once f g cars es fs h k e =
    let same : g ≡ f = first_once g f (sym (line_head _ _ _ _ e)) in
    let moved : AreTraced f cars fs = subst (λ (x : Format). AreTraced x cars fs) same k in
    let lines : map (line_of f) es ++ last_line (length es) ∷ [] ≡ map (line_of f) fs ++ last_line (length fs) ∷ [] =
    subst (λ (x : Format). map (line_of f) es ++ last_line (length es) ∷ [] ≡ map (line_of x) fs ++ last_line (length fs) ∷ []) same (line_tail _ _ _ _ e) in
    events_once f cars (length es) (length fs) es fs h moved lines

-- what begins a trace begins one at each line
begin_take : (cars n : ℕ) (lines : List (List ℕ)) → Begin cars lines → Begin cars (take n lines)
begin_take cars n lines b =
    let whole : take n lines ++ (drop n lines ++ b.0) ≡ lines ++ b.0 = sym (append_assoc (take n lines) (drop n lines) b.0) ∙ ap (λ (l : List (List ℕ)). l ++ b.0) (take-append-drop n lines) in
    (drop n lines ++ b.0, subst (AreTrace cars) (sym whole) b.1)

take_less : (n k : ℕ) (lines : List (List ℕ)) → n ≤ k → take n (take k lines) ≡ take n lines
take_less zero k lines h = refl
take_less (suc n) zero lines h = absurd (omega arith)
take_less (suc n) (suc k) [] h = refl
take_less (suc n) (suc k) (line ∷ lines) h = ap (λ (l : List (List ℕ)). line ∷ l) (take_less n k lines (omega arith))

not_before : (cars n m : ℕ) (lines : List (List ℕ)) → IsFirstWrong cars lines n → IsFirstWrong cars lines m → n < m → ⊥
not_before cars n m lines f g h =
    f.wrong (subst (Begin cars) (take_less n (m - 1) lines (omega arith)) (begin_take cars n (take (m - 1) lines) g.before))

wrong_once : (cars n m : ℕ) (lines : List (List ℕ)) → IsFirstWrong cars lines n → IsFirstWrong cars lines m → n ≡ m
wrong_once cars n m lines f g =
    let a : (n < m) → ⊥ = not_before cars n m lines f g in
    let b : (m < n) → ⊥ = not_before cars m n lines g f in
    omega (arith, a, b)

whole_begins : (cars : ℕ) (lines : List (List ℕ)) → AreTrace cars lines → Begin cars lines
whole_begins cars lines t = ([], subst (AreTrace cars) (sym (append-nil lines)) t)

are_trace : (format : Format) (cars : ℕ) (text : List ℕ) (events : List TraceEvent) → IsTraceIn format cars text events → AreTrace cars (trace_lines format events)
are_trace format cars text events t = record { format = format; events = events; traced = t.traced; spelled = refl }

ok_ok : (cars : ℕ) (text : List ℕ) (es fs : List TraceEvent) → Reads cars text (Ok es) → Reads cars text (Ok fs) → es ≡ fs
ok_ok cars text es fs h k =
    let t = in_some cars text es h.1 in
    let u = in_some cars text fs k.1 in
    traces_once t.0 u.0 cars es fs t.1.traced u.1.traced (splits_once text _ _ _ _ (whole_splits t.0 cars text es t.1 h.0) (whole_splits u.0 cars text fs u.1 k.0)).0

ok_wrong : (cars : ℕ) (text : List ℕ) (es : List TraceEvent) (n : ℕ) → Reads cars text (Ok es) → IsWrongAt cars text n → ⊥
ok_wrong cars text es n h w =
    let t = in_some cars text es h.1 in
    let same = splits_once text _ _ _ _ (whole_splits t.0 cars text es t.1 h.0) w.splits in
    elim w.wrong [
      | inl f ↦ f.wrong (begin_take cars n w.lines (subst (Begin cars) same.0 (whole_begins cars (trace_lines t.0 es) (are_trace t.0 cars text es t.1))))
      | inr f ↦ f.1 (sym same.1)
    ]

ok_ends : (cars : ℕ) (text : List ℕ) (es : List TraceEvent) (n : ℕ) → Reads cars text (Ok es) → EndsAt cars text n → ⊥
ok_ends cars text es n h w =
    let t = in_some cars text es h.1 in
    let same = splits_once text _ _ _ _ (whole_splits t.0 cars text es t.1 h.0) w.splits in
    w.no_end (subst (AreTrace cars) same.0 (are_trace t.0 cars text es t.1))

wrong_wrong : (cars : ℕ) (text : List ℕ) (n m : ℕ) → IsWrongAt cars text n → IsWrongAt cars text m → n ≡ m
wrong_wrong cars text n m v w =
    let same = splits_once text _ _ _ _ w.splits v.splits in
    elim v.wrong [
      | inl f ↦ elim w.wrong [
        | inl g ↦ wrong_once cars n m v.lines f (subst (λ (l : List (List ℕ)). IsFirstWrong cars l m) same.0 g)
        | inr g ↦ absurd (f.wrong (begin_take cars n v.lines (subst (Begin cars) same.0 (whole_begins cars w.lines g.0))))
      ]
      | inr f ↦ elim w.wrong [
        | inl g ↦ absurd (g.wrong (begin_take cars m w.lines (subst (Begin cars) (sym same.0) (whole_begins cars v.lines f.0))))
        | inr g ↦ omega (arith, f.2, g.2, ap length same.0)
      ]
    ]

wrong_ends : (cars : ℕ) (text : List ℕ) (n m : ℕ) → IsWrongAt cars text n → EndsAt cars text m → ⊥
wrong_ends cars text n m v w =
    let same = splits_once text _ _ _ _ w.splits v.splits in
    elim v.wrong [
      | inl f ↦ f.wrong (begin_take cars n v.lines (subst (Begin cars) same.0 w.begin))
      | inr f ↦ w.no_end (subst (AreTrace cars) (sym same.0) f.0)
    ]

ends_ends : (cars : ℕ) (text : List ℕ) (n m : ℕ) → EndsAt cars text n → EndsAt cars text m → n ≡ m
ends_ends cars text n m v w =
    let same = splits_once text _ _ _ _ w.splits v.splits in omega (arith, v.place, w.place, ap length same.0)

-- the two ways to a wrong line
bad_bad : (cars : ℕ) (text : List ℕ) (n m : ℕ) → Reads cars text (Err (BadLine n)) → Reads cars text (Err (BadLine m)) → n ≡ m
bad_bad cars text n m h k =
    elim h [
      | inl f ↦ elim k [
        | inl g ↦ omega (arith, f.1, g.1)
        | inr g ↦ absurd (omega (arith, f.0, g.0))
      ]
      | inr f ↦ elim k [
        | inl g ↦ absurd (omega (arith, f.0, g.0))
        | inr g ↦ wrong_wrong cars text n m f.1 g.1
      ]
    ]

ok_bad : (cars : ℕ) (text : List ℕ) (es : List TraceEvent) (n : ℕ) → Reads cars text (Ok es) → Reads cars text (Err (BadLine n)) → ⊥
ok_bad cars text es n h k =
    elim k [
      | inl g ↦ omega (arith, h.0, g.0)
      | inr g ↦ ok_wrong cars text es n h g.1
    ]

bad_ends : (cars : ℕ) (text : List ℕ) (n m : ℕ) → Reads cars text (Err (BadLine n)) → Reads cars text (Err (Truncated m)) → ⊥
bad_ends cars text n m h k =
    elim h [
      | inl g ↦ omega (arith, k.0, g.0)
      | inr g ↦ wrong_ends cars text n m g.1 k.1
    ]

ok_same : (es fs : List TraceEvent) → es ≡ fs → ◌≡◌ {A = Answer} (Ok es) (Ok fs)
ok_same es fs e = cc

bad_same : (n m : ℕ) → n ≡ m → ◌≡◌ {A = Answer} (Err (BadLine n)) (Err (BadLine m))
bad_same n m e = cc

ends_same : (n m : ℕ) → n ≡ m → ◌≡◌ {A = Answer} (Err (Truncated n)) (Err (Truncated m))
ends_same n m e = cc

pub reads_once : ReadsOnce
reads_once cars text (Err Memory) b na nb h k = absurd (na refl)
reads_once cars text (Err Write) b na nb h k = absurd h
reads_once cars text (Ok es) (Ok fs) na nb h k = ok_same es fs (ok_ok cars text es fs h k)
reads_once cars text (Ok es) (Err (BadLine n)) na nb h k = absurd (ok_bad cars text es n h k)
reads_once cars text (Ok es) (Err (Truncated n)) na nb h k = absurd (ok_ends cars text es n h k.1)
reads_once cars text (Ok es) (Err Write) na nb h k = absurd k
reads_once cars text (Ok es) (Err Memory) na nb h k = absurd (nb refl)
reads_once cars text (Err (BadLine n)) (Ok fs) na nb h k = absurd (ok_bad cars text fs n k h)
reads_once cars text (Err (BadLine n)) (Err (BadLine m)) na nb h k = bad_same n m (bad_bad cars text n m h k)
reads_once cars text (Err (BadLine n)) (Err (Truncated m)) na nb h k = absurd (bad_ends cars text n m h k)
reads_once cars text (Err (BadLine n)) (Err Write) na nb h k = absurd k
reads_once cars text (Err (BadLine n)) (Err Memory) na nb h k = absurd (nb refl)
reads_once cars text (Err (Truncated n)) (Ok fs) na nb h k = absurd (ok_ends cars text fs n k h.1)
reads_once cars text (Err (Truncated n)) (Err (BadLine m)) na nb h k = absurd (bad_ends cars text m n k h)
reads_once cars text (Err (Truncated n)) (Err (Truncated m)) na nb h k = ends_same n m (ends_ends cars text n m h.1 k.1)
reads_once cars text (Err (Truncated n)) (Err Write) na nb h k = absurd k
reads_once cars text (Err (Truncated n)) (Err Memory) na nb h k = absurd (nb refl)

ok_is_no_memory : (es : List TraceEvent) → ◌≢◌ {A = Answer} (Ok es) (Err Memory)
ok_is_no_memory es e = absurd (cc)

pub reads_written : ReadsWritten
reads_written cars entries answer h short n r =
    reads_once cars (text_of_entries entries) answer (Ok (traced entries)) n (ok_is_no_memory (traced entries)) r (short, inr (record { spelled = refl; traced = h }))

err_same : (f : TraceFault) → ◌≡◌ {A = Answer} (Err f) (Err Memory) → f ≡ Memory
err_same f e = cc

-- what was answered is the one thing that reading gives
pub only_answer :
    {V : Type 0} (items : V → List TraceEvent) (cars : ℕ) (text : List ℕ) (r : Result V TraceFault) → Answers items cars text r → (answer : Answer) → answer ≢ Err Memory → Reads cars text answer
    → MatchResult r (λ v. answer ≡ Ok (items v)) (λ fault. fault ≢ Memory → answer ≡ Err fault)
only_answer items cars text (Ok v) a answer n h = reads_once cars text answer (Ok (items v)) n (ok_is_no_memory (items v)) h a
only_answer items cars text (Err f) a answer n h = λ m. reads_once cars text answer (Err f) n (λ e. m (err_same f e)) h a
