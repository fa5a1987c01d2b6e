-- What is written piece by piece.
use Rattle.std.proofs.Common.{◌≡◌, ◌≢◌, ℕ, zero, suc, ◌+◌, ◌<◌, Bool, true, append_assoc, append-nil, List, [], ◌∷◌, ◌++◌, length, length-append, drop, get_or, refl, sym, ap, subst, ◌∙◌, rules, arith}
use Rattle.std.specs.Prelude.{Option, Some, None, Result, Ok, Err, map, OnOk, OnErr, slice_get}
use Rattle.std.specs.Result.{IsErr}
use Rattle.std.proofs.Common.{eq-eqb, ne_eqb}
use Rattle.std.proofs.lemmas.Bool.{cond-true, cond-false}
use Rattle.std.specs.Io.KnownBytes.{Appends}
use Rattle.std.proofs.KnownBytes.{Appends-trans, Appends-nil}
use Rattle.group_spec.specs.declared.calls.Call.{Call}
use Rattle.group_spec.specs.declared.journal.Entry.{Entry}
use Rattle.trace_text.specs.Written.{traced, traced_entry, text_of_entries}
use Rattle.group_spec.specs.declared.trace.TraceEvent.{TraceEvent}
use Rattle.group_spec.specs.declared.trace.TraceEvent.TheVariants.{Press, Gather}
use Rattle.group_spec.specs.Hands.{floors_after}
use Rattle.cli_host.specs.Writes.{AppendsFront}
use Rattle.trace_text.specs.declared.format.Format.TheVariants.{Two}
use Rattle.trace_text.specs.Text.{line_of, first_line, last_line, text_of_lines}
use Rattle.trace_text.specs.Writing.{IsWritten, Puts, Wrote, events_text}
use Rattle.trace_text.proofs.Texts.{text_append}

pub front_of : (a b : Option (List ℕ)) (x y : List ℕ) → AppendsFront a b x → AppendsFront a b (x ++ y)
front_of a b x y f = (f.0, f.1 ++ y, f.2, sym (append_assoc f.0 f.1 y) ∙ ap (λ (t : List ℕ). t ++ y) f.3)

pub written_then : (a b c : Option (List ℕ)) (w v t y : List ℕ) → IsWritten a b w t → IsWritten b c v (w ++ y) → IsWritten a c v (t ++ y)
written_then a b c w v t y f g =
    (f.0 ++ g.0, Appends-trans a b c f.0 g.0 f.1 g.1, append_assoc f.0 g.0 v ∙ (ap (λ (l : List ℕ). f.0 ++ l) g.2 ∙ (sym (append_assoc f.0 w y) ∙ ap (λ (l : List ℕ). l ++ y) f.2)))

pub front_then : (a b c : Option (List ℕ)) (w t y : List ℕ) → IsWritten a b w t → AppendsFront b c (w ++ y) → AppendsFront a c (t ++ y)
front_then a b c w t y f g =
    (f.0 ++ g.0, g.1, Appends-trans a b c f.0 g.0 f.1 g.2, append_assoc f.0 g.0 g.1 ∙ (ap (λ (l : List ℕ). f.0 ++ l) g.3 ∙ (sym (append_assoc f.0 w y) ∙ ap (λ (l : List ℕ). l ++ y) f.2)))

pub put_then : (a b : Option (List ℕ)) (w v t y : List ℕ) → IsWritten a b w t → v ≡ w ++ y → IsWritten a b v (t ++ y)
put_then a b w v t y f e = (f.0, f.1, ap (λ (l : List ℕ). f.0 ++ l) e ∙ (sym (append_assoc f.0 w y) ∙ ap (λ (l : List ℕ). l ++ y) f.2))

pub written_nothing : (a : Option (List ℕ)) (w : List ℕ) → IsWritten a a w w
written_nothing a w = ([], Appends-nil a, refl)

-- the front of a longer text
pub front_along : (a b : Option (List ℕ)) (x y z : List ℕ) → x ++ y ≡ z → AppendsFront a b x → AppendsFront a b z
front_along a b x y z e f = subst (AppendsFront a b) e (front_of a b x y f)

pub events_append : (xs ys : List TraceEvent) → events_text (xs ++ ys) ≡ events_text xs ++ events_text ys
events_append [] ys = refl
events_append (x ∷ xs) ys =
    ap (λ (l : List ℕ). (line_of Two x ++ 10 ∷ []) ++ l) (events_append xs ys) ∙ sym (append_assoc (line_of Two x ++ 10 ∷ []) (events_text xs) (events_text ys))

pub events_in_three : (xs ys zs : List TraceEvent) → events_text (xs ++ (ys ++ zs)) ≡ events_text (xs ++ ys) ++ events_text zs
events_in_three xs ys zs = ap events_text (sym (append_assoc xs ys zs)) ∙ events_append (xs ++ ys) zs

-- `?` at a failed sink
pub puts_err : {X E : Type 0} (r : Result X E) (old new : Option (List ℕ)) (failed fails : Bool) (before waiting bytes : List ℕ) → IsErr r → AppendsFront old new (before ++ bytes) → fails ≡ true
    → Puts r old new failed fails before waiting bytes
puts_err (Ok x) old new failed fails before waiting bytes h f t = absurd (search (rules, h))
puts_err (Err e) old new failed fails before waiting bytes h f t = (f, t)

pub front_after_room : (a b : Option (List ℕ)) (before bytes : List ℕ) → AppendsFront a b (before ++ []) → AppendsFront a b (before ++ bytes)
front_after_room a b before bytes f = front_along a b (before ++ []) bytes (before ++ bytes) (ap (λ (l : List ℕ). l ++ bytes) (append-nil before)) f

pub written_after_room : (a b : Option (List ℕ)) (before w v bytes : List ℕ) → IsWritten a b w (before ++ []) → v ≡ w ++ bytes → IsWritten a b v (before ++ bytes)
written_after_room a b before w v bytes f e = subst (λ (l : List ℕ). IsWritten a b v (l ++ bytes)) (append-nil before) (put_then a b w v (before ++ []) bytes f e)

-- A writing that is under way: a part of the whole text was written after what waited at first, and a part is left.
pub record Running (start now : Option (List ℕ)) (first waiting left whole : List ℕ) : Type 0 where
  pub so_far : List ℕ
  pub parts : so_far ++ left ≡ whole
  pub written : IsWritten start now waiting (first ++ so_far)

pub running_start : (a : Option (List ℕ)) (first whole : List ℕ) → Running a a first first whole whole
running_start a first whole = record { so_far = []; parts = refl; written = subst (IsWritten a a first) (sym (append-nil first)) (written_nothing a first) }

pub running_more : (a b c : Option (List ℕ)) (first w v left one rest whole : List ℕ) → Running a b first w left whole → left ≡ one ++ rest → IsWritten b c v (w ++ one) → Running a c first v rest whole
running_more a b c first w v left one rest whole r e f =
    record {
      so_far = r.so_far ++ one;
      parts = append_assoc r.so_far one rest ∙ (ap (λ (l : List ℕ). r.so_far ++ l) (sym e) ∙ r.parts);
      written = subst (IsWritten a c v) (append_assoc first r.so_far one) (written_then a b c w v (first ++ r.so_far) one r.written f);
    }

pub running_front : (a b c : Option (List ℕ)) (first w left one rest whole : List ℕ) → Running a b first w left whole → left ≡ one ++ rest → AppendsFront b c (w ++ one) → AppendsFront a c (first ++ whole)
running_front a b c first w left one rest whole r e f =
    let all : ((first ++ r.so_far) ++ one) ++ rest ≡ first ++ whole =
    append_assoc (first ++ r.so_far) one rest ∙ (append_assoc first r.so_far (one ++ rest) ∙ ap (λ (l : List ℕ). first ++ l) (ap (λ (l : List ℕ). r.so_far ++ l) (sym e) ∙ r.parts)) in
    front_along a c ((first ++ r.so_far) ++ one) rest (first ++ whole) all (front_then a b c w (first ++ r.so_far) one r.written f)

pub running_end : (a b : Option (List ℕ)) (first w left whole : List ℕ) → Running a b first w left whole → left ≡ [] → IsWritten a b w (first ++ whole)
running_end a b first w left whole r e =
    let all : r.so_far ≡ whole = sym (append-nil r.so_far) ∙ (ap (λ (l : List ℕ). r.so_far ++ l) (sym e) ∙ r.parts) in
    subst (λ (l : List ℕ). IsWritten a b w (first ++ l)) all r.written

-- The next line.
one_more : (e : TraceEvent) (events : List TraceEvent) → events_text (e ∷ events) ≡ events_text (e ∷ []) ++ events_text events
one_more e events = events_append (e ∷ []) events

pub presses_left : (rest : List Call) (call : Call) → slice_get rest 0 ≡ Some call → events_text (map Press rest) ≡ events_text (Press call ∷ []) ++ events_text (map Press (drop 1 rest))
presses_left [] call e = absurd (cc)
presses_left (next ∷ rest) call e = let same : next ≡ call = cc in subst (λ (c : Call). events_text (map Press (next ∷ rest)) ≡ events_text (Press c ∷ []) ++ events_text (map Press rest)) same (one_more (Press next) (map Press rest))

pub nothing_left : (rest : List Call) → slice_get rest 0 ≡ None → rest ≡ []
nothing_left [] e = refl
nothing_left (next ∷ rest) e = absurd (cc)

pub floor_same : (last : ℕ) (rest : List Call) (call : Call) → slice_get rest 0 ≡ Some call → call.from ≡ last → floors_after last rest ≡ floors_after call.from (drop 1 rest)
floor_same last [] call e f = absurd (cc)
floor_same last (next ∷ rest) call e f =
    let same : next ≡ call = cc in
    let here : next.from ≡ last = ap (λ (c : Call). c.from) same ∙ f in
    cond-true _ (floors_after last rest) (next.from ∷ floors_after next.from rest) (eq-eqb next.from last here) ∙ ap (λ (n : ℕ). floors_after n rest) (sym f)

pub floor_other : (last : ℕ) (rest : List Call) (call : Call) → slice_get rest 0 ≡ Some call → call.from ≢ last → floors_after last rest ≡ call.from ∷ floors_after call.from (drop 1 rest)
floor_other last [] call e f = absurd (cc)
floor_other last (next ∷ rest) call e f =
    let same : next ≡ call = cc in
    let from : next.from ≡ call.from = ap (λ (c : Call). c.from) same in
    cond-false _ (floors_after last rest) (next.from ∷ floors_after next.from rest) (ne_eqb next.from last (λ is. f (sym from ∙ is))) ∙ ap (λ (n : ℕ). n ∷ floors_after n rest) from

pub gathers_left : (last : ℕ) (rest : List Call) (call : Call) → slice_get rest 0 ≡ Some call → call.from ≢ last
    → events_text (map Gather (floors_after last rest)) ≡ events_text (Gather call.from ∷ []) ++ events_text (map Gather (floors_after call.from (drop 1 rest)))
gathers_left last rest call e f =
    ap (λ (l : List ℕ). events_text (map Gather l)) (floor_other last rest call e f) ∙ one_more (Gather call.from) (map Gather (floors_after call.from (drop 1 rest)))

-- the same, as a loop has them after `take_first`
pub presses_on : (rest others : List Call) (call : Call) → Some call ≡ slice_get rest 0 → others ≡ drop 1 rest → events_text (map Press rest) ≡ events_text (Press call ∷ []) ++ events_text (map Press others)
presses_on rest others call e f = presses_left rest call (sym e) ∙ ap (λ (l : List Call). events_text (Press call ∷ []) ++ events_text (map Press l)) (sym f)

pub gathers_on : (last : ℕ) (rest others : List Call) (call : Call) → Some call ≡ slice_get rest 0 → others ≡ drop 1 rest → call.from ≢ last
    → events_text (map Gather (floors_after last rest)) ≡ events_text (Gather call.from ∷ []) ++ events_text (map Gather (floors_after call.from others))
gathers_on last rest others call e f n =
    gathers_left last rest call (sym e) n ∙ ap (λ (l : List Call). events_text (Gather call.from ∷ []) ++ events_text (map Gather (floors_after call.from l))) (sym f)

-- the last part of a writing that is under way
pub puts_last : {X E : Type 0} (r : Result X E) (a b c : Option (List ℕ)) (at_first failed fails : Bool) (first w v left whole : List ℕ) → Running a b first w left whole → failed ≡ at_first → Puts r b c failed fails w v left
    → Puts r a c at_first fails first v whole
puts_last (Ok x) a b c at_first failed fails first w v left whole r h p =
    (running_end a c first v [] whole (running_more a b c first w v left left [] whole r (sym (append-nil left)) p.0) refl, p.1 ∙ h)
puts_last (Err e) a b c at_first failed fails first w v left whole r h p = (running_front a b c first w left left [] whole r (sym (append-nil left)) p.0, p.1)

-- floors one by one
pub floors_same : (last : ℕ) (rest others : List Call) (call : Call) → Some call ≡ slice_get rest 0 → others ≡ drop 1 rest → call.from ≡ last → length (floors_after last rest) ≡ length (floors_after call.from others)
floors_same last rest others call e f n = ap length (floor_same last rest call (sym e) n ∙ ap (floors_after call.from) (sym f))

pub floors_other : (last : ℕ) (rest others : List Call) (call : Call) → Some call ≡ slice_get rest 0 → others ≡ drop 1 rest → call.from ≢ last → length (floors_after last rest) ≡ suc (length (floors_after call.from others))
floors_other last rest others call e f n = ap length (floor_other last rest call (sym e) n ∙ ap (λ (l : List Call). call.from ∷ floors_after call.from l) (sym f))

pub one_less : (rest others : List Call) (call : Call) → Some call ≡ slice_get rest 0 → others ≡ drop 1 rest → length rest ≡ suc (length others)
one_less [] others call e f = absurd (cc)
one_less (next ∷ rest) others call e f = ap suc (ap length (sym f))

-- Entries one by one.
entry_here : (entries : List Entry) (i : ℕ) (entry : Entry) → i < length entries → entry ≡ get_or entries i entry → drop i entries ≡ entry ∷ drop (suc i) entries
entry_here [] i entry l e = absurd (omega arith)
entry_here (x ∷ entries) zero entry l e = ap (λ (y : Entry). y ∷ entries) (sym e)
entry_here (x ∷ entries) (suc i) entry l e = entry_here entries i entry (omega arith) e

pub entries_on : (entries : List Entry) (i : ℕ) (entry : Entry) → i < length entries → entry ≡ get_or entries i entry → traced (drop i entries) ≡ traced_entry entry ++ traced (drop (i + 1) entries)
entries_on entries i entry l e =
    let next : suc i ≡ i + 1 = omega arith in
    ap traced (entry_here entries i entry l e) ∙ ap (λ (n : ℕ). traced_entry entry ++ traced (drop n entries)) next

pub entries_left : (entries : List Entry) (i : ℕ) (entry : Entry) → i < length entries → entry ≡ get_or entries i entry → events_text (traced (drop i entries)) ≡ events_text (traced_entry entry) ++ events_text (traced (drop (i + 1) entries))
entries_left entries i entry l e = ap events_text (entries_on entries i entry l e) ∙ events_append (traced_entry entry) (traced (drop (i + 1) entries))

pub lines_on : (entries : List Entry) (i : ℕ) (entry : Entry) → i < length entries → entry ≡ get_or entries i entry → length (traced (drop i entries)) ≡ length (traced_entry entry) + length (traced (drop (i + 1) entries))
lines_on entries i entry l e = ap length (entries_on entries i entry l e) ∙ length-append (traced_entry entry) (traced (drop (i + 1) entries))

-- The whole text.
pub wrote_err : {X E : Type 0} (r : Result X E) (old new : Option (List ℕ)) (failed fails : Bool) (bytes : List ℕ) → IsErr r → AppendsFront old new bytes → fails ≡ true → Wrote r old new failed fails bytes
wrote_err (Ok x) old new failed fails bytes h f t = absurd (search (rules, h))
wrote_err (Err e) old new failed fails bytes h f t = (f, t)

pub all_put : {X E : Type 0} (r : Result X E) (a c d : Option (List ℕ)) (was failed fails : Bool) (w whole : List ℕ) → IsWritten a c w whole → failed ≡ was → OnOk r (Appends c d w) → OnOk r (fails ≡ failed)
    → OnErr r (fails ≡ true) → OnErr r (AppendsFront c d w) → Wrote r a d was fails whole
all_put (Ok x) a c d was failed fails w whole h k ok on err front = (subst (Appends a d) h.2 (Appends-trans a c d h.0 w h.1 ok), on ∙ k)
all_put (Err e) a c d was failed fails w whole h k ok on err front =
    (subst (AppendsFront a d) (append-nil whole) (front_then a c d w whole [] h (front_of c d w [] front)), err)

-- the text is the first line, the lines of the events and the last one
pub whole_is : (entries : List Entry) (first : List ℕ) (count : ℕ) → first ≡ first_line Two ++ 10 ∷ [] → count ≡ length (traced entries) → (first ++ events_text (traced entries)) ++ (last_line count ++ 10 ∷ []) ≡ text_of_entries entries
whole_is entries first count e n =
    let lines : text_of_lines (map (line_of Two) (traced entries) ++ last_line count ∷ []) ≡ events_text (traced entries) ++ (last_line count ++ 10 ∷ []) =
    text_append (map (line_of Two) (traced entries)) (last_line count ∷ []) ∙ ap (λ (l : List ℕ). events_text (traced entries) ++ l) (append-nil (last_line count ++ 10 ∷ [])) in
    let counted : text_of_lines (map (line_of Two) (traced entries) ++ last_line count ∷ []) ≡ text_of_lines (map (line_of Two) (traced entries) ++ last_line (length (traced entries)) ∷ []) =
    ap (λ (k : ℕ). text_of_lines (map (line_of Two) (traced entries) ++ last_line k ∷ [])) n in
    append_assoc first (events_text (traced entries)) (last_line count ++ 10 ∷ []) ∙ (ap (λ (l : List ℕ). l ++ (events_text (traced entries) ++ (last_line count ++ 10 ∷ []))) e
    ∙ ap (λ (l : List ℕ). (first_line Two ++ 10 ∷ []) ++ l) (sym lines ∙ counted))
