-- Events that stay in their text: the first line that is left says the next one.
use Rattle.std.proofs.Common.{◌≡◌, ◌≢◌, ℕ, zero, suc, ◌+◌, ◌<◌, ◌≤◌, List, [], ◌∷◌, ◌++◌, length, map, take, drop, Some, None, refl, sym, ap, subst, ◌∙◌, append_assoc, slice_get, arith}
use Rattle.group_spec.specs.declared.trace.TraceEvent.{TraceEvent}
use Rattle.trace_text.specs.declared.format.Format.{Format}
use Rattle.trace_text.specs.Reading.{IsOneLine, greatest_trace}
use Rattle.trace_text.specs.Text.{line_of, text_of_lines, IsTraced, AreTraced}
use Rattle.trace_text.specs.Told.{event_lines, BeginsWith, IsTextOf, IsLeftOf}
use Rattle.trace_text.proofs.Bytes.{split_once, same_rest}
use Rattle.trace_text.proofs.Lines.{line_once}
use Rattle.trace_text.proofs.Texts.{line_one, no_feed}

-- the first line of a text in one way
pub line_is : (format : Format) (cars : ℕ) (text line behind rest : List ℕ) (e : TraceEvent) → IsOneLine line → text ≡ line ++ (10 ∷ behind) → IsTraced format cars e → text ≡ line_of format e ++ (10 ∷ rest)
    → (line ≡ line_of format e) × (behind ≡ rest)
line_is format cars text line behind rest e one a h b =
    let both = split_once 10 line (line_of format e) (10 ∷ behind) (10 ∷ rest) one (line_one format cars e h) refl refl (sym a ∙ b) in
    (both.0, same_rest _ _ _ _ both.1)

-- and its event
pub event_is : (format : Format) (cars : ℕ) (text behind rest : List ℕ) (e f : TraceEvent) → IsTraced format cars e → text ≡ line_of format e ++ (10 ∷ behind) → IsTraced format cars f → text ≡ line_of format f ++ (10 ∷ rest)
    → (e ≡ f) × (behind ≡ rest)
event_is format cars text behind rest e f h a k b =
    let both = line_is format cars text (line_of format e) behind rest f (line_one format cars e h) a k b in (line_once format cars e f h k both.0, both.1)

-- a text that begins with an event has a line feed
pub has_line : (format : Format) (text behind : List ℕ) (e : TraceEvent) → IsOneLine text → text ≡ line_of format e ++ (10 ∷ behind) → ⊥
has_line format text behind e one a = no_feed text (line_of format e) behind one a

-- what is left of a list begins with the item at the place
pub drop_next : {X : Type 0} (xs : List X) (i : ℕ) → i < length xs → (x : X) × (slice_get xs i ≡ Some x) × (drop i xs ≡ x ∷ drop (suc i) xs)
drop_next [] i low = absurd (omega arith)
drop_next (x ∷ xs) zero low = (x, refl, refl)
drop_next (x ∷ xs) (suc i) low = drop_next xs i (omega arith)

-- the lines of a first event and of others
lines_of_more : (format : Format) (e : TraceEvent) (events : List TraceEvent) (behind : List ℕ) → event_lines format (e ∷ events) ++ behind ≡ line_of format e ++ (10 ∷ (event_lines format events ++ behind))
lines_of_more format e events behind =
    append_assoc (line_of format e ++ 10 ∷ []) (event_lines format events) behind ∙ append_assoc (line_of format e) (10 ∷ []) (event_lines format events ++ behind)

-- the next event of those that are left
pub record IsNext (format : Format) (cars : ℕ) (text : List ℕ) (count index : ℕ) (events : List TraceEvent) (e : TraceEvent) (behind : List ℕ) : Type 0 where
  pub traced : IsTraced format cars e
  pub line : text ≡ line_of format e ++ (10 ∷ behind)
  pub there : slice_get events index ≡ Some e
  pub left : IsLeftOf format cars behind count (index + 1) events

pub next_event : (format : Format) (cars : ℕ) (text : List ℕ) (count index : ℕ) (events : List TraceEvent) → IsLeftOf format cars text count index events → index ≢ count
    → (e : TraceEvent) × (behind : List ℕ) × IsNext format cars text count index events e behind
next_event format cars text count index events l more =
    let low : index < length events = omega (arith, l.counted, l.within, more) in
    let next = drop_next events index low in
    let e = next.0 in
    let one : suc index ≡ index + 1 = omega arith in
    let others = drop (index + 1) events in
    let split : drop index events ≡ e ∷ others = next.2 ∙ ap (λ n. e ∷ drop n events) one in
    let traced : AreTraced format cars (e ∷ others) = subst (AreTraced format cars) split l.begins.traced in
    let behind = event_lines format others ++ l.begins.behind in (
      e,
      behind,
      record {
        traced = traced.0;
        line = l.begins.whole ∙ ap (λ (es : List TraceEvent). event_lines format es ++ l.begins.behind) split ∙ lines_of_more format e others l.begins.behind;
        there = next.1;
        left = record {
          begins = record { traced = traced.1; behind = l.begins.behind; whole = refl };
          counted = l.counted;
          within = omega (arith, l.within, more);
          few = l.few;
        };
      },
    )

-- all of them are left at first
pub all_left : (format : Format) (cars : ℕ) (text : List ℕ) (count : ℕ) (events : List TraceEvent) → IsTextOf format cars text count events → IsLeftOf format cars text count 0 events
all_left format cars text count events t = record { begins = t.begins; counted = t.counted; within = omega arith; few = t.few }

-- one item more was taken
pub take_next : {X : Type 0} (xs : List X) (i : ℕ) (x : X) → slice_get xs i ≡ Some x → take (i + 1) xs ≡ take i xs ++ x ∷ []
take_next [] i x at = let no : None ≡ Some x = at in cc
take_next (y ∷ xs) zero x at = let same : y ≡ x = cc in ap (λ z. z ∷ []) same
take_next (y ∷ xs) (suc i) x at = let next : suc i + 1 ≡ suc (i + 1) = omega arith in ap (λ n. take n (y ∷ xs)) next ∙ ap (λ l. y ∷ l) (take_next xs i x at)

-- a place where an item is lies within the list
pub within_list : {X : Type 0} (xs : List X) (i : ℕ) (x : X) → slice_get xs i ≡ Some x → i < length xs
within_list [] i x at = let no : None ≡ Some x = at in absurd (cc)
within_list (y ∷ xs) zero x at = omega arith
within_list (y ∷ xs) (suc i) x at = omega (arith, within_list xs i x at)

-- THE CURSOR IN A LOOP

-- the cursor over these events is at this index
pub record IsAt (events : List TraceEvent) (index : ℕ) (left : List TraceEvent × ℕ) : Type 0 where
  pub all : left.0 ≡ events
  pub at : left.1 ≡ index

-- at first
pub at_first : (events : List TraceEvent) (left : List TraceEvent × ℕ) → left ≡ (events, 0) → IsAt events 0 left
at_first events left is = record { all = ap (λ (v : List TraceEvent × ℕ). v.0) is; at = ap (λ (v : List TraceEvent × ℕ). v.1) is }

-- after an event
pub at_next : (events : List TraceEvent) (index : ℕ) (left next : List TraceEvent × ℕ) → IsAt events index left → next.0 ≡ left.0 → next.1 ≡ left.1 + 1 → IsAt events (index + 1) next
at_next events index left next a all moves = record { all = all ∙ a.all; at = omega (arith, moves, a.at) }

-- the event that comes
pub event_at : (events : List TraceEvent) (index : ℕ) (left : List TraceEvent × ℕ) (e : TraceEvent) → IsAt events index left → slice_get left.0 left.1 ≡ Some e → slice_get events index ≡ Some e
event_at events index left e a there = subst (λ (n : ℕ). slice_get events n ≡ Some e) a.at (subst (λ (es : List TraceEvent). slice_get es left.1 ≡ Some e) a.all there)

-- the place of the event that comes
pub index_below : (events : List TraceEvent) (index : ℕ) (left : List TraceEvent × ℕ) (e : TraceEvent) → IsAt events index left → slice_get left.0 left.1 ≡ Some e → index < length events
index_below events index left e a there = within_list events index e (event_at events index left e a there)

-- at the end
pub at_end : (events : List TraceEvent) (index : ℕ) (left : List TraceEvent × ℕ) → IsAt events index left → left.1 ≡ length left.0 → index ≡ length events
at_end events index left a end = omega (arith, a.at, end, ap (λ (es : List TraceEvent). length es) a.all)

-- THE FIRST OF A LIST

pub get_front : {X : Type 0} (xs : List X) (n i : ℕ) (x : X) → i < n → slice_get xs i ≡ Some x → slice_get (take n xs) i ≡ Some x
get_front xs zero i x low at = absurd (omega arith)
get_front [] (suc n) i x low at = at
get_front (y ∷ xs) (suc n) zero x low at = at
get_front (y ∷ xs) (suc n) (suc i) x low at = get_front xs n i x (omega arith) at

pub front_few : {X : Type 0} (n : ℕ) (xs : List X) → length (take n xs) ≤ n
front_few zero xs = omega arith
front_few (suc n) [] = omega arith
front_few (suc n) (x ∷ xs) = omega (arith, front_few n xs)

pub front_within : {X : Type 0} (n : ℕ) (xs : List X) → length (take n xs) ≤ length xs
front_within zero xs = omega arith
front_within (suc n) [] = omega arith
front_within (suc n) (x ∷ xs) = omega (arith, front_within n xs)

-- WHAT IS LEFT OF A LIST

pub left_after : {X : Type 0} (xs : List X) (i : ℕ) (x : X) → slice_get xs i ≡ Some x → drop i xs ≡ x ∷ drop (i + 1) xs
left_after [] i x at = let no : None ≡ Some x = at in absurd (cc)
left_after (y ∷ xs) zero x at = let same : y ≡ x = cc in ap (λ z. z ∷ xs) same
left_after (y ∷ xs) (suc i) x at = let next : suc i + 1 ≡ suc (i + 1) = omega arith in left_after xs i x at ∙ ap (λ n. x ∷ drop n (y ∷ xs)) (sym next)
