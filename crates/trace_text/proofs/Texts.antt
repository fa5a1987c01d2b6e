-- Texts and their lines.
use Rattle.std.proofs.Common.{◌≡◌, ◌≢◌, ℕ, ◌^◌, ◌<◌, Bool, true, false, append_assoc, append-nil, List, [], ◌∷◌, ◌++◌, refl, sym, ap, ◌∙◌, arith}
use borrow.Author.Tests.{eq-eqb, eqb-true}
use Rattle.std.specs.Prelude.{◌==◌, ◌&&◌, not, flat_map, map}
use Rattle.std.specs.List.{AllByRecursion}
use Rattle.group_spec.specs.declared.image.CarFields.{CarFields}
use Rattle.group_spec.specs.declared.trace.TraceEvent.{TraceEvent}
use Rattle.group_spec.specs.declared.trace.TraceEvent.TheVariants.{Start, Commit, Press, Gather, Refresh}
use Rattle.trace_text.specs.declared.format.Format.{Format}
use Rattle.trace_text.specs.declared.format.Format.TheVariants.{One, Two}
use Rattle.trace_text.specs.Reading.{Without, IsOneLine, Splits}
use Rattle.trace_text.specs.Text.{part, flags, car_part, fire_part, line_of, first_line, last_line, text_of_lines, HasPosition, IsTraced, AreTraced}
use Rattle.trace_text.proofs.Bytes.{each_append, split_once, same_rest, same_first}
use Rattle.trace_text.proofs.Numbers.{decimal_without, flag_not, flags_without}

-- a line feed is in no line
pub no_feed : (p m r : List ℕ) → IsOneLine p → p ≡ m ++ (10 ∷ r) → ⊥
no_feed [] [] r h e = absurd (cc)
no_feed (x ∷ p) [] r h e = h.0 (same_first x 10 p r e)
no_feed [] (y ∷ m) r h e = absurd (cc)
no_feed (x ∷ p) (y ∷ m) r h e = no_feed p m r h.1 (same_rest x y p (m ++ (10 ∷ r)) e)

line_then : (line rest : List ℕ) → (line ++ 10 ∷ []) ++ rest ≡ line ++ (10 ∷ rest)
line_then line rest = append_assoc line (10 ∷ []) rest

pub text_append : (xs ys : List (List ℕ)) → text_of_lines (xs ++ ys) ≡ text_of_lines xs ++ text_of_lines ys
text_append [] ys = refl
text_append (x ∷ xs) ys = ap (λ (t : List ℕ). (x ++ 10 ∷ []) ++ t) (text_append xs ys) ∙ sym (append_assoc (x ++ 10 ∷ []) (text_of_lines xs) (text_of_lines ys))

-- one more line
pub text_more : (lines : List (List ℕ)) (line rest : List ℕ) → text_of_lines lines ++ (line ++ (10 ∷ rest)) ≡ text_of_lines (lines ++ line ∷ []) ++ rest
text_more lines line rest =
    let one : text_of_lines (line ∷ []) ≡ line ++ 10 ∷ [] = append-nil (line ++ 10 ∷ []) in
    let whole : text_of_lines (lines ++ line ∷ []) ≡ text_of_lines lines ++ (line ++ 10 ∷ []) = text_append lines (line ∷ []) ∙ ap (λ (t : List ℕ). text_of_lines lines ++ t) one in
    sym (ap (λ (t : List ℕ). t ++ rest) whole ∙ (append_assoc (text_of_lines lines) (line ++ 10 ∷ []) rest ∙ ap (λ (t : List ℕ). text_of_lines lines ++ t) (line_then line rest)))

-- Each text is split into its lines.
abbrev Split : List ℕ → Type 0
Split text = (lines : List (List ℕ)) × (piece : List ℕ) × Splits text lines piece

put_byte : (byte : ℕ) (text : List ℕ) (lines : List (List ℕ)) (piece : List ℕ) → byte ≢ 10 → Splits text lines piece → Split (byte ∷ text)
put_byte byte text [] piece n s = ([], byte ∷ piece, record { whole = ap (λ (t : List ℕ). byte ∷ t) s.whole; each_line = tt; last_piece = (n, s.last_piece) })
put_byte byte text (line ∷ lines) piece n s =
    ((byte ∷ line) ∷ lines, piece, record { whole = ap (λ (t : List ℕ). byte ∷ t) s.whole; each_line = ((n, s.each_line.0), s.each_line.1); last_piece = s.last_piece })

put_feed : (byte : ℕ) (text : List ℕ) (lines : List (List ℕ)) (piece : List ℕ) → byte ≡ 10 → Splits text lines piece → Split (byte ∷ text)
put_feed byte text lines piece n s =
    let whole : byte ∷ text ≡ text_of_lines ([] ∷ lines) ++ piece = ap (λ (b : ℕ). b ∷ text) n ∙ ap (λ (t : List ℕ). 10 ∷ t) s.whole in
    ([] ∷ lines, piece, record { whole = whole; each_line = (tt, s.each_line); last_piece = s.last_piece })

put : (byte : ℕ) (text : List ℕ) (test : Bool) → (byte == 10) ≡ test → Split text → Split (byte ∷ text)
put byte text true e s = put_feed byte text s.0 s.1 (eqb-true byte 10 e) s.2
put byte text false e s = put_byte byte text s.0 s.1 (λ is. let f : (byte == 10) ≡ true = eq-eqb byte 10 is in absurd (cc)) s.2

pub split : (text : List ℕ) → Split text
split [] = ([], [], record { whole = refl; each_line = tt; last_piece = tt })
split (byte ∷ text) = put byte text (byte == 10) refl (split text)

-- and in one way
split_same : (xs ys : List (List ℕ)) (p q : List ℕ) → AllByRecursion IsOneLine xs → AllByRecursion IsOneLine ys → IsOneLine p → IsOneLine q
    → text_of_lines xs ++ p ≡ text_of_lines ys ++ q → (xs ≡ ys) × (p ≡ q)
split_same [] [] p q h k f g e = (refl, e)
split_same [] (y ∷ ys) p q h k f g e = absurd (no_feed p y (text_of_lines ys ++ q) f (e ∙ (append_assoc (y ++ 10 ∷ []) (text_of_lines ys) q ∙ line_then y (text_of_lines ys ++ q))))
split_same (x ∷ xs) [] p q h k f g e = absurd (no_feed q x (text_of_lines xs ++ p) g (sym e ∙ (append_assoc (x ++ 10 ∷ []) (text_of_lines xs) p ∙ line_then x (text_of_lines xs ++ p))))
split_same (x ∷ xs) (y ∷ ys) p q h k f g e =
    let flat : x ++ (10 ∷ (text_of_lines xs ++ p)) ≡ y ++ (10 ∷ (text_of_lines ys ++ q)) =
    sym (append_assoc (x ++ 10 ∷ []) (text_of_lines xs) p ∙ line_then x (text_of_lines xs ++ p)) ∙ (e ∙ (append_assoc (y ++ 10 ∷ []) (text_of_lines ys) q ∙ line_then y (text_of_lines ys ++ q))) in
    let both = split_once 10 x y (10 ∷ (text_of_lines xs ++ p)) (10 ∷ (text_of_lines ys ++ q)) h.0 k.0 refl refl flat in
    let rest = split_same xs ys p q h.1 k.1 f g (same_rest _ _ _ _ both.1) in
    let first : x ≡ y = both.0 in
    let others : xs ≡ ys = rest.0 in
    (cc, rest.1)

pub splits_once : (text : List ℕ) (xs ys : List (List ℕ)) (p q : List ℕ) → Splits text xs p → Splits text ys q → (xs ≡ ys) × (p ≡ q)
splits_once text xs ys p q s t = split_same xs ys p q s.each_line t.each_line s.last_piece t.last_piece (sym s.whole ∙ t.whole)

-- lines, and then what a text after them is split into
pub splits_behind : (text rest : List ℕ) (before lines : List (List ℕ)) (piece : List ℕ) → AllByRecursion IsOneLine before → text ≡ text_of_lines before ++ rest → Splits rest lines piece
    → Splits text (before ++ lines) piece
splits_behind text rest before lines piece h e s =
    record {
      whole = e ∙ (ap (λ (t : List ℕ). text_of_lines before ++ t) s.whole ∙ (sym (append_assoc (text_of_lines before) (text_of_lines lines) piece) ∙ ap (λ (t : List ℕ). t ++ piece) (sym (text_append before lines))));
      each_line = each_append IsOneLine before lines h s.each_line;
      last_piece = s.last_piece;
    }

-- The lines of a trace have no line feed.
all_but : ℕ → List ℕ → Bool
all_but stop [] = true
all_but stop (byte ∷ bytes) = not (byte == stop) && all_but stop bytes

and_left : (a b : Bool) → (a && b) ≡ true → a ≡ true
and_left true b e = refl
and_left false b e = absurd (cc)

and_right : (a b : Bool) → (a && b) ≡ true → b ≡ true
and_right true b e = e
and_right false b e = absurd (cc)

without_by : (stop : ℕ) (bytes : List ℕ) → all_but stop bytes ≡ true → Without stop bytes
unfolding all_but
without_by stop [] e = tt
without_by stop (byte ∷ bytes) e = (
  λ is. let same : (byte == stop) ≡ true = eq-eqb byte stop is in let left : not (byte == stop) ≡ true = and_left (not (byte == stop)) (all_but stop bytes) e in absurd (let no : not true ≡ true = ap not (sym same) ∙ left in cc),
  without_by stop bytes (and_right (not (byte == stop)) (all_but stop bytes) e),
)

pub first_one : (format : Format) → IsOneLine (first_line format)
unfolding all_but
first_one One = without_by 10 (first_line One) refl
first_one Two = without_by 10 (first_line Two) refl

part_one : (n : ℕ) → n < 2 ^ 64 → IsOneLine (part n)
part_one n h = (λ e. omega (arith, e), decimal_without 10 n h (omega arith))

cars_one : (cars : List CarFields) → AllByRecursion HasPosition cars → IsOneLine (flat_map car_part cars)
unfolding car_part
cars_one [] h = tt
cars_one (car ∷ cars) h =
    each_append (λ byte. byte ≢ 10) (car_part car) (flat_map car_part cars)
    (each_append (λ byte. byte ≢ 10) (part car.pos) (32 ∷ flags car) (part_one car.pos (omega (arith, h.0))) (λ e. omega (arith, e), flags_without car 10 (omega arith))) (cars_one cars h.1)

fire_one : (format : Format) (fire : Bool) → IsOneLine (fire_part format fire)
fire_one One fire = tt
fire_one Two fire = (λ e. omega (arith, e), (flag_not fire 10 (omega arith), tt))

pub line_one : (format : Format) (cars : ℕ) (e : TraceEvent) → IsTraced format cars e → IsOneLine (line_of format e)
unfolding line_of
line_one format cars (Start t) h = (λ e. omega (arith, e), part_one t (omega arith))
line_one format cars (Commit t) h = (λ e. omega (arith, e), part_one t (omega arith))
line_one format cars (Press call) h = (λ e. omega (arith, e), each_append (λ byte. byte ≢ 10) (part call.from) (part call.to) (part_one call.from (omega (arith, h.0))) (part_one call.to (omega (arith, h.1))))
line_one format cars (Gather floor) h = (λ e. omega (arith, e), part_one floor (omega arith))
line_one format cars (Refresh fields) h = (
  λ e. omega (arith, e),
  each_append (λ byte. byte ≢ 10) (part fields.time) (part fields.run_limit ++ (fire_part format fields.fire ++ flat_map car_part fields.cars)) (part_one fields.time (omega (arith, h.time)))
      (each_append (λ byte. byte ≢ 10) (part fields.run_limit) (fire_part format fields.fire ++ flat_map car_part fields.cars) (part_one fields.run_limit (omega (arith, h.run_limit)))
      (each_append (λ byte. byte ≢ 10) (fire_part format fields.fire) (flat_map car_part fields.cars) (fire_one format fields.fire) (cars_one fields.cars h.positions))),
)

pub lines_one : (format : Format) (cars : ℕ) (events : List TraceEvent) → AreTraced format cars events → AllByRecursion IsOneLine (map (line_of format) events)
lines_one format cars [] h = tt
lines_one format cars (e ∷ events) h = (line_one format cars e h.0, lines_one format cars events h.1)

pub last_one : (count : ℕ) → count < 2 ^ 64 → IsOneLine (last_line count)
unfolding last_line
last_one count h = (λ e. omega (arith, e), part_one count h)
