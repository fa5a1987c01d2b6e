-- Texts by their lines, and lines without a byte.
use Rattle.std.proofs.Common.{◌≡◌, ℕ, suc, ◌^◌, ◌<◌, ◌≤◌, Bool, true, false, List, [], ◌∷◌, ◌++◌, refl, sym, ◌∙◌, append_assoc, arith, ℤ, pos, negsuc}
use Rattle.std.specs.Prelude.{codes, ◌==◌, if◌then◌else◌, FitsSigned}
use Rattle.std.specs.Fmt.{signed_decimal}
use Rattle.std.specs.Int.{w64}
use Rattle.std.proofs.lemmas.Int.{ints}
use borrow.Author.Tests.{eq-eqb}
use Rattle.il_semantics.specs.declared.value.Value.{Value}
use Rattle.il_semantics.specs.declared.value.Value.TheVariants.{Boolean, Integer}
use Rattle.group_spec.specs.declared.calls.Slot.{Slot}
use Rattle.group_spec.specs.declared.calls.Slot.TheVariants.{Free, Waiting, Told}
use Rattle.group_spec.specs.declared.image.CarFields.{CarFields}
use Rattle.group_spec.specs.declared.image.CarOutputs.{CarOutputs}
use Rattle.group_spec.specs.declared.image.Motor.{Motor}
use Rattle.group_spec.specs.declared.image.Motor.TheVariants.{Up, Down, Still}
use Rattle.trace_text.specs.Reading.{Without, IsOneLine}
use Rattle.trace_text.specs.Text.{part, flags, car_part, text_of_lines}
use Rattle.trace_text.proofs.Bytes.{each_append, same_first, same_rest}
use Rattle.trace_text.proofs.Numbers.{decimal_without, flags_without, flag_not}
use Rattle.group_state.specs.Text.{hex_digit, hex_text, configuration_line, truth_text, number_line, fire_line, motor_text, outputs_part, car_line, slot_part, slot_line, value_text, variable_line}
use Rattle.group_state.specs.Lines.{IsNext, Takes}
use Rattle.group_state.specs.Saying.{HasSmallNumbers}
use Rattle.group_state.specs.Variables.{IsNarrow}
use Rattle.group_state.proofs.Words.{cancel}

-- TEXTS BY LINES

-- lines, and then a rest
abbrev pub lined : List (List ℕ) → List ℕ → List ℕ
lined lines rest = text_of_lines lines ++ rest

pub lined_first : (line : List ℕ) (lines : List (List ℕ)) (rest : List ℕ) → lined (line ∷ lines) rest ≡ line ++ (10 ∷ lined lines rest)
lined_first line lines rest = append_assoc (line ++ 10 ∷ []) (text_of_lines lines) rest ∙ append_assoc line (10 ∷ []) (lined lines rest)

pub first_next : (line : List ℕ) (lines : List (List ℕ)) (rest : List ℕ) → IsOneLine line → IsNext (lined (line ∷ lines) rest) line (lined lines rest)
first_next line lines rest one = record { whole = lined_first line lines rest; one = one }

-- the first line is taken if it says what it has to
pub takes_first :
    (X : Type 0) (Says : X → List ℕ → Type 0) (Holds : X → Type 0) (said : X) (line : List ℕ) (lines : List (List ℕ)) (rest : List ℕ) → IsOneLine line → Says said line → Holds said
    → Takes X Says Holds (lined (line ∷ lines) rest) said (lined lines rest)
takes_first X Says Holds said line lines rest one says holds = record { line = line; next = first_next line lines rest one; says = says; holds = holds }

-- WITHOUT A BYTE

abbrev pub has_none : ℕ → List ℕ → Bool
has_none stop [] = true
has_none stop (x ∷ xs) = if x == stop then false else has_none stop xs

no_true : false ≡ true → ⊥
no_true e = cc

-- by a test
pub without_by : (stop : ℕ) (xs : List ℕ) → has_none stop xs ≡ true → Without stop xs
without_by stop [] e = tt
without_by stop (x ∷ xs) e = by (x == stop) refl e (without_by stop xs)
  where
    by : (b : Bool) → (x == stop) ≡ b → (if b then false else has_none stop xs) ≡ true → (has_none stop xs ≡ true → Without stop xs) → (x ≡ stop → ⊥) × Without stop xs
    by true is e more = absurd (no_true e)
    by false is e more = (λ same. no_true (sym is ∙ eq-eqb x stop same), more e)

pub both_without : (stop : ℕ) (xs ys : List ℕ) → Without stop xs → Without stop ys → Without stop (xs ++ ys)
both_without stop xs ys h k = each_append (λ byte. byte ≡ stop → ⊥) xs ys h k

pub part_line : (n : ℕ) → n < 2 ^ 64 → IsOneLine (part n)
part_line n h = (λ e. omega (arith, e), decimal_without 10 n h (omega arith))

-- EACH KIND OF LINE

digit_line : (n : ℕ) → hex_digit n ≡ 10 → ⊥
digit_line n e = grind (arith, e)

hex_line : (bytes : List ℕ) → IsOneLine (hex_text bytes)
hex_line [] = tt
hex_line (b ∷ bytes) = (digit_line _, (digit_line _, hex_line bytes))

pub configuration_one : (bytes : List ℕ) → IsOneLine (configuration_line (hex_text bytes))
unfolding configuration_line
configuration_one bytes = both_without 10 (codes "CONFIGURATION ") (hex_text bytes) (without_by 10 (codes "CONFIGURATION ") refl) (hex_line bytes)

pub number_one : (word : List ℕ) (n : ℕ) → IsOneLine word → n < 2 ^ 64 → IsOneLine (number_line word n)
number_one word n one h = both_without 10 word (part n) one (part_line n h)

truth_one : (b : Bool) → IsOneLine (truth_text b)
truth_one true = without_by 10 (codes "TRUE") refl
truth_one false = without_by 10 (codes "FALSE") refl

pub fire_one : (b : Bool) → IsOneLine (fire_line b)
fire_one b = both_without 10 (codes "FIRE ") (truth_text b) (without_by 10 (codes "FIRE ") refl) (truth_one b)

motor_one : (m : Motor) → IsOneLine (motor_text m)
motor_one Up = without_by 10 (codes "1") refl
motor_one Still = without_by 10 (codes "0") refl
motor_one Down = without_by 10 (codes "-1") refl

car_part_one : (car : CarFields) → car.pos ≤ 255 → IsOneLine (car_part car)
unfolding car_part
car_part_one car h = both_without 10 (part car.pos) (32 ∷ flags car) (part_line car.pos (omega (arith, h))) (λ e. omega (arith, e), flags_without car 10 (omega arith))

outputs_one : (o : CarOutputs) → IsOneLine (outputs_part o)
unfolding outputs_part
outputs_one o = (λ e. omega (arith, e), both_without 10 (motor_text o.motor) _ (motor_one o.motor) (λ e. omega (arith, e), (flag_not o.opens 10 (omega arith), tt)))

pub car_one : (number : ℕ) (car : CarFields) (o : CarOutputs) → number < 2 ^ 64 → car.pos ≤ 255 → IsOneLine (car_line number car o)
unfolding car_line
car_one number car o h k =
    both_without 10 (codes "CAR") (part number ++ (car_part car ++ outputs_part o)) (without_by 10 (codes "CAR") refl)
    (both_without 10 (part number) (car_part car ++ outputs_part o) (part_line number h) (both_without 10 (car_part car) (outputs_part o) (car_part_one car k) (outputs_one o)))

slot_part_one : (slot : Slot) → HasSmallNumbers slot → IsOneLine (slot_part slot)
unfolding slot_part
slot_part_one Free h = without_by 10 (codes " FREE") refl
slot_part_one (Waiting ticket call) h =
    let call_is : IsOneLine (part call.from ++ part call.to) = both_without 10 (part call.from) (part call.to) (part_line call.from (omega (arith, h.1.0))) (part_line call.to (omega (arith, h.1.1))) in
    both_without 10 (codes " WAITING") (part ticket ++ (part call.from ++ part call.to)) (without_by 10 (codes " WAITING") refl)
    (both_without 10 (part ticket) (part call.from ++ part call.to) (part_line ticket (omega (arith, h.0))) call_is)
slot_part_one (Told ticket call car) h =
    let car_is : IsOneLine (part call.to ++ part car) = both_without 10 (part call.to) (part car) (part_line call.to (omega (arith, h.1.1))) (part_line car (omega (arith, h.2))) in
    let call_is : IsOneLine (part call.from ++ (part call.to ++ part car)) = both_without 10 (part call.from) (part call.to ++ part car) (part_line call.from (omega (arith, h.1.0))) car_is in
    both_without 10 (codes " TOLD") (part ticket ++ (part call.from ++ (part call.to ++ part car))) (without_by 10 (codes " TOLD") refl)
    (both_without 10 (part ticket) (part call.from ++ (part call.to ++ part car)) (part_line ticket (omega (arith, h.0))) call_is)

pub slot_one : (number : ℕ) (slot : Slot) → number < 2 ^ 64 → HasSmallNumbers slot → IsOneLine (slot_line number slot)
unfolding slot_line
slot_one number slot h k = both_without 10 (codes "SLOT") (part number ++ slot_part slot) (without_by 10 (codes "SLOT") refl) (both_without 10 (part number) (slot_part slot) (part_line number h) (slot_part_one slot k))

-- WORDS OF VALUES

signed_pos : (n : ℕ) → FitsSigned w64 (pos n) → n < 2 ^ 64
signed_pos n h = omega (arith, ints, h)

signed_neg : (n : ℕ) → FitsSigned w64 (negsuc n) → suc n < 2 ^ 64
signed_neg n h = omega (arith, ints, h)

-- a byte that is neither a digit nor a sign is in no number
pub signed_without : (stop : ℕ) → stop < 48 → (45 ≡ stop → ⊥) → (z : ℤ) → FitsSigned w64 z → Without stop (signed_decimal z)
signed_without stop h minus (pos n) k = decimal_without stop n (signed_pos n k) h
signed_without stop h minus (negsuc n) k = (minus, decimal_without stop (suc n) (signed_neg n k) h)

-- a space and a line feed are in no value
pub value_without : (stop : ℕ) → stop < 45 → (v : Value) → IsNarrow v → Without stop (value_text v)
value_without stop h (Boolean true) k = (λ e. omega (arith, h, e), (λ e. omega (arith, h, e), (λ e. omega (arith, h, e), (λ e. omega (arith, h, e), tt))))
value_without stop h (Boolean false) k = (λ e. omega (arith, h, e), (λ e. omega (arith, h, e), (λ e. omega (arith, h, e), (λ e. omega (arith, h, e), (λ e. omega (arith, h, e), tt)))))
value_without stop h (Integer z) k = signed_without stop (omega (arith, h)) (λ e. omega (arith, h, e)) z k

pub variable_one : (path word : List ℕ) → IsOneLine path → IsOneLine word → IsOneLine (variable_line path word)
unfolding variable_line
variable_one path word h k = both_without 10 (codes "VAR ") (path ++ (32 ∷ word)) (without_by 10 (codes "VAR ") refl) (both_without 10 path (32 ∷ word) h (λ e. omega (arith, e), k))

-- TWO VARIABLES

-- a byte that a text is without is nowhere in it
pub no_byte : (stop : ℕ) (xs ys zs : List ℕ) → Without stop xs → xs ≡ ys ++ (stop ∷ zs) → ⊥
no_byte stop [] [] zs h e = absurd (cc)
no_byte stop [] (y ∷ ys) zs h e = absurd (cc)
no_byte stop (x ∷ xs) [] zs h e = h.0 (same_first x stop xs zs e)
no_byte stop (x ∷ xs) (y ∷ ys) zs h e = no_byte stop xs ys zs h.1 (same_rest x y xs (ys ++ (stop ∷ zs)) e)

-- a text is split at its last space in one way
split_last : (p q a b : List ℕ) → Without 32 a → Without 32 b → p ++ (32 ∷ a) ≡ q ++ (32 ∷ b) → p ≡ q
split_last [] [] a b h k e = refl
split_last [] (y ∷ q) a b h k e = absurd (no_byte 32 a q b h (same_rest 32 y a (q ++ (32 ∷ b)) e))
split_last (x ∷ p) [] a b h k e = absurd (no_byte 32 b p a k (same_rest 32 x b (p ++ (32 ∷ a)) (sym e)))
split_last (x ∷ p) (y ∷ q) a b h k e =
    let rest : p ≡ q = split_last p q a b h k (same_rest x y (p ++ (32 ∷ a)) (q ++ (32 ∷ b)) e) in
    let first : x ≡ y = same_first x y (p ++ (32 ∷ a)) (q ++ (32 ∷ b)) e in
    cc

-- a line is one of one variable
pub one_variable : (p q word other : List ℕ) → Without 32 word → Without 32 other → variable_line p word ≡ variable_line q other → p ≡ q
unfolding variable_line
one_variable p q word other h k e = split_last p q word other h k (cancel (codes "VAR ") (p ++ (32 ∷ word)) (q ++ (32 ∷ other)) e)
