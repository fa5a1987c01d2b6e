-- Numbers and their digits.
use Rattle.std.proofs.Common.{◌≡◌, ◌≢◌, ℕ, zero, suc, ◌+◌, ◌-◌, ◌*◌, ◌^◌, ◌<◌, ◌≤◌, Bool, true, false, append_assoc, List, [], ◌∷◌, ◌++◌, length, get_or, take, drop, refl, sym, ap, ◌∙◌, subst, rules, arith}
use Rattle.std.specs.Prelude.{decimal}
use Rattle.std.specs.Int.{IsInRange}
use Rattle.std.specs.Fmt.{digits}
use Rattle.std.proofs.lemmas.Str.Parse.{IsNumeralModel, numerals_by_fold}
use Rattle.std.proofs.lemmas.Fmt.{digits_decimal, digits_value-decimal, decimal_injective, decimal_nonempty, decimal_digit, first_decimal, decimal-digits_value}
use Rattle.trace_text.specs.Reading.{Without}
use Rattle.group_spec.specs.declared.image.CarFields.{CarFields}
use Rattle.trace_text.specs.Text.{part, flag, flags, car_part}
use Rattle.trace_text.specs.Parts.{Ends, AreDigits, number_from, HasNoLeadingZero}
use Rattle.trace_text.proofs.Bytes.{two_bytes, three_bytes, four_bytes, each, split_once, same_rest}

pub own : IsNumeralModel AreDigits (number_from 0)
own = numerals_by_fold _ (search rules) number_from (search rules)

-- a limit of all numbers here
pub small : (n : ℕ) → n ≤ 4294967295 → n < 2 ^ 64
small n h = omega arith

pub digits_of_decimal : (n : ℕ) → n < 2 ^ 64 → AreDigits (decimal n)
digits_of_decimal n h = digits_decimal own n h

pub value_of_decimal : (n : ℕ) → n < 2 ^ 64 → number_from 0 (decimal n) ≡ n
value_of_decimal n h = digits_value-decimal own n h

pub number_from-ge : (n : ℕ) (ds : List ℕ) → n ≤ number_from n ds
number_from-ge n [] = omega arith
number_from-ge n (d ∷ ds) = omega (arith, number_from-ge (10 * n + (d - 48)) ds)

pub decimal_without : (stop n : ℕ) → n < 2 ^ 64 → stop < 48 → Without stop (decimal n)
decimal_without stop n h k = each (IsInRange 48 57) (λ byte. byte ≢ stop) (λ byte r e. omega arith) (decimal n) (digits_of_decimal n h)

-- no decimal begins with a 0 before others
pub zero_first : (n : ℕ) (ds : List ℕ) → n < 2 ^ 64 → ds ≡ decimal n → HasNoLeadingZero ds
unfolding digits
zero_first zero [] h e = absurd (cc)
zero_first zero (d ∷ ds) h e = λ is. same_rest _ _ _ _ e
zero_first (suc n) [] h e = absurd (omega (arith, ap length e, decimal_nonempty (suc n) h))
zero_first (suc n) (d ∷ ds) h e = λ is. absurd (omega (arith, ap (λ l. get_or l 0 0) e, first_decimal (suc n) (omega arith) h))

pub decimal_leads : (n : ℕ) → n < 2 ^ 64 → HasNoLeadingZero (decimal n)
decimal_leads n h = zero_first n (decimal n) h refl

-- digits without a leading zero are the decimal of their number
pub spelled : (ds : List ℕ) → AreDigits ds → HasNoLeadingZero ds → number_from 0 ds < 2 ^ 64 → ds ≡ decimal (number_from 0 ds)
spelled [] d z h = absurd z
spelled (c ∷ cs) d z h = sym (decimal-digits_value own (c ∷ cs) d (omega arith) (λ is. ap (λ l. suc (length l)) (z is)) h)

-- the same, as a reader has it at their end
pub spelled_by : (ds rest : List ℕ) (n : ℕ) → rest ≡ [] → (AreDigits rest → AreDigits ds) → HasNoLeadingZero ds → number_from n rest ≡ number_from 0 ds → n < 2 ^ 64 → ds ≡ decimal n
spelled_by ds rest n e back z w h =
    let last : number_from n rest ≡ n = ap (number_from n) e in
    let value : number_from 0 ds ≡ n = sym w ∙ last in
    spelled ds (back (subst AreDigits (sym e) tt)) z (omega arith) ∙ ap decimal value

-- a part is read in one way
pub part_once : (n m : ℕ) (a b : List ℕ) → n < 2 ^ 64 → m < 2 ^ 64 → Ends 32 a → Ends 32 b → part n ++ a ≡ part m ++ b → (n ≡ m) × (a ≡ b)
part_once n m a b h k f g e =
    let both = split_once 32 (decimal n) (decimal m) a b (decimal_without 32 n h (omega arith)) (decimal_without 32 m k (omega arith)) f g (same_rest _ _ _ _ e) in
    (decimal_injective n m h k both.0, both.1)

-- the part of one digit
pub part_digit : (digit : ℕ) (rest : List ℕ) → 48 ≤ digit → digit < 58 → part (digit - 48) ++ rest ≡ 32 ∷ digit ∷ rest
part_digit digit rest h k =
    let same : 48 + (digit - 48) ≡ digit = omega arith in
    let one : decimal (digit - 48) ≡ digit ∷ [] = decimal_digit (digit - 48) (omega arith) ∙ ap (λ (d : ℕ). d ∷ []) same in
    ap (λ (ds : List ℕ). 32 ∷ (ds ++ rest)) one

-- a space and one digit
pub digit_text : (text : List ℕ) → 2 ≤ length text → get_or text 0 0 ≡ 32 → 48 ≤ get_or text 1 0 → get_or text 1 0 < 58
    → text ≡ part (get_or text 1 0 - 48) ++ take (length text - 2) (drop 2 text)
digit_text text h space low high =
    let rest = take (length text - 2) (drop 2 text) in
    two_bytes text h ∙ (ap (λ (s : ℕ). s ∷ get_or text 1 0 ∷ rest) space ∙ sym (part_digit (get_or text 1 0) rest low high))

-- a space and two digits
pub digits_text : (text : List ℕ) → 3 ≤ length text → get_or text 0 0 ≡ 32 → 49 ≤ get_or text 1 0 → get_or text 1 0 < 58 → 48 ≤ get_or text 2 0 → get_or text 2 0 < 58
    → text ≡ part (10 * (get_or text 1 0 - 48) + (get_or text 2 0 - 48)) ++ take (length text - 3) (drop 3 text)
digits_text text h space low high least most =
    let rest = take (length text - 3) (drop 3 text) in
    let ten = get_or text 1 0 in
    let one = get_or text 2 0 in
    let number : 10 * (10 * 0 + (ten - 48)) + (one - 48) ≡ 10 * (ten - 48) + (one - 48) = omega arith in
    let digits : ten ∷ one ∷ [] ≡ decimal (10 * (ten - 48) + (one - 48)) =
    spelled (ten ∷ one ∷ []) ((omega arith, omega arith), ((omega arith, omega arith), tt)) (λ is. absurd (omega (arith, is))) (omega arith) ∙ ap decimal number in
    three_bytes text h ∙ (ap (λ (s : ℕ). s ∷ ten ∷ one ∷ rest) space ∙ ap (λ (ds : List ℕ). 32 ∷ (ds ++ rest)) digits)

-- a letter, a part of one digit and a line feed
pub short_text : (text : List ℕ) (letter : ℕ) → 4 ≤ length text → get_or text 0 0 ≡ letter → get_or text 1 0 ≡ 32 → 48 ≤ get_or text 2 0 → get_or text 2 0 < 58 → get_or text 3 0 ≡ 10
    → text ≡ (letter ∷ part (get_or text 2 0 - 48)) ++ (10 ∷ take (length text - 4) (drop 4 text))
short_text text letter h first space low high feed =
    let rest = take (length text - 4) (drop 4 text) in
    let known : get_or text 0 0 ∷ get_or text 1 0 ∷ get_or text 2 0 ∷ get_or text 3 0 ∷ rest ≡ letter ∷ 32 ∷ get_or text 2 0 ∷ 10 ∷ rest = cc in
    four_bytes text h ∙ (known ∙ ap (λ (r : List ℕ). letter ∷ r) (sym (part_digit (get_or text 2 0) (10 ∷ rest) low high)))

-- Flags.
pub flag_once : (a b : Bool) → flag a ≡ flag b → a ≡ b
flag_once true true e = refl
flag_once false false e = refl
flag_once true false e = absurd (omega (arith, e))
flag_once false true e = absurd (omega (arith, e))

pub flag_not : (b : Bool) (stop : ℕ) → stop < 48 → flag b ≢ stop
flag_not true stop h = λ e. omega (arith, e)
flag_not false stop h = λ e. omega (arith, e)

pub flags_without : (car : CarFields) (stop : ℕ) → stop < 48 → Without stop (flags car)
flags_without car stop h = (flag_not car.level stop h, (flag_not car.top stop h, (flag_not car.bottom stop h, (flag_not car.locked stop h, (flag_not car.opened stop h, tt)))))

-- Cars.
pub car_split : (car : CarFields) (rest : List ℕ) → car_part car ++ rest ≡ part car.pos ++ (32 ∷ (flags car ++ rest))
unfolding car_part
car_split car rest = append_assoc (part car.pos) (32 ∷ flags car) rest

flags_once : (a b : CarFields) → a.pos ≡ b.pos → flags a ≡ flags b → a ≡ b
flags_once a b p e =
    let level : a.level ≡ b.level = flag_once _ _ (cc) in
    let top : a.top ≡ b.top = flag_once _ _ (cc) in
    let bottom : a.bottom ≡ b.bottom = flag_once _ _ (cc) in
    let locked : a.locked ≡ b.locked = flag_once _ _ (cc) in
    let opened : a.opened ≡ b.opened = flag_once _ _ (cc) in
    let made : ◌≡◌ {A = CarFields} (record { pos = a.pos; level = a.level; top = a.top; bottom = a.bottom; locked = a.locked; opened = a.opened })
    (record { pos = b.pos; level = b.level; top = b.top; bottom = b.bottom; locked = b.locked; opened = b.opened }) = cc in
    made

-- a car's part is read in one way
pub car_once : (a b : CarFields) (x y : List ℕ) → a.pos ≤ 255 → b.pos ≤ 255 → Ends 32 x → Ends 32 y → car_part a ++ x ≡ car_part b ++ y → (a ≡ b) × (x ≡ y)
car_once a b x y h k f g e =
    let first = part_once a.pos b.pos (32 ∷ (flags a ++ x)) (32 ∷ (flags b ++ y)) (omega arith) (omega arith) refl refl (sym (car_split a x) ∙ (e ∙ car_split b y)) in
    let second = split_once 32 (flags a) (flags b) x y (flags_without a 32 (omega arith)) (flags_without b 32 (omega arith)) f g (same_rest _ _ _ _ first.1) in
    (flags_once a b first.0 second.0, second.1)

-- a car's part is the part of its floor and that of its flags
pub car_made : (car : CarFields) (pos : ℕ) (text behind rest : List ℕ) → text ≡ part pos ++ behind → behind ≡ 32 ∷ (flags car ++ rest) → car.pos ≡ pos → text ≡ car_part car ++ rest
car_made car pos text behind rest e f g =
    let same : part pos ++ behind ≡ part car.pos ++ (32 ∷ (flags car ++ rest)) = cc in
    e ∙ (same ∙ sym (car_split car rest))
