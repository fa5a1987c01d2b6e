-- What comes before the variables reads back.
use Rattle.std.proofs.Common.{◌≡◌, ℕ, zero, suc, ◌+◌, ◌*◌, ◌/◌, ◌%◌, ◌^◌, ◌<◌, ◌≤◌, Bool, true, false, List, [], ◌∷◌, ◌++◌, length, length-append, inl, inr, refl, sym, ap, ◌∙◌, append_assoc, Some, All, arith}
use Rattle.std.specs.Prelude.{codes, nat_lt, if◌then◌else◌}
use Rattle.std.specs.List.{AllByRecursion}
use Rattle.std.proofs.lemmas.List.Elements.{All-head, All-tail}
use Rattle.group_spec.specs.declared.calls.Slot.{Slot}
use Rattle.group_spec.specs.declared.calls.Slot.TheVariants.{Free, Waiting, Told}
use Rattle.group_spec.specs.declared.image.CarFields.{CarFields}
use Rattle.group_spec.specs.declared.image.CarOutputs.{CarOutputs}
use Rattle.group_spec.specs.declared.image.Image.{Image}
use Rattle.group_spec.specs.declared.image.Sizes.{Sizes}
use Rattle.group_spec.specs.Calls.{Calls, SlotInRange, ticket_of, greatest_ticket}
use Rattle.group_spec.specs.Image.{IsFloor, FieldsInRange, Obeys}
use Rattle.group_laws.specs.Holding.{ticket_at}
use Rattle.trace_text.specs.Reading.{IsOneLine}
use Rattle.group_state.specs.declared.car.Car.{Car}
use Rattle.group_state.specs.Text.{hex_digit, hex_text, configuration_line, number_line, fire_line, car_line, cars_lines, slot_line, slots_lines, image_lines, calls_lines}
use Rattle.group_state.specs.Lines.{HoldsAlways}
use Rattle.group_state.specs.Saying.{IsHexDigit, IsDigest, SaysConfiguration, IsOwnDigest, TakesConfiguration, SaysNumber, IsAtMost, TakesNumber, latest, SaysFire, TakesFire, SaysCar, IsAtFloor, HasSmallNumbers, SaysSlot, SlotHolds}
use Rattle.group_state.specs.Heads.{car_of, TakesCars, TakesImage, TakesSlots, TakesCalls, TakesHead}
use Rattle.group_state_laws.specs.Laws.{Is32Bytes}
use Rattle.group_state_laws.proofs.Lined.{lined, takes_first, without_by, configuration_one, number_one, fire_one, car_one, slot_one}

-- THE CONFIGURATION

hex_is : (n : ℕ) → n < 16 → IsHexDigit (hex_digit n)
hex_is n h = by (nat_lt n 10) refl
  where
    by : (b : Bool) → nat_lt n 10 ≡ b → IsHexDigit (if b then 48 + n else 87 + n)
    by true is = inl (grind (arith, is), grind (arith, is))
    by false is = inr (grind (arith, is, h), grind (arith, is, h))

digits_of : (bytes : List ℕ) → AllByRecursion (λ byte. byte < 256) bytes → AllByRecursion IsHexDigit (hex_text bytes)
digits_of [] h = tt
digits_of (b ∷ bytes) h = (hex_is (b / 16) (omega (arith, h.0)), (hex_is (b % 16) (omega arith), digits_of bytes h.1))

twice_as_many : (bytes : List ℕ) → length (hex_text bytes) ≡ 2 * length bytes
twice_as_many [] = refl
twice_as_many (b ∷ bytes) = let more = twice_as_many bytes in omega (arith, more)

pub digest_is : (digest : List ℕ) → Is32Bytes digest → IsDigest (hex_text digest)
digest_is digest h = let twice = twice_as_many digest in record { count = omega (arith, twice, h.count); each = digits_of digest h.each }

configuration_back : (digest : List ℕ) (lines : List (List ℕ)) (rest : List ℕ) → Is32Bytes digest → TakesConfiguration digest (lined (configuration_line (hex_text digest) ∷ lines) rest) (lined lines rest)
configuration_back digest lines rest h =
    takes_first (List ℕ) SaysConfiguration (IsOwnDigest digest) (hex_text digest) (configuration_line (hex_text digest)) lines rest (configuration_one digest) (digest_is digest h, refl) refl

-- NUMBERS

number_back :
    (word : List ℕ) (greatest most n : ℕ) (lines : List (List ℕ)) (rest : List ℕ) → IsOneLine word → n < 2 ^ 64 → n ≤ greatest → n ≤ most → TakesNumber word greatest most (lined (number_line word n ∷ lines) rest) n (lined lines rest)
number_back word greatest most n lines rest one fits few held =
    takes_first ℕ (SaysNumber word greatest) (IsAtMost most) n (number_line word n) lines rest (number_one word n one fits) (few, refl) held

fire_back : (fire : Bool) (lines : List (List ℕ)) (rest : List ℕ) → TakesFire (lined (fire_line fire ∷ lines) rest) fire (lined lines rest)
fire_back fire lines rest = takes_first Bool SaysFire (HoldsAlways Bool) fire (fire_line fire) lines rest (fire_one fire) refl tt

-- THE IMAGE

module _ (sizes : Sizes) (few_floors : sizes.floors ≤ 255) (few_cars : sizes.cars ≤ 255) (few_slots : sizes.slots ≤ 255) (rest : List ℕ) where
  cars_back :
      (number : ℕ) (fields : List CarFields) (outputs : List CarOutputs) (more : List (List ℕ)) → length outputs ≡ length fields → All (λ (car : CarFields). IsFloor sizes car.pos) fields → number + length fields ≤ 1024
      → TakesCars sizes number (lined (cars_lines number fields outputs ++ more) rest) fields outputs (lined more rest)
  cars_back number [] [] more same floors low = refl
  cars_back number [] (o ∷ outputs) more same floors low = absurd (omega (arith, same))
  cars_back number (f ∷ fields) [] more same floors low = absurd (omega (arith, same))
  cars_back number (f ∷ fields) (o ∷ outputs) more same floors low =
      let here : IsFloor sizes f.pos = All-head (λ (car : CarFields). IsFloor sizes car.pos) f fields floors in
      let small : f.pos ≤ 255 = omega (arith, here.1, few_floors) in (
        lined (cars_lines (number + 1) fields outputs ++ more) rest,
        takes_first Car (SaysCar number) (IsAtFloor sizes) (car_of f o) (car_line number f o) (cars_lines (number + 1) fields outputs ++ more) rest (car_one number f o (omega (arith, low)) small) (small, refl) here,
        cars_back (number + 1) fields outputs more (omega (arith, same)) (All-tail (λ (car : CarFields). IsFloor sizes car.pos) f fields floors) (omega (arith, low)),
      )

  image_back : (image : Image) (more : List (List ℕ)) → FieldsInRange sizes image.fields → Obeys image → TakesImage sizes (lined (image_lines image ++ more) rest) image (lined more rest)
  image_back image more range obeys =
      let cars : List (List ℕ) = cars_lines 1 image.fields.cars image.outputs ++ more in
      let limit : List (List ℕ) = fire_line image.fields.fire ∷ cars in
      let now : List (List ℕ) = number_line (codes "RUNLIMIT") image.fields.run_limit ∷ limit in
      record {
        behind = lined cars rest;
        times = record {
          behind_now = lined now rest;
          behind_limit = lined limit rest;
          now_is = number_back (codes "NOW") 4294967295 latest image.fields.time now rest (without_by 10 (codes "NOW") refl) (omega (arith, range.time)) (omega (arith, range.time)) range.time;
          limit_is = number_back (codes "RUNLIMIT") 255 sizes.cars image.fields.run_limit limit rest (without_by 10 (codes "RUNLIMIT") refl) (omega (arith, range.run_limit, few_cars)) (omega (arith, range.run_limit, few_cars)) range.run_limit;
          fire_is = fire_back image.fields.fire cars rest;
        };
        cars = record {
          each = cars_back 1 image.fields.cars image.outputs more obeys.cars range.positions (omega (arith, range.cars, few_cars));
          all = range.cars;
        };
        obeys = obeys;
      }

  -- CALL SLOTS

  ticket_front : (xs ys : List Slot) (k n : ℕ) → ticket_at xs k ≡ Some n → (ticket_at (xs ++ ys) k ≡ Some n) × (k < length xs)
  ticket_front [] ys k n e = absurd (cc)
  ticket_front (x ∷ xs) ys zero n e = (e, omega arith)
  ticket_front (x ∷ xs) ys (suc k) n e = let more = ticket_front xs ys k n e in (more.0, omega (arith, more.1))

  ticket_here : (xs ys : List Slot) (slot : Slot) → ticket_at (xs ++ (slot ∷ ys)) (length xs) ≡ ticket_of slot
  ticket_here [] ys slot = refl
  ticket_here (x ∷ xs) ys slot = ticket_here xs ys slot

  small_numbers : (last : ℕ) (slot : Slot) → last ≤ greatest_ticket → SlotInRange sizes last slot → HasSmallNumbers slot
  small_numbers last Free most h = tt
  small_numbers last (Waiting ticket call) most h = (omega (arith, h.2, most), (omega (arith, h.0.from.1, few_floors), omega (arith, h.0.to.1, few_floors)))
  small_numbers last (Told ticket call car) most h = (omega (arith, h.2, most), (omega (arith, h.0.from.1, few_floors), omega (arith, h.0.to.1, few_floors)), omega (arith, h.4, few_cars))

  slot_holds : (last : ℕ) (earlier : List Slot) (slot : Slot) → SlotInRange sizes last slot → ((n : ℕ) → ticket_of slot ≡ Some n → (k : ℕ) → ticket_at earlier k ≡ Some n → ⊥) → SlotHolds sizes last earlier slot
  slot_holds last earlier Free h fresh = record { actors = tt; way = tt; ticket = tt }
  slot_holds last earlier (Waiting ticket call) h fresh = record { actors = (h.0.from, h.0.to); way = h.0.differs; ticket = record { least = h.1; most = h.2; fresh = fresh ticket refl } }
  slot_holds last earlier (Told ticket call car) h fresh = record { actors = ((h.0.from, h.0.to), h.3, h.4); way = h.0.differs; ticket = record { least = h.1; most = h.2; fresh = fresh ticket refl } }

  module _ (last : ℕ) (most : last ≤ greatest_ticket) (whole : List Slot) (apart : (i j n : ℕ) → ticket_at whole i ≡ Some n → ticket_at whole j ≡ Some n → i ≡ j) (more : List (List ℕ)) where
    slots_back :
        (earlier slots : List Slot) (number : ℕ) → number ≡ length earlier + 1 → earlier ++ slots ≡ whole → All (SlotInRange sizes last) slots → number + length slots ≤ 1024
        → TakesSlots sizes last earlier (lined (slots_lines number slots ++ more) rest) slots (lined more rest)
    slots_back earlier [] number is all ranges low = refl
    slots_back earlier (slot ∷ slots) number is all ranges low =
        let range : SlotInRange sizes last slot = All-head (SlotInRange sizes last) slot slots ranges in
        let small : HasSmallNumbers slot = small_numbers last slot most range in
        let long : length (earlier ++ slot ∷ []) ≡ length earlier + length (slot ∷ []) = length-append earlier (slot ∷ []) in
        let fresh : (n : ℕ) → ticket_of slot ≡ Some n → (k : ℕ) → ticket_at earlier k ≡ Some n → ⊥ =
        λ n own k e.
        let front = ticket_front earlier (slot ∷ slots) k n e in
        let same : k ≡ length earlier =
        apart k (length earlier) n (ap (λ (ss : List Slot). ticket_at ss k) (sym all) ∙ front.0) (ap (λ (ss : List Slot). ticket_at ss (length earlier)) (sym all) ∙ (ticket_here earlier slots slot ∙ own)) in
        omega (arith, same, front.1) in (
          lined (slots_lines (number + 1) slots ++ more) rest,
          takes_first Slot (SaysSlot (length earlier + 1)) (SlotHolds sizes last earlier) slot (slot_line number slot) (slots_lines (number + 1) slots ++ more) rest (slot_one number slot (omega (arith, low)) small) (small, ap (λ k. slot_line k slot) is)
              (slot_holds last earlier slot range fresh),
          slots_back (earlier ++ slot ∷ []) slots (number + 1) (omega (arith, long, is)) (append_assoc earlier (slot ∷ []) slots ∙ all) (All-tail (SlotInRange sizes last) slot slots ranges) (omega (arith, low)),
        )

  calls_back :
      (calls : Calls) (more : List (List ℕ)) → calls.last_ticket ≤ greatest_ticket → length calls.slots ≡ sizes.slots → All (SlotInRange sizes calls.last_ticket) calls.slots
      → ((i j n : ℕ) → ticket_at calls.slots i ≡ Some n → ticket_at calls.slots j ≡ Some n → i ≡ j) → TakesCalls sizes (lined (calls_lines calls ++ more) rest) calls (lined more rest)
  calls_back calls more most count ranges apart =
      let slots : List (List ℕ) = slots_lines 1 calls.slots ++ more in
      record {
        behind = lined slots rest;
        tickets = number_back (codes "TICKETS") greatest_ticket greatest_ticket calls.last_ticket slots rest (without_by 10 (codes "TICKETS") refl) (omega (arith, most)) most most;
        slots = slots_back calls.last_ticket most calls.slots apart more [] calls.slots 1 refl refl ranges (omega (arith, count, few_slots));
        all = count;
      }

  -- THE HEAD

  pub head_back :
      (digest : List ℕ) (image : Image) (calls : Calls) (more : List (List ℕ)) → Is32Bytes digest → FieldsInRange sizes image.fields → Obeys image → calls.last_ticket ≤ greatest_ticket → length calls.slots ≡ sizes.slots
      → All (SlotInRange sizes calls.last_ticket) calls.slots → ((i j n : ℕ) → ticket_at calls.slots i ≡ Some n → ticket_at calls.slots j ≡ Some n → i ≡ j)
      → TakesHead sizes digest (lined (configuration_line (hex_text digest) ∷ (image_lines image ++ (calls_lines calls ++ more))) rest) image calls (lined more rest)
  head_back digest image calls more own range obeys most count ranges apart =
      record {
        behind_configuration = lined (image_lines image ++ (calls_lines calls ++ more)) rest;
        behind_image = lined (calls_lines calls ++ more) rest;
        configuration = configuration_back digest (image_lines image ++ (calls_lines calls ++ more)) rest own;
        image_is = image_back image (calls_lines calls ++ more) range obeys;
        calls_are = calls_back calls more most count ranges apart;
      }
