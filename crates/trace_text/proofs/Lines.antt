-- The lines of events are read in one way.
use Rattle.std.proofs.Common.{◌≡◌, ◌≢◌, ℕ, ◌^◌, ◌<◌, ◌≤◌, Bool, append_assoc, append-nil, List, [], ◌∷◌, ◌++◌, length, length-append, refl, sym, ap, subst, ◌∙◌, arith}
use Rattle.std.specs.Prelude.{flat_map}
use Rattle.std.specs.List.{AllByRecursion}
use Rattle.group_spec.specs.declared.image.CarFields.{CarFields}
use Rattle.group_spec.specs.declared.image.Fields.{Fields}
use Rattle.group_spec.specs.declared.calls.Call.{Call}
use Rattle.group_spec.specs.declared.trace.TraceEvent.{TraceEvent}
use Rattle.group_spec.specs.declared.trace.TraceEvent.TheVariants.{Start, Commit, Press, Gather, Refresh}
use Rattle.trace_text.specs.declared.format.Format.{Format}
use Rattle.trace_text.specs.declared.format.Format.TheVariants.{One, Two}
use Rattle.trace_text.specs.Text.{part, car_part, fire_part, fields_part, line_of, last_line, CanSayFire, HasPosition, AreFields, IsTraced}
use Rattle.trace_text.specs.Parts.{Ends}
use Rattle.trace_text.proofs.Bytes.{each_behind, same_first, same_rest}
use Rattle.trace_text.proofs.Numbers.{part_once, flag_once, car_once}

-- a part with nothing after it
pub only_part : (n : ℕ) → part n ≡ part n ++ []
only_part n = sym (append-nil (part n))

pub part_alone : (n m : ℕ) → n < 2 ^ 64 → m < 2 ^ 64 → part n ≡ part m → n ≡ m
part_alone n m h k e = (part_once n m [] [] h k tt tt (sym (only_part n) ∙ (e ∙ only_part m))).0

-- what follows a part is the end of the text, or begins with a space
pub cars_end : (cars : List CarFields) → Ends 32 (flat_map car_part cars)
unfolding car_part
cars_end [] = tt
cars_end (car ∷ cars) = refl

pub fire_ends : (format : Format) (fire : Bool) (cars : List CarFields) → Ends 32 (fire_part format fire ++ flat_map car_part cars)
fire_ends One fire cars = cars_end cars
fire_ends Two fire cars = refl

cars_then : (cars : List CarFields) (rest : List ℕ) → Ends 32 rest → Ends 32 (flat_map car_part cars ++ rest)
unfolding car_part
cars_then [] rest f = f
cars_then (car ∷ cars) rest f = refl

pub no_car : (car : CarFields) (rest : List ℕ) → car_part car ++ rest ≡ [] → ⊥
unfolding car_part
no_car car rest e = absurd (cc)

-- cars that were read are the first ones
pub cars_once : (cars others : List CarFields) (rest : List ℕ) → AllByRecursion HasPosition cars → AllByRecursion HasPosition others → Ends 32 rest
    → flat_map car_part cars ++ rest ≡ flat_map car_part others → (more : List CarFields) × (others ≡ cars ++ more) × (rest ≡ flat_map car_part more)
cars_once [] others rest h k f e = (others, refl, e)
cars_once (a ∷ cars) [] rest h k f e = absurd (no_car a (flat_map car_part cars ++ rest) (sym (append_assoc (car_part a) (flat_map car_part cars) rest) ∙ e))
cars_once (a ∷ cars) (b ∷ others) rest h k f e =
    let both = car_once a b (flat_map car_part cars ++ rest) (flat_map car_part others) h.0 k.0 (cars_then cars rest f) (cars_end others) (sym (append_assoc (car_part a) (flat_map car_part cars) rest) ∙ e) in
    let more = cars_once cars others rest h.1 k.1 f both.1 in
    let first : a ≡ b = both.0 in
    let others_are : others ≡ cars ++ more.0 = more.1 in
    let joined : b ∷ others ≡ a ∷ (cars ++ more.0) = cc in
    (more.0, joined, more.2)

no_more : (xs ys more : List CarFields) → length xs ≡ length ys → ys ≡ xs ++ more → xs ≡ ys
no_more xs ys [] h e = sym (append-nil xs) ∙ sym e
no_more xs ys (x ∷ more) h e = absurd (omega (arith, ap length e, length-append xs (x ∷ more)))

-- where there is another car, it is read
pub another_car : (cars others more : List CarFields) (rest : List ℕ) → length cars < length others → AllByRecursion HasPosition others → others ≡ cars ++ more → rest ≡ flat_map car_part more
    → ((car : CarFields) (behind : List ℕ) → car.pos ≤ 255 → Ends 32 behind → rest ≡ car_part car ++ behind → ⊥) → ⊥
another_car cars others [] rest l h e f none = omega (arith, l, ap length e, length-append cars [])
another_car cars others (car ∷ more) rest l h e f none =
    none car (flat_map car_part more) (each_behind HasPosition cars (car ∷ more) (subst (AllByRecursion HasPosition) e h)).0 (cars_end more) f

-- where there is none, nothing is left
pub no_car_left : (cars others more : List CarFields) (rest : List ℕ) → length others ≤ length cars → others ≡ cars ++ more → rest ≡ flat_map car_part more → rest ≡ []
no_car_left cars others [] rest l e f = f
no_car_left cars others (car ∷ more) rest l e f = absurd (omega (arith, l, ap length e, length-append cars (car ∷ more)))

-- Fields.
pub time_once : (format : Format) (fields : Fields) (time : ℕ) (rest parts : List ℕ) → time < 2 ^ 64 → fields.time < 2 ^ 64 → Ends 32 rest
    → parts ≡ part time ++ rest → parts ≡ fields_part format fields
    → (time ≡ fields.time) × (rest ≡ part fields.run_limit ++ (fire_part format fields.fire ++ flat_map car_part fields.cars))
time_once format fields time rest parts h k f e g = part_once time fields.time rest _ h k f refl (sym e ∙ g)

pub limit_once : (format : Format) (fields : Fields) (limit : ℕ) (rest parts : List ℕ) → limit < 2 ^ 64 → fields.run_limit < 2 ^ 64 → Ends 32 rest
    → parts ≡ part limit ++ rest → parts ≡ part fields.run_limit ++ (fire_part format fields.fire ++ flat_map car_part fields.cars)
    → (limit ≡ fields.run_limit) × (rest ≡ fire_part format fields.fire ++ flat_map car_part fields.cars)
limit_once format fields limit rest parts h k f e g = part_once limit fields.run_limit rest _ h k f (fire_ends format fields.fire fields.cars) (sym e ∙ g)

pub fire_once : (format : Format) (a b : Bool) (x y : List ℕ) → CanSayFire format a → CanSayFire format b → fire_part format a ++ x ≡ fire_part format b ++ y → (a ≡ b) × (x ≡ y)
fire_once One a b x y h k e = (h ∙ sym k, e)
fire_once Two a b x y h k e = (flag_once a b (same_first _ _ _ _ (same_rest _ _ _ _ e)), same_rest _ _ _ _ (same_rest _ _ _ _ e))

fields_same : (a b : Fields) → a.time ≡ b.time → a.run_limit ≡ b.run_limit → a.fire ≡ b.fire → a.cars ≡ b.cars → a ≡ b
fields_same a b t l f c =
    let made : ◌≡◌ {A = Fields} (record { time = a.time; run_limit = a.run_limit; fire = a.fire; cars = a.cars }) (record { time = b.time; run_limit = b.run_limit; fire = b.fire; cars = b.cars }) = cc in
    made

fields_once : (format : Format) (cars : ℕ) (a b : Fields) → AreFields format cars a → AreFields format cars b → fields_part format a ≡ fields_part format b → a ≡ b
fields_once format cars a b h k e =
    let time = time_once format b a.time (part a.run_limit ++ (fire_part format a.fire ++ flat_map car_part a.cars)) (fields_part format a) (omega (arith, h.time)) (omega (arith, k.time)) refl refl e in
    let limit = limit_once format b a.run_limit (fire_part format a.fire ++ flat_map car_part a.cars) _ (omega (arith, h.run_limit)) (omega (arith, k.run_limit)) (fire_ends format a.fire a.cars) refl time.1 in
    let fire = fire_once format a.fire b.fire (flat_map car_part a.cars) (flat_map car_part b.cars) h.fire k.fire limit.1 in
    let more = cars_once a.cars b.cars [] h.positions k.positions tt (append-nil _ ∙ fire.1) in
    fields_same a b time.0 limit.0 fire.0 (no_more a.cars b.cars more.0 (h.count ∙ sym k.count) more.1)

-- Events.
abbrev pub NoEvent : Format → ℕ → List ℕ → Type 0
NoEvent format cars line = (e : TraceEvent) → IsTraced format cars e → line ≡ line_of format e → ⊥

-- a line that begins with this letter is that of no event
pub no_event : (format : Format) (cars letter : ℕ) (parts : List ℕ)
    → (letter ≡ 83 → (n : ℕ) → n ≤ 255 → parts ≡ part n → ⊥)
    → (letter ≡ 67 → (n : ℕ) → n ≤ 255 → parts ≡ part n → ⊥)
    → (letter ≡ 80 → (call : Call) → call.from ≤ 255 → call.to ≤ 255 → parts ≡ part call.from ++ part call.to → ⊥)
    → (letter ≡ 71 → (n : ℕ) → n ≤ 255 → parts ≡ part n → ⊥)
    → (letter ≡ 82 → (fields : Fields) → AreFields format cars fields → parts ≡ fields_part format fields → ⊥)
    → NoEvent format cars (letter ∷ parts)
unfolding line_of
no_event format cars letter parts s c p g r (Start t) h e = s (same_first _ _ _ _ e) t h (same_rest _ _ _ _ e)
no_event format cars letter parts s c p g r (Commit t) h e = c (same_first _ _ _ _ e) t h (same_rest _ _ _ _ e)
no_event format cars letter parts s c p g r (Press call) h e = p (same_first _ _ _ _ e) call h.0 h.1 (same_rest _ _ _ _ e)
no_event format cars letter parts s c p g r (Gather floor) h e = g (same_first _ _ _ _ e) floor h (same_rest _ _ _ _ e)
no_event format cars letter parts s c p g r (Refresh fields) h e = r (same_first _ _ _ _ e) fields h (same_rest _ _ _ _ e)

pub no_event_empty : (format : Format) (cars : ℕ) → NoEvent format cars []
unfolding line_of
no_event_empty format cars (Start t) h e = absurd (cc)
no_event_empty format cars (Commit t) h e = absurd (cc)
no_event_empty format cars (Press call) h e = absurd (cc)
no_event_empty format cars (Gather floor) h e = absurd (cc)
no_event_empty format cars (Refresh fields) h e = absurd (cc)

-- along an equation of the line
pub no_event_of : (format : Format) (cars : ℕ) (line other : List ℕ) → line ≡ other → NoEvent format cars other → NoEvent format cars line
no_event_of format cars line other e none event h f = none event h (sym e ∙ f)

-- the last line is that of no event
pub not_last : (format : Format) (count : ℕ) (e : TraceEvent) → line_of format e ≢ last_line count
unfolding line_of last_line
not_last format count (Start t) e = let a : ◌≡◌ {A = ℕ} 83 69 = same_first _ _ _ _ e in omega arith
not_last format count (Commit t) e = let a : ◌≡◌ {A = ℕ} 67 69 = same_first _ _ _ _ e in omega arith
not_last format count (Press call) e = let a : ◌≡◌ {A = ℕ} 80 69 = same_first _ _ _ _ e in omega arith
not_last format count (Gather floor) e = let a : ◌≡◌ {A = ℕ} 71 69 = same_first _ _ _ _ e in omega arith
not_last format count (Refresh fields) e = let a : ◌≡◌ {A = ℕ} 82 69 = same_first _ _ _ _ e in omega arith

call_same : (a b : Call) → a.from ≡ b.from → a.to ≡ b.to → a ≡ b
call_same a b f t = let made : ◌≡◌ {A = Call} (record { from = a.from; to = a.to }) (record { from = b.from; to = b.to }) = cc in made

calls_once : (a b : Call) → a.from ≤ 255 → a.to ≤ 255 → b.from ≤ 255 → b.to ≤ 255 → part a.from ++ part a.to ≡ part b.from ++ part b.to → a ≡ b
calls_once a b h k f g e =
    let both = part_once a.from b.from (part a.to) (part b.to) (omega arith) (omega arith) refl refl e in
    call_same a b both.0 (part_alone a.to b.to (omega arith) (omega arith) both.1)

-- one event for a line
pub line_once : (format : Format) (cars : ℕ) (a b : TraceEvent) → IsTraced format cars a → IsTraced format cars b → line_of format a ≡ line_of format b → a ≡ b
unfolding line_of
line_once format cars (Start t) (Start u) h k e = ap Start (part_alone t u (omega arith) (omega arith) (same_rest _ _ _ _ e))
line_once format cars (Commit t) (Commit u) h k e = ap Commit (part_alone t u (omega arith) (omega arith) (same_rest _ _ _ _ e))
line_once format cars (Press a) (Press b) h k e = ap Press (calls_once a b h.0 h.1 k.0 k.1 (same_rest _ _ _ _ e))
line_once format cars (Gather t) (Gather u) h k e = ap Gather (part_alone t u (omega arith) (omega arith) (same_rest _ _ _ _ e))
line_once format cars (Refresh a) (Refresh b) h k e = ap Refresh (fields_once format cars a b h k (same_rest _ _ _ _ e))
line_once format cars (Start a) (Commit b) h k e = let l : ◌≡◌ {A = ℕ} 83 67 = same_first _ _ _ _ e in absurd (omega arith)
line_once format cars (Start a) (Press b) h k e = let l : ◌≡◌ {A = ℕ} 83 80 = same_first _ _ _ _ e in absurd (omega arith)
line_once format cars (Start a) (Gather b) h k e = let l : ◌≡◌ {A = ℕ} 83 71 = same_first _ _ _ _ e in absurd (omega arith)
line_once format cars (Start a) (Refresh b) h k e = let l : ◌≡◌ {A = ℕ} 83 82 = same_first _ _ _ _ e in absurd (omega arith)
line_once format cars (Commit a) (Start b) h k e = let l : ◌≡◌ {A = ℕ} 67 83 = same_first _ _ _ _ e in absurd (omega arith)
line_once format cars (Commit a) (Press b) h k e = let l : ◌≡◌ {A = ℕ} 67 80 = same_first _ _ _ _ e in absurd (omega arith)
line_once format cars (Commit a) (Gather b) h k e = let l : ◌≡◌ {A = ℕ} 67 71 = same_first _ _ _ _ e in absurd (omega arith)
line_once format cars (Commit a) (Refresh b) h k e = let l : ◌≡◌ {A = ℕ} 67 82 = same_first _ _ _ _ e in absurd (omega arith)
line_once format cars (Press a) (Start b) h k e = let l : ◌≡◌ {A = ℕ} 80 83 = same_first _ _ _ _ e in absurd (omega arith)
line_once format cars (Press a) (Commit b) h k e = let l : ◌≡◌ {A = ℕ} 80 67 = same_first _ _ _ _ e in absurd (omega arith)
line_once format cars (Press a) (Gather b) h k e = let l : ◌≡◌ {A = ℕ} 80 71 = same_first _ _ _ _ e in absurd (omega arith)
line_once format cars (Press a) (Refresh b) h k e = let l : ◌≡◌ {A = ℕ} 80 82 = same_first _ _ _ _ e in absurd (omega arith)
line_once format cars (Gather a) (Start b) h k e = let l : ◌≡◌ {A = ℕ} 71 83 = same_first _ _ _ _ e in absurd (omega arith)
line_once format cars (Gather a) (Commit b) h k e = let l : ◌≡◌ {A = ℕ} 71 67 = same_first _ _ _ _ e in absurd (omega arith)
line_once format cars (Gather a) (Press b) h k e = let l : ◌≡◌ {A = ℕ} 71 80 = same_first _ _ _ _ e in absurd (omega arith)
line_once format cars (Gather a) (Refresh b) h k e = let l : ◌≡◌ {A = ℕ} 71 82 = same_first _ _ _ _ e in absurd (omega arith)
line_once format cars (Refresh a) (Start b) h k e = let l : ◌≡◌ {A = ℕ} 82 83 = same_first _ _ _ _ e in absurd (omega arith)
line_once format cars (Refresh a) (Commit b) h k e = let l : ◌≡◌ {A = ℕ} 82 67 = same_first _ _ _ _ e in absurd (omega arith)
line_once format cars (Refresh a) (Press b) h k e = let l : ◌≡◌ {A = ℕ} 82 80 = same_first _ _ _ _ e in absurd (omega arith)
line_once format cars (Refresh a) (Gather b) h k e = let l : ◌≡◌ {A = ℕ} 82 71 = same_first _ _ _ _ e in absurd (omega arith)
