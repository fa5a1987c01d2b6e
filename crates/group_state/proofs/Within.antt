-- How many lines a text can have: where its state ends, and where it is wrong.
use Rattle.std.proofs.Common.{◌≡◌, inl, inr, ℕ, zero, suc, ◌+◌, ◌<◌, ◌≤◌, List, [], ◌∷◌, ◌++◌, length, length-append, ap, ◌∙◌, arith, Some, None, Option}
use Rattle.il_syntax.specs.declared.tree.Config.{Config}
use Rattle.il_syntax.specs.declared.tree.Unit.{Unit as ProgramUnit}
use Rattle.base_maps.specs.NameMap.{Text, insert}
use Rattle.load_slots.specs.declared.flat.Cell.{Cell}
use Rattle.load_slots.specs.Program.{own_cells, global_cells}
use Rattle.il_semantics.specs.Scan.{opening_variables, opening_globals}
use Rattle.il_semantics.specs.State.{Values}
use Rattle.group_spec.specs.declared.calls.Slot.{Slot}
use Rattle.group_spec.specs.declared.image.CarFields.{CarFields}
use Rattle.group_spec.specs.declared.image.CarOutputs.{CarOutputs}
use Rattle.group_spec.specs.declared.image.Fields.{Fields}
use Rattle.group_spec.specs.declared.image.Image.{Image}
use Rattle.group_spec.specs.declared.image.Sizes.{Sizes}
use Rattle.group_spec.specs.declared.report.Denial.{Denial}
use Rattle.group_spec.specs.declared.report.Rule.{Rule}
use Rattle.group_spec.specs.Calls.{Calls}
use Rattle.group_spec.specs.Image.{sizes_of}
use Rattle.group_spec.specs.Settle.{able_from, denials_of, settled_running, settled_from, settled_all}
use Rattle.group_spec.specs.Snapshot.{program_of}
use Rattle.group_spec.specs.World.{TaskState}
use Rattle.group_state.specs.declared.fault.Wrong.{Wrong}
use Rattle.group_state.specs.Heads.{RefusesTimes, TakesCars, RefusesCars, TakesImage, Disobeys, RefusesImage, TakesSlots, TakesCalls, RefusesCalls, TakesHead, RefusesHead, variables_at}
use Rattle.group_state.specs.Reading.{Begun, IsState, IsNoState}
use Rattle.group_state.specs.Text.{global_path, task_path, end_line}
use Rattle.group_state.specs.Variables.{Reached, reached, Left, left, TakesVariables, RefusesVariables, TakesGlobals, TakesTask, RefusesTask, TakesTasks, RefusesTasks}
use Rattle.group_state.proofs.Again.{next_shorter}
use Rattle.group_state.proofs.Readings.{variables_later, tasks_later}

-- WHAT IS TAKEN

same_length : (a b : List ℕ) → a ≡ b → length b ≤ length a
same_length a b e = let l : length a ≡ length b = ap length e in omega (arith, l)

cars_shorter : (sizes : Sizes) (number : ℕ) (text : List ℕ) (fields : List CarFields) (outputs : List CarOutputs) (rest : List ℕ) → TakesCars sizes number text fields outputs rest → length fields + length rest ≤ length text
cars_shorter sizes number text [] [] rest h = let l = same_length text rest h in omega (arith, l)
cars_shorter sizes number text [] (o ∷ outputs) rest h = absurd h
cars_shorter sizes number text (f ∷ fields) [] rest h = absurd h
cars_shorter sizes number text (f ∷ fields) (o ∷ outputs) rest h =
    let one : length h.0 < length text = next_shorter text h.1.line h.0 h.1.next in
    let more : length fields + length rest ≤ length h.0 = cars_shorter sizes (number + 1) h.0 fields outputs rest h.2 in
    omega (arith, one, more)

slots_shorter : (sizes : Sizes) (last : ℕ) (earlier : List Slot) (text : List ℕ) (slots : List Slot) (rest : List ℕ) → TakesSlots sizes last earlier text slots rest → length slots + length rest ≤ length text
slots_shorter sizes last earlier text [] rest h = let l = same_length text rest h in omega (arith, l)
slots_shorter sizes last earlier text (slot ∷ slots) rest h =
    let one : length h.0 < length text = next_shorter text h.1.line h.0 h.1.next in
    let more : length slots + length rest ≤ length h.0 = slots_shorter sizes last (earlier ++ slot ∷ []) h.0 slots rest h.2 in
    omega (arith, one, more)

image_shorter : (sizes : Sizes) (text : List ℕ) (image : Image) (rest : List ℕ) → TakesImage sizes text image rest → 3 + sizes.cars + length rest ≤ length text
image_shorter sizes text image rest h =
    let now : length h.times.behind_now < length text = next_shorter text h.times.now_is.line h.times.behind_now h.times.now_is.next in
    let limit : length h.times.behind_limit < length h.times.behind_now = next_shorter h.times.behind_now h.times.limit_is.line h.times.behind_limit h.times.limit_is.next in
    let fire : length h.behind < length h.times.behind_limit = next_shorter h.times.behind_limit h.times.fire_is.line h.behind h.times.fire_is.next in
    let cars : length image.fields.cars + length rest ≤ length h.behind = cars_shorter sizes 1 h.behind image.fields.cars image.outputs rest h.cars.each in
    let all : length image.fields.cars ≡ sizes.cars = h.cars.all in
    omega (arith, now, limit, fire, cars, all)

calls_shorter : (sizes : Sizes) (text : List ℕ) (calls : Calls) (rest : List ℕ) → TakesCalls sizes text calls rest → 1 + sizes.slots + length rest ≤ length text
calls_shorter sizes text calls rest h =
    let tickets : length h.behind < length text = next_shorter text h.tickets.line h.behind h.tickets.next in
    let slots : length calls.slots + length rest ≤ length h.behind = slots_shorter sizes calls.last_ticket [] h.behind calls.slots rest h.slots in
    let all : length calls.slots ≡ sizes.slots = h.all in
    omega (arith, tickets, slots, all)

head_shorter : (sizes : Sizes) (digest text : List ℕ) (image : Image) (calls : Calls) (rest : List ℕ) → TakesHead sizes digest text image calls rest → 5 + sizes.cars + sizes.slots + length rest ≤ length text
head_shorter sizes digest text image calls rest h =
    let configuration : length h.behind_configuration < length text = next_shorter text h.configuration.line h.behind_configuration h.configuration.next in
    let image_is : 3 + sizes.cars + length h.behind_image ≤ length h.behind_configuration = image_shorter sizes h.behind_configuration image h.behind_image h.image_is in
    let calls_are : 1 + sizes.slots + length rest ≤ length h.behind_image = calls_shorter sizes h.behind_image calls rest h.calls_are in
    omega (arith, configuration, image_is, calls_are)

variables_shorter : (path : Text → Text) (initial : Values) (cells : List Cell) (from to : Reached) → TakesVariables path initial cells from to → to.line + length to.rest ≤ from.line + length from.rest
variables_shorter path initial [] from to h = let same : from.line + length from.rest ≡ to.line + length to.rest = ap (λ (r : Reached). r.line + length r.rest) h in omega (arith, same)
variables_shorter path initial (cell ∷ cells) from to h =
    elim h [
      | inl a ↦ variables_shorter path initial cells from to a.1
      | inr b ↦
          let one : length b.1 < length from.rest = next_shorter from.rest b.2.line b.1 b.2.next in
          let more : to.line + length to.rest ≤ from.line + 1 + length b.1 = variables_shorter path initial cells (reached (insert from.values cell.path b.0) b.1 (from.line + 1)) to b.3 in
          omega (arith, one, more)
    ]

globals_shorter : (c : Config) (text : List ℕ) (line : ℕ) (to : Reached) → TakesGlobals c text line to → to.line + length to.rest ≤ line + length text
globals_shorter c text line to h = variables_shorter global_path (opening_globals c) (global_cells c) (reached (opening_globals c) text line) to h

task_shorter : (c : Config) (t : ℕ) (o : Option ProgramUnit) (from : Left) (task : Option TaskState) (to : Left) → TakesTask c t o from task to → to.line + length to.rest ≤ from.line + length from.rest
task_shorter c t None from task to h = let same : from.line + length from.rest ≡ to.line + length to.rest = ap (λ (l : Left). l.line + length l.rest) h.1 in omega (arith, same)
task_shorter c t (Some u) from task to h =
    variables_shorter (task_path t) (opening_variables c u) (own_cells c u) (reached (opening_variables c u) from.rest from.line) (reached h.0 to.rest to.line) h.2

tasks_shorter : (c : Config) (t count : ℕ) (from : Left) (tasks : List (Option TaskState)) (to : Left) → TakesTasks c t count from tasks to → to.line + length to.rest ≤ from.line + length from.rest
tasks_shorter c t zero from tasks to h = let same : from.line + length from.rest ≡ to.line + length to.rest = ap (λ (l : Left). l.line + length l.rest) h.1 in omega (arith, same)
tasks_shorter c t (suc count) from tasks to h =
    let one : h.2.line + length h.2.rest ≤ from.line + length from.rest = task_shorter c t (program_of c t) from h.0 h.2 h.4 in
    let more : to.line + length to.rest ≤ h.2.line + length h.2.rest = tasks_shorter c (t + 1) count h.2 h.1 to h.5 in
    omega (arith, one, more)

-- a state has no more lines than its text has bytes
pub state_within : (c : Config) (digest text : List ℕ) (b : Begun) → IsState c digest text b → (1 ≤ b.lines) × (b.lines + length b.rest ≤ length text + 1)
state_within c digest text b h =
    let head : 5 + (sizes_of c).cars + (sizes_of c).slots + length h.behind_head ≤ length text = head_shorter (sizes_of c) digest text b.group.image b.group.calls h.behind_head h.head in
    let globals : h.behind_globals.line + length h.behind_globals.rest ≤ 7 + (sizes_of c).cars + (sizes_of c).slots + length h.behind_head =
    globals_shorter c h.behind_head (variables_at (sizes_of c)) (reached b.group.globals h.behind_globals.rest h.behind_globals.line) h.globals in
    let tasks : b.lines + length h.last ≤ h.behind_globals.line + length h.behind_globals.rest = tasks_shorter c 0 (suc (sizes_of c).cars) h.behind_globals b.group.tasks (left h.last b.lines) h.tasks in
    let ends : length h.last ≡ 6 + length (10 ∷ b.rest) = ap length h.ends ∙ length-append end_line (10 ∷ b.rest) in
    let later : variables_at (sizes_of c) ≤ h.behind_globals.line = variables_later global_path (opening_globals c) (global_cells c) (reached (opening_globals c) h.behind_head (variables_at (sizes_of c))) (reached b.group.globals h.behind_globals.rest h.behind_globals.line) h.globals in
    let last : h.behind_globals.line ≤ b.lines = tasks_later c 0 (suc (sizes_of c).cars) h.behind_globals (left h.last b.lines) b.group.tasks h.tasks in
    (omega (arith, later, last), omega (arith, head, globals, tasks, ends))

-- WHAT IS REFUSED

at_line : (line most : ℕ) (wrong : Wrong) → wrong.line ≡ line → line ≤ most → wrong.line ≤ most
at_line line most wrong at low = omega (arith, at, low)

-- a denial is one of a car of the group
of_rules : (rules : List Rule) (others : List Denial) (d : Denial) (ds : List Denial) (a n : ℕ) → a < n → (others ≡ d ∷ ds → d.car < n) → denials_of a rules ++ others ≡ d ∷ ds → d.car < n
of_rules [] others d ds a n low more e = more e
of_rules (r ∷ rules) others d ds a n low more e =
    let same : a ≡ d.car = ap (λ (x : Denial). x.car) (let one : ◌≡◌ {A = Denial} (record { car = a; rule = r }) d = cc in one) in omega (arith, same, low)

denied_from : (all : Fields) (able : List ℕ) (a : ℕ) (fields : List CarFields) (outputs : List CarOutputs) (d : Denial) (ds : List Denial) → (settled_from all able a fields outputs).denials ≡ d ∷ ds → d.car < a + length fields
denied_from all able a [] outputs d ds e = absurd (cc)
denied_from all able a (f ∷ fields) [] d ds e = absurd (cc)
denied_from all able a (f ∷ fields) (o ∷ outputs) d ds e =
    of_rules (settled_running all able a f o).denials (settled_from all able (a + 1) fields outputs).denials d ds a (a + length (f ∷ fields)) (omega arith)
    (λ x. let more : d.car < (a + 1) + length fields = denied_from all able (a + 1) fields outputs d ds x in omega (arith, more)) e

denied_within : (image : Image) (d : Denial) (ds : List Denial) → (settled_all image.outputs image.fields).denials ≡ d ∷ ds → d.car ≤ length image.fields.cars
unfolding settled_all
denied_within image d ds e =
    let low : d.car < 1 + length image.fields.cars = denied_from image.fields (able_from image.fields.fire 1 image.fields.cars image.outputs) 1 image.fields.cars image.outputs d ds e in
    omega (arith, low)

disobeys_within : (image : Image) (n most : ℕ) (wrong : Wrong) → Disobeys image wrong → length image.fields.cars ≡ n → 5 + n ≤ most → wrong.line ≤ most
disobeys_within image n most wrong h many low =
    let car : h.denial.car ≤ length image.fields.cars = denied_within image h.denial h.others h.denied in
    let place : wrong.line ≡ 5 + h.denial.car = h.place in
    omega (arith, car, place, many, low)

times_within : (sizes : Sizes) (text : List ℕ) (most : ℕ) (wrong : Wrong) → 5 ≤ most → RefusesTimes sizes text wrong → wrong.line ≤ most
times_within sizes text most wrong low h =
    elim h [
      | inl a ↦ at_line 3 most wrong a.0 (omega (arith, low))
      | inr b ↦ elim b [
        | inl x ↦ at_line 4 most wrong x.3.0 (omega (arith, low))
        | inr y ↦ at_line 5 most wrong y.6.0 low
      ]
    ]

cars_within : (sizes : Sizes) (text : List ℕ) (most : ℕ) (wrong : Wrong) → 5 + sizes.cars ≤ most → RefusesCars sizes text wrong → wrong.line ≤ most
cars_within sizes text most wrong low h =
    let more : length h.fields < sizes.cars = h.more in
    at_line (5 + (length h.fields + 1)) most wrong h.why.0 (omega (arith, more, low))

image_within : (sizes : Sizes) (text : List ℕ) (most : ℕ) (wrong : Wrong) → 5 + sizes.cars ≤ most → RefusesImage sizes text wrong → wrong.line ≤ most
image_within sizes text most wrong low h =
    elim h [
      | inl a ↦ times_within sizes text most wrong (omega (arith, low)) a
      | inr b ↦ elim b [
        | inl x ↦ cars_within sizes x.3 most wrong low x.5
        | inr y ↦ disobeys_within _ sizes.cars most wrong y.9 y.8.all low
      ]
    ]

calls_within : (sizes : Sizes) (text : List ℕ) (most : ℕ) (wrong : Wrong) → 6 + sizes.cars + sizes.slots ≤ most → RefusesCalls sizes text wrong → wrong.line ≤ most
calls_within sizes text most wrong low h =
    elim h [
      | inl a ↦ at_line (6 + sizes.cars) most wrong a.0 (omega (arith, low))
      | inr b ↦
          let more : length b.3.slots < sizes.slots = b.3.more in
          at_line (6 + sizes.cars + (length b.3.slots + 1)) most wrong b.3.why.0 (omega (arith, more, low))
    ]

head_within : (sizes : Sizes) (digest text : List ℕ) (most : ℕ) (wrong : Wrong) → 6 + sizes.cars + sizes.slots ≤ most → RefusesHead sizes digest text wrong → wrong.line ≤ most
head_within sizes digest text most wrong low h =
    elim h [
      | inl a ↦ at_line 2 most wrong a.0 (omega (arith, low))
      | inr b ↦ elim b [
        | inl x ↦ image_within sizes x.0 most wrong (omega (arith, low)) x.2
        | inr y ↦ calls_within sizes y.2 most wrong low y.5
      ]
    ]

variables_within : (path : Text → Text) (initial : Values) (cells : List Cell) (text : List ℕ) (line most : ℕ) (wrong : Wrong) → line + length text ≤ most → RefusesVariables path initial cells text line wrong → wrong.line ≤ most
variables_within path initial [] text line most wrong low h = absurd h
variables_within path initial (cell ∷ cells) text line most wrong low h =
    elim h [
      | inl a ↦ at_line line most wrong a.0 (omega (arith, low))
      | inr b ↦ elim b [
        | inl x ↦ variables_within path initial cells text line most wrong low x.1
        | inr y ↦
            let one : length y.1 < length text = next_shorter text y.2.line y.1 y.2.next in
            variables_within path initial cells y.1 (line + 1) most wrong (omega (arith, one, low)) y.3
      ]
    ]

task_within : (c : Config) (t : ℕ) (o : Option ProgramUnit) (from : Left) (most : ℕ) (wrong : Wrong) → from.line + length from.rest ≤ most → RefusesTask c t o from wrong → wrong.line ≤ most
task_within c t None from most wrong low h = absurd h
task_within c t (Some u) from most wrong low h = variables_within (task_path t) (opening_variables c u) (own_cells c u) from.rest from.line most wrong low h

tasks_within : (c : Config) (t count : ℕ) (from : Left) (most : ℕ) (wrong : Wrong) → from.line + length from.rest ≤ most → RefusesTasks c t count from wrong → wrong.line ≤ most
tasks_within c t zero from most wrong low h = absurd h
tasks_within c t (suc count) from most wrong low h =
    elim h [
      | inl a ↦ task_within c t (program_of c t) from most wrong low a
      | inr b ↦
          let one : b.1.line + length b.1.rest ≤ from.line + length from.rest = task_shorter c t (program_of c t) from b.0 b.1 b.2 in
          tasks_within c (t + 1) count b.1 most wrong (omega (arith, one, low)) b.3
    ]

module _ (c : Config) (digest text : List ℕ) where
  abbrev first : ℕ
  first = 7 + (sizes_of c).cars + (sizes_of c).slots

  from_head : (image : Image) (calls : Calls) (behind : List ℕ) → TakesHead (sizes_of c) digest text image calls behind → first + length behind ≤ first + length text
  from_head image calls behind h =
      let shorter : 5 + (sizes_of c).cars + (sizes_of c).slots + length behind ≤ length text = head_shorter (sizes_of c) digest text image calls behind h in
      omega (arith, shorter)

  from_globals : (image : Image) (calls : Calls) (behind : List ℕ) (globals : Reached) → TakesHead (sizes_of c) digest text image calls behind → TakesGlobals c behind first globals → globals.line + length globals.rest ≤ first + length text
  from_globals image calls behind globals h g =
      let before : first + length behind ≤ first + length text = from_head image calls behind h in
      let here : globals.line + length globals.rest ≤ first + length behind = globals_shorter c behind first globals g in
      omega (arith, before, here)

  -- the first wrong line of a text is one of its lines, or one that would have to come
  pub wrong_within : (wrong : Wrong) → IsNoState c digest text wrong → wrong.line ≤ first + length text
  wrong_within wrong h =
      elim h [
        | inl a ↦ head_within (sizes_of c) digest text (first + length text) wrong (omega arith) a
        | inr b ↦ elim b [
          | inl x ↦ variables_within global_path (opening_globals c) (global_cells c) x.2 first (first + length text) wrong (from_head x.0 x.1 x.2 x.3) x.4
          | inr d ↦ elim d [
            | inl y ↦ tasks_within c 0 (suc (sizes_of c).cars) (left y.3.rest y.3.line) (first + length text) wrong (from_globals y.0 y.1 y.2 y.3 y.4 y.5) y.6
            | inr z ↦
                let before : z.3.line + length z.3.rest ≤ first + length text = from_globals z.0 z.1 z.2 z.3 z.6 z.7 in
                let here : z.5.line + length z.5.rest ≤ z.3.line + length z.3.rest = tasks_shorter c 0 (suc (sizes_of c).cars) (left z.3.rest z.3.line) z.4 z.5 z.8 in
                at_line z.5.line (first + length text) wrong z.9.0 (omega (arith, before, here))
          ]
        ]
      ]
