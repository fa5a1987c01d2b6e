-- What every state of a scan keeps: each variable a value of its declared set, each frame what is known at its place (own rule).
use Rattle.std.specs.Prelude.{◌≡◌, ◌≢◌, ℕ, ◌+◌, ◌-◌, ◌<◌, Bool, IsTrue, List, [], ◌∷◌, ◌++◌, length, slice_get, Option, Some, None, ℤ, Contains, codes}
use Rattle.il_syntax.specs.declared.tree.Scalar.{Scalar}
use Rattle.il_syntax.specs.declared.tree.Subrange.{Subrange}
use Rattle.il_syntax.specs.declared.tree.Form.{Form}
use Rattle.il_syntax.specs.declared.tree.Form.TheVariants.{Scalar as ScalarForm, Array as ArrayForm, Block as BlockForm}
use Rattle.il_syntax.specs.declared.tree.Instruction.{Instruction}
use Rattle.il_syntax.specs.declared.tree.Instruction.TheVariants.{Call, Invoke}
use Rattle.il_syntax.specs.declared.tree.Unit.{Unit as ProgramUnit}
use Rattle.il_syntax.specs.declared.tree.Config.{Config}
use Rattle.ranges_interval.specs.declared.Interval.{Interval}
use Rattle.ranges_interval.specs.Interval.{IsIn}
use Rattle.il_statics.specs.Names.{BlockVariables, block_variables, standard_function, unit_named, function_named, function_block_named, form_named}
use Rattle.il_statics.specs.Declarations.{is_within}
use Rattle.il_semantics.specs.declared.value.Value.TheVariants.{Integer}
use Rattle.il_semantics.specs.declared.value.Content.{Content}
use Rattle.il_semantics.specs.declared.value.Deferred.{Deferred}
use Rattle.base_maps.specs.NameMap.{NameMap, Text, get}
use Rattle.il_semantics.specs.State.{Values, Frame, State}
use Rattle.il_semantics.specs.Ranges.{HasValue}
use Rattle.il_semantics.specs.Meaning.{under, element_path, member_path}
use Rattle.il_semantics.specs.Scan.{used_names, found_units}
use Rattle.il_semantics.specs.Step.{truth, content, instruction_at}
use Rattle.ranges_interval.specs.Compared.{compared}
use Rattle.il_semantics.specs.Tests.{Test, compared_at, test_at}
use Rattle.il_semantics.specs.declared.known.Known.{Known}
use Rattle.il_semantics.specs.declared.known.Known.TheVariants.{Flag, Ranged}
use Rattle.il_semantics.specs.declared.known.KnownDeferred.{KnownDeferred}
use Rattle.il_semantics.specs.Annotation.{Knowledge, Annotation, IsAnnotated, places}
use Rattle.il_semantics.specs.Paths.{Rest, rest_at, table_of, longest_within}

-- UNITS IN USE

-- an instruction of a unit runs the body of another (2.5)
abbrev pub CallsBy : Config → ProgramUnit → ProgramUnit → Instruction → Type 0
CallsBy c u v (Call condition instance arguments) = (block : Text) × (form_named c u instance.name ≡ Some (BlockForm block)) × (function_block_named c block ≡ Some v)
CallsBy c u v (Invoke function operands) = (standard_function function.name ≡ None) × (function_named c function.name ≡ Some v)
CallsBy c u v _ = ⊥

-- a unit uses another: its body calls that function, or it has an instance of that block (2.5.1, 2.5.2)
abbrev pub HasUse : Config → ProgramUnit → ProgramUnit → Type 0
HasUse c u v = Contains (found_units c (used_names u)) v

-- a unit and those that use it, each the one before it, up to the program, which is last (2.5)
abbrev pub IsStack : Config → ProgramUnit → ProgramUnit → List ProgramUnit → Type 0
IsStack c p v [] = v ≡ p
IsStack c p v (u ∷ us) = HasUse c u v × IsStack c p u us

-- WHERE SCALARS ARE KEPT

-- a variable of a block, which a caller sees or not (2.5.2)
abbrev pub HasVariable : Config → Text → Text → Form → Type 0
HasVariable c block word form = (b : BlockVariables) × (block_variables c block ≡ Some b) × Contains (b.inputs ++ b.outputs ++ b.inner) (word, form)

-- in a variable of a form that is kept at a path, a scalar is kept at another (2.4.3)
pub data Keeps (c : Config) (q : Text) (s : Scalar) : Text → Form → Type 0 where
  itself : (path : Text) (form : Form) → form ≡ ScalarForm s → q ≡ path → Keeps c q s path form
  element : (path : Text) (form : Form) (bounds : Subrange) (z : ℤ) → form ≡ ArrayForm bounds s → IsTrue (is_within bounds z) → q ≡ element_path path z → Keeps c q s path form
  member : (path : Text) (form : Form) (block word : Text) (inner : Form) → form ≡ BlockForm block → HasVariable c block word inner → Keeps c q s (member_path path word) inner → Keeps c q s path form

-- a body of a unit at a path sees a scalar (2.4.3)
abbrev pub Sees : Config → ProgramUnit → Text → Text → Scalar → Type 0
Sees c u path q s = (name : Text) × (form : Form) × (form_named c u name ≡ Some form) × Keeps c q s (under path name) form

-- a scan of a program keeps a scalar at a path: those that the program sees, of the image and of globals too, and those of the functions that it uses, directly or not (2.4.3, 2.5)
pub data IsKept (c : Config) (p : ProgramUnit) (q : Text) (s : Scalar) : Type 0 where
  of_program : Sees c p [] q s → IsKept c p q s
  of_function : (f : ProgramUnit) (us : List ProgramUnit) (function : Text) → IsStack c p f us → function_named c function ≡ Some f → Sees c f f.name.name q s → IsKept c p q s

-- each has a value of its declared set (2.3.3.1)
abbrev pub Holds : Config → ProgramUnit → Values → Type 0
Holds c p values = (q : Text) (s : Scalar) → IsKept c p q s → HasValue values (q, s)

-- WHAT IS KNOWN

-- the content is as is known of it (own rule)
abbrev pub IsKnown : Known → Content → Type 0
IsKnown Flag x = (b : Bool) × (x ≡ truth b)
IsKnown (Ranged e i) x = (z : ℤ) × (x ≡ content e (Integer z)) × IsIn i z

-- the current result is as is known of it (own rule)
abbrev pub IsKnownResult : Option Known → Option Content → Type 0
IsKnownResult None result = Unit {0}
IsKnownResult (Some k) (Some x) = IsKnown k x
IsKnownResult (Some k) None = ⊥

-- the deferred operations are as is known of them (own rule)
abbrev pub AreKnown : List KnownDeferred → List Deferred → Type 0
AreKnown [] [] = Unit {0}
AreKnown (k ∷ ks) (d ∷ ds) = (k.operator ≡ d.operator) × IsKnown k.left d.left × AreKnown ks ds
AreKnown [] (d ∷ ds) = ⊥
AreKnown (k ∷ ks) [] = ⊥

-- what is known of the variables of a body at a path is known of scalars of its unit, and is so (own rule)
abbrev pub KnowsVariables : Config → ProgramUnit → Text → NameMap Interval → Values → Type 0
KnowsVariables c u path variables values = (name : Text) (i : Interval) → get variables name ≡ Some i →
    ((s : Scalar) × (form_named c u name ≡ Some (ScalarForm s))) × ((z : ℤ) × (get values (under path name) ≡ Some (Integer z)) × IsIn i z)

-- the variable of a test has a value, and the result is what is made of it (own rule)
abbrev pub HasTested : Text → Values → Test → (ℤ → Content) → Option Content → Type 0
HasTested path values t made result = (z : ℤ) × (get values (under path t.name) ≡ Some (Integer z)) × (result ≡ Some (made z))

-- After the LD of a test the result is the value of its variable; after its comparison it is the outcome for that value (own rule).
pub record IsTested (c : Config) (u : ProgramUnit) (path : Text) (place : ℕ) (values : Values) (result : Option Content) : Type 0 where
  pub loaded : (t : Test) → compared_at c u place ≡ Some t → HasTested path values t (λ z. content t.elementary (Integer z)) result
  pub compared : (t : Test) → test_at c u place ≡ Some t → HasTested path values t (λ z. truth (compared t.comparison z t.number)) result

-- FRAMES

-- A frame of a unit is within its body, where its annotation knows of its variables and its deferred operations what holds; and the scan keeps what it sees (own rule).
pub record FrameAgrees (c : Config) (p : ProgramUnit) (values : Values) (f : Frame) (u : ProgramUnit) (k : Knowledge) : Type 0 where
  pub named : unit_named c f.unit ≡ Some u
  pub among : Contains c.units u
  pub annotation : Annotation
  pub annotated : IsAnnotated c u annotation
  pub within : f.place < places u
  pub stands : slice_get annotation f.place ≡ Some (Some k)
  pub kept : (q : Text) (s : Scalar) → Sees c u f.path q s → IsKept c p q s
  pub variables : KnowsVariables c u f.path k.variables values
  pub deferred : AreKnown k.deferred f.deferred

-- the instruction of a frame of the unit has called the unit v, by its name, and its frame is at the path (own rule)
abbrev pub IsCallOf : Config → ProgramUnit → Frame → ProgramUnit → (name path : Text) → Instruction → Type 0
IsCallOf c u caller v name path (Call condition instance arguments) =
    (form_named c u instance.name ≡ Some (BlockForm name)) × (function_block_named c name ≡ Some v) × (path ≡ under caller.path instance.name)
IsCallOf c u caller v name path (Invoke function operands) = (standard_function function.name ≡ None) × (function_named c function.name ≡ Some v) × (path ≡ v.name.name)
IsCallOf c u caller v name path _ = ⊥

-- a frame that was called is at a path of its own: no frame below is at it, nor within it (2.5)
pub record StandsApart (path : Text) (below : List Frame) : Type 0 where
  pub some : path ≢ []
  pub other : (g : Frame) → Contains below g → ¬ (g.path ≡ path)
  pub outside : (g : Frame) (rest : Text) → Contains below g → ¬ (g.path ≡ path ++ (codes "." ++ rest))

-- Each frame below has called the one above it, of a unit by its name at a path, and agrees. The last is the program's (own rule).
abbrev pub CallersAgree : Config → ProgramUnit → Values → ProgramUnit → (name path : Text) → List Frame → Type 0
CallersAgree c p values v name path [] = (v ≡ p) × (path ≡ [])
CallersAgree c p values v name path (g ∷ below) =
    (u : ProgramUnit) × (k : Knowledge) × FrameAgrees c p values g u k × IsCallOf c u g v name path (instruction_at u.body g.place) × StandsApart path (g ∷ below) × CallersAgree c p values u g.unit g.path below

-- Every frame agrees, and the one that runs has the result that is known, also amid a test (own rule).
abbrev pub FramesAgree : Config → ProgramUnit → Values → Option Content → List Frame → Type 0
FramesAgree c p values result [] = Unit {0}
FramesAgree c p values result (f ∷ below) =
    (u : ProgramUnit) × (k : Knowledge) × FrameAgrees c p values f u k × IsKnownResult k.result result × CallersAgree c p values u f.unit f.path below × IsTested c u f.path f.place values result

-- A state of a scan of the program: its variables hold values of their declared sets, and its frames agree (own rule).
pub record Agrees (c : Config) (p : ProgramUnit) (s : State) : Type 0 where
  pub holds : Holds c p s.values
  pub frames : FramesAgree c p s.values s.result s.frames

-- STEPS LEFT

-- the table of a unit that may be missing, where units below it use one another so deep (own rule)
abbrev pub table_by : ℕ → Config → Option ProgramUnit → List Rest
table_by n c None = []
table_by n c (Some u) = table_of (longest_within n c) c u

-- what a frame above so many others may still cost from a place on (own rule)
abbrev pub frame_rest : Config → ℕ → Frame → ℕ → ℕ
frame_rest c below f place = (rest_at (table_by (15 - below) c (unit_named c f.unit)) 0 place).cost

-- what the frames that have called may still cost once they go on after their calls (own rule)
abbrev pub callers_left : Config → List Frame → ℕ
callers_left c [] = 0
callers_left c (f ∷ below) = frame_rest c (length below) f (f.place + 1) + callers_left c below

-- at most so many steps are left (own rule)
abbrev pub left : Config → List Frame → ℕ
left c [] = 0
left c (f ∷ below) = frame_rest c (length below) f f.place + callers_left c below
