-- What the pass keeps of a place (own rules): a range for each ranged variable, by its number, the result, and what is set aside.
use Rattle.std.specs.Prelude.{◌≡◌, ℕ, ◌<◌, Bool, false, true, if◌then◌else◌, nat_eq, List, [], ◌∷◌, ◌++◌, map, length, slice_get, slice_set, Option, Some, None, option_map, ◌+◌}
use Rattle.ranges_interval.specs.declared.Interval.{Interval}
use Rattle.ranges_interval.specs.Interval.{IsOperand, interval_join}
use Rattle.il_syntax.specs.ElementaryTypes.{is_same_type}
use Rattle.il_syntax.specs.declared.tree.Operator.{Operator}
use Rattle.il_syntax.specs.declared.tree.Operator.TheVariants.{Logic, Arithmetic, Comparison}
use Rattle.il_syntax.specs.declared.tree.Logic.{Logic as LogicKind}
use Rattle.il_syntax.specs.declared.tree.Logic.TheVariants.{Conjunction, Disjunction, Exclusive}
use Rattle.il_syntax.specs.declared.tree.Arithmetic.{Arithmetic as ArithmeticKind}
use Rattle.il_syntax.specs.declared.tree.Arithmetic.TheVariants.{Add, Sub, Mul, Div, Mod}
use Rattle.il_syntax.specs.declared.tree.Comparison.{Comparison as ComparisonKind}
use Rattle.il_syntax.specs.declared.tree.Comparison.TheVariants.{Greater, GreaterOrEqual, Equal, NotEqual, LessOrEqual, Less}
use Rattle.ranges_laws.specs.declared.facts.Facts.{Facts}
use Rattle.il_syntax.specs.declared.tree.Config.{Config}
use Rattle.il_syntax.specs.declared.tree.Unit.{Unit as ProgramUnit}
use Rattle.il_statics.specs.Names.{image_of, variables_of as declared_variables}
use Rattle.base_maps.specs.NameMap.{NameMap, Text, get, empty, insert}
use Rattle.il_semantics.specs.declared.known.Known.{Known}
use Rattle.il_semantics.specs.declared.known.Known.TheVariants.{Flag, Ranged}
use Rattle.il_semantics.specs.declared.known.KnownDeferred.{KnownDeferred}
use Rattle.il_semantics.specs.Annotation.{Knowledge, knowledge, declared_range}

-- ROWS: ranges by number

-- Which variables of a unit have a number: all into which it stores. Each other keeps its declared range.
pub record Names : Type 0 where
  pub config : Config
  pub unit : ProgramUnit
  pub numbers : NameMap ℕ
  pub count : ℕ

abbrev pub range_by : Option Interval → List Interval → Option ℕ → Option Interval
range_by declared row None = declared
range_by declared row (Some n) = slice_get row n

-- the range of a variable: that of its number, or its declared one
abbrev pub row_at : Names → List Interval → Text → Option Interval
row_at names row name = range_by (declared_range names.config names.unit name) row (get names.numbers name)

abbrev pub put_by : List Interval → Option ℕ → Interval → List Interval
put_by row None j = row
put_by row (Some n) j = slice_set row n j

-- another range for the number of a name
abbrev pub row_put : Names → List Interval → Text → Interval → List Interval
row_put names row name j = put_by row (get names.numbers name) j

abbrev pub row_join : List Interval → List Interval → List Interval
row_join [] js = []
row_join (i ∷ is) [] = []
row_join (i ∷ is) (j ∷ js) = interval_join i j ∷ row_join is js

-- the names that can have a range: those with a number, the unit's own, and those of the image
abbrev pub all_names : Names → List Text
all_names names =
    map (λ e. e.0) names.numbers.list
    ++ (map (λ v. v.name) (declared_variables names.unit) ++ map (λ i. i.variable.name) (image_of names.config.cars.value names.config.floors.value names.config.slots.value))

abbrev pub put_some : Option Interval → Text → NameMap Interval → NameMap Interval
put_some None name m = m
put_some (Some i) name m = insert m name i

-- a map with the ranges of some names
abbrev pub filled : (Text → Option Interval) → List Text → NameMap Interval
filled f [] = empty
filled f (n ∷ ns) = put_some (f n) n (filled f ns)

abbrev pub variables_of : Names → List Interval → NameMap Interval
variables_of names row = filled (row_at names row) (all_names names)

abbrev pub AreOperands : List Interval → Type 0
AreOperands [] = Unit {0}
AreOperands (i ∷ row) = IsOperand i × AreOperands row

-- a range for each number, which operations take; each name has a number of its own
pub record IsRowOf (names : Names) (row : List Interval) : Type 0 where
  pub long : length row ≡ names.count
  pub operands : AreOperands row
  pub inside : (q : Text) (n : ℕ) → get names.numbers q ≡ Some n → n < names.count
  pub distinct : (q r : Text) (n : ℕ) → get names.numbers q ≡ Some n → get names.numbers r ≡ Some n → q ≡ r
  pub declared : (q : Text) (i : Interval) → declared_range names.config names.unit q ≡ Some i → IsOperand i

-- FACTS

abbrev pub facts : List Interval → Option Known → List KnownDeferred → Facts
facts row result deferred = record { row = row; result = result; deferred = deferred }

abbrev pub with_result : Facts → Known → Facts
with_result f k = facts f.row (Some k) f.deferred

-- the facts as knowledge
abbrev pub shown : Names → Facts → Knowledge
shown names f = knowledge (variables_of names f.row) f.result f.deferred

abbrev pub IsFineKnown : Known → Type 0
IsFineKnown Flag = Unit {0}
IsFineKnown (Ranged e i) = IsOperand i

abbrev pub IsFineResult : Option Known → Type 0
IsFineResult None = Unit {0}
IsFineResult (Some k) = IsFineKnown k

abbrev pub AreFineDeferred : List KnownDeferred → Type 0
AreFineDeferred [] = Unit {0}
AreFineDeferred (d ∷ ds) = IsFineKnown d.left × AreFineDeferred ds

pub record IsFine (names : Names) (f : Facts) : Type 0 where
  pub row : IsRowOf names f.row
  pub result : IsFineResult f.result
  pub deferred : AreFineDeferred f.deferred

-- JOINS

abbrev pub logic_number : LogicKind → ℕ
logic_number Conjunction = 0
logic_number Disjunction = 1
logic_number Exclusive = 2

abbrev pub arithmetic_number : ArithmeticKind → ℕ
arithmetic_number Add = 6
arithmetic_number Sub = 7
arithmetic_number Mul = 8
arithmetic_number Div = 9
arithmetic_number Mod = 10

abbrev pub comparison_number : ComparisonKind → ℕ
comparison_number Greater = 11
comparison_number GreaterOrEqual = 12
comparison_number Equal = 13
comparison_number NotEqual = 14
comparison_number LessOrEqual = 15
comparison_number Less = 16

abbrev pub operator_number : Operator → ℕ
operator_number (Logic kind false) = logic_number kind
operator_number (Logic kind true) = 3 + logic_number kind
operator_number (Arithmetic kind) = arithmetic_number kind
operator_number (Comparison kind) = comparison_number kind

abbrev pub is_same_operator : Operator → Operator → Bool
is_same_operator a b = nat_eq (operator_number a) (operator_number b)

-- what is known of a value from two places, if one type has it
abbrev pub known_join : Known → Known → Option Known
known_join Flag Flag = Some Flag
known_join (Ranged e i) (Ranged f j) = if is_same_type e f then Some (Ranged e (interval_join i j)) else None
known_join Flag (Ranged f j) = None
known_join (Ranged e i) Flag = None

-- the result is kept where both have it with one type
abbrev pub result_join : Option Known → Option Known → Option Known
result_join None r = None
result_join (Some k) None = None
result_join (Some k) (Some l) = known_join k l

abbrev pub deferred_known : Operator → Option Known → Option KnownDeferred
deferred_known operator None = None
deferred_known operator (Some k) = Some (record { operator = operator; left = k })

abbrev pub one_join : KnownDeferred → KnownDeferred → Option KnownDeferred
one_join d e = if is_same_operator d.operator e.operator then deferred_known d.operator (known_join d.left e.left) else None

abbrev pub cons_if : Option KnownDeferred → Option (List KnownDeferred) → Option (List KnownDeferred)
cons_if None ds = None
cons_if (Some d) None = None
cons_if (Some d) (Some ds) = Some (d ∷ ds)

-- what is set aside at both; none where the operators differ
abbrev pub deferred_join : List KnownDeferred → List KnownDeferred → Option (List KnownDeferred)
deferred_join [] [] = Some []
deferred_join (d ∷ ds) (e ∷ es) = cons_if (one_join d e) (deferred_join ds es)
deferred_join [] (e ∷ es) = None
deferred_join (d ∷ ds) [] = None

-- what is known where two paths meet; none where nothing allows both
abbrev pub facts_join : Facts → Facts → Option Facts
facts_join f g =
    if nat_eq (length f.row) (length g.row) then option_map (facts (row_join f.row g.row) (result_join f.result g.result)) (deferred_join f.deferred g.deferred) else None
