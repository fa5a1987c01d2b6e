-- How ranges, types, operands and the lines of declarations are reported (own rules).
use Rattle.std.specs.Prelude.{ℕ, int_le, List, [], ◌∷◌, ◌++◌, if◌then◌else◌, Option, Some, None, codes, decimal, bytes_eq}
use Rattle.std.specs.Fmt.{signed_decimal}
use Rattle.il_syntax.specs.declared.tree.Declaration.{Declaration}
use Rattle.il_syntax.specs.declared.tree.Index.{Index}
use Rattle.il_syntax.specs.declared.tree.Index.TheVariants.{Number, Variable as ByVariable}
use Rattle.il_syntax.specs.declared.tree.Named.{Named}
use Rattle.il_syntax.specs.declared.tree.Reference.{Reference}
use Rattle.il_syntax.specs.declared.tree.Reference.TheVariants.{Literal, Variable, Element, Member}
use Rattle.il_syntax.specs.declared.tree.Scalar.{Scalar}
use Rattle.il_syntax.specs.declared.tree.Subrange.{Subrange}
use Rattle.il_syntax.specs.declared.tree.Unit.{Unit as ProgramUnit}
use Rattle.il_syntax.specs.declared.tree.UnitKind.{UnitKind}
use Rattle.il_syntax.specs.declared.tree.UnitKind.TheVariants.{Function, FunctionBlock, Program}
use Rattle.ranges_interval.specs.declared.Interval.{Interval}
use Rattle.il_statics.specs.Names.{Spelling, or_else}
use Rattle.il_statics.specs.Declarations.{declared_limits}
use Rattle.reasons_types.specs.TypeWords.{type_word}

-- RANGES AND TYPES

-- `LO..HI`; TIME is in milliseconds
unfoldable pub both_text : Interval → List ℕ
both_text i = signed_decimal i.lo ++ (codes ".." ++ signed_decimal i.hi)

-- the same, or the number alone where there is one
unfoldable pub ends_text : Interval → List ℕ
ends_text i = if int_le i.hi i.lo then signed_decimal i.lo else both_text i

-- the same of written limits
unfoldable pub limits_text : Subrange → List ℕ
limits_text s = signed_decimal s.lower ++ (codes ".." ++ signed_decimal s.upper)

-- ` (LO..HI)`, where there are limits
abbrev pub within_text : Option Subrange → List ℕ
within_text None = []
within_text (Some s) = codes " (" ++ (limits_text s ++ codes ")")

-- a scalar type with its limits, as `INT (0..9)`
abbrev pub scalar_text : Scalar → List ℕ
scalar_text s = type_word s.elementary ++ within_text (declared_limits s)

-- OPERANDS

-- an index
abbrev pub index_text : Index → List ℕ
index_text (Number z) = signed_decimal z
index_text (ByVariable name) = name

-- ` I`, an index that has a name
abbrev pub index_name : Index → List ℕ
index_name (Number z) = []
index_name (ByVariable name) = codes " " ++ name

-- what an operand names, as it is written; a literal names nothing
abbrev pub reference_text : Reference → List ℕ
reference_text (Literal l) = []
reference_text (Variable name) = name
reference_text (Element name index) = name ++ (codes "[" ++ (index_text index ++ codes "]"))
reference_text (Member name word) = name ++ (codes "." ++ word)

-- THE LINE OF A DECLARATION

-- the line of the first of some names that is this one
abbrev pub line_among : List Named → Spelling → Option ℕ
line_among [] name = None
line_among (n ∷ names) name = if bytes_eq n.name name then Some n.place.line else line_among names name

-- the same of the names of declarations
abbrev pub line_in : List Declaration → Spelling → Option ℕ
line_in [] name = None
line_in (d ∷ declarations) name = or_else (line_among d.names name) (line_in declarations name)

-- the line of a function's heading, under its own name
abbrev pub result_line : UnitKind → Named → Spelling → Option ℕ
result_line (Function scalar place) own name = line_among (own ∷ []) name
result_line FunctionBlock own name = None
result_line Program own name = None

-- the line in which a unit declares the variable that it means by a name; an image name has none
abbrev pub declared_line : ProgramUnit → Spelling → Option ℕ
declared_line u name =
    or_else (result_line u.kind u.name name) (or_else (line_in u.inputs name) (or_else (line_in u.outputs name) (or_else (line_in u.variables name) (line_in u.externals name))))

-- `, declared in line N`, where there is a line
abbrev pub declared_text : Option ℕ → List ℕ
declared_text None = []
declared_text (Some line) = codes ", declared in line " ++ decimal line

-- `, C declared in line N`, where there is a line
abbrev pub instance_text : Spelling → Option ℕ → List ℕ
instance_text name None = []
instance_text name (Some line) = codes ", " ++ (name ++ (codes " declared in line " ++ decimal line))

-- the line in which what an operand names is declared, of a member the instance
abbrev pub where_text : ProgramUnit → Reference → List ℕ
where_text u (Literal l) = []
where_text u (Variable name) = declared_text (declared_line u name)
where_text u (Element name index) = declared_text (declared_line u name)
where_text u (Member name word) = instance_text name (declared_line u name)
