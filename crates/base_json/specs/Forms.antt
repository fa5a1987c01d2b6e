-- In which form lines are printed (own rules).
use Rattle.std.specs.Prelude.{ℕ, Bool, if◌then◌else◌, List}
use Rattle.json.specs.Token.{Token}
use Rattle.base_json.specs.declared.form.Form.{Form}
use Rattle.base_json.specs.declared.form.Form.TheVariants.{Plain, Json}
use Rattle.base_json.specs.Objects.{object, line_of}

-- JSON where that is asked for
abbrev pub form_of : Bool → Form
form_of json = if json then Json else Plain

-- a row in a form: its plain line, or the object that has these members
abbrev pub row_in : Form → List ℕ → List Token → List ℕ
row_in Plain line members = line
row_in Json line members = line_of (object members)
