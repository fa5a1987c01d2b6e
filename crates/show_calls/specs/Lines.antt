-- What `calls` prints of each call (own rules).
use Rattle.std.specs.Prelude.{ℕ, Bool, true, false, List, [], ◌++◌, flat_map, Option, Some, None, option_map, codes, decimal}
use Rattle.json.specs.Token.{Token}
use Rattle.base_json.specs.declared.form.Form.{Form}
use Rattle.base_json.specs.declared.form.Form.TheVariants.{Plain, Json}
use Rattle.base_json.specs.Forms.{row_in}
use Rattle.base_json.specs.Objects.{null_member, number_member, truth_member}
use Rattle.show_calls.specs.declared.journey.Journey.{Journey}
use Rattle.show_calls.specs.declared.journey.Moment.{Moment}
use Rattle.show_calls.specs.declared.journey.Served.{Served}
use Rattle.show_calls.specs.declared.journey.Told.{Told}

-- AS A LINE OF CSV

-- a number after a comma; nothing but the comma where there is none
abbrev pub number_text : Option ℕ → List ℕ
number_text None = codes ","
number_text (Some n) = codes "," ++ decimal n

-- TRUE or FALSE after a comma
abbrev pub truth_text : Option Bool → List ℕ
truth_text None = codes ","
truth_text (Some true) = codes ",TRUE"
truth_text (Some false) = codes ",FALSE"

-- the ticket, the floors, and the rounds of the press and of the entry
unfoldable pub beginning_text : Journey → List ℕ
beginning_text journey =
    decimal journey.ticket ++ (codes "," ++ (decimal journey.call.from ++ (codes "," ++ (decimal journey.call.to ++ (number_text journey.pressed ++ (codes "," ++ decimal journey.entered.round))))))

-- the round of the telling and the car
abbrev pub told_text : Option Told → List ℕ
told_text told = number_text (option_map (λ (t : Told). t.round) told) ++ number_text (option_map (λ (t : Told). t.car) told)

-- the round of the boarding
abbrev pub boarded_text : Option Moment → List ℕ
boarded_text boarded = number_text (option_map (λ (m : Moment). m.round) boarded)

-- the round of the service, and whether the car stood at the destination with its door open
abbrev pub served_text : Option Served → List ℕ
served_text served = number_text (option_map (λ (s : Served). s.at.round) served) ++ truth_text (option_map (λ (s : Served). s.there) served)

-- a line of a call
abbrev pub journey_text : Journey → List ℕ
journey_text journey = beginning_text journey ++ (told_text journey.told ++ (boarded_text journey.boarded ++ (served_text journey.served ++ codes "\n")))

-- AS AN OBJECT

-- a number, null where there is none
abbrev pub number_members : List ℕ → Option ℕ → List Token
number_members name None = null_member name
number_members name (Some n) = number_member name n

-- true or false, null where it isn't known
abbrev pub truth_members : List ℕ → Option Bool → List Token
truth_members name None = null_member name
truth_members name (Some truth) = truth_member name truth

-- the ticket, the floors, and the rounds of the press and of the entry
abbrev pub beginning_members : Journey → List Token
beginning_members journey =
    number_member (codes "ticket") journey.ticket
    ++ (number_member (codes "from") journey.call.from
    ++ (number_member (codes "to") journey.call.to ++ (number_members (codes "pressed") journey.pressed ++ number_member (codes "entered") journey.entered.round)))

-- the round of the telling and the car
abbrev pub told_members : Option Told → List Token
told_members told = number_members (codes "told") (option_map (λ (t : Told). t.round) told) ++ number_members (codes "car") (option_map (λ (t : Told). t.car) told)

-- the round of the boarding
abbrev pub boarded_members : Option Moment → List Token
boarded_members boarded = number_members (codes "boarded") (option_map (λ (m : Moment). m.round) boarded)

-- the round of the service, and whether the car stood at the destination with its door open
abbrev pub served_members : Option Served → List Token
served_members served = number_members (codes "served") (option_map (λ (s : Served). s.at.round) served) ++ truth_members (codes "there") (option_map (λ (s : Served). s.there) served)

-- the members of a call
abbrev pub journey_members : Journey → List Token
journey_members journey = beginning_members journey ++ (told_members journey.told ++ (boarded_members journey.boarded ++ served_members journey.served))

-- ALL CALLS

-- a call in a form
abbrev pub journey_row : Form → Journey → List ℕ
journey_row form journey = row_in form (journey_text journey) (journey_members journey)

-- the names of the columns, before lines of CSV
abbrev pub header_in : Form → List ℕ
header_in Plain = codes "TICKET,FROM,TO,PRESSED,ENTERED,TOLD,CAR,BOARDED,SERVED,THERE\n"
header_in Json = []

-- the calls in a form
abbrev pub lines_in : Form → List Journey → List ℕ
lines_in form journeys = header_in form ++ flat_map (journey_row form) journeys
