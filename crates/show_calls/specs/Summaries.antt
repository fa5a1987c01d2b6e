-- What `calls --summary` prints (own rules).
use Rattle.std.specs.Prelude.{◌≡◌, ℕ, ◌+◌, ◌-◌, ◌*◌, ◌/◌, ◌%◌, Bool, false, not, List, [], ◌∷◌, ◌++◌, length, if◌then◌else◌, ◌==◌, sum, count_by, slice_index, is_none, is_some, Option, Some, None, option_map, IsPermutation, IsSorted, codes, decimal}
use Rattle.std.specs.List.{filter_map}
use Rattle.std.specs.Ordering.{nat_cmp}
use Rattle.show_calls.specs.declared.journey.Journey.{Journey}
use Rattle.show_calls.specs.declared.journey.Moment.{Moment}
use Rattle.show_calls.specs.declared.journey.Served.{Served}
use Rattle.show_calls.specs.declared.log.Log.{Log}

-- HOW MANY

abbrev pub is_told : Journey → Bool
is_told journey = is_some journey.told

abbrev pub is_boarded : Journey → Bool
is_boarded journey = is_some journey.boarded

abbrev pub is_served : Journey → Bool
is_served journey = is_some journey.served

-- whether a served call's car was not at the destination with its door open
abbrev pub ended_elsewhere : Option Served → Bool
ended_elsewhere None = false
ended_elsewhere (Some served) = not served.there

abbrev pub is_elsewhere : Journey → Bool
is_elsewhere journey = ended_elsewhere journey.served

abbrev pub is_open : Journey → Bool
is_open journey = is_none journey.served

-- a line of a name and a number
unfoldable pub count_text : List ℕ → ℕ → List ℕ
count_text name count = name ++ (codes " " ++ (decimal count ++ codes "\n"))

-- presses, and calls that were entered, told and boarded
unfoldable pub begun_text : ℕ → List Journey → List ℕ
begun_text pressed journeys =
    count_text (codes "pressed") pressed
    ++ (count_text (codes "entered") (length journeys) ++ (count_text (codes "told") (count_by is_told journeys) ++ count_text (codes "boarded") (count_by is_boarded journeys)))

-- calls that were served, those of them that were served elsewhere, and calls that are not served yet
unfoldable pub ended_text : List Journey → List ℕ
ended_text journeys =
    count_text (codes "served") (count_by is_served journeys)
    ++ (count_text (codes "served elsewhere") (count_by is_elsewhere journeys) ++ count_text (codes "not served") (count_by is_open journeys))

abbrev pub counts_text : ℕ → List Journey → List ℕ
counts_text pressed journeys = begun_text pressed journeys ++ ended_text journeys

-- HOW LONG

-- from NOW of one moment to NOW of another, in milliseconds; 0 where NOW went back
abbrev pub time_between : Moment → Moment → ℕ
time_between one other = other.now - one.now

-- waiting: from the entry to the boarding
abbrev pub waiting_time : Journey → Option ℕ
waiting_time journey = option_map (λ (m : Moment). time_between journey.entered m) journey.boarded

-- the journey: from the entry to the service
abbrev pub journey_time : Journey → Option ℕ
journey_time journey = option_map (λ (s : Served). time_between journey.entered s.at) journey.served

abbrev pub waiting_times : List Journey → List ℕ
waiting_times journeys = filter_map waiting_time journeys

abbrev pub journey_times : List Journey → List ℕ
journey_times journeys = filter_map journey_time journeys

-- the same times, rising
pub record AreOrdered (times ordered : List ℕ) : Type 0 where
  pub same : IsPermutation times ordered
  pub rising : IsSorted nat_cmp ordered

-- The nearest rank: of so many rising times the least that so many of 100 of them do not pass.
abbrev pub ranked : ℕ → List ℕ → ℕ
ranked percent ordered = slice_index ordered ((percent * length ordered + 99) / 100 - 1)

-- the mean, down to a whole millisecond
abbrev pub mean_of : List ℕ → ℕ
mean_of times = sum times / length times

-- milliseconds as seconds with three decimals
unfoldable pub seconds_text : ℕ → List ℕ
seconds_text time = decimal (time / 1000) ++ (codes "." ++ (decimal (time / 100 % 10) ++ (decimal (time / 10 % 10) ++ decimal (time % 10))))

-- mean and median of rising times
unfoldable pub middle_text : List ℕ → List ℕ
middle_text ordered = codes " mean " ++ (seconds_text (mean_of ordered) ++ (codes " median " ++ seconds_text (ranked 50 ordered)))

-- what 95 of 100 do not pass, and the greatest
unfoldable pub greatest_text : List ℕ → List ℕ
greatest_text ordered = codes " p95 " ++ (seconds_text (ranked 95 ordered) ++ (codes " greatest " ++ (seconds_text (ranked 100 ordered) ++ codes "\n")))

-- mean, median, what 95 of 100 do not pass, and the greatest, of rising times, where there are any
abbrev pub figures_text : List ℕ → List ℕ
figures_text ordered = if length ordered == 0 then codes " none\n" else middle_text ordered ++ greatest_text ordered

-- the text is a line of a name and the figures of these times
pub record IsTimesText (name : List ℕ) (times text : List ℕ) : Type 0 where
  pub ordered : List ℕ
  pub are : AreOrdered times ordered
  pub is : text ≡ name ++ figures_text ordered

-- The summary of a log: how many calls there were, how long they waited, and how long they took.
pub record IsSummaryOf (pressed : ℕ) (journeys : List Journey) (text : List ℕ) : Type 0 where
  pub waiting : List ℕ
  pub waiting_is : IsTimesText (codes "waiting time") (waiting_times journeys) waiting
  pub journey : List ℕ
  pub journey_is : IsTimesText (codes "journey time") (journey_times journeys) journey
  pub is : text ≡ counts_text pressed journeys ++ (waiting ++ journey)
