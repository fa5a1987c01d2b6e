-- What `denials` prints (own rules).
use Rattle.std.specs.Prelude.{ℕ, Bool, true, false, ◌||◌, not, if◌then◌else◌, List, [], ◌++◌, flat_map, codes, decimal}
use Rattle.json.specs.Token.{Token}
use Rattle.base_json.specs.declared.form.Form.{Form}
use Rattle.base_json.specs.declared.form.Form.TheVariants.{Plain}
use Rattle.base_json.specs.Forms.{row_in}
use Rattle.base_json.specs.Objects.{number_member, text_member}
use Rattle.group_spec.specs.declared.calls.Answer.{Answer}
use Rattle.group_spec.specs.declared.calls.Answer.TheVariants.{Done, Stale, NotYours, NoSlot}
use Rattle.group_spec.specs.declared.report.Answered.{Answered}
use Rattle.group_spec.specs.declared.report.Denial.{Denial}
use Rattle.group_spec.specs.declared.report.Rule.{Rule}
use Rattle.group_spec.specs.declared.report.Rule.TheVariants.{Reversal, Unlocked, AtEnd, NotLevel, Crowded, Fire}
use Rattle.group_spec.specs.Settle.{rule_number, rule_sentence}
use Rattle.group_spec.specs.Snapshot.{task_name}
use Rattle.group_rounds.specs.Shown.{Shows}

-- `round R EVENT CARc rule n: sentence`, where EVENT is `refresh` or `commit`
unfoldable pub denial_text : List ℕ → ℕ → Denial → List ℕ
denial_text event round d =
    codes "round " ++ (decimal round ++ (codes " " ++ (event ++ (codes " CAR" ++ (decimal d.car ++ (codes " rule " ++ (decimal (rule_number d.rule) ++ (codes ": " ++ (rule_sentence d.rule ++ codes "\n")))))))))

-- `round R commit TASK slot S answer`
unfoldable pub undone_text : ℕ → ℕ → ℕ → List ℕ → List ℕ
undone_text round task slot answer = codes "round " ++ (decimal round ++ (codes " commit " ++ (task_name task ++ (codes " slot " ++ (decimal slot ++ (codes " " ++ (answer ++ codes "\n")))))))

-- the round, the event and its task
unfoldable pub event_members : ℕ → List ℕ → List ℕ → List Token
event_members round event task = number_member (codes "round") round ++ (text_member (codes "by") event ++ text_member (codes "task") task)

-- a rule, and what it says
unfoldable pub rule_members : Rule → List Token
rule_members rule = number_member (codes "rule") (rule_number rule) ++ text_member (codes "says") (rule_sentence rule)

-- a slot, and what its tell or serve was answered
unfoldable pub answer_members : ℕ → List ℕ → List Token
answer_members slot answer = number_member (codes "slot") slot ++ text_member (codes "answer") answer

-- the members of a denial
abbrev pub denial_members : List ℕ → ℕ → Denial → List Token
denial_members event round d = event_members round event (codes "CAR" ++ decimal d.car) ++ rule_members d.rule

-- the members of what was not done
abbrev pub undone_members : ℕ → ℕ → ℕ → List ℕ → List Token
undone_members round task slot answer = event_members round (codes "commit") (task_name task) ++ answer_members slot answer

-- ROWS

-- a denial, and what was not done
abbrev pub denial_row : Form → List ℕ → ℕ → Denial → List ℕ
denial_row form event round d = row_in form (denial_text event round d) (denial_members event round d)

abbrev pub undone_row : Form → ℕ → ℕ → ℕ → List ℕ → List ℕ
undone_row form round task slot answer = row_in form (undone_text round task slot answer) (undone_members round task slot answer)

-- what the tell or the serve of a slot was answered that was not done
abbrev pub answer_row : Form → ℕ → ℕ → ℕ → Answer → List ℕ
answer_row form round task slot Done = []
answer_row form round task slot Stale = undone_row form round task slot (codes "stale")
answer_row form round task slot NotYours = undone_row form round task slot (codes "not yours")
answer_row form round task slot NoSlot = undone_row form round task slot (codes "no slot")

-- whether a rule stops a running car at an end of its shaft
abbrev pub is_end_stop : Rule → Bool
is_end_stop Reversal = false
is_end_stop Unlocked = false
is_end_stop AtEnd = true
is_end_stop NotLevel = false
is_end_stop Crowded = false
is_end_stop Fire = false

-- a denial of a refresh: a stop at an end of the shaft, which no program can avoid, only where all are shown
abbrev pub refresh_denial_row : Form → Bool → ℕ → Denial → List ℕ
refresh_denial_row form all round d = if all || not (is_end_stop d.rule) then denial_row form (codes "refresh") round d else []

-- the denials of a refresh, in the order of its report
abbrev pub refresh_rows : Form → Bool → ℕ → List Denial → List ℕ
refresh_rows form all round denials = flat_map (refresh_denial_row form all round) denials

-- the denials of a commit
abbrev pub denials_rows : Form → ℕ → List Denial → List ℕ
denials_rows form round denials = flat_map (denial_row form (codes "commit") round) denials

-- the answers of a commit that were not done, in the order of its report
abbrev pub answers_rows : Form → ℕ → ℕ → List Answered → List ℕ
answers_rows form round task answers = flat_map (λ (a : Answered). answer_row form round task a.slot a.answer) answers

-- of each refresh its denials, and of each commit its denials and then its answers, in a form
abbrev pub denied_in : Form → Bool → Shows
denied_in form all =
    record {
      of_refresh = λ round report. refresh_rows form all round report.denials;
      of_commit = λ round task report. denials_rows form round report.denials ++ answers_rows form round task report.answers;
      of_round = λ round commits w. [];
    }

-- the same in lines
abbrev pub denied : Bool → Shows
denied all = denied_in Plain all
