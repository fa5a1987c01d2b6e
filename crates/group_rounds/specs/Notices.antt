-- What a round has to tell beside the outputs (own rules).
use Rattle.std.specs.Prelude.{ℕ, zero, suc, List, [], ◌∷◌, ◌++◌, map, flat_map, Option, Some, None}
use Rattle.group_spec.specs.declared.calls.Answer.{Answer}
use Rattle.group_spec.specs.declared.calls.Answer.TheVariants.{Done, Stale, NotYours, NoSlot}
use Rattle.group_spec.specs.declared.report.Answered.{Answered}
use Rattle.group_spec.specs.declared.report.Report.{Report}
use Rattle.group_rounds.specs.declared.notice.Notice.{Notice}
use Rattle.group_rounds.specs.declared.notice.Notice.TheVariants.{Entered, Denied, Told, Served}

-- GROUP, which is task 0, tells a call to a car, and a car serves it
abbrev pub done_by : ℕ → ℕ → ℕ → Notice
done_by zero ticket car = Told ticket car
done_by (suc k) ticket car = Served ticket car

-- a tell or a serve of a task for a car, under a ticket, if it was done
abbrev pub done_notice : ℕ → ℕ → Option ℕ → Answer → List Notice
done_notice task car None answer = []
done_notice task car (Some ticket) Done = done_by task ticket car ∷ []
done_notice task car (Some ticket) Stale = []
done_notice task car (Some ticket) NotYours = []
done_notice task car (Some ticket) NoSlot = []

-- a notice or none, as a list
abbrev pub notices_of : Option Notice → List Notice
notices_of None = []
notices_of (Some notice) = notice ∷ []

-- the tells or the serve of a task's commit that were done, in the order of its report
abbrev pub answered_notices : ℕ → List Answered → List Notice
answered_notices task answers = flat_map (λ (a : Answered). done_notice task a.car a.ticket a.answer) answers

-- of a refresh: the calls that it entered, and then what it denied
abbrev pub refresh_notices : Report → List Notice
refresh_notices report = map Entered report.entered ++ map Denied report.denials

-- of a task's commit: what it denied, and then what was told or served
abbrev pub commit_notices : ℕ → Report → List Notice
commit_notices task report = map Denied report.denials ++ answered_notices task report.answers
