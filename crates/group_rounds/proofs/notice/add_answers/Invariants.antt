use Rattle.std.proofs.Common.{◌≡◌, ◌++◌, ◌≤◌, ◌+◌, length, take}
use Rattle.group_rounds.specs.Notices.{answered_notices}
use Rattle.group_rounds.proofs.notice.add_answers.Given as goal

abbrev pub invariant-answers : goal.invariant-answers
invariant-answers l = record {
  told : l.notices ≡ l.initial.notices ++ answered_notices l.task (take l.answered-index l.answers);
  room : length l.notices ≤ length l.initial.notices + l.answered-index;
}
