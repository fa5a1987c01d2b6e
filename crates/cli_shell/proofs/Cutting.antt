-- Traces that were cut off, and what is read of them.
use Rattle.std.proofs.Common.{◌≡◌, ◌++◌, [], refl}
use Rattle.std.specs.Prelude.{codes, decimal}
use Rattle.cli_shell.specs.Cuts.{completed}

-- in the middle of a line
pub in_a_line : completed (codes "LIFTTRACE 2\nS 1\nC") ≡ codes "LIFTTRACE 2\nS 1\nE " ++ decimal 1 ++ codes "\n"
in_a_line = refl

-- after a line
pub behind_a_line : completed (codes "LIFTTRACE 2\nS 1\nC 1\n") ≡ codes "LIFTTRACE 2\nS 1\nC 1\nE " ++ decimal 2 ++ codes "\n"
behind_a_line = refl

-- after the head, and in it
pub behind_the_head : completed (codes "LIFTTRACE 2\n") ≡ codes "LIFTTRACE 2\nE " ++ decimal 0 ++ codes "\n"
behind_the_head = refl

pub in_the_head : completed (codes "LIFTTRACE 2") ≡ []
in_the_head = refl

-- not at all, in the end, and after it
pub whole : completed (codes "LIFTTRACE 2\nS 1\nE 1\n") ≡ codes "LIFTTRACE 2\nS 1\nE 1\n"
whole = refl

pub in_the_end : completed (codes "LIFTTRACE 2\nS 1\nE 1") ≡ codes "LIFTTRACE 2\nS 1\nE " ++ decimal 1 ++ codes "\n"
in_the_end = refl

pub behind_the_end : completed (codes "LIFTTRACE 2\nS 1\nE 1\nS") ≡ codes "LIFTTRACE 2\nS 1\nE 1\n"
behind_the_end = refl

-- with a wrong end, which stays
pub wrong_end : completed (codes "LIFTTRACE 2\nS 1\nE 7\n") ≡ codes "LIFTTRACE 2\nS 1\nE 7\n"
wrong_end = refl

-- after a state, and in it: its lines are none of events
pub behind_a_state : completed (codes "LIFTTRACE 3\nNOW 100\nSLOT 1 FREE\nP 1 2\nG 1\nR") ≡ codes "LIFTTRACE 3\nNOW 100\nSLOT 1 FREE\nP 1 2\nG 1\nE " ++ decimal 2 ++ codes "\n"
behind_a_state = refl

pub in_a_state : completed (codes "LIFTTRACE 3\nNOW 100\nSLOT 1") ≡ codes "LIFTTRACE 3\nNOW 100\nE " ++ decimal 0 ++ codes "\n"
in_a_state = refl
