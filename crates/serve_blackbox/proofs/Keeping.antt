-- A line that asks for another trace.
use Rattle.std.proofs.Common.{◌≡◌, ℕ, ◌++◌, ◌∷◌, Bool, true, false, List, [], ◌∙◌, subst}
use Rattle.std.specs.Prelude.{if◌then◌else◌, length}
use Rattle.il_syntax.specs.declared.tree.Config.{Config}
use Rattle.group_spec.specs.World.{World}
use Rattle.trace_text.specs.Text.{last_line}
use Rattle.serve_lines.specs.Waiting.{waiting_events}
use Rattle.serve_blackbox.specs.Heads.{head_text}
use Rattle.serve_blackbox.specs.Keeping.{Spot, Turns, kept_line, count_behind}

-- which of the two answers it is
pub answer_is : (kept : Bool) (name a b : List ℕ) → a ≡ kept_line name true → b ≡ kept_line name false → (if kept then a else b) ≡ kept_line name kept
answer_is true name a b is other = is
answer_is false name a b is other = other

-- the turn, by the head and the last line that it was given
pub turned : (c : Config) (source : List ℕ) (s t : Spot) (name head last : List ℕ) (kept : Bool) → head ≡ head_text c source s.world → last ≡ last_line s.count ++ 10 ∷ [] → Turns name head last kept s.trace t.trace s.made t.made
    → Turns name (head_text c source s.world) (last_line s.count ++ 10 ∷ []) kept s.trace t.trace s.made t.made
turned c source s t name head last kept is ends turns = subst (λ l. Turns name (head_text c source s.world) l kept s.trace t.trace s.made t.made) ends (subst (λ h. Turns name h last kept s.trace t.trace s.made t.made) is turns)

-- how many events are in the trace then
pub counted : (kept : Bool) (w : World) (count events next : ℕ) → events ≡ length (waiting_events w) → next ≡ (if kept then events else count) → next ≡ count_behind w count kept
counted true w count events next is so = so ∙ is
counted false w count events next is so = so
