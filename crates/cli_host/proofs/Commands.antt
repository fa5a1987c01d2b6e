-- Which commands have the same name.
use Rattle.std.proofs.Common.{◌≡◌, ℕ, List, refl, sym, ap, ◌∙◌, length}
use Rattle.std.specs.Prelude.{codes, slice_index, ◌+◌, ◌*◌, ◌==◌, if◌then◌else◌}
use Rattle.cli_host.specs.Requests.{word_of}
use Rattle.cli_host.specs.declared.request.Following.TheVariants as following
use Rattle.cli_host.specs.declared.request.Name.{Name}
use Rattle.cli_host.specs.declared.request.Name.TheVariants as name
use Rattle.cli_host.specs.declared.request.Showing.TheVariants as showing
use Rattle.cli_host.specs.declared.request.Simulating.TheVariants as simulating

-- a word's length and first two letters say which command it names
key_of : List ℕ → ℕ
key_of word = 65536 * length word + (256 * slice_index word 0 + slice_index word 1)

named : ℕ → Name
named key =
    if key == key_of (codes "check") then name.Check else if key == key_of (codes "ranges") then name.Show showing.Ranges else if key == key_of (codes "xref") then name.Show showing.Xref
    else if key == key_of (codes "sim") then name.Rounds simulating.Sim else if key == key_of (codes "run") then name.Rounds simulating.Run
    else if key == key_of (codes "denials") then name.Rounds simulating.Denials else if key == key_of (codes "watch") then name.Rounds simulating.Watch
    else if key == key_of (codes "replay") then name.Trace following.Replay
    else if key == key_of (codes "draw") then name.Trace following.Draw else if key == key_of (codes "scan") then name.Trace following.Scan else name.Trace following.Calls

-- the simulation that has the name of a command over a trace
abbrev pub same_of : Name → Name
same_of (name.Trace following.Denials) = name.Rounds simulating.Denials
same_of (name.Trace following.Watch) = name.Rounds simulating.Watch
same_of other = other

is_named : (n : Name) → named (key_of (word_of n)) ≡ same_of n
unfolding named key_of
is_named name.Check = refl
is_named (name.Show showing.Ranges) = refl
is_named (name.Show showing.Xref) = refl
is_named (name.Rounds simulating.Sim) = refl
is_named (name.Rounds simulating.Run) = refl
is_named (name.Rounds simulating.Denials) = refl
is_named (name.Rounds simulating.Watch) = refl
is_named (name.Trace following.Replay) = refl
is_named (name.Trace following.Draw) = refl
is_named (name.Trace following.Calls) = refl
is_named (name.Trace following.Denials) = refl
is_named (name.Trace following.Watch) = refl
is_named (name.Trace following.Scan) = refl

-- so a word names one command, or `denials` or `watch`
pub one_name : (n m : Name) → word_of n ≡ word_of m → same_of n ≡ same_of m
one_name n m is = sym (is_named n) ∙ ap (λ word. named (key_of word)) is ∙ is_named m
