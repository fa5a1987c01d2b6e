-- `run` among the requests.
use Rattle.std.proofs.Common.{◌≡◌, false}
use Rattle.cli_host.specs.declared.request.Name.TheVariants as name
use Rattle.cli_host.specs.declared.request.Request.{Request}
use Rattle.cli_host.specs.declared.request.Request.TheVariants as request
use Rattle.cli_host.specs.declared.request.Simulating.TheVariants as simulating
use Rattle.cli_host.specs.Requests.{command_of}
use Rattle.cli_shell.specs.Runs.{runs}

-- a request that isn't `run` has another command
pub other_command : (r : Request) → runs r ≡ false → command_of r ≡ name.Rounds simulating.Run → ⊥
other_command (request.Check checked) e is = cc
other_command (request.Show command shown) e is = cc
other_command (request.Rounds simulating.Sim rounds) e is = cc
other_command (request.Rounds simulating.Run rounds) e is = cc
other_command (request.Rounds simulating.Denials rounds) e is = cc
other_command (request.Rounds simulating.Watch rounds) e is = cc
other_command (request.Trace command traced) e is = cc
