-- What a command reports of a trace (own rules).
use Rattle.std.specs.Prelude.{Option, Some, None}
use Rattle.base_json.specs.Forms.{form_of}
use Rattle.cli_host.specs.declared.request.Following.{Following}
use Rattle.cli_host.specs.declared.request.Following.TheVariants as following
use Rattle.cli_host.specs.declared.request.Traced.{Traced}
use Rattle.cli_output.specs.declared.telling.Telling.{Telling}
use Rattle.cli_output.specs.declared.telling.Telling.TheVariants.{Image, Picture, Calls, Denials, Values}

-- what a command reports of a whole trace, by what it takes; `scan` shows a part of one
abbrev pub telling_of : Following → Traced → Option Telling
telling_of following.Replay traced = Some Image
telling_of following.Draw traced = Some (Picture traced.span)
telling_of following.Calls traced = Some (Calls (form_of traced.json) traced.flag)
telling_of following.Denials traced = Some (Denials (form_of traced.json) traced.flag)
telling_of following.Watch traced = Some (Values traced.names traced.flag)
telling_of following.Scan traced = None
