-- What a command of `avm_json` answers.
use Rattle.std.specs.Prelude.{◌≡◌, ℕ, List, codes}
use Rattle.avm_input.specs.declared.json_command_line.JsonCommand.{JsonCommand}
use Rattle.avm_input.specs.declared.json_command_line.JsonCommand.TheVariants.{Lines, Page, Run, Show, Trace}
use Rattle.avm_input.specs.Replies.{Reply, usage}
use Rattle.json_documents.specs.Replies.{lines_reply}
use Rattle.json_views.specs.Runs.{IsRunReply}
use Rattle.json_views.specs.Show.{show_reply}
use Rattle.json_views.specs.TraceReplies.{IsTraceReply}
use Rattle.json_commands.specs.Pages.{IsPageReply}

-- what words that are no command are answered with
abbrev pub usage_reply : Reply
usage_reply = record { text = codes "usage: avm_json lines|show|run|trace [--entry N]|page [--entry N]\n"; status = usage }

-- what a command answers to an input that is not too long
abbrev pub IsJsonReply : JsonCommand → List ℕ → Reply → Type 0
IsJsonReply Lines input reply = reply ≡ lines_reply input
IsJsonReply Show input reply = reply ≡ show_reply input
IsJsonReply Run input reply = IsRunReply input reply
IsJsonReply (Trace entry) input reply = IsTraceReply entry input reply
IsJsonReply (Page entry) input reply = IsPageReply entry input reply
