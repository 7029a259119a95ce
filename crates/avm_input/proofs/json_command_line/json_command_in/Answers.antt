use Rattle.std.proofs.Common.{◌∙◌, ap, map, List, ℕ, Bor}
use Rattle.std.proofs.lemmas.Result.{IfOk-weaker}
use Rattle.clap.specs.Words.{App, is_simple, is_simple_and_free}
use Rattle.avm_input.specs.CommandLine.{command_among}
use Rattle.avm_input.specs.JsonCommandLine.{json_command_named}
use Rattle.avm_input.proofs.CommandNames.{command_among-faulty, command_among-found, json_command_line_is_free, json_command_line_is_simple}
use Rattle.avm_input.proofs.json_command_line.json_command_in.Goals as goal

pub returns-in-Ok : goal.returns-in-Ok
returns-in-Ok c =
    let words = map (λ (word : Bor (List ℕ)). word.now) c.args.words.now in
    let line_is = c.in_ok-json_command_line.ensures in
    let no_fault = c.in-Ok.ensures.kinds (ap is_simple_and_free line_is ∙ json_command_line_is_free) in
    let rows_are = (c.in-Ok.ensures.matches (ap is_simple line_is ∙ json_command_line_is_simple)).1 in
    c.json_command_of.ensures ∙ command_among-found json_command_named _ _ _ no_fault rows_are
    ∙ ap (λ (a : App). command_among json_command_named a words) line_is

pub returns-in-Err : goal.returns-in-Err
returns-in-Err c =
    let words = map (λ (word : Bor (List ℕ)). word.now) c.args.words.now in
    let line_is = c.in_ok-json_command_line.ensures in
    let has = c.in-Err.ensures.kinds (ap is_simple_and_free line_is ∙ json_command_line_is_free) in
    IfOk-weaker c.no_command.result _ _
    (λ command h. command_among-faulty json_command_named _ _ c.in-Err.error command has h ∙ ap (λ (a : App). command_among json_command_named a words) line_is)
    c.no_command.ensures
