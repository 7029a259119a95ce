use Rattle.std.proofs.Common.{◌≡◌, ℕ, Bor, List, false, fold, take}
use Rattle.clap.specs.declared.builder.command.Command.TheViews.{out-Command}
use Rattle.clap.specs.Words.{App, app_of, new_app, with_rule}
use Rattle.avm_input.specs.CommandLine.{number_rule}
use Rattle.avm_input.proofs.command_line.numbered.Given as goal

abbrev pub invariant-loop-option : goal.invariant-loop-option
invariant-loop-option l = record {
  app : app_of l.command ≡ fold (λ (command : App) (option : Bor (List ℕ)). with_rule command (number_rule l.required option.now)) (new_app l.name) (take l.option-index l.options);
  local : (out-Command l.command).has_globals ≡ false;
}
