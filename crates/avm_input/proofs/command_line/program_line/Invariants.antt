use Rattle.std.proofs.Common.{◌≡◌, ℕ, Bor, List, fold, map, take}
use Rattle.clap.specs.Words.{App, app_of, with_subcommand}
use Rattle.avm_input.specs.CommandLine.{bare_line, numbered}
use Rattle.avm_input.proofs.command_line.program_line.Given as goal

abbrev pub invariant-loop-row : goal.invariant-loop-row
invariant-loop-row l = record {
  app : app_of l.line ≡ fold (λ (line : App) (row : Bor (List ℕ) × Bor (List (Bor (List ℕ)))). with_subcommand line (numbered l.required row.0.now (map (λ (option : Bor (List ℕ)). option.now) row.1.now)).top) (bare_line l.program) (take l.row-index l.commands);
}
