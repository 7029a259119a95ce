use Rattle.std.proofs.Common.{◌∙◌, ap, sym, Bool, ℕ, Bor, List, fold, map}
use Rattle.std.proofs.lemmas.List.{take_all}
use Rattle.std.proofs.lemmas.List.Sums.{fold_more}
use Rattle.std.proofs.lemmas.List.Folds.{fold-map}
use Rattle.clap.specs.Words.{App, Text, with_subcommand}
use Rattle.avm_input.specs.CommandLine.{bare_line, numbered}
use Rattle.avm_input.proofs.CommandNames.{with_shape}
use Rattle.avm_input.proofs.command_line.program_line.Goals as goal

abbrev Row : Type 0
Row = Bor (List ℕ) × Bor (List (Bor (List ℕ)))

abbrev words_of : Row → Text × List Text
words_of row = (row.0.now, map (λ (option : Bor (List ℕ)). option.now) row.1.now)

abbrev step : Bool → App → Text × List Text → App
step required line row = with_subcommand line (numbered required row.0 row.1).top

pub loop-row-preserved : goal.loop-row-preserved
loop-row-preserved c =
    let one = with_shape _ _ _ _ _ c.in_ok-line.ensures c.in_ok-command.ensures.local c.loop-row.invariant.app c.in_ok-command.ensures.app in record {
      app = one ∙ sym (fold_more (λ (line : App) (row : Row). step c.args.required line (words_of row)) (bare_line c.args.program.now) c.args.commands.now c.loop-row.row-index _ c.loop-row-test.true);
    }

pub returns : goal.returns
returns c =
    let first = bare_line c.args.program.now in
    let all = take_all c.loop-row.row-index c.args.commands.now c.loop-row-test.false in
    let mapped = fold-map (step c.args.required) words_of first c.args.commands.now in
    c.loop-row.invariant.app ∙ ap (fold (λ (line : App) (row : Row). step c.args.required line (words_of row)) first) all ∙ sym mapped
