use Rattle.std.proofs.Common.{◌∙◌, ap, sym, Bool, ℕ, Bor, List, fold}
use Rattle.std.proofs.lemmas.List.{take_all}
use Rattle.std.proofs.lemmas.List.Sums.{fold_more}
use Rattle.std.proofs.lemmas.List.Folds.{fold-map}
use Rattle.clap.specs.Words.{App, new_app, with_rule}
use Rattle.avm_input.specs.CommandLine.{number_rule}
use Rattle.avm_input.proofs.CommandNames.{with_local}
use Rattle.avm_input.proofs.command_line.numbered.Goals as goal

abbrev step : Bool → App → Bor (List ℕ) → App
step required command option = with_rule command (number_rule required option.now)

pub loop-option-preserved : goal.loop-option-preserved
loop-option-preserved c =
    let adds = c.in_ok-command.ensures in
    let local = c.number_option.ensures.local in
    let shape = adds.shape local ∙ (λ i. with_rule (c.loop-option.invariant.app i) (c.number_option.ensures.rule i)) in record {
      app = shape ∙ sym (fold_more (step c.args.required) (new_app c.args.name.now) c.args.options.now c.loop-option.option-index _ c.loop-option-test.true);
      local = with_local _ _ _ adds local ∙ c.loop-option.invariant.local;
    }

pub returns-clause-app : goal.returns-clause-app
returns-clause-app c =
    let first = new_app c.args.name.now in
    let all = take_all c.loop-option.option-index c.args.options.now c.loop-option-test.false in
    let mapped = fold-map (λ (command : App) (option : List ℕ). with_rule command (number_rule c.args.required option)) (λ (option : Bor (List ℕ)). option.now) first c.args.options.now in
    c.loop-option.invariant.app ∙ ap (fold (step c.args.required) first) all ∙ sym mapped
