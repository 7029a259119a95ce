use Rattle.std.proofs.Common.{◌∙◌, ap, option_and_then}
use Rattle.std.specs.Str.Parse.{ParsesUnsigned, ExplainsUnsignedError, HasUnsignedDigitsIfOk}
use Rattle.clap.specs.Words.{found_of}
use Rattle.clap.proofs.WalkLemmas.{one_text-rows}
use Rattle.avm_input.specs.CommandLine.{u64_of}
use Rattle.avm_input.proofs.NumberTexts.{u64_read}
use Rattle.avm_input.proofs.command_line.number_in.Goals as goal

pub returns : goal.returns
returns c =
    u64_read (λ text r. ParsesUnsigned 64 10 text r × ExplainsUnsignedError 10 text r × HasUnsignedDigitsIfOk text r) _ c.get_one.result (λ t s p. p.0)
    c.get_one.ensures.none c.get_one.ensures.value
    ∙ ap (option_and_then u64_of) (one_text-rows (found_of c.args.options.now) c.args.name.now)
