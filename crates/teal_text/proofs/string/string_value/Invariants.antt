use Rattle.std.proofs.Common.{◌≡◌, ◌++◌, drop}
use Rattle.std.specs.Option.{option_map}
use Rattle.teal_text.specs.declared.string.StringState.TheVariants.{Plain}
use Rattle.teal_text.specs.Strings.{string_value}
use Rattle.teal_text.proofs.string.string_value.Given as goal

abbrev pub invariant-loop-i : goal.invariant-loop-i
invariant-loop-i l = option_map (λ more. l.bytes.items ++ more) (string_value l.state (drop l.i l.string)) ≡ string_value Plain l.string
