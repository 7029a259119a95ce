use Rattle.std.proofs.Common.{◌≡◌, drop}
use Rattle.std.specs.Map.{lookup}
use Rattle.std.specs.Str.{bytes_eq}
use Rattle.teal_source.specs.Shown.{named_values}
use Rattle.teal_source.proofs.operand.constant_in.Given as goal

-- the value is that of the names that are left
abbrev pub invariant-loop-constant : goal.invariant-loop-constant
invariant-loop-constant l =
    lookup (λ name. bytes_eq name l.word) (named_values (drop l.constant-index l.constants)) ≡ lookup (λ name. bytes_eq name l.word) (named_values l.constants)
