use Rattle.std.proofs.Common.{◌∷◌, [], ap, arith}
use Rattle.json.specs.Reads.{token_of}
use Rattle.json_views.specs.Weights.{tokens_weight}
use Rattle.json_views.proofs.Weights.{weight-append}
use Rattle.json_views.proofs.writing.Writer.token.Goals as goal

pub invariant_of-self-2 : goal.invariant_of-self-2
invariant_of-self-2 c =
    omega (
      arith,
      c.self.invariant,
      c.weight_of-weight.ensures,
      c.saturating_add-self-inside.ensures,
      ap tokens_weight c.in_ok-token.ensures.ok,
      weight-append c.self.inside.out (token_of c.args.token ∷ []),
    )
