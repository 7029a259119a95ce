use Rattle.std.proofs.Common.{arith}
use Rattle.json_commands.proofs.commands.reply_of.Goals as goal

pub returns-then-len-gt-INPUT_LIMIT : goal.returns-then-len-gt-INPUT_LIMIT
returns-then-len-gt-INPUT_LIMIT g c = (
  c.in_ok-input.input.items,
  c.in_ok-input.ensures,
  record { long = λ _. c.in_ok-input_refusal.ensures; other = λ short. absurd (omega (arith, short, c.len.ensures, c.if-len-gt-INPUT_LIMIT.true)) },
)

pub returns : goal.returns
returns g c = (
  c.in_ok-input.input.items,
  c.in_ok-input.ensures,
  record { long = λ far. absurd (omega (arith, far, c.len.ensures, c.if-len-gt-INPUT_LIMIT.false)); other = λ _. c.in_ok-command_reply.ensures },
)
