-- A number in decimal digits is a number of JSON.
use Rattle.std.proofs.Common.{rules}
use Rattle.json.proofs.Printed.Decimals.{IsNumber-decimal}
use Rattle.json_views.proofs.writing.put_uint.Goals as goal

pub token-requires : goal.token-requires
token-requires c = rw c.format.ensures.text (IsNumber-decimal c.args.number (search rules))
