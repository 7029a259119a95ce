use Rattle.std.proofs.Common.{◌≡◌, ◌≤◌, ◌+◌, length, All}
use Rattle.teal_text.specs.Tokens.{tokens_of, LiesWithin}
use Rattle.teal_text.proofs.Reading.{Reads}
use Rattle.teal_text.proofs.line.tokens_of.Given as goal

abbrev pub invariant-loop-token : goal.invariant-loop-token
invariant-loop-token l = record {
  low : l.place ≤ l.start;
  high : l.start + length l.rest ≡ l.place + length l.line;
  within : All (LiesWithin l.place (l.place + length l.line)) l.tokens.items;
  reads : Reads l.tokens.items l.base64 l.start l.rest (tokens_of l.place l.line);
}

abbrev pub decreases-loop-token : goal.decreases-loop-token
decreases-loop-token l = length l.rest
