use Rattle.std.proofs.Common.{◌≡◌, drop}
use Rattle.json_documents.specs.Sources.{targets_from}
use Rattle.json_documents.proofs.sources.check_targets.Given as goal

-- what is asked of the places from here on is asked of all
abbrev pub invariant-places : goal.invariant-places
invariant-places l = targets_from l.index l.ledger l.calls (drop l.index l.places) ≡ targets_from 0 l.ledger l.calls l.places
