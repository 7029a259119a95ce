-- Verdicts on a block.
use Rattle.std.proofs.Common.{◌∙◌, ap, sym}
use Rattle.avm_ledger.specs.Ledgers.{Ledger}
use Rattle.avm_ledger.specs.Encodings.{ledger_digest}
use Rattle.avm_block.specs.Blocks.{Block}
use Rattle.avm_replay.specs.declared.verdict.Verdict.{Verdict}
use Rattle.avm_replay.specs.declared.verdict.Verdict.TheVariants as verdict
use Rattle.avm_replay.specs.Verdicts.{Judges}
use Rattle.avm_commands.specs.BlockCommands.{HasDigest}

-- a block that agrees has the digest of the ledger after it
pub judged_digest : (l : Ledger) (b : Block) (v : Verdict) → Judges l b v → HasDigest v b.after
judged_digest l b (verdict.Agrees after) judged = judged.0.after ∙ ap ledger_digest (sym judged.1)
judged_digest l b verdict.WrongBase judged = tt
judged_digest l b (verdict.WrongOutcome entry found) judged = tt
judged_digest l b verdict.WrongState judged = tt
