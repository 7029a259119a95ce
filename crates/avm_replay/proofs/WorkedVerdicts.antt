-- The verdicts on the block of one creation.
use Rattle.std.proofs.Common.{◌≡◌, refl, sym, [], ◌∷◌}
use Rattle.teal_table.specs.Table.{row_of, opcodes, opcode_at}
use Rattle.teal_table.specs.Fields.{txn_field_at, global_field_at}
use Rattle.avm_ops.specs.Effect.{effect}
use Rattle.avm_ledger.specs.declared.header.Profile.TheVariants as profile
use Rattle.avm_ledger.specs.Ledgers.{empty_ledger}
use Rattle.avm_call.specs.declared.outcome.Outcome.TheVariants as outcome
use Rattle.avm_call.specs.WorkedPrograms.{zero_header}
use Rattle.avm_call.specs.Replay.{outcome_on}
use Rattle.avm_replay.specs.declared.verdict.Verdict.TheVariants as verdict
use Rattle.avm_replay.specs.Verdicts.{Judges}
use Rattle.avm_replay.specs.WorkedVerdicts.{block_of_creation, ledger_after_creation, creating_call, entry_of_creation}

approved : outcome_on empty_ledger creating_call (zero_header profile.Two) ≡ outcome.Approved
unfolding row_of opcodes opcode_at txn_field_at global_field_at effect
approved = refl

-- a block that says the creation was approved agrees, and leads to the ledger after it
pub agrees : Judges empty_ledger (block_of_creation outcome.Approved) (verdict.Agrees ledger_after_creation)
agrees = (record { base = refl; outcomes = λ i. approved i ∷ []; after = refl }, refl)

-- a block that says the creation was rejected is wrong at entry 1, whose outcome is approval
pub other_outcome : Judges empty_ledger (block_of_creation outcome.Rejected) (verdict.WrongOutcome 1 outcome.Approved)
other_outcome = (
  refl,
  record {
    before = [];
    entry = entry_of_creation outcome.Rejected;
    behind = [];
    parts = refl;
    numbered = refl;
    agree = refl;
    ends = sym approved;
    differs = λ e. absurd cc;
  },
)
