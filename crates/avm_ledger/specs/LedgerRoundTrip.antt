-- The laws of a ledger's bytes.
use Rattle.std.specs.Prelude.{◌≡◌, ℕ, ◌<◌, List, ◌++◌, All, Ok}
use Rattle.avm_ledger.specs.Ledgers.{Ledger}
use Rattle.avm_ledger.specs.Encodings.{ledger_bytes}
use Rattle.avm_ledger.specs.LedgerRules.{KeepsRules, IsCountable}
use Rattle.avm_ledger.specs.LedgerReader.{ledger_front, ledger_at}

-- A ledger that keeps the rules is read from its bytes, whatever stands behind them.
abbrev pub ReadsBack : Type 0
ReadsBack = (l : Ledger) (rest : List ℕ) → KeepsRules l → IsCountable l → ledger_front (ledger_bytes l ++ rest) ≡ Ok (l, rest)

abbrev pub ReadsBackAlone : Type 0
ReadsBackAlone = (l : Ledger) → KeepsRules l → IsCountable l → ledger_at (ledger_bytes l) ≡ Ok l

-- No encoding of a ledger begins another.
abbrev pub NoneBeginsAnother : Type 0
NoneBeginsAnother =
    (l m : Ledger) (x y : List ℕ) → KeepsRules l → IsCountable l → KeepsRules m → IsCountable m → ledger_bytes l ++ x ≡ ledger_bytes m ++ y → (l ≡ m) × (x ≡ y)

-- A ledger that is read is encoded by those very bytes: each ledger has one encoding.
abbrev pub EncodesBack : Type 0
EncodesBack = (bytes : List ℕ) (l : Ledger) → All (λ b. b < 256) bytes → ledger_at bytes ≡ Ok l → ledger_bytes l ≡ bytes

-- A ledger that is read keeps the rules.
abbrev pub KeepsTheRules : Type 0
KeepsTheRules = (bytes : List ℕ) (l : Ledger) → All (λ b. b < 256) bytes → ledger_at bytes ≡ Ok l → KeepsRules l × IsCountable l
