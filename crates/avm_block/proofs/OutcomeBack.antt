-- An outcome is read from its bytes.
use Rattle.std.proofs.Common.{◌≡◌, ℕ, ◌%◌, ◌<◌, ◌≤◌, true, leb, List, [], ◌∷◌, ◌++◌, Ok, refl, ap, ◌∙◌, arith}
use Rattle.std.specs.Int.{w8}
use Rattle.std.specs.Option.{ok_or}
use Rattle.std.proofs.lemmas.Bool.{le-leb}
use Rattle.teal_value.specs.Answer.{◌>>=◌}
use Rattle.teal_value.specs.FaultNumbers.{fault_number, faults}
use Rattle.teal_value.proofs.FaultsNumbered.{fault_of_number, small_fault}
use Rattle.teal_value.specs.declared.fault.Fault.{Fault}
use Rattle.teal_code.specs.Limits.{most_program_bytes}
use Rattle.avm_ledger.specs.Encodings.{u8_bytes, u16_bytes}
use Rattle.avm_ledger.specs.FieldReader.{number_at}
use Rattle.avm_ledger.proofs.FieldsBack.{then, byte_back, u16_back}
use Rattle.avm_call.specs.declared.outcome.Why.{Why}
use Rattle.avm_call.specs.declared.outcome.Why.TheVariants as why
use Rattle.avm_call.specs.declared.outcome.Cause.{Cause}
use Rattle.avm_call.specs.declared.outcome.Cause.TheVariants as cause
use Rattle.avm_call.specs.declared.outcome.Outcome.{Outcome}
use Rattle.avm_call.specs.declared.outcome.Outcome.TheVariants as outcome
use Rattle.avm_call.specs.OutcomeEncoding.{why_number, whys, outcome_bytes}
use Rattle.avm_block.specs.declared.block_fault.BlockFault.TheVariants.{Truncated, Field}
use Rattle.avm_block.specs.OutcomeReader.{one_at, place_at, fault_and_place_at, cause_of_kind, outcome_at}
use Rattle.avm_call.specs.Places.{HasCausePlace, HasPlace}

-- a number that is one byte stands there as it is
pub byte_as_it_is : (n : ℕ) (rest : List ℕ) → n < 256 → n ∷ rest ≡ u8_bytes n ++ rest
byte_as_it_is n rest small = let same : n ≡ n % 256 = omega arith in ap (λ m. m ∷ rest) same

place_back : (place : ℕ) (rest : List ℕ) → place ≤ most_program_bytes → place_at (u16_bytes place ++ rest) ≡ Ok (place, rest)
place_back place rest within =
    let test : leb place most_program_bytes ≡ true = le-leb place most_program_bytes within in
    then _ _ _ _ (u16_back Truncated place rest (omega arith)) (rw test refl)

number_back : (f : Fault) (rest : List ℕ) → one_at fault_number faults (u8_bytes (fault_number f) ++ rest) ≡ Ok (f, rest)
number_back f rest =
    then _ _ _ _ (byte_back Truncated (fault_number f) rest (small_fault f)) (ap (λ o. ok_or o Field >>= λ x. Ok (x, rest)) (fault_of_number f))

fault_back : (f : Fault) (place : ℕ) (rest : List ℕ) → place ≤ most_program_bytes → fault_and_place_at (fault_number f ∷ (u16_bytes place ++ rest)) ≡ Ok ((f, place), rest)
fault_back f place rest within =
    ap fault_and_place_at (byte_as_it_is (fault_number f) (u16_bytes place ++ rest) (small_fault f))
    ∙ then _ _ _ _ (number_back f (u16_bytes place ++ rest)) (then _ _ _ _ (place_back place rest within) refl)

why_back : (w : Why) (rest : List ℕ) → one_at why_number whys (why_number w ∷ rest) ≡ Ok (w, rest)
why_back why.NoApp rest = then _ _ _ _ (byte_back Truncated 1 rest (omega arith)) refl
why_back why.AlreadyIn rest = then _ _ _ _ (byte_back Truncated 2 rest (omega arith)) refl
why_back why.NotIn rest = then _ _ _ _ (byte_back Truncated 3 rest (omega arith)) refl
why_back why.IdsEnd rest = then _ _ _ _ (byte_back Truncated 4 rest (omega arith)) refl

-- the number of a refusal is one byte
pub small_why : (w : Why) → u8_bytes (why_number w) ≡ why_number w ∷ []
small_why why.NoApp = refl
small_why why.AlreadyIn = refl
small_why why.NotIn = refl
small_why why.IdsEnd = refl

-- the bytes behind the number of a clearing
abbrev pub cause_bytes : Cause → List ℕ
cause_bytes cause.Gone = 0 ∷ []
cause_bytes cause.Rejected = 1 ∷ []
cause_bytes (cause.Faulted f place) = 2 ∷ fault_number f ∷ u16_bytes place

cause_back : (c : Cause) (rest : List ℕ) → HasCausePlace c → (number_at Truncated w8 (cause_bytes c ++ rest) >>= cause_of_kind) ≡ Ok (c, rest)
cause_back cause.Gone rest h = then _ _ _ _ (byte_back Truncated 0 rest (omega arith)) refl
cause_back cause.Rejected rest h = then _ _ _ _ (byte_back Truncated 1 rest (omega arith)) refl
cause_back (cause.Faulted f place) rest h =
    then _ _ _ _ (byte_back Truncated 2 (fault_number f ∷ (u16_bytes place ++ rest)) (omega arith)) (then _ _ _ _ (fault_back f place rest h) refl)

-- the encoding of a clearing is 4, and then the bytes of its cause
pub outcome_of_cause : (c : Cause) (rest : List ℕ) → outcome_bytes (outcome.ClearedAnyway c) ++ rest ≡ 4 ∷ (cause_bytes c ++ rest)
outcome_of_cause cause.Gone rest = refl
outcome_of_cause cause.Rejected rest = refl
outcome_of_cause (cause.Faulted f place) rest = refl

-- an outcome is read back from its encoding, whatever follows
pub outcome_back : (end : Outcome) (rest : List ℕ) → HasPlace end → outcome_at (outcome_bytes end ++ rest) ≡ Ok (end, rest)
outcome_back outcome.Approved rest h = then _ _ _ _ (byte_back Truncated 0 rest (omega arith)) refl
outcome_back outcome.Rejected rest h = then _ _ _ _ (byte_back Truncated 1 rest (omega arith)) refl
outcome_back (outcome.Faulted f place) rest h =
    then _ _ _ _ (byte_back Truncated 2 (fault_number f ∷ (u16_bytes place ++ rest)) (omega arith)) (then _ _ _ _ (fault_back f place rest h) refl)
outcome_back (outcome.Refused w) rest h = then _ _ _ _ (byte_back Truncated 3 (why_number w ∷ rest) (omega arith)) (then _ _ _ _ (why_back w rest) refl)
outcome_back (outcome.ClearedAnyway c) rest h =
    ap outcome_at (outcome_of_cause c rest)
    ∙ then _ _ _ _ (byte_back Truncated 4 (cause_bytes c ++ rest) (omega arith)) (then _ _ _ _ (cause_back c rest h) refl)
