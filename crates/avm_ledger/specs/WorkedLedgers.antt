-- Bytes of ledgers, from which the reader is computed.
use Rattle.std.specs.Prelude.{ℕ, List, [], ◌∷◌, ◌++◌, replicate}
use Rattle.teal_value.specs.declared.value.Value.TheVariants.{Uint, Bytes}
use Rattle.avm_ledger.specs.Ledgers.{Ledger}

abbrev pub zeros : ℕ → List ℕ
zeros n = replicate n 0

-- a program that approves
abbrev approving : List ℕ
approving = 0x02 ∷ 0x20 ∷ 0x01 ∷ 0x01 ∷ 0x22 ∷ []

-- next id 2, and application 1 up to its global state, of one uint and one byte string at most, with local states of one byte string
abbrev pub up_to_state : List ℕ
up_to_state =
    zeros 7 ++ 2 ∷ 0 ∷ 0 ∷ 0 ∷ 1 ∷ zeros 7 ++ 1 ∷ zeros 32 ++ 0 ∷ 5 ∷ approving ++ 0 ∷ 5 ∷ approving ++ 1 ∷ 1 ∷ 0 ∷ 1 ∷ []

-- a: 7, b: the byte 120
abbrev pub two_entries : List ℕ
two_entries = 2 ∷ 1 ∷ 0x61 ∷ 1 ∷ zeros 7 ++ 7 ∷ 1 ∷ 0x62 ∷ 2 ∷ 1 ∷ 120 ∷ []

-- the same, b first
abbrev pub falling_keys : List ℕ
falling_keys = 2 ∷ 1 ∷ 0x62 ∷ 2 ∷ 1 ∷ 120 ∷ 1 ∷ 0x61 ∷ 1 ∷ zeros 7 ++ 7 ∷ []

-- two uints under the keys a and b, up to the kind of the second
abbrev pub two_uint_entries : List ℕ
two_uint_entries = 2 ∷ 1 ∷ 0x61 ∷ 1 ∷ zeros 7 ++ 7 ∷ 1 ∷ 0x62 ∷ 1 ∷ []

-- a local state of the zero address and application 1, with the entry k: no bytes
abbrev pub one_local_state : List ℕ
one_local_state = 0 ∷ 0 ∷ 0 ∷ 1 ∷ zeros 32 ++ zeros 7 ++ 1 ∷ 1 ∷ 1 ∷ 0x6b ∷ 2 ∷ 0 ∷ []

abbrev pub worked_ledger : Ledger
worked_ledger = record {
  next_id = 2;
  applications = (
    1,
    record {
      row = record {
        creator = record { 0 = zeros 32 };
        approval = approving;
        clear = approving;
        global_schema = record { uints = 1; bytes = 1 };
        local_schema = record { uints = 0; bytes = 1 };
      };
      state = (0x61 ∷ [], Uint 7) ∷ (0x62 ∷ [], Bytes (120 ∷ [])) ∷ [];
    },
  ) ∷ [];
  local_states = ((record { 0 = zeros 32 }, 1), (0x6b ∷ [], Bytes []) ∷ []) ∷ [];
}
