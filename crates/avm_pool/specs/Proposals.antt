-- What a proposal is: a block of the calls handed in, which anyone replays.
use Rattle.std.specs.Prelude.{◌≡◌, ℕ, zero, suc, ◌+◌, ◌<◌, ◌≤◌, ◌==◌, nat_lt, Bool, get_or, if◌then◌else◌, List, [], ◌∷◌, ◌++◌, length, map, AllPairs, Some}
use Rattle.std.specs.List.{count_by}
use Rattle.avm_ledger.specs.declared.header.Header.{Header}
use Rattle.avm_ledger.specs.Ledgers.{Ledger}
use Rattle.avm_items.specs.declared.call_data.CallData.{CallData}
use Rattle.avm_block.specs.declared.entry.Entry.{Entry}
use Rattle.avm_block.specs.Blocks.{Replays}
use Rattle.mv_parts.specs.CallNumbers.{call_of}
use Rattle.avm_pool.specs.declared.proposal.Proposal.{Proposal}

-- how often a number stands in a list
abbrev pub times : ℕ → List ℕ → ℕ
times m xs = count_by (λ x. x == m) xs

-- the numbers 1 to n, each once, in some order
pub record AreNumbersTo (n : ℕ) (xs : List ℕ) : Type 0 where
  pub each : (m : ℕ) → 1 ≤ m → m ≤ n → times m xs ≡ 1
  pub none : (m : ℕ) → 0 < times m xs → (1 ≤ m) × (m ≤ n)

-- The block has the header handed in, and replays over the ledger to the same outcomes and the same state. Its calls are those
-- of the numbers, and each other call is left.
pub record IsProposal (base : Ledger) (header : Header) (calls : List CallData) (p : Proposal) : Type 0 where
  pub header_is : p.block.header ≡ header
  pub replays : Replays base p.block
  pub calls_are : map (λ (e : Entry). Some e.call) p.block.entries ≡ map (call_of calls) p.numbers.items
  pub all : AreNumbersTo (length calls) (p.numbers.items ++ p.left.items)
  pub rising : AllPairs ◌<◌ p.left.items

-- the numbers 1 to n that do not stand in a list, rising
abbrev pub left_to : List ℕ → ℕ → List ℕ
left_to numbers zero = []
left_to numbers (suc n) = left_to numbers n ++ (if times (suc n) numbers == 0 then suc n ∷ [] else [])

-- a mark for each of the numbers 1 to n: whether it stands in the list
pub record AreMarkedNumbers (numbers : List ℕ) (n : ℕ) (marks : List Bool) : Type 0 where
  pub count : length marks ≡ n
  pub each : (i : ℕ) (d : Bool) → i < n → get_or marks i d ≡ nat_lt 0 (times (i + 1) numbers)
