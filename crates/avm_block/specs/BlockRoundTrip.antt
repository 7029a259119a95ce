-- The laws of a block's bytes, whatever calls a block may have.
use Rattle.std.specs.Prelude.{◌≡◌, ℕ, ◌^◌, ◌<◌, ◌≤◌, Bool, true, List, [], ◌∷◌, ◌++◌, length, All, Ok}
use Rattle.avm_ledger.specs.declared.header.Header.{Header}
use Rattle.avm_ledger.specs.declared.header.Profile.{Profile}
use Rattle.avm_items.specs.declared.call_data.CallData.{CallData}
use Rattle.avm_call_codec.specs.CallRoundTrip.{HasFields}
use Rattle.avm_call.specs.Places.{HasPlace}
use Rattle.avm_block.specs.declared.entry.Entry.{Entry}
use Rattle.avm_block.specs.Blocks.{Block, most_calls}
use Rattle.avm_block.specs.BlockEncoding.{block_bytes}
use Rattle.avm_block.specs.BlockReader.{block_at}

pub record IsEntry (accepted : CallData → Bool) (before : ℕ) (e : Entry) : Type 0 where
  pub rises : before < e.timestamp
  pub timestamp : e.timestamp < 2 ^ 64
  pub call : HasFields e.call
  pub allowed : accepted e.call ≡ true
  pub outcome : HasPlace e.outcome

-- entries behind a timestamp, by rising timestamps
abbrev pub AreEntries : (CallData → Bool) → ℕ → List Entry → Type 0
AreEntries accepted before [] = Unit {0}
AreEntries accepted before (e ∷ es) = IsEntry accepted before e × AreEntries accepted e.timestamp es

pub record IsHeader (h : Header) : Type 0 where
  pub round : h.round < 2 ^ 64
  pub latest_timestamp : h.latest_timestamp < 2 ^ 64
  pub min_fee : h.min_fee < 2 ^ 64
  pub min_balance : h.min_balance < 2 ^ 64
  pub max_life : h.max_life < 2 ^ 64

pub record IsBlock (accepted : Profile → CallData → Bool) (b : Block) : Type 0 where
  pub base : length b.base ≡ 32
  pub header : IsHeader b.header
  pub few : length b.entries ≤ most_calls
  pub entries : AreEntries (accepted b.header.profile) 0 b.entries
  pub after : length b.after ≡ 32

-- A block is read from its bytes.
abbrev pub ReadsBack : Type 0
ReadsBack = (accepted : Profile → CallData → Bool) (b : Block) → IsBlock accepted b → block_at accepted (block_bytes b) ≡ Ok b

-- No encoding of a block begins another.
abbrev pub NoneBeginsAnother : Type 0
NoneBeginsAnother =
    (accepted : Profile → CallData → Bool) (b c : Block) (x y : List ℕ) → IsBlock accepted b → IsBlock accepted c → block_bytes b ++ x ≡ block_bytes c ++ y → (b ≡ c) × (x ≡ y)

-- A block that is read is encoded by those very bytes, and its fields are within their limits.
abbrev pub EncodesBack : Type 0
EncodesBack =
    (accepted : Profile → CallData → Bool) (bytes : List ℕ) (b : Block) → All (λ n. n < 256) bytes → block_at accepted bytes ≡ Ok b → (block_bytes b ≡ bytes) × IsBlock accepted b
