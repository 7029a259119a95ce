-- The calls of a block that is read from bytes may be made, so they keep the rules.
use Rattle.std.proofs.Common.{◌≡◌, ℕ, ◌<◌, Bool, true, ◌&&◌, List, [], ◌∷◌, Option, Some, None, Ok, refl, sym, subst}
use Rattle.std.specs.Prelude.{All, is_none, take}
use Rattle.std.proofs.lemmas.List.Elements.{All-nil, All-cons, All-head, All-tail, All-take}
use Rattle.sha2.specs.Sha256.{sha256}
use Rattle.avm_ledger.specs.declared.header.Header.{Header}
use Rattle.avm_ledger.specs.Ledgers.{Ledger}
use Rattle.avm_ledger.specs.LedgerReader.{ledger_at}
use Rattle.avm_ledger.specs.Encodings.{u32_bytes, u64_bytes, counted_bytes, header_bytes}
use Rattle.avm_ledger.proofs.LedgerBack.{ledger_back_alone}
use Rattle.avm_call_codec.specs.CallEncoding.{call_bytes}
use Rattle.avm_call.specs.CallRules.{call_fault, needed_profile}
use Rattle.avm_call.specs.OutcomeEncoding.{outcome_bytes}
use Rattle.avm_call.specs.Replay.{replayed}
use Rattle.avm_block.specs.declared.entry.Entry.{Entry}
use Rattle.avm_block.specs.AcceptedCalls.{fits_in, is_accepted}
use Rattle.avm_block.specs.BlockReader.{block_at}
use Rattle.avm_block.specs.BlockRoundTrip.{AreEntries, IsHeader}
use Rattle.avm_block.specs.BlockEncoding.{magic, format_bytes, block_entry_bytes, body_bytes}
use Rattle.avm_block.specs.Blocks.{Block, calls_in, calls_of}
use Rattle.avm_block.proofs.BlockEncoded.{block_encoded}
use Rattle.avm_rule_laws.specs.Rules.{AreBytes, HasWords, MayCall}
use Rattle.avm_rule_laws.specs.ReadBlocks.{IsReadable}
use Rattle.avm_rule_laws.proofs.CheckedCalls.{checked_calls_bring_programs}
use Rattle.avm_rule_laws.proofs.KeptRules.{replays_keep_the_rules}
use Rattle.avm_rule_laws.proofs.ProgramValues.{front_all}
use Rattle.avm_rule_laws.proofs.SoundReading.{counted_parts, ledger_sound, parts, encoded_call}

none_broken : {A : Type 0} (o : Option A) (b : Bool) → (is_none o && b) ≡ true → o ≡ None
none_broken None b e = refl
none_broken (Some x) b e = absurd cc

words : (h : Header) → IsHeader h → HasWords h
words h is = record { round = is.round; latest_timestamp = is.latest_timestamp; min_fee = is.min_fee; min_balance = is.min_balance; max_life = is.max_life }

entries_may_be_made : (h : Header) (before : ℕ) (es : List Entry) → HasWords h → AreEntries (is_accepted h.profile) before es → All (λ e. AreBytes (block_entry_bytes e)) es → All (λ call. MayCall call h) (calls_in es)
entries_may_be_made h before [] w are all = All-nil (λ call. MayCall call h)
entries_may_be_made h before (e ∷ es) w are all =
    let of_entry = parts (u64_bytes e.timestamp) (call_bytes e.call ∷ outcome_bytes e.outcome ∷ []) (All-head (λ x. AreBytes (block_entry_bytes x)) e es all) in
    let call = encoded_call e.call are.0.call of_entry.1.0 in
    let programs = checked_calls_bring_programs e.call (none_broken (call_fault e.call) (fits_in (needed_profile e.call) h.profile) are.0.allowed) in
    All-cons (λ c. MayCall c h) e.call (calls_in es) (record { call_of_bytes = call; programs = programs; words = w })
    (entries_may_be_made h e.timestamp es w are.1 (All-tail (λ x. AreBytes (block_entry_bytes x)) e es all))

-- the calls of a block that is read from bytes may be made
pub calls_may_be_made : (bytes : List ℕ) (b : Block) → AreBytes bytes → block_at is_accepted bytes ≡ Ok b → All (λ call. MayCall call b.header) (calls_of b)
calls_may_be_made bytes b all e =
    let encoded = block_encoded is_accepted bytes b all e in
    let body = front_all (λ n. n < 256) (body_bytes b) (sha256 (body_bytes b)) (subst AreBytes (sym encoded.0) all) in
    let fields = parts magic (format_bytes b.header.profile ∷ b.base ∷ header_bytes b.header ∷ counted_bytes u32_bytes block_entry_bytes b.entries ∷ b.after ∷ []) body in
    entries_may_be_made b.header 0 b.entries (words b.header encoded.1.header) encoded.1.entries (counted_parts u32_bytes block_entry_bytes b.entries fields.1.1.1.1.0)

pub read_blocks_lead_to_readable_ledgers : (before block : List ℕ) (l : Ledger) (b : Block) (n : ℕ) → AreBytes before → AreBytes block → ledger_at before ≡ Ok l → block_at is_accepted block ≡ Ok b
    → IsReadable (replayed l b.header (take n (calls_of b)))
read_blocks_lead_to_readable_ledgers before block l b n ledger_of_bytes block_of_bytes read_ledger read_block =
    let sound = replays_keep_the_rules l b.header (take n (calls_of b)) (ledger_sound before l ledger_of_bytes read_ledger)
    (All-take (λ call. MayCall call b.header) n (calls_of b) (calls_may_be_made block b block_of_bytes read_block)) in
    record { sound = sound; reads_back = λ countable. ledger_back_alone (replayed l b.header (take n (calls_of b))) sound.rules countable }
