-- A block is read from its bytes.
use Rattle.std.proofs.Common.{◌≡◌, ℕ, suc, ◌-◌, ◌^◌, ◌<◌, ◌≤◌, Bool, true, cond, ltb, leb, List, [], ◌∷◌, ◌++◌, length, take, Ok, Err, refl, sym, ap, ◌∙◌, append_assoc, length-append, arith}
use Rattle.std.specs.List.{flat_map}
use Rattle.std.proofs.lemmas.Bool.{lt-ltb, le-leb}
use Rattle.std.proofs.lemmas.List.{append-nil}
use Rattle.std.proofs.lemmas.Slice.Eq.{bytes_eq-Decides}
use Rattle.sha2.specs.Sha256.{sha256}
use Rattle.sha2.proofs.Facts256.{length-sha256}
use Rattle.teal_value.specs.Answer.{◌>>=◌}
use Rattle.teal_value.specs.SameValues.{are_same_bytes}
use Rattle.avm_ledger.specs.declared.header.Header.{Header}
use Rattle.avm_ledger.specs.declared.header.Profile.{Profile}
use Rattle.avm_ledger.specs.declared.header.Profile.TheVariants as profile
use Rattle.avm_ledger.specs.Encodings.{u32_bytes, u64_bytes, header_bytes}
use Rattle.avm_ledger.specs.FieldReader.{bytes_at}
use Rattle.avm_ledger.proofs.FieldsBack.{then, bytes_back, byte_back, u32_back, u64_back}
use Rattle.avm_items.specs.declared.call_data.CallData.{CallData}
use Rattle.avm_call_codec.specs.CallEncoding.{call_bytes}
use Rattle.avm_call_codec.specs.CallRoundTrip.{HasFields}
use Rattle.avm_call_codec.proofs.CallBack.{call_back}
use Rattle.avm_call.specs.OutcomeEncoding.{outcome_bytes}
use Rattle.avm_block.specs.declared.block_fault.BlockFault.TheVariants.{Truncated, Digest}
use Rattle.avm_block.specs.declared.entry.Entry.{Entry}
use Rattle.avm_block.specs.Blocks.{Block, most_calls}
use Rattle.avm_block.specs.BlockEncoding.{magic, format_bytes, block_entry_bytes, body_bytes, block_bytes}
use Rattle.avm_block.specs.BlockReader.{magic_at, profile_at, header_at, timestamp_at, in_block, call_in, block_entry_at, block_entries_at, count_at, body_at, sealed, block_at}
use Rattle.avm_block.specs.BlockRoundTrip.{IsEntry, AreEntries, IsHeader, IsBlock}
use Rattle.avm_block.proofs.OutcomeBack.{outcome_back}

same_bytes : (xs : List ℕ) → are_same_bytes xs xs ≡ true
same_bytes xs = (bytes_eq-Decides xs xs).1 refl

magic_back : (rest : List ℕ) → magic_at (magic ++ rest) ≡ Ok (magic, rest)
magic_back rest = then _ _ _ _ (bytes_back Truncated 4 magic rest refl) refl

profile_back : (p : Profile) (rest : List ℕ) → profile_at (format_bytes p ++ rest) ≡ Ok (p, rest)
profile_back profile.Two rest = then _ _ _ _ (byte_back Truncated 1 rest (omega arith)) refl
profile_back profile.Three rest = then _ _ _ _ (byte_back Truncated 2 (3 ∷ rest) (omega arith)) (then _ _ _ _ (byte_back Truncated 3 rest (omega arith)) refl)

header_chain : (a b c d e rest : List ℕ) → (a ++ b ++ c ++ d ++ e) ++ rest ≡ a ++ (b ++ (c ++ (d ++ (e ++ rest))))
header_chain a b c d e rest = simp append_assoc

pub header_back : (h : Header) (rest : List ℕ) → IsHeader h → header_at h.profile (header_bytes h ++ rest) ≡ Ok (h, rest)
header_back h rest is =
    let life = u64_bytes h.max_life ++ rest in
    let balance = u64_bytes h.min_balance ++ life in
    let fee = u64_bytes h.min_fee ++ balance in
    let latest = u64_bytes h.latest_timestamp ++ fee in
    ap (header_at h.profile) (header_chain (u64_bytes h.round) (u64_bytes h.latest_timestamp) (u64_bytes h.min_fee) (u64_bytes h.min_balance) (u64_bytes h.max_life) rest)
    ∙ then _ _ _ _ (u64_back Truncated h.round latest is.round)
    (then _ _ _ _ (u64_back Truncated h.latest_timestamp fee is.latest_timestamp)
    (then _ _ _ _ (u64_back Truncated h.min_fee balance is.min_fee)
    (then _ _ _ _ (u64_back Truncated h.min_balance life is.min_balance)
    (then _ _ _ _ (u64_back Truncated h.max_life rest is.max_life) refl))))

timestamp_back : (before t : ℕ) (rest : List ℕ) → before < t → t < 2 ^ 64 → timestamp_at before (u64_bytes t ++ rest) ≡ Ok (t, rest)
timestamp_back before t rest rises small =
    let test : ltb before t ≡ true = lt-ltb before t rises in
    then _ _ _ _ (u64_back Truncated t rest small) (rw test refl)

call_in_back : (accepted : CallData → Bool) (c : CallData) (rest : List ℕ) → HasFields c → accepted c ≡ true → call_in accepted (call_bytes c ++ rest) ≡ Ok (c, rest)
call_in_back accepted c rest has is = then _ _ _ _ (ap in_block (call_back c rest has)) (rw is refl)

entry_chain : (a b c rest : List ℕ) → (a ++ b ++ c) ++ rest ≡ a ++ (b ++ (c ++ rest))
entry_chain a b c rest = simp append_assoc

entry_back : (accepted : CallData → Bool) (before : ℕ) (e : Entry) (rest : List ℕ) → IsEntry accepted before e → block_entry_at accepted before (block_entry_bytes e ++ rest) ≡ Ok (e, rest)
entry_back accepted before e rest is =
    let end = outcome_bytes e.outcome ++ rest in
    let call = call_bytes e.call ++ end in
    ap (block_entry_at accepted before) (entry_chain (u64_bytes e.timestamp) (call_bytes e.call) (outcome_bytes e.outcome) rest)
    ∙ then _ _ _ _ (timestamp_back before e.timestamp call is.rises is.timestamp)
    (then _ _ _ _ (call_in_back accepted e.call end is.call is.allowed)
    (then _ _ _ _ (outcome_back e.outcome rest is.outcome) refl))

entries_back : (accepted : CallData → Bool) (es : List Entry) (before : ℕ) (rest : List ℕ) → AreEntries accepted before es → block_entries_at accepted (length es) before (flat_map block_entry_bytes es ++ rest) ≡ Ok (es, rest)
entries_back accepted [] before rest are = refl
entries_back accepted (e ∷ es) before rest are =
    let behind = flat_map block_entry_bytes es ++ rest in
    ap (block_entries_at accepted (suc (length es)) before) (append_assoc (block_entry_bytes e) (flat_map block_entry_bytes es) rest)
    ∙ then (block_entry_at accepted before (block_entry_bytes e ++ behind)) (e, behind) (λ x. block_entries_at accepted (length es) x.0.timestamp x.1 >>= λ more. Ok (x.0 ∷ more.0, more.1)) (Ok (e ∷ es, rest)) (entry_back accepted before e behind are.0)
    (then (block_entries_at accepted (length es) e.timestamp behind) (es, rest) (λ more. Ok (e ∷ more.0, more.1)) (Ok (e ∷ es, rest)) (entries_back accepted es e.timestamp rest are.1) refl)

count_back : (n : ℕ) (rest : List ℕ) → n ≤ most_calls → count_at (u32_bytes n ++ rest) ≡ Ok (n, rest)
count_back n rest few =
    let test : leb n most_calls ≡ true = le-leb n most_calls few in
    then _ _ _ _ (u32_back Truncated n rest (omega arith)) (rw test refl)

body_chain : (m f b h n es a rest : List ℕ) → (m ++ f ++ b ++ h ++ (n ++ es) ++ a) ++ rest ≡ m ++ (f ++ (b ++ (h ++ (n ++ (es ++ (a ++ rest))))))
body_chain m f b h n es a rest = simp append_assoc

-- the body of a block is read back from its encoding, whatever follows
pub body_back : (accepted : Profile → CallData → Bool) (b : Block) (rest : List ℕ) → IsBlock accepted b → body_at accepted (body_bytes b ++ rest) ≡ Ok (b, rest)
body_back accepted b rest is =
    let after = b.after ++ rest in
    let entries = flat_map block_entry_bytes b.entries ++ after in
    let count = u32_bytes (length b.entries) ++ entries in
    let header = header_bytes b.header ++ count in
    let base = b.base ++ header in
    let format = format_bytes b.header.profile ++ base in
    ap (body_at accepted) (body_chain magic (format_bytes b.header.profile) b.base (header_bytes b.header) (u32_bytes (length b.entries)) (flat_map block_entry_bytes b.entries) b.after rest)
    ∙ then _ _ _ _ (magic_back format)
    (then _ _ _ _ (profile_back b.header.profile base)
    (then _ _ _ _ (bytes_back Truncated 32 b.base header is.base)
    (then _ _ _ _ (header_back b.header count is.header)
    (then _ _ _ _ (count_back (length b.entries) entries is.few)
    (then _ _ _ _ (entries_back (accepted b.header.profile) b.entries 0 after is.entries)
    (then _ _ _ _ (bytes_back Truncated 32 b.after rest is.after) refl))))))

take_front : (xs ys : List ℕ) → take (length xs) (xs ++ ys) ≡ xs
take_front [] ys = refl
take_front (x ∷ xs) ys = ap (λ zs. x ∷ zs) (take_front xs ys)

-- what stands before the rest
pub front_is : (xs ys : List ℕ) → take (length (xs ++ ys) - length ys) (xs ++ ys) ≡ xs
front_is xs ys = let n : length (xs ++ ys) - length ys ≡ length xs = omega (arith, length-append xs ys) in ap (λ m. take m (xs ++ ys)) n ∙ take_front xs ys

sealed_back : (bytes : List ℕ) (b : Block) → take (length bytes - length (sha256 (body_bytes b))) bytes ≡ body_bytes b → sealed bytes (b, sha256 (body_bytes b)) ≡ Ok b
sealed_back bytes b is =
    let digest = sha256 (body_bytes b) in
    let same : are_same_bytes digest (sha256 (take (length bytes - length digest) bytes)) ≡ true = ap (λ xs. are_same_bytes digest (sha256 xs)) is ∙ same_bytes digest in
    then _ _ _ _ (ap (λ xs. bytes_at Truncated 32 xs) (sym (append-nil digest)) ∙ bytes_back Truncated 32 digest [] (length-sha256 (body_bytes b))) (ap (λ t. cond t (Ok b) (Err Digest)) same)

-- a block is read back from its encoding
pub block_back : (accepted : Profile → CallData → Bool) (b : Block) → IsBlock accepted b → block_at accepted (block_bytes b) ≡ Ok b
block_back accepted b is =
    then _ _ _ _ (body_back accepted b (sha256 (body_bytes b)) is) (sealed_back (block_bytes b) b (front_is (body_bytes b) (sha256 (body_bytes b))))

digests_cut : (s t x y : List ℕ) → s ≡ t → s ++ x ≡ t ++ y → length s ≡ 32 → x ≡ y
digests_cut s t x y same e n = cut s x y (e ∙ ap (λ u. u ++ y) (sym same))
  where
    cut : (s x y : List ℕ) → s ++ x ≡ s ++ y → x ≡ y
    cut [] x y e = e
    cut (n ∷ s) x y e = let rest : s ++ x ≡ s ++ y = cc in cut s x y rest

-- no encoding of a block begins another
pub none_begins : (accepted : Profile → CallData → Bool) (b c : Block) (x y : List ℕ) → IsBlock accepted b → IsBlock accepted c → block_bytes b ++ x ≡ block_bytes c ++ y → (b ≡ c) × (x ≡ y)
none_begins accepted b c x y is is' e =
    let parts : body_bytes b ++ (sha256 (body_bytes b) ++ x) ≡ body_bytes c ++ (sha256 (body_bytes c) ++ y) = sym (append_assoc (body_bytes b) (sha256 (body_bytes b)) x) ∙ e ∙ append_assoc (body_bytes c) (sha256 (body_bytes c)) y in
    let same = sym (body_back accepted b (sha256 (body_bytes b) ++ x) is) ∙ ap (body_at accepted) parts ∙ body_back accepted c (sha256 (body_bytes c) ++ y) is' in
    let pair : ◌≡◌ {A = Block × List ℕ} (b, sha256 (body_bytes b) ++ x) (c, sha256 (body_bytes c) ++ y) = cc in
    let blocks : b ≡ c = ap (λ p. p.0) pair in
    (blocks, digests_cut (sha256 (body_bytes b)) (sha256 (body_bytes c)) x y (ap (λ d. sha256 (body_bytes d)) blocks) (ap (λ p. p.1) pair) (length-sha256 (body_bytes b)))
