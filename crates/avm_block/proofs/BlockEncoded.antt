-- A block that is read is encoded by the bytes, and its fields are within their limits.
use Rattle.std.proofs.Common.{◌≡◌, ℕ, zero, suc, ◌-◌, ◌^◌, ◌<◌, ◌≤◌, Bool, true, eqb, ltb, leb, List, [], ◌∷◌, ◌++◌, length, take, Result, Ok, Err, All, refl, sym, ap, subst, ◌∙◌, inl, inr}
use Rattle.std.specs.List.{flat_map}
use Rattle.std.specs.Int.{w8, w32, w64}
use Rattle.std.proofs.lemmas.Bool.{eqb-true, ltb-true, leb-true}
use Rattle.std.proofs.lemmas.List.{append-nil, nil_from_length}
use Rattle.std.proofs.lemmas.List.Elements.{All-from_get_or}
use Rattle.std.proofs.lemmas.Slice.Eq.{bytes_eq-Decides}
use Rattle.sha2.specs.Sha256.{sha256}
use Rattle.teal_value.specs.SameValues.{are_same_bytes}
use Rattle.teal_value.proofs.Binding.{chosen}
use Rattle.teal_code.proofs.Bytes.{AllBytes, all_bytes, byte_below}
use Rattle.avm_ledger.specs.declared.header.Header.{Header}
use Rattle.avm_ledger.specs.declared.header.Profile.{Profile}
use Rattle.avm_ledger.specs.declared.header.Profile.TheVariants as profile
use Rattle.avm_ledger.specs.Encodings.{u32_bytes, u64_bytes, header_bytes}
use Rattle.avm_ledger.specs.FieldReader.{Front, bytes_at, number_at}
use Rattle.avm_ledger.proofs.FieldsEncoded.{from, same_value, IsEncoded, encoded, join, bytes_encoded, byte_encoded, u32_encoded, u64_encoded}
use Rattle.avm_ledger.proofs.FieldsFit.{u64_fits}
use Rattle.avm_call_codec.specs.declared.call_data_fault.CallDataFault.{CallDataFault}
use Rattle.avm_items.specs.declared.call_data.CallData.{CallData}
use Rattle.avm_call_codec.specs.CallEncoding.{call_bytes}
use Rattle.avm_call_codec.specs.CallReader.{call_front}
use Rattle.avm_call_codec.specs.CallRoundTrip.{HasFields}
use Rattle.avm_call_codec.proofs.CallEncoded.{front_encodes}
use Rattle.avm_block.specs.declared.block_fault.BlockFault.{BlockFault}
use Rattle.avm_block.specs.declared.block_fault.BlockFault.TheVariants.{Magic, Format, Truncated, Rest, Order, Field, Digest}
use Rattle.avm_block.specs.declared.entry.Entry.{Entry}
use Rattle.avm_block.specs.Blocks.{Block, most_calls}
use Rattle.avm_block.specs.BlockEncoding.{magic, format_bytes, block_entry_bytes, body_bytes, block_bytes}
use Rattle.avm_block.specs.OutcomeReader.{outcome_at}
use Rattle.avm_block.specs.BlockReader.{magic_at, profile_of_format, profile_at, header_at, timestamp_at, in_block, call_in, block_entry_at, block_entries_at, count_at, body_at, sealed, block_at}
use Rattle.avm_block.specs.BlockRoundTrip.{IsEntry, AreEntries, IsHeader, IsBlock}
use Rattle.avm_block.proofs.BlockBack.{front_is}
use Rattle.avm_block.proofs.OutcomeEncoded.{kept, of_kind, outcome_encoded}

magic_encoded : (bytes : List ℕ) (x : List ℕ × List ℕ) → AllBytes bytes → magic_at bytes ≡ Ok x → IsEncoded bytes magic x.1
magic_encoded bytes x all e =
    from (bytes_at Truncated 4 bytes) _ x e (λ m em e1.
    let rule = kept (λ z. are_same_bytes z.0 magic) Magic m x e1 in
    let letters : x.0 ≡ magic = (bytes_eq-Decides x.0 magic).0 rule.0 in
    let whole : bytes ≡ x.0 ++ x.1 = (bytes_encoded Truncated 4 bytes m em).0 ∙ ap (λ p. p.0 ++ p.1) rule.1 in
    encoded bytes magic x.1 all (whole ∙ ap (λ s. s ++ x.1) letters))

profile_encoded : (bytes : List ℕ) (x : Profile × List ℕ) → AllBytes bytes → profile_at bytes ≡ Ok x → IsEncoded bytes (format_bytes x.0) x.1
profile_encoded bytes x all e =
    from (number_at Truncated w8 bytes) profile_of_format x e (λ n en e1.
    let kind = byte_encoded Truncated bytes n all en in
    elim (chosen (eqb n.0 1) _ _ _ e1) [
      | inl h ↦ subst (λ p. IsEncoded bytes (format_bytes p.0) p.1) (same_value (profile.Two, n.1) x h.1) (of_kind 1 bytes n kind h.0)
      | inr h ↦
          elim (chosen (eqb n.0 2) _ _ _ h.1) [
            | inl i ↦
                from (number_at Truncated w8 n.1) _ x i.1 (λ p ep e2.
                elim (chosen (eqb p.0 3) _ _ _ e2) [
                  | inl j ↦
                      subst (λ q. IsEncoded bytes (format_bytes q.0) q.1) (same_value (profile.Three, p.1) x j.1)
                      (join bytes _ n.1 _ p.1 (of_kind 2 bytes n kind i.0) (of_kind 3 n.1 p (byte_encoded Truncated n.1 p kind.rest_are_bytes ep) j.0))
                  | inr j ↦ nothing Field j.1
                ])
            | inr i ↦ nothing Format i.1
          ]
    ])
  where
    nothing : {P : Type 0} (d : BlockFault) → ◌≡◌ {A = Front BlockFault Profile} (Err d) (Ok x) → P
    nothing d e = absurd cc

record HeaderRead (in_profile : Profile) (bytes : List ℕ) (x : Header × List ℕ) : Type 0 where
  encoded : IsEncoded bytes (header_bytes x.0) x.1
  fits : IsHeader x.0
  profile : x.0.profile ≡ in_profile

header_encoded : (p : Profile) (bytes : List ℕ) (x : Header × List ℕ) → AllBytes bytes → header_at p bytes ≡ Ok x → HeaderRead p bytes x
header_encoded p bytes x all e =
    from (number_at Truncated w64 bytes) _ x e (λ a ea e1.
    let s1 = u64_encoded Truncated bytes a all ea in
    from (number_at Truncated w64 a.1) _ x e1 (λ b eb e2.
    let s2 = u64_encoded Truncated a.1 b s1.rest_are_bytes eb in
    from (number_at Truncated w64 b.1) _ x e2 (λ c ec e3.
    let s3 = u64_encoded Truncated b.1 c s2.rest_are_bytes ec in
    from (number_at Truncated w64 c.1) _ x e3 (λ d ed e4.
    let s4 = u64_encoded Truncated c.1 d s3.rest_are_bytes ed in
    from (number_at Truncated w64 d.1) _ x e4 (λ f ef e5.
    let s5 = u64_encoded Truncated d.1 f s4.rest_are_bytes ef in
    let h : Header = record { profile = p; round = a.0; latest_timestamp = b.0; min_fee = c.0; min_balance = d.0; max_life = f.0 } in
    let is : ◌≡◌ {A = Header × List ℕ} (h, f.1) x = same_value _ _ e5 in
    subst (HeaderRead p bytes) is (record {
      encoded = join bytes _ d.1 _ f.1 (join bytes _ c.1 _ d.1 (join bytes _ b.1 _ c.1 (join bytes _ a.1 _ b.1 s1 s2) s3) s4) s5;
      fits = record {
        round = u64_fits Truncated bytes a all ea;
        latest_timestamp = u64_fits Truncated a.1 b s1.rest_are_bytes eb;
        min_fee = u64_fits Truncated b.1 c s2.rest_are_bytes ec;
        min_balance = u64_fits Truncated c.1 d s3.rest_are_bytes ed;
        max_life = u64_fits Truncated d.1 f s4.rest_are_bytes ef;
      };
      profile = refl;
    }))))))

out_of_block : {A : Type 0} (r : Result A CallDataFault) (x : A) → in_block r ≡ Ok x → r ≡ Ok x
out_of_block (Ok y) x e = let same : y ≡ x = same_value _ _ e in ap (λ z. Ok z) same
out_of_block (Err d) x e = absurd cc

record CallRead (accepted : CallData → Bool) (bytes : List ℕ) (x : CallData × List ℕ) : Type 0 where
  encoded : IsEncoded bytes (call_bytes x.0) x.1
  fields : HasFields x.0
  allowed : accepted x.0 ≡ true

call_in_encoded : (accepted : CallData → Bool) (bytes : List ℕ) (x : CallData × List ℕ) → AllBytes bytes → call_in accepted bytes ≡ Ok x → CallRead accepted bytes x
call_in_encoded accepted bytes x all e =
    from (in_block (call_front bytes)) _ x e (λ c ec e1.
    let rule = kept (λ z. accepted z.0) Field c x e1 in
    let read = front_encodes bytes c.0 c.1 (All-from_get_or (λ b. b < 256) bytes 0 (λ i lt. byte_below bytes all i)) (out_of_block (call_front bytes) c ec) in
    subst (CallRead accepted bytes) rule.1 (record { encoded = encoded bytes (call_bytes c.0) c.1 all (sym read.0); fields = read.1; allowed = ap (λ z. accepted z.0) rule.1 ∙ rule.0 }))

record EntryRead (accepted : CallData → Bool) (before : ℕ) (bytes : List ℕ) (x : Entry × List ℕ) : Type 0 where
  encoded : IsEncoded bytes (block_entry_bytes x.0) x.1
  entry : IsEntry accepted before x.0

entry_encoded : (accepted : CallData → Bool) (before : ℕ) (bytes : List ℕ) (x : Entry × List ℕ) → AllBytes bytes → block_entry_at accepted before bytes ≡ Ok x → EntryRead accepted before bytes x
entry_encoded accepted before bytes x all e =
    from (timestamp_at before bytes) _ x e (λ t et e1.
    from (number_at Truncated w64 bytes) _ t et (λ n en t1.
    let rule = kept (λ z. ltb before z.0) Order n t t1 in
    let s1 = subst (λ p. IsEncoded bytes (u64_bytes p.0) p.1) rule.1 (u64_encoded Truncated bytes n all en) in
    let small : t.0 < 2 ^ 64 = subst (λ p. p.0 < 2 ^ 64) rule.1 (u64_fits Truncated bytes n all en) in
    from (call_in accepted t.1) _ x e1 (λ c ec e2.
    let call = call_in_encoded accepted t.1 c s1.rest_are_bytes ec in
    from (outcome_at c.1) _ x e2 (λ o eo e3.
    let end = outcome_encoded c.1 o call.encoded.rest_are_bytes eo in
    let entry : Entry = record { timestamp = t.0; call = c.0; outcome = o.0 } in
    let is : ◌≡◌ {A = Entry × List ℕ} (entry, o.1) x = same_value _ _ e3 in
    subst (EntryRead accepted before bytes) is (record {
      encoded = join bytes _ c.1 _ o.1 (join bytes _ t.1 _ c.1 s1 call.encoded) end.0;
      entry = record { rises = ltb-true before t.0 rule.0; timestamp = small; call = call.fields; allowed = call.allowed; outcome = end.1 };
    })))))

record EntriesRead (accepted : CallData → Bool) (n before : ℕ) (bytes : List ℕ) (x : List Entry × List ℕ) : Type 0 where
  encoded : IsEncoded bytes (flat_map block_entry_bytes x.0) x.1
  count : length x.0 ≡ n
  entries : AreEntries accepted before x.0

entries_encoded : (accepted : CallData → Bool) (n before : ℕ) (bytes : List ℕ) (x : List Entry × List ℕ) → AllBytes bytes → block_entries_at accepted n before bytes ≡ Ok x → EntriesRead accepted n before bytes x
entries_encoded accepted zero before bytes x all e =
    let is : ◌≡◌ {A = List Entry × List ℕ} ([], bytes) x = same_value _ _ e in
    subst (EntriesRead accepted 0 before bytes) is (record { encoded = encoded bytes [] bytes all refl; count = refl; entries = tt })
entries_encoded accepted (suc n) before bytes x all e =
    from (block_entry_at accepted before bytes) _ x e (λ a ea e1.
    let first = entry_encoded accepted before bytes a all ea in
    from (block_entries_at accepted n a.0.timestamp a.1) _ x e1 (λ m em e2.
    let more = entries_encoded accepted n a.0.timestamp a.1 m first.encoded.rest_are_bytes em in
    let is : ◌≡◌ {A = List Entry × List ℕ} (a.0 ∷ m.0, m.1) x = same_value _ _ e2 in
    subst (EntriesRead accepted (suc n) before bytes) is (record {
      encoded = join bytes (block_entry_bytes a.0) a.1 (flat_map block_entry_bytes m.0) m.1 first.encoded more.encoded;
      count = ap suc more.count;
      entries = (first.entry, more.entries);
    })))

record CountRead (bytes : List ℕ) (x : ℕ × List ℕ) : Type 0 where
  encoded : IsEncoded bytes (u32_bytes x.0) x.1
  few : x.0 ≤ most_calls

count_encoded : (bytes : List ℕ) (x : ℕ × List ℕ) → AllBytes bytes → count_at bytes ≡ Ok x → CountRead bytes x
count_encoded bytes x all e =
    from (number_at Truncated w32 bytes) _ x e (λ n en e1.
    let rule = kept (λ z. leb z.0 most_calls) Field n x e1 in
    record { encoded = subst (λ p. IsEncoded bytes (u32_bytes p.0) p.1) rule.1 (u32_encoded Truncated bytes n all en); few = leb-true x.0 most_calls rule.0 })

-- the bytes begin with the body of the block, whose fields are within their limits
pub record BodyRead (accepted : Profile → CallData → Bool) (bytes : List ℕ) (x : Block × List ℕ) : Type 0 where
  pub encoded : IsEncoded bytes (body_bytes x.0) x.1
  pub block : IsBlock accepted x.0

digest_encoded : (bytes : List ℕ) (x : List ℕ × List ℕ) → AllBytes bytes → bytes_at Truncated 32 bytes ≡ Ok x → IsEncoded bytes x.0 x.1
digest_encoded bytes x all e = encoded bytes x.0 x.1 all (bytes_encoded Truncated 32 bytes x e).0

-- a body that is read is encoded by the bytes read, and its fields are within their limits
pub body_encoded : (accepted : Profile → CallData → Bool) (bytes : List ℕ) (x : Block × List ℕ) → AllBytes bytes → body_at accepted bytes ≡ Ok x → BodyRead accepted bytes x
body_encoded accepted bytes x all e =
    from (magic_at bytes) _ x e (λ m em e1.
    let s1 = magic_encoded bytes m all em in
    from (profile_at m.1) _ x e1 (λ p ep e2.
    let s2 = profile_encoded m.1 p s1.rest_are_bytes ep in
    from (bytes_at Truncated 32 p.1) _ x e2 (λ d ed e3.
    let s3 = digest_encoded p.1 d s2.rest_are_bytes ed in
    from (header_at p.0 d.1) _ x e3 (λ h eh e4.
    let s4 = header_encoded p.0 d.1 h s3.rest_are_bytes eh in
    from (count_at h.1) _ x e4 (λ n en e5.
    let s5 = count_encoded h.1 n s4.encoded.rest_are_bytes en in
    from (block_entries_at (accepted p.0) n.0 0 n.1) _ x e5 (λ es ees e6.
    let s6 = entries_encoded (accepted p.0) n.0 0 n.1 es s5.encoded.rest_are_bytes ees in
    from (bytes_at Truncated 32 es.1) _ x e6 (λ a ea e7.
    let s7 = digest_encoded es.1 a s6.encoded.rest_are_bytes ea in
    let b : Block = record { base = d.0; header = h.0; entries = es.0; after = a.0 } in
    let is : ◌≡◌ {A = Block × List ℕ} (b, a.1) x = same_value _ _ e7 in
    let format : IsEncoded m.1 (format_bytes h.0.profile) p.1 = subst (λ q. IsEncoded m.1 (format_bytes q) p.1) (sym s4.profile) s2 in
    let counted : IsEncoded h.1 (u32_bytes (length es.0)) n.1 = subst (λ k. IsEncoded h.1 (u32_bytes k) n.1) (sym s6.count) s5.encoded in
    subst (BodyRead accepted bytes) is (record {
      encoded = join bytes _ es.1 _ a.1 (join bytes _ h.1 _ es.1 (join bytes _ d.1 _ h.1 (join bytes _ p.1 _ d.1 (join bytes _ m.1 _ p.1 s1 format) s3) s4.encoded) (join h.1 _ n.1 _ es.1 counted s6.encoded)) s7;
      block = record {
        base = (bytes_encoded Truncated 32 p.1 d ed).1;
        header = s4.fits;
        few = subst (λ k. k ≤ most_calls) (sym s6.count) s5.few;
        entries = subst (λ q. AreEntries (accepted q) 0 es.0) (sym s4.profile) s6.entries;
        after = (bytes_encoded Truncated 32 es.1 a ea).1;
      };
    }))))))))

record IsSealed (bytes : List ℕ) (b : Block × List ℕ) (c : Block) : Type 0 where
  same : b.0 ≡ c
  digest : b.1 ≡ sha256 (take (length bytes - length b.1) bytes)

sealed_is : (bytes : List ℕ) (b : Block × List ℕ) (c : Block) → sealed bytes b ≡ Ok c → IsSealed bytes b c
sealed_is bytes b c e =
    from (bytes_at Truncated 32 b.1) _ c e (λ d ed e1.
    elim (chosen (eqb (length d.1) 0) _ _ _ e1) [
      | inl h ↦
          elim (chosen (are_same_bytes d.0 (sha256 (take (length bytes - length b.1) bytes))) _ _ _ h.1) [
            | inl i ↦
                let none : d.1 ≡ [] = nil_from_length d.1 (eqb-true (length d.1) 0 h.0) in
                let whole : b.1 ≡ d.0 = (bytes_encoded Truncated 32 b.1 d ed).0 ∙ ap (λ r. d.0 ++ r) none ∙ append-nil d.0 in
                record { same = same_value _ _ i.1; digest = whole ∙ (bytes_eq-Decides d.0 _).0 i.0 }
            | inr i ↦ nothing Digest i.1
          ]
      | inr h ↦ nothing Rest h.1
    ])
  where
    nothing : {P : Type 0} (d : BlockFault) → ◌≡◌ {A = Result Block BlockFault} (Err d) (Ok c) → P
    nothing d e = absurd cc

-- a block that is read is encoded by those very bytes, and its fields are within their limits
pub block_encoded : (accepted : Profile → CallData → Bool) (bytes : List ℕ) (b : Block) → All (λ n. n < 256) bytes → block_at accepted bytes ≡ Ok b → (block_bytes b ≡ bytes) × IsBlock accepted b
block_encoded accepted bytes b all e =
    from (body_at accepted bytes) (sealed bytes) b e (λ f ef e1.
    let read = body_encoded accepted bytes f (all_bytes bytes all) ef in
    let end = sealed_is bytes f b e1 in
    let front : take (length bytes - length f.1) bytes ≡ body_bytes f.0 = ap (λ s. take (length s - length f.1) s) read.encoded.same ∙ front_is (body_bytes f.0) f.1 in
    let digest : f.1 ≡ sha256 (body_bytes f.0) = end.digest ∙ ap sha256 front in
    (sym (read.encoded.same ∙ ap (λ r. body_bytes f.0 ++ r) digest ∙ ap block_bytes end.same), subst (IsBlock accepted) end.same read.block))
