-- A call that is read is encoded by the bytes.
use Rattle.std.proofs.Common.{◌≡◌, ℕ, ◌-◌, ◌<◌, Bool, true, false, cond, eqb, List, [], ◌∷◌, ◌++◌, length, take, drop, Option, Some, None, Result, Ok, Err, All, refl, sym, ap, subst, ◌∙◌, length-append, arith}
use Rattle.std.specs.Int.{w8, w64}
use Rattle.std.specs.Option.{ok_or}
use Rattle.std.proofs.lemmas.Bool.{eqb-true}
use Rattle.std.proofs.lemmas.List.{append-nil, nil_from_length, take-append-drop}
use Rattle.teal_value.specs.declared.address.Address.{Address}
use Rattle.teal_code.proofs.Bytes.{AllBytes, all_bytes}
use Rattle.avm_ledger.specs.Encodings.{u8_bytes, u64_bytes, string_bytes, counted_bytes, schema_bytes}
use Rattle.avm_ledger.specs.FieldReader.{bytes_at, number_at, string_at, address_at, schema_at, counted_at, alone}
use Rattle.avm_ledger.proofs.FieldsEncoded.{from, same_value, IsEncoded, encoded, join, bytes_encoded, byte_encoded, u64_encoded, string_encoded, address_encoded, schema_encoded, counted_encoded}
use Rattle.avm_ledger.proofs.FieldsFit.{u64_fits, string_fits, address_fits, schema_fits, counted_fit}
use Rattle.avm_items.specs.declared.call_data.Completion.{Completion}
use Rattle.avm_items.specs.declared.call_data.Completion.TheVariants as completion
use Rattle.avm_items.specs.declared.call_data.CallData.{CallData}
use Rattle.avm_items.specs.CallFields.{completion_number}
use Rattle.avm_call_codec.specs.declared.call_data_fault.CallDataFault.{CallDataFault}
use Rattle.avm_call_codec.specs.declared.call_data_fault.CallDataFault.TheVariants.{Field, Truncated, Rest}
use Rattle.avm_call_codec.specs.declared.groups.Terms.{Terms}
use Rattle.avm_call_codec.specs.declared.groups.Target.{Target}
use Rattle.avm_call_codec.specs.declared.groups.Lists.{Lists}
use Rattle.avm_call_codec.specs.declared.groups.Programs.{Programs}
use Rattle.avm_call_codec.specs.CallEncoding.{address_bytes, call_bytes}
use Rattle.avm_call_codec.specs.CallReader.{completion_of, completion_at, terms_at, target_at, lists_at, programs_at, call_of_groups, call_front, call_from, call_at}
use Rattle.avm_call_codec.specs.CallRoundTrip.{IsAddress, IsStringField, IsWord, HasFields}

one_of : (n k : ℕ) (this : Completion) (others : Option Completion) (d : Completion) → completion_number this ≡ k → (others ≡ Some d → n ≡ completion_number d) → cond (eqb n k) (Some this) others ≡ Some d → n ≡ completion_number d
one_of n k this others d is later e = at_test (eqb n k) refl e
  where
    at_test : (b : Bool) → eqb n k ≡ b → cond b (Some this) others ≡ Some d → n ≡ completion_number d
    at_test true test e = let same : this ≡ d = cc in eqb-true n k test ∙ sym is ∙ ap completion_number same
    at_test false test e = later e

numbered : (n : ℕ) (d : Completion) → completion_of n ≡ Some d → n ≡ completion_number d
numbered n d =
    one_of n 0 completion.NoOp _ d refl (one_of n 1 completion.OptIn _ d refl (one_of n 2 completion.CloseOut _ d refl
    (one_of n 3 completion.ClearState _ d refl (one_of n 4 completion.UpdateApplication _ d refl (one_of n 5 completion.DeleteApplication None d refl (λ e. absurd cc))))))

some : (o : Option Completion) (d : Completion) → ◌≡◌ {A = Result Completion CallDataFault} (ok_or o Field) (Ok d) → o ≡ Some d
some None d e = absurd cc
some (Some c) d e = cc

completion_encoded : (bytes : List ℕ) (x : Completion × List ℕ) → AllBytes bytes → completion_at bytes ≡ Ok x → IsEncoded bytes (u8_bytes (completion_number x.0)) x.1
completion_encoded bytes x all e =
    from (number_at Truncated w8 bytes) _ x e (λ n en e1.
    from (ok_or (completion_of n.0) Field) _ x e1 (λ d ed e2.
    let is : ◌≡◌ {A = Completion × List ℕ} (d, n.1) x = same_value _ _ e2 in
    let number : n.0 ≡ completion_number d = numbered n.0 d (some _ d ed) in
    subst (λ p. IsEncoded bytes (u8_bytes (completion_number p.0)) p.1) is (subst (λ m. IsEncoded bytes (u8_bytes m) n.1) number (byte_encoded Truncated bytes n all en))))

lease_encoded : (bytes : List ℕ) (x : List ℕ × List ℕ) → AllBytes bytes → bytes_at Truncated 32 bytes ≡ Ok x → IsEncoded bytes x.0 x.1
lease_encoded bytes x all e = encoded bytes x.0 x.1 all (bytes_encoded Truncated 32 bytes x e).0

strings_encoded : (bytes : List ℕ) (x : List ℕ × List ℕ) → AllBytes bytes → string_at Truncated bytes ≡ Ok x → IsEncoded bytes (string_bytes x.0) x.1
strings_encoded bytes x all e = string_encoded Truncated bytes x all e

strings_fit : (bytes : List ℕ) (x : List ℕ × List ℕ) → AllBytes bytes → string_at Truncated bytes ≡ Ok x → IsStringField x.0
strings_fit bytes x all e = string_fits Truncated bytes x all e

accounts_encoded : (bytes : List ℕ) (x : Address × List ℕ) → AllBytes bytes → address_at Truncated bytes ≡ Ok x → IsEncoded bytes (address_bytes x.0) x.1
accounts_encoded bytes x all e = address_encoded Truncated bytes x all e

accounts_fit : (bytes : List ℕ) (x : Address × List ℕ) → AllBytes bytes → address_at Truncated bytes ≡ Ok x → IsAddress x.0
accounts_fit bytes x all e = address_fits Truncated bytes x e

words_encoded : (bytes : List ℕ) (x : ℕ × List ℕ) → AllBytes bytes → number_at Truncated w64 bytes ≡ Ok x → IsEncoded bytes (u64_bytes x.0) x.1
words_encoded bytes x all e = u64_encoded Truncated bytes x all e

words_fit : (bytes : List ℕ) (x : ℕ × List ℕ) → AllBytes bytes → number_at Truncated w64 bytes ≡ Ok x → IsWord x.0
words_fit bytes x all e = u64_fits Truncated bytes x all e

-- ---- group by group: the bytes that are read, and that the fields are within their sizes

record AreTerms (bytes : List ℕ) (x : Terms × List ℕ) : Type 0 where
  encoded : IsEncoded bytes (x.0.sender.0 ++ u64_bytes x.0.fee ++ u64_bytes x.0.first_valid ++ u64_bytes x.0.last_valid ++ string_bytes x.0.note) x.1
  sender : IsAddress x.0.sender
  fee : IsWord x.0.fee
  first_valid : IsWord x.0.first_valid
  last_valid : IsWord x.0.last_valid
  note : IsStringField x.0.note

terms_encoded : (bytes : List ℕ) (x : Terms × List ℕ) → AllBytes bytes → terms_at bytes ≡ Ok x → AreTerms bytes x
terms_encoded bytes x all e =
    from (address_at Truncated bytes) _ x e (λ a1 r1 e1.
    let s1 = address_encoded Truncated bytes a1 all r1 in
    from (number_at Truncated w64 a1.1) _ x e1 (λ a2 r2 e2.
    let s2 = u64_encoded Truncated a1.1 a2 s1.rest_are_bytes r2 in
    from (number_at Truncated w64 a2.1) _ x e2 (λ a3 r3 e3.
    let s3 = u64_encoded Truncated a2.1 a3 s2.rest_are_bytes r3 in
    from (number_at Truncated w64 a3.1) _ x e3 (λ a4 r4 e4.
    let s4 = u64_encoded Truncated a3.1 a4 s3.rest_are_bytes r4 in
    from (string_at Truncated a4.1) _ x e4 (λ a5 r5 e5.
    let s5 = string_encoded Truncated a4.1 a5 s4.rest_are_bytes r5 in
    let terms : Terms = record { sender = a1.0; fee = a2.0; first_valid = a3.0; last_valid = a4.0; note = a5.0 } in
    let is : ◌≡◌ {A = Terms × List ℕ} (terms, a5.1) x = same_value _ _ e5 in
    subst (AreTerms bytes) is (record {
      encoded = join bytes _ a4.1 _ a5.1 (join bytes _ a3.1 _ a4.1 (join bytes _ a2.1 _ a3.1 (join bytes _ a1.1 _ a2.1 s1 s2) s3) s4) s5;
      sender = address_fits Truncated bytes a1 r1;
      fee = u64_fits Truncated a1.1 a2 s1.rest_are_bytes r2;
      first_valid = u64_fits Truncated a2.1 a3 s2.rest_are_bytes r3;
      last_valid = u64_fits Truncated a3.1 a4 s3.rest_are_bytes r4;
      note = string_fits Truncated a4.1 a5 s4.rest_are_bytes r5;
    }))))))

record IsTarget (bytes : List ℕ) (x : Target × List ℕ) : Type 0 where
  encoded : IsEncoded bytes (x.0.lease ++ x.0.rekey_to.0 ++ u64_bytes x.0.application ++ u8_bytes (completion_number x.0.completion)) x.1
  lease : length x.0.lease ≡ 32
  rekey_to : IsAddress x.0.rekey_to
  application : IsWord x.0.application

target_encoded : (bytes : List ℕ) (x : Target × List ℕ) → AllBytes bytes → target_at bytes ≡ Ok x → IsTarget bytes x
target_encoded bytes x all e =
    from (bytes_at Truncated 32 bytes) _ x e (λ a1 r1 e1.
    let s1 = lease_encoded bytes a1 all r1 in
    from (address_at Truncated a1.1) _ x e1 (λ a2 r2 e2.
    let s2 = address_encoded Truncated a1.1 a2 s1.rest_are_bytes r2 in
    from (number_at Truncated w64 a2.1) _ x e2 (λ a3 r3 e3.
    let s3 = u64_encoded Truncated a2.1 a3 s2.rest_are_bytes r3 in
    from (completion_at a3.1) _ x e3 (λ a4 r4 e4.
    let s4 = completion_encoded a3.1 a4 s3.rest_are_bytes r4 in
    let target : Target = record { lease = a1.0; rekey_to = a2.0; application = a3.0; completion = a4.0 } in
    let is : ◌≡◌ {A = Target × List ℕ} (target, a4.1) x = same_value _ _ e4 in
    subst (IsTarget bytes) is (record {
      encoded = join bytes _ a3.1 _ a4.1 (join bytes _ a2.1 _ a3.1 (join bytes _ a1.1 _ a2.1 s1 s2) s3) s4;
      lease = (bytes_encoded Truncated 32 bytes a1 r1).1;
      rekey_to = address_fits Truncated a1.1 a2 r2;
      application = u64_fits Truncated a2.1 a3 s2.rest_are_bytes r3;
    })))))

record AreLists (bytes : List ℕ) (x : Lists × List ℕ) : Type 0 where
  encoded : IsEncoded bytes (counted_bytes u8_bytes string_bytes x.0.arguments ++ counted_bytes u8_bytes address_bytes x.0.accounts ++ counted_bytes u8_bytes u64_bytes x.0.foreign_applications) x.1
  arguments : All IsStringField x.0.arguments × (length x.0.arguments < 256)
  accounts : All IsAddress x.0.accounts × (length x.0.accounts < 256)
  foreign : All IsWord x.0.foreign_applications × (length x.0.foreign_applications < 256)

lists_encoded : (bytes : List ℕ) (x : Lists × List ℕ) → AllBytes bytes → lists_at bytes ≡ Ok x → AreLists bytes x
lists_encoded bytes x all e =
    from (counted_at Truncated (string_at Truncated) bytes) _ x e (λ a1 r1 e1.
    let s1 = counted_encoded Truncated (string_at Truncated) string_bytes strings_encoded bytes a1 all r1 in
    from (counted_at Truncated (address_at Truncated) a1.1) _ x e1 (λ a2 r2 e2.
    let s2 = counted_encoded Truncated (address_at Truncated) address_bytes accounts_encoded a1.1 a2 s1.rest_are_bytes r2 in
    from (counted_at Truncated (number_at Truncated w64) a2.1) _ x e2 (λ a3 r3 e3.
    let s3 = counted_encoded Truncated (number_at Truncated w64) u64_bytes words_encoded a2.1 a3 s2.rest_are_bytes r3 in
    let lists : Lists = record { arguments = a1.0; accounts = a2.0; foreign_applications = a3.0 } in
    let is : ◌≡◌ {A = Lists × List ℕ} (lists, a3.1) x = same_value _ _ e3 in
    subst (AreLists bytes) is (record {
      encoded = join bytes _ a2.1 _ a3.1 (join bytes _ a1.1 _ a2.1 s1 s2) s3;
      arguments = counted_fit Truncated (string_at Truncated) string_bytes IsStringField strings_encoded strings_fit bytes a1 all r1;
      accounts = counted_fit Truncated (address_at Truncated) address_bytes IsAddress accounts_encoded accounts_fit a1.1 a2 s1.rest_are_bytes r2;
      foreign = counted_fit Truncated (number_at Truncated w64) u64_bytes IsWord words_encoded words_fit a2.1 a3 s2.rest_are_bytes r3;
    }))))

record ArePrograms (bytes : List ℕ) (x : Programs × List ℕ) : Type 0 where
  encoded : IsEncoded bytes (string_bytes x.0.approval ++ string_bytes x.0.clear ++ schema_bytes x.0.global_schema ++ schema_bytes x.0.local_schema) x.1
  approval : IsStringField x.0.approval
  clear : IsStringField x.0.clear
  global : (x.0.global_schema.uints < 256) × (x.0.global_schema.bytes < 256)
  local : (x.0.local_schema.uints < 256) × (x.0.local_schema.bytes < 256)

programs_encoded : (bytes : List ℕ) (x : Programs × List ℕ) → AllBytes bytes → programs_at bytes ≡ Ok x → ArePrograms bytes x
programs_encoded bytes x all e =
    from (string_at Truncated bytes) _ x e (λ a1 r1 e1.
    let s1 = string_encoded Truncated bytes a1 all r1 in
    from (string_at Truncated a1.1) _ x e1 (λ a2 r2 e2.
    let s2 = string_encoded Truncated a1.1 a2 s1.rest_are_bytes r2 in
    from (schema_at Truncated a2.1) _ x e2 (λ a3 r3 e3.
    let s3 = schema_encoded Truncated a2.1 a3 s2.rest_are_bytes r3 in
    from (schema_at Truncated a3.1) _ x e3 (λ a4 r4 e4.
    let s4 = schema_encoded Truncated a3.1 a4 s3.rest_are_bytes r4 in
    let programs : Programs = record { approval = a1.0; clear = a2.0; global_schema = a3.0; local_schema = a4.0 } in
    let is : ◌≡◌ {A = Programs × List ℕ} (programs, a4.1) x = same_value _ _ e4 in
    subst (ArePrograms bytes) is (record {
      encoded = join bytes _ a3.1 _ a4.1 (join bytes _ a2.1 _ a3.1 (join bytes _ a1.1 _ a2.1 s1 s2) s3) s4;
      approval = string_fits Truncated bytes a1 all r1;
      clear = string_fits Truncated a1.1 a2 s1.rest_are_bytes r2;
      global = schema_fits Truncated a2.1 a3 s2.rest_are_bytes r3;
      local = schema_fits Truncated a3.1 a4 s3.rest_are_bytes r4;
    })))))

-- a call that is read, and what is known of it
record IsReadAs (bytes : List ℕ) (x : CallData × List ℕ) : Type 0 where
  encoded : IsEncoded bytes (call_bytes x.0) x.1
  fields : HasFields x.0

call_encoded : (bytes : List ℕ) (x : CallData × List ℕ) → AllBytes bytes → call_front bytes ≡ Ok x → IsReadAs bytes x
call_encoded bytes x all e =
    from (terms_at bytes) _ x e (λ t r1 e1.
    let terms = terms_encoded bytes t all r1 in
    from (target_at t.1) _ x e1 (λ g r2 e2.
    let target = target_encoded t.1 g terms.encoded.rest_are_bytes r2 in
    from (lists_at g.1) _ x e2 (λ l r3 e3.
    let lists = lists_encoded g.1 l target.encoded.rest_are_bytes r3 in
    from (programs_at l.1) _ x e3 (λ p r4 e4.
    let programs = programs_encoded l.1 p lists.encoded.rest_are_bytes r4 in
    let is : ◌≡◌ {A = CallData × List ℕ} (call_of_groups t.0 g.0 l.0 p.0, p.1) x = same_value _ _ e4 in
    subst (IsReadAs bytes) is (record {
      encoded = join bytes _ l.1 _ p.1 (join bytes _ g.1 _ l.1 (join bytes _ t.1 _ g.1 terms.encoded target.encoded) lists.encoded) programs.encoded;
      fields = record {
        sender = terms.sender;
        fee = terms.fee;
        first_valid = terms.first_valid;
        last_valid = terms.last_valid;
        note = terms.note;
        lease = target.lease;
        rekey_to = target.rekey_to;
        application = target.application;
        argument_count = lists.arguments.1;
        arguments = lists.arguments.0;
        account_count = lists.accounts.1;
        accounts = lists.accounts.0;
        foreign_count = lists.foreign.1;
        foreign_applications = lists.foreign.0;
        approval = programs.approval;
        clear = programs.clear;
        global_uints = programs.global.0;
        global_strings = programs.global.1;
        local_uints = programs.local.0;
        local_strings = programs.local.1;
      };
    })))))

-- a call that is read is encoded by the first bytes, and its fields are within their sizes
pub front_encodes : (bytes : List ℕ) (c : CallData) (rest : List ℕ) → All (λ b. b < 256) bytes → call_front bytes ≡ Ok (c, rest) → (call_bytes c ++ rest ≡ bytes) × HasFields c
front_encodes bytes c rest all e =
    let r = call_encoded bytes (c, rest) (all_bytes bytes all) e in
    (sym r.encoded.same, r.fields)

at_end : (c d : CallData) (rest : List ℕ) (b : Bool) → eqb (length rest) 0 ≡ b → ◌≡◌ {A = Result CallData CallDataFault} (cond b (Ok d) (Err Rest)) (Ok c) → (d ≡ c) × (rest ≡ [])
at_end c d rest true test e = (same_value _ _ e, nil_from_length rest (eqb-true (length rest) 0 test))
at_end c d rest false test e = absurd cc

-- a call read from all of the bytes is encoded by them, and its fields are within their sizes
pub call_encodes : (bytes : List ℕ) (c : CallData) → All (λ b. b < 256) bytes → call_at bytes ≡ Ok c → (call_bytes c ≡ bytes) × HasFields c
call_encodes bytes c all e =
    from (call_front bytes) (alone Rest) c e (λ f ef e1.
    let r = call_encoded bytes f (all_bytes bytes all) ef in
    let end = at_end c f.0 f.1 (eqb (length f.1) 0) refl e1 in
    (sym (r.encoded.same ∙ ap (λ rest. call_bytes f.0 ++ rest) end.1 ∙ append-nil (call_bytes f.0) ∙ ap call_bytes end.0), subst HasFields end.0 r.fields))

all_behind : (n : ℕ) (bytes : List ℕ) → AllBytes bytes → AllBytes (drop n bytes)
all_behind n bytes all = (encoded bytes (take n bytes) (drop n bytes) all (sym (take-append-drop n bytes))).rest_are_bytes

drop_length : (xs rest : List ℕ) → drop (length xs) (xs ++ rest) ≡ rest
drop_length [] rest = refl
drop_length (x ∷ xs) rest = drop_length xs rest

-- what is left of bytes stands behind the place where it begins
left_behind : (bytes xs rest : List ℕ) → bytes ≡ xs ++ rest → drop (length bytes - length rest) bytes ≡ rest
left_behind bytes xs rest e =
    let at : length bytes - length rest ≡ length xs = omega (arith, ap length e, length-append xs rest) in
    ap (λ n. drop n bytes) at ∙ ap (drop (length xs)) e ∙ drop_length xs rest

-- a call read at a place is encoded from there to the next place, with fields within their sizes
pub place_encodes : (bytes : List ℕ) (place : ℕ) (c : CallData) (next : ℕ) → All (λ b. b < 256) bytes → call_from bytes place ≡ Ok (c, next) → (call_bytes c ++ drop next bytes ≡ drop place bytes) × HasFields c
place_encodes bytes place c next all e =
    from (call_front (drop place bytes)) _ (c, next) e (λ f ef e1.
    let r = call_encoded (drop place bytes) f (all_behind place bytes (all_bytes bytes all)) ef in
    let is : ◌≡◌ {A = CallData × ℕ} (f.0, length bytes - length f.1) (c, next) = same_value _ _ e1 in
    let whole : bytes ≡ (take place bytes ++ call_bytes f.0) ++ f.1 = (join bytes _ _ _ _ (encoded bytes (take place bytes) (drop place bytes) (all_bytes bytes all) (sym (take-append-drop place bytes))) r.encoded).same in
    let left : drop next bytes ≡ f.1 = ap (λ p. drop p.1 bytes) (sym is) ∙ left_behind bytes (take place bytes ++ call_bytes f.0) f.1 whole in
    (ap (λ d. call_bytes d ++ drop next bytes) (ap (λ p. p.0) (sym is)) ∙ ap (λ rest. call_bytes f.0 ++ rest) left ∙ sym r.encoded.same, subst HasFields (ap (λ p. p.0) is) r.fields))
