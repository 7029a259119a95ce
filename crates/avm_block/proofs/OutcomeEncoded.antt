-- An outcome that is read is encoded by the bytes.
use Rattle.std.proofs.Common.{◌≡◌, ℕ, ◌≤◌, Bool, true, false, cond, eqb, leb, List, [], ◌∷◌, Option, Some, None, Result, Ok, Err, refl, sym, ap, subst, ◌∙◌, inl, inr}
use Rattle.std.specs.Int.{w8, w16}
use Rattle.std.specs.Option.{ok_or}
use Rattle.std.proofs.lemmas.Bool.{eqb-true, leb-true}
use Rattle.teal_value.specs.Answer.{◌>>=◌}
use Rattle.teal_value.specs.FaultNumbers.{fault_number, faults, numbered}
use Rattle.teal_value.proofs.FaultsNumbered.{small_fault}
use Rattle.teal_value.specs.declared.fault.Fault.{Fault}
use Rattle.teal_value.proofs.Binding.{chosen}
use Rattle.teal_code.proofs.Bytes.{AllBytes}
use Rattle.teal_code.specs.Limits.{most_program_bytes}
use Rattle.avm_ledger.specs.Encodings.{u8_bytes, u16_bytes}
use Rattle.avm_ledger.specs.FieldReader.{Front, number_at}
use Rattle.avm_ledger.proofs.FieldsEncoded.{from, same_value, IsEncoded, join, byte_encoded, u16_encoded}
use Rattle.avm_call.specs.declared.outcome.Cause.{Cause}
use Rattle.avm_call.specs.declared.outcome.Cause.TheVariants as cause
use Rattle.avm_call.specs.declared.outcome.Outcome.{Outcome}
use Rattle.avm_call.specs.declared.outcome.Outcome.TheVariants as outcome
use Rattle.avm_call.specs.OutcomeEncoding.{why_number, whys, outcome_bytes}
use Rattle.avm_block.specs.declared.block_fault.BlockFault.{BlockFault}
use Rattle.avm_block.specs.declared.block_fault.BlockFault.TheVariants.{Truncated, Field}
use Rattle.avm_block.specs.OutcomeReader.{one_at, place_at, fault_and_place_at, cause_of_kind, outcome_of_kind, outcome_at}
use Rattle.avm_call.specs.Places.{HasCausePlace, HasPlace}
use Rattle.avm_block.proofs.OutcomeBack.{cause_bytes, byte_as_it_is, small_why}

-- a field that keeps its rule
pub kept : {A : Type 0} (rule : A → Bool) (d : BlockFault) (x y : A) → cond (rule x) (Ok x) (Err d) ≡ Ok y → (rule y ≡ true) × (x ≡ y)
kept {A} rule d x y e = at_test (rule x) refl e
  where
    at_test : (b : Bool) → rule x ≡ b → ◌≡◌ {A = Result A BlockFault} (cond b (Ok x) (Err d)) (Ok y) → (rule y ≡ true) × (x ≡ y)
    at_test true test e = let same : x ≡ y = same_value _ _ e in (subst (λ z. rule z ≡ true) same test, same)
    at_test false test e = absurd cc

numbered_by : {A : Type 0} (number : A → ℕ) (n : ℕ) (y x : A) (later : Option A) (b : Bool) → eqb (number y) n ≡ b → (later ≡ Some x → n ≡ number x) → cond b (Some y) later ≡ Some x → n ≡ number x
numbered_by number n y x later true test more e = let same : y ≡ x = cc in sym (eqb-true (number y) n test) ∙ ap number same
numbered_by number n y x later false test more e = more e

numbered_is : {A : Type 0} (number : A → ℕ) (n : ℕ) (xs : List A) (x : A) → numbered number n xs ≡ Some x → n ≡ number x
numbered_is number n [] x e = absurd cc
numbered_is number n (y ∷ ys) x e = numbered_by number n y x (numbered number n ys) (eqb (number y) n) refl (numbered_is number n ys x) e

some : {A : Type 0} (o : Option A) (x : A) → ◌≡◌ {A = Result A BlockFault} (ok_or o Field) (Ok x) → o ≡ Some x
some None x e = absurd cc
some (Some y) x e = cc

one_encoded : {A : Type 0} (number : A → ℕ) (xs : List A) → ((x : A) → u8_bytes (number x) ≡ number x ∷ []) → (bytes : List ℕ) (x : A × List ℕ) → AllBytes bytes → one_at number xs bytes ≡ Ok x → IsEncoded bytes (number x.0 ∷ []) x.1
one_encoded {A} number xs small bytes x all e =
    from (number_at Truncated w8 bytes) _ x e (λ n en e1.
    from (ok_or (numbered number n.0 xs) Field) _ x e1 (λ a ea e2.
    let is : ◌≡◌ {A = A × List ℕ} (a, n.1) x = same_value _ _ e2 in
    let num : n.0 ≡ number a = numbered_is number n.0 xs a (some _ a ea) in
    subst (λ p. IsEncoded bytes (number p.0 ∷ []) p.1) is (subst (λ s. IsEncoded bytes s n.1) (ap u8_bytes num ∙ small a) (byte_encoded Truncated bytes n all en))))

place_encoded : (bytes : List ℕ) (x : ℕ × List ℕ) → AllBytes bytes → place_at bytes ≡ Ok x → IsEncoded bytes (u16_bytes x.0) x.1 × (x.0 ≤ most_program_bytes)
place_encoded bytes x all e =
    from (number_at Truncated w16 bytes) _ x e (λ p ep e1.
    let rule = kept (λ z. leb z.0 most_program_bytes) Field p x e1 in
    (subst (λ q. IsEncoded bytes (u16_bytes q.0) q.1) rule.1 (u16_encoded Truncated bytes p all ep), leb-true x.0 most_program_bytes rule.0))

one_fault : (f : Fault) → u8_bytes (fault_number f) ≡ fault_number f ∷ []
one_fault f = sym (byte_as_it_is (fault_number f) [] (small_fault f))

fault_encoded : (bytes : List ℕ) (x : (Fault × ℕ) × List ℕ) → AllBytes bytes → fault_and_place_at bytes ≡ Ok x → IsEncoded bytes (fault_number x.0.0 ∷ u16_bytes x.0.1) x.1 × (x.0.1 ≤ most_program_bytes)
fault_encoded bytes x all e =
    from (one_at fault_number faults bytes) _ x e (λ f ef e1.
    let first = one_encoded fault_number faults one_fault bytes f all ef in
    from (place_at f.1) _ x e1 (λ p ep e2.
    let second = place_encoded f.1 p first.rest_are_bytes ep in
    let is : ◌≡◌ {A = (Fault × ℕ) × List ℕ} ((f.0, p.0), p.1) x = same_value _ _ e2 in
    subst (λ q. IsEncoded bytes (fault_number q.0.0 ∷ u16_bytes q.0.1) q.1 × (q.0.1 ≤ most_program_bytes)) is (join bytes _ f.1 _ p.1 first second.0, second.1)))

-- a kind of this number
pub of_kind : (k : ℕ) (bytes : List ℕ) (n : ℕ × List ℕ) → IsEncoded bytes (u8_bytes n.0) n.1 → eqb n.0 k ≡ true → IsEncoded bytes (u8_bytes k) n.1
of_kind k bytes n is test = subst (λ m. IsEncoded bytes (u8_bytes m) n.1) (eqb-true n.0 k test) is

cause_encoded : (bytes : List ℕ) (n : ℕ × List ℕ) (x : Cause × List ℕ) → IsEncoded bytes (u8_bytes n.0) n.1 → cause_of_kind n ≡ Ok x → IsEncoded bytes (cause_bytes x.0) x.1 × HasCausePlace x.0
cause_encoded bytes n x kind e =
    elim (chosen (eqb n.0 0) _ _ _ e) [
      | inl h ↦ subst (λ p. IsEncoded bytes (cause_bytes p.0) p.1 × HasCausePlace p.0) (same_value (cause.Gone, n.1) x h.1) (of_kind 0 bytes n kind h.0, tt)
      | inr h ↦
          elim (chosen (eqb n.0 1) _ _ _ h.1) [
            | inl i ↦ subst (λ p. IsEncoded bytes (cause_bytes p.0) p.1 × HasCausePlace p.0) (same_value (cause.Rejected, n.1) x i.1) (of_kind 1 bytes n kind i.0, tt)
            | inr i ↦
                elim (chosen (eqb n.0 2) _ _ _ i.1) [
                  | inl j ↦
                      from (fault_and_place_at n.1) _ x j.1 (λ f ef e1.
                      let end = fault_encoded n.1 f kind.rest_are_bytes ef in
                      subst (λ p. IsEncoded bytes (cause_bytes p.0) p.1 × HasCausePlace p.0) (same_value (cause.Faulted f.0.0 f.0.1, f.1) x e1)
                      (join bytes _ n.1 _ f.1 (of_kind 2 bytes n kind j.0) end.0, end.1))
                  | inr j ↦ refused x j.1
                ]
          ]
    ]
  where
    refused : {P : Type 0} (x : Cause × List ℕ) → ◌≡◌ {A = Front BlockFault Cause} (Err Field) (Ok x) → P
    refused x e = absurd cc

-- an outcome that is read is encoded by the bytes read, and its place is within its limit
pub outcome_encoded : (bytes : List ℕ) (x : Outcome × List ℕ) → AllBytes bytes → outcome_at bytes ≡ Ok x → IsEncoded bytes (outcome_bytes x.0) x.1 × HasPlace x.0
outcome_encoded bytes x all e =
    from (number_at Truncated w8 bytes) outcome_of_kind x e (λ n en e1.
    let kind = byte_encoded Truncated bytes n all en in
    elim (chosen (eqb n.0 0) _ _ _ e1) [
      | inl h ↦ subst (λ p. IsEncoded bytes (outcome_bytes p.0) p.1 × HasPlace p.0) (same_value (outcome.Approved, n.1) x h.1) (of_kind 0 bytes n kind h.0, tt)
      | inr h ↦
          elim (chosen (eqb n.0 1) _ _ _ h.1) [
            | inl i ↦ subst (λ p. IsEncoded bytes (outcome_bytes p.0) p.1 × HasPlace p.0) (same_value (outcome.Rejected, n.1) x i.1) (of_kind 1 bytes n kind i.0, tt)
            | inr i ↦
                elim (chosen (eqb n.0 2) _ _ _ i.1) [
                  | inl j ↦
                      from (fault_and_place_at n.1) _ x j.1 (λ f ef e2.
                      let end = fault_encoded n.1 f kind.rest_are_bytes ef in
                      subst (λ p. IsEncoded bytes (outcome_bytes p.0) p.1 × HasPlace p.0) (same_value (outcome.Faulted f.0.0 f.0.1, f.1) x e2)
                      (join bytes _ n.1 _ f.1 (of_kind 2 bytes n kind j.0) end.0, end.1))
                  | inr j ↦ refused_or_cleared n kind j.1
                ]
          ]
    ])
  where
    nothing : {P : Type 0} → ◌≡◌ {A = Front BlockFault Outcome} (Err Field) (Ok x) → P
    nothing e = absurd cc

    cause_alone : (c : Cause) → 4 ∷ cause_bytes c ≡ outcome_bytes (outcome.ClearedAnyway c)
    cause_alone cause.Gone = refl
    cause_alone cause.Rejected = refl
    cause_alone (cause.Faulted f place) = refl

    cleared : (n : ℕ × List ℕ) → IsEncoded bytes (u8_bytes 4) n.1 → (number_at Truncated w8 n.1 >>= cause_of_kind >>= λ c. Ok (outcome.ClearedAnyway c.0, c.1)) ≡ Ok x → IsEncoded bytes (outcome_bytes x.0) x.1 × HasPlace x.0
    cleared n kind e =
        from (number_at Truncated w8 n.1 >>= cause_of_kind) _ x e (λ c ec e1.
        from (number_at Truncated w8 n.1) cause_of_kind c ec (λ m em e2.
        let end = cause_encoded n.1 m c (byte_encoded Truncated n.1 m kind.rest_are_bytes em) e2 in
        let same : 4 ∷ cause_bytes c.0 ≡ outcome_bytes (outcome.ClearedAnyway c.0) = cause_alone c.0 in
        subst (λ p. IsEncoded bytes (outcome_bytes p.0) p.1 × HasPlace p.0) (same_value (outcome.ClearedAnyway c.0, c.1) x e1)
        (subst (λ s. IsEncoded bytes s c.1) same (join bytes _ n.1 _ c.1 kind end.0), end.1)))

    refused_or_cleared : (n : ℕ × List ℕ) → IsEncoded bytes (u8_bytes n.0) n.1
        → cond (eqb n.0 3) (one_at why_number whys n.1 >>= λ w. Ok (outcome.Refused w.0, w.1)) (cond (eqb n.0 4) (number_at Truncated w8 n.1 >>= cause_of_kind >>= λ c. Ok (outcome.ClearedAnyway c.0, c.1)) (Err Field)) ≡ Ok x
        → IsEncoded bytes (outcome_bytes x.0) x.1 × HasPlace x.0
    refused_or_cleared n kind e =
        elim (chosen (eqb n.0 3) _ _ _ e) [
          | inl h ↦
              from (one_at why_number whys n.1) _ x h.1 (λ w ew e1.
              let end = one_encoded why_number whys small_why n.1 w kind.rest_are_bytes ew in
              subst (λ p. IsEncoded bytes (outcome_bytes p.0) p.1 × HasPlace p.0) (same_value (outcome.Refused w.0, w.1) x e1)
              (join bytes _ n.1 _ w.1 (of_kind 3 bytes n kind h.0) end, tt))
          | inr h ↦
              elim (chosen (eqb n.0 4) _ _ _ h.1) [
                | inl i ↦ cleared n (of_kind 4 bytes n kind i.0) i.1
                | inr i ↦ nothing i.1
              ]
        ]
