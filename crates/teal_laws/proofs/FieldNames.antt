-- Fields by the names in source text.
use Rattle.std.proofs.Common.{◌≡◌, refl, sym, ap, subst, ℕ, Bool, true, false, cond, List, [], ◌∷◌, Some, None, Ok, Err, eqb, not, inl, inr, ◌∙◌}
use Rattle.std.specs.Prelude.{find}
use Rattle.std.proofs.lemmas.Bool.{eqb-true}
use Rattle.teal_value.proofs.Binding.{chosen}
use Rattle.teal_table.specs.declared.shape.Version.{Version}
use Rattle.teal_table.specs.declared.txn_fields.TxnField.{TxnField}
use Rattle.teal_table.specs.declared.txn_fields.TxnField.TheVariants as txn
use Rattle.teal_table.specs.declared.global_fields.GlobalField.{GlobalField}
use Rattle.teal_table.specs.declared.global_fields.GlobalField.TheVariants as global
use Rattle.teal_table.specs.Table.{has}
use Rattle.teal_table.specs.Fields.{txn_number, txn_name, txn_fields, txn_field_at, txn_field_named, is_array, global_number, global_name, global_fields, global_field_at, global_field_named, global_version}
use Rattle.teal_text.specs.PlainWords.{is_plain_word}
use Rattle.teal_check.specs.WellFormed.{is_scalar, is_array_field, is_global}
use Rattle.teal_dis.specs.Listing.{txn_field, txn_word, global_word}
use Rattle.teal_source.specs.declared.fault.AsmFaultKind.TheVariants.{Operands}
use Rattle.teal_source.specs.Operands.{txn_field_value, txn_field_number, global_field_value, global_field_number}
use Rattle.teal_source.specs.Commands.{Asked, scalar, array, passes_as_scalar, passes_as_array}

txn_named : (f : TxnField) → txn_field_named (txn_name f) ≡ Some f
unfolding txn_field_named
txn_named txn.Sender = refl
txn_named txn.Fee = refl
txn_named txn.FirstValid = refl
txn_named txn.FirstValidTime = refl
txn_named txn.LastValid = refl
txn_named txn.Note = refl
txn_named txn.Lease = refl
txn_named txn.Receiver = refl
txn_named txn.Amount = refl
txn_named txn.CloseRemainderTo = refl
txn_named txn.Type = refl
txn_named txn.TypeEnum = refl
txn_named txn.GroupIndex = refl
txn_named txn.ApplicationId = refl
txn_named txn.OnCompletion = refl
txn_named txn.ApplicationArgs = refl
txn_named txn.NumAppArgs = refl
txn_named txn.Accounts = refl
txn_named txn.NumAccounts = refl
txn_named txn.ApprovalProgram = refl
txn_named txn.ClearStateProgram = refl
txn_named txn.RekeyTo = refl

global_named : (f : GlobalField) → global_field_named (global_name f) ≡ Some f
unfolding global_field_named
global_named global.MinTxnFee = refl
global_named global.MinBalance = refl
global_named global.MaxTxnLife = refl
global_named global.ZeroAddress = refl
global_named global.GroupSize = refl
global_named global.LogicSigVersion = refl
global_named global.Round = refl
global_named global.LatestTimestamp = refl
global_named global.CurrentApplicationId = refl
global_named global.CreatorAddress = refl

found : {A : Type 0} (p : A → Bool) (xs : List A) (x : A) → find p xs ≡ Some x → p x ≡ true
found p [] x e = absurd cc
found p (y ∷ ys) x e =
    elim (chosen (p y) (Some y) (find p ys) (Some x) e) [
      | inl (passed, here) ↦ let same : y ≡ x = cc in ap p (sym same) ∙ passed
      | inr (failed, later) ↦ found p ys x later
    ]

-- the number of the field that a number has
txn_at : (n : ℕ) (f : TxnField) → txn_field_at n ≡ Some f → txn_number f ≡ n
unfolding txn_field_at
txn_at n f e = eqb-true (txn_number f) n (found (λ g. eqb (txn_number g) n) txn_fields f e)

global_at : (n : ℕ) (f : GlobalField) → global_field_at n ≡ Some f → global_number f ≡ n
unfolding global_field_at
global_at n f e = eqb-true (global_number f) n (found (λ g. eqb (global_number g) n) global_fields f e)

-- a field that is no array reads back as one, and an array as an array
pub scalar_back : (n : ℕ) → is_scalar (txn_field_at n) ≡ true → (scalar (txn_field n) ≡ Ok tt) × (txn_field_value (txn_field n) ≡ Ok n)
scalar_back n known = elim (txn_field_at n) as (λ o. txn_field_at n ≡ o → is_scalar o ≡ true → (passes_as_scalar (txn_field_named (txn_word n o)) ≡ Ok tt) × (txn_field_number (txn_field_named (txn_word n o)) ≡ Ok n)) [
  | None ↦ λ e k. absurd cc
  | Some f ↦ λ e k. (rw (txn_named f) (passes f k), rw (txn_named f) (ap (λ m. Ok m) (txn_at n f e)))
] refl known where
  passes : (f : TxnField) → is_scalar (Some f) ≡ true → passes_as_scalar (Some f) ≡ Ok tt
  passes f k = elim (is_array f) as (λ b. not b ≡ true → cond {A = Asked (Unit {0})} b (Err Operands) (Ok tt) ≡ Ok tt) [ true ↦ λ h. absurd cc | false ↦ λ h. refl ] k

pub array_back : (n : ℕ) → is_array_field (txn_field_at n) ≡ true → (array (txn_field n) ≡ Ok tt) × (txn_field_value (txn_field n) ≡ Ok n)
array_back n known = elim (txn_field_at n) as (λ o. txn_field_at n ≡ o → is_array_field o ≡ true → (passes_as_array (txn_field_named (txn_word n o)) ≡ Ok tt) × (txn_field_number (txn_field_named (txn_word n o)) ≡ Ok n)) [
  | None ↦ λ e k. absurd cc
  | Some f ↦ λ e k. (rw (txn_named f, k) refl, rw (txn_named f) (ap (λ m. Ok m) (txn_at n f e)))
] refl known

-- a global field of the version reads back from its word
pub global_back : (version : Version) (n : ℕ) → is_global version (global_field_at n) ≡ true → global_field_value version (global_word n (global_field_at n)) ≡ Ok n
global_back version n known = elim (global_field_at n) as (λ o. global_field_at n ≡ o → is_global version o ≡ true → global_field_value version (global_word n o) ≡ Ok n) [
  | None ↦ λ e k. absurd cc
  | Some f ↦ λ e k. rw (global_named f, k) (ap (λ m. Ok m) (global_at n f e))
] refl known

txn_is_plain : (f : TxnField) → is_plain_word (txn_name f) ≡ true
txn_is_plain txn.Sender = refl
txn_is_plain txn.Fee = refl
txn_is_plain txn.FirstValid = refl
txn_is_plain txn.FirstValidTime = refl
txn_is_plain txn.LastValid = refl
txn_is_plain txn.Note = refl
txn_is_plain txn.Lease = refl
txn_is_plain txn.Receiver = refl
txn_is_plain txn.Amount = refl
txn_is_plain txn.CloseRemainderTo = refl
txn_is_plain txn.Type = refl
txn_is_plain txn.TypeEnum = refl
txn_is_plain txn.GroupIndex = refl
txn_is_plain txn.ApplicationId = refl
txn_is_plain txn.OnCompletion = refl
txn_is_plain txn.ApplicationArgs = refl
txn_is_plain txn.NumAppArgs = refl
txn_is_plain txn.Accounts = refl
txn_is_plain txn.NumAccounts = refl
txn_is_plain txn.ApprovalProgram = refl
txn_is_plain txn.ClearStateProgram = refl
txn_is_plain txn.RekeyTo = refl

global_is_plain : (f : GlobalField) → is_plain_word (global_name f) ≡ true
global_is_plain global.MinTxnFee = refl
global_is_plain global.MinBalance = refl
global_is_plain global.MaxTxnLife = refl
global_is_plain global.ZeroAddress = refl
global_is_plain global.GroupSize = refl
global_is_plain global.LogicSigVersion = refl
global_is_plain global.Round = refl
global_is_plain global.LatestTimestamp = refl
global_is_plain global.CurrentApplicationId = refl
global_is_plain global.CreatorAddress = refl

-- the word of a field that is no array is a plain word
pub scalar_is_plain : (n : ℕ) → is_scalar (txn_field_at n) ≡ true → is_plain_word (txn_field n) ≡ true
scalar_is_plain n known = elim (txn_field_at n) as (λ o. is_scalar o ≡ true → is_plain_word (txn_word n o) ≡ true) [ None ↦ λ k. absurd cc | Some f ↦ λ k. txn_is_plain f ] known

pub array_is_plain : (n : ℕ) → is_array_field (txn_field_at n) ≡ true → is_plain_word (txn_field n) ≡ true
array_is_plain n known = elim (txn_field_at n) as (λ o. is_array_field o ≡ true → is_plain_word (txn_word n o) ≡ true) [ None ↦ λ k. absurd cc | Some f ↦ λ k. txn_is_plain f ] known

pub global_word_is_plain : (version : Version) (n : ℕ) → is_global version (global_field_at n) ≡ true → is_plain_word (global_word n (global_field_at n)) ≡ true
global_word_is_plain version n known = elim (global_field_at n) as (λ o. is_global version o ≡ true → is_plain_word (global_word n o) ≡ true) [ None ↦ λ k. absurd cc | Some f ↦ λ k. global_is_plain f ] known

txn_numbered : (f : TxnField) → txn_field_at (txn_number f) ≡ Some f
unfolding txn_field_at
txn_numbered txn.Sender = refl
txn_numbered txn.Fee = refl
txn_numbered txn.FirstValid = refl
txn_numbered txn.FirstValidTime = refl
txn_numbered txn.LastValid = refl
txn_numbered txn.Note = refl
txn_numbered txn.Lease = refl
txn_numbered txn.Receiver = refl
txn_numbered txn.Amount = refl
txn_numbered txn.CloseRemainderTo = refl
txn_numbered txn.Type = refl
txn_numbered txn.TypeEnum = refl
txn_numbered txn.GroupIndex = refl
txn_numbered txn.ApplicationId = refl
txn_numbered txn.OnCompletion = refl
txn_numbered txn.ApplicationArgs = refl
txn_numbered txn.NumAppArgs = refl
txn_numbered txn.Accounts = refl
txn_numbered txn.NumAccounts = refl
txn_numbered txn.ApprovalProgram = refl
txn_numbered txn.ClearStateProgram = refl
txn_numbered txn.RekeyTo = refl

global_numbered : (f : GlobalField) → global_field_at (global_number f) ≡ Some f
unfolding global_field_at
global_numbered global.MinTxnFee = refl
global_numbered global.MinBalance = refl
global_numbered global.MaxTxnLife = refl
global_numbered global.ZeroAddress = refl
global_numbered global.GroupSize = refl
global_numbered global.LogicSigVersion = refl
global_numbered global.Round = refl
global_numbered global.LatestTimestamp = refl
global_numbered global.CurrentApplicationId = refl
global_numbered global.CreatorAddress = refl

-- the field that a word names, where it passes as its kind
pub scalar_asked : (w : List ℕ) (n : ℕ) → scalar w ≡ Ok tt → txn_field_value w ≡ Ok n → is_scalar (txn_field_at n) ≡ true
scalar_asked w n passes value = elim (txn_field_named w) as (λ o. passes_as_scalar o ≡ Ok tt → txn_field_number o ≡ Ok n → is_scalar (txn_field_at n) ≡ true) [
  | None ↦ λ p v. absurd cc
  | Some f ↦ λ p v.
      let number : txn_number f ≡ n = cc in
      subst (λ k. is_scalar (txn_field_at k) ≡ true) number (rw (txn_numbered f) (plain_field f p))
] passes value where
  plain_field : (f : TxnField) → passes_as_scalar (Some f) ≡ Ok tt → not (is_array f) ≡ true
  plain_field f p = elim (is_array f) as (λ b. cond {A = Asked (Unit {0})} b (Err Operands) (Ok tt) ≡ Ok tt → not b ≡ true) [ true ↦ λ h. absurd cc | false ↦ λ h. refl ] p

pub array_asked : (w : List ℕ) (n : ℕ) → array w ≡ Ok tt → txn_field_value w ≡ Ok n → is_array_field (txn_field_at n) ≡ true
array_asked w n passes value = elim (txn_field_named w) as (λ o. passes_as_array o ≡ Ok tt → txn_field_number o ≡ Ok n → is_array_field (txn_field_at n) ≡ true) [
  | None ↦ λ p v. absurd cc
  | Some f ↦ λ p v.
      let number : txn_number f ≡ n = cc in
      subst (λ k. is_array_field (txn_field_at k) ≡ true) number (rw (txn_numbered f) (array_field f p))
] passes value where
  array_field : (f : TxnField) → passes_as_array (Some f) ≡ Ok tt → is_array f ≡ true
  array_field f p = elim (is_array f) as (λ b. cond {A = Asked (Unit {0})} b (Ok tt) (Err Operands) ≡ Ok tt → b ≡ true) [ true ↦ λ h. refl | false ↦ λ h. absurd cc ] p

pub global_asked : (version : Version) (w : List ℕ) (n : ℕ) → global_field_value version w ≡ Ok n → is_global version (global_field_at n) ≡ true
global_asked version w n value = elim (global_field_named w) as (λ o. global_field_number version o ≡ Ok n → is_global version (global_field_at n) ≡ true) [
  | None ↦ λ v. absurd cc
  | Some f ↦ λ v.
      elim (chosen (has version (global_version f)) _ _ _ v) [
        | inl (there, one) ↦ let number : global_number f ≡ n = cc in subst (λ k. is_global version (global_field_at k) ≡ true) number (rw (global_numbered f) there)
        | inr (later, bad) ↦ absurd cc
      ]
] value
