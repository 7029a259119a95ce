-- What the words of a line ask for has immediates of bytes, where the words are.
use Rattle.std.proofs.Common.{◌≡◌, ℕ, zero, suc, ◌+◌, ◌/◌, ◌%◌, ◌<◌, ◌≤◌, Bool, true, false, cond, eqb, leb, ltb, List, [], ◌∷◌, length, Option, Some, None, Ok, refl, subst, arith, inl, inr}
use Rattle.std.specs.Prelude.{All, codes, find}
use Rattle.std.specs.Int.{w16}
use Rattle.std.specs.List.{flat_map, list_all}
use Rattle.std.specs.Option.{ok_or}
use Rattle.std.specs.Str.{bytes_eq}
use Rattle.std.proofs.lemmas.Bool.{and_parts, leb-true, ltb-true}
use Rattle.std.proofs.lemmas.List.Elements.{All-nil, All-cons, All-append, All-head, All-tail}
use Rattle.teal_value.proofs.Binding.{chosen}
use Rattle.teal_table.specs.declared.shape.Shape.{Shape}
use Rattle.teal_table.specs.declared.shape.Shape.TheVariants as shape
use Rattle.teal_table.specs.declared.shape.Version.{Version}
use Rattle.teal_table.specs.declared.opcode.Opcode.{Opcode}
use Rattle.teal_table.specs.declared.opcode.Opcode.TheVariants as op
use Rattle.teal_table.specs.declared.txn_fields.TxnField.{TxnField}
use Rattle.teal_table.specs.declared.global_fields.GlobalField.{GlobalField}
use Rattle.teal_table.specs.Fields.{global_fields, global_field_named, global_name, global_number, global_version, txn_fields, txn_field_named, txn_name, txn_number}
use Rattle.teal_table.specs.Table.{code_of, has, only_in, opcode_at, opcode_named, opcodes, row_of}
use Rattle.teal_table.proofs.Codes.{opcode_at-code_of}
use Rattle.teal_code.specs.declared.instr.Immediates.{Immediates}
use Rattle.teal_code.specs.declared.instr.Immediates.TheVariants as is
use Rattle.teal_code.specs.Encoding.{immediates_encoding, prefixed}
use Rattle.teal_code.specs.Varuint.{varuint, varuint_in}
use Rattle.teal_text.specs.Numbers.{number_of}
use Rattle.teal_source.specs.declared.command.Command.{Command}
use Rattle.teal_source.specs.declared.command.Command.TheVariants.{Int, Byte, Jump, Plain}
use Rattle.teal_source.specs.declared.fault.AsmFaultKind.{AsmFaultKind}
use Rattle.teal_source.specs.declared.fault.AsmFaultKind.TheVariants.{BadNumber, UnknownName}
use Rattle.teal_source.specs.Operands.{Literal, Word, address_value, any_number, byte_number, global_field_number, global_field_value, int_value, literal_value, literals_in, txn_field_number, txn_field_value}
use Rattle.teal_source.specs.Commands.{Asked, array, array_command, command, each, group_array_command, group_command, group_or_array, no_operand, only_operand, opcode_command, scalar, three_operands, two_operands, txn_command, txn_or_array, with_operands}
use Rattle.avm_rule_laws.specs.Rules.{AreBytes}
use Rattle.json_laws.proofs.AcceptedSteps.{from, passed, same_value}
use Rattle.json_laws.proofs.LiteralBytes.{IsLiteralOfBytes, address_value_are, literal_value_are, literals_are}
use Rattle.json_laws.proofs.EncodedBytes.{number}

-- ---- numbers of opcodes and fields are bytes

found_passes : {A : Type 0} (p q : A → Bool) (xs : List A) (x : A) → find p xs ≡ Some x → list_all q xs ≡ true → q x ≡ true
found_passes p q [] x e all = absurd cc
found_passes p q (y ∷ ys) x e all =
    let parts = and_parts (q y) (list_all q ys) all in
    elim (chosen (p y) _ _ _ e) [
      | inl (a, one) ↦ let same : y ≡ x = cc in subst (λ z. q z ≡ true) same parts.0
      | inr (n, other) ↦ found_passes p q ys x other parts.1
    ]

-- the number of an opcode is a byte
pub code_is_byte : (o : Opcode) → code_of o < 256
unfolding opcode_at opcodes row_of
code_is_byte o = ltb-true (code_of o) 256 (found_passes (λ q. eqb (code_of q) (code_of o)) (λ q. ltb (code_of q) 256) opcodes o (opcode_at-code_of o) refl)

txn_field_is_byte : (w : Word) (n : ℕ) → txn_field_value w ≡ Ok n → n < 256
unfolding txn_field_named
txn_field_is_byte w n e = by (txn_field_named w) refl e
  where
    by : (o : Option TxnField) → txn_field_named w ≡ o → txn_field_number o ≡ Ok n → n < 256
    by None is e = absurd cc
    by (Some f) is e =
        let same : txn_number f ≡ n = same_value (txn_number f) n e in
        subst (λ m. m < 256) same (ltb-true (txn_number f) 256 (found_passes (λ g. bytes_eq (txn_name g) w) (λ g. ltb (txn_number g) 256) txn_fields f is refl))

global_field_is_byte : (version : Version) (w : Word) (n : ℕ) → global_field_value version w ≡ Ok n → n < 256
unfolding global_field_named
global_field_is_byte version w n e = by (global_field_named w) refl e
  where
    by : (o : Option GlobalField) → global_field_named w ≡ o → global_field_number version o ≡ Ok n → n < 256
    by None is e = absurd cc
    by (Some f) is e =
        let p = passed (has version (global_version f)) (global_number f) n UnknownName e in
        subst (λ m. m < 256) p.1 (ltb-true (global_number f) 256 (found_passes (λ g. bytes_eq (global_name g) w) (λ g. ltb (global_number g) 256) global_fields f is refl))

byte_number_is : (w : Word) (n : ℕ) → byte_number w ≡ Ok n → n < 256
byte_number_is w n e =
    from (ok_or (number_of w) BadNumber) _ n e (λ m em e1.
    let p = passed (leb m 255) m n BadNumber e1 in
    let fits : m ≤ 255 = leb-true m 255 p.0 in
    let small : m < 256 = omega arith in
    subst (λ k. k < 256) p.1 small)

-- ---- immediates

-- immediates of bytes
abbrev pub AreFit : Immediates → Type 0
AreFit is.Nothing = Unit {0}
AreFit (is.Index i) = i < 256
AreFit (is.Field f) = f < 256
AreFit (is.GroupField t f) = (t < 256) × (f < 256)
AreFit (is.ArrayField f i) = (f < 256) × (i < 256)
AreFit (is.GroupArrayField t f i) = (t < 256) × (f < 256) × (i < 256)
AreFit (is.Bounds s e) = (s < 256) × (e < 256)
AreFit (is.Offset n) = Unit {0}
AreFit (is.UintBlock ns) = Unit {0}
AreFit (is.ByteBlock ss) = All AreBytes ss
AreFit (is.Uint n) = Unit {0}
AreFit (is.Bytes s) = AreBytes s

varuint_are : (digits n : ℕ) → AreBytes (varuint_in digits n)
unfolding varuint_in
varuint_are zero n = All-nil (λ x. x < 256)
varuint_are (suc digits) n = by (ltb n 128) refl (varuint_are digits (n / 128))
  where
    by : (b : Bool) → ltb n 128 ≡ b → AreBytes (varuint_in digits (n / 128)) → AreBytes (cond b (n ∷ []) ((n % 128 + 128) ∷ varuint_in digits (n / 128)))
    by true is more = All-cons (λ x. x < 256) n [] (omega (arith, ltb-true n 128 is)) (All-nil (λ x. x < 256))
    by false is more = All-cons (λ x. x < 256) (n % 128 + 128) (varuint_in digits (n / 128)) (omega arith) more

varuint_is : (n : ℕ) → AreBytes (varuint n)
unfolding varuint
varuint_is n = varuint_are 10 n

varuints_are : (ns : List ℕ) → AreBytes (flat_map varuint ns)
varuints_are [] = All-nil (λ x. x < 256)
varuints_are (n ∷ ns) = All-append (λ x. x < 256) (varuint n) (flat_map varuint ns) (varuint_is n) (varuints_are ns)

prefixed_is : (s : List ℕ) → AreBytes s → AreBytes (prefixed s)
prefixed_is s all = All-append (λ x. x < 256) (varuint (length s)) s (varuint_is (length s)) all

all_prefixed : (ss : List (List ℕ)) → All AreBytes ss → AreBytes (flat_map prefixed ss)
all_prefixed [] all = All-nil (λ x. x < 256)
all_prefixed (s ∷ ss) all = All-append (λ x. x < 256) (prefixed s) (flat_map prefixed ss) (prefixed_is s (All-head AreBytes s ss all)) (all_prefixed ss (All-tail AreBytes s ss all))

one : (a : ℕ) → a < 256 → AreBytes (a ∷ [])
one a h = All-cons (λ x. x < 256) a [] h (All-nil (λ x. x < 256))

two : (a b : ℕ) → a < 256 → b < 256 → AreBytes (a ∷ b ∷ [])
two a b h k = All-cons (λ x. x < 256) a (b ∷ []) h (one b k)

-- immediates of bytes are encoded in bytes
pub immediates_are : (m : Immediates) → AreFit m → AreBytes (immediates_encoding m)
immediates_are is.Nothing h = All-nil (λ x. x < 256)
immediates_are (is.Index i) h = one i h
immediates_are (is.Field f) h = one f h
immediates_are (is.GroupField t f) h = two t f h.0 h.1
immediates_are (is.ArrayField f i) h = two f i h.0 h.1
immediates_are (is.GroupArrayField t f i) h = All-cons (λ x. x < 256) t (f ∷ i ∷ []) h.0 (two f i h.1 h.2)
immediates_are (is.Bounds s e) h = two s e h.0 h.1
immediates_are (is.Offset n) h = number w16 n
immediates_are (is.UintBlock ns) h = All-append (λ x. x < 256) (varuint (length ns)) (flat_map varuint ns) (varuint_is (length ns)) (varuints_are ns)
immediates_are (is.ByteBlock ss) h = All-append (λ x. x < 256) (varuint (length ss)) (flat_map prefixed ss) (varuint_is (length ss)) (all_prefixed ss h)
immediates_are (is.Uint n) h = varuint_is n
immediates_are (is.Bytes s) h = prefixed_is s h

-- ---- commands

-- a command whose immediates are of bytes
abbrev pub IsFitCommand : Command → Type 0
IsFitCommand (Int n) = Unit {0}
IsFitCommand (Byte s) = AreBytes s
IsFitCommand (Jump o name) = Unit {0}
IsFitCommand (Plain o m) = AreFit m

plain : (o : Opcode) (m : Immediates) (c : Command) → AreFit m → ◌≡◌ {A = Asked Command} (Ok (Plain o m)) (Ok c) → IsFitCommand c
plain o m c fits e = subst IsFitCommand (same_value (Plain o m) c e) fits

txn_fits : (o : Opcode) (f : Word) (c : Command) → txn_command o f ≡ Ok c → IsFitCommand c
txn_fits o f c e =
    from (scalar f) _ c e (λ u eu e1.
    from (txn_field_value f) _ c e1 (λ n en e2. plain o (is.Field n) c (txn_field_is_byte f n en) e2))

array_fits : (o : Opcode) (f i : Word) (c : Command) → array_command o f i ≡ Ok c → IsFitCommand c
array_fits o f i c e =
    from (array f) _ c e (λ u eu e1.
    from (txn_field_value f) _ c e1 (λ n en e2.
    from (byte_number i) _ c e2 (λ k ek e3. plain o (is.ArrayField n k) c (txn_field_is_byte f n en, byte_number_is i k ek) e3)))

group_fits : (o : Opcode) (t f : Word) (c : Command) → group_command o t f ≡ Ok c → IsFitCommand c
group_fits o t f c e =
    from (scalar f) _ c e (λ u eu e1.
    from (byte_number t) _ c e1 (λ g eg e2.
    from (txn_field_value f) _ c e2 (λ n en e3. plain o (is.GroupField g n) c (byte_number_is t g eg, txn_field_is_byte f n en) e3)))

group_array_fits : (o : Opcode) (t f i : Word) (c : Command) → group_array_command o t f i ≡ Ok c → IsFitCommand c
group_array_fits o t f i c e =
    from (array f) _ c e (λ u eu e1.
    from (byte_number t) _ c e1 (λ g eg e2.
    from (txn_field_value f) _ c e2 (λ n en e3.
    from (byte_number i) _ c e3 (λ k ek e4. plain o (is.GroupArrayField g n k) c (byte_number_is t g eg, txn_field_is_byte f n en, byte_number_is i k ek) e4))))

txn_or_array_fits : (a b : Opcode) (ws : List Word) (c : Command) → txn_or_array a b ws ≡ Ok c → IsFitCommand c
txn_or_array_fits a b [] c e = absurd cc
txn_or_array_fits a b (f ∷ []) c e = txn_fits a f c e
txn_or_array_fits a b (f ∷ i ∷ []) c e = array_fits b f i c e
txn_or_array_fits a b (f ∷ i ∷ x ∷ ws) c e = absurd cc

group_or_array_fits : (ws : List Word) (c : Command) → group_or_array ws ≡ Ok c → IsFitCommand c
group_or_array_fits [] c e = absurd cc
group_or_array_fits (t ∷ []) c e = absurd cc
group_or_array_fits (t ∷ f ∷ []) c e = group_fits op.Gtxn t f c e
group_or_array_fits (t ∷ f ∷ i ∷ []) c e = group_array_fits op.Gtxna t f i c e
group_or_array_fits (t ∷ f ∷ i ∷ x ∷ ws) c e = absurd cc

each_literal : (ls : List Literal) (ss : List (List ℕ)) → All IsLiteralOfBytes ls → each literal_value ls ≡ Ok ss → All AreBytes ss
each_literal [] ss all e = let none : [] ≡ ss = same_value {A = List (List ℕ)} {F = AsmFaultKind} [] ss e in subst (All AreBytes) none (All-nil AreBytes)
each_literal (l ∷ ls) ss all e =
    from (literal_value l) _ ss e (λ s es e1.
    from (each literal_value ls) _ ss e1 (λ more em e2.
    subst (All AreBytes) (same_value (s ∷ more) ss e2)
    (All-cons AreBytes s more (literal_value_are l s (All-head IsLiteralOfBytes l ls all) es) (each_literal ls more (All-tail IsLiteralOfBytes l ls all) em))))

only_is : {A : Type 0} (P : A → Type 0) (xs : List A) (x : A) → All P xs → only_operand xs ≡ Ok x → P x
only_is P [] x all e = absurd cc
only_is P (y ∷ []) x all e = subst P (same_value y x e) (All-head P y [] all)
only_is P (y ∷ z ∷ ys) x all e = absurd cc

operands_fit : (version : Version) (o : Opcode) (s : Shape) (ws : List Word) (c : Command) → All AreBytes ws → with_operands version o s ws ≡ Ok c → IsFitCommand c
operands_fit version o shape.Nothing ws c all e = from (no_operand ws) _ c e (λ u eu e1. plain o is.Nothing c tt e1)
operands_fit version o shape.Index ws c all e = from (only_operand ws) _ c e (λ w ew e1. from (byte_number w) _ c e1 (λ i ei e2. plain o (is.Index i) c (byte_number_is w i ei) e2))
operands_fit version o shape.TxnField ws c all e = txn_or_array_fits op.Txn op.Txna ws c e
operands_fit version o shape.GlobalField ws c all e = from (only_operand ws) _ c e (λ w ew e1. from (global_field_value version w) _ c e1 (λ n en e2. plain o (is.Field n) c (global_field_is_byte version w n en) e2))
operands_fit version o shape.GroupField ws c all e = group_or_array_fits ws c e
operands_fit version o shape.ArrayField ws c all e = from (two_operands ws) _ c e (λ p ep e1. array_fits o p.0 p.1 c e1)
operands_fit version o shape.GroupArrayField ws c all e = from (three_operands ws) _ c e (λ p ep e1. group_array_fits o p.0 p.1 p.2 c e1)
operands_fit version o shape.StackField ws c all e = txn_or_array_fits op.Gtxns op.Gtxnsa ws c e
operands_fit version o shape.StackArrayField ws c all e = from (two_operands ws) _ c e (λ p ep e1. array_fits o p.0 p.1 c e1)
operands_fit version o shape.Bounds ws c all e =
    from (two_operands ws) _ c e (λ p ep e1. from (byte_number p.0) _ c e1 (λ s es e2. from (byte_number p.1) _ c e2 (λ t et e3. plain o (is.Bounds s t) c (byte_number_is p.0 s es, byte_number_is p.1 t et) e3)))
operands_fit version o shape.Offset ws c all e = from (only_operand ws) _ c e (λ w ew e1. subst IsFitCommand (same_value (Jump o w) c e1) tt)
operands_fit version o shape.UintBlock ws c all e = from (each any_number ws) _ c e (λ ns en e1. plain o (is.UintBlock ns) c tt e1)
operands_fit version o shape.ByteBlock ws c all e = from (each literal_value (literals_in ws)) _ c e (λ ss es e1. plain o (is.ByteBlock ss) c (each_literal (literals_in ws) ss (literals_are ws all) es) e1)
operands_fit version o shape.Uint ws c all e = from (only_operand ws) _ c e (λ w ew e1. from (any_number w) _ c e1 (λ n en e2. plain o (is.Uint n) c tt e2))
operands_fit version o shape.Bytes ws c all e =
    from (only_operand (literals_in ws)) _ c e (λ l el e1.
    from (literal_value l) _ c e1 (λ s es e2. plain o (is.Bytes s) c (literal_value_are l s (only_is IsLiteralOfBytes (literals_in ws) l (literals_are ws all) el) es) e2))

opcode_fits : (version : Version) (o : Option Opcode) (ws : List Word) (c : Command) → All AreBytes ws → opcode_command version o ws ≡ Ok c → IsFitCommand c
opcode_fits version None ws c all e = absurd cc
opcode_fits version (Some o) ws c all e = operands_fit version o (row_of o).immediates ws c all e

-- a command in words of bytes has immediates of bytes
pub command_fits : (version : Version) (name : Word) (ws : List Word) (c : Command) → All AreBytes ws → command version name ws ≡ Ok c → IsFitCommand c
unfolding command
command_fits version name ws c all e =
    elim (chosen (bytes_eq name (codes "int")) _ _ _ e) [
      | inl (int, a) ↦ from (only_operand ws) _ c a (λ w ew e1. from (int_value w) _ c e1 (λ n en e2. subst IsFitCommand (same_value (Int n) c e2) tt))
      | inr (not_int, a) ↦ elim (chosen (bytes_eq name (codes "byte")) _ _ _ a) [
        | inl (byte, b) ↦
            from (only_operand (literals_in ws)) _ c b (λ l el e1.
            from (literal_value l) _ c e1 (λ s es e2. subst IsFitCommand (same_value (Byte s) c e2) (literal_value_are l s (only_is IsLiteralOfBytes (literals_in ws) l (literals_are ws all) el) es)))
        | inr (not_byte, b) ↦ elim (chosen (bytes_eq name (codes "addr")) _ _ _ b) [
          | inl (addr, d) ↦ from (only_operand (literals_in ws)) _ c d (λ l el e1. from (address_value l) _ c e1 (λ s es e2. subst IsFitCommand (same_value (Byte s) c e2) (address_value_are l s es)))
          | inr (not_addr, d) ↦ opcode_fits version (only_in version (opcode_named name)) ws c all d
        ]
      ]
    ]
