-- What is kept of statements keeps their labels and their first fault.
use Rattle.std.proofs.Common.{◌≡◌, ℕ, ◌<◌, ◌≤◌, ◌⊎◌, inl, inr, Bool, true, false, cond, ◌||◌, nat_eq, List, [], ◌∷◌, ◌++◌, length, Option, Some, None, Result, Ok, Err, refl, sym, ap, ◌∙◌, length-append, append_assoc, arith}
use Rattle.std.specs.List.{list_any}
use Rattle.std.specs.Bool.{beq}
use Rattle.std.specs.Str.{bytes_eq}
use Rattle.teal_value.specs.Answer.{◌>>=◌}
use Rattle.teal_table.specs.declared.shape.Version.{Version}
use Rattle.teal_source.specs.declared.statement.Statement.{Statement}
use Rattle.teal_source.specs.declared.fault.AsmFaultKind.TheVariants as kind
use Rattle.teal_source.specs.Operands.{Word}
use Rattle.teal_source.specs.Commands.{command}
use Rattle.teal_source.specs.Statements.{Words, behind, has_label, gathered_uint, gathered_string, gathered_uints, gathered_strings, distinct, with_new, is_uint_block, is_byte_block, label_name, labelled, optional_command, statement}
use Rattle.teal_asm.specs.Thinned.{IsNeedless, Thins, branch_fault, command_count}
use Rattle.teal_asm.proofs.Bodies.{uints-push, strings-push, list_any-push, command_count-push}
use Rattle.teal_asm.proofs.Needless.{no_label}

-- ---- what is kept

-- all statements may be kept
pub thins_itself : (ss : List Statement) → Thins ss ss
thins_itself ss = record { labels = λ name. refl; faults = λ later. refl; fewer = omega arith; uints = refl; strings = refl; uint_block = refl; byte_block = refl; long = inl refl }

-- what is kept of what is kept of all is kept of all
pub thins_again : (k a b : List Statement) → Thins k a → Thins a b → Thins k b
thins_again k a b p q = record {
  labels = λ name. p.labels name ∙ q.labels name;
  faults = λ later. p.faults later ∙ q.faults later;
  fewer = omega (arith, p.fewer, q.fewer);
  uints = p.uints ∙ q.uints;
  strings = p.strings ∙ q.strings;
  uint_block = p.uint_block ∙ q.uint_block;
  byte_block = p.byte_block ∙ q.byte_block;
  long = at_long p.long q.long;
}
  where
    at_long : ((k ≡ a) ⊎ (1023 < command_count k)) → ((a ≡ b) ⊎ (1023 < command_count a)) → (k ≡ b) ⊎ (1023 < command_count k)
    at_long (inr lt) r = inr lt
    at_long (inl e) (inl f) = inl (e ∙ f)
    at_long (inl e) (inr lt) = inr (omega (arith, ap command_count e, lt))

-- a statement may be added behind what is kept and behind all
pub thins_longer : (k a : List Statement) (s : Statement) → Thins k a → Thins (k ++ s ∷ []) (a ++ s ∷ [])
thins_longer k a s p = record {
  labels = λ name. list_any-push (has_label name) k s ∙ ap (λ b. b || has_label name s) (p.labels name) ∙ sym (list_any-push (has_label name) a s);
  faults = λ later. ap (branch_fault []) (append_assoc k (s ∷ []) later) ∙ p.faults (s ∷ later) ∙ sym (ap (branch_fault []) (append_assoc a (s ∷ []) later));
  fewer = omega (arith, p.fewer, command_count-push k s, command_count-push a s);
  uints = uints-push k s ∙ ap (λ us. distinct nat_eq us (gathered_uint s.command)) p.uints ∙ sym (uints-push a s);
  strings = strings-push k s ∙ ap (λ us. distinct bytes_eq us (gathered_string s.command)) p.strings ∙ sym (strings-push a s);
  uint_block = list_any-push (λ t. is_uint_block t.command) k s ∙ ap (λ x. x || is_uint_block s.command) p.uint_block ∙ sym (list_any-push (λ t. is_uint_block t.command) a s);
  byte_block = list_any-push (λ t. is_byte_block t.command) k s ∙ ap (λ x. x || is_byte_block s.command) p.byte_block ∙ sym (list_any-push (λ t. is_byte_block t.command) a s);
  long = at_long p.long;
}
  where
    at_long : ((k ≡ a) ⊎ (1023 < command_count k)) → (k ++ s ∷ [] ≡ a ++ s ∷ []) ⊎ (1023 < command_count (k ++ s ∷ []))
    at_long (inl e) = inl (ap (λ x. x ++ s ∷ []) e)
    at_long (inr lt) = inr (omega (arith, lt, command_count-push k s))

pub thins_dropped : (k : List Statement) (s : Statement) → IsNeedless k s → 1023 < command_count k → gathered_uints k ≡ gathered_uints (k ++ s ∷ []) → gathered_strings k ≡ gathered_strings (k ++ s ∷ [])
    → list_any (λ (t : Statement). is_uint_block t.command) k ≡ list_any (λ (t : Statement). is_uint_block t.command) (k ++ s ∷ []) → list_any (λ (t : Statement). is_byte_block t.command) k ≡ list_any (λ (t : Statement). is_byte_block t.command) (k ++ s ∷ [])
    → Thins k (k ++ s ∷ [])
thins_dropped k s needless many uints strings uint_block byte_block = record {
  labels = no_label s needless.label k;
  faults = λ later. needless.faults later ∙ sym (ap (branch_fault []) (append_assoc k (s ∷ []) later));
  fewer = omega (arith, command_count-push k s);
  uints = uints;
  strings = strings;
  uint_block = uint_block;
  byte_block = byte_block;
  long = inr many;
}

-- ---- a line means the same behind what is kept

same_behind : (k a : List Statement) (s : Statement) → Thins k a → behind k s ≡ behind a s
same_behind k a s p =
    let q = thins_longer k a s p in
    rw (q.uints, q.strings, q.uint_block, q.byte_block) refl

then_alike : {A B F : Type 0} (r : Result A F) (f g : A → Result B F) → ((x : A) → f x ≡ g x) → (r >>= f) ≡ (r >>= g)
then_alike (Ok x) f g e = e x
then_alike (Err d) f g e = refl

same_labelled : (version : Version) (k a : List Statement) (line : ℕ) (label : Option Word) (w : Word) (ws : List Word) → Thins k a → labelled version k line label w ws ≡ labelled version a line label w ws
same_labelled version k a line None w ws p = then_alike (command version w ws) _ _ (λ c. same_behind k a (record { line = line; label = None; command = Some c }) p)
same_labelled version k a line (Some name) w ws p =
    let commands = then_alike (optional_command version ws) _ _ (λ c. same_behind k a (record { line = line; label = Some name; command = c }) p) in
    ap (λ b. cond b (Err kind.LabelTwice) (optional_command version ws >>= λ c. behind k (record { line = line; label = Some name; command = c }))) (p.labels name)
    ∙ ap (λ r. cond (list_any (has_label name) a) (Err kind.LabelTwice) r) commands

-- a line is read the same behind what is kept as behind all statements
pub same_statement : (version : Version) (k a : List Statement) (l : Words) → Thins k a → statement version k l ≡ statement version a l
unfolding statement
same_statement version k a l p = rw (same_labelled version k a l.line (label_name l.first) l.first l.more p) refl

-- ---- a command that gathers nothing new

with_new-le : {A : Type 0} (eq : A → A → Bool) (seen : List A) (x : A) → length seen ≤ length (with_new eq seen x)
with_new-le eq seen x = at_test (list_any (eq x) seen)
  where
    at_test : (b : Bool) → length seen ≤ length (cond b seen (seen ++ x ∷ []))
    at_test true = omega arith
    at_test false = omega (arith, length-append seen (x ∷ []))

distinct-le : {A : Type 0} (eq : A → A → Bool) (seen xs : List A) → length seen ≤ length (distinct eq seen xs)
distinct-le eq seen [] = omega arith
distinct-le eq seen (x ∷ xs) = omega (arith, with_new-le eq seen x, distinct-le eq (with_new eq seen x) xs)

with_new_same : {A : Type 0} (eq : A → A → Bool) (seen : List A) (x : A) → length (with_new eq seen x) ≤ length seen → with_new eq seen x ≡ seen
with_new_same eq seen x = at_test (list_any (eq x) seen)
  where
    at_test : (b : Bool) → length (cond b seen (seen ++ x ∷ [])) ≤ length seen → cond b seen (seen ++ x ∷ []) ≡ seen
    at_test true le = refl
    at_test false le = absurd (omega (arith, le, length-append seen (x ∷ [])))

distinct_same : {A : Type 0} (eq : A → A → Bool) (seen xs : List A) → length (distinct eq seen xs) ≤ length seen → distinct eq seen xs ≡ seen
distinct_same eq seen [] le = refl
distinct_same eq seen (x ∷ xs) le =
    let same = with_new_same eq seen x (omega (arith, le, distinct-le eq (with_new eq seen x) xs)) in
    distinct_same eq (with_new eq seen x) xs (omega (arith, le, with_new-le eq seen x)) ∙ same

-- the values so far and with one more, as they are gathered and as they are meant
pub nothing_new : {A : Type 0} (eq : A → A → Bool) (old new before now xs : List A) → old ≡ before → new ≡ distinct eq old xs → now ≡ distinct eq before xs → length new ≡ length old → (before ≡ now) × (new ≡ before)
nothing_new eq old new before now xs is gathered meant len =
    let same : distinct eq old xs ≡ old = distinct_same eq old xs (omega (arith, len, ap length gathered)) in
    (sym is ∙ sym same ∙ ap (λ x. distinct eq x xs) is ∙ sym meant, gathered ∙ same ∙ is)

pub no_new_block : (old new before now x : Bool) → old ≡ before → new ≡ (old || x) → now ≡ (before || x) → beq new old ≡ true → (before ≡ now) × (new ≡ before)
no_new_block old new before now x is seen meant e =
    let same = one_flag new old e in
    (sym is ∙ sym same ∙ seen ∙ ap (λ b. b || x) is ∙ sym meant, same ∙ is)
  where
    one_flag : (a b : Bool) → beq a b ≡ true → a ≡ b
    one_flag true true f = refl
    one_flag true false f = absurd cc
    one_flag false true f = absurd cc
    one_flag false false f = refl
