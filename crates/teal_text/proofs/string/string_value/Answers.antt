use Rattle.std.proofs.Common.{◌≡◌, ◌∙◌, ℕ, ◌+◌, ◌<◌, ◌≤◌, true, false, cond, eqb, List, [], ◌∷◌, ◌++◌, length, drop, slice_index, Option, Some, None, refl, sym, ap, append_assoc, arith}
use Rattle.std.specs.Option.{option_map}
use Rattle.std.proofs.lemmas.Bool.{cond-true, cond-false, eq-eqb, ne_eqb}
use Rattle.std.proofs.lemmas.List.{append-nil, at_drop_more, at_drop_all, length-drop}
use Rattle.teal_text.specs.declared.string.StringState.{StringState}
use Rattle.teal_text.specs.declared.string.StringState.TheVariants.{Plain}
use Rattle.teal_text.specs.Strings.{closes, next_state, byte_read, push_front, value_from, string_value}
use Rattle.teal_text.proofs.string.string_value.Goals as goal
use Rattle.teal_text.proofs.string.string_value.Goals.{in-Some+in_ok-push, in_default, then-i-string, else-i-string}

-- the bytes so far, before those of the rest
abbrev behind : List ℕ → Option (List ℕ) → Option (List ℕ)
behind bytes o = option_map (λ more. bytes ++ more) o

pushed : (bytes new : List ℕ) (b : ℕ) (o : Option (List ℕ)) → new ≡ bytes ++ b ∷ [] → behind new o ≡ behind bytes (option_map (push_front (Some b)) o)
pushed bytes new b None e = refl
pushed bytes new b (Some more) e = rw e (ap (λ (xs : List ℕ). Some xs) (simp append_assoc))

kept : (bytes new : List ℕ) (o : Option (List ℕ)) → new ≡ bytes → behind new o ≡ behind bytes (option_map (push_front None) o)
kept bytes new None e = refl
kept bytes new (Some more) e = ap (λ xs. Some (xs ++ more)) e

module _ (bytes : List ℕ) (state : StringState) (s : List ℕ) (i : ℕ) (so_far : behind bytes (string_value state (drop i s)) ≡ string_value Plain s) where
  -- one byte of the text
  reads : i < length s → behind bytes (cond (closes state (slice_index s i)) (cond (eqb (length (drop (i + 1) s)) 0) (Some []) None) (value_from (byte_read state (slice_index s i)) (next_state state (slice_index s i)) (λ next. string_value next (drop (i + 1) s)))) ≡ string_value Plain s
  unfolding string_value
  reads within = ap (behind bytes) (sym (at_drop_more (string_value state) s i 0 within)) ∙ so_far

  goes_on : (o : Option ℕ) (n : Option StringState) → i < length s → false ≡ closes state (slice_index s i) → o ≡ byte_read state (slice_index s i) → n ≡ next_state state (slice_index s i)
      → behind bytes (value_from o n (λ next. string_value next (drop (i + 1) s))) ≡ string_value Plain s
  goes_on o n within stays read next = rw (read, next) (ap (behind bytes) (sym (cond-false _ _ _ (sym stays))) ∙ reads within)

  closed : i < length s → true ≡ closes state (slice_index s i) → behind bytes (cond (eqb (length (drop (i + 1) s)) 0) (Some []) None) ≡ string_value Plain s
  closed within closing = ap (behind bytes) (sym (cond-true _ _ _ (sym closing))) ∙ reads within

  ends : i < length s → true ≡ closes state (slice_index s i) → i + 1 ≡ length s → Some bytes ≡ string_value Plain s
  ends within closing last =
      ap (λ (xs : List ℕ). Some xs) (sym (append-nil bytes))
      ∙ ap (behind bytes) (sym (cond-true _ _ _ (eq-eqb (length (drop (i + 1) s)) 0 (length-drop (i + 1) s ∙ omega (arith, last)))))
      ∙ closed within closing

  stops : i < length s → true ≡ closes state (slice_index s i) → (i + 1 ≡ length s → ⊥) → None ≡ string_value Plain s
  stops within closing more =
      ap (behind bytes) (sym (cond-false _ _ _ (ne_eqb (length (drop (i + 1) s)) 0 (λ e. more (omega (arith, length-drop (i + 1) s, e, within))))))
      ∙ closed within closing

  at_end : length s ≤ i → None ≡ string_value Plain s
  unfolding string_value
  at_end past = ap (behind bytes) (sym (at_drop_all (string_value state) s i past)) ∙ so_far

pub returns-in-None : goal.returns-in-None
returns-in-None c = goes_on c.loop-i.bytes.items _ _ _ c.loop-i.invariant _ _ c.loop-i-test.true c.if-closes.ensures refl c.in-None.ensures

pub loop-i-preserved : goal.loop-i-preserved
loop-i-preserved c =
    elim c.match-byte_at.branch [
      | in-Some+in_ok-push w ↦ pushed c.loop-i.bytes.items _ _ _ (ap (λ v. v.items) w.bytes-is ∙ w.in_ok-push.ensures.items)
          ∙ goes_on c.loop-i.bytes.items _ _ _ c.loop-i.invariant _ _ c.loop-i-test.true c.if-closes.ensures w.in-Some.ensures c.in-Some-next_state.ensures
      | in_default w ↦ kept c.loop-i.bytes.items _ _ (ap (λ v. v.items) w.bytes-is)
          ∙ goes_on c.loop-i.bytes.items _ _ _ c.loop-i.invariant _ _ c.loop-i-test.true c.if-closes.ensures w.in_default.ensures c.in-Some-next_state.ensures
    ]

pub returns : goal.returns
returns c = at_end c.loop-i.bytes.items _ _ _ c.loop-i.invariant c.loop-i-test.false

pub returns-then-closes : goal.returns-then-closes
returns-then-closes c =
    elim c.if-i-string.branch [
      | then-i-string w ↦ rw w.result-is (ends c.loop-i.bytes.items _ _ _ c.loop-i.invariant c.loop-i-test.true c.if-closes.ensures w.if-i-string.true)
      | else-i-string w ↦ rw w.result-is (stops c.loop-i.bytes.items _ _ _ c.loop-i.invariant c.loop-i-test.true c.if-closes.ensures w.if-i-string.false)
    ]
