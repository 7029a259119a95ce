use Rattle.std.proofs.Common.{◌≡◌, ◌∙◌, ℕ, ◌+◌, ◌-◌, List, [], length, take, drop, drop-drop, sym, arith}
use Rattle.std.proofs.lemmas.Bool.{cond-true, cond-false, eq-eqb, ne_eqb}
use Rattle.std.proofs.lemmas.List.{at_drop_all, take_rest}
use Rattle.std.specs.Str.Lines.{strip_carriage_return}
use Rattle.teal_text.specs.Lines.{line_len, line_text}
use Rattle.teal_text.proofs.line.first_line.Goals as goal

module _ (bs : List ℕ) (n : ℕ) (is : n ≡ line_len bs) where
  whole : n ≡ length bs → bs ≡ line_text bs
  unfolding line_text
  whole all = sym (cond-true _ _ _ (eq-eqb (line_len bs) (length bs) (sym is ∙ all)))

  nothing_left : n ≡ length bs → [] ≡ drop (line_len bs + 1) bs
  nothing_left all = sym (at_drop_all (λ xs. xs) bs (line_len bs + 1) (omega (arith, is, all)))

  front_line : (n ≡ length bs → ⊥) → (front : List ℕ) → front ≡ take n bs → strip_carriage_return front ≡ line_text bs
  unfolding line_text
  front_line more front cut = rw (cut, is) (sym (cond-false _ _ _ (ne_eqb (line_len bs) (length bs) (λ e. more (is ∙ e)))))

  left : (back : List ℕ) → back ≡ drop n bs → take (length back - 1) (drop 1 back) ≡ drop (line_len bs + 1) bs
  left back cut = take_rest back 1 ∙ rw (cut, is) (drop-drop 1 (line_len bs) bs)

pub returns-then-len-bytes-clause-line : goal.returns-then-len-bytes-clause-line
returns-then-len-bytes-clause-line c = whole c.args.bytes.now _ c.line_len-len.ensures.value c.if-len-bytes.true

pub returns-then-len-bytes-clause-next : goal.returns-then-len-bytes-clause-next
returns-then-len-bytes-clause-next c = nothing_left c.args.bytes.now _ c.line_len-len.ensures.value c.if-len-bytes.true

pub returns-else-len-bytes-clause-line : goal.returns-else-len-bytes-clause-line
returns-else-len-bytes-clause-line c = c.without_carriage_return.ensures ∙ front_line c.args.bytes.now _ c.line_len-len.ensures.value c.if-len-bytes.false _ c.split_at.ensures.front

pub returns-else-len-bytes-clause-next : goal.returns-else-len-bytes-clause-next
returns-else-len-bytes-clause-next c = left c.args.bytes.now _ c.line_len-len.ensures.value _ c.split_at.ensures.back
