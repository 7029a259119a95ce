use Rattle.std.proofs.Common.{◌≡◌, ℕ, get_or, ◌+◌, ◌-◌, ◌<◌, length, drop, Ok, refl, sym, ap, subst, ◌∙◌, arith}
use Rattle.std.proofs.lemmas.Result.{err_from_is_err_and}
use Rattle.std.proofs.lemmas.List.{length-drop}
use Rattle.std.proofs.lemmas.Bool.Decides.{nat_tests}
use Rattle.teal_value.specs.Answer.{Fails}
use Rattle.teal_text.specs.declared.token.Token.{Token}
use Rattle.teal_text.specs.Tokens.{tokens_of, LiesWithin}
use Rattle.teal_text.specs.Lines.{on_line, line_text, line_len}
use Rattle.teal_text.specs.Unread.{Unread, unread_behind, IsBehind}
use Rattle.teal_text.proofs.LineReading.{takes, refuses, none_left}
use Rattle.teal_text.proofs.unread.Lines.next_line.Goals as goal

pub returns-then-is_empty : goal.returns-then-is_empty
returns-then-is_empty c =
    let at = c.self.inside in
    let none : length at.rest.now ≡ 0 = grind (arith, nat_tests) in
    record {
      read = (ap (λ u. u.lines) (sym c.self.view_is) ∙ none_left (at.read + 1) (length at.text.now - length at.rest.now) at.rest.now none, refl);
      unchanged = tt;
    }

pub returns-in_err-tokens : goal.returns-in_err-tokens
returns-in_err-tokens c =
    let at = c.self.inside in
    let p = err_from_is_err_and c.from_residual.result c.from_residual.ensures.1 in
    let some : 0 < length at.rest.now = grind (arith, nat_tests) in
    let before : Unread = unread_behind at.read at.text.now at.rest.now in
    let fails : Fails c.in_err-tokens.field-0.0 before.lines = refuses c.in_err-tokens.field-0.0 (at.read + 1) (length at.text.now - length at.rest.now) at.rest.now some (rw (← c.first_line.ensures.line) c.in_err-tokens.ensures.value) in
    rw (p.1, p.2) (record { read = subst (λ (u : Unread). Fails c.in_err-tokens.field-0.0 u.lines) c.self.view_is fails; unchanged = refl })

pub returns : goal.returns
returns c =
    let at = c.self.inside in
    let text = at.text.now in
    let rest = at.rest.now in
    let some : 0 < length rest = grind (arith, nat_tests) in
    let next : c.first_line.result.1.now ≡ drop (line_len rest + 1) rest = c.first_line.ensures.next in
    let len : length c.first_line.result.1.now ≡ length rest - (line_len rest + 1) = ap length next ∙ length-drop (line_len rest + 1) rest in
    let e : on_line (at.read + 1) (tokens_of (length text - length rest) (line_text rest)) ≡ Ok c.in_ok-tokens.tokens.items = rw (← c.first_line.ensures.line) c.in_ok-tokens.ensures.value in
    let inside : (k : ℕ) (d : Token) → k < length c.in_ok-tokens.tokens.items → LiesWithin 0 (length text) (get_or c.in_ok-tokens.tokens.items k d) = λ k d h.
    let t = c.in_ok-tokens.ensures.within k d h in (omega arith, t.1, omega (arith, t.2, c.first_line.ensures.shorter, c.self.invariant)) in
    let behind : IsBehind (record { number = at.read + 1; tokens = c.in_ok-tokens.tokens }) (unread_behind at.read text rest) (unread_behind (at.read + 1) text c.first_line.result.1.now) = record {
      lines = takes (at.read + 1) (length text - length rest) (length text - length c.first_line.result.1.now) rest c.first_line.result.1.now c.in_ok-tokens.tokens.items some e next (λ lt. omega (arith, len, c.self.invariant));
      text = refl;
      read = refl;
      left = omega (arith, len);
      within = inside;
    } in
    record {
      read = subst (λ (u : Unread). IsBehind (record { number = at.read + 1; tokens = c.in_ok-tokens.tokens }) u (unread_behind (at.read + 1) text c.first_line.result.1.now)) c.self.view_is behind;
      unchanged = tt;
    }
