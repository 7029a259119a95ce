-- The line of the pragma: the first that has a token.
use Rattle.std.proofs.Common.{◌≡◌, ℕ, zero, suc, ◌==◌, true, false, ◌<◌, List, [], ◌∷◌, ◌++◌, length, map, Result, Ok, Err, refl, sym, ap, ◌∙◌, arith}
use Rattle.std.proofs.lemmas.Bool.{eqb-true}
use Rattle.std.proofs.lemmas.List.{nil_from_length}
use Rattle.teal_value.specs.declared.failure.Failure.{Failure}
use Rattle.teal_value.specs.declared.failure.Failure.TheVariants as failure
use Rattle.teal_value.specs.Answer.{◌>>=◌, Fails}
use Rattle.teal_table.specs.declared.shape.Version.{Version}
use Rattle.teal_text.specs.declared.fault.TextFault.{TextFault}
use Rattle.teal_text.specs.declared.token.Token.{Token}
use Rattle.teal_text.specs.declared.line.Line.{Line}
use Rattle.teal_text.specs.Lines.{LineTokens, view, with_line}
use Rattle.teal_text.specs.Unread.{Unread, IsBehind}
use Rattle.teal_source.specs.declared.statement.Statement.{Statement}
use Rattle.teal_source.specs.declared.fault.AsmFault.{AsmFault}
use Rattle.teal_source.specs.Statements.{on_text, pragma_of, statements, word_at, words_on, words_of_line, words_of_lines}
use Rattle.teal_asm.specs.Meaning.{Meant, all_instructions, meaning_of_lines, meaning_with}
use Rattle.teal_asm.specs.Reading.{IsLater, meaning_behind, unread_meaning, unread_statements}
use Rattle.teal_asm.proofs.LineByLine.{late, then_then}

pub no_token : (n : ℕ) → true ≡ (n == 0) → n ≡ 0
no_token n e = eqb-true n 0 (sym e)

pub some_token : (n : ℕ) → false ≡ (n == 0) → 0 < n
some_token zero e = absurd cc
some_token (suc n) e = omega arith

-- a line without a token has no words
pub blank_line : (u next : Unread) (l : Line) → IsBehind l u next → length l.tokens.items ≡ 0 → unread_meaning next ≡ unread_meaning u
blank_line u next l is none =
    ap (λ t. on_text next.lines >>= λ ls. meaning_of_lines (words_of_lines t ls)) is.text ∙ at_rest next.lines
    ∙ sym (ap (λ q. on_text q >>= λ ls. meaning_of_lines (words_of_lines u.text ls)) is.lines)
  where
    at_rest : (q : Result (List LineTokens) TextFault) → (on_text q >>= λ ls. meaning_of_lines (words_of_lines u.text ls)) ≡ (on_text (with_line (view l) q) >>= λ ls. meaning_of_lines (words_of_lines u.text ls))
    at_rest (Ok ls) = sym (ap (λ ts. meaning_of_lines (words_on l.number (map (word_at u.text) ts) ++ words_of_lines u.text ls)) (nil_from_length l.tokens.items none))
    at_rest (Err f) = refl

-- a line with a token is the pragma's
pub pragma_line : (u next : Unread) (l : Line) → IsBehind l u next → 0 < length l.tokens.items → unread_meaning u ≡ meaning_behind (pragma_of u.text (view l)) next
pragma_line u next l is some =
    ap (λ q. on_text q >>= λ ls. meaning_of_lines (words_of_lines u.text ls)) is.lines ∙ at_rest next.lines
    ∙ sym (ap (λ t. on_text next.lines >>= λ ls. meaning_with (pragma_of u.text (view l)) (words_of_lines t ls)) is.text)
  where
    at_tokens : (ls : List LineTokens) (ts : List Token) → 0 < length ts
        → meaning_of_lines (words_of_line u.text (record { number = l.number; tokens = ts }) ++ words_of_lines u.text ls) ≡ meaning_with (pragma_of u.text (record { number = l.number; tokens = ts })) (words_of_lines u.text ls)
    at_tokens ls [] some = absurd (omega (arith, some))
    at_tokens ls (t ∷ ts) some = refl

    at_rest : (q : Result (List LineTokens) TextFault) → (on_text (with_line (view l) q) >>= λ ls. meaning_of_lines (words_of_lines u.text ls)) ≡ (on_text q >>= λ ls. meaning_with (pragma_of u.text (view l)) (words_of_lines u.text ls))
    at_rest (Ok ls) = at_tokens ls l.tokens.items some
    at_rest (Err f) = refl

-- a pragma that is wrong
pub no_version : (named : Result Version AsmFault) (u : Unread) (d e : Failure AsmFault) → Fails d named → IsLater d e u.lines → Fails e (meaning_behind named u)
no_version named u d e fails later = late d e u.lines (meaning_behind named u) later (λ f is_fault. at_fault f (rw is_fault at fails))
  where
    at_fault : (f : AsmFault) → named ≡ Err f → meaning_behind named u ≡ (on_text u.lines >>= λ ls. Err f)
    at_fault f is = ap (λ n. on_text u.lines >>= λ ls. meaning_with n (words_of_lines u.text ls)) is

-- the version is known: the statements, and their instructions
by_statements : (version : Version) (u : Unread) (r : Result (List Statement) AsmFault) (named : Result Version AsmFault) → named ≡ Ok version → unread_statements version [] u ≡ r
    → meaning_behind named u ≡ (r >>= λ ss. all_instructions ss >>= λ is. Ok (record { version = version; instructions = is }))
by_statements version u r named is e =
    ap (λ n. on_text u.lines >>= λ ls. meaning_with n (words_of_lines u.text ls)) is
    ∙ then_then (on_text u.lines) (λ ls. statements version [] (words_of_lines u.text ls)) (λ ss. all_instructions ss >>= λ is. Ok (record { version = version; instructions = is }))
    ∙ ap (λ q. q >>= λ ss. all_instructions ss >>= λ is. Ok (record { version = version; instructions = is })) e

-- a failure of the statements behind the pragma is that of the text
pub no_statements : (version : Version) (u : Unread) (d : Failure AsmFault) (named : Result Version AsmFault) → named ≡ Ok version → Fails d (unread_statements version [] u) → Fails d (meaning_behind named u)
no_statements version u failure.Memory named is e = tt
no_statements version u (failure.Fault f) named is e = by_statements version u (Err f) named is e

-- a failure of the instructions is that of the text
pub no_instructions : (version : Version) (u : Unread) (ss : List Statement) (d : Failure AsmFault) (named : Result Version AsmFault) → named ≡ Ok version → unread_statements version [] u ≡ Ok ss → Fails d (all_instructions ss)
    → Fails d (meaning_behind named u)
no_instructions version u ss failure.Memory named is e fails = tt
no_instructions version u ss (failure.Fault f) named is e fails = by_statements version u (Ok ss) named is e ∙ ap (λ q. q >>= λ is. Ok (record { version = version; instructions = is })) fails

-- where nothing fails, the text means these instructions
pub its_instructions : (version : Version) (u : Unread) (ss : List Statement) (instructions : List Meant) (named : Result Version AsmFault) → named ≡ Ok version → unread_statements version [] u ≡ Ok ss → all_instructions ss ≡ Ok instructions
    → meaning_behind named u ≡ Ok (record { version = version; instructions = instructions })
its_instructions version u ss instructions named is e given = by_statements version u (Ok ss) named is e ∙ ap (λ q. q >>= λ is. Ok (record { version = version; instructions = is })) given
