-- The statements of lines, one line behind another.
use Rattle.std.proofs.Common.{◌≡◌, ℕ, ◌+◌, List, [], ◌∷◌, ◌++◌, length, Result, Ok, Err, refl, sym, ap, subst, ◌∙◌, arith}
use Rattle.teal_value.specs.declared.failure.Failure.{Failure}
use Rattle.teal_value.specs.declared.failure.Failure.TheVariants as failure
use Rattle.teal_value.specs.Answer.{◌>>=◌, Fails}
use Rattle.teal_table.specs.declared.shape.Version.{Version}
use Rattle.teal_text.specs.declared.fault.TextFault.{TextFault}
use Rattle.teal_text.specs.declared.line.Line.{Line}
use Rattle.teal_text.specs.Lines.{LineTokens, view, with_line}
use Rattle.teal_text.specs.Unread.{Unread, IsBehind}
use Rattle.teal_source.specs.declared.statement.Statement.{Statement}
use Rattle.teal_source.specs.declared.fault.AsmFault.{AsmFault}
use Rattle.teal_source.specs.declared.fault.AsmFaultKind.{AsmFaultKind}
use Rattle.teal_source.specs.declared.fault.AsmFaultKind.TheVariants as kind
use Rattle.teal_source.specs.Statements.{Words, appended, failure_on_line, on_line, on_text, statement, statements, words_of_line, words_of_lines}
use Rattle.teal_asm.specs.Reading.{IsLater, all_tokens, line_total, unread_statements}

then_same : {A B F : Type 0} (r : Result A F) (f g : A → Result B F) → ((x : A) → f x ≡ g x) → (r >>= f) ≡ (r >>= g)
then_same (Ok x) f g e = e x
then_same (Err d) f g e = refl

pub then_then : {A B C F : Type 0} (r : Result A F) (f : A → Result B F) (g : B → Result C F) → (r >>= λ x. f x >>= g) ≡ ((r >>= f) >>= g)
then_then (Ok x) f g = refl
then_then (Err d) f g = refl

statements-append : (version : Version) (before : List Statement) (xs ys : List Words) → statements version before (xs ++ ys) ≡ (statements version before xs >>= λ b. statements version b ys)
unfolding statements
statements-append version before [] ys = refl
statements-append version before (x ∷ xs) ys =
    then_same (on_line x.line (statement version before x)) _ _ (λ s. statements-append version (before ++ s ∷ []) xs ys)
    ∙ then_then (on_line x.line (statement version before x)) _ _

-- the statements of a line that is read, and those of the lines behind it
one_more : (version : Version) (before : List Statement) (u next : Unread) (l : Line) (r : Result (List Statement) AsmFault) → IsBehind l u next → statements version before (words_of_line u.text (view l)) ≡ r
    → unread_statements version before u ≡ (on_text next.lines >>= λ ls. r >>= λ b. statements version b (words_of_lines u.text ls))
one_more version before u next l r is e = ap (λ q. on_text q >>= λ ls. statements version before (words_of_lines u.text ls)) is.lines ∙ at_rest next.lines
  where
    at_rest : (q : Result (List LineTokens) TextFault) → (on_text (with_line (view l) q) >>= λ ls. statements version before (words_of_lines u.text ls)) ≡ (on_text q >>= λ ls. r >>= λ b. statements version b (words_of_lines u.text ls))
    at_rest (Ok ls) = statements-append version before (words_of_line u.text (view l)) (words_of_lines u.text ls) ∙ ap (λ p. p >>= λ b. statements version b (words_of_lines u.text ls)) e
    at_rest (Err f) = refl

-- once a line is read, the lines behind it lead to the same statements as before
pub goes_on : (version : Version) (before now : List Statement) (u next : Unread) (l : Line) → IsBehind l u next → statements version before (words_of_line u.text (view l)) ≡ Ok now → unread_statements version now next ≡ unread_statements version before u
goes_on version before now u next l is e = ap (λ t. on_text next.lines >>= λ ls. statements version now (words_of_lines t ls)) is.text ∙ sym (one_more version before u next l (Ok now) is e)

-- a failure that counts where the tokens of the lines that are left have no fault
pub late : {A : Type 0} (d e : Failure AsmFault) (left : Result (List LineTokens) TextFault) (meant : Result A AsmFault) → IsLater d e left → ((f : AsmFault) → d ≡ failure.Fault f → meant ≡ (on_text left >>= λ ls. Err f)) → Fails e meant
late failure.Memory e left meant is fails = subst (λ x. Fails x meant) (sym is) tt
late (failure.Fault f) e left meant is fails = at_rest left e is (fails f refl)
  where
    at_rest : (q : Result (List LineTokens) TextFault) (x : Failure AsmFault) → Fails {A = List LineTokens} x (on_text q >>= λ ls. Err f) → meant ≡ (on_text q >>= λ ls. Err f) → Fails x meant
    at_rest q failure.Memory is same = tt
    at_rest (Ok ls) (failure.Fault g) is same = let e : f ≡ g = cc in same ∙ ap (λ h. Err h) e
    at_rest (Err t) (failure.Fault g) is same = let e : record { line = t.line; kind = kind.Text } ≡ g = cc in same ∙ ap (λ h. Err h) e

-- a failure on a line is the answer, unless a later line has a fault of tokens
pub stops : (version : Version) (before : List Statement) (u next : Unread) (l : Line) (d e : Failure AsmFault) → IsBehind l u next → Fails d (statements version before (words_of_line u.text (view l))) → IsLater d e next.lines
    → Fails e (unread_statements version before u)
stops version before u next l d e is fails later =
    late d e next.lines (unread_statements version before u) later (λ f is_fault. one_more version before u next l (Err f) is (rw is_fault at fails))

pub statements-nil : (version : Version) (before : List Statement) → statements version before [] ≡ Ok before
unfolding statements
statements-nil version before = refl

-- where no line is left, the statements are those before
pub all_read : (version : Version) (before : List Statement) (u : Unread) → u.lines ≡ Ok [] → unread_statements version before u ≡ Ok before
all_read version before u none = ap (λ q. on_text q >>= λ ls. statements version before (words_of_lines u.text ls)) none ∙ statements-nil version before

-- how many lines there are
pub same_total : (u next : Unread) (l : Line) → IsBehind l u next → line_total next ≡ line_total u
same_total u next l is = at_rest next.lines ∙ sym (ap (λ q. q >>= λ ls. Ok (u.read + length ls)) is.lines)
  where
    at_rest : (q : Result (List LineTokens) TextFault) → (q >>= λ ls. Ok (next.read + length ls)) ≡ (with_line (view l) q >>= λ ls. Ok (u.read + length ls))
    at_rest (Ok ls) = let sum : next.read + length ls ≡ u.read + length (view l ∷ ls) = omega (arith, is.read) in ap (λ n. Ok n) sum
    at_rest (Err f) = refl

-- where no line is left, the text has as many lines as were read
pub last_total : (u : Unread) → u.lines ≡ Ok [] → line_total u ≡ Ok u.read
last_total u none =
    let sum : u.read + 0 ≡ u.read = omega arith in
    ap (λ q. q >>= λ ls. Ok (u.read + length ls)) none ∙ ap (λ n. Ok n) sum

-- a line alone
pub one_line : (version : Version) (before : List Statement) (l : Words) → statements version before (l ∷ []) ≡ on_line l.line (appended before (statement version before l))
unfolding statements
one_line version before l = at_result (statement version before l)
  where
    at_result : (r : Result Statement AsmFaultKind) → (on_line l.line r >>= λ s. Ok (before ++ s ∷ [])) ≡ on_line l.line (appended before r)
    at_result (Ok s) = refl
    at_result (Err k) = refl

pub fails_on_line : {A : Type 0} (line : ℕ) (d : Failure AsmFaultKind) (r : Result A AsmFaultKind) → Fails d r → Fails (failure_on_line line d) (on_line line r)
fails_on_line line failure.Memory r e = tt
fails_on_line line (failure.Fault k) r e = ap (on_line line) e

-- reading all that is left
pub read_on : (left next : Result (List LineTokens) TextFault) (l : LineTokens) → left ≡ with_line l next → all_tokens next ≡ all_tokens left
read_on left next l e = at_rest next ∙ sym (ap all_tokens e)
  where
    at_rest : (q : Result (List LineTokens) TextFault) → all_tokens q ≡ all_tokens (with_line l q)
    at_rest (Ok ls) = refl
    at_rest (Err f) = refl

-- a fault of tokens
pub fails_reading : {A : Type 0} (d : Failure AsmFault) (left : Result (List LineTokens) TextFault) (g : List LineTokens → Result A AsmFault) (meant : Result A AsmFault) → (on_text left >>= g) ≡ meant → Fails d (on_text left) → Fails d meant
fails_reading failure.Memory left g meant is e = tt
fails_reading (failure.Fault f) left g meant is e = sym is ∙ ap (λ q. q >>= g) e
