-- The lines of a text one behind another, where not all statements are kept.
use Rattle.std.proofs.Common.{◌≡◌, ℕ, inl, inr, List, [], ◌∷◌, ◌++◌, Result, Ok, Err, refl, sym, ap, subst, ◌∙◌}
use Rattle.teal_value.specs.declared.failure.Failure.{Failure}
use Rattle.teal_value.specs.declared.failure.Failure.TheVariants as failure
use Rattle.teal_value.specs.Answer.{Fails}
use Rattle.teal_table.specs.declared.shape.Version.{Version}
use Rattle.teal_text.specs.declared.line.Line.{Line}
use Rattle.teal_text.specs.Lines.{view}
use Rattle.teal_text.specs.Unread.{Unread, IsBehind}
use Rattle.teal_source.specs.declared.statement.Statement.{Statement}
use Rattle.teal_source.specs.declared.fault.AsmFault.{AsmFault}
use Rattle.teal_source.specs.declared.fault.AsmFaultKind.{AsmFaultKind}
use Rattle.teal_source.specs.Operands.{Word}
use Rattle.teal_source.specs.Statements.{Words, appended, on_line, statement, statements, words_of_line, words_on}
use Rattle.teal_asm.specs.Meaning.{Meaning}
use Rattle.teal_asm.specs.Program.{program, short_program, encoding, version_byte}
use Rattle.teal_asm.specs.Reading.{IsLater, unread_statements}
use Rattle.teal_asm.specs.Thinned.{AreSameOrLong, IsSameOrLong, Thins}
use Rattle.teal_asm.proofs.Emitting.{is_too_long}
use Rattle.teal_asm.proofs.LineByLine.{all_read, goes_on, one_line, statements-nil, stops}
use Rattle.teal_asm.proofs.Thinning.{same_statement, thins_again, thins_itself, thins_longer}

-- a line behind what is kept is a line behind all
one_more : (version : Version) (kept all now : List Statement) (line : ℕ) (ws : List Word) → Thins kept all → statements version kept (words_on line ws) ≡ Ok now
    → (more : List Statement) × (statements version all (words_on line ws) ≡ Ok more) × Thins now more
one_more version kept all now line [] t e =
    let same : kept ≡ now = one_value kept now _ (statements-nil version kept) e in
    (all, statements-nil version all, subst (λ x. Thins x all) same t)
  where
    one_value : (x y : List Statement) (r : Result (List Statement) AsmFault) → r ≡ Ok x → r ≡ Ok y → x ≡ y
    one_value x y r e f = cc
one_more version kept all now line (w ∷ ws) t e =
    let l : Words = record { line = line; first = w; more = ws } in
    at_statement (statement version all l) refl (sym (ap (λ r. on_line line (appended kept r)) (same_statement version kept all l t)) ∙ sym (one_line version kept l) ∙ e)
  where
    one_value : (x y : List Statement) (r : Result (List Statement) AsmFault) → r ≡ Ok x → r ≡ Ok y → x ≡ y
    one_value x y r e f = cc

    at_statement : (r : Result Statement AsmFaultKind) → statement version all (record { line = line; first = w; more = ws }) ≡ r → on_line line (appended kept r) ≡ Ok now
        → (more : List Statement) × (statements version all (record { line = line; first = w; more = ws } ∷ []) ≡ Ok more) × Thins now more
    at_statement (Ok s) is f = (all ++ s ∷ [], one_line version all (record { line = line; first = w; more = ws }) ∙ ap (λ r. on_line line (appended all r)) is, subst (λ x. Thins x (all ++ s ∷ [])) (one_value (kept ++ s ∷ []) now _ refl f) (thins_longer kept all s t))
    at_statement (Err k) is f = absurd cc

none_more : (version : Version) (kept all : List Statement) (line : ℕ) (ws : List Word) (d : Failure AsmFault) → Thins kept all → Fails d (statements version kept (words_on line ws)) → Fails d (statements version all (words_on line ws))
none_more version kept all line ws failure.Memory t e = tt
none_more version kept all line [] (failure.Fault f) t e = let no : Ok kept ≡ Err f = sym (statements-nil version kept) ∙ e in absurd cc
none_more version kept all line (w ∷ ws) (failure.Fault f) t e =
    let l : Words = record { line = line; first = w; more = ws } in
    at_statement (statement version all l) refl (sym (ap (λ r. on_line line (appended kept r)) (same_statement version kept all l t)) ∙ sym (one_line version kept l) ∙ e)
  where
    at_statement : (r : Result Statement AsmFaultKind) → statement version all (record { line = line; first = w; more = ws }) ≡ r → on_line line (appended kept r) ≡ Err f
        → statements version all (record { line = line; first = w; more = ws } ∷ []) ≡ Err f
    at_statement (Ok s) is g = absurd cc
    at_statement (Err k) is g = one_line version all (record { line = line; first = w; more = ws }) ∙ ap (λ r. on_line line (appended all r)) is ∙ g

-- what is kept of all statements so far, whose lines are read
pub record HasRead (version : Version) (kept : List Statement) (left whole : Unread) : Type 0 where
  pub all : List Statement
  pub thins : Thins kept all
  pub reads : unread_statements version all left ≡ unread_statements version [] whole

pub nothing_read : (version : Version) (kept : List Statement) (u : Unread) → kept ≡ [] → HasRead version kept u u
nothing_read version kept u none = record { all = []; thins = subst (λ x. Thins x []) (sym none) (thins_itself []); reads = refl }

-- once a line is read, what is kept of its statements and those kept before is kept of all
pub reads_on : (version : Version) (kept now : List Statement) (u next whole : Unread) (l : Line) → HasRead version kept u whole → IsBehind l u next
    → (more : List Statement) × (statements version kept (words_of_line u.text (view l)) ≡ Ok more) × Thins now more → HasRead version now next whole
reads_on version kept now u next whole l h is m =
    let n = one_more version kept h.all m.0 (view l).number _ h.thins m.1 in
    record { all = n.0; thins = thins_again now m.0 n.0 m.2 n.2; reads = goes_on version h.all n.0 u next l is n.1 ∙ h.reads }

-- a failure on a line is the answer, unless a later line has a fault of tokens
pub stops_reading : (version : Version) (kept : List Statement) (u next whole : Unread) (l : Line) (d e : Failure AsmFault) → HasRead version kept u whole → IsBehind l u next → Fails d (statements version kept (words_of_line u.text (view l)))
    → IsLater d e next.lines → Fails e (unread_statements version [] whole)
stops_reading version kept u next whole l d e h is fails later =
    subst (λ r. Fails e r) h.reads (stops version h.all u next l d e is (none_more version kept h.all (view l).number _ d h.thins fails) later)

-- where no line is left, what is kept is kept of all statements of the text
pub has_read_all : (version : Version) (kept : List Statement) (u whole : Unread) → HasRead version kept u whole → u.lines ≡ Ok [] → (all : List Statement) × (unread_statements version [] whole ≡ Ok all) × Thins kept all
has_read_all version kept u whole h none = (h.all, sym h.reads ∙ all_read version h.all u none, h.thins)

-- the same program, or one that is too long
pub same_program : (line : ℕ) (m n : Meaning) → IsSameOrLong m n → short_program line (program m) ≡ short_program line (program n)
unfolding program
same_program line m n e = at_instructions e.instructions
  where
    at_instructions : AreSameOrLong m.instructions n.instructions → short_program line (program m) ≡ short_program line (program n)
    at_instructions (inl same) =
        ap (λ v. short_program line (version_byte v ∷ encoding 0 m.instructions)) e.version ∙ ap (λ is. short_program line (version_byte n.version ∷ encoding 0 is)) same
    at_instructions (inr long) = is_too_long line (version_byte m.version) m.instructions long.0 ∙ sym (is_too_long line (version_byte n.version) n.instructions long.1)
