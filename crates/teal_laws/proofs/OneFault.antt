-- A text has one first fault.
use Rattle.std.proofs.Common.{◌≡◌, ◌↔◌, ℕ, ◌+◌, ◌⊎◌, inl, inr, List, [], ◌∷◌, ◌++◌, length, Option, Some, None, Result, Ok, Err, refl, sym, ap, subst, ◌∙◌, append_assoc}
use Rattle.teal_value.specs.Answer.{◌>>=◌}
use Rattle.teal_table.specs.declared.shape.Version.{Version}
use Rattle.teal_text.specs.Lines.{LineTokens, lines_of}
use Rattle.teal_source.specs.declared.command.Command.TheVariants.{Jump}
use Rattle.teal_source.specs.declared.fault.AsmFault.{AsmFault}
use Rattle.teal_source.specs.declared.fault.AsmFaultKind.{AsmFaultKind}
use Rattle.teal_source.specs.declared.statement.Statement.{Statement}
use Rattle.teal_source.specs.Operands.{Word}
use Rattle.teal_source.specs.Statements.{Words, on_text, statements, words_of_lines}
use Rattle.teal_asm.specs.Meaning.{all_instructions, gathered_blocks, meaning, meaning_of_lines, meaning_with}
use Rattle.teal_asm.specs.Thinned.{branch_fault, command_count}
use Rattle.teal_asm.proofs.Branches.{Found, all_found}
use Rattle.teal_laws.specs.TextRules.{AreSaid, Defines, DefinesOnce, HasWords, IsBranchFault, IsFirstFault, IsLineFault, IsWrong, KeepLineRules, KeepsBlocksApart, LeadsWrong, back, mixed, nowhere, of_branch, of_line, of_none, of_pragma, of_tokens, too_many, twice, unread}
use Rattle.teal_laws.proofs.TextRules.{none_keep}
use Rattle.teal_laws.proofs.TextFaults.{Branches, Walked, branch_fault_is, branches, has_fault, no_branch_fault, no_line_fault, not_wrong, part_defines, said_parts, same_said, walk}

-- ---- lists

-- where two elements part one list, they are one, or one stands before the other
abbrev Parted : {A : Type 0} → List A → A → List A → List A → A → List A → Type 0
Parted {A} xs x us ys y vs =
    ((xs ≡ ys) × (x ≡ y) × (us ≡ vs)) ⊎ (((rest : List A) × (ys ≡ xs ++ x ∷ rest) × (us ≡ rest ++ y ∷ vs)) ⊎ ((rest : List A) × (xs ≡ ys ++ y ∷ rest) × (vs ≡ rest ++ x ∷ us)))

compare : {A : Type 0} (xs : List A) (x : A) (us ys : List A) (y : A) (vs : List A) → xs ++ x ∷ us ≡ ys ++ y ∷ vs → Parted xs x us ys y vs
compare [] x us [] y vs e =
    let head : x ≡ y = cc in
    let tail : us ≡ vs = cc in
    inl (refl, head, tail)
compare [] x us (b ∷ ys) y vs e =
    let head : x ≡ b = cc in
    let tail : us ≡ ys ++ y ∷ vs = cc in
    inr (inl (ys, ap (λ z. z ∷ ys) (sym head), tail))
compare (a ∷ xs) x us [] y vs e =
    let head : a ≡ y = cc in
    let tail : xs ++ x ∷ us ≡ vs = cc in
    inr (inr (xs, ap (λ z. z ∷ xs) head, sym tail))
compare (a ∷ xs) x us (b ∷ ys) y vs e =
    let head : a ≡ b = cc in
    let tail : xs ++ x ∷ us ≡ ys ++ y ∷ vs = cc in
    elim (compare xs x us ys y vs tail) [
      | inl p ↦ inl (ap (λ z. z ∷ xs) head ∙ ap (λ zs. b ∷ zs) p.0, p.1, p.2)
      | inr q ↦ elim q [
        | inl p ↦ inr (inl (p.0, ap (λ z. z ∷ ys) (sym head) ∙ ap (λ zs. a ∷ zs) p.1, p.2))
        | inr p ↦ inr (inr (p.0, ap (λ z. z ∷ xs) head ∙ ap (λ zs. b ∷ zs) p.1, p.2))
      ]
    ]

same_fault : (f g : AsmFault) (n : ℕ) → f.line ≡ n → g.line ≡ n → f.kind ≡ g.kind → f ≡ g
same_fault f g n e d k = ap (λ m. record { line = m; kind = f.kind }) (e ∙ sym d) ∙ ap (λ j. record { line = g.line; kind = j }) k

-- ---- lines

same_wrong : (version : Version) (above : List Statement) (l : Words) (j k : AsmFaultKind) → IsWrong version above l j → IsWrong version above l k → j ≡ k
same_wrong version above l j k (twice a is d) (twice b at c) = refl
same_wrong version above l j k (twice a is d) (unread i new e) = absurd (new a is d)
same_wrong version above l j k (twice a is d) (mixed s new e never) = absurd (new a is d)
same_wrong version above l j k (twice a is d) (too_many s new e apart never) = absurd (new a is d)
same_wrong version above l j k (unread i new e) (twice a is d) = absurd (new a is d)
same_wrong version above l j k (unread i new e) (unread h now d) = let both : ◌≡◌ {A = Result Statement AsmFaultKind} (Err i) (Err h) = sym e ∙ d in cc
same_wrong version above l j k (unread i new e) (mixed s now d never) = let both : Err i ≡ Ok s = sym e ∙ d in absurd cc
same_wrong version above l j k (unread i new e) (too_many s now d apart never) = let both : Err i ≡ Ok s = sym e ∙ d in absurd cc
same_wrong version above l j k (mixed s new e never) (twice a is d) = absurd (new a is d)
same_wrong version above l j k (mixed s new e never) (unread i now d) = let both : Ok s ≡ Err i = sym e ∙ d in absurd cc
same_wrong version above l j k (mixed s new e never) (mixed t now d not) = refl
same_wrong version above l j k (mixed s new e never) (too_many t now d apart not) =
    let both : ◌≡◌ {A = Result Statement AsmFaultKind} (Ok t) (Ok s) = sym d ∙ e in
    let same : t ≡ s = cc in
    absurd (never (subst (λ x. KeepsBlocksApart (above ++ x ∷ [])) same apart))
same_wrong version above l j k (too_many s new e apart never) (twice a is d) = absurd (new a is d)
same_wrong version above l j k (too_many s new e apart never) (unread i now d) = let both : Ok s ≡ Err i = sym e ∙ d in absurd cc
same_wrong version above l j k (too_many s new e apart never) (mixed t now d not) =
    let both : ◌≡◌ {A = Result Statement AsmFaultKind} (Ok s) (Ok t) = sym e ∙ d in
    let same : s ≡ t = cc in
    absurd (not (subst (λ x. KeepsBlocksApart (above ++ x ∷ [])) same apart))
same_wrong version above l j k (too_many s new e apart never) (too_many t now d too not) = refl

-- a line in which something is wrong doesn't stand above another such line
not_above : (version : Version) (above : List Words) (here : Words) (rest : List Words) (front all : List Statement) (k : AsmFaultKind) → AreSaid version above front → IsWrong version front here k → AreSaid version (above ++ here ∷ rest) all → KeepLineRules all → ⊥
not_above version above here rest front all k are wrong more keep =
    let p = said_parts version above here rest all more in
    let same = same_said version above p.front front p.front_said are in
    not_wrong version all front here p.own p.rest k keep (p.all ∙ ap (λ xs. xs ++ p.own ∷ p.rest) same ∙ sym (append_assoc front (p.own ∷ []) p.rest)) p.own_said wrong

same_line_fault : (version : Version) (lines : List Words) (f g : AsmFault) → IsLineFault version lines f → IsLineFault version lines g → f ≡ g
same_line_fault version lines f g p q = elim (compare p.above p.here p.below q.above q.here q.below (sym p.lines_are ∙ q.lines_are)) [
  | inl e ↦
      let front : q.statements ≡ p.statements = same_said version p.above q.statements p.statements (subst (λ ws. AreSaid version ws q.statements) (sym e.0) q.are_said) p.are_said in
      same_fault f g p.here.line p.line_is (q.line_is ∙ ap (λ (l : Words). l.line) (sym e.1))
      (same_wrong version p.statements p.here f.kind g.kind p.wrong (subst (λ l. IsWrong version p.statements l g.kind) (sym e.1) (subst (λ ss. IsWrong version ss q.here g.kind) front q.wrong)))
  | inr r ↦ elim r [
    | inl e ↦ absurd (not_above version p.above p.here e.0 p.statements q.statements f.kind p.are_said p.wrong (subst (λ ws. AreSaid version ws q.statements) e.1 q.are_said) q.keep)
    | inr e ↦ absurd (not_above version q.above q.here e.0 q.statements p.statements g.kind q.are_said q.wrong (subst (λ ws. AreSaid version ws p.statements) e.1 p.are_said) p.keep)
  ]
]

-- ---- branches

same_leads : (above below : List Statement) (label : Word) (j k : AsmFaultKind) → LeadsWrong above below label j → LeadsWrong above below label k → j ≡ k
same_leads above below label j k (back d) (back e) = refl
same_leads above below label j k (back d) (nowhere never none) = absurd (never d)
same_leads above below label j k (nowhere never none) (back d) = absurd (never d)
same_leads above below label j k (nowhere never none) (nowhere not nor) = refl

-- a branch that leads wrong doesn't stand above another such branch
not_before : (ss : List Statement) (f g : AsmFault) → DefinesOnce ss → (p : IsBranchFault ss f) (q : IsBranchFault ss g) (rest : List Statement) → q.above ≡ p.above ++ p.here ∷ rest → p.below ≡ rest ++ q.here ∷ q.below → ⊥
not_before ss f g once p q rest above below =
    let there : Defines p.below p.label = subst (λ xs. Defines xs p.label) (sym below) (q.forward p.above p.here rest p.opcode p.label above p.command_is) in
    at_wrong f.kind there p.wrong
  where
    at_wrong : (k : AsmFaultKind) → Defines p.below p.label → LeadsWrong (p.above ++ p.here ∷ []) p.below p.label k → ⊥
    at_wrong k there (back d) = part_defines ss (p.above ++ p.here ∷ []) p.below p.label once (p.statements_are ∙ sym (append_assoc p.above (p.here ∷ []) p.below)) d there
    at_wrong k there (nowhere never none) = none there

same_branch_fault : (ss : List Statement) (f g : AsmFault) → DefinesOnce ss → IsBranchFault ss f → IsBranchFault ss g → f ≡ g
same_branch_fault ss f g once p q = elim (compare p.above p.here p.below q.above q.here q.below (sym p.statements_are ∙ q.statements_are)) [
  | inl e ↦
      let both : Some (Jump q.opcode q.label) ≡ Some (Jump p.opcode p.label) = sym q.command_is ∙ ap (λ (s : Statement). s.command) (sym e.1) ∙ p.command_is in
      let label : q.label ≡ p.label = cc in
      let up_to : q.above ++ q.here ∷ [] ≡ p.above ++ p.here ∷ [] = ap (λ xs. xs ++ q.here ∷ []) (sym e.0) ∙ ap (λ s. p.above ++ s ∷ []) (sym e.1) in
      same_fault f g p.here.line p.line_is (q.line_is ∙ ap (λ (s : Statement). s.line) (sym e.1))
      (same_leads (p.above ++ p.here ∷ []) p.below p.label f.kind g.kind p.wrong (subst (λ w. LeadsWrong (p.above ++ p.here ∷ []) p.below w g.kind) label (subst (λ xs. LeadsWrong (p.above ++ p.here ∷ []) xs q.label g.kind) (sym e.2) (subst (λ xs. LeadsWrong xs q.below q.label g.kind) up_to q.wrong))))
  | inr r ↦ elim r [
    | inl e ↦ absurd (not_before ss f g once p q e.0 e.1 e.2)
    | inr e ↦ absurd (not_before ss g f once q p e.0 e.1 e.2)
  ]
]

-- ---- the text

-- the meaning of a text is that of its lines' words
words_mean : (text : List ℕ) (ws : List Words) → HasWords text ws → meaning text ≡ meaning_of_lines ws
unfolding meaning
words_mean text ws h = at_lines (on_text (lines_of text)) h
  where
    at_lines : (q : Result (List LineTokens) AsmFault) → (q >>= λ ls. Ok (words_of_lines text ls)) ≡ Ok ws → (q >>= λ ls. meaning_of_lines (words_of_lines text ls)) ≡ meaning_of_lines ws
    at_lines (Ok ls) e = let same : words_of_lines text ls ≡ ws = cc in ap meaning_of_lines same
    at_lines (Err f) e = absurd cc

line_fault_met : (version : Version) (lines : List Words) (f : AsmFault) → IsLineFault version lines f → statements version [] lines ≡ Err f
line_fault_met version lines f fault = at_walk (statements version [] lines) (walk version [] [] lines tt none_keep)
  where
    at_walk : (q : Result (List Statement) AsmFault) → Walked version [] [] lines q → q ≡ Err f
    at_walk (Ok all) w = absurd (no_line_fault version lines all f (subst (AreSaid version lines) (sym w.1) w.2) w.3 fault)
    at_walk (Err g) w = ap (λ h. Err h) (same_line_fault version lines g f w fault)

lines_met : (version : Version) (lines : List Words) (ss : List Statement) → AreSaid version lines ss → KeepLineRules ss → statements version [] lines ≡ Ok ss
lines_met version lines ss are keep = at_walk (statements version [] lines) (walk version [] [] lines tt none_keep)
  where
    at_walk : (q : Result (List Statement) AsmFault) → Walked version [] [] lines q → q ≡ Ok ss
    at_walk (Ok all) w = ap (λ xs. Ok xs) (w.1 ∙ same_said version lines w.0 ss w.2 are)
    at_walk (Err f) w = absurd (no_line_fault version lines ss f are keep w)

branch_fault_met : (ss : List Statement) (f : AsmFault) → KeepLineRules ss → IsBranchFault ss f → all_instructions ss ≡ Err f
branch_fault_met ss f keep fault = at_branches (branch_fault [] ss) (branches [] ss) (length (gathered_blocks ss) + command_count ss) (all_found ss)
  where
    at_branches : (o : Option AsmFault) → Branches [] ss o → (n : ℕ) → Found o (all_instructions ss) n → all_instructions ss ≡ Err f
    at_branches None lead n found = absurd (no_branch_fault ss f (record { lines = keep; branches = lead }) fault)
    at_branches (Some g) b n found = found ∙ ap (λ h. Err h) (same_branch_fault ss g f keep.labels (branch_fault_is ss g b) fault)

fault_met : (text : List ℕ) (f : AsmFault) → IsFirstFault text f → meaning text ≡ Err f
unfolding meaning
fault_met text f (of_tokens e) = ap (λ q. q >>= λ ls. meaning_of_lines (words_of_lines text ls)) e
fault_met text f (of_none words e) = words_mean text [] words ∙ ap (λ h. Err h) (sym e)
fault_met text f (of_pragma l ls words e) = words_mean text (l ∷ ls) words ∙ ap (λ q. meaning_with q ls) e
fault_met text f (of_line l ls version words named fault) =
    words_mean text (l ∷ ls) words ∙ ap (λ q. meaning_with q ls) named
    ∙ ap (λ q. q >>= λ ss. all_instructions ss >>= λ is. Ok (record { version = version; instructions = is })) (line_fault_met version ls f fault)
fault_met text f (of_branch version ss are keep fault) =
    words_mean text (are.pragma ∷ are.lines) are.words ∙ ap (λ q. meaning_with q are.lines) are.names
    ∙ ap (λ q. q >>= λ ts. all_instructions ts >>= λ is. Ok (record { version = version; instructions = is })) (lines_met version are.lines ss are.are_said keep)
    ∙ ap (λ q. q >>= λ is. Ok (record { version = version; instructions = is })) (branch_fault_met ss f keep fault)

pub is_first_fault : (text : List ℕ) (f : AsmFault) → (meaning text ≡ Err f) ↔ IsFirstFault text f
is_first_fault text f = (has_fault text f, fault_met text f)
