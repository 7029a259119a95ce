-- A text has a meaning exactly where its statements fit together, and else its first fault.
use Rattle.std.proofs.Common.{◌≡◌, ◌↔◌, ℕ, ◌+◌, Bool, true, false, cond, List, [], ◌∷◌, ◌++◌, length, Option, Some, None, Result, Ok, Err, refl, sym, ap, subst, ◌∙◌, append_assoc}
use Rattle.std.specs.Prelude.{IsOk}
use Rattle.std.specs.List.{list_any}
use Rattle.std.proofs.lemmas.List.{append-nil}
use Rattle.std.proofs.lemmas.List.Elements.{Contains-append_left}
use Rattle.teal_value.specs.Answer.{◌>>=◌}
use Rattle.teal_value.specs.Choice.{or_else}
use Rattle.teal_table.specs.declared.shape.Version.{Version}
use Rattle.teal_table.specs.declared.opcode.Opcode.{Opcode}
use Rattle.teal_text.specs.Lines.{LineTokens, lines_of}
use Rattle.teal_source.specs.declared.command.Command.{Command}
use Rattle.teal_source.specs.declared.command.Command.TheVariants.{Int, Byte, Jump, Plain}
use Rattle.teal_source.specs.declared.fault.AsmFault.{AsmFault}
use Rattle.teal_source.specs.declared.fault.AsmFaultKind.{AsmFaultKind}
use Rattle.teal_source.specs.declared.fault.AsmFaultKind.TheVariants as kind
use Rattle.teal_source.specs.declared.statement.Statement.{Statement}
use Rattle.teal_source.specs.Operands.{Word}
use Rattle.teal_source.specs.Statements.{Words, has_label, is_pragma, label_name, on_line, on_text, optional_command, pragma_version, statement, statements, words_of_lines}
use Rattle.teal_asm.specs.Meaning.{Meaning, all_instructions, gathered_blocks, meaning, meaning_of_lines, meaning_with}
use Rattle.teal_asm.specs.Thinned.{branch_fault, branch_label, command_count, own_fault}
use Rattle.teal_asm.proofs.Branches.{Found, all_found}
use Rattle.teal_laws.specs.TextRules.{AreSaid, AreSaidIn, Defines, DefinesOnce, FitTogether, HasWords, IsBranchFault, IsFirstFault, IsLineFault, IsWrong, KeepLineRules, KeepsBlocksApart, LeadForward, LeadsWrong, NamesFew, back, mixed, nowhere, of_branch, of_line, of_none, of_pragma, of_tokens, said, said_behind, too_many, twice, unread}
use Rattle.teal_laws.proofs.TextRules.{Step, defined, no_part, none_keep, not_defined, part_of, step}

-- ---- line by line

said_push : (version : Version) (read : List Words) (above : List Statement) (l : Words) (s : Statement) → AreSaid version read above → said version l ≡ Ok s → AreSaid version (read ++ l ∷ []) (above ++ s ∷ [])
said_push version [] [] l s h e = (e, tt)
said_push version (r ∷ read) (a ∷ above) l s h e = (h.0, said_push version read above l s h.1 e)
said_push version [] (a ∷ above) l s h e = absurd h
said_push version (r ∷ read) [] l s h e = absurd h

-- what comes of lines below others
abbrev pub Walked : Version → List Words → List Statement → List Words → Result (List Statement) AsmFault → Type 0
Walked version read above lines (Ok all) = (ss : List Statement) × (all ≡ above ++ ss) × AreSaid version lines ss × KeepLineRules all
Walked version read above lines (Err f) = IsLineFault version (read ++ lines) f

pub walk : (version : Version) (read : List Words) (above : List Statement) (lines : List Words) → AreSaid version read above → KeepLineRules above → Walked version read above lines (statements version above lines)
unfolding statements
walk version read above [] are keep = ([], sym (append-nil above), tt, keep)
walk version read above (l ∷ ls) are keep = at_statement (statement version above l) (step version above l keep) (λ s. walk version (read ++ l ∷ []) (above ++ s ∷ []) ls)
  where
    at_rest : (s : Statement) → said version l ≡ Ok s → (q : Result (List Statement) AsmFault) → Walked version (read ++ l ∷ []) (above ++ s ∷ []) ls q → Walked version read above (l ∷ ls) q
    at_rest s says (Ok all) w = (s ∷ w.0, w.1 ∙ append_assoc above (s ∷ []) w.0, (says, w.2), w.3)
    at_rest s says (Err f) w = subst (λ ws. IsLineFault version ws f) (append_assoc read (l ∷ []) ls) w

    at_statement : (q : Result Statement AsmFaultKind) → Step version above l q
        → ((s : Statement) → AreSaid version (read ++ l ∷ []) (above ++ s ∷ []) → KeepLineRules (above ++ s ∷ []) → Walked version (read ++ l ∷ []) (above ++ s ∷ []) ls (statements version (above ++ s ∷ []) ls))
        → Walked version read above (l ∷ ls) (on_line l.line q >>= λ s. statements version (above ++ s ∷ []) ls)
    at_statement (Err k) w later = record { above = read; here = l; below = ls; lines_are = refl; statements = above; are_said = are; keep = keep; line_is = refl; wrong = w }
    at_statement (Ok s) w later = at_rest s w.0 (statements version (above ++ s ∷ []) ls) (later s (said_push version read above l s are w.0) w.1)

-- ---- branches

none_lead : (more : List Statement) → LeadForward [] more
none_lead more above s below o label at is = absurd (no_part above s below at)

-- one more statement in front, which leads forward
forward_cons : (s : Statement) (ss more : List Statement) → ((o : Opcode) (label : Word) → s.command ≡ Some (Jump o label) → Defines (ss ++ more) label) → LeadForward ss more → LeadForward (s ∷ ss) more
forward_cons s ss more own rest above t below o label at is = at_above above at
  where
    at_above : (front : List Statement) → s ∷ ss ≡ front ++ t ∷ below → Defines (below ++ more) label
    at_above [] e =
        let same : s ≡ t = cc in
        let after : ss ≡ below = cc in
        subst (λ xs. Defines (xs ++ more) label) after (own o label (ap (λ (x : Statement). x.command) same ∙ is))
    at_above (a ∷ front) e = let after : ss ≡ front ++ t ∷ below = cc in rest front t below o label after is

-- a branch fault of statements below others
pub record IsFaultBelow (before ss : List Statement) (f : AsmFault) : Type 0 where
  above : List Statement
  here : Statement
  below : List Statement
  statements_are : ss ≡ above ++ here ∷ below
  forward : LeadForward above (here ∷ below)
  opcode : Opcode
  label : Word
  command_is : here.command ≡ Some (Jump opcode label)
  line_is : f.line ≡ here.line
  wrong : LeadsWrong ((before ++ above) ++ here ∷ []) below label f.kind

abbrev pub Branches : List Statement → List Statement → Option AsmFault → Type 0
Branches before ss None = LeadForward ss []
Branches before ss (Some f) = IsFaultBelow before ss f

-- what is found of the branch of one statement
abbrev Own : Statement → List Statement → List Statement → Option AsmFault → Type 0
Own s before below None = (o : Opcode) (label : Word) → s.command ≡ Some (Jump o label) → Defines below label
Own s before below (Some f) = (o : Opcode) × (label : Word) × (s.command ≡ Some (Jump o label)) × (f.line ≡ s.line) × LeadsWrong (before ++ s ∷ []) below label f.kind

own : (s : Statement) (before below : List Statement) → Own s before below (own_fault s.line (branch_label s.command) (before ++ s ∷ []) below)
own s before below = at_command s.command refl
  where
    no_branch : (c : Option Command) → s.command ≡ c → ((o : Opcode) (label : Word) → c ≡ Some (Jump o label) → ⊥) → Own s before below None
    no_branch c is never o label e = absurd (never o label (sym is ∙ e))

    at_below : (o : Opcode) (name : Word) → s.command ≡ Some (Jump o name) → list_any (has_label name) (before ++ s ∷ []) ≡ false → (b : Bool) → list_any (has_label name) below ≡ b
        → Own s before below (cond b None (Some (record { line = s.line; kind = kind.LabelMissing })))
    at_below o name is a true e = λ p label h. let both : Some (Jump o name) ≡ Some (Jump p label) = sym is ∙ h in let same : name ≡ label = cc in subst (Defines below) same (defined below name e)
    at_below o name is a false e = (o, name, is, refl, nowhere (not_defined (before ++ s ∷ []) name a) (not_defined below name e))

    at_above : (o : Opcode) (name : Word) → s.command ≡ Some (Jump o name) → (b : Bool) → list_any (has_label name) (before ++ s ∷ []) ≡ b
        → Own s before below (cond b (Some (record { line = s.line; kind = kind.LabelBehind })) (cond (list_any (has_label name) below) None (Some (record { line = s.line; kind = kind.LabelMissing }))))
    at_above o name is true e = (o, name, is, refl, back (defined (before ++ s ∷ []) name e))
    at_above o name is false e = at_below o name is e (list_any (has_label name) below) refl

    at_command : (c : Option Command) → s.command ≡ c → Own s before below (own_fault s.line (branch_label c) (before ++ s ∷ []) below)
    at_command None is = no_branch None is (λ o label e. cc)
    at_command (Some (Int n)) is = no_branch (Some (Int n)) is (λ o label e. cc)
    at_command (Some (Byte b)) is = no_branch (Some (Byte b)) is (λ o label e. cc)
    at_command (Some (Plain p i)) is = no_branch (Some (Plain p i)) is (λ o label e. cc)
    at_command (Some (Jump o name)) is = at_above o name is (list_any (has_label name) (before ++ s ∷ [])) refl

pub branches : (before ss : List Statement) → Branches before ss (branch_fault before ss)
branches before [] = none_lead []
branches before (s ∷ ss) = at_own (branches (before ++ s ∷ []) ss) (own_fault s.line (branch_label s.command) (before ++ s ∷ []) ss) (own s before ss)
  where
    at_rest : Own s before ss None → (q : Option AsmFault) → Branches (before ++ s ∷ []) ss q → Branches before (s ∷ ss) q
    at_rest leads None rest = forward_cons s ss [] (λ o label e. subst (λ xs. Defines xs label) (sym (append-nil ss)) (leads o label e)) rest
    at_rest leads (Some f) rest = record {
      above = s ∷ rest.above;
      here = rest.here;
      below = rest.below;
      statements_are = ap (λ xs. s ∷ xs) rest.statements_are;
      forward = forward_cons s rest.above (rest.here ∷ rest.below) (λ o label e. subst (λ xs. Defines xs label) rest.statements_are (leads o label e)) rest.forward;
      opcode = rest.opcode;
      label = rest.label;
      command_is = rest.command_is;
      line_is = rest.line_is;
      wrong = subst (λ xs. LeadsWrong (xs ++ rest.here ∷ []) rest.below rest.label f.kind) (append_assoc before (s ∷ []) rest.above) rest.wrong;
    }

    at_own : Branches (before ++ s ∷ []) ss (branch_fault (before ++ s ∷ []) ss) → (o : Option AsmFault) → Own s before ss o → Branches before (s ∷ ss) (or_else o (branch_fault (before ++ s ∷ []) ss))
    at_own rest None leads = at_rest leads (branch_fault (before ++ s ∷ []) ss) rest
    at_own rest (Some f) w = record {
      above = [];
      here = s;
      below = ss;
      statements_are = refl;
      forward = none_lead (s ∷ ss);
      opcode = w.0;
      label = w.1;
      command_is = w.2;
      line_is = w.3;
      wrong = subst (λ xs. LeadsWrong (xs ++ s ∷ []) ss w.1 f.kind) (sym (append-nil before)) w.4;
    }

pub branch_fault_is : (ss : List Statement) (f : AsmFault) → IsFaultBelow [] ss f → IsBranchFault ss f
branch_fault_is ss f b = record {
  above = b.above;
  here = b.here;
  below = b.below;
  statements_are = b.statements_are;
  forward = b.forward;
  opcode = b.opcode;
  label = b.label;
  command_is = b.command_is;
  line_is = b.line_is;
  wrong = b.wrong;
}

-- ---- the text

-- what comes of a text: statements that fit together, or its first fault
abbrev Outcome : List ℕ → Result Meaning AsmFault → Type 0
Outcome text (Ok m) = (ss : List Statement) × AreSaidIn text m.version ss × FitTogether ss
Outcome text (Err f) = IsFirstFault text f

outcome : (text : List ℕ) → Outcome text (meaning text)
unfolding meaning
outcome text = at_lines (on_text (lines_of text)) refl
  where
    at_branches : (version : Version) (ss : List Statement) → AreSaidIn text version ss → KeepLineRules ss → (o : Option AsmFault) → Branches [] ss o → (n : ℕ) → Found o (all_instructions ss) n
        → Outcome text (all_instructions ss >>= λ is. Ok (record { version = version; instructions = is }))
    at_branches version ss are keep None lead n found =
        subst (λ r. Outcome text (r >>= λ is. Ok (record { version = version; instructions = is }))) (sym found.1) (ss, are, record { lines = keep; branches = lead })
    at_branches version ss are keep (Some f) fault n found =
        subst (λ r. Outcome text (r >>= λ is. Ok (record { version = version; instructions = is }))) (sym found) (of_branch version ss are keep (branch_fault_is ss f fault))

    at_statements : (l : Words) (ls : List Words) (version : Version) → HasWords text (l ∷ ls) → pragma_version l ≡ Ok version → (q : Result (List Statement) AsmFault) → Walked version [] [] ls q
        → Outcome text (q >>= λ ss. all_instructions ss >>= λ is. Ok (record { version = version; instructions = is }))
    at_statements l ls version words named (Err f) w = of_line l ls version words named w
    at_statements l ls version words named (Ok all) w =
        at_branches version all (record { pragma = l; lines = ls; words = words; names = named; are_said = subst (AreSaid version ls) (sym w.1) w.2 }) w.3 (branch_fault [] all) (branches [] all) (length (gathered_blocks all) + command_count all) (all_found all)

    at_pragma : (l : Words) (ls : List Words) → HasWords text (l ∷ ls) → (q : Result Version AsmFault) → pragma_version l ≡ q → Outcome text (meaning_with q ls)
    at_pragma l ls words (Err f) named = of_pragma l ls words named
    at_pragma l ls words (Ok version) named = at_statements l ls version words named (statements version [] ls) (walk version [] [] ls tt none_keep)

    at_words : (ws : List Words) → HasWords text ws → Outcome text (meaning_of_lines ws)
    at_words [] words = of_none words refl
    at_words (l ∷ ls) words = at_pragma l ls words (pragma_version l) refl

    at_lines : (q : Result (List LineTokens) AsmFault) → on_text (lines_of text) ≡ q → Outcome text (q >>= λ ls. meaning_of_lines (words_of_lines text ls))
    at_lines (Err f) read = of_tokens read
    at_lines (Ok ls) read = at_words (words_of_lines text ls) (ap (λ q. q >>= λ ts. Ok (words_of_lines text ts)) read)

-- ---- statements that fit together have no fault

pub part_defines : (ss front rest : List Statement) (label : Word) → DefinesOnce ss → ss ≡ front ++ rest → Defines front label → Defines rest label → ⊥
part_defines ss front rest label once at d e =
    let p = part_of rest e.0 e.1 in
    once (front ++ p.0) e.0 p.1 label (at ∙ ap (λ xs. front ++ xs) p.2 ∙ sym (append_assoc front p.0 (e.0 ∷ p.1))) e.2 (d.0, Contains-append_left front p.0 d.0 d.1, d.2)

front_apart : (front rest : List Statement) → KeepsBlocksApart (front ++ rest) → KeepsBlocksApart front
front_apart front rest k = record {
  uints = λ b n d. k.uints (b.0, b.1, b.2, Contains-append_left front rest b.0 b.3, b.4) n (d.0, Contains-append_left front rest d.0 d.1, d.2);
  strings = λ b s d. k.strings (b.0, b.1, b.2, Contains-append_left front rest b.0 b.3, b.4) s (d.0, Contains-append_left front rest d.0 d.1, d.2);
}

front_few : (front rest : List Statement) → NamesFew (front ++ rest) → NamesFew front
front_few front rest k = record {
  uints = λ ns apart each. k.uints ns apart (λ n c. let d = each n c in (d.0, Contains-append_left front rest d.0 d.1, d.2));
  strings = λ all apart each. k.strings all apart (λ s c. let d = each s c in (d.0, Contains-append_left front rest d.0 d.1, d.2));
}

-- what lines say is one list of statements
pub same_said : (version : Version) (lines : List Words) (ss ts : List Statement) → AreSaid version lines ss → AreSaid version lines ts → ss ≡ ts
same_said version [] [] [] h k = refl
same_said version [] (s ∷ ss) ts h k = absurd h
same_said version [] [] (t ∷ ts) h k = absurd k
same_said version (l ∷ ls) [] ts h k = absurd h
same_said version (l ∷ ls) (s ∷ ss) [] h k = absurd k
same_said version (l ∷ ls) (s ∷ ss) (t ∷ ts) h k =
    let both : Ok s ≡ Ok t = sym h.0 ∙ k.0 in
    let one : s ≡ t = cc in
    ap (λ x. x ∷ ss) one ∙ ap (λ xs. t ∷ xs) (same_said version ls ss ts h.1 k.1)

-- the statements above a line, its own, and those below
pub record SaidParts (version : Version) (above : List Words) (here : Words) (ss : List Statement) : Type 0 where
  pub front : List Statement
  pub own : Statement
  pub rest : List Statement
  pub all : ss ≡ front ++ own ∷ rest
  pub front_said : AreSaid version above front
  pub own_said : said version here ≡ Ok own

pub said_parts : (version : Version) (above : List Words) (here : Words) (below : List Words) (ss : List Statement) → AreSaid version (above ++ here ∷ below) ss → SaidParts version above here ss
said_parts version [] here below [] h = absurd h
said_parts version [] here below (s ∷ ss) h = record { front = []; own = s; rest = ss; all = refl; front_said = tt; own_said = h.0 }
said_parts version (a ∷ above) here below [] h = absurd h
said_parts version (a ∷ above) here below (s ∷ ss) h =
    let p = said_parts version above here below ss h.1 in
    record { front = s ∷ p.front; own = p.own; rest = p.rest; all = ap (λ xs. s ∷ xs) p.all; front_said = (h.0, p.front_said); own_said = p.own_said }

-- a line that begins with a label says a statement with it
said_label : (version : Version) (l : Words) (s : Statement) (label : Word) → said version l ≡ Ok s → label_name l.first ≡ Some label → s.label ≡ Some label
said_label version l s label says is = at_pragma (is_pragma l.first) (ap (λ o. cond (is_pragma l.first) (Err kind.Version) (said_behind version l o)) (sym is) ∙ says)
  where
    at_command : (q : Result (Option Command) AsmFaultKind) → (q >>= λ c. Ok (record { line = l.line; label = Some label; command = c })) ≡ Ok s → s.label ≡ Some label
    at_command (Ok c) e = let same : record { line = l.line; label = Some label; command = c } ≡ s = cc in ap (λ (x : Statement). x.label) (sym same)
    at_command (Err k) e = absurd cc

    at_pragma : (b : Bool) → cond b (Err kind.Version) (said_behind version l (Some label)) ≡ Ok s → s.label ≡ Some label
    at_pragma true e = absurd cc
    at_pragma false e = at_command (optional_command version l.more) e

-- a line whose statement fits has nothing wrong
pub not_wrong : (version : Version) (ss above : List Statement) (l : Words) (s : Statement) (below : List Statement) (k : AsmFaultKind) → KeepLineRules ss → ss ≡ (above ++ s ∷ []) ++ below → said version l ≡ Ok s → IsWrong version above l k → ⊥
not_wrong version ss above l s below k keep at says (twice label is d) = keep.labels above s below label (at ∙ append_assoc above (s ∷ []) below) (said_label version l s label says is) d
not_wrong version ss above l s below k keep at says (unread j new e) = let never : Ok s ≡ Err j = sym says ∙ e in cc
not_wrong version ss above l s below k keep at says (mixed t new e never) =
    let both : Ok s ≡ Ok t = sym says ∙ e in
    let same : s ≡ t = cc in
    never (subst (λ x. KeepsBlocksApart (above ++ x ∷ [])) same (front_apart (above ++ s ∷ []) below (subst KeepsBlocksApart at keep.blocks)))
not_wrong version ss above l s below k keep at says (too_many t new e apart never) =
    let both : Ok s ≡ Ok t = sym says ∙ e in
    let same : s ≡ t = cc in
    never (subst (λ x. NamesFew (above ++ x ∷ [])) same (front_few (above ++ s ∷ []) below (subst NamesFew at keep.few)))

pub no_line_fault : (version : Version) (lines : List Words) (ss : List Statement) (f : AsmFault) → AreSaid version lines ss → KeepLineRules ss → IsLineFault version lines f → ⊥
no_line_fault version lines ss f are keep fault =
    let p = said_parts version fault.above fault.here fault.below ss (subst (λ ws. AreSaid version ws ss) fault.lines_are are) in
    let same = same_said version fault.above p.front fault.statements p.front_said fault.are_said in
    not_wrong version ss fault.statements fault.here p.own p.rest f.kind keep (p.all ∙ ap (λ xs. xs ++ p.own ∷ p.rest) same ∙ sym (append_assoc fault.statements (p.own ∷ []) p.rest)) p.own_said fault.wrong

pub no_branch_fault : (ss : List Statement) (f : AsmFault) → FitTogether ss → IsBranchFault ss f → ⊥
no_branch_fault ss f fit b =
    let there : Defines b.below b.label = subst (λ xs. Defines xs b.label) (append-nil b.below) (fit.branches b.above b.here b.below b.opcode b.label b.statements_are b.command_is) in
    at_wrong f.kind there b.wrong
  where
    at_wrong : (k : AsmFaultKind) → Defines b.below b.label → LeadsWrong (b.above ++ b.here ∷ []) b.below b.label k → ⊥
    at_wrong k there (back d) = part_defines ss (b.above ++ b.here ∷ []) b.below b.label fit.lines.labels (b.statements_are ∙ sym (append_assoc b.above (b.here ∷ []) b.below)) d there
    at_wrong k there (nowhere never none) = none there

-- the words of a text are one list, and the version is one
same_words : (text : List ℕ) (ls ms : List Words) → HasWords text ls → HasWords text ms → ls ≡ ms
same_words text ls ms h k = let both : ◌≡◌ {A = Result (List Words) AsmFault} (Ok ls) (Ok ms) = sym h ∙ k in cc

no_fault : (text : List ℕ) (version : Version) (ss : List Statement) (f : AsmFault) → AreSaidIn text version ss → FitTogether ss → IsFirstFault text f → ⊥
no_fault text version ss f are fit (of_tokens e) = let never : ◌≡◌ {A = Result (List Words) AsmFault} (Err f) (Ok (are.pragma ∷ are.lines)) = sym (ap (λ q. q >>= λ ls. Ok (words_of_lines text ls)) e) ∙ are.words in cc
no_fault text version ss f are fit (of_none words e) = let never : [] ≡ are.pragma ∷ are.lines = same_words text _ _ words are.words in cc
no_fault text version ss f are fit (of_pragma l ls words e) =
    let all : l ∷ ls ≡ are.pragma ∷ are.lines = same_words text _ _ words are.words in
    let one : l ≡ are.pragma = cc in
    let never : ◌≡◌ {A = Result Version AsmFault} (Err f) (Ok version) = sym e ∙ ap pragma_version one ∙ are.names in
    cc
no_fault text version ss f are fit (of_line l ls v words named fault) =
    let all : l ∷ ls ≡ are.pragma ∷ are.lines = same_words text _ _ words are.words in
    let one : l ≡ are.pragma = cc in
    let rest : ls ≡ are.lines = cc in
    let both : ◌≡◌ {A = Result Version AsmFault} (Ok v) (Ok version) = sym named ∙ ap pragma_version one ∙ are.names in
    let same : v ≡ version = cc in
    no_line_fault version are.lines ss f are.are_said fit.lines (subst (λ w. IsLineFault w are.lines f) same (subst (λ xs. IsLineFault v xs f) rest fault))
no_fault text version ss f are fit (of_branch v ts said_too keep fault) =
    let all : said_too.pragma ∷ said_too.lines ≡ are.pragma ∷ are.lines = same_words text _ _ said_too.words are.words in
    let one : said_too.pragma ≡ are.pragma = cc in
    let rest : said_too.lines ≡ are.lines = cc in
    let both : ◌≡◌ {A = Result Version AsmFault} (Ok v) (Ok version) = sym said_too.names ∙ ap pragma_version one ∙ are.names in
    let same : v ≡ version = cc in
    let statements_are : ts ≡ ss = same_said version are.lines ts ss (subst (λ w. AreSaid w are.lines ts) same (subst (λ xs. AreSaid v xs ts) rest said_too.are_said)) are.are_said in
    no_branch_fault ss f fit (subst (λ xs. IsBranchFault xs f) statements_are fault)

-- ---- the law

pub has_meaning : (text : List ℕ) → IsOk (meaning text) ↔ ((version : Version) × (ss : List Statement) × AreSaidIn text version ss × FitTogether ss)
has_meaning text = (λ ok. fits (meaning text) (outcome text) ok, λ h. is_meant (meaning text) (outcome text) h.0 h.1 h.2 h.3)
  where
    fits : (q : Result Meaning AsmFault) → Outcome text q → IsOk q → (version : Version) × (ss : List Statement) × AreSaidIn text version ss × FitTogether ss
    fits (Ok m) o ok = (m.version, o.0, o.1, o.2)
    fits (Err f) o ok = absurd cc

    is_meant : (q : Result Meaning AsmFault) → Outcome text q → (version : Version) (ss : List Statement) → AreSaidIn text version ss → FitTogether ss → IsOk q
    is_meant (Ok m) o version ss are fit = refl
    is_meant (Err f) o version ss are fit = absurd (no_fault text version ss f are fit o)

pub has_fault : (text : List ℕ) (f : AsmFault) → meaning text ≡ Err f → IsFirstFault text f
has_fault text f e = subst (Outcome text) e (outcome text)
