-- Statements that no later fault needs: what labels alone decide, in front and behind.
use Rattle.std.proofs.Common.{◌≡◌, ℕ, Bool, true, false, cond, ◌||◌, List, [], ◌∷◌, ◌++◌, Option, Some, None, refl, sym, ap, ◌∙◌, append_assoc}
use Rattle.std.specs.Prelude.{is_some}
use Rattle.std.specs.List.{list_any}
use Rattle.std.specs.Map.{lookup}
use Rattle.std.specs.Str.{bytes_eq}
use Rattle.std.specs.Option.{option_map_or}
use Rattle.std.proofs.lemmas.List.{append-nil}
use Rattle.std.proofs.lemmas.Slice.Eq.{bytes_eq-Decides}
use Rattle.std.proofs.lemmas.Bool.{or_right, or_parts}
use Rattle.teal_value.specs.Choice.{or_else}
use Rattle.teal_source.specs.declared.statement.Statement.{Statement}
use Rattle.teal_source.specs.declared.fault.AsmFault.{AsmFault}
use Rattle.teal_source.specs.Operands.{Word}
use Rattle.teal_source.specs.Statements.{has_label}
use Rattle.teal_asm.specs.Thinned.{own_fault, branch_fault, branch_label, front_fault, jumps_to, leads_back, IsNeedless}
use Rattle.teal_asm.proofs.Bodies.{list_any-push, or_assoc, or_false}

-- ---- what labels decide

abbrev SameLabels : List Statement → List Statement → Type 0
SameLabels x y = (name : Word) → list_any (has_label name) x ≡ list_any (has_label name) y

labels-append : (name : Word) (xs ys : List Statement) → list_any (has_label name) (xs ++ ys) ≡ (list_any (has_label name) xs || list_any (has_label name) ys)
labels-append name [] ys = refl
labels-append name (x ∷ xs) ys = ap (λ b. has_label name x || b) (labels-append name xs ys) ∙ or_assoc (has_label name x) (list_any (has_label name) xs) (list_any (has_label name) ys)

same_own : (line : ℕ) (label : Option Word) (x y x' y' : List Statement) → SameLabels x x' → SameLabels y y' → own_fault line label x y ≡ own_fault line label x' y'
same_own line None x y x' y' e f = refl
same_own line (Some name) x y x' y' e f = rw (e name, f name) refl

pub no_label : (s : Statement) → s.label ≡ None → (before : List Statement) → SameLabels before (before ++ s ∷ [])
no_label s none before name =
    sym (list_any-push (has_label name) before s ∙ ap (λ l. list_any (has_label name) before || option_map_or (λ label. bytes_eq name label) l false) none ∙ or_false (list_any (has_label name) before))

no_label_first : (s : Statement) → s.label ≡ None → (later : List Statement) → SameLabels (s ∷ later) later
no_label_first s none later name = ap (λ l. option_map_or (λ label. bytes_eq name label) l false || list_any (has_label name) later) none

both_more : (x y : List Statement) (s : Statement) → SameLabels x y → SameLabels (x ++ s ∷ []) (y ++ s ∷ [])
both_more x y s e name = list_any-push (has_label name) x s ∙ ap (λ b. b || has_label name s) (e name) ∙ sym (list_any-push (has_label name) y s)

same_behind : (x y ss : List Statement) → SameLabels x y → branch_fault x ss ≡ branch_fault y ss
same_behind x y [] e = refl
same_behind x y (s ∷ ss) e =
    let more = both_more x y s e in
    ap (λ o. or_else o (branch_fault (x ++ s ∷ []) ss)) (same_own s.line (branch_label s.command) (x ++ s ∷ []) ss (y ++ s ∷ []) ss more (λ name. refl))
    ∙ ap (or_else (own_fault s.line (branch_label s.command) (y ++ s ∷ []) ss)) (same_behind (x ++ s ∷ []) (y ++ s ∷ []) ss more)

same_front : (before ss later other : List Statement) → SameLabels later other → front_fault before ss later ≡ front_fault before ss other
same_front before [] later other e = refl
same_front before (s ∷ ss) later other e =
    ap (λ o. or_else o (front_fault (before ++ s ∷ []) ss later)) (same_own s.line (branch_label s.command) (before ++ s ∷ []) (ss ++ later) (before ++ s ∷ []) (ss ++ other) (λ name. refl) more)
    ∙ ap (or_else (own_fault s.line (branch_label s.command) (before ++ s ∷ []) (ss ++ other))) (same_front (before ++ s ∷ []) ss later other e)
  where
    more : SameLabels (ss ++ later) (ss ++ other)
    more name = labels-append name ss later ∙ ap (λ b. list_any (has_label name) ss || b) (e name) ∙ sym (labels-append name ss other)

-- ---- in front and behind

else_assoc : {A : Type 0} (o p q : Option A) → or_else o (or_else p q) ≡ or_else (or_else o p) q
else_assoc (Some x) p q = refl
else_assoc None p q = refl

else_none : {A : Type 0} (o : Option A) → or_else o None ≡ o
else_none (Some x) = refl
else_none None = refl

in_parts : (before ss later : List Statement) → branch_fault before (ss ++ later) ≡ or_else (front_fault before ss later) (branch_fault (before ++ ss) later)
in_parts before [] later = ap (λ b. branch_fault b later) (sym (append-nil before))
in_parts before (s ∷ ss) later =
    ap (or_else (own_fault s.line (branch_label s.command) (before ++ s ∷ []) (ss ++ later))) (in_parts (before ++ s ∷ []) ss later ∙ ap (λ b. or_else (front_fault (before ++ s ∷ []) ss later) (branch_fault b later)) (append_assoc before (s ∷ []) ss))
    ∙ else_assoc (own_fault s.line (branch_label s.command) (before ++ s ∷ []) (ss ++ later)) (front_fault (before ++ s ∷ []) ss later) (branch_fault (before ++ s ∷ ss) later)

front-push : (before ss : List Statement) (s : Statement) (later : List Statement)
    → front_fault before (ss ++ s ∷ []) later ≡ or_else (front_fault before ss (s ∷ later)) (own_fault s.line (branch_label s.command) ((before ++ ss) ++ s ∷ []) later)
front-push before [] s later = else_none (own_fault s.line (branch_label s.command) (before ++ s ∷ []) later) ∙ ap (λ b. own_fault s.line (branch_label s.command) (b ++ s ∷ []) later) (sym (append-nil before))
front-push before (t ∷ ss) s later =
    ap (λ b. or_else (own_fault t.line (branch_label t.command) (before ++ t ∷ []) b) (front_fault (before ++ t ∷ []) (ss ++ s ∷ []) later)) (append_assoc ss (s ∷ []) later)
    ∙ ap (or_else (own_fault t.line (branch_label t.command) (before ++ t ∷ []) (ss ++ s ∷ later))) (front-push (before ++ t ∷ []) ss s later ∙ ap (λ b. or_else (front_fault (before ++ t ∷ []) ss (s ∷ later)) (own_fault s.line (branch_label s.command) (b ++ s ∷ []) later)) (append_assoc before (t ∷ []) ss))
    ∙ else_assoc (own_fault t.line (branch_label t.command) (before ++ t ∷ []) (ss ++ s ∷ later)) (front_fault (before ++ t ∷ []) ss (s ∷ later)) (own_fault s.line (branch_label s.command) ((before ++ t ∷ ss) ++ s ∷ []) later)

-- ---- what is needless

-- a statement without a label is needless where a fault of its own is not the first
without : (before : List Statement) (s : Statement) → s.label ≡ None → ((later : List Statement) → front_fault [] before later ≡ None → own_fault s.line (branch_label s.command) (before ++ s ∷ []) later ≡ None) → IsNeedless before s
without before s none own = record {
  label = none;
  faults = λ later.
      in_parts [] before later
      ∙ by later (front_fault [] before later) refl
      ∙ sym (in_parts [] before (s ∷ later) ∙ ap (λ o. or_else o (branch_fault before (s ∷ later))) (same_front [] before (s ∷ later) later (no_label_first s none later)));
}
  where
    by : (later : List Statement) (o : Option AsmFault) → front_fault [] before later ≡ o → or_else (front_fault [] before later) (branch_fault before later) ≡ or_else (front_fault [] before later) (branch_fault before (s ∷ later))
    by later (Some f) e = rw e refl
    by later None e = rw e (same_behind before (before ++ s ∷ []) later (no_label s none before) ∙ sym (ap (λ o. or_else o (branch_fault (before ++ s ∷ []) later)) (own later e)))

some_of : {o : Option AsmFault} {A : Type 0} → is_some o ≡ true → o ≡ None → A
some_of {o = Some f} s e = absurd cc
some_of {o = None} s e = absurd cc

-- a branch behind one that leads back
pub behind_one_back : (before : List Statement) (s : Statement) → s.label ≡ None → ((later : List Statement) → is_some (front_fault [] before later) ≡ true) → IsNeedless before s
behind_one_back before s none back = without before s none (λ later e. some_of (back later) e)

is_some-first : (o p : Option AsmFault) → is_some o ≡ true → is_some (or_else o p) ≡ true
is_some-first (Some x) p i = refl
is_some-first None p i = absurd cc

is_some-else : (o p : Option AsmFault) → is_some p ≡ true → is_some (or_else o p) ≡ true
is_some-else (Some f) p e = refl
is_some-else None p e = e

-- a branch to a label that stands nowhere has a fault
missing : (name : Word) (line : ℕ) (label : Option Word) (before later : List Statement) → option_map_or (λ l. bytes_eq name l) label false ≡ true → list_any (has_label name) before ≡ false → list_any (has_label name) later ≡ false
    → is_some (own_fault line label before later) ≡ true
missing name line None before later e f g = absurd cc
missing name line (Some label) before later e f g =
    let same : name ≡ label = (bytes_eq-Decides name label).0 e in
    let in_front : list_any (has_label label) before ≡ false = ap (λ n. list_any (has_label n) before) (sym same) ∙ f in
    let behind : list_any (has_label label) later ≡ false = ap (λ n. list_any (has_label n) later) (sym same) ∙ g in
    rw (in_front, behind) refl

waits : (name : Word) (before ss later : List Statement) → list_any (jumps_to name) ss ≡ true → list_any (has_label name) before ≡ false → list_any (has_label name) ss ≡ false → list_any (has_label name) later ≡ false
    → is_some (front_fault before ss later) ≡ true
waits name before [] later e f g h = absurd cc
waits name before (s ∷ ss) later e f g h = by (jumps_to name s) refl (waits name (before ++ s ∷ []) ss later)
  where
    front : list_any (has_label name) (before ++ s ∷ []) ≡ false
    front = list_any-push (has_label name) before s ∙ ap (λ b. b || has_label name s) f ∙ (or_parts (has_label name s) (list_any (has_label name) ss) g).0

    behind : list_any (has_label name) (ss ++ later) ≡ false
    behind = labels-append name ss later ∙ ap (λ b. b || list_any (has_label name) later) (or_parts (has_label name s) (list_any (has_label name) ss) g).1 ∙ h

    by : (b : Bool) → jumps_to name s ≡ b → (list_any (jumps_to name) ss ≡ true → list_any (has_label name) (before ++ s ∷ []) ≡ false → list_any (has_label name) ss ≡ false → list_any (has_label name) later ≡ false → is_some (front_fault (before ++ s ∷ []) ss later) ≡ true)
        → is_some (or_else (own_fault s.line (branch_label s.command) (before ++ s ∷ []) (ss ++ later)) (front_fault (before ++ s ∷ []) ss later)) ≡ true
    by true i more = is_some-first (own_fault s.line (branch_label s.command) (before ++ s ∷ []) (ss ++ later)) (front_fault (before ++ s ∷ []) ss later) (missing name s.line (branch_label s.command) (before ++ s ∷ []) (ss ++ later) i front behind)
    by false i more =
        is_some-else (own_fault s.line (branch_label s.command) (before ++ s ∷ []) (ss ++ later)) (front_fault (before ++ s ∷ []) ss later)
        (more (sym (ap (λ b. b || list_any (jumps_to name) ss) i) ∙ e) front (or_parts (has_label name s) (list_any (has_label name) ss) g).1 h)

-- a branch behind one to the same label, where this does not stand yet
pub behind_one_that_waits : (before : List Statement) (s : Statement) (name : Word) → s.label ≡ None → branch_label s.command ≡ Some name → list_any (jumps_to name) before ≡ true → list_any (has_label name) before ≡ false → IsNeedless before s
behind_one_that_waits before s name none is jumps stands = without before s none own
  where
    front : list_any (has_label name) (before ++ s ∷ []) ≡ false
    front = sym (no_label s none before name) ∙ stands

    own : (later : List Statement) → front_fault [] before later ≡ None → own_fault s.line (branch_label s.command) (before ++ s ∷ []) later ≡ None
    own later e = ap (λ l. own_fault s.line l (before ++ s ∷ []) later) is ∙ by (list_any (has_label name) later) refl
      where
        by : (b : Bool) → list_any (has_label name) later ≡ b → own_fault s.line (Some name) (before ++ s ∷ []) later ≡ None
        by true i = rw (front, i) refl
        by false i = some_of (waits name [] before later jumps refl stands i) e

-- a statement that is no branch
pub no_branch : (before : List Statement) (s : Statement) → s.label ≡ None → branch_label s.command ≡ None → IsNeedless before s
no_branch before s none straight = without before s none (λ later e. ap (λ l. own_fault s.line l (before ++ s ∷ []) later) straight)

-- ---- what a body knows, with one statement more

either : (a b : Bool) {P : Type 0} → (a || b) ≡ true → (a ≡ true → P) → (b ≡ true → P) → P
either true b e f g = f refl
either false b e f g = g e

-- with one statement more, some statement branches to each of the targets
pub targets_more : (ss : List Statement) (s : Statement) (old new : List (Word × ℕ)) → ((name : Word) → is_some (lookup (bytes_eq name) old) ≡ true → list_any (jumps_to name) ss ≡ true)
    → ((name : Word) → is_some (lookup (bytes_eq name) new) ≡ true → (is_some (lookup (bytes_eq name) old) || jumps_to name s) ≡ true)
    → (name : Word) → is_some (lookup (bytes_eq name) new) ≡ true → list_any (jumps_to name) (ss ++ s ∷ []) ≡ true
targets_more ss s old new before is name e =
    list_any-push (jumps_to name) ss s
    ∙ either (is_some (lookup (bytes_eq name) old)) (jumps_to name s) (is name e)
    (λ there. ap (λ b. b || jumps_to name s) (before name there))
    (λ own. or_right (list_any (jumps_to name) ss) (jumps_to name s) own)

behind_label : (line : ℕ) (label : Option Word) (ss : List Statement) (s : Statement) (later : List Statement) → leads_back ss label ≡ true → is_some (own_fault line label (ss ++ s ∷ []) later) ≡ true
behind_label line None ss s later e = absurd cc
behind_label line (Some name) ss s later e =
    let there : list_any (has_label name) (ss ++ s ∷ []) ≡ true = list_any-push (has_label name) ss s ∙ ap (λ b. b || has_label name s) e in
    rw there refl

-- where a branch leads back, the branches have a fault, whatever stands behind them
pub back_more : (ss : List Statement) (s : Statement) (old new : Bool) → (old ≡ true → (later : List Statement) → is_some (front_fault [] ss later) ≡ true) → new ≡ (leads_back ss (branch_label s.command) || old)
    → new ≡ true → (later : List Statement) → is_some (front_fault [] (ss ++ s ∷ []) later) ≡ true
back_more ss s old new before is e later =
    ap is_some (front-push [] ss s later)
    ∙ either (leads_back ss (branch_label s.command)) old (sym is ∙ e)
    (λ back. is_some-else (front_fault [] ss (s ∷ later)) (own_fault s.line (branch_label s.command) (ss ++ s ∷ []) later) (behind_label s.line (branch_label s.command) ss s later back))
    (λ was. is_some-first (front_fault [] ss (s ∷ later)) (own_fault s.line (branch_label s.command) (ss ++ s ∷ []) later) (before was (s ∷ later)))

lookup-push : (p : Word → Bool) (xs : List (Word × ℕ)) (x : Word × ℕ) → is_some (lookup p (xs ++ x ∷ [])) ≡ (is_some (lookup p xs) || p x.0)
lookup-push p [] x = at_test (p x.0)
  where
    at_test : (b : Bool) → is_some (cond b (Some x.1) None) ≡ b
    at_test true = refl
    at_test false = refl
lookup-push p (y ∷ ys) x = at_test (p y.0) (lookup p (ys ++ x ∷ [])) (lookup p ys) (lookup-push p ys x)
  where
    at_test : (b : Bool) (o q : Option ℕ) → is_some o ≡ (is_some q || p x.0) → is_some (cond b (Some y.1) o) ≡ (is_some (cond b (Some y.1) q) || p x.0)
    at_test true o q e = refl
    at_test false o q e = e

-- with one target more, each target is an old one or that label
pub one_target_more : (label : Word) (number : ℕ) (old new : List (Word × ℕ)) → new ≡ old ++ (label, number) ∷ [] → (name : Word) → is_some (lookup (bytes_eq name) new) ≡ true → (is_some (lookup (bytes_eq name) old) || bytes_eq name label) ≡ true
one_target_more label number old new is name e = sym (ap (λ xs. is_some (lookup (bytes_eq name) xs)) is ∙ lookup-push (bytes_eq name) old (label, number)) ∙ e
