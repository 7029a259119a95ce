-- Objects of which members may be left out: which is found under a name, and that the names are known.
use Rattle.std.proofs.Common.{◌≡◌, ℕ, Bool, true, false, cond, List, [], ◌∷◌, ◌++◌, if◌then◌else◌, Option, Some, None, Result, Ok, refl, sym, ap, ◌∙◌}
use Rattle.std.specs.List.{list_all}
use Rattle.std.proofs.lemmas.Bool.{and_parts}
use Rattle.std.specs.Str.{bytes_eq}
use Rattle.json.specs.Json.{Json}
use Rattle.json.specs.Find.{get_member, is_null, later_or}
use Rattle.json_documents.specs.Faults.{Fault, in_step}
use Rattle.json_documents.specs.Members.{is_among, reject_unknown, least_unknown, lesser, member, required, needed_in, optional, optional_in, unless_null, unless_unknown}
use Rattle.json_documents.specs.Steps.{at_name}
use Rattle.json_views.specs.Documents.{Member, members_of, object_of}
use Rattle.json_views.specs.ShownCalls.{if_not}

-- a name, and the value where it is there
abbrev pub Place : Type 0
Place = List ℕ × Option Json

-- a member that may be there, before others
abbrev present_with : List ℕ → Option Json → List Member → List Member
present_with name None more = more
present_with name (Some j) more = (name, j) ∷ more

-- the members that are there
abbrev pub present : List Place → List Member
present [] = []
present (p ∷ ps) = present_with p.0 p.1 (present ps)

-- what is there under a name
abbrev pub under : List ℕ → List Place → Option Json
under name [] = None
under name (p ∷ ps) = cond (bytes_eq p.0 name) (later_or (under name ps) p.1) (under name ps)

nothing_earlier : (o : Option Json) → later_or o None ≡ o
nothing_earlier None = refl
nothing_earlier (Some j) = refl

found_with : (name first : List ℕ) (o : Option Json) (ms : List Member) (more : Option Json) → get_member name (members_of ms) ≡ more
    → (b : Bool) → bytes_eq first name ≡ b → get_member name (members_of (present_with first o ms)) ≡ cond b (later_or more o) more
found_with name first None ms more e true is = e ∙ sym (nothing_earlier more)
found_with name first None ms more e false is = e
found_with name first (Some j) ms more e true is = ap (λ b. later_or (get_member name (members_of ms)) (cond b (Some j) None)) is ∙ ap (λ o. later_or o (Some j)) e
found_with name first (Some j) ms more e false is = ap (λ b. later_or (get_member name (members_of ms)) (cond b (Some j) None)) is ∙ nothing_earlier _ ∙ e

found : (name : List ℕ) (ps : List Place) → get_member name (members_of (present ps)) ≡ under name ps
found name [] = refl
found name (p ∷ ps) = found_with name p.0 p.1 (present ps) (under name ps) (found name ps) (bytes_eq p.0 name) refl

-- their names are among these
abbrev pub are_among : List (List ℕ) → List Place → Bool
are_among names ps = list_all (λ p. is_among names p.0) ps

none_unknown_with : (names : List (List ℕ)) (name : List ℕ) (o : Option Json) (ms : List Member) → is_among names name ≡ true
    → least_unknown names (members_of ms) ≡ None → least_unknown names (members_of (present_with name o ms)) ≡ None
unfolding least_unknown
none_unknown_with names name None ms is e = e
none_unknown_with names name (Some j) ms is e = ap (λ b. cond b (least_unknown names (members_of ms)) (lesser name (least_unknown names (members_of ms)))) is ∙ e

none_unknown : (names : List (List ℕ)) (ps : List Place) → are_among names ps ≡ true → least_unknown names (members_of (present ps)) ≡ None
unfolding least_unknown
none_unknown names [] h = refl
none_unknown names (p ∷ ps) h =
    let parts = and_parts (is_among names p.0) (are_among names ps) h in
    none_unknown_with names p.0 p.1 (present ps) parts.0 (none_unknown names ps parts.1)

-- an object of members whose names are among these has no unknown name
pub all_known : (names : List (List ℕ)) (ps : List Place) → are_among names ps ≡ true → reject_unknown names (object_of (present ps)) ≡ Ok tt
all_known names ps h = ap unless_unknown (none_unknown names ps h)

-- ---- members that may be left out

-- what is left out where it is empty
abbrev pub unless : Bool → Json → Option Json
unless empty j = if empty then None else Some j

-- a member that is left out where it is empty is one that may be there, in front of others
pub in_front : (empty : Bool) (name : List ℕ) (j : Json) (more : List Member) → if_not empty name j ++ more ≡ present_with name (unless empty j) more
in_front true name j more = refl
in_front false name j more = refl

-- the member of a name that is read
pub member_of : (name : List ℕ) (ps : List Place) (o : Option Json) → under name ps ≡ o → member name (object_of (present ps)) ≡ unless_null o
member_of name ps o is = ap unless_null (found name ps ∙ is)

-- what a member is read as, where it is there and no `null`
pub needed_back : {A : Type 0} (name : List ℕ) (meaning : Json → Result A Fault) (x : A) (ps : List Place) (j : Json) → under name ps ≡ Some j → is_null j ≡ false → meaning j ≡ Ok x
    → required name meaning (object_of (present ps)) ≡ Ok x
needed_back name meaning x ps j is other e =
    ap (needed_in name meaning) (member_of name ps (Some j) is ∙ ap (λ b. if b then None else Some j) other) ∙ ap (in_step (at_name name)) e

-- what is read of one that is left out where it is the default
pub optional_back : {A : Type 0} (name : List ℕ) (meaning : Json → Result A Fault) (default x : A) (ps : List Place) (empty : Bool) (j : Json)
    → under name ps ≡ unless empty j → is_null j ≡ false → (empty ≡ true → default ≡ x) → meaning j ≡ Ok x → optional name meaning default (object_of (present ps)) ≡ Ok x
optional_back name meaning default x ps true j is other same e = ap (optional_in name meaning default) (member_of name ps None is) ∙ ap Ok (same refl)
optional_back name meaning default x ps false j is other same e =
    ap (optional_in name meaning default) (member_of name ps (Some j) is ∙ ap (λ b. if b then None else Some j) other) ∙ ap (in_step (at_name name)) e
