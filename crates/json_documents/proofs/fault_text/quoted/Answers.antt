use Rattle.std.proofs.Common.{◌∙◌, ap, subst, sym, true≢false, ◌++◌, [], ◌∷◌}
use Rattle.std.specs.Prelude.{IsOk}
use Rattle.std.specs.Str.{IsUtf8}
use Rattle.json.specs.Print.{print}
use Rattle.json.specs.Token.{string}
use Rattle.json_documents.proofs.SpelledNames.{printed_string}
use Rattle.json_documents.proofs.fault_text.quoted.Goals as goal

pub returns : goal.returns
returns c =
    (λ i. (c.in-Ok.ensures.ok i).items)
    ∙ printed_string c.into_inner.result.items c.string.new.self.before c.string.new.self.tokens c.args.name.now c.into_inner.ensures.items
    (c.string.ensures.room.0 ∙ (c.new-writer.ensures.before ∙ c.new.ensures.items))
    (c.in_ok-string.ensures.ok ∙ ap (λ ts. ts ++ string c.args.name.now ∷ []) c.new-writer.ensures.tokens)

pub unreachable-requires : goal.unreachable-requires
unreachable-requires c =
    let none_before = c.string.ensures.room.0 ∙ (c.new-writer.ensures.before ∙ c.new.ensures.items) in
    let is = c.into_inner.ensures.items ∙ ap (λ xs. xs ++ print c.string.new.self.tokens) none_before in
    let ok = c.from_utf8.ensures.succeeds (subst IsUtf8 (sym is) c.into_inner.ensures.utf8) in
    true≢false (sym (subst IsOk c.in-Err.is ok))
