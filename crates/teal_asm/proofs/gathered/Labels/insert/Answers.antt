use Rattle.std.proofs.Common.{◌≡◌, ◌++◌, ◌∷◌, [], None, map, ◌∙◌, ap}
use Rattle.std.specs.Map.{lookup}
use Rattle.std.specs.Str.{bytes_eq}
use Rattle.teal_asm.proofs.Gathering.{entry, label_inserted}
use Rattle.teal_asm.proofs.gathered.Labels.insert.Goals as goal

pub returns : goal.returns
returns c =
    let es = c.self.inside.table.entries in
    let named = c.in_ok-key.ensures.items in
    let absent : lookup (bytes_eq c.in_ok-key.key.items) (map entry es) ≡ None =
    ap (λ n. lookup (bytes_eq n) (map entry es)) named ∙ ap (lookup (bytes_eq c.args.name.now)) c.self.view_is ∙ c.requires in
    ap (map entry) c.in_ok-insert.ensures.entries ∙ label_inserted c.in_ok-key.key c.args.number es absent
    ∙ ap (λ ls. ls ++ (c.in_ok-key.key.items, c.args.number) ∷ []) c.self.view_is ∙ ap (λ n. c.args.self.now ++ (n, c.args.number) ∷ []) named
