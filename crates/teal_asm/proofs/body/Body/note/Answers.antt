use Rattle.std.proofs.Common.{◌++◌, ◌∷◌, [], nat_eq, ◌||◌, ap, sym, ◌∙◌, zero-add, refl, arith}
use Rattle.std.specs.Str.{bytes_eq}
use Rattle.teal_source.specs.Statements.{distinct, gathered_uint, gathered_string, gathered_uints, gathered_strings, is_uint_block, is_byte_block}
use Rattle.teal_asm.specs.Thinned.{command_count}
use Rattle.teal_asm.specs.Meaning.{labels_from, label_entry}
use Rattle.teal_asm.proofs.Bodies.{uints-push, strings-push, list_any-push, labels-push, command_count-push, command_count-le, is_mixed, is_too_many, is_behind, few, is_fresh}
use Rattle.teal_asm.proofs.Needless.{back_more, targets_more}
use Rattle.teal_asm.proofs.Thinning.{no_new_block, nothing_new, thins_dropped}
use Rattle.teal_asm.proofs.body.Body.note.Goals as goal

pub returns-then-mixes_blocks-clause-notes : goal.returns-then-mixes_blocks-clause-notes
returns-then-mixes_blocks-clause-notes c =
    let b = c.requires.body in
    let ss = c.args.self.now.statements.items in
    let s = c.args.statement.now in
    is_mixed ss s _ _ _ _ (record {
      uints_are = c.in_ok-gather.ensures.uints ∙ ap (λ us. distinct nat_eq us (gathered_uint s.command)) b.uints ∙ sym (uints-push ss s);
      strings_are = c.in_ok-gather.ensures.strings ∙ ap (λ us. distinct bytes_eq us (gathered_string s.command)) b.strings ∙ sym (strings-push ss s);
      uint_block_is = c.with_uint_block-self.ensures ∙ ap (λ x. x || is_uint_block s.command) b.uint_block ∙ sym (list_any-push (λ t. is_uint_block t.command) ss s);
      byte_block_is = c.with_byte_block-self.ensures ∙ ap (λ x. x || is_byte_block s.command) b.byte_block ∙ sym (list_any-push (λ t. is_byte_block t.command) ss s);
    }) (sym c.if-mixes_blocks.ensures)

pub returns-then-gathers_too_many-clause-notes : goal.returns-then-gathers_too_many-clause-notes
returns-then-gathers_too_many-clause-notes c =
    let b = c.requires.body in
    let ss = c.args.self.now.statements.items in
    let s = c.args.statement.now in
    is_too_many ss s _ _ _ _ (record {
      uints_are = c.in_ok-gather.ensures.uints ∙ ap (λ us. distinct nat_eq us (gathered_uint s.command)) b.uints ∙ sym (uints-push ss s);
      strings_are = c.in_ok-gather.ensures.strings ∙ ap (λ us. distinct bytes_eq us (gathered_string s.command)) b.strings ∙ sym (strings-push ss s);
      uint_block_is = c.with_uint_block-self.ensures ∙ ap (λ x. x || is_uint_block s.command) b.uint_block ∙ sym (list_any-push (λ t. is_uint_block t.command) ss s);
      byte_block_is = c.with_byte_block-self.ensures ∙ ap (λ x. x || is_byte_block s.command) b.byte_block ∙ sym (list_any-push (λ t. is_byte_block t.command) ss s);
    }) (sym c.if-mixes_blocks.ensures) (sym c.if-gathers_too_many.ensures)

pub overflow_add-self : goal.overflow_add-self
overflow_add-self c =
    let ss = c.args.self.now.statements in
    omega (arith, c.commands_in.ensures.one, c.requires.body.commands, command_count-le ss.items, ss.ok.0, ss.small)

pub returns-clause-notes : goal.returns-clause-notes
returns-clause-notes c =
    let b = c.requires.body in
    let ss = c.args.self.now.statements.items in
    let s = c.args.statement.now in
    let short = few _ _ (sym c.if-gathers_too_many.ensures) in
    let whole = is_behind ss (ss ++ s ∷ []) s _ _ _ _ (record {
      uints_are = c.in_ok-gather.ensures.uints ∙ ap (λ us. distinct nat_eq us (gathered_uint s.command)) b.uints ∙ sym (uints-push ss s);
      strings_are = c.in_ok-gather.ensures.strings ∙ ap (λ us. distinct bytes_eq us (gathered_string s.command)) b.strings ∙ sym (strings-push ss s);
      uint_block_is = c.with_uint_block-self.ensures ∙ ap (λ x. x || is_uint_block s.command) b.uint_block ∙ sym (list_any-push (λ t. is_uint_block t.command) ss s);
      byte_block_is = c.with_byte_block-self.ensures ∙ ap (λ x. x || is_byte_block s.command) b.byte_block ∙ sym (list_any-push (λ t. is_byte_block t.command) ss s);
    }) (sym c.if-mixes_blocks.ensures) (sym c.if-gathers_too_many.ensures) refl in (
      whole,
      record {
        uints = c.in_ok-gather.ensures.uints ∙ ap (λ us. distinct nat_eq us (gathered_uint s.command)) b.uints ∙ sym (uints-push ss s);
        strings = c.in_ok-gather.ensures.strings ∙ ap (λ us. distinct bytes_eq us (gathered_string s.command)) b.strings ∙ sym (strings-push ss s);
        labels = c.in_ok-note_label.ensures ∙ ap (λ ls. ls ++ label_entry s.label c.args.self.now.commands) b.labels ∙ ap (λ n. labels_from 0 ss ++ label_entry s.label n) (b.commands ∙ sym (zero-add (command_count ss))) ∙ sym (labels-push 0 ss s);
        commands = omega (arith, c.commands_in.ensures.count, b.commands, command_count-push ss s);
        uint_block = c.with_uint_block-self.ensures ∙ ap (λ x. x || is_uint_block s.command) b.uint_block ∙ sym (list_any-push (λ t. is_uint_block t.command) ss s);
        byte_block = c.with_byte_block-self.ensures ∙ ap (λ x. x || is_byte_block s.command) b.byte_block ∙ sym (list_any-push (λ t. is_byte_block t.command) ss s);
        few_uints = short.0;
        few_strings = short.1;
        targets = targets_more ss s c.args.self.now.targets _ b.targets c.in_ok-note_target.ensures;
        leads_back = back_more ss s c.args.self.now.leads_back _ b.leads_back c.leads_back_with-leads_back.ensures;
      },
    )

pub note_label-requires : goal.note_label-requires
note_label-requires c = is_fresh c.args.self.now c.requires.body c.args.statement.now.label c.requires.fresh

pub returns-then-self-byte_block-clause-notes : goal.returns-then-self-byte_block-clause-notes
returns-then-self-byte_block-clause-notes c =
    let b = c.requires.body in
    let ss = c.args.self.now.statements.items in
    let s = c.args.statement.now in
    let whole = is_behind ss (ss ++ s ∷ []) s _ _ _ _ (record {
      uints_are = c.in_ok-gather.ensures.uints ∙ ap (λ us. distinct nat_eq us (gathered_uint s.command)) b.uints ∙ sym (uints-push ss s);
      strings_are = c.in_ok-gather.ensures.strings ∙ ap (λ us. distinct bytes_eq us (gathered_string s.command)) b.strings ∙ sym (strings-push ss s);
      uint_block_is = c.with_uint_block-self.ensures ∙ ap (λ x. x || is_uint_block s.command) b.uint_block ∙ sym (list_any-push (λ t. is_uint_block t.command) ss s);
      byte_block_is = c.with_byte_block-self.ensures ∙ ap (λ x. x || is_byte_block s.command) b.byte_block ∙ sym (list_any-push (λ t. is_byte_block t.command) ss s);
    }) (sym c.if-mixes_blocks.ensures) (sym c.if-gathers_too_many.ensures) refl in
    let uints = nothing_new nat_eq c.args.self.now.uints.keys c.gather.new.uints.keys (gathered_uints ss) (gathered_uints (ss ++ s ∷ [])) (gathered_uint s.command) b.uints c.in_ok-gather.ensures.uints (uints-push ss s) (omega (arith, c.if-len-uints.true, c.len.ensures.len, c.len-uints.ensures.len)) in
    let strings = nothing_new bytes_eq c.args.self.now.strings c.gather.new.strings (gathered_strings ss) (gathered_strings (ss ++ s ∷ [])) (gathered_string s.command) b.strings c.in_ok-gather.ensures.strings (strings-push ss s) (omega (arith, c.if-len-strings.true, c.len-then-len-uints.ensures, c.len-strings.ensures)) in
    let uint_block = no_new_block c.args.self.now.has_uint_block c.with_uint_block-self.result _ _ (is_uint_block s.command) b.uint_block c.with_uint_block-self.ensures (list_any-push (λ t. is_uint_block t.command) ss s) c.if-self-uint_block.true in
    let byte_block = no_new_block c.args.self.now.has_byte_block c.with_byte_block-self.result _ _ (is_byte_block s.command) b.byte_block c.with_byte_block-self.ensures (list_any-push (λ t. is_byte_block t.command) ss s) c.if-self-byte_block.true in
    let short = few _ _ (sym c.if-gathers_too_many.ensures) in (
      (ss ++ s ∷ [], whole, thins_dropped ss s (c.is_needless-needless.ensures c.if-needless.true).1 (omega (arith, (c.is_needless-needless.ensures c.if-needless.true).0, b.commands)) uints.0 strings.0 uint_block.0 byte_block.0),
      record {
        uints = uints.1;
        strings = strings.1;
        labels = b.labels;
        commands = b.commands;
        uint_block = uint_block.1;
        byte_block = byte_block.1;
        few_uints = short.0;
        few_strings = short.1;
        targets = b.targets;
        leads_back = b.leads_back;
      },
    )
