use Rattle.std.proofs.Common.{◌∙◌, ap, subst}
use Rattle.base64.specs.GeneralPurpose.{IsBytes}
use Rattle.json_commands.specs.declared.texts.TheConstants.{BEGINNING, END}
use Rattle.json_commands.specs.Pages.{framed}
use Rattle.json_commands.proofs.page.finished.Goals as goal

pub returns-clause-page : goal.returns-clause-page
returns-clause-page c =
    let text = c.as_bytes.ensures.value ∙ c.in_ok-text.ensures in
    (c.in_ok-page.ensures.text ∙ ap (λ bytes. framed BEGINNING.now bytes END.now) text, subst IsBytes text c.in_ok-page.ensures.bytes)
