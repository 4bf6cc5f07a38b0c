-- The column of the sheet is the one that the text is over.
use Rattle.std.proofs.Common.{◌≡◌, IfOk, string_bytes, ap, ◌∙◌, subst}
use Rattle.sheets.specs.Viewed.{col}
use Rattle.answers.proofs.Sheets.{says_column, over_accounts, over_labels}
use Rattle.answers.proofs.sheet_text.bare.Goals as goal

pub returns-in-Accounts : goal.returns-in-Accounts
returns-in-Accounts c s says =
    subst (λ x. IfOk c.over.result (λ t. string_bytes t ≡ x))
    (over_accounts s c.in-Accounts.part (says_column c.args.sheet.now s says ∙ ap col c.in-Accounts.is))
    (c.over.ensures s says)

pub returns-in-Labels : goal.returns-in-Labels
returns-in-Labels c s says =
    subst (λ x. IfOk c.over-in-Labels.result (λ t. string_bytes t ≡ x))
    (over_labels s c.in-Labels.part (says_column c.args.sheet.now s says ∙ ap col c.in-Labels.is))
    (c.over-in-Labels.ensures s says)
