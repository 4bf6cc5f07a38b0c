-- Each exit, by what was read until then.
use Rattle.std.proofs.Common.{◌≡◌, Some, sym, refl, ap, arith}
use Rattle.sheets.specs.Fields.{told}
use Rattle.sheets.specs.Grammar.{state, step}
use Rattle.sheets.proofs.Readings.{none, no_first, no_directory, no_second, no_column, whole, bytes_fit}
use Rattle.sheets.proofs.Turns.{went, stayed}
use Rattle.sheets.proofs.sheet.Sheet.read.Goals as goal
use Rattle.sheets.proofs.sheet.Sheet.read.Goals.{In_ok-directory, In_ok-next}

first : (c : In_ok-directory) → Some (record { read = told c.in_ok-directory.field-0; then = state c.next.new.self }) ≡ step (state c.new-reader.result)
first c = went c.in_ok-directory.ensures.steps

second : (c : In_ok-next) → Some (record { read = told c.in_ok-next.field-0; then = state c.next-2.new.self }) ≡ step (state c.next.new.self)
second c = went c.in_ok-next.ensures.steps

pub returns-in_err-directory : goal.returns-in_err-directory
returns-in_err-directory c =
    let a = none c.args.bytes.now _ c.from_residual.ensures
    (no_first _ (omega arith) _ c.new-reader.ensures (stayed c.in_err-directory.ensures.steps)) in
    record { said = a.said; written = a.written }

pub returns-in_default : goal.returns-in_default
returns-in_default c =
    let a = none c.args.bytes.now _ refl
    (no_directory _ (omega arith) _ c.new-reader.ensures _ (first (goal.at.returns-in_default c).In_ok-directory) _ refl c.in_default.not-Directory) in
    record { said = a.said; written = a.written }

pub returns-in_err-next : goal.returns-in_err-next
returns-in_err-next c =
    let a = none c.args.bytes.now _ c.from_residual-in_err-next.ensures
    (no_second _ (omega arith) _ c.new-reader.ensures _ (first (goal.at.returns-in_err-next c).In_ok-directory)
    (stayed c.in_err-next.ensures.steps)) in
    record { said = a.said; written = a.written }

pub returns-in_err-column : goal.returns-in_err-column
returns-in_err-column c =
    let at = goal.at.returns-in_err-column c in
    let a = none c.args.bytes.now _ c.from_residual-in_err-column.ensures
    (no_column _ (omega arith) _ c.new-reader.ensures _ (first at.In_ok-directory) _ (second at.In_ok-next) c.in_err-column.ensures) in
    record { said = a.said; written = a.written }

pub returns : goal.returns
returns c =
    let at = goal.at.returns c in
    let a = whole c.args.bytes.now (omega arith) _ c.new-reader.ensures _ (first at.In_ok-directory) _ (second at.In_ok-next)
    (record { directory = c.in-Directory.directory; column = c.in_ok-column.column; calls = c.next-2.new.self })
    (bytes_fit c.args.bytes.now c.type_inv.bytes) (ap told (sym c.in-Directory.is)) c.in_ok-column.ensures refl
    _ c.checked.ensures in
    record { said = a.said; written = a.written }
