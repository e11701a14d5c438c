use Rattle.std.proofs.Common.{◌<◌, List, Result, subst}
use Rattle.std.specs.List.{AllByRecursion}
use Rattle.std.proofs.ByRecursion.{All-from_get_or}
use Rattle.table.specs.Slots.{listed}
use Rattle.rows.specs.declared.row.Row.{Row}
use Rattle.sheets.specs.Contents.{rows_of}
use Rattle.sheets.specs.Reading.{Made}
use Rattle.sheets.specs.declared.fault.SheetFault.{SheetFault}
use Rattle.sheets.proofs.Assembling.{sheet_read}
use Rattle.sheets.proofs.Meanings.{made_means}
use Rattle.sheets.proofs.sheet.Sheet.read.Goals as goal

pub returns : goal.returns
returns c =
    let lists = listed c.args.table.now.slots in
    let bytes = c.args.bytes.now in
    let small : AllByRecursion (λ byte. byte < 256) bytes = All-from_get_or (λ byte. byte < 256) bytes 0 (λ k h. (c.type_inv.bytes k).fits) in
    let same = sheet_read lists bytes c.in_ok-eights.eights.now c.in_ok-eights.ensures.0 c.in_ok-eights.ensures.1 in
    let made = subst (λ (read : Result (List Row) SheetFault). Made read rows_of c.read_rows.result) same c.read_rows.ensures in
    record { read = made; means = made_means lists bytes rows_of small c.read_rows.result made }
