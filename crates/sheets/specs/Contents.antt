-- What a sheet holds. Assumes nothing.
use Rattle.std.specs.Prelude.{List}
use Rattle.rows.specs.declared.row.Row.{Row}
use Rattle.sheets.specs.declared.sheet.Sheet.{Sheet}

-- the rows of a sheet, in order
abbrev pub rows_of : Sheet → List Row
rows_of sheet = sheet.rows.items
