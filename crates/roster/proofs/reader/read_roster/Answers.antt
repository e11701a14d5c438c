use Rattle.std.proofs.Common.{◌≡◌, ℕ, List, Err, Result, sym, subst, rules}
use Rattle.table.specs.declared.table.Table.{Table}
use Rattle.roster.specs.declared.fault.RosterFault.{RosterFault}
use Rattle.roster.specs.declared.fault.RosterFault.TheVariants.{TooLong}
use Rattle.roster.specs.Reading.{roster_of}
use Rattle.roster.specs.Told.{Tells}
use Rattle.roster.proofs.Exactly.{exact}
use Rattle.roster.proofs.reader.read_roster.Goals as goal

-- what is read is told
tells : (w : ℕ) (text : List ℕ) (r : Result Table RosterFault) → r ≡ roster_of w text → Tells w text r
tells w text r e = subst (Tells w text) (sym e) (exact.told w text)

pub returns-then-is_long : goal.returns-then-is_long
returns-then-is_long c =
    let v : Err TooLong ≡ roster_of c.args.width c.args.text.now = search rules in
    record { value = v; told = tells c.args.width c.args.text.now (Err TooLong) v }

pub returns : goal.returns
returns c =
    let v : c.read_lines.result ≡ roster_of c.args.width c.args.text.now = search rules in
    record { value = v; told = tells c.args.width c.args.text.now c.read_lines.result v }
