use Rattle.std.proofs.Common.{◌≡◌, ◌<◌, length, rules}
use Rattle.std.specs.List.{AllByRecursion}
use Rattle.std.proofs.ByRecursion.{All-from_get_or}
use Rattle.sheets.proofs.Bounds.{read_in_range}
use Rattle.sheets.proofs.reading.row_at.Goals as goal

pub returns : goal.returns
returns c =
    let slots = c.args.table.now.slots in
    let eight = c.args.eight.now in
    let long : length slots ≡ 64 = search rules in
    let whole : length eight ≡ 8 = search rules in
    let small : AllByRecursion (λ byte. byte < 256) eight = All-from_get_or (λ byte. byte < 256) eight 0 (λ k h. c.fits-eight k) in
    record {
      read = c.read_row.ensures;
      bounded = read_in_range slots c.args.at eight long whole small c.read_row.result c.read_row.ensures;
    }
