use Rattle.std.proofs.Common.{◌≡◌, ◌≤◌, ◌++◌, length, take}
use Rattle.std.specs.Option.{option_map}
use Rattle.console.specs.Reading.{bytes_in}
use Rattle.console.proofs.digits.decode_sheet.Given as goal

-- what is left goes on from the bytes so far, as far as there is room
abbrev pub invariant-loop-left : goal.invariant-loop-left
invariant-loop-left l =
    (length l.sheet.items ≤ 2049) × (option_map (take 2049) (bytes_in l.digits) ≡ option_map (λ more. take 2049 (l.sheet.items ++ more)) (bytes_in l.left))

abbrev pub decreases-loop-left : goal.decreases-loop-left
decreases-loop-left l = length l.left
