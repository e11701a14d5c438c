-- The places that the code tells apart in a line, beside what the line has said. Only contracts of private functions cite them.
-- Assumes nothing.
use Rattle.std.specs.Prelude.{cond, ◌==◌}
use Rattle.roster.specs.declared.place.Place as code
use Rattle.roster.specs.declared.place.Place.TheVariants.{Start, Letter, Comma, Number, CommaAfter, Label}
use Rattle.roster.specs.declared.place.Step.{Step}
use Rattle.roster.specs.declared.place.Step.TheVariants.{Never, On, Whole}
use Rattle.roster.specs.Spelling.{person}
use Rattle.roster.specs.Reading.{Place, start, letter_of, comma, number, comma_after, label, Next, never, more, whole}

-- the place where a line is that has said so much
abbrev pub place_of : Place → code.Place
place_of start = Start
place_of (letter_of k) = Letter
place_of (comma k) = Comma
place_of (number k n) = Number (n == 0)
place_of (comma_after k n) = CommaAfter
place_of (label k n m) = Label (m == 0)

-- what some line that is at a place has said
abbrev pub some_line : code.Place → Place
some_line Start = start
some_line Letter = letter_of person
some_line Comma = comma person
some_line (Number z) = number person (cond z 0 1)
some_line CommaAfter = comma_after person 0
some_line (Label z) = label person 0 (cond z 0 1)

-- what the code says of the next byte
abbrev pub stepped : Next → Step
stepped never = Never
stepped (more p) = On (place_of p)
stepped (whole e) = Whole
