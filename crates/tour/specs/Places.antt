-- Where a mark lies, seen from a person: at or below, above or beside. Assumes nothing.
use Rattle.std.specs.Prelude.{ℕ, Bool, cond}
use Rattle.tour.specs.declared.place.Place.{Place}
use Rattle.tour.specs.declared.place.Place.TheVariants.{AtOrBelow, Above, Beside}

abbrev pub place_of : (ℕ → ℕ → Bool) → ℕ → ℕ → Place
place_of flows mark person = cond (flows mark person) AtOrBelow (cond (flows person mark) Above Beside)
