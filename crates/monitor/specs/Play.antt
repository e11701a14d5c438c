-- What becomes of a new box that takes a roster and then calls, one after the other. Assumes nothing.
use Rattle.std.specs.Prelude.{◌≡◌, ℕ, Bool, true, List, map, length, take, drop, Some, Ok, Err, Result}
use Rattle.labels.specs.Laws.{Code, Lawful}
use Rattle.table.specs.declared.table.Table.{Table}
use Rattle.table.specs.Slots.{value_at, label_at}
use Rattle.roster.specs.Reading.{roster_of}
use Rattle.roster.specs.declared.fault.RosterFault.{RosterFault}
use Rattle.noninterference.specs.Monitor.{Call, Answer, Monitor, answers, final}
use Rattle.noninterference.specs.Strike.{ChangedBy, strike, kept, Untraced}
use Rattle.monitor.specs.declared.call.Call as call
use Rattle.monitor.specs.declared.call.Answer as answer
use Rattle.monitor.specs.declared.fault.MonitorFault.{MonitorFault}
use Rattle.monitor.specs.declared.fault.MonitorFault.TheVariants.{Roster}
use Rattle.monitor.specs.Boxes.{box_of}
use Rattle.monitor.specs.Calls.{call_of, answer_of}

-- the calls that are made: as many as there are places for answers
abbrev pub made_calls : List call.Call → List answer.Answer → List Call
made_calls calls places = map call_of (take (length places) calls)

-- The monitor M answers the calls in their places, from the table before to the table after. Places past the last call stay as they are.
pub record Answered (M : Monitor) (before : Table) (calls : List call.Call) (places written : List answer.Answer) (after : Table) : Type 0 where
  pub answers_are : map answer_of (take (length calls) written) ≡ answers M before.slots (made_calls calls places)
  pub rest_stays : drop (length calls) written ≡ drop (length calls) places
  pub slots_are : after.slots ≡ final M before.slots (made_calls calls places)
  pub people_stay : after.people ≡ before.people
  pub labels_stay : label_at after.slots ≡ label_at before.slots

-- Given what is read of the roster: one that is refused is the answer, and no place is touched.
abbrev pub Played : {A : Type 0} → (Table → Monitor) → Result Table RosterFault → List call.Call → List answer.Answer → List answer.Answer → (A → Table) → Result A MonitorFault → Type 0
Played M (Ok listed) calls places written table_of (Ok box) = Answered (M listed) listed calls places written (table_of box)
Played M (Ok listed) calls places written table_of (Err why) = ⊥
Played M (Err fault) calls places written table_of (Ok box) = ⊥
Played M (Err fault) calls places written table_of (Err why) = (why ≡ Roster fault) × (written ≡ places)

-- The three laws of these calls, these answers to them and the table that they left: a slot that has not the value it began with was changed by a call
-- of a person at or below it; the calls that are left when others are struck out are answered as they would be alone; and every slot at or below the
-- chosen label ends as it would then.
pub record Unmarked (M : Monitor) (start : Table) (calls : List Call) (replies : List Answer) (end : Table) : Type 0 where
  pub changes : (i : ℕ) → ¬ (value_at end.slots i ≡ value_at start.slots i) → ChangedBy M i calls
  pub answered : (ℓ : ℕ) → Code ℓ → kept M ℓ calls replies ≡ answers M start.slots (strike M ℓ calls)
  pub ended : (ℓ : ℕ) → Code ℓ → (i l : ℕ) → M.labels i ≡ Some l → M.flows l ℓ ≡ true →
      value_at end.slots i ≡ value_at (final M start.slots (strike M ℓ calls)) i

-- Under any scheme that keeps the laws, calls on the box of an accepted roster leave no trace at a label that their callers are not at or below.
abbrev pub BoxesAreUntraced : Type 0
BoxesAreUntraced = (flows : ℕ → ℕ → Bool) (joins : ℕ → ℕ → ℕ) (bits : ℕ) → Lawful flows joins bits →
    (text : List ℕ) (listed : Table) → roster_of bits text ≡ Ok listed → Untraced (box_of flows joins bits listed) listed.slots
