-- Fourteen worked cases in one list: two of operations, nine of sheets, three of schemes. Assumes nothing.
--
-- The sheets are run in a box over a ladder of two levels, in which persons 0 and 1 and slots 0 and 1 have the labels 0 and 1.
use Rattle.std.specs.Prelude.{◌≡◌, ℕ, true, false, List, [], ◌∷◌, ◌++◌, replicate, ℤ, pos, negsuc, Some, None, Ok, codes}
use Rattle.std.proofs.Common.{inr}
use Rattle.labels.specs.Schemes.{ladder_flows, ladder_joins, ladder_bits, topics_flows, topics_joins, house_flows, house_joins, pair_flows, pair_joins}
use Rattle.operations.specs.Operations.{applied}
use Rattle.operations.specs.declared.operation.Operation.TheVariants.{Sum, Share, Differing}
use Rattle.table.specs.declared.table.Slot.{Slot}
use Rattle.table.specs.declared.table.Table.{Table}
use Rattle.table.specs.Slots.{blank}
use Rattle.roster.specs.Reading.{roster_of}
use Rattle.sheets.specs.Programs.{nil, while}
use Rattle.noninterference.specs.Monitor.{Answer, ran, refused, run, Monitor, step}
use Rattle.monitor.specs.Boxes.{box_of}

-- the slots, with the values v and w
abbrev pub slots : ℤ → ℤ → List Slot
slots v w = record { label = Some 0; value = v } ∷ record { label = Some 1; value = w } ∷ replicate 62 blank

-- the table that its roster lists
abbrev pub table : Table
table = record { people = Some 0 ∷ Some 1 ∷ replicate 14 None; slots = slots (pos 0) (pos 0) }

abbrev pub box : Monitor
box = box_of (ladder_flows 2) (ladder_joins 2) ladder_bits table

-- what comes of a run by a person, with so many turns, where the slots have the values v and w: the slots then, and the answer
abbrev pub run_by : ℕ → List ℕ → ℕ → ℤ → ℤ → List Slot × Answer
run_by person sheet turns v w = step box (slots v w) (run person sheet turns)

-- the run is refused for this fault at this row, and changes nothing
abbrev pub RefusedAt : ℕ → ℕ → ℕ → List ℕ → Type 0
RefusedAt number row person sheet =
    (turns : ℕ) (v w : ℤ) → ◌≡◌ {A = List Slot × Answer} (run_by person sheet turns v w) (slots v w, refused number row 0 0)

abbrev pub put_0_slot_1 : List ℕ
put_0_slot_1 = 0x02 ∷ 0x00 ∷ 0x00 ∷ 0x01 ∷ 0x00 ∷ 0x00 ∷ 0x00 ∷ 0x00 ∷ []

abbrev pub put_1_slot_0_plus_7 : List ℕ
put_1_slot_0_plus_7 = 0x02 ∷ 0x00 ∷ 0x01 ∷ 0x00 ∷ 0x00 ∷ 0x00 ∷ 0x00 ∷ 0x07 ∷ []

-- slot 0 becomes n
abbrev pub put_0 : ℕ → List ℕ
put_0 n = 0x01 ∷ 0x00 ∷ 0x00 ∷ 0x00 ∷ 0x00 ∷ 0x00 ∷ 0x00 ∷ n ∷ []

abbrev pub if_1 : List ℕ
if_1 = 0x04 ∷ 0x00 ∷ 0x00 ∷ 0x01 ∷ 0x00 ∷ 0x00 ∷ 0x00 ∷ 0x00 ∷ []

abbrev pub otherwise : List ℕ
otherwise = 0x05 ∷ 0x00 ∷ 0x00 ∷ 0x00 ∷ 0x00 ∷ 0x00 ∷ 0x00 ∷ 0x00 ∷ []

abbrev pub while_0 : List ℕ
while_0 = 0x06 ∷ 0x00 ∷ 0x00 ∷ 0x00 ∷ 0x00 ∷ 0x00 ∷ 0x00 ∷ 0x00 ∷ []

abbrev pub while_1 : List ℕ
while_1 = 0x06 ∷ 0x00 ∷ 0x00 ∷ 0x01 ∷ 0x00 ∷ 0x00 ∷ 0x00 ∷ 0x00 ∷ []

-- slot 0 becomes one less
abbrev pub lower_0 : List ℕ
lower_0 = 0x02 ∷ 0x01 ∷ 0x00 ∷ 0x00 ∷ 0x00 ∷ 0x00 ∷ 0x00 ∷ 0x01 ∷ []

abbrev pub end : List ℕ
end = 0x07 ∷ 0x00 ∷ 0x00 ∷ 0x00 ∷ 0x00 ∷ 0x00 ∷ 0x00 ∷ 0x00 ∷ []

abbrev pub three_rounds : List ℕ
three_rounds = put_0 3 ++ while_0 ++ lower_0 ++ end

pub record WorkedCases : Type 0 where
  -- the box is that of a roster
  pub rostered : roster_of ladder_bits (codes "P,0,0\nP,1,1\nS,0,0\nS,1,1\n") ≡ Ok table
  -- share of -7 by 2 is -4, 5 by 2 is 3, 1 by 3 is 0, 5 by 0 is 0
  pub shares : (applied Share (negsuc 6) (pos 2) ≡ negsuc 3) × (applied Share (pos 5) (pos 2) ≡ pos 3) × (applied Share (pos 1) (pos 3) ≡ pos 0) × (applied Share (pos 5) (pos 0) ≡ pos 0)
  -- 0 and -1 differ in 32 bits
  pub differs : applied Differing (pos 0) (negsuc 0) ≡ pos 32
  -- what is above may not be copied down
  pub copies_down : RefusedAt 31 0 0 put_0_slot_1
  -- what is below may be used above: slot 1 is slot 0 plus 7, and no turn is taken
  pub copies_up : (turns : ℕ) (v w : ℤ) → ◌≡◌ {A = List Slot × Answer} (run_by 0 put_1_slot_0_plus_7 turns v w) (slots v (applied Sum v (pos 7)), ran 0)
  -- a person above may not write below
  pub writes_down : RefusedAt 31 0 1 (put_0 5)
  -- nor may a row below be reached or not by what is above, in either branch
  pub first_branch : RefusedAt 31 1 0 (if_1 ++ put_0 1 ++ end)
  pub second_branch : RefusedAt 31 2 0 (if_1 ++ otherwise ++ put_0 1 ++ end)
  -- a loop on what is above the runner is refused; for a runner with the label 1 it passes, whatever slot 1 holds, and with slot 1 at 0 takes no turn
  pub loops_above : RefusedAt 32 0 0 (while_1 ++ end)
  pub loop_checked : (box.people 1 ≡ Some 1) × (box.check 1 (while_1 ++ end) ≡ inr (while 1 nil nil))
  pub loop_passes : (turns : ℕ) (v : ℤ) → ◌≡◌ {A = List Slot × Answer} (run_by 1 (while_1 ++ end) turns v (pos 0)) (slots v (pos 0), ran 0)
  -- three rounds take three turns; with two the run is cut, and slot 0 is as it was
  pub enough_turns : (v w : ℤ) → ◌≡◌ {A = List Slot × Answer} (run_by 0 three_rounds 3 v w) (slots (pos 0) w, ran 3)
  pub too_few_turns : (v w : ℤ) → ◌≡◌ {A = List Slot × Answer} (run_by 0 three_rounds 2 v w) (slots v w, refused 33 0 0 2)
  -- three topics (low) and a ladder of four (high): the join of 9 and 18 is 19, and 9 is not at or below 18
  pub pair : (pair_joins (topics_joins 3) 3 (ladder_joins 4) ladder_bits 9 18 ≡ 19) × (pair_flows (topics_flows 3) 3 (ladder_flows 4) ladder_bits 9 18 ≡ false)
  -- a house of two: the join of 2 and 4 is 6, and 9 is at or below 0
  pub house : (house_joins 2 2 4 ≡ 6) × (house_flows 2 9 0 ≡ true)
  -- a ladder of four: the join of 200 and 1 is 3
  pub ladder : ladder_joins 4 200 1 ≡ 3
