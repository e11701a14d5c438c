-- What the calls come to, from what the code finds on its way. Assumes nothing.
use Rattle.std.proofs.Common.{◌≡◌, ℕ, zero, suc, List, [], ◌∷◌, ℤ, Some, None, Ok, Err, Option, Result, sym, refl, ap, subst, arith}
use Rattle.table.specs.declared.table.Slot.{Slot}
use Rattle.table.specs.declared.table.Table.{Table}
use Rattle.table.specs.Slots.{value_at, label_at, put}
use Rattle.rows.specs.declared.row.Row.{Row}
use Rattle.sheets.specs.Programs.{listing}
use Rattle.running.specs.declared.entry.Cut.{Cut}
use Rattle.running.specs.Running.{Outcome, done, cut, exec}
use Rattle.running.specs.Entry.{ran, Run}
use Rattle.running.proofs.Rules.{rules_agree}
use Rattle.noninterference.specs.Monitor.{Monitor}
use Rattle.table.proofs.Puts.{size_put, value_put_other, label_put}
use Rattle.monitor.specs.declared.fault.MonitorFault.{MonitorFault}
use Rattle.monitor.specs.declared.fault.MonitorFault.TheVariants.{NoPerson, NoSlot}
use Rattle.monitor.specs.declared.fault.MonitorFault.TheVariants as fault
use Rattle.monitor.specs.Access.{both_labels}
use Rattle.monitor.specs.Passing.{Passes}
use Rattle.monitor.specs.Vetting.{TurnedAway}
use Rattle.monitor.specs.Told.{Laid, LayTold, ViewTold, RunTold}

-- the person is not listed, or else the slot is not
missing : (P : MonitorFault → Type 0) (who slot : Option ℕ) (f : MonitorFault) → Err f ≡ both_labels who slot →
    (who ≡ None → P NoPerson) → ((p : ℕ) → who ≡ Some p → slot ≡ None → P NoSlot) → P f
missing P None slot f e nobody nothing = let same : NoPerson ≡ f = cc in subst P same (nobody refl)
missing P (Some p) None f e nobody nothing = let same : NoSlot ≡ f = cc in subst P same (nothing p refl refl)
missing P (Some p) (Some l) f e nobody nothing = let z : ◌≡◌ {A = ℕ} 0 1 = cc in absurd (omega arith)

pub lay_missing : (M : Monitor) (before : Table) (n i : ℕ) (v : ℤ) (f : MonitorFault) → Err f ≡ both_labels (M.people n) (M.labels i) → LayTold M before n i v (Err f) before
lay_missing M before n i v f e = missing (λ why. LayTold M before n i v (Err why) before) (M.people n) (M.labels i) f e LayTold.no_person (λ p. LayTold.no_slot)

pub view_missing : (M : Monitor) (before : Table) (n i : ℕ) (f : MonitorFault) → Err f ≡ both_labels (M.people n) (M.labels i) → ViewTold M before n i (Err f)
view_missing M before n i f e = missing (λ why. ViewTold M before n i (Err why)) (M.people n) (M.labels i) f e ViewTold.no_person (λ p. ViewTold.no_slot)

-- both are listed
pub found : (who slot : Option ℕ) (p l : ℕ) → Ok (p, l) ≡ both_labels who slot → (who ≡ Some p) × (slot ≡ Some l)
found None slot p l e = let z : ◌≡◌ {A = ℕ} 0 1 = cc in absurd (omega arith)
found (Some q) None p l e = let z : ◌≡◌ {A = ℕ} 0 1 = cc in absurd (omega arith)
found (Some q) (Some m) p l e = let same : ◌≡◌ {A = ℕ × ℕ} (q, m) (p, l) = cc in (ap (λ (x : ℕ × ℕ). Some x.0) same, ap (λ (x : ℕ × ℕ). Some x.1) same)

-- a slot that is listed has what is put there
put_there : (s : List Slot) (i l : ℕ) (v : ℤ) → label_at s i ≡ Some l → value_at (put s i v) i ≡ v
put_there [] i l v e = let z : ◌≡◌ {A = ℕ} 0 1 = cc in absurd (omega arith)
put_there (x ∷ s) zero l v e = refl
put_there (x ∷ s) (suc i) l v e = put_there s i l v e

pub put_lays : (before after : Table) (i l : ℕ) (v : ℤ) → label_at before.slots i ≡ Some l → after.slots ≡ put before.slots i v → after.people ≡ before.people → Laid before i v after
put_lays before after i l v listed same people =
    let s = before.slots in
    rw same
    (record {
      value_there = put_there s i l v listed;
      others_stay = λ j other. value_put_other s i j v other;
      labels_stay = λ j. label_put s i j v;
      size_stays = size_put s i v;
      people_stay = people;
    })

-- ---- a run

-- how an answer to a run is passed on
abbrev pub passed_on : Result ℕ Cut → Result ℕ MonitorFault
passed_on (Ok taken) = Ok taken
passed_on (Err f) = Err (fault.Cut f.turns)

module _ (M : Monitor) (before : Table) (n : ℕ) (bytes : List ℕ) (turns p : ℕ) (who : M.people n ≡ Some p) where
  pub turned_away : (f : MonitorFault) → TurnedAway M p bytes f → RunTold M before n bytes turns (Err f) before
  turned_away _ (TurnedAway.not_read refused) = RunTold.not_read who refused
  turned_away _ (TurnedAway.not_passed b written against) = RunTold.not_passed b who written against

  -- a block that passes is run
  module _ (w : Passes M.flows M.joins M.labels p bytes) where
    abbrev Told : Result ℕ Cut × Table → Type 0
    Told x = RunTold M before n bytes turns (passed_on x.0) x.1

    came_to : (o : Outcome) → exec w.block before.slots turns ≡ o → Told (ran o before turns)
    came_to (done slots left) e = RunTold.ran w.block who w.written w.typed ((rules_agree w.block before.slots turns (done slots left)).1 e) refl
    came_to cut e = RunTold.was_cut w.block who w.written w.typed ((rules_agree w.block before.slots turns cut).1 e)

    pub was_run : (rows : List Row) → listing w.block ≡ rows → (answer : Result ℕ Cut) (after : Table) → Run rows before turns answer after → RunTold M before n bytes turns (passed_on answer) after
    was_run rows lists answer after r = subst Told (sym (r.every w.block lists)) (came_to (exec w.block before.slots turns) refl)
