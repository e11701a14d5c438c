-- A call on the box at the window, and what stays. Assumes nothing.
use Rattle.std.proofs.Common.{◌≡◌, ℕ, List, Some, None, Option, refl, ap, ◌∙◌, subst, ap₂}
use mathlib.Core.Path.{fun_ext}
use Rattle.labels.specs.Schemes.{topics_flows, topics_joins, ladder_flows, ladder_joins, ladder_bits, pair_flows, pair_joins, pair_bits}
use Rattle.table.specs.declared.table.Slot.{Slot}
use Rattle.table.specs.declared.table.Table.{Table}
use Rattle.table.specs.Slots.{label_at, person_at}
use Rattle.noninterference.specs.Monitor.{Call, Answer, Monitor}
use Rattle.monitor.proofs.Labels.{step_keeps}
use Rattle.monitor.specs.Boxes.{Stepped, monitor_of}
use Rattle.console.specs.Scheme.{window_flows, window_joins, window_bits, window_of}
use Rattle.console.specs.Turns.{slots_after, Turned}

pub at_window : {t l : ℕ} {before after : Table} {call said : Call} {answer : Answer} → t ≡ 3 → l ≡ 4 → call ≡ said →
    Stepped (pair_flows (topics_flows t) t (ladder_flows l) ladder_bits) (pair_joins (topics_joins t) t (ladder_joins l) ladder_bits) (pair_bits t ladder_bits) before call answer after →
    Stepped window_flows window_joins window_bits before said answer after
at_window {l = l} {before = before} {after = after} {call = call} {answer = answer} te le ce h =
    let Of : ℕ → ℕ → Call → Type 0 =
    λ t l c. Stepped (pair_flows (topics_flows t) t (ladder_flows l) ladder_bits) (pair_joins (topics_joins t) t (ladder_joins l) ladder_bits) (pair_bits t ladder_bits) before c answer after in
    subst (Of 3 4) ce (subst (λ (x : ℕ). Of 3 x call) le (subst (λ (x : ℕ). Of x l call) te h))

-- a line changes no label
after_keeps : (M : Monitor) (s : List Slot) (line : Option Call) (j : ℕ) → label_at (slots_after M s line) j ≡ label_at s j
after_keeps M s None j = refl
after_keeps M s (Some call) j = step_keeps s j M call

-- so the box stays the same
pub same_box : {before after : Table} {line : Option Call} {text : List ℕ} → Turned before line text after → window_of after ≡ window_of before
same_box {before} {after} {line} t =
    let labels : label_at after.slots ≡ label_at before.slots =
    ap label_at t.slots ∙ fun_ext (after_keeps (window_of before) before.slots line) in
    ap₂ (λ (people : List (Option ℕ)) (labels : ℕ → Option ℕ). monitor_of window_flows window_joins window_bits (person_at people) labels) t.people labels
