-- In the box at the window struck calls leave no trace. Assumes nothing.
use Rattle.std.proofs.Common.{◌≡◌, ℕ, Bool, true, false, cond, List, [], ◌∷◌, length, Some, None, Option, sym, refl, ap, ◌∙◌, arith}
use Rattle.std.proofs.lemmas.Bool.Decides.{nat_tests}
use Rattle.labels.specs.Laws.{Code, Lawful}
use Rattle.labels.specs.Schemes.{any_topic, ladder_flows, ladder_joins, ladder_bits}
use Rattle.labels.specs.Inclusion.{counted_lawful}
use Rattle.labels.specs.Pairs.{pair_lawful}
use Rattle.table.specs.declared.table.Slot.{Slot}
use Rattle.noninterference.specs.Monitor.{Call, Answer, Monitor, answers}
use Rattle.noninterference.specs.Strike.{stays, strike, kept, Untraced}
use Rattle.noninterference.proofs.Calls.{one_by_one}
use Rattle.monitor.proofs.Soundness.{boxes_are_untraced}
use Rattle.console.specs.Lines.{roster_part}
use Rattle.console.specs.Scheme.{window_flows, window_joins, window_bits, window_of}
use Rattle.console.specs.Console.{calls_of, answer_line, faulty_line, reply_lines, replies}
use Rattle.console.specs.Struck.{strike_lines, kept_lines, LeavesNoTrace}

ladder_lawful : Lawful (ladder_flows 4) (ladder_joins 4) ladder_bits
ladder_lawful = record {
  reflexive = λ a _. grind (arith, nat_tests);
  transitive = λ a b c _ _ _ p q. grind (arith, nat_tests);
  join_left = λ a b _ _. grind (arith, nat_tests);
  join_right = λ a b _ _. grind (arith, nat_tests);
  join_least = λ a b c _ _ _ p q. grind (arith, nat_tests);
  bottom = λ a _. grind (arith, nat_tests);
  some_bits = omega arith;
  few_bits = omega arith;
  join_fits = λ a b _ _. omega arith;
}

window_lawful : Lawful window_flows window_joins window_bits
window_lawful = pair_lawful (counted_lawful 3 any_topic (omega arith) (omega arith)) ladder_lawful

-- ---- lines, as it is for calls

module _ (M : Monitor) (ℓ : ℕ) where
  calls_struck : (lines : List (Option Call)) → calls_of (strike_lines M ℓ lines) ≡ strike M ℓ (calls_of lines)
  calls_struck [] = refl
  calls_struck (None ∷ lines) = calls_struck lines
  calls_struck (Some call ∷ lines) = go (stays M ℓ call) (calls_struck lines)
    where
      go : (z : Bool) → calls_of (strike_lines M ℓ lines) ≡ strike M ℓ (calls_of lines) →
          calls_of (cond z (Some call ∷ strike_lines M ℓ lines) (strike_lines M ℓ lines)) ≡ cond z (call ∷ strike M ℓ (calls_of lines)) (strike M ℓ (calls_of lines))
      go true ih = ap (λ (calls : List Call). call ∷ calls) ih
      go false ih = ih

  replies_kept : (lines : List (Option Call)) (replied : List Answer) → length replied ≡ length (calls_of lines) →
      kept_lines M ℓ lines (reply_lines lines replied) ≡ reply_lines (strike_lines M ℓ lines) (kept M ℓ (calls_of lines) replied)
  replies_kept [] replied e = refl
  replies_kept (None ∷ lines) replied e = ap (λ (texts : List (List ℕ)). faulty_line ∷ texts) (replies_kept lines replied e)
  replies_kept (Some call ∷ lines) [] e = absurd (omega (arith, e))
  replies_kept (Some call ∷ lines) (answer ∷ replied) e = go (stays M ℓ call) (replies_kept lines replied (omega (arith, e)))
    where
      go : (z : Bool) → kept_lines M ℓ lines (reply_lines lines replied) ≡ reply_lines (strike_lines M ℓ lines) (kept M ℓ (calls_of lines) replied) →
          cond z (answer_line answer ∷ kept_lines M ℓ lines (reply_lines lines replied)) (kept_lines M ℓ lines (reply_lines lines replied))
          ≡ reply_lines (cond z (Some call ∷ strike_lines M ℓ lines) (strike_lines M ℓ lines)) (cond z (answer ∷ kept M ℓ (calls_of lines) replied) (kept M ℓ (calls_of lines) replied))
      go true ih = ap (λ (texts : List (List ℕ)). answer_line answer ∷ texts) ih
      go false ih = ih

  lines_alike : (slots : List Slot) → Untraced M slots → Code ℓ → (lines : List (Option Call)) →
      kept_lines M ℓ lines (replies M slots lines) ≡ replies M slots (strike_lines M ℓ lines)
  lines_alike slots untraced code lines =
      replies_kept lines (answers M slots (calls_of lines)) ((one_by_one M).one_answer_each slots (calls_of lines))
      ∙ ap (reply_lines (strike_lines M ℓ lines)) (untraced.answered ℓ code (calls_of lines) ∙ ap (answers M slots) (sym (calls_struck lines)))

pub leaves_no_trace : (input : List ℕ) → LeavesNoTrace input
leaves_no_trace input table read =
    let untraced = boxes_are_untraced window_flows window_joins window_bits window_lawful (roster_part input) table read in
    record { untraced = untraced; printed_alike = λ ℓ. lines_alike (window_of table) ℓ table.slots untraced }
