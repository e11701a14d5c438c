-- What is printed for call lines, as it goes into a buffer that has room for it. Assumes nothing.
use Rattle.std.proofs.Common.{◌≡◌, ℕ, suc, ◌+◌, ◌*◌, ◌≤◌, List, [], ◌++◌, length, sym, refl, ap, ◌∙◌, arith}
use Rattle.std.proofs.lemmas.List.{append_assoc}
use Rattle.table.specs.declared.table.Table.{Table}
use Rattle.console.specs.Lines.{lines_of}
use Rattle.console.specs.Onward.{to_print}
use Rattle.console.specs.Writing.{room_for, Wrote}
use Rattle.console.proofs.Buffers.{in_turn}
use Rattle.console.proofs.Following.{few_lines}

-- The buffer was `before`, now it is `out`; of what is to print for `text`, all is in it up to `to` but what is to print for `rest`, for which there is room.
pub record Filled (start : Table) (text : List ℕ) (table : Table) (rest : List ℕ) (before out : List ℕ) (to : ℕ) : Type 0 where
  pub text_so_far : List ℕ
  pub wrote : Wrote before 0 text_so_far to out
  pub whole : text_so_far ++ to_print table rest ≡ to_print start text
  pub size : length out ≡ length before
  pub room : to + 30 * length (lines_of rest) ≤ length before

pub none_yet : {start table : Table} {text rest : List ℕ} (before : List ℕ) → table ≡ start → rest ≡ text → room_for text ≤ length before → Filled start text table rest before before 0
none_yet {start} {table} {text} {rest} before same_table same_text room =
    let few = few_lines text in
    let lines = ap (λ (bytes : List ℕ). length (lines_of bytes)) same_text in
    record {
      text_so_far = [];
      wrote = record { ends = refl; front = refl; back = refl };
      whole = ap (λ (x : Table). to_print x rest) same_table ∙ ap (to_print start) same_text;
      size = refl;
      room = omega arith;
    }

-- one more line
module _ {start table : Table} {text rest before out : List ℕ} {to : ℕ} (filled : Filled start text table rest before out to) where
  pub one_more : {line out' left : List ℕ} {after : Table} {to' : ℕ} → to_print table rest ≡ line ++ to_print after left → length (lines_of rest) ≡ suc (length (lines_of left)) →
      length line ≤ 30 → Wrote out to line to' out' → length out' ≡ length out → Filled start text after left before out' to'
  one_more {line} {left = left} {after = after} to_come lines few wrote size =
      let ends = wrote.ends in
      record {
        text_so_far = filled.text_so_far ++ line;
        wrote = in_turn filled.wrote wrote;
        whole = append_assoc filled.text_so_far line (to_print after left) ∙ (ap (λ (x : List ℕ). filled.text_so_far ++ x) (sym to_come) ∙ filled.whole);
        size = size ∙ filled.size;
        room = omega (arith, filled.room);
      }
