use Rattle.std.proofs.Common.{◌≡◌, ℕ, true, false, leb, List, length, Some, None, Option, ap, ap₂, arith}
use Rattle.std.proofs.lemmas.Bool.{le-leb, lt-leb}
use Rattle.console.specs.Lines.{read_of}
use Rattle.console.specs.Console.{printed}
use Rattle.console.specs.Writing.{Wrote, placed, room_for}
use Rattle.console.proofs.Buffers.{as_text, from_start, stays_within, first_of}
use Rattle.console.proofs.Traces.{leaves_no_trace}
use Rattle.console.proofs.buffered.respond_into.Goals as goal

-- with the room, the text is placed
fits : {before text after : List ℕ} {to : ℕ} (room : ℕ) → leb room (length before) ≡ true → Wrote before 0 text to after → ◌≡◌ {A = Option ℕ × List ℕ} (Some to, after) (placed room text before)
fits {before} {text} {after} {to} room e wrote =
    let both = from_start wrote in
    rw e (ap₂ (λ (n : ℕ) (bytes : List ℕ). (Some n, bytes)) both.0 both.1)

-- and without it nothing is
no_room : (room : ℕ) (text before : List ℕ) → leb room (length before) ≡ false → ◌≡◌ {A = Option ℕ × List ℕ} (None, before) (placed room text before)
no_room room text before e = rw e

pub answer_input-requires : goal.answer_input-requires
answer_input-requires c =
    let input = c.args.input.now in
    let same = ap room_for (first_of input c.min.result 65536 c.min.ensures) in
    omega arith

pub returns-then-out-room_for : goal.returns-then-out-room_for
returns-then-out-room_for c =
    let input = c.args.input.now in
    let out = c.args.out.now in
    record { printed = no_room (room_for (read_of input)) (printed (read_of input)) out (lt-leb (room_for (read_of input)) (length out) (omega arith)); within = tt; untraced = leaves_no_trace (read_of input) }

pub returns : goal.returns
returns c =
    let input = c.args.input.now in
    let out = c.args.out.now in
    let wrote = as_text (ap printed (first_of input c.min.result 65536 c.min.ensures)) c.answer_input.ensures in
    record {
      printed = fits (room_for (read_of input)) (le-leb (room_for (read_of input)) (length out) (omega arith)) wrote;
      within = stays_within wrote;
      untraced = leaves_no_trace (read_of input);
    }
