-- An answer in four numbers, and how they are printed. Assumes nothing.
use Rattle.std.specs.Prelude.{ℕ, List, ◌∷◌, ◌++◌, pos, decimal}
use Rattle.std.specs.Fmt.{signed_decimal}
use Rattle.noninterference.specs.Monitor.{Answer, laid, viewed, ran, refused}
use Rattle.monitor.specs.declared.reply.Reply.{Reply}

-- the fault's number, row and byte, which are 0 for a call carried out, and the value viewed, the turns taken or the count of a cut
abbrev pub reply_of : Answer → Reply
reply_of laid = record { number = 0; row = 0; byte = 0; value = pos 0 }
reply_of (viewed value) = record { number = 0; row = 0; byte = 0; value = value }
reply_of (ran turns) = record { number = 0; row = 0; byte = 0; value = pos turns }
reply_of (refused number row byte count) = record { number = number; row = row; byte = byte; value = pos count }

-- the numbers with commas, byte 44, between them
abbrev pub reply_text : Reply → List ℕ
reply_text reply =
    decimal reply.number ++ (44 ∷ (decimal reply.row ++ (44 ∷ (decimal reply.byte ++ (44 ∷ signed_decimal reply.value)))))
