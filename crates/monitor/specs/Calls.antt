-- The calls and answers of the code as those of the monitor. Assumes nothing.
use Rattle.noninterference.specs.Monitor.{Call, lay, view, run, Answer, laid, viewed, ran}
use Rattle.monitor.specs.declared.call.Call as call
use Rattle.monitor.specs.declared.call.Call.TheVariants.{Lay, View, Run}
use Rattle.monitor.specs.declared.call.Answer as answer
use Rattle.monitor.specs.declared.call.Answer.TheVariants.{Laid, Viewed, Ran, Refused}
use Rattle.monitor.specs.Boxes.{told}

abbrev pub call_of : call.Call → Call
call_of (Lay person slot value) = lay person slot value
call_of (View person slot) = view person slot
call_of (Run person sheet turns) = run person sheet.now turns

abbrev pub answer_of : answer.Answer → Answer
answer_of Laid = laid
answer_of (Viewed value) = viewed value
answer_of (Ran turns) = ran turns
answer_of (Refused fault) = told fault
