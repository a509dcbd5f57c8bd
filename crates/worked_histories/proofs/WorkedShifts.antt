-- The history of WorkedShifts is legal, and nothing goes after it, by computation.
use Rattle.std.proofs.Common.{◌≡◌, None, refl}
use Rattle.tas_num.specs.Places.{nearest}
use Rattle.tas_model.specs.declared.entry.Call.TheVariants as calls
use Rattle.tas_model.specs.declared.entry.Reply.TheVariants as replies
use Rattle.tas_model.specs.Receive.{rx, rx_later, rx_syn_sent}
use Rattle.tas_model.specs.NextSegment.{going}
use Rattle.tas_model.specs.Timers.{ticks, control}
use Rattle.tas_model.specs.LegalHistory.{step, replay, Legal}
use Rattle.tas_model.proofs.Worked.{legal_by}
use Rattle.worked_histories.specs.WorkedShifts.{large_params, shift_of_15}

pub shift_of_15_legal : Legal large_params shift_of_15
unfolding nearest rx rx_later rx_syn_sent going ticks control step
shift_of_15_legal = legal_by large_params shift_of_15
    (record { opens = tt; reply = refl; number = refl }, refl, refl, refl)

pub nothing_more_goes : step (replay large_params shift_of_15) 0 calls.Emit replies.Ok ≡ None
unfolding nearest rx rx_later rx_syn_sent going ticks control step replay
nothing_more_goes = refl
