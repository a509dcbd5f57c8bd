-- What an application leaves when it ends.
use Rattle.std.specs.Prelude.{◌≡◌, ℕ, ◌+◌, ◌⊎◌, Bool, true, List, [], ◌∷◌, length}
use Rattle.std.specs.Prelude.{Option, Some, None}
use Rattle.flow_state.specs.Flow.{Flow}
use Rattle.flow_lock.specs.Answers.{IsTaken, IsBusy}
use Rattle.flow_lock.specs.declared.word.Word.{Word}
use Rattle.app_reaper.specs.OneCall.{history, IsOwn}
use Rattle.app_reaper.specs.declared.ended.Ended.{Ended}
use Rattle.tas_model.specs.declared.entry.FlowId.{FlowId}
use Rattle.libtas_sockets.specs.Apps.{Application}

-- it holds nothing, and nothing was looked for
abbrev pub IsLeftIdle : Application → Ended → Type 0
IsLeftIdle a e = (e.held ≡ None) × (e.busy ≡ None) × (e.pass ≡ a.pass)

-- the record of the newest socket's flow was taken, or another pass held it
abbrev pub IsLeftHolding : FlowId → Application → Ended → Type 0
IsLeftHolding id a e =
    ((r : Flow)
    × (at : ℕ)
    × (at + 1 ≡ length a.sockets)
    × (e.held ≡ Some (at, r))
    × (e.busy ≡ None)
    × IsOwn id a.pass.view r
    × IsTaken id (history r) a.pass.view e.pass.view)
    ⊎ ((e.held ≡ None) × ((x : Word) × (e.busy ≡ Some x) × IsBusy id a.pass.view e.pass.view x))

-- the newest socket's flow
abbrev pub newest : List FlowId → Option FlowId
newest [] = None
newest (f ∷ []) = Some f
newest (f ∷ g ∷ fs) = newest (g ∷ fs)

abbrev pub IsEnding : (holding : Bool) → Option FlowId → Application → Ended → Type 0
IsEnding true (Some id) a e = IsLeftHolding id a e
IsEnding holding last a e = IsLeftIdle a e
