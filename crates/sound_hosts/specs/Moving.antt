-- What the slow path, or who has its baton, does alone: one flow's record at a time.
use Rattle.std.specs.Prelude.{◌≡◌, ℕ, [], ◌∷◌, length}
use Rattle.tas_model.specs.declared.entry.FlowId.{FlowId}
use Rattle.flow_lock.specs.Steps.{IsAlone}
use Rattle.flow_lock.specs.Words.{word_at}
use Rattle.flow_lock.specs.declared.view.History.{History}
use Rattle.flow_lock.specs.declared.view.View.{View}
use Rattle.slow_worker.specs.Entering.{phase_of, told}
use Rattle.slow_worker.specs.Workers.{Worker}
use Rattle.sound_hosts.specs.Hosts.{CoreHost}

-- The view is alone still and holds nothing, and of all that it has of the flows one history is another.
pub record IsLed (id : FlowId) (k : History) (v w : View) : Type 0 where
  pub alone : IsAlone w
  pub idle : w.held ≡ []
  pub slow : w.slow ≡ v.slow
  pub pins : w.pins ≡ v.pins
  pub marks : w.marks ≡ v.marks
  pub base : w.base ≡ record { flow = id; history = k } ∷ v.base
  pub words : (slot : ℕ) → word_at w.words slot ≡ word_at v.words slot
  pub wide : length w.words ≡ length v.words

-- So it is with the slow path's worker, and its lists of openings were told where the flow stands. It may have written
-- lines, told applications and posted kicks.
pub record IsLedBy (id : FlowId) (k : History) (v w : Worker) : Type 0 where
  pub view : IsLed id k v.pass.view w.pass.view
  pub path : w.path ≡ told (phase_of k) id v.path
  pub rest : w ≡ record v {
    path = w.path;
    pass = w.pass;
    log = w.log;
    senders = w.senders;
    kicks = w.kicks;
    kickers = w.kickers;
  }

-- the host with this worker of its slow path
abbrev pub with_slow : Worker → CoreHost → CoreHost
with_slow w h = record h { slow = w }
