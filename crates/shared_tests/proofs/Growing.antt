-- A history that grows by nothing.
use Rattle.std.proofs.Common.{◌≡◌, [], append-nil}
use Rattle.flow_lock.specs.Histories.{longer}
use Rattle.flow_lock.specs.declared.view.History.{History}

pub longer_nil : (h : History) → longer h [] ≡ h
longer_nil h = λ i. record h { entries = append-nil h.entries i }
