-- How many flows a host opened.
use Rattle.std.specs.Prelude.{◌≡◌, length}
use Rattle.sound_hosts.specs.Hosts.{CoreHost}

-- The slow path counts each flow that was opened.
abbrev pub IsCounted : CoreHost → Type 0
IsCounted h = h.slow.pass.view.opened ≡ length h.books
