-- The index of a sound host has each flow that isn't closed: for the law open_flows_are_in_the_index.
use Rattle.std.proofs.Common.{◌≡◌, true, false, List, [], ◌∷◌, map}
use Rattle.host_rounds.specs.Hosts.{Live, is_over}
use Rattle.host_rounds.specs.Lists.{Each}
use Rattle.flow_lock.specs.declared.view.Held.{Held}
use Rattle.host_books.specs.Books.{Book, live_in}
use Rattle.host_books.specs.Indexes.{IsFindable}
use Rattle.sound_hosts.specs.Hosts.{known_in}
use Rattle.core_host.specs.Sound.{IsStaffSound}
use Rattle.core_host.specs.Views.{Staffed, seen_by}

all_found : (known : List Held) (bs : List Book) → Each (IsFindable known) bs
    → Each (λ (l : Live). l.indexed ≡ false → is_over l ≡ true) (map (live_in known) bs)
all_found known [] each = tt
all_found known (b ∷ bs) each = (each.0, all_found known bs each.1)

pub open_found : (h : Staffed) → IsStaffSound h
    → Each (λ (l : Live). l.indexed ≡ false → is_over l ≡ true) (seen_by h).flows
open_found h sound = all_found (known_in h.host) h.host.books sound.host.indexed.running
