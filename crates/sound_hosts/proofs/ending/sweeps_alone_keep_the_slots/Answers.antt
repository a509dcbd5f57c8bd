-- Answers of the proof of ending/sweeps_alone_keep_the_slots.
use Rattle.std.proofs.Common.{◌≡◌, true, false, List, ◌∷◌, ◌++◌, subst, []}
use Rattle.host_rounds.specs.Lists.{Each}
use Rattle.flow_lock.specs.Answers.{is_open_in}
use Rattle.host_books.specs.Books.{Book}
use Rattle.sound_hosts.specs.Hosts.{CoreHost, AreNumbered}
use Rattle.sound_hosts.specs.Sound.{IsHostSound, AreSlots}
use Rattle.sound_hosts.proofs.OpenSockets.{standing}
use Rattle.sound_hosts.proofs.Sweeping.{freed_if, slots_still, middle}
use Rattle.sound_hosts.proofs.ending.sweeps_alone_keep_the_slots.Goals as goal

-- its mark says that it stands
is_open : (h : CoreHost) → IsHostSound h → (before : List Book) (b : Book) (behind : List Book)
    → h.books ≡ before ++ b ∷ behind → b.filed ≡ false → is_open_in h.slow.pass.view.marks b.id ≡ true
is_open h sound before b behind split stands =
    middle (λ (c : Book). c.filed ≡ false → is_open_in h.slow.pass.view.marks c.id ≡ true) before b behind
    (subst (Each (λ (c : Book). c.filed ≡ false → is_open_in h.slow.pass.view.marks c.id ≡ true)) split
    (standing h sound)) stands

pub returns-clause-freed : goal.returns-clause-freed
returns-clause-freed c h before behind b w a sound split stands sweep =
    freed_if h.table.slots h.slow.pass.view before b behind stands sound.alone sound.wide
    (subst (AreNumbered h.table.slots []) split sound.numbered)
    (subst (λ bs. AreSlots bs h.slow.pass.view) split sound.table)
    (is_open h sound before b behind split stands) w a sweep

pub returns-clause-slots : goal.returns-clause-slots
returns-clause-slots c h before behind b w a sound split stands sweep =
    slots_still h.table.slots h.slow.pass.view before b behind stands sound.alone sound.wide
    (subst (AreNumbered h.table.slots []) split sound.numbered)
    (subst (λ bs. AreSlots bs h.slow.pass.view) split sound.table)
    (is_open h sound before b behind split stands) w a sweep
