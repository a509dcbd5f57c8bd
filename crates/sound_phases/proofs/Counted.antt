-- No flow is opened in a phase: for the law phases_keep_the_count.
use Rattle.std.proofs.Common.{◌≡◌, List, [], ◌∷◌, length, refl, sym, ap, ◌∙◌}
use Rattle.flow_lock.specs.declared.view.View.{View}
use Rattle.core_phase.specs.Lanes.{pins_left}
use Rattle.core_phase.specs.Phases.{IsPhase}
use Rattle.core_phase.specs.declared.lane.Lane.{Lane}
use Rattle.core_phase.specs.declared.lane.Lane.TheVariants as lanes
use Rattle.host_books.specs.Books.{Book}
use Rattle.sound_hosts.specs.Counting.{IsCounted}
use Rattle.sound_hosts.specs.Hosts.{CoreHost}
use Rattle.sound_hosts.proofs.Lengths.{left_length}
use Rattle.sound_phases.specs.Phased.{after_phase, books_after, books_by}

by_length : (v w : Lane) (books : List Book) → length (books_by v w books) ≡ length books
by_length (lanes.App v) (lanes.App w) books =
    left_length v.app.number (pins_left (lanes.App v) (lanes.App w)) books
by_length (lanes.App v) (lanes.Core w) books = refl
by_length (lanes.Core v) w books = refl

after_length : (vs ws : List Lane) (books : List Book) → length (books_after vs ws books) ≡ length books
after_length [] ws books = refl
after_length (v ∷ vs) [] books = refl
after_length (v ∷ vs) (w ∷ ws) books = after_length vs ws (books_by v w books) ∙ by_length v w books

pub phase_counted : (h : CoreHost) (vs ws : List Lane) (w : View) → IsCounted h → IsPhase vs ws h.slow.pass.view w
    → IsCounted (after_phase vs ws w h)
phase_counted h vs ws w counted phase =
    ap (λ (x : View). x.opened) phase.known ∙ (counted ∙ sym (after_length vs ws h.books))
