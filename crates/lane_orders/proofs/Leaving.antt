-- The host and the scripts that turns leave: for the law turns_leave_one_site.
use Rattle.std.proofs.Common.{◌≡◌, ℕ, ◌∙◌}
use Rattle.host_rounds.specs.Scripts.{Scripts}
use Rattle.flow_lock.specs.Orders.{played}
use Rattle.host_books.specs.Books.{site_of}
use Rattle.host_books.specs.Leavings.{leavings_in, books_after, scripts_after, LeaveAlike}
use Rattle.host_books.specs.Ticks.{site_after}
use Rattle.host_books.specs.Words.{joined, AreAllPairs}
use Rattle.host_books.proofs.Leaving.{turns_leave}
use Rattle.lane_orders.specs.Turns.{words_in, leavings_below}
use Rattle.lane_orders.specs.Ticks.{Phase, site_left}

pub one_site : {S A : Type 0} (scripts : Scripts S A) (t : ℕ) (p : Phase scripts t)
    → AreAllPairs (LeaveAlike t) (words_in p.did) → site_after p.beside ≡ site_left p
one_site {S} scripts t p alike =
    let of = p.of_turns in
    let same = turns_leave t p.order p.turns (words_in p.did) p.are.below p.are.deeds alike p.setting.books p.state in
    let books : p.beside.told.after ≡ books_after (leavings_below t p.turns p.did) p.setting.books =
    of.leave.books
    ∙ ((λ i. books_after (joined (leavings_in t) (of.words_are i)) (of.setting_is i).books) ∙ same.0) in
    let next : p.beside.told.next ≡ scripts_after (leavings_below t p.turns p.did) p.state =
    of.leave.next
    ∙ ((λ i. scripts_after (joined (leavings_in t) (of.words_are i)) (of.state_is i)) ∙ same.1) in
    λ i. site_of (record (of.setting_is i) { books = books i }) (played (of.known_is i) (of.order_is i)) (next i)
