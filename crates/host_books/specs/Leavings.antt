-- What the tries of words leave of the books and of the scripts.
use Rattle.std.specs.Prelude.{◌≡◌, ℕ, false, List, map, fold}
use Rattle.tas_model.specs.declared.entry.FlowId.{FlowId}
use Rattle.tas_model.specs.declared.entry.Reply.{Reply}
use Rattle.host_rounds.specs.Lists.{Each, change_first}
use Rattle.host_rounds.specs.Hosts.{Holder}
use Rattle.host_rounds.specs.Scripts.{Scripts}
use Rattle.flow_lock.specs.Orders.{Order, same_flow}
use Rattle.flow_lock.specs.declared.view.Held.{Held}
use Rattle.flow_lock.specs.declared.view.History.{History}
use Rattle.host_books.specs.Books.{Book, Setting}
use Rattle.host_books.specs.Deeds.{held_as}
use Rattle.host_books.specs.Tries.{Try, Word, ToldAs, reply_on, told_of}
use Rattle.host_books.specs.Words.{joined}

-- what is done with the flow's socket, and how far its script is then
pub record Leaving (S : Type 0) : Type 0 where
  pub flow : FlowId
  pub holds : Holder → Holder
  pub next : S → S

-- what a try leaves with this reply, and by the reply on this history
abbrev pub leaving_by : {S A : Type 0} → Try S A → Reply → Leaving S
leaving_by x reply = record { flow = x.flow; holds = x.holds reply; next = x.next reply }

abbrev pub leaving_on : {S A : Type 0} → (t : ℕ) → History → Try S A → Leaving S
leaving_on t h x = leaving_by x (reply_on t x h)

-- what a word leaves, as a list of one, or none
abbrev pub leavings_in : {S A : Type 0} → (t : ℕ) → Word S A → List (Leaving S)
leavings_in t w = map (leaving_on t w.deed.before) w.tries

-- ----- the books and the scripts then
abbrev pub book_after : {S : Type 0} → List Book → Leaving S → List Book
book_after books l = change_first (λ (b : Book). same_flow l.flow b.id) (held_as l.holds) books

abbrev pub script_after : {S : Type 0} → S → Leaving S → S
script_after state l = l.next state

-- after all of them, one after the other
abbrev pub books_after : {S : Type 0} → List (Leaving S) → List Book → List Book
books_after {S} ls books = fold (book_after {S = S}) books ls

abbrev pub scripts_after : {S : Type 0} → List (Leaving S) → S → S
scripts_after {S} ls state = fold (script_after {S = S}) state ls

-- What the order leaves of the books and the scripts is what its words leave, one after the other.
pub record AreLeft {S A : Type 0} {scripts : Scripts S A} {t : ℕ} {s : Setting} {state : S} {known : List Held}
    {order : Order} (words : List (Word S A)) (told : ToldAs scripts t s state known order (map told_of words))
    : Type 0 where
  pub books : told.after ≡ books_after (joined (leavings_in t) words) s.books
  pub next : told.next ≡ scripts_after (joined (leavings_in t) words) state

-- ----- in any order
-- They are of different flows, and it doesn't matter which of the scripts goes on first.
pub record AreAlike {S : Type 0} (x y : Leaving S) : Type 0 where
  pub flow : same_flow x.flow y.flow ≡ false
  pub scripts : (state : S) → y.next (x.next state) ≡ x.next (y.next state)

-- so it is with what each of two words leaves
abbrev pub LeaveAlike : {S A : Type 0} → (t : ℕ) → Word S A → Word S A → Type 0
LeaveAlike {S} t w v = Each (λ (x : Leaving S). Each (AreAlike x) (leavings_in t v)) (leavings_in t w)
