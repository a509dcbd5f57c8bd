-- What a script tries is an ask of it, and stays one when another script's try was made.
use Rattle.std.proofs.Common.{◌≡◌, ℕ, ◌+◌, ◌==◌, Bool, true, false, List, length, Option, Some, None}
use Rattle.std.proofs.Common.{slice_get, refl, sym, ap, ◌∙◌, subst}
use Rattle.std.specs.List.{find}
use Rattle.tas_model.specs.declared.entry.FlowId.{FlowId}
use Rattle.tas_model.specs.declared.entry.HostParams.{HostParams}
use Rattle.tas_model.specs.declared.entry.Caller.TheVariants.{App}
use Rattle.tas_model.specs.declared.entry.Call.{Call}
use Rattle.tas_model.specs.declared.entry.Reply.{Reply}
use Rattle.tas_model.specs.declared.entry.Reply.TheVariants as replies
use Rattle.host_rounds.specs.Lists.{change_first, change_at}
use Rattle.host_rounds.specs.Hosts.{Live, Host, Holder, with_call, at_flow, answer_of, last_reply}
use Rattle.host_rounds.specs.Scripts.{Site}
use Rattle.flow_lock.specs.Orders.{known_of, same_flow}
use Rattle.host_books.specs.Books.{Book, Setting, live_in, host_of, site_of, IsAt}
use Rattle.host_books.specs.Deeds.{asked_as, with_holder}
use Rattle.host_books.specs.Tries.{reply_on, IsTry, MayPrecede}
use Rattle.scenario_text.specs.declared.scenario.Scenario.{Scenario}
use Rattle.scenario_text.specs.declared.scenario.Step.{Step}
use Rattle.scenario_text.specs.declared.scenario.Step.TheVariants as steps
use Rattle.scenario_runs.specs.Applications.{Script, Turn, done_or, sent_on, received_on, turn}
use Rattle.scenario_runs.specs.Worlds.{starts_of, address_in, with_turn, asked_of, scripts_of}
use Rattle.script_tries.specs.Steps.{offer_at, call_at, holds_at, by_reply}
use Rattle.script_tries.specs.Tries.{try_on}
use Rattle.script_tries.proofs.Lists.{get_changed, get_other, change_same, first_same, first_value, find_other}
use Rattle.script_tries.proofs.Lists.{AreTwoTests, found_passes, by_bool}
use Rattle.script_tries.proofs.Places.{book_at, place_is, held_back, places_differ, live_got}
use Rattle.script_tries.proofs.Turns.{reply_in, tried, IsTryCall, Still, LeavesAt, all_left, same_place}
use Rattle.script_tries.proofs.Turns.{two_places, turn_with, View, Tries, Rests, turn_view, no_other}

-- ----- numbers
done_number : (over : Bool) (n : ℕ) (s : Script) → (done_or over n s).number ≡ s.number
done_number true n s = refl
done_number false n s = refl

sent_number : (reply : Reply) (all : ℕ) (s : Script) → (sent_on reply all s).number ≡ s.number
sent_number (replies.Took bytes) all s = done_number (s.done + length bytes == all) (s.done + length bytes) s
sent_number replies.NotYet all s = refl
sent_number reply all s = refl

received_number : (reply : Reply) (all : Option ℕ) (s : Script) → (received_on reply all s).number ≡ s.number
received_number (replies.Got bytes update) None s = refl
received_number (replies.Got bytes update) (Some all) s =
    done_number (s.done + length bytes == all) (s.done + length bytes) s
received_number replies.NotYet all s = refl
received_number reply all s = refl

-- a script that goes on keeps its number
pub keeps_number : (step : Step) (reply : Reply) (s : Script) → (by_reply step reply s).number ≡ s.number
keeps_number (steps.Send socket text) reply s = sent_number reply _ s
keeps_number (steps.Fill socket count) reply s = sent_number reply _ s
keeps_number (steps.Recv socket count) reply s = received_number reply (Some count) s
keeps_number (steps.Drain socket) reply s = received_number reply None s
keeps_number (steps.Shut socket) reply s = refl
keeps_number (steps.Close socket) reply s = refl
keeps_number (steps.Abort socket) reply s = refl
keeps_number (steps.Listen name port) reply s = refl
keeps_number (steps.Accept socket listener) reply s = refl
keeps_number (steps.Connect socket host port) reply s = refl
keeps_number (steps.Wait ticks) reply s = refl

abbrev pub is_numbered : (number : ℕ) → Script → Bool
is_numbered k s = s.number == k

-- scripts of two numbers are two, also when the one went on
pub two_scripts : (n k : ℕ) (step : Step) (reply : Reply) → (n ≡ k → ⊥)
    → AreTwoTests (is_numbered n) (by_reply step reply) (is_numbered k)
two_scripts n k step reply differ = record {
  before = λ s here. other s.number here;
  after = λ s here. ap (λ j. j == k) (keeps_number step reply s) ∙ other s.number here;
}
  where
    not_same : (j : ℕ) → (j == n) ≡ true → (j == k) ≡ true → ⊥
    not_same j h g = differ (sym (same_place j n h) ∙ same_place j k g)

    other : (j : ℕ) → (j == n) ≡ true → (j == k) ≡ false
    other j h = by_bool (j == k) (λ g. absurd (not_same j h g)) (λ g. g)

-- where the script that its number finds goes on to this one
go_first : (state : List Script) (k : ℕ) (z y : Script) (goes : Script → Script)
    → find (is_numbered k) state ≡ Some z → y.number ≡ z.number → y ≡ goes z
    → change_first (is_numbered y.number) (λ (s : Script). y) state ≡ change_first (is_numbered k) goes state
go_first state k z y goes found number is =
    let same : z.number ≡ k = same_place z.number k (found_passes (is_numbered k) state z found) in
    ap (λ j. change_first (is_numbered j) (λ (s : Script). y) state) (number ∙ same)
    ∙ first_same (is_numbered k) (λ (s : Script). y) goes state z found is

gone_first : (state : List Script) (k : ℕ) (z y : Script) (goes : Script → Script)
    → find (is_numbered k) state ≡ Some z → y.number ≡ z.number
    → change_first (is_numbered y.number) (λ (s : Script). y) state ≡ change_first (is_numbered k) goes state
    → y ≡ goes z
gone_first state k z y goes found number is =
    let same : z.number ≡ k = same_place z.number k (found_passes (is_numbered k) state z found) in
    first_value (is_numbered k) (λ (s : Script). y) goes state z found
    (sym (ap (λ j. change_first (is_numbered j) (λ (s : Script). y) state) (number ∙ same)) ∙ is)

-- ----- the reply
-- what a call on the flow at this place is answered
replied : (n : ℕ) (f : Live → Live) (host : Host) (l : Live) → slice_get host.flows n ≡ Some l
    → answer_of n (at_flow n f host) ≡ last_reply replies.Nothing (f l).flow.entries
replied n f host l at =
    ap (λ o. elim o [ None ↦ replies.Nothing | Some m ↦ last_reply replies.Nothing m.flow.entries ])
    (get_changed n f host.flows l at)

pub reply_is : (n t : ℕ) (step : Step) (host : Host) (z : Script) (l : Live) → slice_get host.flows n ≡ Some l
    → reply_in n t step (turn_with host z)
    ≡ last_reply replies.Nothing
    (with_call l (App z.number) t (call_at step z) (offer_at step z)).flow.entries
unfolding reply_in
reply_is n t step host z l at =
    replied n (λ (m : Live). with_call m (App z.number) t (call_at step z) (offer_at step z)) host l at

abbrev pub holding : (t : ℕ) → Step → Script → Reply → Live → Live
holding t step z r = asked_as z.number t (call_at step z) (offer_at step z) (holds_at step r)

-- what a turn leaves that tries the call, by its reply
abbrev pub left_by : (n t : ℕ) → Step → Script → Reply → Host → List Script → Site (List Script)
left_by n t step z r host state =
    record {
      host = at_flow n (holding t step z r) host;
      scripts = change_first (is_numbered (by_reply step r z).number) (λ (s : Script). by_reply step r z) state;
    }

-- ----- one try
module _ (sc : Scenario) (p : HostParams) (t : ℕ) where
  abbrev pub IsTurn : (n : ℕ) → Step → Script → Type 0
  IsTurn n step z =
      (host : Host) → turn (starts_of p) (address_in sc.hosts) t (turn_with host z) ≡ tried n t step (turn_with host z)

  abbrev pub asks : Site (List Script) → ℕ → Site (List Script)
  asks site k = (scripts_of sc p).asked t site k

  asked_found : (site : Site (List Script)) (k : ℕ) (z : Script) → find (is_numbered k) site.scripts ≡ Some z
      → asks site k
      ≡ with_turn (turn (starts_of p) (address_in sc.hosts) t (turn_with site.host z)) site.scripts
  asked_found site k z found = ap (λ o. asked_of (starts_of p) (address_in sc.hosts) t o site) found

  asked_none : (site : Site (List Script)) (k : ℕ) → find (is_numbered k) site.scripts ≡ None → asks site k ≡ site
  asked_none site k none = ap (λ o. asked_of (starts_of p) (address_in sc.hosts) t o site) none

  -- its turn is that of a try, with this reply
  asked_tried : (host : Host) (state : List Script) (k n : ℕ) (step : Step) (z : Script) (r : Reply)
      → find (is_numbered k) state ≡ Some z → IsTurn n step z → reply_in n t step (turn_with host z) ≡ r
      → asks (record { host = host; scripts = state }) k ≡ left_by n t step z r host state
  asked_tried host state k n step z r found turns reply =
      asked_found (record { host = host; scripts = state }) k z found
      ∙ (ap (λ (x : Turn). with_turn x state) (turns host)
      ∙ ap (λ (q : Reply). left_by n t step z q host state) reply)

  pub stands : (s : Setting) (state : List Script) (n : ℕ) (step : Step) (z : Script) (b : Book)
      → find (is_numbered z.number) state ≡ Some z → slice_get s.books n ≡ Some b → IsTurn n step z
      → IsTry (scripts_of sc p) t s state (try_on b.id step z)
  stands s state n step z b found there turns known place at =
      let host : Host = host_of s known in
      let r : Reply = reply_on t (try_on b.id step z) (known_of b.id known) in
      let reply : reply_in n t step (turn_with host z) ≡ r =
      reply_is n t step host z (live_in known b) (live_got known n s.books b there) in
      let same : n ≡ place = place_is place n b.id s.books b at there refl in
      let here : asks (site_of s known state) z.number ≡ record {
        host = at_flow n (holding t step z r) host;
        scripts = change_first (is_numbered z.number) (by_reply step r) state;
      } =
      asked_tried host state z.number n step z r found turns reply
      ∙ ap (λ (xs : List Script). record { host = at_flow n (holding t step z r) host; scripts = xs })
      (go_first state z.number z (by_reply step r z) (by_reply step r) found (keeps_number step r z) refl) in
      subst (λ (k : ℕ). asks (site_of s known state) z.number ≡ record {
        host = at_flow k (holding t step z r) host;
        scripts = change_first (is_numbered z.number) (by_reply step r) state;
      }) same here

  -- ----- another try before it
  -- no turn that leaves no such call is a try
  refuted : (m app : ℕ) (call : Call) (offer : List ℕ) (holds : Holder → Holder) (before after : List Live) (l : Live)
      → IsTryCall call → slice_get before m ≡ Some l → LeavesAt t m before after
      → after ≡ change_at m (asked_as app t call offer holds) before → ⊥
  refuted m app call offer holds before after l kind at leaves is =
      let found = leaves l at in
      let both : Some found.0 ≡ Some (asked_as app t call offer holds l) =
      sym found.1
      ∙ (ap (λ (ls : List Live). slice_get ls m) is ∙ get_changed m (asked_as app t call offer holds) before l at) in
      let same : found.0 ≡ asked_as app t call offer holds l = cc (both) in
      no_other t app call offer l found.0 kind (ap (λ (k : Live). k.flow.entries) same) found.2

  -- where the script has the same turn on another host, that leaves the same of the flow and of the script
  turn_again : (m k : ℕ) (step : Step) (z : Script) (r : Reply) (l : Live) (f : Live → Live) (goes : Script → Script)
      (host other : Host) (state then : List Script) → find (is_numbered k) state ≡ Some z
      → find (is_numbered k) then ≡ Some z → IsTurn m step z → slice_get host.flows m ≡ Some l
      → slice_get other.flows m ≡ Some l → reply_in m t step (turn_with host z) ≡ r
      → reply_in m t step (turn_with other z) ≡ r
      → asks (record { host = host; scripts = state }) k
      ≡ record { host = at_flow m f host; scripts = change_first (is_numbered k) goes state }
      → asks (record { host = other; scripts = then }) k
      ≡ record { host = at_flow m f other; scripts = change_first (is_numbered k) goes then }
  turn_again m k step z r l f goes host other state then found later turns at there reply again is =
      let first : left_by m t step z r host state
      ≡ record { host = at_flow m f host; scripts = change_first (is_numbered k) goes state } =
      sym (asked_tried host state k m step z r found turns reply) ∙ is in
      let lives : change_at m (holding t step z r) host.flows ≡ change_at m f host.flows =
      ap (λ (x : Site (List Script)). x.host.flows) first in
      let both : Some (holding t step z r l) ≡ Some (f l) =
      sym (get_changed m (holding t step z r) host.flows l at)
      ∙ (ap (λ (ls : List Live). slice_get ls m) lives ∙ get_changed m f host.flows l at) in
      let same : holding t step z r l ≡ f l = cc (both) in
      let goes_same : by_reply step r z ≡ goes z =
      gone_first state k z (by_reply step r z) goes found (keeps_number step r z)
      (ap (λ (x : Site (List Script)). x.scripts) first) in
      asked_tried other then k m step z r later turns again
      ∙ alike (change_same m (holding t step z r) f other.flows l there same)
      (go_first then k z (by_reply step r z) goes later (keeps_number step r z) goes_same)
    where
      alike : change_at m (holding t step z r) other.flows ≡ change_at m f other.flows
          → change_first (is_numbered (by_reply step r z).number) (λ (s : Script). by_reply step r z) then
          ≡ change_first (is_numbered k) goes then
          → left_by m t step z r other then
          ≡ record { host = at_flow m f other; scripts = change_first (is_numbered k) goes then }
      alike lives scripts = λ i. record { host = record other { flows = lives i }; scripts = scripts i }

  pub precedes : (id other : FlowId) (step next : Step) (a b : Script) → IsTryCall (call_at next b)
      → (a.number ≡ b.number → ⊥) → same_flow id other ≡ false
      → MayPrecede (scripts_of sc p) t (try_on id step a) (try_on other next b)
  precedes id other step next a b kind differ apart s state place reply at is known m there =
      by_found (find (is_numbered b.number) state) refl
    where
      books : List Book
      books = with_holder place (holds_at step reply) s.books

      later : Setting
      later = record s { books = books }

      then : List Script
      then = change_first (is_numbered a.number) (by_reply step reply) state

      host : Host
      host = host_of s known

      r : Reply
      r = reply_on t (try_on other next b) (known_of other known)

      before : IsAt m other s.books
      before = held_back m other place (holds_at step reply) s.books there

      left : asks (site_of s known state) b.number ≡ record {
        host = at_flow m (holding t next b r) host;
        scripts = change_first (is_numbered b.number) (by_reply next r) state;
      }
      left = is known m before

      book : Book
      book = (book_at m other s.books before).0

      got : slice_get s.books m ≡ Some book
      got = (book_at m other s.books before).1

      live : slice_get host.flows m ≡ Some (live_in known book)
      live = live_got known m s.books book got

      still : slice_get (host_of later known).flows m ≡ Some (live_in known book)
      still = live_got known m books book
          (get_other place m _ s.books (places_differ place m id other s.books at before apart) ∙ got)

      found_still : find (is_numbered b.number) then ≡ find (is_numbered b.number) state
      found_still =
          find_other (is_numbered a.number) (is_numbered b.number) (by_reply step reply) state
          (two_scripts a.number b.number step reply differ)

      Goal : Type 0
      Goal = asks (site_of later known then) b.number ≡ record {
        host = at_flow m (holding t next b r) (host_of later known);
        scripts = change_first (is_numbered b.number) (by_reply next r) then;
      }

      never : (after : List Live) → LeavesAt t m host.flows after
          → after ≡ change_at m (holding t next b r) host.flows → Goal
      never after leaves same =
          absurd (refuted m b.number (call_at next b) (offer_at next b) (holds_at next r) host.flows after
          (live_in known book) kind live leaves same)

      by_place : (z : Script) → find (is_numbered b.number) state ≡ Some z → (at_step : Step) (n : ℕ)
          → IsTurn n at_step z → Goal
      by_place z found at_step n turns = by_bool (n == m) here elsewhere where
        here : (n == m) ≡ true → Goal
        here h =
            turn_again m b.number at_step z _ (live_in known book) (holding t next b r) (by_reply next r) host
            (host_of later known) state then found (found_still ∙ found)
            (subst (λ (k : ℕ). IsTurn k at_step z) (same_place n m h) turns) live still
            (reply_is m t at_step host z (live_in known book) live)
            (reply_is m t at_step (host_of later known) z (live_in known book) still) left

        elsewhere : (n == m) ≡ false → Goal
        elsewhere h =
            let q : Reply = reply_in n t at_step (turn_with host z) in
            never (change_at n (holding t at_step z q) host.flows)
            (λ l is_there. (l, get_other n m _ host.flows (two_places n m h) ∙ is_there, Still refl))
            (ap (λ (x : Site (List Script)). x.host.flows)
            (sym (asked_tried host state b.number n at_step z q found turns refl) ∙ left))

      by_view : (z : Script) → find (is_numbered b.number) state ≡ Some z → View t z → Goal
      by_view z found (Tries at_step n turns) =
          by_place z found at_step n (λ h. turns (starts_of p) (address_in sc.hosts) h)
      by_view z found (Rests leaves) =
          never (turn (starts_of p) (address_in sc.hosts) t (turn_with host z)).host.flows
          (leaves (starts_of p) (address_in sc.hosts) host m)
          (ap (λ (x : Site (List Script)). x.host.flows)
          (sym (asked_found (site_of s known state) b.number z found) ∙ left))

      by_found : (o : Option Script) → find (is_numbered b.number) state ≡ o → Goal
      by_found None none =
          never host.flows (all_left t m host.flows)
          (ap (λ (x : Site (List Script)). x.host.flows)
          (sym (asked_none (site_of s known state) b.number none) ∙ left))
      by_found (Some z) found = by_view z found (turn_view t z)
