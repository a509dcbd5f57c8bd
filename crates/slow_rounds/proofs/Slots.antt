-- Backlogs and free slots, as the slow path and a run count them: for the law later_turns_are_rest_phases.
use Rattle.std.proofs.Common.{◌≡◌, ℕ, suc, ◌+◌, ◌==◌, ◌&&◌, not, cond, Bool, true, false, List, [], ◌∷◌, map}
use Rattle.std.proofs.Common.{length, count_by, refl, sym, ap, ◌∙◌, arith, slice_get, filter}
use Rattle.std.specs.Prelude.{Option, Some, None, position, nat_lt}
use Rattle.std.specs.List.{list_any, position_or_len}
use Rattle.std.specs.Option.{option_map}
use Rattle.std.proofs.lemmas.Bool.Decides.{nat_tests}
use Rattle.host_rounds.specs.Hosts.{Live, waits_at, is_waiting_by, is_in_slot, free_from}
use Rattle.core_rounds.proofs.Filters.{tally, count_cons}
use Rattle.flow_lock.specs.Answers.{is_free}
use Rattle.flow_lock.specs.Orders.{known_of}
use Rattle.flow_lock.specs.declared.view.Held.{Held}
use Rattle.flow_lock.specs.declared.view.Mark.{Mark}
use Rattle.flow_clock.specs.Histories.{is_over}
use Rattle.slow_handshake.specs.Openings.{is_at}
use Rattle.slow_handshake.specs.declared.openings.PassiveFlow.{PassiveFlow}
use Rattle.host_books.specs.Books.{Book, live_in}
use Rattle.sound_hosts.specs.Hosts.{waiting_in, passive_flow, tuple_of}

-- ----- flows that wait at a port
one_more : (n : ℕ) → 1 + n ≡ suc n
one_more n = omega arith

none_more : (n : ℕ) → 0 + n ≡ n
none_more n = omega arith

pub waits_count : (known : List Held) (port : ℕ) (bs : List Book)
    → count_by (waits_at port) (map (live_in known) bs) ≡ length (filter (is_at port) (waiting_in known bs))
waits_count known port [] = refl
waits_count known port (b ∷ bs) =
    count_cons (waits_at port) (live_in known b) (map (live_in known) bs)
    ∙ by ((tuple_of known b).lport == port) refl (is_waiting_by b.holder) (is_over (known_of b.id known))
    (waits_count known port bs)
  where
    rest : List PassiveFlow
    rest = waiting_in known bs

    by : (x : Bool) → ((tuple_of known b).lport == port) ≡ x → (y z : Bool)
        → count_by (waits_at port) (map (live_in known) bs) ≡ length (filter (is_at port) rest)
        → tally (((tuple_of known b).lport == port) && y && not z) + count_by (waits_at port) (map (live_in known) bs)
        ≡ length (filter (is_at port) (cond (y && not z) (passive_flow known b ∷ rest) rest))
    by true e true false ih =
        (λ i. tally (e i && true && true) + ih i)
        ∙ (one_more (length (filter (is_at port) rest))
        ∙ ap (λ c. length (cond c (passive_flow known b ∷ filter (is_at port) rest) (filter (is_at port) rest)))
        (sym e))
    by false e true false ih =
        (λ i. tally (e i && true && true) + ih i)
        ∙ (none_more (length (filter (is_at port) rest))
        ∙ ap (λ c. length (cond c (passive_flow known b ∷ filter (is_at port) rest) (filter (is_at port) rest)))
        (sym e))
    by true e true true ih =
        (λ i. tally (e i && true && false) + ih i) ∙ none_more (length (filter (is_at port) rest))
    by false e true true ih =
        (λ i. tally (e i && true && false) + ih i) ∙ none_more (length (filter (is_at port) rest))
    by true e false z ih =
        (λ i. tally (e i && false && not z) + ih i) ∙ none_more (length (filter (is_at port) rest))
    by false e false z ih =
        (λ i. tally (e i && false && not z) + ih i) ∙ none_more (length (filter (is_at port) rest))

-- ----- the lowest free slot
pub position_here : {X : Type 0} (p : X → Bool) (x : X) (xs : List X) → p x ≡ true → position p (x ∷ xs) ≡ Some 0
position_here p x xs e =
    ap (λ c. cond (nat_lt (cond (not c) (1 + position_or_len p xs) 0) (suc (length xs)))
    (Some (cond (not c) (1 + position_or_len p xs) 0)) None) e
    ∙ ap (λ c. cond c (Some 0) None) (some_left (length xs))
  where
    some_left : (n : ℕ) → nat_lt 0 (suc n) ≡ true
    some_left n = grind (arith, nat_tests)

pub position_past : {X : Type 0} (p : X → Bool) (x : X) (xs : List X) → p x ≡ false
    → position p (x ∷ xs) ≡ option_map (λ i. 1 + i) (position p xs)
position_past p x xs e =
    ap (λ c. cond (nat_lt (cond (not c) (1 + position_or_len p xs) 0) (suc (length xs)))
    (Some (cond (not c) (1 + position_or_len p xs) 0)) None) e
    ∙ (ap (λ c. cond c (Some (1 + position_or_len p xs)) None) (less (position_or_len p xs) (length xs))
    ∙ by (nat_lt (position_or_len p xs) (length xs)))
  where
    less : (a n : ℕ) → nat_lt (1 + a) (suc n) ≡ nat_lt a n
    less a n = grind (arith, nat_tests)

    by : (c : Bool) → cond c (Some (1 + position_or_len p xs)) None
        ≡ option_map (λ i. 1 + i) (cond c (Some (position_or_len p xs)) None)
    by true = refl
    by false = refl

-- where a mark tells of each slot whether a record stands there
pub free_alike : (ms : List Mark) (k : ℕ) (flows : List Live)
    → ((i : ℕ) (m : Mark) → slice_get ms i ≡ Some m → m.live ≡ list_any (is_in_slot (k + i)) flows)
    → free_from (length ms) k flows ≡ option_map (λ i. k + i) (position is_free ms)
free_alike [] k flows marks = refl
free_alike (m ∷ ms) k flows marks = by m.live refl (λ rest. free_alike ms (k + 1) flows rest)
  where
    at_first : m.live ≡ list_any (is_in_slot k) flows
    at_first =
        let none : k + 0 ≡ k = omega arith in
        marks 0 m refl ∙ ap (λ n. list_any (is_in_slot n) flows) none

    later : (i : ℕ) (n : Mark) → slice_get ms i ≡ Some n → n.live ≡ list_any (is_in_slot (k + 1 + i)) flows
    later i n at =
        let same : k + suc i ≡ k + 1 + i = omega arith in
        marks (suc i) n at ∙ ap (λ j. list_any (is_in_slot j) flows) same

    moved : (o : Option ℕ) → option_map (λ i. k + 1 + i) o ≡ option_map (λ i. k + i) (option_map (λ i. 1 + i) o)
    moved None = refl
    moved (Some i) = ap (λ n. Some n) (omega arith)

    by : (x : Bool) → m.live ≡ x
        → (((i : ℕ) (n : Mark) → slice_get ms i ≡ Some n → n.live ≡ list_any (is_in_slot (k + 1 + i)) flows)
        → free_from (length ms) (k + 1) flows ≡ option_map (λ i. k + 1 + i) (position is_free ms))
        → ◌≡◌ {A = Option ℕ} (free_from (suc (length ms)) k flows) (option_map (λ i. k + i) (position is_free (m ∷ ms)))
    by true e rest =
        ap (λ (c : Bool). elim c [ true ↦ free_from (length ms) (k + 1) flows | false ↦ Some k ]) (sym at_first ∙ e)
        ∙ (rest later
        ∙ (moved (position is_free ms) ∙ sym (ap (option_map (λ i. k + i)) (position_past is_free m ms (ap not e)))))
    by false e rest =
        ap (λ (c : Bool). elim c [ true ↦ free_from (length ms) (k + 1) flows | false ↦ Some k ]) (sym at_first ∙ e)
        ∙ (ap (λ n. Some n) (let none : k ≡ k + 0 = omega arith in none)
        ∙ sym (ap (option_map (λ i. k + i)) (position_here is_free m ms (ap not e))))
