-- A kill: the flows that it concerns are aborted, one after the other.
use Rattle.std.proofs.Common.{◌≡◌, ◌<◌, ◌≤◌, ◌+◌, ℕ, zero, suc, Bool, true, false, List, [], ◌∷◌, length, map}
use Rattle.std.proofs.Common.{slice_get}
use Rattle.std.proofs.Common.{Some, refl, sym, ap, ◌∙◌, arith}
use Rattle.tas_model.specs.declared.entry.Caller.TheVariants.{Slow}
use Rattle.tas_model.specs.declared.entry.Call.TheVariants as calls
use Rattle.host_rounds.specs.Lists.{change_at}
use Rattle.host_rounds.specs.Hosts.{Live, Host, Holder, Waiting, Application, GivenUp, at_flow, with_call}
use Rattle.host_rounds.specs.Hosts.{is_held_by}
use Rattle.scenario_runs.specs.Applications.{aborted_where, is_concerned, let_go}

-- ----- one flow
-- changes of the flow at a place make one
at_both : (f g h : Live → Live) (n : ℕ) (ls : List Live) (l : Live) → slice_get ls n ≡ Some l → g (f l) ≡ h l
    → change_at n g (change_at n f ls) ≡ change_at n h ls
at_both f g h n [] l here same = absurd (cc (here))
at_both f g h zero (m ∷ ls) l here same =
    let first : m ≡ l = cc (here) in
    ap (λ (k : Live). k ∷ ls) (ap (λ (k : Live). g (f k)) first ∙ (same ∙ ap h (sym first)))
at_both f g h (suc n) (m ∷ ls) l here same = ap (λ (ks : List Live). m ∷ ks) (at_both f g h n ls l here same)

at_same : (f h : Live → Live) (n : ℕ) (ls : List Live) (l : Live) → slice_get ls n ≡ Some l → f l ≡ h l
    → change_at n f ls ≡ change_at n h ls
at_same f h n [] l here same = absurd (cc (here))
at_same f h zero (m ∷ ls) l here same =
    let first : m ≡ l = cc (here) in
    ap (λ (k : Live). k ∷ ls) (ap f first ∙ (same ∙ ap h (sym first)))
at_same f h (suc n) (m ∷ ls) l here same = ap (λ (ks : List Live). m ∷ ks) (at_same f h n ls l here same)

abbrev aborts : (tick : ℕ) → Live → Live
aborts t l = with_call l Slow t calls.Abort []

abbrev gives_up : Live → Live
gives_up l = record l { holder = GivenUp }

held_gone : (holder : Holder) → true ≡ is_held_by holder → GivenUp ≡ let_go holder
held_gone Waiting h = absurd (cc (h))
held_gone (Application app) h = refl
held_gone GivenUp h = absurd (cc (h))

free_stays : (holder : Holder) → false ≡ is_held_by holder → holder ≡ let_go holder
free_stays Waiting h = refl
free_stays (Application app) h = absurd (cc (h))
free_stays GivenUp h = refl

pub aborted_held : (place t : ℕ) (before mid after : Host) (l : Live) → slice_get before.flows place ≡ Some l
    → true ≡ is_held_by l.holder → mid ≡ at_flow place (aborts t) before → after ≡ at_flow place gives_up mid
    → after ≡ at_flow place (aborted_where true t) before
aborted_held place t before mid after l here held made given =
    given
    ∙ (ap (at_flow place gives_up) made
    ∙ ap (λ (ls : List Live). record before { flows = ls })
    (at_both (aborts t) gives_up (aborted_where true t) place before.flows l here
    (ap (λ (h : Holder). record (aborts t l) { holder = h }) (held_gone l.holder held))))

pub aborted_free : (place t : ℕ) (before after : Host) (l : Live) → slice_get before.flows place ≡ Some l
    → false ≡ is_held_by l.holder → after ≡ at_flow place (aborts t) before
    → after ≡ at_flow place (aborted_where true t) before
aborted_free place t before after l here free made =
    made
    ∙ ap (λ (ls : List Live). record before { flows = ls })
    (at_same (aborts t) (aborted_where true t) place before.flows l here
    (ap (λ (h : Holder). record (aborts t l) { holder = h }) (free_stays l.holder free)))

unchanged_at : (t n : ℕ) (ls : List Live) → ls ≡ change_at n (aborted_where false t) ls
unchanged_at t n [] = refl
unchanged_at t zero (l ∷ ls) = refl
unchanged_at t (suc n) (l ∷ ls) = ap (λ (ks : List Live). l ∷ ks) (unchanged_at t n ls)

pub aborted_not : (place t : ℕ) (host : Host) → host ≡ at_flow place (aborted_where false t) host
aborted_not place t host = ap (λ (ls : List Live). record host { flows = ls }) (unchanged_at t place host.flows)

-- ----- all flows
-- the first ones are changed
abbrev first_changed : (Live → Live) → (count : ℕ) → List Live → List Live
first_changed f zero ls = ls
first_changed f (suc i) [] = []
first_changed f (suc i) (l ∷ ls) = f l ∷ first_changed f i ls

changed_length : (f : Live → Live) (i : ℕ) (ls : List Live) → length (first_changed f i ls) ≡ length ls
changed_length f zero ls = refl
changed_length f (suc i) [] = refl
changed_length f (suc i) (l ∷ ls) = ap suc (changed_length f i ls)

changed_next : (f : Live → Live) (i : ℕ) (ls : List Live) → slice_get (first_changed f i ls) i ≡ slice_get ls i
changed_next f zero ls = refl
changed_next f (suc i) [] = refl
changed_next f (suc i) (l ∷ ls) = changed_next f i ls

changed_more : (f g : Live → Live) (i : ℕ) (ls : List Live) (l : Live) → slice_get ls i ≡ Some l → g l ≡ f l
    → change_at i g (first_changed f i ls) ≡ first_changed f (suc i) ls
changed_more f g i [] l here same = absurd (cc (here))
changed_more f g zero (m ∷ ls) l here same =
    let first : m ≡ l = cc (here) in
    ap (λ (k : Live). k ∷ ls) (ap g first ∙ (same ∙ ap f (sym first)))
changed_more f g (suc i) (m ∷ ls) l here same =
    ap (λ (ks : List Live). f m ∷ ks) (changed_more f g i ls l here same)

changed_all : (f : Live → Live) (i : ℕ) (ls : List Live) → length ls ≤ i → first_changed f i ls ≡ map f ls
changed_all f zero [] past = refl
changed_all f (suc i) [] past = refl
changed_all f zero (l ∷ ls) past = absurd (omega (arith, past))
changed_all f (suc i) (l ∷ ls) past = ap (λ (ks : List Live). f l ∷ ks) (changed_all f i ls (omega (arith, past)))

-- what the kill makes of a flow
abbrev pub dies : (app t : ℕ) → Host → Live → Live
dies app t host l = aborted_where (is_concerned app host l) t l

-- The flows before this place are as the kill leaves them.
pub record Aborts (app t i : ℕ) (start host : Host) : Type 0 where
  pub made : host ≡ record start { flows = first_changed (dies app t start) i start.flows }

pub aborts_start : (app t : ℕ) (start : Host) → Aborts app t 0 start start
aborts_start app t start = record { made = refl }

pub aborts_count : (app t i : ℕ) (start host : Host) → Aborts app t i start host
    → length host.flows ≡ length start.flows
aborts_count app t i start host so_far =
    ap (λ (h : Host). length h.flows) so_far.made ∙ changed_length (dies app t start) i start.flows

get_below : (ls : List Live) (i : ℕ) → i < length ls → (l : Live) × (slice_get ls i ≡ Some l)
get_below [] i below = absurd (omega (arith, below))
get_below (l ∷ ls) zero below = (l, refl)
get_below (l ∷ ls) (suc i) below = get_below ls i (omega (arith, below))

pub aborts_more : (app t i : ℕ) (start host after : Host) → Aborts app t i start host → i < length start.flows
    → ((l : Live) → slice_get host.flows i ≡ Some l
    → after ≡ at_flow i (aborted_where (is_concerned app host l) t) host)
    → Aborts app t (i + 1) start after
aborts_more app t i start host after so_far below made =
    let f : Live → Live = dies app t start in
    let there = get_below start.flows i below in
    let l : Live = there.0 in
    let same : slice_get host.flows i ≡ Some l =
    ap (λ (h : Host). slice_get h.flows i) so_far.made ∙ (changed_next f i start.flows ∙ there.1) in
    let concerned : is_concerned app host l ≡ is_concerned app start l =
    ap (λ (h : Host). is_concerned app h l) so_far.made in
    let g : Live → Live = aborted_where (is_concerned app start l) t in
    let next : suc i ≡ i + 1 = omega arith in
    record {
      made = made l same
          ∙ (ap (λ (b : Bool). at_flow i (aborted_where b t) host) concerned
          ∙ (ap (at_flow i g) so_far.made
          ∙ (ap (λ (ls : List Live). record start { flows = ls }) (changed_more f g i start.flows l there.1 refl)
          ∙ ap (λ (n : ℕ). record start { flows = first_changed f n start.flows }) next)));
    }

pub aborts_all : (app t i : ℕ) (start host : Host) → Aborts app t i start host → length start.flows ≤ i
    → host ≡ record start { flows = map (dies app t start) start.flows }
aborts_all app t i start host so_far past =
    so_far.made
    ∙ ap (λ (ls : List Live). record start { flows = ls }) (changed_all (dies app t start) i start.flows past)
