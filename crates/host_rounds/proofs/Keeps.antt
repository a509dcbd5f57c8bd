-- What is done to a flow keeps its opening: its slot, its four-tuple, its parameters and its first number.
use Rattle.std.proofs.Common.{◌≡◌, ℕ, zero, suc, Bool, true, false, cond, List, [], ◌∷◌, ◌++◌, length, map, fold}
use Rattle.std.proofs.Common.{count_by, Option, Some, None, refl, ap, ◌∙◌, ◌+◌}
use Rattle.tas_model.specs.declared.entry.HostParams.{HostParams}
use Rattle.tas_model.specs.declared.entry.Entry.{Entry}
use Rattle.tas_model.specs.declared.entry.Caller.{Caller}
use Rattle.tas_model.specs.declared.entry.Call.{Call}
use Rattle.tas_model.specs.declared.entry.Call.TheVariants as calls
use Rattle.tas_model.specs.NextSegment.{Going, going}
use Rattle.tas_model.specs.LegalHistory.{Legal}
use Rattle.tas_model.proofs.Tests.{on_cond}
use Rattle.host_rounds.specs.Lists.{Each, change_first, change_at}
use Rattle.host_rounds.specs.Hosts.{Live, endpoint, is_over, with_call, flows_of}
use Rattle.host_rounds.specs.Upkeep.{swept, controlled, timed, timed_unless, emits, emits_where}
use Rattle.host_rounds.specs.Openings.{Opening, number_shown, opening_of, openings_of}
use Rattle.host_rounds.specs.Histories.{HasHistory}
use Rattle.host_rounds.proofs.Steps.{tick_steps}
use Rattle.host_rounds.proofs.Flows.{call_kept, on_control}

-- ----- openings of a list
abbrev pub openings : List Live → List Opening
openings ls = openings_of (flows_of ls)

pub openings_push : (ls : List Live) (l : Live) → openings (ls ++ l ∷ []) ≡ openings ls ++ opening_of l.flow ∷ []
openings_push [] l = refl
openings_push (m ∷ ls) l = ap (λ (os : List Opening). opening_of m.flow ∷ os) (openings_push ls l)

count_from : (n : ℕ) (test : Opening → Bool) (ls : List Live)
    → fold (λ (k : ℕ) (o : Opening). k + cond (test o) 1 0) n (openings ls)
    ≡ fold (λ (k : ℕ) (l : Live). k + cond (test (opening_of l.flow)) 1 0) n ls
count_from n test [] = refl
count_from n test (l ∷ ls) = count_from (n + cond (test (opening_of l.flow)) 1 0) test ls

pub count_is : (test : Opening → Bool) (ls : List Live)
    → count_by test (openings ls) ≡ count_by (λ (l : Live). test (opening_of l.flow)) ls
count_is test ls = count_from 0 test ls

pub length_is : (ls : List Live) → length (openings ls) ≡ length ls
length_is [] = refl
length_is (l ∷ ls) = ap suc (length_is ls)

-- ----- what keeps an opening
abbrev pub Keeps : (Live → Live) → Type 0
Keeps f = (l : Live) → HasHistory l → opening_of (f l).flow ≡ opening_of l.flow

pub map_keeps : (f : Live → Live) → Keeps f → (ls : List Live) → Each HasHistory ls → openings (map f ls) ≡ openings ls
map_keeps f keeps [] each = refl
map_keeps f keeps (l ∷ ls) each =
    ap (λ (o : Opening). o ∷ openings (map f ls)) (keeps l each.0)
    ∙ ap (λ (os : List Opening). opening_of l.flow ∷ os) (map_keeps f keeps ls each.1)

pub first_keeps : (test : Live → Bool) (f : Live → Live) → Keeps f → (ls : List Live) → Each HasHistory ls
    → openings (change_first test f ls) ≡ openings ls
first_keeps test f keeps [] each = refl
first_keeps test f keeps (l ∷ ls) each = by_test (test l) (first_keeps test f keeps ls each.1) where
  by_test : (b : Bool) → openings (change_first test f ls) ≡ openings ls
      → openings (elim b [ true ↦ f l ∷ ls | false ↦ l ∷ change_first test f ls ]) ≡ opening_of l.flow ∷ openings ls
  by_test true rest = ap (λ (o : Opening). o ∷ openings ls) (keeps l each.0)
  by_test false rest = ap (λ (os : List Opening). opening_of l.flow ∷ os) rest

pub at_keeps : (n : ℕ) (f : Live → Live) → Keeps f → (ls : List Live) → Each HasHistory ls
    → openings (change_at n f ls) ≡ openings ls
at_keeps n f keeps [] each = refl
at_keeps zero f keeps (l ∷ ls) each = ap (λ (o : Opening). o ∷ openings ls) (keeps l each.0)
at_keeps (suc n) f keeps (l ∷ ls) each =
    ap (λ (os : List Opening). opening_of l.flow ∷ os) (at_keeps n f keeps ls each.1)

shown_push : (params : HostParams) (h : List Entry) (x : Entry) → Legal params h
    → number_shown (h ++ x ∷ []) ≡ number_shown h
shown_push params [] x legal = absurd legal
shown_push params (y ∷ h) x legal = refl

pub call_keeps : (by : Caller) (t : ℕ) (call : Call) (offer : List ℕ)
    → Keeps (λ (l : Live). with_call l by t call offer)
call_keeps by t call offer l legal =
    ap (λ (n : Option ℕ). of_number l n) (shown_push l.flow.params l.flow.entries _ legal)
  where
    of_number : Live → Option ℕ → Opening
    of_number m n = record { id = m.flow.id; tuple = m.flow.tuple; params = m.flow.params; number = n }

pub swept_keeps : Keeps swept
swept_keeps l legal = on_cond (λ (m : Live). opening_of m.flow ≡ opening_of l.flow) (is_over l) _ _ (λ t. refl)
    (λ f. refl)

controlled_keeps : (by : Caller) (t : ℕ) → Keeps (controlled by t)
controlled_keeps by t l legal =
    on_control (λ (m : Live). opening_of m.flow ≡ opening_of l.flow) _ by t l
    (λ h. call_keeps by t calls.Control [] l legal) (λ h. refl)

pub timed_keeps : (by : Caller) (t : ℕ) → Keeps (timed by t)
timed_keeps by t l legal = by_over (is_over l) refl where
  by_over : (b : Bool) → is_over l ≡ b → opening_of (timed_unless b by t l).flow ≡ opening_of l.flow
  by_over true h = refl
  by_over false h =
      let m : Live = with_call l by t calls.Tick [] in
      let kept : HasHistory m = call_kept l by t calls.Tick [] legal tt (λ u. tick_steps (endpoint l) u _ h) in
      controlled_keeps by t m kept ∙ call_keeps by t calls.Tick [] l legal

pub emits_keeps : (by : Caller) (t : ℕ) → Keeps (emits by t)
emits_keeps by t l legal = by_going (going (endpoint l)) where
  by_going : (o : Option Going) → opening_of (emits_where o by t l).flow ≡ opening_of l.flow
  by_going None = refl
  by_going (Some g) = call_keeps by t calls.Emit [] l legal
