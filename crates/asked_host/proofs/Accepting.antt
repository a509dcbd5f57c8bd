-- A flow that may be accepted, and flows of which one changes.
use Rattle.std.proofs.Common.{◌≡◌, ◌<◌, ◌&&◌, ℕ, zero, suc, Bool, true, false, List, [], ◌∷◌, length, position}
use Rattle.std.proofs.Common.{slice_get, get_or, Some, refl, ap, sym, ◌∙◌, arith}
use Rattle.std.proofs.lemmas.List.Quantifiers.{position-Some}
use Rattle.tas_model.specs.declared.entry.Call.{Call}
use Rattle.host_rounds.specs.Lists.{change_at}
use Rattle.host_rounds.specs.Hosts.{Live, Host, Holder, at_flow, is_ready, is_running}
use Rattle.flow_state.specs.declared.call.CallIn.{CallIn}
use Rattle.flow_state.specs.declared.call.CallIn.TheVariants as ins
use Rattle.flow_state.specs.Calls.{offer_of}
use Rattle.asked_host.specs.Asking.{IsEndCall, asked_by, held_by}

-- ----- one flow changes
pub length_at : (f : Live → Live) (n : ℕ) (ls : List Live) → length (change_at n f ls) ≡ length ls
length_at f n [] = refl
length_at f zero (l ∷ ls) = refl
length_at f (suc n) (l ∷ ls) = ap suc (length_at f n ls)

pub still_below : (f : Live → Live) (place : ℕ) (before after : Host) → after ≡ at_flow place f before
    → place < length before.flows → place < length after.flows
still_below f place before after made below =
    omega (arith, below, length_at f place before.flows, ap (λ (h : Host). length h.flows) made)

-- a call, and then another holder
pub held_after : (holder : Holder) (app place t : ℕ) (call : Call) (before mid after : Host)
    → mid ≡ asked_by app place t call [] before → after ≡ held_by holder place mid
    → after ≡ held_by holder place (asked_by app place t call [] before)
held_after holder app place t call before mid after made given = given ∙ ap (held_by holder place) made

-- ----- a call that ends a socket
-- it offers nothing
pub no_offer : (call : CallIn) → IsEndCall call → offer_of call ≡ []
no_offer ins.Close ends = refl
no_offer ins.Abort ends = refl
no_offer call ends = absurd ends

-- ----- a flow that may be accepted
pub found_below : (test : Live → Bool) (ls : List Live) (place : ℕ) → position test ls ≡ Some place → place < length ls
found_below test [] place found = absurd (cc (found))
found_below test (l ∷ ls) place found = (position-Some test (l ∷ ls) place l found).0

or_at : (ls : List Live) (place : ℕ) (l : Live) → slice_get ls place ≡ Some l → get_or ls place l ≡ l
or_at [] place l here = absurd (cc (here))
or_at (m ∷ ls) zero l here = cc (here)
or_at (m ∷ ls) (suc place) l here = or_at ls place l here

right : (a b : Bool) → (a && b) ≡ true → b ≡ true
right true b h = h
right false b h = absurd (cc (h))

pub ready_runs : (port : ℕ) (ls : List Live) (place : ℕ) → position (is_ready port) ls ≡ Some place → (l : Live)
    → slice_get ls place ≡ Some l → is_running l ≡ true
ready_runs port ls place found l here =
    let ready : is_ready port l ≡ true =
    ap (is_ready port) (sym (or_at ls place l here)) ∙ (position-Some (is_ready port) ls place l found).1 in
    right _ (is_running l) ready
