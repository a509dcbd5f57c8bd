-- Which call an application tries, and on which flow.
use Rattle.std.proofs.Common.{◌≡◌, ℕ, ◌-◌, ◌≤◌, Bool, false, List, [], ◌∷◌, length, take, drop, get_or}
use Rattle.std.proofs.Common.{Option, Some, None, IfSome, refl, sym, ap, subst, ◌∙◌, arith}
use Rattle.std.specs.Prelude.{IfNone}
use Rattle.tas_model.specs.declared.entry.Call.{Call}
use Rattle.tas_model.specs.declared.entry.Call.TheVariants as calls
use Rattle.flow_state.specs.Calls.{call_of, offer_of}
use Rattle.flow_state.specs.declared.call.CallIn.{CallIn}
use Rattle.flow_state.specs.declared.call.CallIn.TheVariants as ins
use Rattle.local_host.specs.declared.attempts.Attempt.{Attempt}
use Rattle.scenario_text.specs.declared.scenario.Step.{Step}
use Rattle.scenario_text.specs.declared.scenario.Step.TheVariants as steps
use Rattle.scenario_ranges.specs.Ranges.{IsStepInRange}
use Rattle.scenario_runs.specs.Applications.{Script, bound_in, flow_of, is_killed_at, most, filling, asks_for}
use Rattle.scenario_host.specs.Tries.{IsTryOn, IsTrialOn, IsTrialAt, IsTrialFirst, IsTrialWhere, IsTrialIn}
use Rattle.scenario_host.proofs.Offers.{rest_offered}

-- a call that sends these bytes
abbrev pub IsSendOf : (bytes : List ℕ) → CallIn → Type 0
IsSendOf bytes (ins.Send b) = b.now ≡ bytes
IsSendOf bytes _ = ⊥

-- one that reads so many bytes at most
abbrev pub IsRecvOf : (asks : ℕ) → CallIn → Type 0
IsRecvOf asks (ins.Recv n) = n ≡ asks
IsRecvOf asks _ = ⊥

-- this call, on the socket of this name
trial_on : (name socket : List ℕ) (given : CallIn) (call : Call) (offer : List ℕ) (s : Script) (o : Option Attempt)
    → name ≡ socket → call_of given ≡ call → offer_of given ≡ offer → IfSome o (IsTryOn name given s)
    → IfNone o (flow_of (bound_in s.names name) ≡ None) → IsTrialOn socket call offer s o
trial_on name socket given call offer s None named is offers on none =
    ap (λ (z : List ℕ). flow_of (bound_in s.names z)) (sym named) ∙ none
trial_on name socket given call offer s (Some x) named is offers on none = (
  ap (λ (z : List ℕ). flow_of (bound_in s.names z)) (sym named) ∙ on.found,
  ap call_of on.calls ∙ is,
  ap offer_of on.calls ∙ offers,
)

send_is : (bytes : List ℕ) (given : CallIn) → IsSendOf bytes given
    → (call_of given ≡ calls.Send (length bytes)) × (offer_of given ≡ bytes)
send_is bytes (ins.Send b) same = (ap (λ (bs : List ℕ). calls.Send (length bs)) same, same)
send_is bytes given same = absurd same

recv_is : (asks : ℕ) (given : CallIn) → IsRecvOf asks given
    → (call_of given ≡ calls.Recv asks) × (offer_of given ≡ [])
recv_is asks (ins.Recv n) same = (ap (λ (k : ℕ). calls.Recv k) same, refl)
recv_is asks given same = absurd same

pub text_trial : (step : Step) (socket text name whole : List ℕ) (done : ℕ) (s : Script) (given : CallIn)
    (o : Option Attempt)
    → step ≡ steps.Send socket text → IsStepInRange step → name ≡ socket → whole ≡ text → done ≡ s.done
    → IsSendOf (take (length whole - done) (drop done whole)) given → IfSome o (IsTryOn name given s)
    → IfNone o (flow_of (bound_in s.names name) ≡ None) → IsTrialAt step s o
text_trial step socket text name whole done s given o is range named same so_far sent on none =
    let few : length text ≤ 4096 = (subst IsStepInRange is range).1 in
    let offered : take (length whole - done) (drop done whole) ≡ take most (drop s.done text) =
    rest_offered whole done (omega (arith, few, ap length same))
    ∙ (ap (λ (n : ℕ). take most (drop n whole)) so_far ∙ ap (λ (bs : List ℕ). take most (drop s.done bs)) same) in
    let call = send_is (take most (drop s.done text)) given
    (subst (λ (bs : List ℕ). IsSendOf bs given) offered sent) in
    subst (λ (z : Step). IsTrialAt z s o) (sym is) (trial_on name socket given _ _ s o named call.0 call.1 on none)

pub fill_trial : (step : Step) (socket name bytes : List ℕ) (count done : ℕ) (s : Script) (given : CallIn)
    (o : Option Attempt)
    → step ≡ steps.Fill socket count → name ≡ socket → bytes ≡ take most (drop done (filling count)) → done ≡ s.done
    → IsSendOf bytes given → IfSome o (IsTryOn name given s) → IfNone o (flow_of (bound_in s.names name) ≡ None)
    → IsTrialAt step s o
fill_trial step socket name bytes count done s given o is named offered so_far sent on none =
    let call = send_is (take most (drop s.done (filling count))) given
    (subst (λ (bs : List ℕ). IsSendOf bs given)
    (offered ∙ ap (λ (n : ℕ). take most (drop n (filling count))) so_far) sent) in
    subst (λ (z : Step). IsTrialAt z s o) (sym is) (trial_on name socket given _ _ s o named call.0 call.1 on none)

pub recv_trial : (step : Step) (socket name : List ℕ) (count done asks : ℕ) (s : Script) (given : CallIn)
    (o : Option Attempt)
    → step ≡ steps.Recv socket count → name ≡ socket → asks ≡ asks_for (Some count) done → done ≡ s.done
    → IsRecvOf asks given → IfSome o (IsTryOn name given s) → IfNone o (flow_of (bound_in s.names name) ≡ None)
    → IsTrialAt step s o
recv_trial step socket name count done asks s given o is named wanted so_far same on none =
    let call = recv_is (asks_for (Some count) s.done) given
    (subst (λ (n : ℕ). IsRecvOf n given) (wanted ∙ ap (asks_for (Some count)) so_far) same) in
    subst (λ (z : Step). IsTrialAt z s o) (sym is) (trial_on name socket given _ _ s o named call.0 call.1 on none)

pub drain_trial : (step : Step) (socket name : List ℕ) (done asks : ℕ) (s : Script) (given : CallIn)
    (o : Option Attempt)
    → step ≡ steps.Drain socket → name ≡ socket → asks ≡ asks_for None done → done ≡ s.done → IsRecvOf asks given
    → IfSome o (IsTryOn name given s) → IfNone o (flow_of (bound_in s.names name) ≡ None) → IsTrialAt step s o
drain_trial step socket name done asks s given o is named wanted so_far same on none =
    let call = recv_is (asks_for None s.done) given
    (subst (λ (n : ℕ). IsRecvOf n given) (wanted ∙ ap (asks_for None) so_far) same) in
    subst (λ (z : Step). IsTrialAt z s o) (sym is) (trial_on name socket given _ _ s o named call.0 call.1 on none)

-- a call that offers nothing
pub plain_trial : (step at : Step) (socket name : List ℕ) (given : CallIn) (s : Script) (o : Option Attempt)
    → step ≡ at → ((q : Option Attempt) → IsTrialOn socket (call_of given) (offer_of given) s q → IsTrialAt at s q)
    → name ≡ socket → IfSome o (IsTryOn name given s) → IfNone o (flow_of (bound_in s.names name) ≡ None)
    → IsTrialAt step s o
plain_trial step at socket name given s o is its named on none =
    subst (λ (z : Step). IsTrialAt z s o) (sym is) (its o (trial_on name socket given _ _ s o named refl refl on none))

-- ----- the step under way
first_of : (t : ℕ) (step : Step) (rest : List Step) (s : Script) (o : Option Attempt)
    → is_killed_at t s.kill ≡ false → s.left ≡ step ∷ rest → IsTrialAt step s o → IsTrialIn t s o
first_of t step rest s o alive left at =
    subst (λ (b : Bool). IsTrialWhere b s o) (sym alive)
    (subst (λ (l : List Step). IsTrialFirst l s o) (sym left) at)

pub first_trial : (t : ℕ) (step : Step) (left : List Step) (s : Script) (o : Option Attempt)
    → false ≡ is_killed_at t s.kill → left ≡ s.left → 1 ≤ length left → step ≡ get_or left 0 step
    → IsTrialAt step s o → IsTrialIn t s o
first_trial t step [] s o alive left some is at = absurd (omega (arith, some))
first_trial t step (z ∷ zs) s o alive left some is at =
    first_of t z zs s o (sym alive) (sym left) (subst (λ (y : Step). IsTrialAt y s o) is at)
