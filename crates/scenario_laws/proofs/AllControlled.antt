-- The rate of each flow is controlled where it is due, and only there.
use Rattle.std.proofs.Common.{◌≡◌, ℕ, ◌≤◌, ◌&&◌, Bool, true, false, List, [], ◌∷◌, ◌++◌, refl, sym, subst}
use Rattle.std.proofs.Common.{ap, ◌∙◌, arith, append_assoc, append-nil, max}
use Rattle.tas_model.specs.declared.entry.HostParams.{HostParams}
use Rattle.tas_model.specs.declared.entry.Entry.{Entry}
use Rattle.tas_model.specs.declared.entry.Caller.{Caller}
use Rattle.tas_model.specs.declared.entry.Call.{Call}
use Rattle.tas_model.specs.declared.entry.Call.TheVariants as calls
use Rattle.tas_model.specs.LegalHistory.{last_tick, replay}
use Rattle.tas_model.proofs.Tests.{on_cond}
use Rattle.host_rounds.specs.Lists.{Each}
use Rattle.host_rounds.specs.Hosts.{Live, is_over, is_running, with_call, flow_params, flows_of}
use Rattle.host_rounds.specs.Upkeep.{swept, is_control_tick, controlled_where, timed, timed_unless}
use Rattle.host_rounds.specs.Passing.{is_tick, IsUpTo}
use Rattle.host_rounds.specs.Scripts.{Site, Scripts}
use Rattle.host_rounds.specs.Moves.{AreByMoves}
use Rattle.host_rounds.specs.Rounds.{Due, Round}
use Rattle.host_rounds.proofs.AllLegal.{AreLegal}
use Rattle.host_rounds.proofs.Grows.{call_grows, grew_low}
use Rattle.scenario_laws.specs.Controls.{is_control, is_open, is_due_behind, AreControlled, IsControlled}
use Rattle.scenario_laws.proofs.EachFlow.{IsPlain, Keeps, round_on}

-- ----- one history
-- an entry that is no Control, and behind which none is due
plain_push : (p : HostParams) (due : Bool) (earlier xs : List Entry) (x : Entry) → AreControlled p due earlier xs
    → is_control x.call ≡ false → is_due_behind p (earlier ++ xs) x ≡ false
    → AreControlled p due earlier (xs ++ x ∷ [])
plain_push p due earlier [] x right plain last =
    (plain ∙ sym right, subst (λ (h : List Entry). is_due_behind p h x ≡ false) (append-nil earlier) last)
plain_push p due earlier (y ∷ xs) x right plain last = (
  right.0,
  plain_push p (is_due_behind p earlier y) (earlier ++ y ∷ []) xs x right.1 plain
      (subst (λ (h : List Entry). is_due_behind p h x ≡ false) (sym (append_assoc earlier (y ∷ []) xs)) last),
)

-- an entry behind which a Control is due, and that Control
pair_push : (p : HostParams) (due : Bool) (earlier xs : List Entry) (x y : Entry) → AreControlled p due earlier xs
    → is_control x.call ≡ false → is_due_behind p (earlier ++ xs) x ≡ true → y.call ≡ calls.Control
    → AreControlled p due earlier ((xs ++ x ∷ []) ++ y ∷ [])
pair_push p due earlier [] x y right plain last control = (
  plain ∙ sym right,
  (
    ap is_control control
        ∙ sym (subst (λ (h : List Entry). is_due_behind p h x ≡ true) (append-nil earlier) last),
    ap (λ (c : Call). is_tick c && (is_control_tick p.fixed y.tick
        && is_open (replay p ((earlier ++ x ∷ []) ++ y ∷ []))))
        control,
  ),
)
pair_push p due earlier (z ∷ xs) x y right plain last control = (
  right.0,
  pair_push p (is_due_behind p earlier z) (earlier ++ z ∷ []) xs x y right.1 plain
      (subst (λ (h : List Entry). is_due_behind p h x ≡ true) (sym (append_assoc earlier (z ∷ []) xs)) last) control,
)

-- ----- one flow
abbrev pub Controlled : (tick : ℕ) → Live → Type 0
Controlled t l = IsControlled l.flow × IsUpTo t l

up_to : (by : Caller) (t : ℕ) (call : Call) (offer : List ℕ) (l : Live) → IsUpTo t l
    → IsUpTo t (with_call l by t call offer)
up_to by t call offer l low = grew_low t l.flow.entries _ low (call_grows by t call offer l low)

not_due : (l : Live) (x : Entry) → is_tick x.call ≡ false → is_due_behind l.flow.params l.flow.entries x ≡ false
not_due l x h =
    ap (λ (b : Bool). b && (is_control_tick l.flow.params.fixed x.tick
    && is_open (replay l.flow.params (l.flow.entries ++ x ∷ [])))) h

call_controlled : (t : ℕ) (by : Caller) (call : Call) (offer : List ℕ) (l : Live) → IsPlain call → Controlled t l
    → Controlled t (with_call l by t call offer)
call_controlled t by call offer l plain p = (
  plain_push l.flow.params false [] l.flow.entries _ p.0 plain.control (not_due l _ plain.tick),
  up_to by t call offer l p.1,
)

-- what stands behind the Tick of this tick
behind : (due : Bool) (t : ℕ) (l : Live) (x : Entry) → x.call ≡ calls.Tick → x.tick ≡ t
    → (is_control_tick l.flow.params.fixed t && is_open (replay l.flow.params (l.flow.entries ++ x ∷ []))) ≡ due
    → is_due_behind l.flow.params l.flow.entries x ≡ due
behind due t l x call tick h =
    ap (λ (c : Call). is_tick c
    && (is_control_tick l.flow.params.fixed x.tick && is_open (replay l.flow.params (l.flow.entries ++ x ∷ [])))) call
    ∙ ap (λ (u : ℕ). is_control_tick l.flow.params.fixed u
    && is_open (replay l.flow.params (l.flow.entries ++ x ∷ []))) tick
    ∙ h

due_controlled : (due : Bool) (t : ℕ) (by : Caller) (l : Live) → Controlled t l
    → (is_control_tick l.flow.params.fixed t && is_running (with_call l by t calls.Tick [])) ≡ due
    → Controlled t (controlled_where due by t (with_call l by t calls.Tick []))
due_controlled true t by l p h =
    let low : last_tick 0 l.flow.entries ≤ t = p.1 in
    let now : max t (last_tick 0 l.flow.entries) ≡ t = omega arith in (
      pair_push l.flow.params false [] l.flow.entries _ _ p.0 refl (behind true t l _ refl now h) refl,
      up_to by t calls.Control [] (with_call l by t calls.Tick []) (up_to by t calls.Tick [] l p.1),
    )
due_controlled false t by l p h =
    let low : last_tick 0 l.flow.entries ≤ t = p.1 in
    let now : max t (last_tick 0 l.flow.entries) ≡ t = omega arith in (
      plain_push l.flow.params false [] l.flow.entries _ p.0 refl (behind false t l _ refl now h),
      up_to by t calls.Tick [] l p.1,
    )

timed_controlled : (t : ℕ) (by : Caller) (l : Live) → Controlled t l → Controlled t (timed by t l)
timed_controlled t by l p = by_over (is_over l) where
  by_over : (b : Bool) → Controlled t (timed_unless b by t l)
  by_over true = p
  by_over false =
      due_controlled (is_control_tick l.flow.params.fixed t && is_running (with_call l by t calls.Tick [])) t by l p
      refl

swept_controlled : (t : ℕ) (l : Live) → Controlled t l → Controlled t (swept l)
swept_controlled t l p = on_cond (Controlled t) (is_over l) _ _ (λ h. p) (λ h. p)

opened_controlled : (t : ℕ) (x : Entry) (p : HostParams) → IsPlain x.call → x.tick ≡ t
    → AreControlled p false [] (x ∷ []) × (last_tick 0 (x ∷ []) ≤ t)
opened_controlled t x p plain now = (
  (plain.control, ap (λ (b : Bool). b && (is_control_tick p.fixed x.tick && is_open (replay p (x ∷ [])))) plain.tick),
  omega arith,
)

pub keeps_controlled : (t : ℕ) → Keeps (Controlled t) t
keeps_controlled t = record {
  call = call_controlled t;
  timed = timed_controlled t;
  swept = swept_controlled t;
  holder = λ holder l p. p;
  opened = λ host slot tuple scale holder x plain now. opened_controlled t x (flow_params host.params scale) plain now;
}

-- ----- all flows
abbrev pub AreAllControlled : List Live → Type 0
AreAllControlled ls = Each (λ (l : Live). IsControlled l.flow) ls

with_low : (t : ℕ) (ls : List Live) → AreAllControlled ls → Each (IsUpTo t) ls → Each (Controlled t) ls
with_low t [] each low = tt
with_low t (l ∷ ls) each low = ((each.0, low.0), with_low t ls each.1 low.1)

without_low : (t : ℕ) (ls : List Live) → Each (Controlled t) ls → AreAllControlled ls
without_low t [] each = tt
without_low t (l ∷ ls) each = (each.0.0, without_low t ls each.1)

pub round_controlled : {S A : Type 0} (scripts : Scripts S A) (t : ℕ) (due : Due A) (before after : Site S)
    → AreByMoves scripts → AreLegal before.host → Each (IsUpTo t) before.host.flows
    → Round scripts t due before after → AreAllControlled before.host.flows → AreAllControlled after.host.flows
round_controlled scripts t due before after by_moves legal low round each =
    without_low t after.host.flows
    (round_on (Controlled t) scripts t due before after by_moves (keeps_controlled t) legal round
    (with_low t before.host.flows each low))

pub flows_controlled : (ls : List Live) → AreAllControlled ls → Each IsControlled (flows_of ls)
flows_controlled [] each = tt
flows_controlled (l ∷ ls) each = (each.0, flows_controlled ls each.1)
