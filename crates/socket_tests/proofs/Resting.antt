-- Two passes with a turn each, and what they are once the turns are back.
use Rattle.std.proofs.Common.{◌≡◌, ℕ, zero, suc, ◌+◌, cond, true, List, [], ◌∷◌, ◌++◌, map, arith, tests}
use Rattle.std.proofs.Common.{ap, sym, ◌∙◌, refl, subst}
use Rattle.std.specs.Prelude.{◌==◌, Result, Ok, Err, IfOk}
use Rattle.std.proofs.lemmas.List.{map-append}
use Rattle.atomic_table.specs.Seated.{TableId}
use Rattle.slow_handshake.specs.Openings.{Openings}
use Rattle.flow_lock.specs.Callers.{IsTurned}
use Rattle.flow_lock.specs.Orders.{Order, total, once_below}
use Rattle.flow_lock.specs.Passes.{Seen, with_turns, peeled}
use Rattle.flow_lock.specs.Plays.{IsOrdered}
use Rattle.flow_lock.specs.Steps.{HasTurn, HasAll, IsAlone, noted}
use Rattle.flow_lock.specs.declared.view.Deed.{Deed}
use Rattle.flow_lock.specs.declared.view.Turn.{Turn}
use Rattle.flow_lock.specs.declared.view.View.{View}
use Rattle.app_reaper.specs.Reaping.{IsEnded, IsAtRest, IsHeld}
use Rattle.app_reaper.specs.declared.ended.Ended.{Ended}
use Rattle.app_reaper.proofs.Walking.{same_pins}
use Rattle.libtas_sockets.specs.Apps.{Application}
use Rattle.tas_model.specs.declared.entry.FlowId.{FlowId}
use Rattle.libtas_sockets.specs.Connecting.{Opener, IsConnection}
use Rattle.libtas_sockets.specs.Ending.{IsLeftIdle}
use Rattle.libtas_sockets.specs.declared.socket.Socket.{Socket}
use Rattle.libtas_sockets.specs.declared.socket_error.SocketError.{SocketError}
use Rattle.socket_tests.specs.Going.{turns_of, HasFirstTurn, HasSecondTurn}

-- ----- turns by their names
no_names : (n : ℕ) (ns : List ℕ) → ◌≡◌ {A = List ℕ} [] (n ∷ ns) → ⊥
no_names n ns e = absurd (cc (e))

pub has_turn : (v : View) (n : ℕ) (ns : List ℕ) → turns_of v ≡ n ∷ ns → HasTurn v
has_turn v n ns e = by_turns v.turns refl
  where
    by_turns : (ts : List Turn) → v.turns ≡ ts → HasTurn v
    by_turns [] q = absurd (no_names n ns (sym (ap (map (λ (t : Turn). t.name)) q) ∙ e))
    by_turns (t ∷ ts) q = (t, ts, q)

named_by : (p : ℕ) (ts : List Turn) → total (λ (t : Turn). cond {A = ℕ} (t.name == p) 1 0) ts
    ≡ total (λ n. cond {A = ℕ} (n == p) 1 0) (map (λ (t : Turn). t.name) ts)
named_by p [] = refl
named_by p (t ∷ ts) = ap (λ n. cond {A = ℕ} (t.name == p) 1 0 + n) (named_by p ts)

two_named : (p : ℕ) → total (λ n. cond {A = ℕ} (n == p) 1 0) (0 ∷ 1 ∷ []) ≡ once_below p 2
two_named zero = refl
two_named (suc zero) = refl
two_named (suc (suc p)) = grind (arith, tests)

-- Both turns are there, and no other was made.
pub has_all : (v w : View) → turns_of v ≡ 0 ∷ [] → turns_of w ≡ 1 ∷ [] → v.made ≡ 2 → HasAll (with_turns v w)
has_all v w a b made p =
    let names : map (λ (t : Turn). t.name) (v.turns ++ w.turns) ≡ 0 ∷ 1 ∷ [] =
    map-append (λ (t : Turn). t.name) v.turns w.turns ∙ (ap (λ l. l ++ turns_of w) a ∙ ap (λ l. (0 ∷ []) ++ l) b) in
    named_by p (v.turns ++ w.turns) ∙ (ap (total (λ n. cond {A = ℕ} (n == p) 1 0)) names ∙ (two_named p
    ∙ ap (once_below p) (sym made)))

-- ----- an application connects
-- what is written down in a turn leaves its name
still_named : (ds : List Deed) (won lost : List FlowId) (ts : List Turn)
    → map (λ (t : Turn). t.name) (noted ds won lost ts) ≡ map (λ (t : Turn). t.name) ts
still_named ds won lost [] = refl
still_named ds won lost (t ∷ ts) = refl

pub first_connects : (t : TableId) (raddr rport tick : ℕ) (o : Openings) (a b : Application) (s n : Opener)
    (x : Result Socket SocketError) → IsConnection raddr rport tick o a b s n x → HasFirstTurn t s.pass
    → IfOk x (λ q. HasFirstTurn t n.pass)
first_connects t raddr rport tick o a b s n (Ok q) c is =
    let e = c.1.1 in record {
      table = ap (λ (y : Opener). y.pass.table) e ∙ is.table;
      turns = ap (λ (y : Opener). turns_of y.pass.view) e ∙ (still_named _ _ _ s.pass.view.turns ∙ is.turns);
      baton = ap (λ (y : Opener). y.pass.view.baton) e ∙ is.baton;
      made = ap (λ (y : Opener). y.pass.view.made) e ∙ is.made;
      held = ap (λ (y : Opener). y.pass.view.held) e ∙ is.held;
    }
first_connects t raddr rport tick o a b s n (Err e) c is = tt

pub second_connects : (t : TableId) (raddr rport tick : ℕ) (o : Openings) (a b : Application) (s n : Opener)
    (x : Result Socket SocketError) → IsConnection raddr rport tick o a b s n x → HasSecondTurn t a.pass
    → a.begun ≡ [] → IfOk x (λ q. HasSecondTurn t b.pass × (b.begun ≡ []))
second_connects t raddr rport tick o a b s n (Ok q) c is begun =
    let j = c.2 in
    let e = j.1.3 in (
      record {
        table = ap (λ (y : Application). y.pass.table) j.2 ∙ is.table;
        turns = ap turns_of e ∙ (still_named [] (c.0 ∷ []) [] a.pass.view.turns ∙ is.turns);
        plain = (ap (λ (v : View). v.slow) e ∙ is.plain.0, ap (λ (v : View). v.baton) e ∙ is.plain.1);
      },
      ap (λ (y : Application). y.begun) j.2 ∙ begun,
    )
second_connects t raddr rport tick o a b s n (Err e) c is begun = tt

-- ----- the turns come back
pub second_turned : (t : TableId) (s : Seen) → HasSecondTurn t s → IsTurned t s
second_turned t s h = (h.table, has_turn s.view 1 [] h.turns, h.plain.0, h.plain.1)

pub rests : (t : TableId) (a : Application) (e : Ended) (p : Seen) → IsLeftIdle a e → IsEnded t e
    → HasSecondTurn t a.pass → p ≡ record (e.pass) { view = peeled e.pass.view } → IsAtRest t (record e { pass = p })
rests t a e p idle ended h q =
    let same : e.pass ≡ a.pass = idle.2 in record {
      own = ap (λ (s : Seen). s.table) q ∙ ended.turned.0;
      plain = (ap (λ (s : Seen). s.view.slow) q ∙ ended.turned.2, ap (λ (s : Seen). s.view.baton) q ∙ ended.turned.3);
      quiet = ap (λ (s : Seen). s.view.turns) q;
      pins = same_pins t.slots e.pass.view p.view e.pins.list (ap (λ (s : Seen). s.view.pins) q) ended.pins;
      held = subst (IsHeld p.view e.pins.list) (sym idle.0)
          (ap (λ (s : Seen). s.view.held) q ∙ subst (IsHeld e.pass.view e.pins.list) idle.0 ended.held);
    }

pub alone_again : (v w : View) (order : Order) → IsOrdered order v w → v.baton ≡ true → v.held ≡ []
    → IsAlone w × (w.held ≡ [])
alone_again v w order is baton held =
    let e = is.3 in (
      (ap (λ (x : View). x.baton) e ∙ baton, ap (λ (x : View). x.turns) e, ap (λ (x : View). x.made) e),
      ap (λ (x : View). x.held) e ∙ held,
    )
