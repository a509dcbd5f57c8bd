-- How far one step moves an endpoint, whatever the call.
use Rattle.std.proofs.Common.{◌≡◌, ℕ, ◌+◌, ◌≤◌, true, List, [], ◌++◌, length, take, max, Option, Some, None, IsSome}
use Rattle.std.proofs.Common.{refl, sym, ap, ◌∙◌, arith, append-nil}
use Rattle.tas_model.specs.declared.entry.Reason.{Reason}
use Rattle.tas_model.specs.declared.entry.Reply.{Reply}
use Rattle.tas_model.specs.Endpoint.{Endpoint, Sending, Rate, next_place}
use Rattle.tas_model.specs.Segments.{Outcome, unchanged}
use Rattle.tas_model.specs.Outputs.{given_bytes}
use Rattle.tas_model.specs.LegalHistory.{taken_bytes}
use Rattle.tas_model.specs.Valid.{Valid}

-- Nothing that was received or read is forgotten, the peer's end stays, and windows that go are scaled by no less.
pub record KeepsRoom (e f : Endpoint) : Type 0 where
  pub params : f.params ≡ e.params
  pub got : length e.rx.got ≤ length f.rx.got
  pub read : e.rx.read ≤ f.rx.read
  pub ended : e.rx.ended ≡ true → f.rx.ended ≡ true
  pub shift : e.scaling.rs ≤ f.scaling.rs

-- Of places: nothing passes what was sent or received before by more than a window. Of bytes: what is accepted and what
-- is read grow by what the reply shows. Of the bucket: data is paid for.
pub record Moves (fill paid : ℕ) (e : Endpoint) (o : Outcome) : Type 0 where
  pub una : o.state.tx.una ≤ e.tx.max
  pub read : o.state.rx.read ≤ max e.rx.read (length e.rx.got)
  pub wl1 : o.state.tx.wl1 ≤ max e.tx.wl1 (next_place e.rx + 1048576)
  pub wl2 : o.state.tx.wl2 ≤ max e.tx.wl2 e.tx.max
  pub iss : o.state.iss ≡ e.iss
  pub keeps : KeepsRoom e o.state
  pub shut : e.tx.shut ≡ true → (o.state.tx.shut ≡ true) × (taken_bytes o.reply ≡ [])
  pub out : o.state.tx.out ≡ e.tx.out ++ taken_bytes o.reply
  pub bytes : take o.state.rx.read o.state.rx.got ≡ take e.rx.read e.rx.got ++ given_bytes o.reply
  pub bucket : IsSome e.peer → IsSome o.state.peer × (paid + o.state.rate.tokens ≤ e.rate.tokens + fill)

abbrev pub LeavesMoved : (fill paid : ℕ) → Endpoint → Option Outcome → Type 0
LeavesMoved fill paid e None = Unit {0}
LeavesMoved fill paid e (Some o) = Moves fill paid e o

-- the reply shows no bytes of the application's
abbrev pub IsSilent : Reply → Type 0
IsSilent reply = (given_bytes reply ≡ []) × (taken_bytes reply ≡ [])

pub grown_by_none : (xs ys : List ℕ) → ys ≡ [] → xs ≡ xs ++ ys
grown_by_none xs ys none = sym (append-nil xs) ∙ ap (λ (bs : List ℕ). xs ++ bs) (sym none)

-- nothing is accepted, received or read
pub moves_sending : (fill paid : ℕ) (e : Endpoint) (tx : Sending) (rate : Rate) (reason : Option Reason) (reply : Reply)
    → Valid e
    → tx.out ≡ e.tx.out → (e.tx.shut ≡ true → tx.shut ≡ true) → tx.una ≡ e.tx.una → tx.wl1 ≡ e.tx.wl1
    → tx.wl2 ≡ e.tx.wl2 → paid + rate.tokens ≤ e.rate.tokens + fill → IsSilent reply
    → Moves fill paid e (record { state = record e { tx = tx; rate = rate; reason = reason }; reply = reply })
moves_sending fill paid e tx rate reason reply v out shut una wl1 wl2 pays silent = record {
  una = omega (arith, una, v.tx.una, v.tx.nxt);
  read = omega arith;
  wl1 = omega (arith, wl1);
  wl2 = omega (arith, wl2);
  iss = refl;
  keeps = record {
    params = refl;
    got = omega arith;
    read = omega arith;
    ended = λ h. h;
    shift = omega arith;
  };
  shut = λ s. (shut s, silent.1);
  out = out ∙ grown_by_none e.tx.out (taken_bytes reply) silent.1;
  bytes = grown_by_none (take e.rx.read e.rx.got) (given_bytes reply) silent.0;
  bucket = λ s. (s, pays);
}

-- nothing changes but the reason
pub moves_reason : (e : Endpoint) (reason : Option Reason) (reply : Reply) → Valid e → IsSilent reply
    → Moves 0 0 e (record { state = record e { reason = reason }; reply = reply })
moves_reason e reason reply v silent =
    moves_sending 0 0 e e.tx e.rate reason reply v refl (λ s. s) refl refl refl (omega arith) silent

pub moves_nothing : (e : Endpoint) (reply : Reply) → Valid e → IsSilent reply → Moves 0 0 e (unchanged e reply)
moves_nothing e reply v silent = moves_reason e e.reason reply v silent
