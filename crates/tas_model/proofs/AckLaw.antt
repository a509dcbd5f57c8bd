-- Each segment that is sent acknowledges the next place, and its bytes are those to be sent.
use Rattle.std.proofs.Common.{◌≡◌, ℕ, ◌+◌, ◌-◌, Bool, true, false, cond, ◌&&◌, List, [], ◌∷◌, ◌++◌, length, take, drop}
use Rattle.std.proofs.Common.{Option, Some, None, refl, sym, subst, ap, ◌∙◌, ◌≤◌, arith, length-take, eqb}
use Rattle.tas_model.specs.declared.entry.Reason.{Reason}
use Rattle.tas_model.specs.declared.entry.Seg.{Seg}
use Rattle.tas_model.specs.Endpoint.{Endpoint}
use Rattle.tas_model.specs.Segments.{has, bare, is_fin, seq_at, seq_of, ack_of}
use Rattle.tas_model.specs.Receive.{is_heard}
use Rattle.tas_model.specs.ApplicationCalls.{column_by, Opening, Running, column}
use Rattle.tas_model.specs.NextSegment.{waiting, data_len, past, syn_head, data_seg, fin_seg}
use Rattle.tas_model.specs.LegalHistory.{moved, replay, Legal, MayFollow}
use Rattle.tas_model.specs.declared.entry.Entry.{Entry}
use Rattle.tas_model.specs.declared.entry.HostParams.{HostParams}
use Rattle.tas_model.specs.Outputs.{AcksNext, AllAckNext, AcksInOrder, segments_in}
use Rattle.tas_model.specs.OneStream.{StandsIn}
use Rattle.tas_model.specs.Valid.{Valid}
use Rattle.std.proofs.lemmas.List.{take_min}
use Rattle.std.proofs.lemmas.Bool.Decides.{nat_tests}
use Rattle.tas_model.proofs.Histories.{legal_induction, along_push, replay_push}
use Rattle.tas_model.proofs.EachSegment.{Shows, all_as, entry_shows}

-- its bytes are those to be sent from its place on, and a FIN follows the last of them once the application ended
pub record FromOut (e : Endpoint) (seg : Seg) : Type 0 where
  pub place : ℕ
  pub seq : seg.head.seq ≡ seq_of e place
  pub begins : 1 ≤ place
  pub bytes : StandsIn e.tx.out (place - 1) seg.bytes
  pub fin : is_fin seg ≡ true → (e.tx.shut ≡ true) × (place + length seg.bytes ≡ 1 + length e.tx.out)

-- The segment acknowledges the next place, and says what is to be sent, where it says something. `b` is the endpoint
-- before it.
abbrev pub IsRight : (b e : Endpoint) → Seg → Type 0
IsRight b e seg = AcksNext e seg.head × (Valid b → is_heard seg ≡ true → FromOut e seg)

syn_right : (e after : Endpoint) (o : Option ℕ) → ack_of after ≡ ack_of e → IsRight e after (bare (syn_head e o))
syn_right e after None same = (λ a r. absurd (cc (a)), λ v h. absurd (cc (h)))
syn_right e after (Some first) same = (λ a r. sym same, λ v h. absurd (cc (h)))

no_fin : (b : Bool) → has (cond b 24 16) 1 ≡ true → ⊥
no_fin true h = cc (h)
no_fin false h = cc (h)

started : (reason : Option Reason) (peer : Option ℕ) (una : ℕ) → column_by reason peer una ≡ Running → 1 ≤ una
started (Some why) peer una is = absurd (cc (is))
started None None una is = absurd (cc (is))
started None (Some first) una is = by_test (eqb una 0) refl is
  where
    by_test : (b : Bool) → eqb una 0 ≡ b → cond b Opening Running ≡ Running → 1 ≤ una
    by_test true z h = absurd (cc (h))
    by_test false z h = grind (arith, nat_tests, z)

slice_stands : (p : List ℕ) (at n : ℕ) → StandsIn p at (take n (drop at p))
slice_stands p at n = ap (λ (k : ℕ). take k (drop at p)) (length-take n (drop at p)) ∙ take_min n (drop at p)

data_from_out : (e after : Endpoint) (n : ℕ) → column e ≡ Running → after.iss ≡ e.iss → after.tx.out ≡ e.tx.out
    → Valid e → FromOut after (data_seg e n)
data_from_out e after n is iss out v = record {
  place = e.tx.nxt;
  seq = ap (λ (k : ℕ). seq_at k e.tx.nxt) (sym iss);
  begins = omega (arith, started e.reason e.peer e.tx.una is, v.tx.una);
  bytes = subst (λ (p : List ℕ). StandsIn p (e.tx.nxt - 1) (take n (drop (e.tx.nxt - 1) e.tx.out))) (sym out)
      (slice_stands e.tx.out (e.tx.nxt - 1) n);
  fin = λ f. absurd (no_fin (eqb n (waiting e.tx)) f);
}

fin_from_out : (e : Endpoint) → (e.tx.shut && eqb e.tx.nxt (1 + length e.tx.out)) ≡ true
    → FromOut (record e { tx = past e.tx 1 }) (fin_seg e)
fin_from_out e t =
    let place : e.tx.nxt ≡ 1 + length e.tx.out = grind (arith, nat_tests, t) in
    record {
      place = e.tx.nxt;
      seq = refl;
      begins = omega (arith, place);
      bytes = refl;
      fin = λ f. (both_left e.tx.shut _ t, omega (arith, place));
    }
  where
    both_left : (a b : Bool) → (a && b) ≡ true → a ≡ true
    both_left true b h = refl
    both_left false b h = absurd (cc (h))

-- Each kind of segment is right.
pub each_right : Shows IsRight
each_right = record {
  ack = λ b e. (λ a r. refl, λ v h. absurd (cc (h)));
  reset = λ b e head rst plain none. (λ a r. absurd (cc (rst, r)), λ v h. absurd (cc (plain, h)));
  syn = λ e. syn_right e (record e { tx = past e.tx 1 }) e.peer refl;
  payload = λ e is. (λ a r. refl, λ v h. data_from_out e _ (data_len e) is refl refl v);
  probe = λ e is. (λ a r. refl, λ v h. data_from_out e _ 1 is refl refl v);
  fin = λ e t. (λ a r. refl, λ v h. fin_from_out e t);
}

-- each segment that a legal history sent acknowledges the next place of its entry, and no other
pub acks_in_order : (params : HostParams) (h : List Entry) → Legal params h → AcksInOrder params h
acks_in_order params h legal =
    legal_induction params (AcksInOrder params)
    (λ x first. (subst (λ r. AllAckNext (replay params (x ∷ [])) (segments_in r)) (sym first.reply) tt, tt))
    (λ es x before so_far may. along_push _ [] es x so_far (last es x before may))
    h legal
  where
    last : (es : List Entry) (x : Entry) → Legal params es → MayFollow params es x
        → AllAckNext (replay params (es ++ x ∷ [])) (segments_in x.reply)
    last es x before may =
        subst (λ (e : Endpoint). AllAckNext e (segments_in x.reply)) (sym (replay_push params es x before))
        (all_as (IsRight (replay params es) (moved (replay params es) x)) (AllAckNext (moved (replay params es) x)) tt
        (λ seg segs right rest. (right.0, rest)) (segments_in x.reply)
        (entry_shows IsRight each_right params es x may))
