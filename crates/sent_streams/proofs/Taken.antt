-- What is taken of one direction is one stream.
use Rattle.std.proofs.Common.{◌≡◌, ℕ, ◌+◌, ◌%◌, ◌^◌, ◌<◌, ◌≤◌, Bool, true, false, cond, List, [], ◌∷◌, ◌++◌, length}
use Rattle.std.proofs.Common.{Option, Some, None, refl, sym, subst, ap, ◌∙◌, arith, length-append}
use Rattle.tas_num.specs.declared.seq.Seq.{Seq}
use Rattle.tas_model.specs.declared.entry.HostParams.{HostParams}
use Rattle.tas_model.specs.declared.entry.Entry.{Entry}
use Rattle.tas_model.specs.declared.entry.FrameId.{FrameId}
use Rattle.tas_model.specs.declared.entry.Seg.{Seg}
use Rattle.tas_model.specs.declared.entry.Reason.{Reason}
use Rattle.tas_model.specs.declared.entry.Call.{Call}
use Rattle.tas_model.specs.declared.entry.Call.TheVariants as calls
use Rattle.tas_model.specs.declared.entry.Reply.{Reply}
use Rattle.tas_model.specs.Endpoint.{Endpoint, phase, phase_by, next_place, is_fin_acked}
use Rattle.tas_model.specs.Segments.{Outcome, seq_at, peer_first}
use Rattle.tas_model.specs.Receive.{is_heard}
use Rattle.tas_model.specs.ApplicationCalls.{Column, Opening, Over, Running, column}
use Rattle.tas_model.specs.NextSegment.{Going, going, going_in, emitted}
use Rattle.tas_model.specs.Timers.{ticks, tick_in, filled}
use Rattle.tas_model.specs.LegalHistory.{step, state_or, moved, opened, replay, taken_bytes, Opens, Legal, MayFollow}
use Rattle.tas_model.specs.LegalHistory.{IsFirst}
use Rattle.tas_model.specs.OneStream.{OneStream, IsOfStream, IsPrefixOf, IsSynchronized}
use Rattle.tas_model.specs.Outputs.{SaysPart}
use Rattle.tas_model.proofs.Histories.{legal_induction, along_push, replay_push, replay_first}
use Rattle.tas_model.proofs.StreamLaw.{got_is_prefix}
use Rattle.tas_model.proofs.TwoEnds.{heard_of_stream}
use Rattle.host_rounds.specs.Lists.{Each}
use Rattle.sent_streams.specs.Streams.{IsOf, Takes, AllTaken}
use Rattle.sent_streams.proofs.Stays.{Knows, Tells, Hears, StaysWhole}
use Rattle.sent_streams.proofs.Steps.{step_knows}

-- ----- lists
pub each_split : {X : Type 0} (P : X → Type 0) (xs : List X) (x : X) → Each P (xs ++ x ∷ []) → Each P xs × P x
each_split P [] x all = (tt, all.0)
each_split P (y ∷ xs) x all = let rest = each_split P xs x all.1 in ((all.0, rest.0), rest.1)

-- ----- the peer's first number
abbrev Is : (first : ℕ) → ℕ → Type 0
Is first n = n ≡ (first + 0) % 2 ^ 32

tells : (first : ℕ) (stream : List ℕ) (seg : Seg) → IsOf first stream seg → Tells (Is first) seg
tells first stream seg of r s = ap (λ (q : Seq). q.0) (of.begins r s)

opened_knows : (params : HostParams) (first : ℕ) (stream : List ℕ) (call : Call) → Takes first stream call
    → Knows (Is first) (opened params call).peer
opened_knows params first stream (calls.Connect iss) t = tt
opened_knows params first stream (calls.Passive frame iss seg) t = tells first stream seg t.0 t.1 t.2
opened_knows params first stream _ t = tt

entry_knows : (first : ℕ) (stream : List ℕ) (e : Endpoint) (x : Entry) → Takes first stream x.call
    → Knows (Is first) e.peer → Knows (Is first) (moved e x).peer
entry_knows first stream e x t knows = by_call x.call t
  where
    by_call : (call : Call) → Takes first stream call → Knows (Is first) (state_or e (step e x.tick call x.reply)).peer
    by_call (calls.Rx frame seg) t =
        step_knows (Is first) e x.tick (calls.Rx frame seg) x.reply (tells first stream seg t) knows
    by_call call t = step_knows (Is first) e x.tick call x.reply tt knows

-- ----- one segment
end_of_got : (got : ℕ) (ended : Bool) → 1 + got + cond ended 1 0 ≤ got + 2
end_of_got got true = omega arith
end_of_got got false = omega arith

not_opened : (reason : Option Reason) (una : ℕ) (shut fin ended first : Bool)
    → IsSynchronized (phase_by reason None una shut fin ended first) → ⊥
not_opened None una shut fin ended first s = s
not_opened (Some why) una shut fin ended first s = s

same_part : (first n : ℕ) (stream : List ℕ) (seg : Seg) → n ≡ (first + 0) % 2 ^ 32 → SaysPart first stream seg
    → SaysPart n stream seg
same_part first n stream seg is part = record {
  place = part.place;
  begins = part.begins;
  seq = part.seq ∙ ap (λ (k : ℕ). record { 0 = k }) (omega (arith, is));
  bytes = part.bytes;
  fin = part.fin;
}

heard : (e : Endpoint) (first : ℕ) (stream : List ℕ) (frame : FrameId) (seg : Seg) → length stream + 2 < 2 ^ 31
    → length e.rx.got ≤ length stream
    → Knows (Is first) e.peer → IsOf first stream seg → IsOfStream stream e (calls.Rx frame seg)
heard e first stream frame seg short got knows of = λ syn sync. by_peer e.peer refl knows syn sync
  where
    next : next_place e.rx ≤ length stream + 2
    next = omega (arith, end_of_got (length e.rx.got) e.rx.ended, got)

    by_peer : (o : Option ℕ) → e.peer ≡ o → Knows (Is first) o → IsOfStream stream e (calls.Rx frame seg)
    by_peer None is k syn sync =
        absurd (not_opened e.reason e.tx.una e.tx.shut (is_fin_acked e.tx) e.rx.ended e.rx.ended_first
        (subst (λ (o : Option ℕ). IsSynchronized
        (phase_by e.reason o e.tx.una e.tx.shut (is_fin_acked e.tx) e.rx.ended e.rx.ended_first)) is sync))
    by_peer (Some n) is k syn sync =
        let same : peer_first e ≡ n = rw is refl in
        let whole : peer_first e ≡ (first + 0) % 2 ^ 32 = same ∙ k in
        heard_of_stream e stream frame seg (omega (arith, whole)) short next
        (λ h. same_part first (peer_first e) stream seg whole (of.says h)) syn sync

-- ----- every history
pub taken_is : (params : HostParams) (first : ℕ) (stream : List ℕ) (h : List Entry) → Legal params h
    → length stream + 2 < 2 ^ 31 → AllTaken first stream h
    → OneStream params stream h
taken_is params first stream h legal short all =
    (legal_induction params
    (λ (es : List Entry). AllTaken first stream es → OneStream params stream es × Knows (Is first)
    (replay params es).peer)
    (λ x is_first taken. (
      tt,
      subst (λ (e : Endpoint). Knows (Is first) e.peer) (sym (replay_first params x))
          (opened_knows params first stream x.call taken.0),
    ))
    (λ es x before so_far may taken. after es x before (each_split _ es x taken).1 (so_far (each_split _ es x taken).0))
    h legal all).0
  where
    got_within : (es : List Entry) → Legal params es → OneStream params stream es
        → length (replay params es).rx.got ≤ length stream
    got_within es before one =
        let prefix = (got_is_prefix params stream es before one).0 in
        omega (arith, length-append (replay params es).rx.got prefix.0, ap length prefix.1)

    of_call : (es : List Entry) (call : Call) → Legal params es → Takes first stream call → OneStream params stream es
        → Knows (Is first) (replay params es).peer
        → IsOfStream stream (replay params es) call
    of_call es (calls.Rx frame seg) before takes one knows =
        heard (replay params es) first stream frame seg short (got_within es before one) knows takes
    of_call es _ before takes one knows = tt

    pushed : (es : List Entry) (x : Entry) → Legal params es → OneStream params stream es
        → IsOfStream stream (replay params es) x.call → OneStream params stream (es ++ x ∷ [])
    pushed [] x before one of = absurd before
    pushed (y ∷ ys) x before one of =
        along_push (λ (b : List Entry) (z : Entry). IsOfStream stream (replay params b) z.call) (y ∷ []) ys x one of

    after : (es : List Entry) (x : Entry) → Legal params es → Takes first stream x.call
        → OneStream params stream es × Knows (Is first) (replay params es).peer
        → OneStream params stream (es ++ x ∷ []) × Knows (Is first) (replay params (es ++ x ∷ [])).peer
    after es x before takes so_far = (
      pushed es x before so_far.0 (of_call es x.call before takes so_far.0 so_far.1),
      subst (λ (e : Endpoint). Knows (Is first) e.peer) (sym (replay_push params es x before))
          (entry_knows first stream (replay params es) x takes so_far.1),
    )
