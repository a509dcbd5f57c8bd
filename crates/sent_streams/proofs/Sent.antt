-- Each segment that was sent is of one direction.
use Rattle.std.proofs.Common.{◌≡◌, ℕ, Bool, true, false, cond, List, [], ◌∷◌, Option, Some, None, refl, sym, subst, ap}
use Rattle.std.proofs.Common.{◌∙◌, true≢false, eqb}
use Rattle.tas_model.specs.declared.entry.HostParams.{HostParams}
use Rattle.tas_model.specs.declared.entry.Entry.{Entry}
use Rattle.tas_model.specs.declared.entry.Seg.{Seg}
use Rattle.tas_model.specs.Endpoint.{Endpoint}
use Rattle.tas_model.specs.Segments.{bare, is_rst, is_syn, has, seq_at}
use Rattle.tas_model.specs.Receive.{is_heard}
use Rattle.tas_model.specs.NextSegment.{past, syn_head, waiting, data_len}
use Rattle.tas_model.specs.LegalHistory.{moved, replay, Legal, MayFollow}
use Rattle.tas_model.specs.Outputs.{sent, accepted, SaysPart, AllSay}
use Rattle.tas_model.specs.Valid.{Valid, InRange}
use Rattle.tas_model.proofs.EachSegment.{Shows, AllHave, all_as, sent_shows}
use Rattle.tas_model.proofs.MovesLaws.{entry_moves}
use Rattle.tas_model.proofs.SentLaw.{sent_says_accepted}
use Rattle.host_rounds.specs.Lists.{Each}
use Rattle.sent_streams.specs.Streams.{IsOf}

-- a SYN that is no reset bears the first number of the endpoint
abbrev Begins : Endpoint → Seg → Type 0
Begins e seg = is_rst seg ≡ false → is_syn seg ≡ true → seg.head.seq ≡ seq_at e.iss 0

abbrev Shown : (b e : Endpoint) → Seg → Type 0
Shown b e seg = Begins e seg

no_syn : (b : Bool) → has (cond b 24 16) 2 ≡ true → ⊥
no_syn true h = cc (h)
no_syn false h = cc (h)

syn_begins : (e : Endpoint) (o : Option ℕ) → Shown e (record e { tx = past e.tx 1 }) (bare (syn_head e o))
syn_begins e None r s = refl
syn_begins e (Some first) r s = refl

each_begins : Shows Shown
each_begins = record {
  ack = λ b e r s. absurd (cc (s));
  reset = λ b e head rst plain none r s. absurd (true≢false (sym rst ∙ r));
  syn = λ e. syn_begins e e.peer;
  payload = λ e is r s. absurd (no_syn (eqb (data_len e) (waiting e.tx)) s);
  probe = λ e is r s. absurd (no_syn (eqb 1 (waiting e.tx)) s);
  fin = λ e t r s. absurd (cc (s));
}

all_begin : (params : HostParams) (h : List Entry) → InRange params → Legal params h
    → AllHave (Begins (replay params h)) (sent h)
all_begin params h fits legal = sent_shows Shown each_begins Begins params fits (λ b e seg v shown. shown) kept h legal
  where
    kept : (es : List Entry) (x : Entry) → Legal params es → MayFollow params es x → (seg : Seg)
        → Begins (replay params es) seg → Begins (moved (replay params es) x) seg
    kept es x before may seg begins r s =
        begins r s ∙ ap (λ (n : ℕ). seq_at n 0) (sym (entry_moves params es x fits before may).iss)

both : (e : Endpoint) (stream : List ℕ) (segs : List Seg) → AllHave (Begins e) segs → AllSay e.iss stream segs
    → Each (IsOf e.iss stream) segs
both e stream [] begin say = tt
both e stream (seg ∷ segs) begin say = (record { begins = begin.0; says = say.0 }, both e stream segs begin.1 say.1)

pub sent_is_of : (params : HostParams) (h : List Entry) → InRange params → Legal params h
    → Each (IsOf (replay params h).iss (accepted h)) (sent h)
sent_is_of params h fits legal =
    both (replay params h) (accepted h) (sent h) (all_begin params h fits legal)
    (sent_says_accepted params h fits legal)
