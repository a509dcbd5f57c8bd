-- Each segment that was sent says nothing but the bytes that were accepted.
use Rattle.std.proofs.Common.{◌≡◌, ℕ, ◌+◌, ◌-◌, ◌<◌, ◌≤◌, Bool, true, false, List, [], ◌∷◌, ◌++◌, length, take, drop}
use Rattle.std.proofs.Common.{refl, sym, subst, ap, ◌∙◌, arith, append-nil, length-take, length-drop, leb}
use Rattle.std.proofs.lemmas.Bool.Decides.{nat_tests}
use Rattle.std.proofs.lemmas.List.{take-append-le, drop-append-le}
use Rattle.tas_model.specs.declared.entry.HostParams.{HostParams}
use Rattle.tas_model.specs.declared.entry.Entry.{Entry}
use Rattle.tas_model.specs.declared.entry.Seg.{Seg}
use Rattle.tas_model.specs.Endpoint.{Endpoint}
use Rattle.tas_model.specs.Segments.{Outcome, seq_at}
use Rattle.tas_model.specs.Receive.{is_heard}
use Rattle.tas_model.specs.LegalHistory.{moved, replay, taken_bytes, Legal, MayFollow}
use Rattle.tas_model.specs.Outputs.{sent, accepted, SaysPart, AllSay}
use Rattle.tas_model.specs.OneStream.{StandsIn}
use Rattle.tas_model.specs.Valid.{InRange}
use Rattle.tas_model.specs.BucketLaw.{data_by, fill_by}
use Rattle.tas_model.proofs.EachSegment.{AllHave, all_as, sent_shows}
use Rattle.tas_model.proofs.AckLaw.{FromOut, IsRight, each_right}
use Rattle.tas_model.proofs.Moves.{Moves}
use Rattle.tas_model.proofs.MovesLaws.{entry_moves, out_is_accepted}

-- ----- a longer stream
stands_longer : (p more : List ℕ) (at : ℕ) (bytes : List ℕ) → StandsIn p at bytes → StandsIn (p ++ more) at bytes
stands_longer p more at bytes stands = by_size (leb (at + length bytes) (length p)) refl
  where
    size : length bytes ≤ length p - at
    size = omega (arith, ap length stands, length-take (length bytes) (drop at p), length-drop at p)

    within : at ≤ length p → StandsIn (p ++ more) at bytes
    within le =
        let shorter : take (length bytes) (drop at p ++ more) ≡ take (length bytes) (drop at p) =
        take-append-le (length bytes) (drop at p) more (omega (arith, size, length-drop at p)) in
        ap (take (length bytes)) (drop-append-le at p more le) ∙ (shorter ∙ stands)

    none : (bs : List ℕ) → length bs ≡ 0 → StandsIn (p ++ more) at bs
    none [] e = refl
    none (b ∷ bs) e = absurd (omega arith)

    by_size : (b : Bool) → leb (at + length bytes) (length p) ≡ b → StandsIn (p ++ more) at bytes
    by_size true is = let le : at + length bytes ≤ length p = grind (arith, nat_tests, is) in within (omega arith)
    by_size false is = let lt : length p < at + length bytes = grind (arith, nat_tests, is) in
        none bytes (omega (arith, size))

-- what a segment says stays said
still_from_out : (fill paid : ℕ) (e : Endpoint) (o : Outcome) (seg : Seg) → Moves fill paid e o → FromOut e seg
    → FromOut o.state seg
still_from_out fill paid e o seg m f = record {
  place = f.place;
  seq = f.seq ∙ ap (λ (k : ℕ). seq_at k f.place) (sym m.iss);
  begins = f.begins;
  bytes = subst (λ (p : List ℕ). StandsIn p (f.place - 1) seg.bytes) (sym m.out)
      (stands_longer e.tx.out (taken_bytes o.reply) (f.place - 1) seg.bytes f.bytes);
  fin = λ is. let said = f.fin is in let kept = m.shut said.0 in (
    kept.0,
    said.1 ∙ ap (λ (p : List ℕ). 1 + length p)
        (sym (m.out ∙ (ap (λ (bs : List ℕ). e.tx.out ++ bs) kept.1 ∙ append-nil e.tx.out))),
  );
}

-- ----- all segments
abbrev Said : Endpoint → Seg → Type 0
Said e seg = is_heard seg ≡ true → FromOut e seg

all_said : (params : HostParams) (h : List Entry) → InRange params → Legal params h
    → AllHave (Said (replay params h)) (sent h)
all_said params h fits legal = sent_shows IsRight each_right Said params fits
    (λ b e seg v right. right.1 v) kept h legal
  where
    kept : (es : List Entry) (x : Entry) → Legal params es → MayFollow params es x → (seg : Seg)
        → Said (replay params es) seg → Said (moved (replay params es) x) seg
    kept es x before may seg said heard =
        let e : Endpoint = replay params es in
        still_from_out (fill_by e x.call) (data_by e x.call) e (record { state = moved e x; reply = x.reply }) seg
        (entry_moves params es x fits before may) (said heard)

says_part : (e : Endpoint) (stream : List ℕ) (seg : Seg) → e.tx.out ≡ stream → FromOut e seg → SaysPart e.iss stream seg
says_part e stream seg same f = record {
  place = f.place;
  begins = f.begins;
  seq = f.seq;
  bytes = subst (λ (p : List ℕ). StandsIn p (f.place - 1) seg.bytes) same f.bytes;
  fin = λ is. (f.fin is).1 ∙ ap (λ (p : List ℕ). 1 + length p) same;
}

-- each segment that was sent says nothing but the bytes that were accepted
pub sent_says_accepted : (params : HostParams) (h : List Entry) → InRange params → Legal params h
    → AllSay (replay params h).iss (accepted h) (sent h)
sent_says_accepted params h fits legal =
    let e : Endpoint = replay params h in
    all_as (Said e) (AllSay e.iss (accepted h)) tt
    (λ seg segs said rest.
    (λ heard. says_part e (accepted h) seg (out_is_accepted params h fits legal) (said heard), rest)) (sent h)
    (all_said params h fits legal)
