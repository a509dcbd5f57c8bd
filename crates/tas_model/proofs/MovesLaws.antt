-- What follows of every history: how far places go, which bytes were read, and how much the bucket lets through.
use Rattle.std.proofs.Common.{◌≡◌, ℕ, ◌+◌, ◌*◌, ◌≤◌, Bool, true, false, cond, List, [], ◌∷◌, ◌++◌, length, take, drop}
use Rattle.std.proofs.Common.{max, Option, Some, None, IsSome, refl, sym, subst, ap, ◌∙◌, arith, true≢false, append-nil}
use Rattle.std.proofs.Common.{append_assoc, length-append, take-append-drop}
use Rattle.std.proofs.lemmas.Grind.{flat_map-append}
use Rattle.tas_model.proofs.Histories.{legal_induction, legal_parts, legal_push, replay_push, replay_first}
use Rattle.tas_model.proofs.ValidCalls.{valid_replay}
use Rattle.tas_model.proofs.StreamLaw.{got_is_prefix}
use Rattle.tas_model.specs.OneStream.{OneStream, IsPrefixOf}
use Rattle.tas_model.proofs.Moves.{Moves, LeavesMoved}
use Rattle.tas_model.proofs.MovesSteps.{step_moves}
use Rattle.tas_model.specs.declared.entry.HostParams.{HostParams}
use Rattle.tas_model.specs.declared.entry.Entry.{Entry}
use Rattle.tas_model.specs.declared.entry.Call.{Call}
use Rattle.tas_model.specs.declared.entry.Call.TheVariants as calls
use Rattle.tas_model.specs.declared.entry.Reply.{Reply}
use Rattle.tas_model.specs.Endpoint.{Endpoint, Island, next_place}
use Rattle.tas_model.specs.Segments.{Outcome}
use Rattle.tas_model.specs.LegalHistory.{step, state_or, moved, replay, replay_on, opened, Gives, Legal, LegalAfter}
use Rattle.tas_model.specs.LegalHistory.{MayFollow, IsFirst, taken_bytes}
use Rattle.tas_model.specs.Outputs.{given_bytes, bytes_read, accepted}
use Rattle.tas_model.specs.Valid.{Valid, InRange, IsPastGap, PlacesWithin, IslandWithin}
use Rattle.tas_model.specs.BucketLaw.{data_by, fill_by, data_sent, fills}

-- the endpoint after an entry that may follow
outcome_moves : (fill paid : ℕ) (e : Endpoint) (o : Option Outcome) (reply : Reply) → Gives o reply
    → LeavesMoved fill paid e o → Moves fill paid e (record { state = state_or e o; reply = reply })
outcome_moves fill paid e None reply gives m = absurd gives
outcome_moves fill paid e (Some o) reply gives m =
    subst (λ (r : Reply). Moves fill paid e (record { state = o.state; reply = r })) gives m

pub entry_moves : (params : HostParams) (h : List Entry) (x : Entry) → InRange params → Legal params h
    → MayFollow params h x
    → Moves (fill_by (replay params h) x.call) (data_by (replay params h) x.call) (replay params h)
    (record { state = moved (replay params h) x; reply = x.reply })
entry_moves params h x fits legal may =
    let e : Endpoint = replay params h in
    outcome_moves (fill_by e x.call) (data_by e x.call) e (step e x.tick x.call x.reply) x.reply may.step
    (step_moves e x.tick x.call x.reply (valid_replay params h fits legal))

-- ----- how far places go
record Sizes (bound : ℕ) (e : Endpoint) : Type 0 where
  pub out : length e.tx.out ≤ bound
  pub got : length e.rx.got ≤ bound
  pub wl1 : e.tx.wl1 ≤ bound + 2
  pub wl2 : e.tx.wl2 ≤ bound + 2

end_of_out : (out max : ℕ) (shut : Bool) → max ≤ out + 1 + cond shut 1 0 → max ≤ out + 2
end_of_out out max true h = omega arith
end_of_out out max false h = omega arith

end_of_got : (got : ℕ) (ended : Bool) → 1 + got + cond ended 1 0 ≤ got + 2
end_of_got got true = omega arith
end_of_got got false = omega arith

sizes_grow : (bound fill paid : ℕ) (e f : Endpoint) (reply : Reply) → Valid e → Valid f
    → Moves fill paid e (record { state = f; reply = reply }) → Sizes bound e → Sizes (bound + 1048577) f
sizes_grow bound fill paid e f reply v w m s =
    let most : e.tx.max ≤ length e.tx.out + 2 = end_of_out (length e.tx.out) e.tx.max e.tx.shut v.tx.max in
    let next : next_place e.rx ≤ length e.rx.got + 2 = end_of_got (length e.rx.got) e.rx.ended in
    record {
      out = omega (arith, w.tx.room, w.fits.ring, m.una, most, s.out);
      got = omega (arith, w.rx.room, w.fits.ring, m.read, v.rx.read, s.got);
      wl1 = omega (arith, m.wl1, next, s.wl1, s.got);
      wl2 = omega (arith, m.wl2, most, s.wl2, s.out);
    }

opened_sizes : (params : HostParams) (call : Call) → Sizes 1048577 (opened params call)
opened_sizes params (calls.Connect iss) = record {
  out = omega arith;
  got = omega arith;
  wl1 = omega arith;
  wl2 = omega arith;
}
opened_sizes params (calls.Passive frame iss seg) =
    record { out = omega arith; got = omega arith; wl1 = omega arith; wl2 = omega arith }
opened_sizes params _ = record { out = omega arith; got = omega arith; wl1 = omega arith; wl2 = omega arith }

sizes_of : (params : HostParams) (h : List Entry) → InRange params → Legal params h
    → Sizes (1048577 * length h) (replay params h)
sizes_of params h fits legal =
    legal_induction params (λ (es : List Entry). Sizes (1048577 * length es) (replay params es))
    (λ x first. subst (Sizes 1048577) (sym (replay_first params x)) (opened_sizes params x.call))
    (λ es x before so_far may. after es x before so_far may)
    h legal
  where
    after : (es : List Entry) (x : Entry) → Legal params es → Sizes (1048577 * length es) (replay params es)
        → MayFollow params es x → Sizes (1048577 * length (es ++ x ∷ [])) (replay params (es ++ x ∷ []))
    after es x before so_far may =
        let e : Endpoint = replay params es in
        let f : Endpoint = moved e x in
        let same : replay params (es ++ x ∷ []) ≡ f = replay_push params es x before in
        let w : Valid f =
        subst Valid same (valid_replay params (es ++ x ∷ []) fits (legal_push params es x before may)) in
        let more : 1048577 * length es + 1048577 ≡ 1048577 * length (es ++ x ∷ []) =
        omega (arith, length-append es (x ∷ [])) in
        let grown : Sizes (1048577 * length es + 1048577) f =
        sizes_grow (1048577 * length es) (fill_by e x.call) (data_by e x.call) e f x.reply
        (valid_replay params es fits before) w (entry_moves params es x fits before may) so_far in
        subst (λ (b : ℕ). Sizes b (replay params (es ++ x ∷ []))) more
        (subst (Sizes (1048577 * length es + 1048577)) (sym same) grown)

island_within : (got limit bound : ℕ) (o : Option Island) → IsPastGap got limit o → limit + 1 ≤ bound
    → IslandWithin bound o
island_within got limit bound None v le = tt
island_within got limit bound (Some i) v le = omega (arith, v.within)

-- no place is above 1,048,577 times one more than the entries
pub places_of : (params : HostParams) (h : List Entry) → InRange params → Legal params h
    → PlacesWithin (1048577 * (length h + 1)) (replay params h)
places_of params h fits legal =
    let e : Endpoint = replay params h in
    let v : Valid e = valid_replay params h fits legal in
    let s : Sizes (1048577 * length h) e = sizes_of params h fits legal in
    let most : e.tx.max ≤ length e.tx.out + 2 = end_of_out (length e.tx.out) e.tx.max e.tx.shut v.tx.max in
    let next : next_place e.rx ≤ length e.rx.got + 2 = end_of_got (length e.rx.got) e.rx.ended in
    record {
      una = omega (arith, v.tx.una, v.tx.nxt, most, s.out);
      nxt = omega (arith, v.tx.nxt, most, s.out);
      max = omega (arith, most, s.out);
      out = omega (arith, s.out);
      wl1 = omega (arith, s.wl1);
      wl2 = omega (arith, s.wl2);
      next = omega (arith, next, s.got);
      read = omega (arith, v.rx.read, s.got);
      island = island_within (length e.rx.got) (e.rx.read + e.params.ring)
          (1048577 * (length h + 1)) e.rx.island v.rx.island (omega (arith, v.rx.read, v.fits.ring, s.got));
    }

-- ----- which bytes were read
read_push : (h : List Entry) (x : Entry) → bytes_read (h ++ x ∷ []) ≡ bytes_read h ++ given_bytes x.reply
read_push h x = flat_map-append (λ (y : Entry). given_bytes y.reply) h (x ∷ [])
    ∙ ap (λ (bs : List ℕ). bytes_read h ++ bs) (append-nil (given_bytes x.reply))

none_read : (params : HostParams) (call : Call) → take (opened params call).rx.read (opened params call).rx.got ≡ []
none_read params (calls.Connect iss) = refl
none_read params (calls.Passive frame iss seg) = refl
none_read params _ = refl

-- what was read is the beginning of what was received in order
pub read_is_of_got : (params : HostParams) (h : List Entry) → InRange params → Legal params h
    → bytes_read h ≡ take (replay params h).rx.read (replay params h).rx.got
read_is_of_got params h fits legal =
    legal_induction params (λ (es : List Entry). bytes_read es
    ≡ take (replay params es).rx.read (replay params es).rx.got)
    (λ x first. nothing x first)
    (λ es x before so_far may. after es x before so_far may)
    h legal
  where
    nothing : (x : Entry) → IsFirst x
        → bytes_read (x ∷ []) ≡ take (replay params (x ∷ [])).rx.read (replay params (x ∷ [])).rx.got
    nothing x first =
        let silent : given_bytes x.reply ≡ [] = ap given_bytes first.reply in
        let none : take (replay params (x ∷ [])).rx.read (replay params (x ∷ [])).rx.got ≡ [] =
        ap (λ (e : Endpoint). take e.rx.read e.rx.got) (replay_first params x) ∙ none_read params x.call in
        ap (λ (bs : List ℕ). bs ++ []) silent ∙ sym none

    after : (es : List Entry) (x : Entry) → Legal params es
        → bytes_read es ≡ take (replay params es).rx.read (replay params es).rx.got → MayFollow params es x
        → bytes_read (es ++ x ∷ []) ≡ take (replay params (es ++ x ∷ [])).rx.read (replay params (es ++ x ∷ [])).rx.got
    after es x before so_far may =
        read_push es x ∙ (ap (λ (bs : List ℕ). bs ++ given_bytes x.reply) so_far
        ∙ (sym (entry_moves params es x fits before may).bytes
        ∙ ap (λ (e : Endpoint). take e.rx.read e.rx.got) (sym (replay_push params es x before))))

-- hence the beginning of the stream that the peer sends
pub read_is_of_stream : (params : HostParams) (stream : List ℕ) (h : List Entry) → InRange params → Legal params h
    → OneStream params stream h → IsPrefixOf (bytes_read h) stream
read_is_of_stream params stream h fits legal one =
    let e : Endpoint = replay params h in
    let got : IsPrefixOf e.rx.got stream = (got_is_prefix params stream h legal one).0 in
    let whole : bytes_read h ++ drop e.rx.read e.rx.got ≡ e.rx.got =
    ap (λ (bs : List ℕ). bs ++ drop e.rx.read e.rx.got) (read_is_of_got params h fits legal)
    ∙ take-append-drop e.rx.read e.rx.got in (
      drop e.rx.read e.rx.got ++ got.0,
      sym (append_assoc (bytes_read h) (drop e.rx.read e.rx.got) got.0)
          ∙ (ap (λ (bs : List ℕ). bs ++ got.0) whole ∙ got.1),
    )

-- ----- which bytes were accepted
accepted_push : (h : List Entry) (x : Entry) → accepted (h ++ x ∷ []) ≡ accepted h ++ taken_bytes x.reply
accepted_push h x = flat_map-append (λ (y : Entry). taken_bytes y.reply) h (x ∷ [])
    ∙ ap (λ (bs : List ℕ). accepted h ++ bs) (append-nil (taken_bytes x.reply))

none_accepted : (params : HostParams) (call : Call) → (opened params call).tx.out ≡ []
none_accepted params (calls.Connect iss) = refl
none_accepted params (calls.Passive frame iss seg) = refl
none_accepted params _ = refl

-- what is to be sent is what was accepted
pub out_is_accepted : (params : HostParams) (h : List Entry) → InRange params → Legal params h
    → (replay params h).tx.out ≡ accepted h
out_is_accepted params h fits legal =
    legal_induction params (λ (es : List Entry). (replay params es).tx.out ≡ accepted es)
    (λ x first. ap (λ (e : Endpoint). e.tx.out) (replay_first params x)
    ∙ (none_accepted params x.call ∙ sym (ap (λ (r : Reply). taken_bytes r ++ []) first.reply)))
    (λ es x before so_far may. ap (λ (e : Endpoint). e.tx.out) (replay_push params es x before)
    ∙ ((entry_moves params es x fits before may).out
    ∙ (ap (λ (bs : List ℕ). bs ++ taken_bytes x.reply) so_far ∙ sym (accepted_push es x))))
    h legal

-- ----- what the bucket lets through
-- data and what is left in the bucket are what it held and was filled with
bucket_pays : (params : HostParams) (h xs : List Entry) → InRange params → Legal params h → LegalAfter params h xs
    → IsSome (replay params h).peer
    → data_sent (replay params h) xs + (replay_on (replay params h) xs).rate.tokens ≤ (replay params h).rate.tokens
    + fills (replay params h) xs
bucket_pays params h [] fits legal after peer = omega arith
bucket_pays params h (x ∷ xs) fits legal after peer =
    let e : Endpoint = replay params h in
    let first = (entry_moves params h x fits legal after.0).bucket peer in
    let same : replay params (h ++ x ∷ []) ≡ moved e x = replay_push params h x legal in
    let rest : data_sent (moved e x) xs + (replay_on (moved e x) xs).rate.tokens ≤ (moved e x).rate.tokens + fills
    (moved e x) xs =
    subst (λ (f : Endpoint). data_sent f xs + (replay_on f xs).rate.tokens ≤ f.rate.tokens + fills f xs) same
    (bucket_pays params (h ++ x ∷ []) xs fits (legal_push params h x legal after.0) after.1
    (subst (λ (f : Endpoint). IsSome f.peer) (sym same) first.0)) in
    omega (arith, first.1, rest)

-- over any stretch after the peer's SYN was taken, data is at most the bucket's depth at its start and the fills of its
-- ticks
pub bucket_law : (params : HostParams) (h stretch : List Entry) → InRange params → Legal params (h ++ stretch)
    → IsSome (replay params h).peer
    → data_sent (replay params h) stretch ≤ (replay params h).rate.depth + fills (replay params h) stretch
unfolding replay
bucket_law params [] stretch fits legal peer = absurd (true≢false (sym peer))
bucket_law params (x ∷ xs) stretch fits legal peer =
    let parts = legal_parts params x xs stretch legal in
    omega (
      arith,
      bucket_pays params (x ∷ xs) stretch fits parts.0 parts.1 peer,
      (valid_replay params (x ∷ xs) fits parts.0).rate.tokens,
    )
