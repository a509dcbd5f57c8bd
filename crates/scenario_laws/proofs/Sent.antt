-- What a Send takes are the next bytes of its script's text.
use Rattle.std.proofs.Common.{◌≡◌, ℕ, zero, suc, ◌==◌, Bool, true, false, List, [], ◌∷◌, ◌++◌, length, take, drop}
use Rattle.std.proofs.Common.{slice_get, max, Option, Some, None, if◌then◌else◌, refl, sym, subst, ap, ◌∙◌, true≢false}
use Rattle.std.proofs.Common.{arith, tests, min, not, ◌&&◌}
use Rattle.tas_model.specs.declared.entry.HostParams.{HostParams}
use Rattle.tas_model.specs.declared.entry.Entry.{Entry}
use Rattle.tas_model.specs.declared.entry.Caller.TheVariants.{App}
use Rattle.tas_model.specs.declared.entry.Call.TheVariants as calls
use Rattle.tas_model.specs.declared.entry.Reply.{Reply}
use Rattle.tas_model.specs.declared.entry.Reply.TheVariants as replies
use Rattle.tas_model.specs.Endpoint.{Endpoint, send_room}
use Rattle.tas_model.specs.Segments.{unchanged}
use Rattle.tas_model.specs.ApplicationCalls.{Column, Opening, Over, Running, column, send_in}
use Rattle.tas_model.specs.LegalHistory.{step, replay, reply_or, shown, last_tick}
use Rattle.host_rounds.specs.Lists.{change_at}
use Rattle.host_rounds.specs.Logs.{RunLog}
use Rattle.host_rounds.specs.Hosts.{Live, Host, with_call, last_reply, answer_of}
use Rattle.host_rounds.specs.Scripts.{Site}
use Rattle.host_rounds.specs.Rounds.{Ask, Deed}
use Rattle.scenario_text.specs.declared.scenario.Scenario.{Scenario}
use Rattle.scenario_text.specs.declared.scenario.Step.{Step}
use Rattle.scenario_text.specs.declared.scenario.Step.TheVariants as steps
use Rattle.scenario_runs.specs.Applications.{Script, Turn, done_or, sent_on, sends, most, flow_of}
use Rattle.scenario_runs.specs.Applications.{bound_in, filling, is_killed_at, goes_on, turn_where, on_flow}
use Rattle.scenario_runs.specs.Worlds.{starts_of, address_in}
use Rattle.scenario_runs.specs.Runs.{Run}
use Rattle.scenario_laws.specs.Ticks.{InEachTick}
use Rattle.scenario_laws.specs.Turns.{OfEachScript, turn_on, HadTurn, reached}
use Rattle.scenario_laws.specs.Sends.{sending, TakesNext, TookNext, HadSends}
use Rattle.scenario_laws.proofs.InTurns.{ticks_turned}

-- ----- the reply
-- A Send's reply that shows bytes shows the first of those offered.
running_took : (a b c : Bool) (e f : Endpoint) (bytes took : List ℕ)
    → reply_or (if a then Some (unchanged e replies.Shut)
    else if b then Some (unchanged e replies.NotYet)
    else if c then Some (record { state = f; reply = replies.Took bytes }) else None) replies.Nothing
    ≡ replies.Took took → took ≡ bytes
running_took true b c e f bytes took h = absurd (cc (h))
running_took false true c e f bytes took h = absurd (cc (h))
running_took false false true e f bytes took h = cc (h)
running_took false false false e f bytes took h = absurd (cc (h))

send_took : (c : Column) (e : Endpoint) (offered : ℕ) (bytes took : List ℕ)
    → reply_or (send_in c e offered bytes) replies.Nothing ≡ replies.Took took → took ≡ bytes
send_took Opening e offered bytes took h = absurd (cc (h))
send_took (Over why) e offered bytes took h = absurd (cc (h))
send_took Running e offered bytes took h =
    running_took e.tx.shut (min offered (send_room e) == 0 && not (offered == 0))
    (length bytes == min offered (send_room e)) e (record e { tx = record (e.tx) { out = e.tx.out ++ bytes } }) bytes
    took h

step_took : (e : Endpoint) (t offered : ℕ) (offer took : List ℕ)
    → reply_or (step e t (calls.Send offered) (shown e offer)) replies.Nothing ≡ replies.Took took
    → took ≡ take (send_room e) offer
unfolding step
step_took e t offered offer took h = send_took (column e) e offered (take (send_room e) offer) took h

-- the first of the first are the first
pub take_own : (r m : ℕ) (ys : List ℕ) → take r (take m ys) ≡ take (length (take r (take m ys))) ys
take_own zero m ys = refl
take_own (suc r) zero ys = refl
take_own (suc r) (suc m) [] = refl
take_own (suc r) (suc m) (y ∷ ys) = ap (λ (zs : List ℕ). y ∷ zs) (take_own r m ys)

-- ----- the answer
last_push : (r : Reply) (h : List Entry) (x : Entry) → last_reply r (h ++ x ∷ []) ≡ x.reply
last_push r [] x = refl
last_push r (y ∷ ys) x = last_push y.reply ys x

answer_at : (n : ℕ) (f : Live → Live) (ls : List Live) (took : List ℕ)
    → elim (slice_get (change_at n f ls) n) [
      | None ↦ replies.Nothing
      | Some l ↦ last_reply replies.Nothing l.flow.entries
    ] ≡ replies.Took took
    → (l : Live) × (last_reply replies.Nothing (f l).flow.entries ≡ replies.Took took)
answer_at n f [] took h = absurd (cc (h))
answer_at zero f (l ∷ ls) took h = (l, h)
answer_at (suc n) f (l ∷ ls) took h = answer_at n f ls took h

-- ----- one turn
on_took : (b : Bool) (done : ℕ) (s : Script) → b ≡ true → (done_or b done s).left ≡ drop 1 s.left
on_took true done s h = refl
on_took false done s h = absurd (true≢false (sym h))

off_left : (b : Bool) (done : ℕ) (s : Script) → b ≡ false → (done_or b done s).left ≡ s.left
off_left true done s h = absurd (true≢false h)
off_left false done s h = refl

off_done : (b : Bool) (done : ℕ) (s : Script) → b ≡ false → (done_or b done s).done ≡ done
off_done true done s h = absurd (true≢false h)
off_done false done s h = refl

sends_next : (n t : ℕ) (text : List ℕ) (x : Turn) (took : List ℕ)
    → answer_of n (sends n t text x).host ≡ replies.Took took → TakesNext text x.script took (sends n t text x).script
sends_next n t text x took h =
    subst (TakesNext text x.script took)
    (sym (ap (λ (r : Reply). sent_on r (length text) x.script) h)) (record {
      bytes = first ∙ take_own (send_room e) most (drop x.script.done text)
          ∙ ap (λ (k : ℕ). take k (drop x.script.done text)) (sym (ap length first));
      all = λ g. on_took _ _ x.script (grind (arith, tests, g));
      left = λ g. off_left _ _ x.script (grind (arith, tests, g));
      rest = λ g. off_done _ _ x.script (grind (arith, tests, g));
    })
  where
    offer : List ℕ
    offer = take most (drop x.script.done text)

    asked : Live → Live
    asked l = with_call l (App x.script.number) t (calls.Send (length offer)) offer

    found : (l : Live) × (last_reply replies.Nothing (asked l).flow.entries ≡ replies.Took took)
    found = answer_at n asked x.host.flows took h

    e : Endpoint
    e = replay found.0.flow.params found.0.flow.entries

    first : took ≡ take (send_room e) offer
    first =
        step_took e (max t (last_tick 0 found.0.flow.entries)) (length offer) offer took
        (sym (last_push replies.Nothing found.0.flow.entries _) ∙ found.1)

-- ----- the step under way
flow_next : (o : Option ℕ) (flow t : ℕ) (text : List ℕ) (x : Turn) (took : List ℕ) → o ≡ Some flow
    → answer_of flow (on_flow o (λ (k : ℕ). sends k t text) x).host ≡ replies.Took took
    → TakesNext text x.script took (on_flow o (λ (k : ℕ). sends k t text) x).script
flow_next None flow t text x took same h = absurd (cc (same))
flow_next (Some k) flow t text x took same h =
    let equal : k ≡ flow = cc (same) in
    sends_next k t text x took
    (ap (λ (j : ℕ). answer_of j (sends k t text x).host) equal ∙ h)

same_pair : (a b c d : List ℕ) → ◌≡◌ {A = Option (List ℕ × List ℕ)} (Some (a, b)) (Some (c, d)) → (a ≡ c) × (b ≡ d)
same_pair a b c d h =
    let pair : ◌≡◌ {A = List ℕ × List ℕ} (a, b) (c, d) = cc (h) in
    (ap (λ (p : List ℕ × List ℕ). p.0) pair, ap (λ (p : List ℕ × List ℕ). p.1) pair)

no_pair : (a b : List ℕ) → ◌≡◌ {A = Option (List ℕ × List ℕ)} None (Some (a, b)) → ⊥
no_pair a b h = absurd (cc (h))

turn_next : (s : Scenario) (p : HostParams) (t : ℕ) (host : Host) (x : Script)
    → TookNext t (turn_on s p t host x).host x (turn_on s p t host x).script
turn_next s p t host x socket text took flow alive sent at answer = by_kill (is_killed_at t x.kill) alive answer where
  here : Turn
  here = record { host = host; script = x }

  by_left : (left : List Step) → sending left ≡ Some (socket, text)
      → answer_of flow (goes_on (starts_of p) (address_in s.hosts) t left here).host ≡ replies.Took took
      → TakesNext text x took (goes_on (starts_of p) (address_in s.hosts) t left here).script
  by_left [] same h = absurd (no_pair socket text same)
  by_left (steps.Send other words ∷ rest) same h =
      let name : other ≡ socket = (same_pair other words socket text same).0 in
      let words_are : words ≡ text = (same_pair other words socket text same).1 in
      subst (λ (w : List ℕ). TakesNext w x took
      (on_flow (flow_of (bound_in x.names other)) (λ (k : ℕ). sends k t words) here).script) words_are
      (flow_next (flow_of (bound_in x.names other)) flow t words here took
      (ap (λ (q : List ℕ). flow_of (bound_in x.names q)) name ∙ at) h)
  by_left (steps.Fill other count ∷ rest) same h =
      let name : other ≡ socket = (same_pair other (filling count) socket text same).0 in
      let words_are : filling count ≡ text = (same_pair other (filling count) socket text same).1 in
      subst (λ (w : List ℕ). TakesNext w x took
      (on_flow (flow_of (bound_in x.names other)) (λ (k : ℕ). sends k t (filling count)) here).script) words_are
      (flow_next (flow_of (bound_in x.names other)) flow t (filling count) here took
      (ap (λ (q : List ℕ). flow_of (bound_in x.names q)) name ∙ at) h)
  by_left (steps.Listen name port ∷ rest) same h = absurd (no_pair socket text same)
  by_left (steps.Accept other listener ∷ rest) same h = absurd (no_pair socket text same)
  by_left (steps.Connect other to port ∷ rest) same h = absurd (no_pair socket text same)
  by_left (steps.Recv other count ∷ rest) same h = absurd (no_pair socket text same)
  by_left (steps.Drain other ∷ rest) same h = absurd (no_pair socket text same)
  by_left (steps.Shut other ∷ rest) same h = absurd (no_pair socket text same)
  by_left (steps.Close other ∷ rest) same h = absurd (no_pair socket text same)
  by_left (steps.Abort other ∷ rest) same h = absurd (no_pair socket text same)
  by_left (steps.Wait count ∷ rest) same h = absurd (no_pair socket text same)

  by_kill : (b : Bool) → b ≡ false
      → answer_of flow (turn_where b (starts_of p) (address_in s.hosts) t here).host ≡ replies.Took took
      → TakesNext text x took (turn_where b (starts_of p) (address_in s.hosts) t here).script
  by_kill true dead h = absurd (true≢false dead)
  by_kill false dead h = by_left x.left sent h

-- ----- each tick
had_sends : (s : Scenario) (p : HostParams) (t : ℕ) (site : Site (List Script)) (deeds : List (Deed ℕ)) (b a : Script)
    → (had : HadTurn s p t site deeds b a)
    → TookNext t (reached s p t site
    (had.one.earlier ++ (record { by = had.one.by; action = Ask b.number }) ∷ [])).host b a
had_sends s p t site deeds b a had =
    subst (λ (h : Host). TookNext t h b a) (sym had.host)
    (subst (TookNext t (turn_on s p t (reached s p t site had.one.earlier).host b).host b) (sym had.script)
    (turn_next s p t (reached s p t site had.one.earlier).host b))

each_sends : (s : Scenario) (p : HostParams) (t : ℕ) (site : Site (List Script)) (deeds : List (Deed ℕ))
    (bs az : List Script) → OfEachScript (HadTurn s p t site deeds) bs az
    → OfEachScript (λ b a. (had : HadTurn s p t site deeds b a) × TookNext t (reached s p t site
    (had.one.earlier ++ (record { by = had.one.by; action = Ask b.number }) ∷ [])).host b a) bs az
each_sends s p t site deeds [] [] all = tt
each_sends s p t site deeds [] (a ∷ az) all = absurd all
each_sends s p t site deeds (b ∷ bs) [] all = absurd all
each_sends s p t site deeds (b ∷ bs) (a ∷ az) all =
    ((all.0, had_sends s p t site deeds b a all.0), each_sends s p t site deeds bs az all.1)

pub ticks_send : (s : Scenario) (log : RunLog) (run : Run s log) → InEachTick s log run (HadSends s)
ticks_send s log run = ticks_turned s log run (HadSends s) (λ t frames b a had.
    (had.0, each_sends s b.host.params t _ had.0.order b.scripts a.scripts had.1))
