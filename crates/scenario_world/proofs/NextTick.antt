-- A tick of a world leads to the world before the next one.
use Rattle.std.proofs.Common.{◌≡◌, ℕ, ◌+◌, ◌<◌, ◌≤◌, ◌||◌, Bool, nat_lt, List, [], ◌∷◌, ◌++◌, length}
use Rattle.std.proofs.Common.{suc, refl, sym, ap, ◌∙◌, subst, arith}
use Rattle.std.specs.List.{list_any}
use Rattle.std.proofs.lemmas.List.{length-map}
use Rattle.tas_model.specs.declared.entry.HostParams.{HostParams}
use Rattle.host_rounds.specs.Scripts.{Site}
use Rattle.link_script.specs.declared.frames.Sent.{Sent}
use Rattle.link_script.specs.DueFrames.{due}
use Rattle.link_script.proofs.Coming.{due_by_ticks}
use Rattle.scenario_text.specs.declared.scenario.Scenario.{Scenario}
use Rattle.scenario_text.specs.declared.scenario.HostLine.{HostLine}
use Rattle.scenario_runs.specs.Applications.{Script}
use Rattle.scenario_runs.specs.Worlds.{World, frames_of_hosts, sent_in, is_under_way}
use Rattle.scenario_runs.specs.Runs.{AreRounds, IsTick, serial_sites, serial_world}
use Rattle.sent_frames.specs.declared.counts.SentCounts.{SentCounts}
use Rattle.sent_frames.specs.Sending.{addresses_of, of_tick, AreUpTo}
use Rattle.scenario_world.specs.declared.playing.Playing.{Playing}
use Rattle.scenario_world.specs.declared.traffic.Traffic.{Traffic}
use Rattle.scenario_world.specs.Playing.{FramesBefore, AreCounted, AreCountedBefore, AreEarly, params_of}
use Rattle.scenario_world.specs.Playing.{AreKept, IsWorldOf, IsWorld, IsPlayedOf, IsPlayed}
use Rattle.scenario_world.proofs.ByTick.{SameBut, same_next, any_next, tick_frames}
use Rattle.scenario_world.proofs.WorldTicks.{AreTicked, world_ticked, serial_is_tick, next_are_early, same_addresses}
use Rattle.scenario_world.proofs.WorldTicks.{sent_but, sent_none}
use Rattle.scenario_world.proofs.Counted.{before_ticked}

-- ----- before the tick
-- What is due goes by what is kept.
pub due_as_kept : (s : Scenario) (t : ℕ) (world : World) (kept : List Sent) (last : ℕ) → AreKept s t world kept last
    → due s.link kept t ≡ due s.link (sent_in world) t
due_as_kept s t world kept last k =
    due_by_ticks s.link kept (sent_in world) t k.low (λ f l. k.over f t l (omega arith)) k.same

ticked_len : (t : ℕ) (before after : World) → AreTicked t before after → length after ≡ length before
ticked_len t [] [] ticked = refl
ticked_len t [] (a ∷ az) ticked = absurd ticked
ticked_len t (b ∷ bs) [] ticked = absurd ticked
ticked_len t (b ∷ bs) (a ∷ az) ticked = ap suc (ticked_len t bs az ticked.1)

pub hosts_len : (s : Scenario) (t : ℕ) (world : World) (k : Traffic) → IsWorldOf s t world k
    → length world ≡ length s.hosts
hosts_len s t world k w =
    sym (length-map world (λ (site : Site (List Script)). site.host.params))
    ∙ (ap length w.params ∙ length-map s.hosts (λ (h : HostLine). h.params))

pub few_hosts : (s : Scenario) (t : ℕ) (hosts : World) (k : Traffic) → length s.hosts ≤ 8 → IsPlayedOf s t hosts k
    → length hosts ≤ 8
few_hosts s t hosts k few w =
    let ticked = ticked_len t w.before hosts (world_ticked s t w.before hosts w.world.early w.tick) in
    omega (arith, ticked, hosts_len s t w.before k w.world, few)

-- Each host played its part of the world's tick.
pub played_world : (s : Scenario) (t : ℕ) (p : Playing) (came : List Sent) (lent hosts : World) → IsWorld s t p
    → came ≡ due s.link p.traffic.sent t → lent ≡ p.hosts.items
    → ((whole : World) → came ≡ due s.link (sent_in whole) t → hosts ≡ serial_sites s whole t 0 lent)
    → hosts ≡ serial_world s t p.hosts.items
unfolding serial_world
played_world s t p came lent hosts w is same played =
    played p.hosts.items (is ∙ due_as_kept s t p.hosts.items p.traffic.sent p.traffic.last w.kept)
    ∙ ap (serial_sites s p.hosts.items t 0) same

pub serially_played : (s : Scenario) (t : ℕ) (p : Playing) (hosts : World) → IsWorld s t p
    → hosts ≡ serial_world s t p.hosts.items → IsTick s t p.hosts.items hosts
serially_played s t p hosts w played =
    subst (λ az. IsTick s t p.hosts.items az) (sym played) (serial_is_tick s t p.hosts.items w.early)

-- the same on cores
pub cores_played : (s : Scenario) (t : ℕ) (world : World) (k : Traffic) (came : List Sent) (lent hosts : World)
    → IsWorldOf s t world k → came ≡ due s.link k.sent t → lent ≡ world
    → ((whole : World) → came ≡ due s.link (sent_in whole) t → AreEarly t lent → AreRounds s whole t 0 lent hosts)
    → IsTick s t world hosts
cores_played s t world k came lent hosts w is same played =
    subst (λ bs. AreRounds s world t 0 bs hosts) same
    (played world (is ∙ due_as_kept s t world k.sent k.last w.kept)
    (subst (λ bs. AreEarly t bs) (sym same) w.early))

-- the hosts have played, and nothing else has changed
pub are_played : (s : Scenario) (t : ℕ) (world : World) (k : Traffic) (hosts next : World) → IsWorldOf s t world k
    → IsTick s t world hosts → next ≡ hosts → IsPlayedOf s t next k
are_played s t world k hosts next w tick is =
    record {
      before = world;
      world = w;
      tick = subst (λ az. IsTick s t world az) (sym is) tick;
    }

pub to_count : (s : Scenario) (t : ℕ) (hosts : World) (k : Traffic) → IsPlayedOf s t hosts k
    → AreCountedBefore t hosts k.counts.items
to_count s t hosts k w =
    before_ticked t w.before hosts k.counts.items w.world.early w.world.counted
    (world_ticked s t w.before hosts w.world.early w.tick)

up_to : (t : ℕ) (fs : List Sent) → FramesBefore t fs → AreUpTo t fs
up_to t [] before = tt
up_to t (f ∷ fs) before = ((let here : f.tick < t = before.0 in omega arith), up_to t fs before.1)

pub kept_up_to : (s : Scenario) (t : ℕ) (hosts : World) (k : Traffic) → IsPlayedOf s t hosts k → AreUpTo t k.sent
kept_up_to s t hosts k w = up_to t k.sent w.world.kept.early

-- ----- after it
before_next : (t : ℕ) (fs : List Sent) → AreUpTo t fs → FramesBefore (t + 1) fs
before_next t [] up = tt
before_next t (f ∷ fs) up = ((let here : f.tick ≤ t = up.0 in omega arith), before_next t fs up.1)

same_params : (t : ℕ) (before after : World) → AreTicked t before after → params_of after ≡ params_of before
same_params t [] [] ticked = refl
same_params t [] (a ∷ az) ticked = absurd ticked
same_params t (b ∷ bs) [] ticked = absurd ticked
same_params t (b ∷ bs) (a ∷ az) ticked =
    ap (λ (q : HostParams). q ∷ params_of az) (ticked.0).kept.params
    ∙ ap (λ (qs : List HostParams). b.host.params ∷ qs) (same_params t bs az ticked.1)

next_kept : (s : Scenario) (t : ℕ) (before after : World) (kept next : List Sent) (last end : ℕ)
    → AreKept s t before kept last → of_tick t (sent_in before) ≡ [] → SameBut t (sent_in before) (sent_in after)
    → next ≡ kept ++ of_tick t (sent_in after) → AreUpTo t next
    → ((n : ℕ) → nat_lt n end ≡ (nat_lt n last || list_any (is_under_way s.link n) (of_tick t next)))
    → AreKept s (t + 1) after next end
next_kept s t before after kept next last end k none but is up coming =
    record {
      early = before_next t next up;
      low = k.low;
      over = λ f u l le. k.over f u l (omega (arith, le));
      same = λ n le.
          ap (of_tick n) is ∙ same_next t k.low kept (sent_in before) (sent_in after) k.early k.same but n le;
      coming = λ n.
          let p : Sent → Bool = is_under_way s.link n in
          any_next t p (sent_in before) (sent_in after) none but
          ∙ (ap (λ b. b || list_any p (of_tick t (sent_in after))) (k.coming n)
          ∙ sym (coming n
          ∙ ap (λ fs. nat_lt n last || list_any p fs) (ap (of_tick t) is
          ∙ tick_frames t kept (sent_in after) k.early)));
    }

-- The world before the next tick: the hosts that have played are these ones, and what is kept is `k` then, and `l`
-- after what they sent in it.
pub next_world : (s : Scenario) (t : ℕ) (hosts next after : World) (k l : Traffic) (counts : List SentCounts)
    → IsPlayedOf s t hosts k → hosts ≡ after → next ≡ after → l.counts.items ≡ counts
    → l.addresses.items ≡ k.addresses.items → AreCounted after counts
    → ((world : World) → k.addresses.items ≡ addresses_of world
    → l.sent ≡ k.sent ++ of_tick t (frames_of_hosts world 0 after))
    → AreUpTo t l.sent
    → ((n : ℕ) → nat_lt n l.last ≡ (nat_lt n k.last || list_any (is_under_way s.link n) (of_tick t l.sent)))
    → IsWorldOf s (t + 1) next l
next_world s t hosts next after k l counts w was_after is_after is_counts addresses counted sent up coming =
    let before : World = w.before in
    let early : AreEarly t before = w.world.early in
    let ticked : AreTicked t before after =
    subst (λ az. AreTicked t before az) was_after (world_ticked s t before hosts early w.tick) in
    let same : k.addresses.items ≡ addresses_of after = w.world.addresses
    ∙ sym (same_addresses t before after ticked) in
    record {
      params = ap params_of is_after ∙ (same_params t before after ticked ∙ w.world.params);
      early = subst (λ az. AreEarly (t + 1) az) (sym is_after) (next_are_early t before after early ticked);
      addresses = addresses ∙ (same ∙ ap addresses_of (sym is_after));
      counted = subst (λ az. AreCounted az l.counts.items) (sym is_after)
          (subst (λ cs. AreCounted after cs) (sym is_counts) counted);
      kept = subst (λ az. AreKept s (t + 1) az l.sent l.last) (sym is_after)
          (next_kept s t before after k.sent l.sent k.last l.last w.world.kept (sent_none t before early)
          (sent_but t before after ticked) (sent after same) up coming);
    }
