-- In a whole run a frame stands in one place at most: each is due in one tick alone.
use Rattle.std.proofs.Common.{◌≡◌, ℕ, zero, suc, ◌+◌, ◌≤◌, ◌==◌, ◌&&◌, not, Bool, true, false, List, [], ◌∷◌}
use Rattle.std.proofs.Common.{◌++◌, length, map, filter, nat_le, nat_lt, refl, sym, subst, ap, arith, tests}
use Rattle.std.proofs.Common.{if◌then◌else◌}
use Rattle.std.proofs.Common.{Option, Some, None}
use Rattle.std.specs.List.{flat_map}
use Rattle.tas_model.specs.declared.entry.FourTuple.{FourTuple}
use Rattle.tas_model.specs.declared.entry.FrameId.{FrameId}
use Rattle.tas_model.specs.declared.entry.Head.{Head}
use Rattle.tas_model.specs.declared.entry.Seg.{Seg}
use Rattle.tas_model.specs.declared.entry.Entry.{Entry}
use Rattle.tas_model.specs.Outputs.{segments_in}
use Rattle.tas_model.specs.Segments.{one_if, bare}
use Rattle.host_rounds.specs.Logs.{RunLog}
use Rattle.host_rounds.specs.Hosts.{Live, flows_of}
use Rattle.host_rounds.specs.Deliveries.{same_frame}
use Rattle.host_rounds.specs.declared.log.LogLine.{LogLine}
use Rattle.host_rounds.specs.Passing.{AllGrew, Grew, LogGrew, Went}
use Rattle.host_rounds.specs.Places.{uses, uses_live, uses_flows, uses_hosts, coming}
use Rattle.host_rounds.proofs.OnePlace.{round_adds}
use Rattle.host_rounds.proofs.Runs.{flows_uses}
use Rattle.link_script.specs.LinkLines.{LinkLines}
use Rattle.link_script.specs.declared.frames.Sent.{Sent}
use Rattle.link_script.specs.DueFrames.{act_on, delay_by, is_lost, copies_under, coming_of, due}
use Rattle.scenario_text.specs.declared.scenario.Scenario.{Scenario}
use Rattle.scenario_text.specs.declared.scenario.HostLine.{HostLine}
use Rattle.scenario_runs.specs.Worlds.{World, site_of, host_at, frames_of_segments, frames_of_entries, frames_of_flows}
use Rattle.scenario_runs.specs.Worlds.{frames_of_log, frames_of_hosts, no_flow, sent_in, arrival, scripts_of, due_at}
use Rattle.scenario_runs.specs.Worlds.{at_start, is_at_rest, answer_on, frames_of_answer}
use Rattle.scenario_runs.specs.Runs.{AreRounds, End, RunsFrom, hosts_of, Run}
use Rattle.scenario_runs.proofs.ByMoves.{scenarios_by_moves}
use Rattle.scenario_laws.proofs.OneTick.{tick_went}
use Rattle.scenario_laws.proofs.AllTicks.{AllStand, of_line, rounds_stand, ticks_stand, start_stands}
use Rattle.scenario_laws.proofs.OneName.{named, named_append, is_of, sent_as, AreFirst, arrivals_named, order_named}
use Rattle.scenario_laws.proofs.OneName.{coming_named, hosts_first, all_few, all_most}

-- ----- how many frames were sent that pass a test of their name and tick
abbrev counted : (FrameId → ℕ → Bool) → List Sent → ℕ
counted test [] = 0
counted test (x ∷ xs) = one_if (test x.id x.tick) + counted test xs

counted_append : (test : FrameId → ℕ → Bool) (xs ys : List Sent)
    → counted test (xs ++ ys) ≡ counted test xs + counted test ys
counted_append test [] ys = omega arith
counted_append test (x ∷ xs) ys =
    let rest : counted test (xs ++ ys) ≡ counted test xs + counted test ys = counted_append test xs ys in omega arith

-- it counts no more than bear the name
one_and : (a b : Bool) → one_if (a && b) ≤ one_if a
one_and true true = omega arith
one_and true false = omega arith
one_and false b = omega arith

abbrev of_name : FrameId → (FrameId → ℕ → Bool) → FrameId → ℕ → Bool
of_name f test id t = is_of f id && test id t

counted_most : (f : FrameId) (test : FrameId → ℕ → Bool) (xs : List Sent) → counted (of_name f test) xs ≤ sent_as f xs
counted_most f test [] = omega arith
counted_most f test (x ∷ xs) =
    let one : one_if (is_of f x.id && test x.id x.tick) ≤ one_if (is_of f x.id) =
    one_and (is_of f x.id) (test x.id x.tick) in
    let rest : counted (of_name f test) xs ≤ sent_as f xs = counted_most f test xs in omega arith

-- ----- what was sent is not taken back
segments_same : (test : FrameId → ℕ → Bool) (host flow n t to to_too : ℕ) (tuple too : FourTuple) (segs : List Seg)
    → counted test (frames_of_segments host flow n t to tuple segs)
    ≡ counted test (frames_of_segments host flow n t to_too too segs)
segments_same test host flow n t to to_too tuple too [] = refl
segments_same test host flow n t to to_too tuple too (x ∷ xs) =
    ap (λ (k : ℕ). one_if (test (record { host = host; flow = flow; number = n; copy = 0 }) t) + k)
    (segments_same test host flow (n + 1) t to to_too tuple too xs)

entries_more : (test : FrameId → ℕ → Bool) (host flow n to to_too : ℕ) (tuple too : FourTuple) (xs more : List Entry)
    → counted test (frames_of_entries host flow n to tuple xs)
    ≤ counted test (frames_of_entries host flow n to_too too (xs ++ more))
entries_more test host flow n to to_too tuple too [] more = omega arith
entries_more test host flow n to to_too tuple too (x ∷ xs) more =
    let segs : List Seg = segments_in x.reply in
    let a : List Sent = frames_of_segments host flow n x.tick to tuple segs in
    let b : List Sent = frames_of_segments host flow n x.tick to_too too segs in
    let c : List Sent = frames_of_entries host flow (n + length segs) to tuple xs in
    let d : List Sent = frames_of_entries host flow (n + length segs) to_too too (xs ++ more) in
    let here : counted test a ≡ counted test b = segments_same test host flow n x.tick to to_too tuple too segs in
    let rest : counted test c ≤ counted test d =
    entries_more test host flow (n + length segs) to to_too tuple too xs more in
    let before : counted test (a ++ c) ≡ counted test a + counted test c = counted_append test a c in
    let after : counted test (b ++ d) ≡ counted test b + counted test d = counted_append test b d in
    omega arith

entries_grow : (test : FrameId → ℕ → Bool) (host flow n to to_too t : ℕ) (tuple too : FourTuple) (xs ys : List Entry)
    → Grew t xs ys → counted test (frames_of_entries host flow n to tuple xs)
    ≤ counted test (frames_of_entries host flow n to_too too ys)
entries_grow test host flow n to to_too t tuple too xs ys grew =
    subst (λ (zs : List Entry). counted test (frames_of_entries host flow n to tuple xs)
    ≤ counted test (frames_of_entries host flow n to_too too zs)) (sym grew.1)
    (entries_more test host flow n to to_too tuple too xs grew.0)

flows_grow : (test : FrameId → ℕ → Bool) (world next : World) (host n t : ℕ) (ls ms : List Live) → AllGrew t ls ms
    → counted test (frames_of_flows world host n ls) ≤ counted test (frames_of_flows next host n ms)
flows_grow test world next host n t [] ms grew = omega arith
flows_grow test world next host n t (l ∷ ls) [] grew = absurd grew
flows_grow test world next host n t (l ∷ ls) (m ∷ ms) grew =
    let to : ℕ = host_at world l.flow.tuple.raddr in
    let to_too : ℕ = host_at next m.flow.tuple.raddr in
    let a : List Sent = frames_of_entries host n 0 to l.flow.tuple l.flow.entries in
    let b : List Sent = frames_of_entries host n 0 to_too m.flow.tuple m.flow.entries in
    let c : List Sent = frames_of_flows world host (n + 1) ls in
    let d : List Sent = frames_of_flows next host (n + 1) ms in
    let here : counted test a ≤ counted test b =
    entries_grow test host n 0 to to_too t l.flow.tuple m.flow.tuple l.flow.entries m.flow.entries grew.0 in
    let rest : counted test c ≤ counted test d = flows_grow test world next host (n + 1) t ls ms grew.1 in
    let before : counted test (a ++ c) ≡ counted test a + counted test c = counted_append test a c in
    let after : counted test (b ++ d) ≡ counted test b + counted test d = counted_append test b d in
    omega arith

abbrev AllWent : (tick : ℕ) → (before after : World) → Type 0
AllWent t [] az = Unit {0}
AllWent t (b ∷ bs) [] = ⊥
AllWent t (b ∷ bs) (a ∷ az) = Went t b.host a.host × AllWent t bs az

answer_same : (test : FrameId → ℕ → Bool) (world next : World) (host n t : ℕ) (o : Option (FourTuple × Head))
    → counted test (frames_of_answer world host n t o) ≡ counted test (frames_of_answer next host n t o)
answer_same test world next host n t None = refl
answer_same test world next host n t (Some a) =
    segments_same test host no_flow n t (host_at world a.0.raddr) (host_at next a.0.raddr) a.0 a.0
    (bare a.1 ∷ [])

answer_length : (world next : World) (host n t : ℕ) (o : Option (FourTuple × Head))
    → length (frames_of_answer world host n t o) ≡ length (frames_of_answer next host n t o)
answer_length world next host n t None = refl
answer_length world next host n t (Some a) = refl

lines_more : (test : FrameId → ℕ → Bool) (world next : World) (host n : ℕ) (xs more : List LogLine)
    → counted test (frames_of_log world host n xs) ≤ counted test (frames_of_log next host n (xs ++ more))
lines_more test world next host n [] more = omega arith
lines_more test world next host n (x ∷ xs) more =
    let o : Option (FourTuple × Head) = answer_on x.event in
    let a : List Sent = frames_of_answer world host n x.tick o in
    let b : List Sent = frames_of_answer next host n x.tick o in
    let c : List Sent = frames_of_log world host (n + length a) xs in
    let d : List Sent = frames_of_log next host (n + length b) (xs ++ more) in
    let here : counted test a ≡ counted test b = answer_same test world next host n x.tick o in
    let rest : counted test c ≤ counted test d =
    subst (λ (k : ℕ). counted test c ≤ counted test (frames_of_log next host (n + k) (xs ++ more)))
    (answer_length world next host n x.tick o) (lines_more test world next host (n + length a) xs more) in
    let before : counted test (a ++ c) ≡ counted test a + counted test c = counted_append test a c in
    let after : counted test (b ++ d) ≡ counted test b + counted test d = counted_append test b d in
    omega arith

log_grow : (test : FrameId → ℕ → Bool) (world next : World) (host t : ℕ) (xs ys : List LogLine) → LogGrew t xs ys
    → counted test (frames_of_log world host 0 xs) ≤ counted test (frames_of_log next host 0 ys)
log_grow test world next host t xs ys grew =
    subst (λ (zs : List LogLine). counted test (frames_of_log world host 0 xs)
    ≤ counted test (frames_of_log next host 0 zs)) (sym grew.1) (lines_more test world next host 0 xs grew.0)

hosts_grow : (q : FrameId → ℕ → Bool) (world next : World) (t h : ℕ) (before after : World) → AllWent t before after
    → counted q (frames_of_hosts world h before) ≤ counted q (frames_of_hosts next h after)
hosts_grow q world next t h [] after went = omega arith
hosts_grow q world next t h (b ∷ bs) [] went = absurd went
hosts_grow q world next t h (b ∷ bs) (a ∷ az) went =
    let i : List Sent = frames_of_flows world h 0 b.host.flows in
    let j : List Sent = frames_of_log world h 0 b.host.log in
    let k : List Sent = frames_of_hosts world (h + 1) bs in
    let l : List Sent = frames_of_flows next h 0 a.host.flows in
    let m : List Sent = frames_of_log next h 0 a.host.log in
    let n : List Sent = frames_of_hosts next (h + 1) az in
    let flows : counted q i ≤ counted q l = flows_grow q world next h 0 t b.host.flows a.host.flows went.0.flows in
    let log : counted q j ≤ counted q m = log_grow q world next h t b.host.log a.host.log went.0.log in
    let rest : counted q k ≤ counted q n = hosts_grow q world next t (h + 1) bs az went.1 in
    let a0 : counted q ((i ++ j) ++ k) ≡ counted q (i ++ j) + counted q k = counted_append q (i ++ j) k in
    let a1 : counted q (i ++ j) ≡ counted q i + counted q j = counted_append q i j in
    let b0 : counted q ((l ++ m) ++ n) ≡ counted q (l ++ m) + counted q n = counted_append q (l ++ m) n in
    let b1 : counted q (l ++ m) ≡ counted q l + counted q m = counted_append q l m in
    omega arith

-- ----- frames are due in one tick
abbrev due_tick : LinkLines → FrameId → ℕ → ℕ
due_tick lines id t = t + 1 + delay_by (act_on lines id)

abbrev past : LinkLines → (tick : ℕ) → FrameId → ℕ → Bool
past lines t id sent = nat_lt (due_tick lines id sent) t

abbrev now : LinkLines → (tick : ℕ) → FrameId → ℕ → Bool
now lines t id sent = due_tick lines id sent == t

one_tick : (a : Bool) (d t : ℕ) → one_if (a && nat_lt d t) + one_if (a && d == t) ≤ one_if (a && nat_lt d (t + 1))
one_tick false d t = omega arith
one_tick true d t = by_test (nat_lt d t) (d == t) (nat_lt d (t + 1)) (grind (arith, tests)) (grind (arith, tests))
    (grind (arith, tests)) where
      by_test : (a b c : Bool) → (a ≡ true → b ≡ false) → (a ≡ true → c ≡ true) → (b ≡ true → c ≡ true)
          → one_if a + one_if b ≤ one_if c
      by_test true true c x y z = absurd (cc (x refl))
      by_test true false true x y z = omega arith
      by_test true false false x y z = absurd (cc (y refl))
      by_test false true true x y z = omega arith
      by_test false true false x y z = absurd (cc (z refl))
      by_test false false c x y z = omega arith

all_past : (f : FrameId) (lines : LinkLines) (t : ℕ) (xs : List Sent)
    → counted (of_name f (past lines t)) xs + counted (of_name f (now lines t)) xs
    ≤ counted (of_name f (past lines (t + 1))) xs
all_past f lines t [] = omega arith
all_past f lines t (x ∷ xs) =
    let one : one_if (is_of f x.id && nat_lt (due_tick lines x.id x.tick) t)
    + one_if (is_of f x.id && due_tick lines x.id x.tick == t)
    ≤ one_if (is_of f x.id && nat_lt (due_tick lines x.id x.tick) (t + 1)) =
    one_tick (is_of f x.id) (due_tick lines x.id x.tick) t in
    let rest : counted (of_name f (past lines t)) xs + counted (of_name f (now lines t)) xs
    ≤ counted (of_name f (past lines (t + 1))) xs = all_past f lines t xs in
    omega arith

coming_now : (f : FrameId) (lines : LinkLines) (t : ℕ) (x : Sent) → x.id.copy ≡ 0
    → named f (coming_of lines t x) ≤ one_if (is_of f x.id && due_tick lines x.id x.tick == t)
coming_now f lines t x first =
    by_due (due_tick lines x.id x.tick == t) (not (is_lost lines x.id)) (coming_named f lines t x first) where
      copies : List Sent
      copies = copies_under (act_on lines x.id) x

      and_true : (a : Bool) → one_if (a && true) ≡ one_if a
      and_true true = refl
      and_true false = refl

      by_due : (d l : Bool) → named f (if d && l then copies else []) ≤ one_if (is_of f x.id)
          → named f (if d && l then copies else []) ≤ one_if (is_of f x.id && d)
      by_due true l few = let same : one_if (is_of f x.id && true) ≡ one_if (is_of f x.id) = and_true (is_of f x.id) in
          omega arith
      by_due false l few = omega arith

all_now : (f : FrameId) (lines : LinkLines) (t : ℕ) (xs : List Sent) → AreFirst xs
    → named f (flat_map (coming_of lines t) xs) ≤ counted (of_name f (now lines t)) xs
all_now f lines t [] first = omega arith
all_now f lines t (x ∷ xs) first =
    let one : named f (coming_of lines t x) ≤ one_if (is_of f x.id && due_tick lines x.id x.tick == t) =
    coming_now f lines t x first.0 in
    let rest : named f (flat_map (coming_of lines t) xs) ≤ counted (of_name f (now lines t)) xs =
    all_now f lines t xs first.1 in
    let both : named f (coming_of lines t x ++ flat_map (coming_of lines t) xs)
    ≡ named f (coming_of lines t x) + named f (flat_map (coming_of lines t) xs) =
    named_append f (coming_of lines t x) (flat_map (coming_of lines t) xs) in
    omega arith

-- ----- a frame comes to one host
abbrev named_to : FrameId → (host : ℕ) → List Sent → ℕ
named_to f h [] = 0
named_to f h (x ∷ xs) = one_if (nat_le h x.to && same_frame f x.id) + named_to f h xs

split_one : (h to : ℕ) (a : Bool)
    → one_if (to == h && a) + one_if (nat_le (h + 1) to && a) ≤ one_if (nat_le h to && a)
split_one h to a = by_test (to == h) (nat_le (h + 1) to) (nat_le h to) a (grind (arith, tests)) (grind (arith, tests))
    (grind (arith, tests)) where
      by_test : (x y z a : Bool) → (x ≡ true → y ≡ false) → (x ≡ true → z ≡ true) → (y ≡ true → z ≡ true)
          → one_if (x && a) + one_if (y && a) ≤ one_if (z && a)
      by_test true true z a p q r = absurd (cc (p refl))
      by_test true false true a p q r = omega arith
      by_test true false false a p q r = absurd (cc (q refl))
      by_test false true true a p q r = omega arith
      by_test false true false a p q r = absurd (cc (r refl))
      by_test false false z a p q r = omega arith

split : (f : FrameId) (h : ℕ) (xs : List Sent)
    → named f (filter (λ (x : Sent). x.to == h) xs) + named_to f (h + 1) xs ≤ named_to f h xs
split f h [] = omega arith
split f h (x ∷ xs) = by_test (x.to == h) refl (split f h xs) where
  by_test : (b : Bool) → (x.to == h) ≡ b
      → named f (filter (λ (y : Sent). y.to == h) xs) + named_to f (h + 1) xs ≤ named_to f h xs
      → named f (if b then x ∷ filter (λ (y : Sent). y.to == h) xs else filter (λ (y : Sent). y.to == h) xs)
      + named_to f (h + 1) (x ∷ xs) ≤ named_to f h (x ∷ xs)
  by_test true e rest =
      let one : one_if (true && same_frame f x.id) + one_if (nat_le (h + 1) x.to && same_frame f x.id)
      ≤ one_if (nat_le h x.to && same_frame f x.id) =
      subst (λ (b : Bool). one_if (b && same_frame f x.id) + one_if (nat_le (h + 1) x.to && same_frame f x.id)
      ≤ one_if (nat_le h x.to && same_frame f x.id)) e (split_one h x.to (same_frame f x.id)) in
      omega arith
  by_test false e rest =
      let one : one_if (x.to == h && same_frame f x.id) + one_if (nat_le (h + 1) x.to && same_frame f x.id)
      ≤ one_if (nat_le h x.to && same_frame f x.id) = split_one h x.to (same_frame f x.id) in
      omega arith

to_most : (f : FrameId) (h : ℕ) (xs : List Sent) → named_to f h xs ≤ named f xs
to_most f h [] = omega arith
to_most f h (x ∷ xs) =
    let one : one_if (nat_le h x.to && same_frame f x.id) ≤ one_if (same_frame f x.id) =
    and_most (nat_le h x.to) (same_frame f x.id) in
    let rest : named_to f h xs ≤ named f xs = to_most f h xs in omega arith
  where
    and_most : (a b : Bool) → one_if (a && b) ≤ one_if b
    and_most true b = omega arith
    and_most false true = omega arith
    and_most false false = omega arith

-- ----- one tick of all hosts
abbrev uses_in_all : FrameId → World → ℕ
uses_in_all f [] = 0
uses_in_all f (site ∷ sites) = uses f site.host + uses_in_all f sites

rounds_use : (f : FrameId) (s : Scenario) (whole : World) (t h : ℕ) (lines : List HostLine) (before after : World)
    → AreRounds s whole t h before after → AllStand t lines before
    → uses_in_all f after ≤ uses_in_all f before + named_to f h (due s.link (sent_in whole) t)
rounds_use f s whole t h [] [] [] rounds stand = omega arith
rounds_use f s whole t h [] [] (a ∷ az) rounds stand = absurd rounds
rounds_use f s whole t h [] (b ∷ bs) after rounds stand = absurd stand
rounds_use f s whole t h (l ∷ ls) [] after rounds stand = absurd stand
rounds_use f s whole t h (l ∷ ls) (b ∷ bs) [] rounds stand = absurd rounds
rounds_use f s whole t h (l ∷ ls) (b ∷ bs) (a ∷ az) rounds stand =
    let all : List Sent = due s.link (sent_in whole) t in
    let here : List Sent = filter (λ (x : Sent). x.to == h) all in
    let one : uses f a.host ≡ uses f b.host + coming f (map arrival here) =
    round_adds (scripts_of s l.params) t (due_at s whole t h b.scripts) b a f (scenarios_by_moves s l.params)
    (of_line s whole t h l.params b a rounds.0 stand.0) stand.0.right.legal in
    let same : coming f (map arrival here) ≡ named f here = arrivals_named f here in
    let rest : uses_in_all f az ≤ uses_in_all f bs + named_to f (h + 1) all =
    rounds_use f s whole t (h + 1) ls bs az rounds.1 stand.1 in
    let parts : named f here + named_to f (h + 1) all ≤ named_to f h all = split f h all in
    omega arith

rounds_went : (s : Scenario) (whole : World) (t h : ℕ) (lines : List HostLine) (before after : World)
    → AreRounds s whole t h before after → AllStand t lines before → AllWent t before after
rounds_went s whole t h [] [] after rounds stand = tt
rounds_went s whole t h [] (b ∷ bs) after rounds stand = absurd stand
rounds_went s whole t h (l ∷ ls) [] after rounds stand = absurd stand
rounds_went s whole t h (l ∷ ls) (b ∷ bs) [] rounds stand = absurd rounds
rounds_went s whole t h (l ∷ ls) (b ∷ bs) (a ∷ az) rounds stand = (
  tick_went s l.params t (due_at s whole t h b.scripts) b a (of_line s whole t h l.params b a rounds.0 stand.0)
      stand.0,
  rounds_went s whole t (h + 1) ls bs az rounds.1 stand.1,
)

-- ----- all ticks
-- no more places than frames of the name that were due before
abbrev HasPlaced : FrameId → Scenario → (tick : ℕ) → World → Type 0
HasPlaced f s t world = uses_in_all f world ≤ counted (of_name f (past s.link t)) (sent_in world)

tick_placed : (f : FrameId) (s : Scenario) (t : ℕ) (world next : World) → AreRounds s world t 0 world next
    → AllStand t s.hosts world → HasPlaced f s t world
    → HasPlaced f s (t + 1) next
tick_placed f s t world next rounds stand placed =
    let all : List Sent = sent_in world in
    let a : uses_in_all f next ≤ uses_in_all f world + named_to f 0 (due s.link all t) =
    rounds_use f s world t 0 s.hosts world next rounds stand in
    let b : named_to f 0 (due s.link all t) ≤ named f (due s.link all t) = to_most f 0 (due s.link all t) in
    let c : named f (due s.link all t) ≡ named f (flat_map (coming_of s.link t) all) =
    order_named f (flat_map (coming_of s.link t) all) in
    let d : named f (flat_map (coming_of s.link t) all) ≤ counted (of_name f (now s.link t)) all =
    all_now f s.link t all (hosts_first world 0 world) in
    let e : counted (of_name f (past s.link t)) all + counted (of_name f (now s.link t)) all
    ≤ counted (of_name f (past s.link (t + 1))) all = all_past f s.link t all in
    let g : counted (of_name f (past s.link (t + 1))) all
    ≤ counted (of_name f (past s.link (t + 1))) (sent_in next) =
    hosts_grow (of_name f (past s.link (t + 1))) world next t 0 world next
    (rounds_went s world t 0 s.hosts world next rounds stand) in
    omega arith

runs_place : (f : FrameId) (s : Scenario) (most t : ℕ) (world : World) (end : End)
    → RunsFrom s most t world end → AllStand t s.hosts world → HasPlaced f s t world
    → HasPlaced f s end.ticks end.world
runs_place f s zero t world end same stand placed =
    subst (λ (e : End). HasPlaced f s e.ticks e.world) (sym same) placed
runs_place f s (suc most) t world end run stand placed =
    let next : World = run.0 in
    let later : AllStand (t + 1) s.hosts next = rounds_stand s world t 0 s.hosts world next run.1 stand in
    let after : HasPlaced f s (t + 1) next = tick_placed f s t world next run.1 stand placed in
    by_rest (is_at_rest s t next) refl run.2 run.3 after
    (λ rest. runs_place f s most (t + 1) next end rest later after)
  where
    by_rest : {next : World} (b : Bool) → is_at_rest s t next ≡ b
        → (is_at_rest s t next ≡ true → end ≡ record { world = next; ticks = t + 1; stalled = false })
        → (is_at_rest s t next ≡ false → RunsFrom s most (t + 1) next end) → HasPlaced f s (t + 1) next
        → (RunsFrom s most (t + 1) next end → HasPlaced f s end.ticks end.world)
        → HasPlaced f s end.ticks end.world
    by_rest true h stops goes after more =
        subst (λ (e : End). HasPlaced f s e.ticks e.world) (sym (stops h)) after
    by_rest false h stops goes after more = more (goes h)

start_uses : (f : FrameId) (s : Scenario) (lines : List HostLine) → uses_in_all f (map (site_of s) lines) ≡ 0
start_uses f s [] = refl
start_uses f s (l ∷ ls) = let rest : uses_in_all f (map (site_of s) ls) ≡ 0 = start_uses f s ls in omega arith

hosts_use : (f : FrameId) (lines : List HostLine) (world : World)
    → uses_hosts f (hosts_of lines world) ≤ uses_in_all f world
hosts_use f [] world = omega arith
hosts_use f (l ∷ ls) [] = omega arith
hosts_use f (l ∷ ls) (site ∷ sites) =
    let flows : uses_flows f (flows_of site.host.flows) ≡ uses_live f site.host.flows =
    flows_uses f site.host.flows in
    let rest : uses_hosts f (hosts_of ls sites) ≤ uses_in_all f sites = hosts_use f ls sites in
    omega arith

pub runs_once : (s : Scenario) (log : RunLog) (frame : FrameId) → Run s log → uses_hosts frame log.hosts ≤ 1
runs_once s log f run =
    let end : End = run.0 in
    let none : uses_in_all f (at_start s) ≡ 0 = start_uses f s s.hosts in
    let placed : HasPlaced f s end.ticks end.world =
    runs_place f s s.limit 0 (at_start s) end run.1 (start_stands s s.hosts) (omega arith) in
    let few : counted (of_name f (past s.link end.ticks)) (sent_in end.world) ≤ sent_as f (sent_in end.world) =
    counted_most f (past s.link end.ticks) (sent_in end.world) in
    let stand : AllStand end.ticks s.hosts end.world =
    ticks_stand s s.limit 0 (at_start s) end run.1 (start_stands s s.hosts) in
    let one : sent_as f (sent_in end.world) ≤ 1 =
    all_most f end.world 0 end.world (all_few end.ticks s.hosts end.world stand) in
    let hosts : uses_hosts f (hosts_of s.hosts end.world) ≤ uses_in_all f end.world = hosts_use f s.hosts end.world in
    subst (λ (r : RunLog). uses_hosts f r.hosts ≤ 1) (sym run.2) (omega arith)
