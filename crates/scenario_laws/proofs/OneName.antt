-- In a tick a frame comes once at most: no two frames bear one name.
use Rattle.std.proofs.Common.{◌≡◌, ℕ, zero, suc, ◌+◌, ◌≤◌, ◌<◌, ◌==◌, ◌&&◌, Bool, true, false, List, [], ◌∷◌}
use Rattle.std.proofs.Common.{◌++◌, length, map, filter, Option, Some, None, refl, sym, subst, ap, ◌∙◌, arith, tests}
use Rattle.std.proofs.Common.{true≢false, if◌then◌else◌}
use Rattle.std.specs.List.{flat_map}
use Rattle.std.proofs.lemmas.List.{length-append}
use Rattle.tas_model.specs.declared.entry.FourTuple.{FourTuple}
use Rattle.tas_model.specs.declared.entry.FrameId.{FrameId}
use Rattle.tas_model.specs.declared.entry.Head.{Head}
use Rattle.tas_model.specs.declared.entry.HostParams.{HostParams}
use Rattle.tas_model.specs.declared.entry.Seg.{Seg}
use Rattle.tas_model.specs.declared.entry.Entry.{Entry}
use Rattle.tas_model.specs.Outputs.{segments_in}
use Rattle.tas_model.specs.Segments.{one_if}
use Rattle.host_rounds.specs.declared.log.LogLine.{LogLine}
use Rattle.host_rounds.specs.Lists.{Each}
use Rattle.host_rounds.specs.Logs.{RunLog}
use Rattle.host_rounds.specs.Hosts.{Live, Starts}
use Rattle.host_rounds.specs.Openings.{Opening, AreOpened}
use Rattle.host_rounds.proofs.Keeps.{openings, length_is}
use Rattle.host_rounds.specs.Deliveries.{same_frame}
use Rattle.host_rounds.specs.Places.{coming}
use Rattle.link_script.specs.LinkLines.{LinkLines}
use Rattle.link_script.specs.declared.frames.Sent.{Sent}
use Rattle.link_script.specs.declared.script.LinkAct.{LinkAct}
use Rattle.link_script.specs.declared.script.LinkAct.TheVariants as acts
use Rattle.link_script.specs.DueFrames.{act_on, is_due, copies_under, coming_of, goes_before, placed, in_due_order, due}
use Rattle.scenario_text.specs.declared.scenario.Scenario.{Scenario}
use Rattle.scenario_runs.specs.Worlds.{World, host_at, frames_of_segments, frames_of_entries, frames_of_flows, no_flow}
use Rattle.scenario_runs.specs.Worlds.{answer_on, frames_of_answer, frames_of_log, frames_of_hosts, sent_in, arrival}
use Rattle.scenario_runs.specs.Worlds.{at_start, arrivals_at, starts_of}
use Rattle.scenario_text.specs.declared.scenario.HostLine.{HostLine}
use Rattle.scenario_runs.specs.Runs.{AreRounds, End, RunsFrom, Run}
use Rattle.scenario_laws.specs.Ticks.{HostTick, OfEachHost, FromTick, InEachTick}
use Rattle.scenario_laws.proofs.AllTicks.{AllStand, rounds_stand, start_stands}

-- ----- how many frames bear a name
abbrev pub named : FrameId → List Sent → ℕ
named f [] = 0
named f (x ∷ xs) = one_if (same_frame f x.id) + named f xs

-- but for the number of the copy
abbrev pub is_of : FrameId → FrameId → Bool
is_of f id = f.host == id.host && f.flow == id.flow && f.number == id.number

abbrev pub sent_as : FrameId → List Sent → ℕ
sent_as f [] = 0
sent_as f (x ∷ xs) = one_if (is_of f x.id) + sent_as f xs

sent_append : (f : FrameId) (xs ys : List Sent) → sent_as f (xs ++ ys) ≡ sent_as f xs + sent_as f ys
sent_append f [] ys = omega arith
sent_append f (x ∷ xs) ys =
    let rest : sent_as f (xs ++ ys) ≡ sent_as f xs + sent_as f ys = sent_append f xs ys in omega arith

pub named_append : (f : FrameId) (xs ys : List Sent) → named f (xs ++ ys) ≡ named f xs + named f ys
named_append f [] ys = omega arith
named_append f (x ∷ xs) ys =
    let rest : named f (xs ++ ys) ≡ named f xs + named f ys = named_append f xs ys in omega arith

one_most : (b : Bool) → one_if b ≤ 1
one_most true = omega arith
one_most false = omega arith

-- ----- the link
pub arrivals_named : (f : FrameId) (xs : List Sent) → coming f (map arrival xs) ≡ named f xs
arrivals_named f [] = refl
arrivals_named f (x ∷ xs) = ap (λ (n : ℕ). one_if (same_frame f x.id) + n) (arrivals_named f xs)

filter_named : (f : FrameId) (test : Sent → Bool) (xs : List Sent) → named f (filter test xs) ≤ named f xs
filter_named f test [] = omega arith
filter_named f test (x ∷ xs) = by_test (test x) (filter_named f test xs) where
  by_test : (b : Bool) → named f (filter test xs) ≤ named f xs
      → named f (if b then x ∷ filter test xs else filter test xs) ≤ one_if (same_frame f x.id) + named f xs
  by_test true rest = omega arith
  by_test false rest = omega arith

placed_named : (f : FrameId) (x : Sent) (xs : List Sent)
    → named f (placed x xs) ≡ one_if (same_frame f x.id) + named f xs
placed_named f x [] = refl
placed_named f x (y ∷ ys) = by_order (goes_before y x) (placed_named f x ys) where
  by_order : (b : Bool) → named f (placed x ys) ≡ one_if (same_frame f x.id) + named f ys
      → named f (elim b [ true ↦ y ∷ placed x ys | false ↦ x ∷ y ∷ ys ])
      ≡ one_if (same_frame f x.id) + (one_if (same_frame f y.id) + named f ys)
  by_order true rest = omega arith
  by_order false rest = refl

pub order_named : (f : FrameId) (xs : List Sent) → named f (in_due_order xs) ≡ named f xs
order_named f [] = refl
order_named f (x ∷ xs) =
    placed_named f x (in_due_order xs) ∙ ap (λ (n : ℕ). one_if (same_frame f x.id) + n) (order_named f xs)

-- two copies bear different names
copy_most : (a b c d : Bool) → one_if (a && b && c && d) + 0 ≤ one_if (a && b && c)
copy_most true true true d = let one : one_if d ≤ 1 = one_most d in omega arith
copy_most true true false d = omega arith
copy_most true false c d = omega arith
copy_most false b c d = omega arith

copies_most : (a b c d e : Bool) → (d ≡ true → e ≡ false)
    → one_if (a && b && c && d) + (one_if (a && b && c && e) + 0) ≤ one_if (a && b && c)
copies_most true true true true true other = absurd (true≢false (other refl))
copies_most true true true true false other = omega arith
copies_most true true true false true other = omega arith
copies_most true true true false false other = omega arith
copies_most true true false d e other = omega arith
copies_most true false c d e other = omega arith
copies_most false b c d e other = omega arith

not_both : (k : ℕ) → (k == 0) ≡ true → (k == 1) ≡ false
not_both k h = grind (arith, tests, h)

pub coming_named : (f : FrameId) (lines : LinkLines) (t : ℕ) (x : Sent) → x.id.copy ≡ 0
    → named f (coming_of lines t x) ≤ one_if (is_of f x.id)
coming_named f lines t x first = by_due (is_due lines t x) where
  h : Bool
  h = f.host == x.id.host

  g : Bool
  g = f.flow == x.id.flow

  n : Bool
  n = f.number == x.id.number

  alone : one_if (h && g && n && f.copy == x.id.copy) + 0 ≤ one_if (h && g && n)
  alone = subst (λ (c : ℕ). one_if (h && g && n && f.copy == c) + 0 ≤ one_if (h && g && n)) (sym first)
      (copy_most h g n (f.copy == 0))

  by_act : (o : Option LinkAct) → named f (copies_under o x) ≤ one_if (h && g && n)
  by_act None = alone
  by_act (Some acts.Drop) = alone
  by_act (Some acts.Dup) = subst (λ (c : ℕ). one_if (h && g && n && f.copy == c)
      + (one_if (h && g && n && f.copy == 1) + 0) ≤ one_if (h && g && n)) (sym first)
      (copies_most h g n (f.copy == 0) (f.copy == 1) (not_both f.copy))
  by_act (Some (acts.Delay ticks)) = alone
  by_act (Some (acts.Corrupt place)) = alone

  by_due : (b : Bool) → named f (if b then copies_under (act_on lines x.id) x else []) ≤ one_if (h && g && n)
  by_due true = by_act (act_on lines x.id)
  by_due false = omega arith

abbrev pub AreFirst : List Sent → Type 0
AreFirst xs = Each (λ (x : Sent). x.id.copy ≡ 0) xs

all_named : (f : FrameId) (lines : LinkLines) (t : ℕ) (xs : List Sent) → AreFirst xs
    → named f (flat_map (coming_of lines t) xs) ≤ sent_as f xs
all_named f lines t [] first = omega arith
all_named f lines t (x ∷ xs) first =
    let one : named f (coming_of lines t x) ≤ one_if (is_of f x.id) = coming_named f lines t x first.0 in
    let rest : named f (flat_map (coming_of lines t) xs) ≤ sent_as f xs = all_named f lines t xs first.1 in
    let both : named f (coming_of lines t x ++ flat_map (coming_of lines t) xs)
    ≡ named f (coming_of lines t x) + named f (flat_map (coming_of lines t) xs) =
    named_append f (coming_of lines t x) (flat_map (coming_of lines t) xs) in
    omega arith

-- ----- all that was sent
first_append : (xs ys : List Sent) → AreFirst xs → AreFirst ys → AreFirst (xs ++ ys)
first_append [] ys a b = b
first_append (x ∷ xs) ys a b = (a.0, first_append xs ys a.1 b)

abbrev name : (host flow number : ℕ) → FrameId
name host flow n = record { host = host; flow = flow; number = n; copy = 0 }

segments_first : (host flow n t to : ℕ) (tuple : FourTuple) (segs : List Seg)
    → AreFirst (frames_of_segments host flow n t to tuple segs)
segments_first host flow n t to tuple [] = tt
segments_first host flow n t to tuple (x ∷ xs) = (refl, segments_first host flow (n + 1) t to tuple xs)

entries_first : (host flow n to : ℕ) (tuple : FourTuple) (xs : List Entry)
    → AreFirst (frames_of_entries host flow n to tuple xs)
entries_first host flow n to tuple [] = tt
entries_first host flow n to tuple (x ∷ xs) =
    first_append _ _ (segments_first host flow n x.tick to tuple (segments_in x.reply))
    (entries_first host flow (n + length (segments_in x.reply)) to tuple xs)

flows_first : (world : World) (host n : ℕ) (ls : List Live) → AreFirst (frames_of_flows world host n ls)
flows_first world host n [] = tt
flows_first world host n (l ∷ ls) =
    first_append _ _ (entries_first host n 0 (host_at world l.flow.tuple.raddr) l.flow.tuple l.flow.entries)
    (flows_first world host (n + 1) ls)

answer_first : (world : World) (host n t : ℕ) (o : Option (FourTuple × Head))
    → AreFirst (frames_of_answer world host n t o)
answer_first world host n t None = tt
answer_first world host n t (Some a) = (refl, tt)

log_first : (world : World) (host n : ℕ) (ls : List LogLine) → AreFirst (frames_of_log world host n ls)
log_first world host n [] = tt
log_first world host n (l ∷ ls) =
    first_append _ _ (answer_first world host n l.tick (answer_on l.event)) (log_first world host
    (n + length (frames_of_answer world host n l.tick (answer_on l.event))) ls)

pub hosts_first : (world : World) (h : ℕ) (sites : World) → AreFirst (frames_of_hosts world h sites)
hosts_first world h [] = tt
hosts_first world h (site ∷ sites) =
    first_append _ _ (first_append _ _ (flows_first world h 0 site.host.flows) (log_first world h 0 site.host.log))
    (hosts_first world (h + 1) sites)

-- ----- none is of this name
other_host : (a b c : Bool) → a ≡ false → (a && b && c) ≡ false
other_host true b c h = absurd (true≢false h)
other_host false b c h = refl

pub other_flow : (a b c : Bool) → b ≡ false → (a && b && c) ≡ false
other_flow a true c h = absurd (true≢false h)
other_flow true false c h = refl
other_flow false false c h = refl

other_number : (a b c : Bool) → c ≡ false → (a && b && c) ≡ false
other_number a b true h = absurd (true≢false h)
other_number true true false h = refl
other_number true false false h = refl
other_number false b false h = refl

pub below_test : (a b : ℕ) → a < b → (a == b) ≡ false
below_test a b h = grind (arith, tests, h)

above_test : (a b : ℕ) → b < a → (a == b) ≡ false
above_test a b h = grind (arith, tests, h)

none_more : (b : Bool) (n : ℕ) → b ≡ false → n ≡ 0 → one_if b + n ≡ 0
none_more true n h rest = absurd (true≢false h)
none_more false n h rest = omega arith

segments_none : (f : FrameId) (host flow n t to : ℕ) (tuple : FourTuple) (segs : List Seg)
    → ((m : ℕ) → n ≤ m → m < n + length segs → is_of f (name host flow m) ≡ false)
    → sent_as f (frames_of_segments host flow n t to tuple segs) ≡ 0
segments_none f host flow n t to tuple [] none = refl
segments_none f host flow n t to tuple (x ∷ xs) none =
    none_more (is_of f (name host flow n)) _ (none n (omega arith) (omega arith))
    (segments_none f host flow (n + 1) t to tuple xs (λ m h g. none m (omega arith) (omega arith)))

entries_none : (f : FrameId) (host flow n to : ℕ) (tuple : FourTuple) (xs : List Entry)
    → ((m : ℕ) → n ≤ m → is_of f (name host flow m) ≡ false)
    → sent_as f (frames_of_entries host flow n to tuple xs) ≡ 0
entries_none f host flow n to tuple [] none = refl
entries_none f host flow n to tuple (x ∷ xs) none =
    let segs : List Seg = segments_in x.reply in
    let one : sent_as f (frames_of_segments host flow n x.tick to tuple segs) ≡ 0 =
    segments_none f host flow n x.tick to tuple segs (λ m h g. none m h) in
    let rest : sent_as f (frames_of_entries host flow (n + length segs) to tuple xs) ≡ 0 =
    entries_none f host flow (n + length segs) to tuple xs (λ m h. none m (omega arith)) in
    sent_append f (frames_of_segments host flow n x.tick to tuple segs) _ ∙ (omega arith)

flows_none : (f : FrameId) (world : World) (host n : ℕ) (ls : List Live)
    → ((k m : ℕ) → n ≤ k → is_of f (name host k m) ≡ false) → sent_as f (frames_of_flows world host n ls) ≡ 0
flows_none f world host n [] none = refl
flows_none f world host n (l ∷ ls) none =
    let to : ℕ = host_at world l.flow.tuple.raddr in
    let one : sent_as f (frames_of_entries host n 0 to l.flow.tuple l.flow.entries) ≡ 0 =
    entries_none f host n 0 to l.flow.tuple l.flow.entries (λ m h. none n m (omega arith)) in
    let rest : sent_as f (frames_of_flows world host (n + 1) ls) ≡ 0 =
    flows_none f world host (n + 1) ls (λ k m h. none k m (omega arith)) in
    sent_append f (frames_of_entries host n 0 to l.flow.tuple l.flow.entries) _ ∙ (omega arith)

answer_none : (f : FrameId) (world : World) (host n t : ℕ) (o : Option (FourTuple × Head))
    → ((m : ℕ) → is_of f (name host no_flow m) ≡ false) → sent_as f (frames_of_answer world host n t o) ≡ 0
answer_none f world host n t None none = refl
answer_none f world host n t (Some a) none = none_more (is_of f (name host no_flow n)) 0 (none n) refl

pub log_none : (f : FrameId) (world : World) (host n : ℕ) (ls : List LogLine)
    → ((m : ℕ) → is_of f (name host no_flow m) ≡ false) → sent_as f (frames_of_log world host n ls) ≡ 0
log_none f world host n [] none = refl
log_none f world host n (l ∷ ls) none =
    let answer : List Sent = frames_of_answer world host n l.tick (answer_on l.event) in
    let one : sent_as f answer ≡ 0 = answer_none f world host n l.tick (answer_on l.event) none in
    let rest : sent_as f (frames_of_log world host (n + length answer) ls) ≡ 0 =
    log_none f world host (n + length answer) ls none in
    sent_append f answer (frames_of_log world host (n + length answer) ls) ∙ (omega arith)

hosts_none : (f : FrameId) (world : World) (h : ℕ) (sites : World) → f.host < h
    → sent_as f (frames_of_hosts world h sites) ≡ 0
hosts_none f world h [] low = refl
hosts_none f world h (site ∷ sites) low =
    let other : (k m : ℕ) → is_of f (name h k m) ≡ false =
    (λ k m. other_host (f.host == h) (f.flow == k) (f.number == m) (below_test f.host h low)) in
    let flows : sent_as f (frames_of_flows world h 0 site.host.flows) ≡ 0 =
    flows_none f world h 0 site.host.flows (λ k m g. other k m) in
    let log : sent_as f (frames_of_log world h 0 site.host.log) ≡ 0 =
    log_none f world h 0 site.host.log (other no_flow) in
    let rest : sent_as f (frames_of_hosts world (h + 1) sites) ≡ 0 =
    hosts_none f world (h + 1) sites (omega arith) in
    let both : sent_as f (frames_of_flows world h 0 site.host.flows ++ frames_of_log world h 0 site.host.log)
    ≡ sent_as f (frames_of_flows world h 0 site.host.flows) + sent_as f (frames_of_log world h 0 site.host.log) =
    sent_append f (frames_of_flows world h 0 site.host.flows) (frames_of_log world h 0 site.host.log) in
    sent_append f (frames_of_flows world h 0 site.host.flows ++ frames_of_log world h 0 site.host.log) _
    ∙ (omega arith)

-- ----- one at most is of this name
data Compared (a b : ℕ) : Type 0 where
  Below : a < b → Compared a b
  Same : a ≡ b → Compared a b
  Above : b < a → Compared a b

compared : (a b : ℕ) → Compared a b
compared zero zero = Same refl
compared zero (suc b) = Below (omega arith)
compared (suc a) zero = Above (omega arith)
compared (suc a) (suc b) = next (compared a b) where
  next : Compared a b → Compared (suc a) (suc b)
  next (Below h) = Below (omega arith)
  next (Same h) = Same (ap suc h)
  next (Above h) = Above (omega arith)

below_segments : (f : FrameId) (host flow n t to : ℕ) (tuple : FourTuple) (segs : List Seg) → f.number < n
    → sent_as f (frames_of_segments host flow n t to tuple segs) ≡ 0
below_segments f host flow n t to tuple segs low =
    segments_none f host flow n t to tuple segs (λ m h g.
    other_number (f.host == host) (f.flow == flow) (f.number == m) (below_test f.number m (omega arith)))

below_entries : (f : FrameId) (host flow n to : ℕ) (tuple : FourTuple) (xs : List Entry) → f.number < n
    → sent_as f (frames_of_entries host flow n to tuple xs) ≡ 0
below_entries f host flow n to tuple xs low =
    entries_none f host flow n to tuple xs (λ m h.
    other_number (f.host == host) (f.flow == flow) (f.number == m) (below_test f.number m (omega arith)))

above_segments : (f : FrameId) (host flow n t to : ℕ) (tuple : FourTuple) (segs : List Seg)
    → n + length segs ≤ f.number → sent_as f (frames_of_segments host flow n t to tuple segs) ≡ 0
above_segments f host flow n t to tuple segs high =
    segments_none f host flow n t to tuple segs (λ m h g.
    other_number (f.host == host) (f.flow == flow) (f.number == m) (above_test f.number m (omega arith)))

segments_most : (f : FrameId) (host flow n t to : ℕ) (tuple : FourTuple) (segs : List Seg)
    → sent_as f (frames_of_segments host flow n t to tuple segs) ≤ 1
segments_most f host flow n t to tuple [] = omega arith
segments_most f host flow n t to tuple (x ∷ xs) =
    by_number (compared f.number n) (segments_most f host flow (n + 1) t to tuple xs) where
      rest : List Sent
      rest = frames_of_segments host flow (n + 1) t to tuple xs

      late : f.number < n + 1 → one_if (is_of f (name host flow n)) + sent_as f rest ≤ 1
      late h =
          let none : sent_as f rest ≡ 0 = below_segments f host flow (n + 1) t to tuple xs h in
          let one : one_if (is_of f (name host flow n)) ≤ 1 = one_most (is_of f (name host flow n)) in omega arith

      by_number : Compared f.number n → sent_as f rest ≤ 1 → one_if (is_of f (name host flow n)) + sent_as f rest ≤ 1
      by_number (Below h) most = late (omega arith)
      by_number (Same h) most = late (omega arith)
      by_number (Above h) most =
          let none : one_if (is_of f (name host flow n)) + 0 ≡ 0 =
          none_more (is_of f (name host flow n)) 0
          (other_number (f.host == host) (f.flow == flow) (f.number == n) (above_test f.number n h)) refl in
          omega arith

entries_most : (f : FrameId) (host flow n to : ℕ) (tuple : FourTuple) (xs : List Entry)
    → sent_as f (frames_of_entries host flow n to tuple xs) ≤ 1
entries_most f host flow n to tuple [] = omega arith
entries_most f host flow n to tuple (x ∷ xs) =
    by_number (compared f.number (n + length segs))
    (entries_most f host flow (n + length (segments_in x.reply)) to tuple xs) where
      segs : List Seg
      segs = segments_in x.reply

      here : List Sent
      here = frames_of_segments host flow n x.tick to tuple segs

      rest : List Sent
      rest = frames_of_entries host flow (n + length segs) to tuple xs

      both : sent_as f (here ++ rest) ≡ sent_as f here + sent_as f rest
      both = sent_append f here rest

      later : n + length segs ≤ f.number → sent_as f rest ≤ 1 → sent_as f (here ++ rest) ≤ 1
      later h most =
          let none : sent_as f here ≡ 0 = above_segments f host flow n x.tick to tuple segs h in
          let sum : sent_as f (here ++ rest) ≡ sent_as f here + sent_as f rest = both in omega arith

      by_number : Compared f.number (n + length segs) → sent_as f rest ≤ 1 → sent_as f (here ++ rest) ≤ 1
      by_number (Below h) rest_most =
          let none : sent_as f rest ≡ 0 = below_entries f host flow (n + length segs) to tuple xs h in
          let most : sent_as f here ≤ 1 = segments_most f host flow n x.tick to tuple segs in
          let sum : sent_as f (here ++ rest) ≡ sent_as f here + sent_as f rest = both in omega arith
      by_number (Same h) most = later (omega arith) most
      by_number (Above h) most = later (omega arith) most

below_flows : (f : FrameId) (world : World) (host n : ℕ) (ls : List Live) → f.flow < n
    → sent_as f (frames_of_flows world host n ls) ≡ 0
below_flows f world host n ls low =
    flows_none f world host n ls (λ k m h.
    other_flow (f.host == host) (f.flow == k) (f.number == m) (below_test f.flow k (omega arith)))

flows_most : (f : FrameId) (world : World) (host n : ℕ) (ls : List Live)
    → sent_as f (frames_of_flows world host n ls) ≤ 1
flows_most f world host n [] = omega arith
flows_most f world host n (l ∷ ls) = by_flow (compared f.flow n) (flows_most f world host (n + 1) ls) where
  to : ℕ
  to = host_at world l.flow.tuple.raddr

  here : List Sent
  here = frames_of_entries host n 0 to l.flow.tuple l.flow.entries

  rest : List Sent
  rest = frames_of_flows world host (n + 1) ls

  late : f.flow < n + 1 → sent_as f (here ++ rest) ≤ 1
  late h =
      let none : sent_as f rest ≡ 0 = below_flows f world host (n + 1) ls h in
      let most : sent_as f here ≤ 1 = entries_most f host n 0 to l.flow.tuple l.flow.entries in
      let sum : sent_as f (here ++ rest) ≡ sent_as f here + sent_as f rest = sent_append f here rest in omega arith

  by_flow : Compared f.flow n → sent_as f rest ≤ 1 → sent_as f (here ++ rest) ≤ 1
  by_flow (Below h) most = late (omega arith)
  by_flow (Same h) most = late (omega arith)
  by_flow (Above h) most =
      let none : sent_as f here ≡ 0 =
      entries_none f host n 0 to l.flow.tuple l.flow.entries (λ m g.
      other_flow (f.host == host) (f.flow == n) (f.number == m) (above_test f.flow n h)) in
      let sum : sent_as f (here ++ rest) ≡ sent_as f here + sent_as f rest = sent_append f here rest in omega arith

-- ----- frames of no flow
below_log : (f : FrameId) (world : World) (host n : ℕ) (ls : List LogLine) → f.number < n
    → sent_as f (frames_of_log world host n ls) ≡ 0
below_log f world host n [] low = refl
below_log f world host n (l ∷ ls) low =
    by_answer (answer_on l.event) (λ k. below_log f world host (n + k) ls (omega arith)) where
      rest_of : List Sent → List Sent
      rest_of answer = frames_of_log world host (n + length answer) ls

      by_answer : (o : Option (FourTuple × Head)) → ((k : ℕ) → sent_as f (frames_of_log world host (n + k) ls) ≡ 0)
          → sent_as f (frames_of_answer world host n l.tick o ++ rest_of (frames_of_answer world host n l.tick o)) ≡ 0
      by_answer None rest = rest 0
      by_answer (Some a) rest =
          none_more (is_of f (name host no_flow n)) _
          (other_number (f.host == host) (f.flow == no_flow) (f.number == n) (below_test f.number n low)) (rest 1)

log_most : (f : FrameId) (world : World) (host n : ℕ) (ls : List LogLine)
    → sent_as f (frames_of_log world host n ls) ≤ 1
log_most f world host n [] = omega arith
log_most f world host n (l ∷ ls) =
    by_answer (answer_on l.event) (λ k. log_most f world host (n + k) ls) where
      rest_of : List Sent → List Sent
      rest_of answer = frames_of_log world host (n + length answer) ls

      rest : List Sent
      rest = frames_of_log world host (n + 1) ls

      late : f.number < n + 1 → one_if (is_of f (name host no_flow n)) + sent_as f rest ≤ 1
      late h =
          let none : sent_as f rest ≡ 0 = below_log f world host (n + 1) ls h in
          let one : one_if (is_of f (name host no_flow n)) ≤ 1 = one_most (is_of f (name host no_flow n)) in omega arith

      by_number : Compared f.number n → sent_as f rest ≤ 1
          → one_if (is_of f (name host no_flow n)) + sent_as f rest ≤ 1
      by_number (Below h) most = late (omega arith)
      by_number (Same h) most = late (omega arith)
      by_number (Above h) most =
          let none : one_if (is_of f (name host no_flow n)) + 0 ≡ 0 =
          none_more (is_of f (name host no_flow n)) 0
          (other_number (f.host == host) (f.flow == no_flow) (f.number == n) (above_test f.number n h)) refl in
          omega arith

      by_answer : (o : Option (FourTuple × Head)) → ((k : ℕ) → sent_as f (frames_of_log world host (n + k) ls) ≤ 1)
          → sent_as f (frames_of_answer world host n l.tick o ++ rest_of (frames_of_answer world host n l.tick o)) ≤ 1
      by_answer None few = few 0
      by_answer (Some a) few = by_number (compared f.number n) (few 1)

-- no flow has so high a number
above_flows : (f : FrameId) (world : World) (host n : ℕ) (ls : List Live) → n + length ls ≤ f.flow
    → sent_as f (frames_of_flows world host n ls) ≡ 0
above_flows f world host n [] high = refl
above_flows f world host n (l ∷ ls) high =
    let to : ℕ = host_at world l.flow.tuple.raddr in
    let one : sent_as f (frames_of_entries host n 0 to l.flow.tuple l.flow.entries) ≡ 0 =
    entries_none f host n 0 to l.flow.tuple l.flow.entries (λ m h.
    other_flow (f.host == host) (f.flow == n) (f.number == m) (above_test f.flow n (omega arith))) in
    let rest : sent_as f (frames_of_flows world host (n + 1) ls) ≡ 0 =
    above_flows f world host (n + 1) ls (omega arith) in
    sent_append f (frames_of_entries host n 0 to l.flow.tuple l.flow.entries) _ ∙ (omega arith)

-- fewer flows were opened on each host than the number is that means none
abbrev pub AreFew : World → Type 0
AreFew [] = Unit {0}
AreFew (site ∷ sites) = (length site.host.flows ≤ no_flow) × AreFew sites

-- fewer flows are opened than may be named
opened_few : (starts : Starts) (p : HostParams) (before os : List Opening) → AreOpened starts p before os
    → length before ≤ no_flow → length before + length os ≤ no_flow
opened_few starts p before [] opened few = omega arith
opened_few starts p before (o ∷ os) opened few =
    let one : length before < no_flow = opened.0.few in
    let more : length (before ++ o ∷ []) ≡ length before + 1 = length-append before (o ∷ []) in
    let rest : length (before ++ o ∷ []) + length os ≤ no_flow =
    opened_few starts p (before ++ o ∷ []) os opened.1 (omega arith) in omega arith

pub all_few : (t : ℕ) (lines : List HostLine) (world : World) → AllStand t lines world → AreFew world
all_few t [] [] stand = tt
all_few t [] (site ∷ sites) stand = absurd stand
all_few t (l ∷ ls) [] stand = absurd stand
all_few t (l ∷ ls) (site ∷ sites) stand =
    let few : 0 + length (openings site.host.flows) ≤ no_flow =
    opened_few (starts_of l.params) l.params [] (openings site.host.flows) stand.0.right.opened (omega arith) in
    let same : length (openings site.host.flows) ≡ length site.host.flows = length_is site.host.flows in
    (omega arith, all_few t ls sites stand.1)

host_most : (f : FrameId) (world : World) (h : ℕ) (ls : List Live) (log : List LogLine) → length ls ≤ no_flow
    → sent_as f (frames_of_flows world h 0 ls ++ frames_of_log world h 0 log) ≤ 1
host_most f world h ls log few =
    sum_most (by_flow (compared f.flow no_flow)) where
      flows : List Sent
      flows = frames_of_flows world h 0 ls

      answers : List Sent
      answers = frames_of_log world h 0 log

      sum_most : sent_as f flows + sent_as f answers ≤ 1 → sent_as f (flows ++ answers) ≤ 1
      sum_most most =
          let sum : sent_as f (flows ++ answers) ≡ sent_as f flows + sent_as f answers = sent_append f flows answers in
          omega arith

      high : no_flow ≤ f.flow → sent_as f flows + sent_as f answers ≤ 1
      high above =
          let none : sent_as f flows ≡ 0 = above_flows f world h 0 ls (omega arith) in
          let most : sent_as f answers ≤ 1 = log_most f world h 0 log in omega arith

      by_flow : Compared f.flow no_flow → sent_as f flows + sent_as f answers ≤ 1
      by_flow (Below g) =
          let none : sent_as f answers ≡ 0 =
          log_none f world h 0 log (λ m.
          other_flow (f.host == h) (f.flow == no_flow) (f.number == m) (below_test f.flow no_flow g)) in
          let most : sent_as f flows ≤ 1 = flows_most f world h 0 ls in omega arith
      by_flow (Same g) = high (omega arith)
      by_flow (Above g) = high (omega arith)

pub all_most : (f : FrameId) (world : World) (h : ℕ) (sites : World) → AreFew sites
    → sent_as f (frames_of_hosts world h sites) ≤ 1
all_most f world h [] few = omega arith
all_most f world h (site ∷ sites) few =
    by_host (compared f.host h) (all_most f world (h + 1) sites few.1) where
      here : List Sent
      here = frames_of_flows world h 0 site.host.flows ++ frames_of_log world h 0 site.host.log

      rest : List Sent
      rest = frames_of_hosts world (h + 1) sites

      sum : sent_as f (here ++ rest) ≡ sent_as f here + sent_as f rest
      sum = sent_append f here rest

      late : f.host < h + 1 → sent_as f (here ++ rest) ≤ 1
      late g =
          let none : sent_as f rest ≡ 0 = hosts_none f world (h + 1) sites g in
          let most : sent_as f here ≤ 1 = host_most f world h site.host.flows site.host.log few.0 in
          let all : sent_as f (here ++ rest) ≡ sent_as f here + sent_as f rest = sum in omega arith

      by_host : Compared f.host h → sent_as f rest ≤ 1 → sent_as f (here ++ rest) ≤ 1
      by_host (Below g) most = late (omega arith)
      by_host (Same g) most = late (omega arith)
      by_host (Above g) most =
          let other : (k m : ℕ) → is_of f (name h k m) ≡ false =
          (λ k m. other_host (f.host == h) (f.flow == k) (f.number == m) (above_test f.host h g)) in
          let flows : sent_as f (frames_of_flows world h 0 site.host.flows) ≡ 0 =
          flows_none f world h 0 site.host.flows (λ k m low. other k m) in
          let log : sent_as f (frames_of_log world h 0 site.host.log) ≡ 0 =
          log_none f world h 0 site.host.log (other no_flow) in
          let both : sent_as f here ≡ sent_as f (frames_of_flows world h 0 site.host.flows)
          + sent_as f (frames_of_log world h 0 site.host.log) =
          sent_append f (frames_of_flows world h 0 site.host.flows) (frames_of_log world h 0 site.host.log) in
          let all : sent_as f (here ++ rest) ≡ sent_as f here + sent_as f rest = sum in omega arith

-- ----- what comes to a host in a tick
pub comes_once : (f : FrameId) (lines : LinkLines) (world : World) (t h : ℕ) → AreFew world
    → coming f (arrivals_at lines (sent_in world) t h) ≤ 1
comes_once f lines world t h few =
    let all : List Sent = sent_in world in
    let here : List Sent = filter (λ (x : Sent). x.to == h) (due lines all t) in
    let a : coming f (map arrival here) ≡ named f here = arrivals_named f here in
    let b : named f here ≤ named f (due lines all t) = filter_named f (λ (x : Sent). x.to == h) (due lines all t) in
    let c : named f (due lines all t) ≡ named f (flat_map (coming_of lines t) all) =
    order_named f (flat_map (coming_of lines t) all) in
    let d : named f (flat_map (coming_of lines t) all) ≤ sent_as f all =
    all_named f lines t all (hosts_first world 0 world) in
    let e : sent_as f all ≤ 1 = all_most f world 0 world few in
    omega arith

-- ----- in each tick
abbrev ComesOnce : FrameId → HostTick → Type 0
ComesOnce f x = coming f x.frames ≤ 1

hosts_once : (f : FrameId) (s : Scenario) (whole : World) (t h : ℕ) (before after : World) → AreFew whole
    → AreRounds s whole t h before after → OfEachHost s (ComesOnce f) whole t h before after
hosts_once f s whole t h [] [] few rounds = tt
hosts_once f s whole t h [] (a ∷ az) few rounds = absurd rounds
hosts_once f s whole t h (b ∷ bs) [] few rounds = absurd rounds
hosts_once f s whole t h (b ∷ bs) (a ∷ az) few rounds =
    (comes_once f s.link whole t h few, hosts_once f s whole t (h + 1) bs az few rounds.1)

from_once : (f : FrameId) (s : Scenario) (most t : ℕ) (world : World) (end : End) (run : RunsFrom s most t world end)
    → AllStand t s.hosts world → FromTick s (ComesOnce f) most t world end run
from_once f s zero t world end run stand = tt
from_once f s (suc most) t world end run stand = (
  hosts_once f s world t 0 world run.0 (all_few t s.hosts world stand) run.1,
  λ goes_on. from_once f s most (t + 1) run.0 end (run.3 goes_on)
      (rounds_stand s world t 0 s.hosts world run.0 run.1 stand),
)

pub ticks_once : (s : Scenario) (log : RunLog) (run : Run s log) (frame : FrameId)
    → InEachTick s log run (λ x. coming frame x.frames ≤ 1)
ticks_once s log run frame =
    from_once frame s s.limit 0 (at_start s) run.0 run.1 (start_stands s s.hosts)
