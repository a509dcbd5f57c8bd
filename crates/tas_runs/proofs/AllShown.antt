-- The capture of a run leaves out nothing.
use Rattle.std.proofs.Common.{◌≡◌, ℕ, zero, suc, ◌+◌, ◌≤◌, ◌<◌, ◌==◌, Bool, true, false, List, [], ◌∷◌, ◌++◌, length}
use Rattle.std.proofs.Common.{map, Result, Ok, Err, refl, sym, subst, ap, ◌∙◌, arith, tests, append_assoc, append-nil}
use Rattle.std.proofs.Common.{flat_map, if◌then◌else◌}
use Rattle.std.proofs.lemmas.Grind.{flat_map-append}
use Rattle.std.proofs.lemmas.List.{length-map}
use Rattle.tas_num.specs.Captures.{Fault, Capture, capture_of}
use Rattle.tas_model.specs.declared.entry.Entry.{Entry}
use Rattle.tas_model.specs.declared.entry.Seg.{Seg}
use Rattle.tas_model.specs.Outputs.{segments_in}
use Rattle.host_rounds.specs.declared.log.LogLine.{LogLine}
use Rattle.host_rounds.specs.Logs.{HostRun, RunLog}
use Rattle.host_rounds.specs.Lists.{Each}
use Rattle.host_rounds.specs.Hosts.{Live, Host, flows_of}
use Rattle.host_rounds.specs.Histories.{HasHistory}
use Rattle.host_rounds.specs.Scripts.{Site, Scripts}
use Rattle.host_rounds.specs.Moves.{AreByMoves}
use Rattle.host_rounds.specs.Rounds.{Due, Rounds}
use Rattle.host_rounds.specs.Passing.{Grew, AllGrew, Went, IsUpTo}
use Rattle.host_rounds.proofs.AllLegal.{round_kept}
use Rattle.host_rounds.proofs.AllGrown.{round_went, round_up_to}
use Rattle.tas_runs.specs.Records.{Item, items_of}
use Rattle.tas_runs.specs.Batches.{batches_of}
use Rattle.tas_runs.specs.LocalScript.{capture_scripts, due_in}
use Rattle.tas_runs.specs.Replays.{at_start, IsReplayOf, IsReplayFound, Replay}
use Rattle.tas_runs.specs.SentFrames.{given_at, given_within, answer_on, IsShown, AreAnswersShown}
use Rattle.tas_runs.proofs.ByMoves.{replays_by_moves}

-- ----- lists of what bears a tick
at_append : {X Y : Type 0} (tick : X → ℕ) (gives : X → List Y) (t : ℕ) (xs more : List X)
    → given_at tick gives t (xs ++ more) ≡ given_at tick gives t xs ++ given_at tick gives t more
at_append tick gives t [] more = refl
at_append {X} {Y} tick gives t (x ∷ xs) more =
    ap (λ (zs : List Y). (if tick x == t then gives x else []) ++ zs) (at_append tick gives t xs more)
    ∙ sym (append_assoc (if tick x == t then gives x else []) (given_at tick gives t xs) (given_at tick gives t more))

same_test : (n t : ℕ) → n ≡ t → (n == t) ≡ true
same_test n t h = grind (arith, tests, h)

other_test : (n t u : ℕ) → n ≡ t → t < u → (n == u) ≡ false
other_test n t u h g = grind (arith, tests, h, g)

earlier_test : (n t u : ℕ) → n ≡ t → u < t → (n == u) ≡ false
earlier_test n t u h g = grind (arith, tests, h, g)

-- all of those that bear the tick
at_here : {X Y : Type 0} (tick : X → ℕ) (gives : X → List Y) (t : ℕ) (more : List X) → Each (λ (x : X). tick x ≡ t) more
    → given_at tick gives t more ≡ flat_map gives more
at_here tick gives t [] all = refl
at_here {X} {Y} tick gives t (x ∷ more) all =
    rw (same_test (tick x) t all.0) (ap (λ (zs : List Y). gives x ++ zs) (at_here tick gives t more all.1))

-- none of those that bear another
at_later : {X Y : Type 0} (tick : X → ℕ) (gives : X → List Y) (t u : ℕ) (more : List X) → t < u
    → Each (λ (x : X). tick x ≡ t) more → given_at tick gives u more ≡ []
at_later tick gives t u [] h all = refl
at_later tick gives t u (x ∷ more) h all = rw (other_test (tick x) t u all.0 h) (at_later tick gives t u more h all.1)

at_earlier : {X Y : Type 0} (tick : X → ℕ) (gives : X → List Y) (t u : ℕ) (more : List X) → u < t
    → Each (λ (x : X). tick x ≡ t) more → given_at tick gives u more ≡ []
at_earlier tick gives t u [] h all = refl
at_earlier tick gives t u (x ∷ more) h all =
    rw (earlier_test (tick x) t u all.0 h) (at_earlier tick gives t u more h all.1)

within_last : {X Y : Type 0} (tick : X → ℕ) (gives : X → List Y) (count t : ℕ) (xs : List X)
    → given_within tick gives (count + 1) t xs ≡ given_within tick gives count t xs
    ++ given_at tick gives (t + count) xs
within_last {X} {Y} tick gives zero t xs =
    let same : t + 0 ≡ t = omega arith in
    append-nil (given_at tick gives t xs) ∙ ap (λ (u : ℕ). given_at tick gives u xs) (sym same)
within_last {X} {Y} tick gives (suc count) t xs =
    let same : t + 1 + count ≡ t + suc count = omega arith in
    let next : suc count + 1 ≡ suc (count + 1) = omega arith in
    ap (λ (n : ℕ). given_within tick gives n t xs) next
    ∙ ap (λ (zs : List Y). given_at tick gives t xs ++ zs) (within_last tick gives count (t + 1) xs
    ∙ ap (λ (u : ℕ). given_within tick gives count (t + 1) xs ++ given_at tick gives u xs) same)
    ∙ sym (append_assoc (given_at tick gives t xs) (given_within tick gives count (t + 1) xs)
    (given_at tick gives (t + suc count) xs))

-- what is added later changes nothing before
within_same : {X Y : Type 0} (tick : X → ℕ) (gives : X → List Y) (t count from : ℕ) (xs more : List X)
    → from + count ≤ t → Each (λ (x : X). tick x ≡ t) more
    → given_within tick gives count from (xs ++ more) ≡ given_within tick gives count from xs
within_same tick gives t zero from xs more h all = refl
within_same {X} {Y} tick gives t (suc count) from xs more h all =
    let here : given_at tick gives from (xs ++ more) ≡ given_at tick gives from xs =
    at_append tick gives from xs more ∙ ap (λ (zs : List Y). given_at tick gives from xs
    ++ zs) (at_earlier tick gives t from more (omega arith) all) ∙ append-nil (given_at tick gives from xs) in
    ap (λ (zs : List Y). zs ++ given_within tick gives count (from + 1) (xs ++ more)) here
    ∙ ap (λ (zs : List Y). given_at tick gives from xs ++ zs)
    (within_same tick gives t count (from + 1) xs more (omega arith) all)

-- Before tick t all is shown by the ticks before it, and nothing bears a later one.
record Shown {X Y : Type 0} (tick : X → ℕ) (gives : X → List Y) (t : ℕ) (xs : List X) : Type 0 where
  whole : given_within tick gives t 0 xs ≡ flat_map gives xs
  above : (u : ℕ) → t ≤ u → given_at tick gives u xs ≡ []

none_within : {X Y : Type 0} (tick : X → ℕ) (gives : X → List Y) (count t : ℕ) → given_within tick gives count t [] ≡ []
none_within tick gives zero t = refl
none_within tick gives (suc count) t = none_within tick gives count (t + 1)

none_shown : {X Y : Type 0} (tick : X → ℕ) (gives : X → List Y) (t : ℕ) → Shown tick gives t []
none_shown tick gives t = record { whole = none_within tick gives t 0; above = λ u h. refl }

shown_grows : {X Y : Type 0} (tick : X → ℕ) (gives : X → List Y) (t : ℕ) (xs more after : List X)
    → Shown tick gives t xs → after ≡ xs ++ more → Each (λ (x : X). tick x ≡ t) more → Shown tick gives (t + 1) after
shown_grows {X} {Y} tick gives t xs more after shown same all = subst (Shown tick gives (t + 1)) (sym same) (record {
  whole =
      within_last tick gives t 0 (xs ++ more)
      ∙ ap (λ (zs : List Y). zs ++ given_at tick gives (0 + t) (xs ++ more))
      (within_same tick gives t t 0 xs more (omega arith) all ∙ shown.whole)
      ∙ ap (λ (zs : List Y). flat_map gives xs ++ zs) here
      ∙ sym (flat_map-append gives xs more);
  above = λ u h. at_append tick gives u xs more
      ∙ ap (λ (zs : List Y). zs ++ given_at tick gives u more) (shown.above u (omega arith))
      ∙ at_later tick gives t u more (omega arith) all;
}) where
  here : given_at tick gives (0 + t) (xs ++ more) ≡ flat_map gives more
  here =
      let same_tick : 0 + t ≡ t = omega arith in
      ap (λ (u : ℕ). given_at tick gives u (xs ++ more)) same_tick
      ∙ at_append tick gives t xs more
      ∙ ap (λ (zs : List Y). zs ++ given_at tick gives t more) (shown.above t (omega arith))
      ∙ at_here tick gives t more all

-- ----- hosts
abbrev entry_tick : Entry → ℕ
entry_tick x = x.tick

abbrev entry_segments : Entry → List Seg
entry_segments x = segments_in x.reply

abbrev line_tick : LogLine → ℕ
line_tick l = l.tick

abbrev LiveShown : ℕ → Live → Type 0
LiveShown t l = Shown entry_tick entry_segments t l.flow.entries

record HostShown (t : ℕ) (host : Host) : Type 0 where
  low : Each (IsUpTo t) host.flows
  flows : Each (LiveShown t) host.flows
  log : Shown line_tick answer_on t host.log

entries_shown : (t : ℕ) (h g : List Entry) → Shown entry_tick entry_segments t h → Grew t h g
    → Shown entry_tick entry_segments (t + 1) g
entries_shown t h g shown grew = shown_grows entry_tick entry_segments t h grew.0 g shown grew.1 grew.2

flows_shown : (t : ℕ) (ls ms : List Live) → Each (LiveShown t) ls → AllGrew t ls ms → Each (LiveShown (t + 1)) ms
flows_shown t [] [] each grew = tt
flows_shown t [] (m ∷ ms) each grew =
    (entries_shown t [] m.flow.entries (none_shown entry_tick entry_segments t) grew.0, flows_shown t [] ms tt grew.1)
flows_shown t (l ∷ ls) [] each grew = absurd grew
flows_shown t (l ∷ ls) (m ∷ ms) each grew =
    (entries_shown t l.flow.entries m.flow.entries each.0 grew.0, flows_shown t ls ms each.1 grew.1)

rounds_shown : {S A : Type 0} (scripts : Scripts S A) (t : ℕ) (dues : List (Due A)) (before after : Site S)
    → AreByMoves scripts → Rounds scripts t dues before after → Each HasHistory before.host.flows
    → HostShown t before.host → HostShown (t + length dues) after.host
rounds_shown {S} scripts t [] before after by_moves same each shown =
    let here : t ≡ t + 0 = omega arith in
    subst (λ (u : ℕ). HostShown u after.host) here (subst (λ (site : Site S). HostShown t site.host) same shown)
rounds_shown {S} {A} scripts t (due ∷ dues) before after by_moves rounds each shown =
    let mid : Site S = rounds.0 in
    let went : Went t before.host mid.host = round_went scripts t due before mid by_moves each shown.low rounds.1 in
    let next : HostShown (t + 1) mid.host = record {
      low = round_up_to scripts t due before mid by_moves each shown.low rounds.1;
      flows = flows_shown t before.host.flows mid.host.flows shown.flows went.flows;
      log = shown_grows line_tick answer_on t before.host.log went.log.0 mid.host.log shown.log went.log.1 went.log.2;
    } in
    let legal : Each HasHistory mid.host.flows = round_kept scripts t due before mid by_moves rounds.1 each in
    let here : t + 1 + length dues ≡ t + length (due ∷ dues) = omega arith in
    subst (λ (u : ℕ). HostShown u after.host) here
    (rounds_shown scripts (t + 1) dues mid after by_moves rounds.2 legal next)

-- ----- logs
all_shown : (t : ℕ) (ls : List Live) → Each (LiveShown t) ls → Each (IsShown t) (flows_of ls)
all_shown t [] each = tt
all_shown t (l ∷ ls) each = (each.0.whole, all_shown t ls each.1)

abbrev IsHostShown : ℕ → HostRun → Type 0
IsHostShown ticks h = Each (IsShown ticks) h.flows × AreAnswersShown ticks h.log

shown_in : (local records : ℕ) (found : List Item) (log : RunLog) → IsReplayOf local records found log
    → Each (IsHostShown log.ticks) log.hosts
shown_in local records found log run =
    let batches : List (List Item) = batches_of found in
    let count : 0 + length (map due_in batches) ≡ length batches = grind (arith, length-map batches due_in) in
    let last : HostShown (length batches) run.0.host =
    subst (λ (u : ℕ). HostShown u run.0.host) count
    (rounds_shown (capture_scripts found) 0 (map due_in batches) (at_start local) run.0
    (replays_by_moves found) run.1 tt (record { low = tt; flows = tt; log = none_shown line_tick answer_on 0 })) in
    subst (λ (r : RunLog). Each (IsHostShown r.ticks) r.hosts) (sym run.2)
    ((all_shown (length batches) run.0.host.flows last.flows, last.log.whole), tt)

pub replays_shown : (local : ℕ) (bytes : List ℕ) (loose : Bool) (log : RunLog) → Replay local bytes loose log
    → Each (λ (h : HostRun). Each (IsShown log.ticks) h.flows × AreAnswersShown log.ticks h.log) log.hosts
replays_shown local bytes loose log run = by_capture (capture_of bytes) run where
  by_capture : (r : Result Capture Fault) → IsReplayFound local loose r log → Each (IsHostShown log.ticks) log.hosts
  by_capture (Err fault) h = absurd h
  by_capture (Ok c) h = shown_in local (length c.records) (items_of c.form local loose c.records) log h
