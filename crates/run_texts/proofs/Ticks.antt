-- From frames in order to the records of one tick after another.
use Rattle.std.proofs.Common.{◌≡◌, ℕ, zero, suc, ◌+◌, ◌≤◌, ◌<◌, ◌==◌, ◌&&◌, nat_le, nat_lt, Bool, true, false, cond}
use Rattle.std.proofs.Common.{List, [], ◌∷◌, ◌++◌, length, map, filter, flat_map, option_to_list, Option, Some, None}
use Rattle.std.proofs.Common.{refl, ap, sym, subst, ◌∙◌, append_assoc, append-nil, arith}
use Rattle.std.proofs.lemmas.Grind.{common_steps}
use Rattle.std.proofs.lemmas.Bool.Decides.{nat_tests}
use Rattle.std.proofs.lemmas.List.Concat.{flat_map-append}
use Rattle.tas_num.specs.Captures.{record_bytes}
use Rattle.segment_fields.specs.Canon.{canon}
use Rattle.tas_model.specs.declared.entry.FourTuple.{FourTuple}
use Rattle.tas_model.specs.declared.entry.Head.{Head}
use Rattle.tas_model.specs.declared.entry.Seg.{Seg}
use Rattle.tas_model.specs.declared.entry.Entry.{Entry}
use Rattle.tas_model.specs.Segments.{bare}
use Rattle.tas_model.specs.Outputs.{segments_in, sent}
use Rattle.host_rounds.specs.declared.log.LogLine.{LogLine}
use Rattle.host_rounds.specs.declared.log.LogEvent.{LogEvent}
use Rattle.host_rounds.specs.declared.log.LogEvent.TheVariants as events
use Rattle.host_rounds.specs.Logs.{Flow, HostRun}
use Rattle.tas_runs.specs.SentFrames.{sent_fields, segments_bytes, sent_at, flows_at, answer_in, answer_of, answer_on}
use Rattle.tas_runs.specs.SentFrames.{strays_at, hosts_at, ticks_from}
use Rattle.run_texts.specs.declared.frames.Frame.{Frame}
use Rattle.run_texts.specs.Frames.{Sent, seen_frame, segment_record, sent_record, frame_before, frames_in, entry_frames}
use Rattle.run_texts.specs.Frames.{flow_frames, event_frames, answer_frames, host_frames, all_frames, AreAllShort}
use Rattle.run_texts.specs.Frames.{AreFlowsShort, AreShort, Rises, IsInOrder}

-- ----- frames of one tick, and of some ticks
abbrev at : (t : ℕ) → Sent → List ℕ
at t s = cond (s.tick == t) (sent_record s) []

abbrev at_tick : (t : ℕ) → List Sent → List ℕ
at_tick t ss = flat_map (at t) ss

abbrev within : (count t : ℕ) → Sent → List ℕ
within count t s = cond (nat_le t s.tick && nat_lt s.tick (t + count)) (sent_record s) []

abbrev in_ticks : (count t : ℕ) → List Sent → List ℕ
in_ticks count t ss = flat_map (within count t) ss

-- by the tests of the first frame
none : (count t n : ℕ) → count ≡ 0 → (nat_le t n && nat_lt n (t + count)) ≡ false
none count t n e = grind (arith, nat_tests, e)

in_no_ticks : (t : ℕ) (ss : List Sent) → in_ticks 0 t ss ≡ []
in_no_ticks t [] = refl
in_no_ticks t (s ∷ ss) = ap (λ b. cond b (sent_record s) [] ++ in_ticks 0 t ss) (none 0 t s.tick refl)
    ∙ in_no_ticks t ss

later : (t n : ℕ) → t < n → (n == t) ≡ false
later t n h = grind (arith, nat_tests, h)

none_at : (t low : ℕ) (ss : List Sent) → t < low → Rises low ss → at_tick t ss ≡ []
none_at t low [] h r = refl
none_at t low (s ∷ ss) h r =
    let far : t < s.tick = omega (arith, h, r.0) in
    ap (λ b. cond b (sent_record s) [] ++ at_tick t ss) (later t s.tick far) ∙ none_at t s.tick ss far r.1

-- The tests of a frame at the first of some ticks, before it and after it.
test_now : (count t n : ℕ) → n ≡ t → (nat_le t n && nat_lt n (t + suc count)) ≡ true
test_now count t n e = grind (arith, nat_tests, e)

test_past : (count t n : ℕ) → n < t → (nat_le t n && nat_lt n (t + count)) ≡ false
test_past count t n h = grind (arith, nat_tests, h)

test_same : (t n : ℕ) → n ≡ t → (n == t) ≡ true
test_same t n e = grind (arith, nat_tests, e)

test_other : (t n : ℕ) → n < t → (n == t) ≡ false
test_other t n h = grind (arith, nat_tests, h)

test_next : (count t n : ℕ) → t < n → (nat_le t n && nat_lt n (t + suc count))
    ≡ (nat_le (t + 1) n && nat_lt n (t + 1 + count))
test_next count t n h = grind (arith, nat_tests, h)

abbrev Splits : (count t : ℕ) → List Sent → Type 0
Splits count t ss = in_ticks (suc count) t ss ≡ at_tick t ss ++ in_ticks (count) (t + 1) ss

split_now : (count t : ℕ) (s : Sent) (ss : List Sent) → s.tick ≡ t → Splits count t ss → Splits count t (s ∷ ss)
split_now count t s ss e h =
    let x : List ℕ = sent_record s in
    let left : in_ticks (suc count) t (s ∷ ss) ≡ x ++ in_ticks (suc count) t ss = ap
    (λ b. cond b x [] ++ in_ticks (suc count) t ss) (test_now count t s.tick e) in
    let first : at_tick t (s ∷ ss) ≡ x ++ at_tick t ss = ap (λ b. cond b x [] ++ at_tick t ss) (test_same t s.tick e) in
    let rest : in_ticks count (t + 1) (s ∷ ss)
    ≡ in_ticks count (t + 1) ss = ap (λ b. cond b x [] ++ in_ticks count (t + 1) ss)
    (test_past count (t + 1) s.tick (omega (arith, e))) in
    left ∙ (ap (λ l. x ++ l) h ∙ (sym (append_assoc x (at_tick t ss) (in_ticks count (t + 1) ss))
    ∙ (ap (λ l. l ++ in_ticks count (t + 1) ss) (sym first) ∙ ap (λ l. at_tick t (s ∷ ss) ++ l) (sym rest))))

split_past : (count t : ℕ) (s : Sent) (ss : List Sent) → s.tick < t → Splits count t ss → Splits count t (s ∷ ss)
split_past count t s ss e h =
    let x : List ℕ = sent_record s in
    let left : in_ticks (suc count) t (s ∷ ss)
    ≡ in_ticks (suc count) t ss = ap (λ b. cond b x [] ++ in_ticks (suc count) t ss)
    (test_past (suc count) t s.tick e) in
    let first : at_tick t (s ∷ ss) ≡ at_tick t ss = ap (λ b. cond b x [] ++ at_tick t ss) (test_other t s.tick e) in
    let rest : in_ticks count (t + 1) (s ∷ ss)
    ≡ in_ticks count (t + 1) ss = ap (λ b. cond b x [] ++ in_ticks count (t + 1) ss)
    (test_past count (t + 1) s.tick (omega (arith, e))) in
    left ∙ (h ∙ (ap (λ l. l ++ in_ticks count (t + 1) ss) (sym first) ∙ ap (λ l. at_tick t (s ∷ ss) ++ l) (sym rest)))

split_next : (count t : ℕ) (s : Sent) (ss : List Sent) → t < s.tick → Rises s.tick ss → Splits count t ss
    → Splits count t (s ∷ ss)
split_next count t s ss e r h =
    let x : List ℕ = sent_record s in
    let gone : at_tick t ss ≡ [] = none_at t s.tick ss e r in
    let first : at_tick t (s ∷ ss) ≡ [] = ap (λ b. cond b x [] ++ at_tick t ss) (later t s.tick e) ∙ gone in
    let left : in_ticks (suc count) t ss ≡ in_ticks count (t + 1) ss = h
    ∙ ap (λ l. l ++ in_ticks count (t + 1) ss) gone in
    ap (λ b. cond b x [] ++ in_ticks (suc count) t ss) (test_next count t s.tick e)
    ∙ (ap (λ l. within count (t + 1) s ++ l) left ∙ ap (λ l. l ++ in_ticks count (t + 1) (s ∷ ss)) (sym first))

below : (m n : ℕ) → nat_lt m n ≡ true → m < n
below m n e = grind (arith, nat_tests, e)

neither : (m n : ℕ) → nat_lt m n ≡ false → nat_lt n m ≡ false → m ≡ n
neither m n e f = grind (arith, nat_tests, e, f)

-- the first tick, and those after it
split_ticks : (count t low : ℕ) (ss : List Sent) → Rises low ss → Splits count t ss
split_ticks count t low [] r = refl
split_ticks count t low (s ∷ ss) r = by_order (nat_lt s.tick t) refl (nat_lt t s.tick) refl
    (split_ticks count t s.tick ss r.1)
  where
    by_order : (a : Bool) → nat_lt s.tick t ≡ a → (b : Bool) → nat_lt t s.tick ≡ b → Splits count t ss
        → Splits count t (s ∷ ss)
    by_order true e b f h = split_past count t s ss (below s.tick t e) h
    by_order false e true f h = split_next count t s ss (below t s.tick f) r.1 h
    by_order false e false f h = split_now count t s ss (neither s.tick t e f) h

-- ----- the records of one tick, as the definitions have them
segments_bytes-append : (t : ℕ) (tuple : FourTuple) (xs ys : List Seg) → segments_bytes t tuple (xs ++ ys)
    ≡ segments_bytes t tuple xs ++ segments_bytes t tuple ys
segments_bytes-append t tuple [] ys = refl
segments_bytes-append t tuple (x ∷ xs) ys = ap (λ l. record_bytes t (canon (sent_fields tuple x)) ++ l)
    (segments_bytes-append t tuple xs ys)
    ∙ sym (append_assoc (record_bytes t (canon (sent_fields tuple x))) (segments_bytes t tuple xs)
    (segments_bytes t tuple ys))

short_test : (n : ℕ) → n ≤ 65487 → nat_le n 65487 ≡ true
short_test n h = grind (arith, common_steps, h)

short_record : (t : ℕ) (tuple : FourTuple) (s : Seg) → length s.bytes ≤ 65487 → segment_record t tuple s
    ≡ record_bytes t (canon (sent_fields tuple s))
short_record t tuple s h = ap (λ b. cond b (record_bytes t (canon (sent_fields tuple s))) [])
    (short_test (length s.bytes) h)

-- frames of the tick itself
frames_now : (t : ℕ) (tuple : FourTuple) (ss : List Seg) → AreAllShort ss → at_tick t (frames_in t tuple ss)
    ≡ segments_bytes t tuple ss
frames_now t tuple [] h = refl
frames_now t tuple (s ∷ ss) h =
    ap (λ b. cond b (segment_record t tuple s) [] ++ at_tick t (frames_in t tuple ss)) (test_same t t refl)
    ∙ (ap (λ l. l ++ at_tick t (frames_in t tuple ss)) (short_record t tuple s h.0)
    ∙ ap (λ l. record_bytes t (canon (sent_fields tuple s)) ++ l) (frames_now t tuple ss h.1))

-- and of another
frames_other : (t n : ℕ) (tuple : FourTuple) (ss : List Seg) → (n == t) ≡ false → at_tick t (frames_in n tuple ss) ≡ []
frames_other t n tuple [] e = refl
frames_other t n tuple (s ∷ ss) e = ap (λ b. cond b (segment_record n tuple s) [] ++ at_tick t (frames_in n tuple ss)) e
    ∙ frames_other t n tuple ss e

same_number : (n t : ℕ) → (n == t) ≡ true → n ≡ t
same_number n t e = grind (arith, nat_tests, e)

frames_at : (t n : ℕ) (tuple : FourTuple) (ss : List Seg) → AreAllShort ss → (b : Bool) → (n == t) ≡ b
    → at_tick t (frames_in n tuple ss) ≡ segments_bytes t tuple (cond b ss [])
frames_at t n tuple ss h true e = subst (λ (m : ℕ). at_tick t (frames_in m tuple ss) ≡ segments_bytes t tuple ss)
    (sym (same_number n t e)) (frames_now t tuple ss h)
frames_at t n tuple ss h false e = frames_other t n tuple ss e

short_first : (xs ys : List Seg) → AreAllShort (xs ++ ys) → AreAllShort xs × AreAllShort ys
short_first [] ys h = (tt, h)
short_first (x ∷ xs) ys h = let rest = short_first xs ys h.1 in ((h.0, rest.0), rest.1)

-- those of a flow
flow_at : (t : ℕ) (tuple : FourTuple) (h : List Entry) → AreAllShort (sent h)
    → at_tick t (flat_map (entry_frames tuple) h) ≡ segments_bytes t tuple (sent_at t h)
flow_at t tuple [] short = refl
flow_at t tuple (x ∷ xs) short =
    let parts = short_first (segments_in x.reply) (sent xs) short in
    let here : List Seg = cond (x.tick == t) (segments_in x.reply) [] in
    flat_map-append (at t) (entry_frames tuple x) (flat_map (entry_frames tuple) xs)
    ∙ (ap (λ l. l ++ at_tick t (flat_map (entry_frames tuple) xs))
    (frames_at t x.tick tuple (segments_in x.reply) parts.0 (x.tick == t) refl)
    ∙ (ap (λ l. segments_bytes t tuple here ++ l) (flow_at t tuple xs parts.1)
    ∙ sym (segments_bytes-append t tuple here (sent_at t xs))))

flows_are : (t : ℕ) (flows : List Flow) → AreFlowsShort flows → at_tick t (flat_map flow_frames flows)
    ≡ flows_at t flows
flows_are t [] short = refl
flows_are t (f ∷ fs) short =
    flat_map-append (at t) (flow_frames f) (flat_map flow_frames fs)
    ∙ (ap (λ l. l ++ at_tick t (flat_map flow_frames fs)) (flow_at t f.tuple f.entries short.0)
    ∙ ap (λ l. segments_bytes t f.tuple (sent_at t f.entries) ++ l) (flows_are t fs short.1))

-- those of no flow
answer_is : (t : ℕ) (tuple : FourTuple) (answer : Option Head)
    → segments_bytes t tuple (map bare (option_to_list answer)) ≡ answer_in t tuple answer
answer_is t tuple None = refl
answer_is t tuple (Some head) = append-nil (record_bytes t (canon (sent_fields tuple (bare head))))

answers_short : (answer : Option Head) → AreAllShort (map bare (option_to_list answer))
answers_short None = tt
answers_short (Some head) = (omega arith, tt)

event_at : (t n : ℕ) (event : LogEvent) (b : Bool) → (n == t) ≡ b → at_tick t (event_frames n event)
    ≡ cond b (answer_of n event) []
event_at t n (events.Stray frame tuple seg answer) true e =
    frames_at t n tuple (map bare (option_to_list answer)) (answers_short answer) true e
    ∙ (answer_is t tuple answer ∙ ap (λ m. answer_in m tuple answer) (sym (same_number n t e)))
event_at t n (events.Stray frame tuple seg answer) false e = frames_other t n tuple (map bare (option_to_list answer)) e
event_at t n (events.Listen app port ok) true e = refl
event_at t n (events.Listen app port ok) false e = refl
event_at t n (events.AcceptNotYet app port) true e = refl
event_at t n (events.AcceptNotYet app port) false e = refl
event_at t n (events.ConnectRefused app raddr rport no_port) true e = refl
event_at t n (events.ConnectRefused app raddr rport no_port) false e = refl
event_at t n (events.Dropped frame backlog) true e = refl
event_at t n (events.Dropped frame backlog) false e = refl
event_at t n (events.Refused frame number) true e = refl
event_at t n (events.Refused frame number) false e = refl

strays_are : (t : ℕ) (log : List LogLine) → at_tick t (flat_map answer_frames log) ≡ strays_at t log
strays_are t [] = refl
strays_are t (l ∷ ls) =
    flat_map-append (at t) (answer_frames l) (flat_map answer_frames ls)
    ∙ (ap (λ x. x ++ at_tick t (flat_map answer_frames ls)) (event_at t l.tick l.event (l.tick == t) refl)
    ∙ ap (λ x. cond (l.tick == t) (answer_on l) [] ++ x) (strays_are t ls))

-- host by host
host_at : (t : ℕ) (h : HostRun) → AreFlowsShort h.flows → at_tick t (host_frames h) ≡ flows_at t h.flows
    ++ strays_at t h.log
host_at t h short =
    flat_map-append (at t) (flat_map flow_frames h.flows) (flat_map answer_frames h.log)
    ∙ (ap (λ l. l ++ at_tick t (flat_map answer_frames h.log)) (flows_are t h.flows short)
    ∙ ap (λ l. flows_at t h.flows ++ l) (strays_are t h.log))

hosts_are : (t : ℕ) (hosts : List HostRun) → AreShort hosts → at_tick t (all_frames hosts) ≡ hosts_at t hosts
hosts_are t [] short = refl
hosts_are t (h ∷ hs) short =
    flat_map-append (at t) (host_frames h) (all_frames hs)
    ∙ (ap (λ l. l ++ at_tick t (all_frames hs)) (host_at t h short.0)
    ∙ ap (λ l. flows_at t h.flows ++ strays_at t h.log ++ l) (hosts_are t hs short.1))

-- ----- the whole
-- the records of a tick are those of its frames
by_filter : (t : ℕ) (ss : List Sent) → at_tick t ss ≡ flat_map sent_record (filter (λ (s : Sent). s.tick == t) ss)
by_filter t [] = refl
by_filter t (s ∷ ss) = by_test (s.tick == t) refl (by_filter t ss)
  where
    by_test : (b : Bool) → (s.tick == t) ≡ b
        → at_tick t ss ≡ flat_map sent_record (filter (λ (s : Sent). s.tick == t) ss) → at_tick t (s ∷ ss)
        ≡ flat_map sent_record (filter (λ (s : Sent). s.tick == t) (s ∷ ss))
    by_test true e h = rw e (ap (λ l. sent_record s ++ l) h)
    by_test false e h = rw e h

ticks_are : (count t : ℕ) (hosts : List HostRun) (ss : List Sent) → AreShort hosts → Rises 0 ss
    → ((u : ℕ) → at_tick u ss ≡ at_tick u (all_frames hosts)) → in_ticks count t ss ≡ ticks_from count t hosts
ticks_are zero t hosts ss short r same = in_no_ticks t ss
ticks_are (suc count) t hosts ss short r same =
    split_ticks count t 0 ss r
    ∙ (ap (λ l. l ++ in_ticks count (t + 1) ss) (same t ∙ hosts_are t hosts short)
    ∙ ap (λ l. hosts_at t hosts ++ l) (ticks_are count (t + 1) hosts ss short r same))

-- frames before a tick
before_are : (ticks : ℕ) (frames : List Frame) → flat_map (frame_before ticks) frames
    ≡ in_ticks ticks 0 (map seen_frame frames)
before_are ticks [] = refl
before_are ticks (f ∷ fs) = ap (λ b. cond b (sent_record (seen_frame f)) [] ++ flat_map (frame_before ticks) fs)
    (test ticks f.tick) ∙ ap (λ l. within ticks 0 (seen_frame f) ++ l) (before_are ticks fs)
  where
    test : (ticks n : ℕ) → nat_lt n ticks ≡ (nat_le 0 n && nat_lt n (0 + ticks))
    test ticks n = grind (arith, nat_tests)

pub all_in_ticks : (ticks : ℕ) (hosts : List HostRun) (frames : List Frame) → AreShort hosts
    → IsInOrder (all_frames hosts) frames → flat_map (frame_before ticks) frames ≡ ticks_from ticks 0 hosts
all_in_ticks ticks hosts frames short order =
    let ss : List Sent = map seen_frame frames in
    let same : (u : ℕ) → at_tick u ss ≡ at_tick u (all_frames hosts) = λ u. by_filter u ss
    ∙ (ap (flat_map sent_record) (order.same u) ∙ sym (by_filter u (all_frames hosts))) in
    before_are ticks frames ∙ ticks_are ticks 0 hosts ss short order.rises same
