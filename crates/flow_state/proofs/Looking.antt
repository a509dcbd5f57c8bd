-- An entry of the history, by its stretch.
use Rattle.std.proofs.Common.{◌≡◌, ℕ, zero, suc, ◌+◌, ◌-◌, ◌<◌, List, [], ◌∷◌, ◌++◌, length, get_or, slice_get, Some}
use Rattle.std.proofs.Common.{map, take, drop, flat_map, refl, sym, ◌∙◌, ap, subst, arith, length-append, append-nil}
use Rattle.tas_model.specs.declared.entry.Entry.{Entry}
use Rattle.tas_model.specs.declared.entry.HostParams.{HostParams}
use Rattle.tas_model.specs.declared.entry.Caller.{Caller}
use Rattle.tas_model.specs.declared.entry.Call.{Call}
use Rattle.tas_model.specs.LegalHistory.{extended_by}
use Rattle.tas_model.specs.declared.entry.Reply.{Reply}
use Rattle.flow_state.specs.declared.stretch.QuietRun.{QuietRun}
use Rattle.flow_state.specs.declared.stretch.Stretch.{Stretch}
use Rattle.flow_state.specs.Calls.{reply_bytes}
use Rattle.flow_state.proofs.Runs.{ticks_push}
use Rattle.flow_state.specs.Flow.{last_reply, reply_to, next_entry}
use Rattle.std.proofs.lemmas.List.{take_all, take_more}
use Rattle.std.proofs.lemmas.Option.{get_or_from_slice_get}
use Rattle.std.proofs.lemmas.List.Concat.{flat_map-append}
use Rattle.flow_state.specs.declared.stretch.Stretch.TheVariants.{One, Quiet, Paced}
use Rattle.flow_state.specs.Arena.{Memory}
use Rattle.flow_state.specs.Slots.{entry_of}
use Rattle.flow_state.specs.Stretches.{quiet_tick, quiet_ticks, run_entries, paced_entries, entries_in, entries_of}
use Rattle.flow_state.specs.Stretches.{AllWithin, StretchWithin}

pub within_at : (n k : ℕ) (stretches : List Stretch) (i : ℕ) (d : Stretch) → i < length stretches
    → AllWithin n k stretches → StretchWithin n k (get_or stretches i d)
within_at n k [] i d below all = absurd (omega arith)
within_at n k (s ∷ stretches) zero d below all = all.0
within_at n k (s ∷ stretches) (suc i) d below all = within_at n k stretches i d (omega arith) all.1

pub stretch_at : (memory : Memory) (stretches : List Stretch) (i : ℕ) (d : Stretch) → i < length stretches
    → slice_get (map (entries_in memory) stretches) i ≡ Some (entries_in memory (get_or stretches i d))
stretch_at memory [] i d below = absurd (omega arith)
stretch_at memory (s ∷ stretches) zero d below = refl
stretch_at memory (s ∷ stretches) (suc i) d below = stretch_at memory stretches i d (omega arith)

pub joined : (memory : Memory) (stretches : List Stretch)
    → flat_map (λ xs. xs) (map (entries_in memory) stretches) ≡ entries_of memory stretches
joined memory [] = refl
joined memory (s ∷ stretches) = ap (λ (es : List Entry). entries_in memory s ++ es) (joined memory stretches)

-- ----- the i-th of all, by the k-th list
pub got_front : (xs ys : List Entry) (j : ℕ) (x : Entry) → slice_get xs j ≡ Some x → slice_get (xs ++ ys) j ≡ Some x
got_front [] ys j x h = absurd (cc (h))
got_front (y ∷ xs) ys zero x h = h
got_front (y ∷ xs) ys (suc j) x h = got_front xs ys j x h

pub got_back : (xs ys : List Entry) (j : ℕ) → slice_get (xs ++ ys) (length xs + j) ≡ slice_get ys j
got_back [] ys j = ap (slice_get ys) (zero_plus j)
  where
    zero_plus : (n : ℕ) → 0 + n ≡ n
    zero_plus n = omega arith
got_back (x ∷ xs) ys j = ap (slice_get (x ∷ (xs ++ ys))) (more (length xs) j) ∙ got_back xs ys j
  where
    more : (n j : ℕ) → suc n + j ≡ suc (n + j)
    more n j = omega arith

pub got_in : (xss : List (List Entry)) (k j : ℕ) (xs : List Entry) (x : Entry) → slice_get xss k ≡ Some xs
    → slice_get xs j ≡ Some x
    → slice_get (flat_map (λ xs. xs) xss) (length (flat_map (λ (ys : List Entry). ys) (take k xss)) + j) ≡ Some x
got_in [] k j xs x h is = absurd (cc (h))
got_in (ys ∷ xss) zero j xs x h is =
    let same : ys ≡ xs = cc (h) in
    let at : 0 + j ≡ j = omega arith in
    ap (slice_get (ys ++ flat_map (λ (zs : List Entry). zs) xss)) at
    ∙ got_front ys (flat_map (λ (zs : List Entry). zs) xss) j x
    (subst (λ (zs : List Entry). slice_get zs j ≡ Some x) (sym same) is)
got_in (ys ∷ xss) (suc k) j xs x h is =
    let rest : List Entry = flat_map (λ (zs : List Entry). zs) (take k xss) in
    let at : length (ys ++ rest) + j ≡ length ys + (length rest + j) = omega (arith, length-append ys rest) in
    ap (slice_get (ys ++ flat_map (λ (zs : List Entry). zs) xss)) at
    ∙ (got_back ys (flat_map (λ (zs : List Entry). zs) xss) (length rest + j) ∙ got_in xss k j xs x h is)

-- ----- the last reply
last_reply_behind : (h : List Entry) (x : Entry) (xs : List Entry) → last_reply (h ++ x ∷ xs) ≡ last_reply (x ∷ xs)
last_reply_behind [] x xs = refl
last_reply_behind (y ∷ []) x xs = refl
last_reply_behind (y ∷ z ∷ h) x xs = last_reply_behind (z ∷ h) x xs

-- the last reply of a history that grew by an entry is that entry's
pub last_reply_push : (h : List Entry) (x : Entry) → last_reply (h ++ x ∷ []) ≡ x.reply
last_reply_push h x = last_reply_behind h x []

pub last_reply_extended : (params : HostParams) (h : List Entry) (caller : Caller) (tick : ℕ) (call : Call)
    (offer : List ℕ) → last_reply (extended_by params h caller tick call offer) ≡ reply_to params h tick call offer
last_reply_extended params h caller tick call offer =
    last_reply_push h (next_entry h caller tick call (reply_to params h tick call offer))

-- one list more
pub front_more : (xss : List (List Entry)) (k : ℕ) (xs : List Entry) → slice_get xss k ≡ Some xs
    → length (flat_map (λ (ys : List Entry). ys) (take (k + 1) xss))
    ≡ length (flat_map (λ (ys : List Entry). ys) (take k xss)) + length xs
front_more [] k xs h = absurd (cc (h))
front_more (ys ∷ xss) zero xs h =
    let same : ys ≡ xs = cc (h) in
    omega (arith, length-append ys [], ap (length {A = Entry}) same)
front_more (ys ∷ xss) (suc k) xs h =
    let next : suc k + 1 ≡ suc (k + 1) = omega arith in
    let more : length (ys ++ flat_map (λ (zs : List Entry). zs) (take (k + 1) xss)) ≡ length (ys
    ++ flat_map (λ (zs : List Entry). zs) (take k xss)) + length xs =
    omega (
      arith,
      length-append ys (flat_map (λ (zs : List Entry). zs) (take (k + 1) xss)),
      length-append ys (flat_map (λ (zs : List Entry). zs) (take k xss)),
      front_more xss k xs h,
    ) in
    ap (λ n. length (flat_map (λ (zs : List Entry). zs) (take n (ys ∷ xss)))) next ∙ more

pub last_cut : (ss : List Stretch) (s : Stretch) → slice_get ss (length ss - 1) ≡ Some s
    → ss ≡ take (length ss - 1) ss ++ s ∷ []
last_cut [] s h = absurd (cc (h))
last_cut (x ∷ ss) s h =
    let last : length (x ∷ ss) - 1 ≡ length ss = omega arith in
    let there : slice_get (x ∷ ss) (length ss) ≡ Some s = subst (λ k. slice_get (x ∷ ss) k ≡ Some s) last h in
    let next : length ss + 1 ≡ length (x ∷ ss) = omega arith in
    let whole : take (length ss + 1) (x ∷ ss) ≡ x ∷ ss = take_all (length ss + 1) (x ∷ ss) (omega arith) in
    sym whole ∙ (take_more (x ∷ ss) (length ss) s (omega arith)
    ∙ (ap (λ y. take (length ss) (x ∷ ss) ++ y ∷ []) (get_or_from_slice_get (x ∷ ss) (length ss) s s there)
    ∙ ap (λ k. take k (x ∷ ss) ++ s ∷ []) (sym last)))

stretch_behind : (memory : Memory) (h : List Entry) (s : Stretch)
    → last_reply (h ++ (entries_in memory s ++ [])) ≡ last_reply (entries_in memory s)
stretch_behind memory h (One t s) = last_reply_behind h (entry_of memory t s) []
stretch_behind memory h (Quiet r) =
    ap (λ (xs : List Entry). last_reply (h ++ xs)) (append-nil (run_entries r))
    ∙ last_reply_behind h (quiet_tick r.caller r.number r.tick)
    (quiet_ticks r.caller (r.number + 1) (r.tick + 1) r.more)
stretch_behind memory h (Paced r) =
    ap (λ (xs : List Entry). last_reply (h ++ xs)) (append-nil (paced_entries r))
    ∙ last_reply_behind h (quiet_tick r.run.caller r.run.number r.run.tick) (drop 1 (paced_entries r))

-- the last reply is that of the last stretch
pub last_reply_stretches : (memory : Memory) (stretches : List Stretch) (s : Stretch)
    → slice_get stretches (length stretches - 1) ≡ Some s
    → last_reply (entries_of memory stretches) ≡ last_reply (entries_in memory s)
last_reply_stretches memory [] s h = absurd (cc (h))
last_reply_stretches memory (x ∷ []) s h =
    let is : x ≡ s = cc (h) in
    ap (λ (z : Stretch). last_reply (entries_in memory z ++ [])) is ∙ stretch_behind memory [] s
last_reply_stretches memory (x ∷ y ∷ ss) s h =
    let all : List Stretch = x ∷ y ∷ ss in
    let below : length all - 1 < length all = omega arith in
    let cut : all ≡ take (length all - 1) all ++ s ∷ [] = last_cut all s h in
    ap (λ (zs : List Stretch). last_reply (entries_of memory zs)) cut
    ∙ (ap last_reply (flat_map-append (entries_in memory) (take (length all - 1) all) (s ∷ []))
    ∙ stretch_behind memory (entries_of memory (take (length all - 1) all)) s)

pub within_last : (n k : ℕ) (stretches : List Stretch) (s : Stretch)
    → slice_get stretches (length stretches - 1) ≡ Some s → AllWithin n k stretches → StretchWithin n k s
within_last n k [] s h all = absurd (cc (h))
within_last n k (x ∷ ss) s h all =
    let below : length ss < length (x ∷ ss) = omega arith in
    let last : length (x ∷ ss) - 1 ≡ length ss = omega arith in
    let is : get_or (x ∷ ss) (length ss) s ≡ s =
    get_or_from_slice_get (x ∷ ss) (length ss) s s (subst (λ j. slice_get (x ∷ ss) j ≡ Some s) last h) in
    subst (StretchWithin n k) is (within_at n k (x ∷ ss) (length ss) s below all)

pub last_quiet : (r : QuietRun) → reply_bytes (last_reply (run_entries r)) ≡ []
last_quiet r =
    ap (λ (xs : List Entry). reply_bytes (last_reply xs)) (ticks_push r.caller r.number r.tick r.more)
    ∙ ap (λ (y : Reply). reply_bytes y)
    (last_reply_push (quiet_ticks r.caller r.number r.tick r.more)
    (quiet_tick r.caller (r.number + r.more) (r.tick + r.more)))
