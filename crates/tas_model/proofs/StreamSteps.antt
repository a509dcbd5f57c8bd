-- The rules keep what is received in the stream.
use Rattle.std.proofs.Common.{◌≡◌, ℕ, ◌+◌, ◌-◌, ◌^◌, ◌<◌, ◌≤◌, Bool, true, false, cond, not, ◌&&◌, List, [], ◌∷◌, ◌++◌}
use Rattle.std.proofs.Common.{length, take, drop, min, max, Option, Some, None, refl, sym, subst, ap, ◌∙◌, arith}
use Rattle.std.proofs.Common.{length-append, length-take, length-drop, leb, eqb}
use Rattle.std.proofs.Math.Seq.{take-add}
use Rattle.std.proofs.lemmas.List.{drop-drop, drop-take, take-take, take_all, take_min}
use Rattle.std.proofs.lemmas.Bool.Decides.{nat_tests}
use Rattle.tas_model.proofs.Tests.{on_cond}
use Rattle.tas_model.specs.Endpoint.{Endpoint, Receiving, Island, next_place, phase, wnd}
use Rattle.tas_model.specs.declared.entry.Seg.{Seg}
use Rattle.tas_num.proofs.Nearest.{nearest_raised}
use Rattle.tas_model.specs.declared.entry.FrameId.{FrameId}
use Rattle.tas_model.specs.declared.entry.Phase.{Phase}
use Rattle.tas_model.specs.declared.entry.Phase.TheVariants as phases
use Rattle.tas_model.specs.declared.entry.Reason.TheVariants as reasons
use Rattle.tas_model.specs.declared.entry.Call.TheVariants as calls
use Rattle.tas_model.specs.Segments.{Outcome, offered_window, is_fin, is_syn, is_rst, is_ack, seg_len}
use Rattle.tas_model.specs.Receive.{takes_fin, after_data, after_ack, taken, bare_ack, by_verdict, verdict}
use Rattle.tas_model.specs.Receive.{verdict_of_place, is_acceptable, Verdict, Dropped, Answered, Reset, BareAck, Taken}
use Rattle.tas_model.specs.Receive.{AckVerdict, Stray, TooFar, Good, place_of_seq, place_of_ack, rx, rx_in, rx_later}
use Rattle.tas_model.specs.Receive.{rx_syn_sent}
use Rattle.tas_model.specs.Reassembly.{trimmed, joined, meets, kept_apart, bridged, grown, with_part, with_data}
use Rattle.tas_model.specs.OneStream.{StandsIn, IslandIn, InStream, Says, IsOfStream, IsSynchronized, raised_place}

-- ----- bytes that stand in a stream
stands_append : (p : List ℕ) (at : ℕ) (xs ys : List ℕ) → StandsIn p at xs → StandsIn p (at + length xs) ys
    → StandsIn p at (xs ++ ys)
stands_append p at xs ys x y =
    let both : take (length xs + length ys) (drop at p) ≡ take (length xs) (drop at p)
    ++ take (length ys) (drop (length xs) (drop at p)) = take-add (length xs) (length ys) (drop at p) in
    let rest : take (length ys) (drop (length xs) (drop at p)) ≡ ys = ap (take (length ys)) (drop-drop (length xs) at p)
    ∙ y in
    rw (length-append xs ys, both, x, rest) refl

stands_take : (p : List ℕ) (at k : ℕ) (xs : List ℕ) → StandsIn p at xs → StandsIn p at (take k xs)
stands_take p at k xs x =
    let m : ℕ = length (take k xs) in
    let le : m ≤ length xs = omega (arith, length-take k xs) in
    sym (take-take m (length xs) (drop at p) le)
    ∙ (ap (take m) x ∙ (ap (λ (n : ℕ). take n xs) (length-take k xs) ∙ take_min k xs))

stands_drop : (p : List ℕ) (at k : ℕ) (xs : List ℕ) → k ≤ length xs → StandsIn p at xs → StandsIn p (at + k) (drop k xs)
stands_drop p at k xs le x =
    let m : ℕ = length xs - k in
    let all : k + m ≡ length xs = omega arith in
    let front : drop k (take (k + m) (drop at p)) ≡ drop k xs =
    ap (drop k) (ap (λ (n : ℕ). take n (drop at p)) all ∙ x) in
    rw (length-drop k xs, ← front, drop-take k m (drop at p), drop-drop k at p) refl

pub stands_nil : (p : List ℕ) (at : ℕ) (xs : List ℕ) → length xs ≡ 0 → StandsIn p at xs
stands_nil p at [] none = refl
stands_nil p at (x ∷ xs) none = absurd (omega arith)

-- also where more is dropped than there is
pub stands_rest : (p : List ℕ) (at k n : ℕ) (xs : List ℕ) → at + k ≡ n → StandsIn p at xs → StandsIn p n (drop k xs)
stands_rest p at k n xs place x = subst (λ (m : ℕ). StandsIn p m (drop k xs)) place (by_size (leb k (length xs)) refl)
  where
    by_size : (b : Bool) → leb k (length xs) ≡ b → StandsIn p (at + k) (drop k xs)
    by_size true is = let le : k ≤ length xs = grind (arith, nat_tests) in stands_drop p at k xs le x
    by_size false is = let lt : length xs < k = grind (arith, nat_tests) in
        stands_nil p (at + k) (drop k xs) (omega (arith, length-drop k xs))

-- bytes that stand at the front of a stream, and are as many, are the stream
stands_whole : (p xs : List ℕ) → StandsIn p 0 xs → length xs ≡ length p → xs ≡ p
stands_whole p xs x len = sym x ∙ (ap (λ (n : ℕ). take n p) len ∙ take_all (length p) p (omega arith))

-- ----- rule 6
joined_in : (p : List ℕ) (i : Island) (at : ℕ) (part : List ℕ) → meets i at part ≡ true → StandsIn p i.at i.bytes
    → StandsIn p at part
    → StandsIn p (joined i at part).at (joined i at part).bytes
joined_in p i at part meet old new =
    let before : at ≤ i.at + length i.bytes = grind (arith, nat_tests) in
    let behind : i.at ≤ at + length part = grind (arith, nat_tests) in
    let front : StandsIn p (min at i.at) (take (i.at - at) part) = front_in (leb at i.at) refl in
    let old_start : i.at ≡ min at i.at + length (take (i.at - at) part) = omega (arith, length-take (i.at - at) part) in
    let both : StandsIn p (min at i.at) (take (i.at - at) part ++ i.bytes) =
    stands_append p (min at i.at) (take (i.at - at) part) i.bytes front
    (subst (λ (k : ℕ). StandsIn p k i.bytes) old_start old) in
    let rest_start : at + (i.at + length i.bytes - at) ≡ min at i.at + length (take (i.at - at) part ++ i.bytes) =
    omega (arith, length-append (take (i.at - at) part) i.bytes) in
    stands_append p (min at i.at) (take (i.at - at) part ++ i.bytes) (drop (i.at + length i.bytes - at) part) both
    (stands_rest p at (i.at + length i.bytes - at) _ part rest_start new)
  where
    front_in : (b : Bool) → leb at i.at ≡ b → StandsIn p (min at i.at) (take (i.at - at) part)
    front_in true is =
        let place : at ≡ min at i.at = grind (arith, nat_tests) in
        subst (λ (k : ℕ). StandsIn p k (take (i.at - at) part)) place (stands_take p at (i.at - at) part new)
    front_in false is =
        let lt : i.at < at = grind (arith, nat_tests) in
        stands_nil p (min at i.at) (take (i.at - at) part) (omega (arith, length-take (i.at - at) part))

apart_in : (p : List ℕ) (o : Option Island) (at : ℕ) (part : List ℕ) → IslandIn p o → StandsIn p at part
    → IslandIn p (kept_apart o at part)
apart_in p None at part old new = new
apart_in p (Some i) at part old new =
    by_meet (meets i at part) refl
  where
    by_meet : (b : Bool) → meets i at part ≡ b → IslandIn p (cond b (Some (joined i at part)) (Some i))
    by_meet true is = joined_in p i at part is old new
    by_meet false is = old

bridged_in : (p : List ℕ) (rx : Receiving) (o : Option Island) → rx.island ≡ o → StandsIn p 0 rx.got → IslandIn p o
    → (rx.ended ≡ true → ⊥) → InStream p (bridged rx o)
bridged_in p rx None is got island going =
    record { got = got; island = subst (IslandIn p) (sym is) tt; ended = λ e. absurd (going e) }
bridged_in p rx (Some i) is got island going = by_reach (leb i.at (length rx.got)) refl
  where
    tail : leb i.at (length rx.got) ≡ true → StandsIn p 0 (rx.got ++ drop (length rx.got - i.at) i.bytes)
    tail reach =
        let le : i.at ≤ length rx.got = grind (arith, nat_tests) in
        stands_append p 0 rx.got (drop (length rx.got - i.at) i.bytes) got
        (stands_rest p i.at (length rx.got - i.at) (0 + length rx.got) i.bytes (omega arith) island)

    by_reach : (b : Bool) → leb i.at (length rx.got) ≡ b
        → InStream p (cond b (record rx { got = rx.got ++ drop (length rx.got - i.at) i.bytes; island = None }) rx)
    by_reach true reach = record { got = tail reach; island = tt; ended = λ e. absurd (going e) }
    by_reach false reach = record {
      got = got;
      island = subst (IslandIn p) (sym is) island;
      ended = λ e. absurd (going e);
    }

part_in : (p : List ℕ) (rx : Receiving) (at : ℕ) (part : List ℕ) → InStream p rx → StandsIn p at part
    → (rx.ended ≡ true → ⊥) → InStream p (with_part rx at part)
part_in p rx at [] s new going = s
part_in p rx at (b ∷ part) s new going = by_place (eqb at (length rx.got)) refl
  where
    grown_in : eqb at (length rx.got) ≡ true → InStream p (grown rx (b ∷ part))
    grown_in here =
        let place : at ≡ 0 + length rx.got = grind (arith, nat_tests) in
        bridged_in p (record rx { got = rx.got ++ (b ∷ part) }) rx.island refl
        (stands_append p 0 rx.got (b ∷ part) s.got (subst (λ (k : ℕ). StandsIn p k (b ∷ part)) place new)) s.island
        going

    by_place : (t : Bool) → eqb at (length rx.got) ≡ t
        → InStream p (cond t (grown rx (b ∷ part)) (record rx { island = kept_apart rx.island at (b ∷ part) }))
    by_place true here = grown_in here
    by_place false here = record {
      got = s.got;
      island = apart_in p rx.island at (b ∷ part) s.island new;
      ended = λ e. absurd (going e);
    }

-- the part that is taken is a stretch of what the segment says
trimmed_in : (p : List ℕ) (r window q : ℕ) (payload : List ℕ) → StandsIn p (max q r - 1) (drop (r - q) payload)
    → StandsIn p (max q r - 1) (trimmed r window q payload)
trimmed_in p r window q payload says = stands_take p (max q r - 1) (r + window - max q r) (drop (r - q) payload) says

pub data_in : (p : List ℕ) (rx : Receiving) (window q : ℕ) (payload : List ℕ) → InStream p rx
    → StandsIn p (max q (next_place rx) - 1) (drop (next_place rx - q) payload)
    → InStream p (with_data rx window q payload)
data_in p rx window q payload s says = by_end rx.ended refl
  where
    by_end : (b : Bool) → rx.ended ≡ b
        → InStream p (cond b rx (with_part rx (max q (next_place rx) - 1) (trimmed (next_place rx) window q payload)))
    by_end true is = s
    by_end false is = part_in p rx (max q (next_place rx) - 1) (trimmed (next_place rx) window q payload) s
        (trimmed_in p (next_place rx) window q payload says) (λ e. cc (e, is))

-- ----- rule 7
fin_tells : (fin ended within here : Bool) → (fin && not ended && within && here) ≡ true
    → (fin ≡ true) × (ended ≡ false) × (here ≡ true)
fin_tells true false true true h = (refl, refl, refl)
fin_tells false ended within here h = absurd (cc (h))
fin_tells true true within here h = absurd (cc (h))
fin_tells true false false here h = absurd (cc (h))
fin_tells true false true false h = absurd (cc (h))

bridged_grows : (rx : Receiving) (o : Option Island) → length rx.got ≤ length (bridged rx o).got
bridged_grows rx None = omega arith
bridged_grows rx (Some i) = on_cond (λ (x : Receiving). length rx.got ≤ length x.got) (leb i.at (length rx.got)) _ rx
    (λ t. omega (arith, length-append rx.got (drop (length rx.got - i.at) i.bytes))) (λ f. omega arith)

part_grows : (rx : Receiving) (at : ℕ) (part : List ℕ) → length rx.got ≤ length (with_part rx at part).got
part_grows rx at [] = omega arith
part_grows rx at (b ∷ part) =
    on_cond (λ (x : Receiving). length rx.got ≤ length x.got) (eqb at (length rx.got)) (grown rx (b ∷ part))
    (record rx { island = kept_apart rx.island at (b ∷ part) })
    (λ t. omega (
      arith,
      length-append rx.got (b ∷ part),
      bridged_grows (record rx { got = rx.got ++ (b ∷ part) }) rx.island,
    )) (λ f. omega arith)

data_grows : (rx : Receiving) (window q : ℕ) (payload : List ℕ)
    → length rx.got ≤ length (with_data rx window q payload).got
data_grows rx window q payload =
    on_cond (λ (x : Receiving). length rx.got ≤ length x.got) rx.ended rx _ (λ t. omega arith)
    (λ f. part_grows rx (max q (next_place rx) - 1) (trimmed (next_place rx) window q payload))

-- what the segment says, where its place is not negative
says_bytes : (p : List ℕ) (r q from : ℕ) (seg : Seg) → from ≡ q + 2 ^ 32 → Says p r from seg
    → StandsIn p (max q r - 1) (drop (r - q) seg.bytes)
says_bytes p r q from seg is says =
    let place : max from (r + 2 ^ 32) - 2 ^ 32 - 1 ≡ max q r - 1 = omega arith in
    let lead : r + 2 ^ 32 - from ≡ r - q = omega arith in
    subst (λ (k : ℕ). StandsIn p (max q r - 1) (drop k seg.bytes)) lead
    (subst (λ (k : ℕ). StandsIn p k (drop (r + 2 ^ 32 - from) seg.bytes)) place says.bytes)

pub after_data_in : (p : List ℕ) (e : Endpoint) (tick window q from : ℕ) (seg : Seg) → from ≡ q + 2 ^ 32
    → Says p (next_place e.rx) from seg → InStream p e.rx → InStream p (after_data e tick window q seg).rx
after_data_in p e tick window q from seg is says s =
    on_cond (λ (x : Endpoint). InStream p x.rx)
    (takes_fin e.rx (with_data e.rx window q seg.bytes) window q (length seg.bytes) (is_fin seg)) _ _
    (λ t. record { got = taken.got; island = tt; ended = λ u. whole t }) (λ f. taken)
  where
    taken : InStream p (with_data e.rx window q seg.bytes)
    taken = data_in p e.rx window q seg.bytes s (says_bytes p (next_place e.rx) q from seg is says)

    whole : takes_fin e.rx (with_data e.rx window q seg.bytes) window q (length seg.bytes) (is_fin seg) ≡ true
        → (with_data e.rx window q seg.bytes).got ≡ p
    whole t =
        let tells = fin_tells (is_fin seg) e.rx.ended (leb (q + length seg.bytes) (next_place e.rx + window))
        (eqb (q + length seg.bytes) (1 + length (with_data e.rx window q seg.bytes).got)) t in
        let end : q + length seg.bytes ≡ 1 + length (with_data e.rx window q seg.bytes).got =
        grind (arith, nat_tests, tells.2) in
        let r : next_place e.rx ≡ 1 + length e.rx.got = grind (arith, tells.1) in
        let last : from + length seg.bytes ≡ length p + 1 + 2 ^ 32 =
        says.fin tells.0 (omega (arith, data_grows e.rx window q seg.bytes)) in
        stands_whole p (with_data e.rx window q seg.bytes).got taken.got (omega arith)

-- ----- all rules
-- what the verdict says of a segment that is taken
taken_tells : (acceptable bare rst first syn ack : Bool) (q q' : ℕ)
    → cond (not acceptable) (cond bare BareAck (cond rst Dropped Answered))
    (cond rst (cond first Reset Answered) (cond syn Answered (cond ack (Taken q) Dropped))) ≡ Taken q'
    → (q ≡ q') × (syn ≡ false) × (acceptable ≡ true)
taken_tells false true rst first syn ack q q' h = absurd (cc (h))
taken_tells false false true first syn ack q q' h = absurd (cc (h))
taken_tells false false false first syn ack q q' h = absurd (cc (h))
taken_tells true bare true true syn ack q q' h = absurd (cc (h))
taken_tells true bare true false syn ack q q' h = absurd (cc (h))
taken_tells true bare false first true ack q q' h = absurd (cc (h))
taken_tells true bare false first false true q q' h = (cc (h), refl, refl)
taken_tells true bare false first false false q q' h = absurd (cc (h))

pub place_tells : (o : Option ℕ) (r window q : ℕ) (seg : Seg) → verdict_of_place o r window seg ≡ Taken q
    → (o ≡ Some q) × (is_syn seg ≡ false) × (is_acceptable r window q (seg_len seg) ≡ true)
place_tells None r window q seg h = absurd (never (is_rst seg) h)
  where
    never : (b : Bool) → cond b Dropped Answered ≡ Taken q → ⊥
    never true e = cc (e)
    never false e = cc (e)
place_tells (Some k) r window q seg h =
    let t : (k ≡ q) × (is_syn seg ≡ false) × (is_acceptable r window k (seg_len seg) ≡ true) =
    taken_tells (is_acceptable r window k (seg_len seg)) (eqb window 0 && eqb k r && not (is_rst seg)
    && not (is_syn seg)) (is_rst seg) (eqb k r) (is_syn seg) (is_ack seg) k q h in
    (ap (λ (n : ℕ). Some n) t.0, t.1, subst (λ (n : ℕ). is_acceptable r window n (seg_len seg) ≡ true) t.0 t.2)

taken_in : (p : List ℕ) (e : Endpoint) (tick q from : ℕ) (seg : Seg) (a : AckVerdict) → from ≡ q + 2 ^ 32
    → Says p (next_place e.rx) from seg → InStream p e.rx → InStream p (taken e tick q seg a).state.rx
taken_in p e tick q from seg Stray is says s = s
taken_in p e tick q from seg TooFar is says s = s
taken_in p e tick q from seg Good is says s =
    after_data_in p (after_ack e tick (place_of_ack e seg) q (seg_len seg) (offered_window e.scaling seg)) tick
    (wnd e) q from seg is says s

bare_in : (p : List ℕ) (e : Endpoint) (tick : ℕ) (seg : Seg) (a : AckVerdict) → InStream p e.rx
    → InStream p (bare_ack e tick seg a).state.rx
bare_in p e tick seg Stray s = s
bare_in p e tick seg TooFar s = s
bare_in p e tick seg Good s = s

verdict_in : (p : List ℕ) (e : Endpoint) (tick : ℕ) (seg : Seg) (d : Verdict) → verdict e seg ≡ d
    → (is_syn seg ≡ false → Says p (next_place e.rx) (raised_place e seg) seg)
    → InStream p e.rx → InStream p (by_verdict e tick seg d).state.rx
verdict_in p e tick seg Dropped is says s = s
verdict_in p e tick seg Answered is says s = s
verdict_in p e tick seg Reset is says s = s
verdict_in p e tick seg BareAck is says s =
    on_cond (λ (o : Outcome). InStream p o.state.rx) (is_ack seg) _ _ (λ t. bare_in p e tick seg _ s) (λ f. s)
verdict_in p e tick seg (Taken q) is says s =
    let t : (place_of_seq e seg ≡ Some q) × (is_syn seg ≡ false)
    × (is_acceptable (next_place e.rx) (wnd e) q (seg_len seg) ≡ true) =
    place_tells (place_of_seq e seg) (next_place e.rx) (wnd e) q seg is in
    taken_in p e tick q (raised_place e seg) seg _ (nearest_raised _ _ q t.0) (says t.1) s

rx_in_in : (p : List ℕ) (ph : Phase) (e : Endpoint) (tick : ℕ) (seg : Seg) → phase e ≡ ph
    → (is_syn seg ≡ false → IsSynchronized (phase e) → Says p (next_place e.rx) (raised_place e seg) seg)
    → InStream p e.rx → InStream p (rx_in ph e tick seg).state.rx
unfolding rx_later rx_syn_sent
rx_in_in p phases.Closed e tick seg is says s = s
rx_in_in p phases.SynSent e tick seg is says s =
    on_cond (λ (o : Outcome). InStream p o.state.rx) (is_ack seg
    && not (eqb (place_of_ack e seg) 1 && leb 1 e.tx.max)) _ _ (λ t. s)
    (λ f. on_cond (λ (o : Outcome). InStream p o.state.rx) (is_rst seg) _ _
    (λ t. on_cond (λ (x : Endpoint). InStream p x.rx) (is_ack seg) (record e { reason = Some reasons.Refused }) e
    (λ u. s) (λ u. s))
    (λ g. on_cond (λ (o : Outcome). InStream p o.state.rx) (is_syn seg && is_ack seg) _ _ (λ t. s) (λ h. s)))
rx_in_in p _ e tick seg is says s =
    verdict_in p e tick seg (verdict e seg) refl (λ syn. says syn (subst IsSynchronized (sym is) tt)) s

pub rx_in_stream : (p : List ℕ) (e : Endpoint) (tick : ℕ) (frame : FrameId) (seg : Seg)
    → IsOfStream p e (calls.Rx frame seg) → InStream p e.rx → InStream p (rx e tick seg).state.rx
unfolding rx
rx_in_stream p e tick frame seg of s = rx_in_in p (phase e) e tick seg refl of s
