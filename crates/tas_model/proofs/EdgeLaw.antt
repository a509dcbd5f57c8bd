-- The right edge of the window never moves left, and each segment shows it, but for what the shift rounds off.
use Rattle.std.proofs.Common.{◌≡◌, ℕ, ◌+◌, ◌-◌, ◌*◌, ◌/◌, ◌%◌, ◌^◌, ◌<◌, ◌≤◌, Bool, true, false, cond, List, [], ◌∷◌}
use Rattle.std.proofs.Common.{◌++◌, length, min, Option, Some, None, refl, sym, subst, ap, ◌∙◌, arith, eqb}
use Rattle.std.proofs.Common.{append-nil, append_assoc, true≢false}
use Rattle.std.proofs.Math.Nat.{mod-add-div, mod-lt, pow-le-pow_right}
use Rattle.std.proofs.lemmas.Nat.{pow_pos}
use Rattle.tas_model.specs.declared.entry.HostParams.{HostParams}
use Rattle.tas_model.specs.declared.entry.Entry.{Entry}
use Rattle.tas_model.specs.declared.entry.Seg.{Seg}
use Rattle.tas_model.specs.Endpoint.{Endpoint, wnd, window_field, syn_window_field, next_place}
use Rattle.tas_model.specs.Segments.{has, bare, is_rst, is_syn}
use Rattle.tas_model.specs.NextSegment.{waiting, past, syn_head, data_len}
use Rattle.tas_model.specs.LegalHistory.{moved, replay, Legal, LegalAfter, MayFollow}
use Rattle.tas_model.specs.Outputs.{segments_in}
use Rattle.tas_model.specs.Valid.{Valid, InRange}
use Rattle.tas_model.specs.OfferedWindow.{right_edge, shown_edge, offers, OffersRoom, AllOfferRoom, OffersInOrder}
use Rattle.tas_model.proofs.Histories.{legal_induction, legal_parts, legal_push, along_push, replay_push}
use Rattle.tas_model.proofs.Moves.{KeepsRoom}
use Rattle.tas_model.proofs.MovesLaws.{entry_moves}
use Rattle.tas_model.proofs.ValidCalls.{valid_replay}
use Rattle.tas_model.proofs.EachSegment.{Shows, all_as, entry_shows}

-- ----- the edge
-- It is the end of the stream that was read, a ring further, or what was received, the largest window further.
edge_grows : (ring got got' read read' end end' most most' : ℕ) → read ≤ got → got ≤ read + ring → read' ≤ got'
    → got' ≤ read' + ring → read ≤ read' → got ≤ got' → end ≤ end' → most ≤ most'
    → 1 + got + end + min (ring - (got - read)) most ≤ 1 + got' + end' + min (ring - (got' - read')) most'
edge_grows ring got got' read read' end end' most most' a b c d e f g h = omega arith

ends_grow : (b c : Bool) → (b ≡ true → c ≡ true) → cond b 1 0 ≤ cond c 1 0
ends_grow false c grows = omega arith
ends_grow true true grows = omega arith
ends_grow true false grows = absurd (true≢false (sym (grows refl)))

scaled_grows : (a b : ℕ) → a ≤ b → 65535 * 2 ^ a ≤ 65535 * 2 ^ b
scaled_grows a b le =
    let more : 2 ^ a ≤ 2 ^ b = pow-le-pow_right (omega arith) le in
    omega (arith, more)

edge_keeps : (e f : Endpoint) → Valid e → Valid f → KeepsRoom e f → right_edge e ≤ right_edge f
edge_keeps e f v w k =
    let ring : f.params.ring ≡ e.params.ring = ap (λ (p : HostParams). p.ring) k.params in
    subst (λ (n : ℕ). right_edge e
    ≤ next_place f.rx + min (n - (length f.rx.got - f.rx.read)) (65535 * 2 ^ f.scaling.rs))
    (sym ring)
    (edge_grows e.params.ring (length e.rx.got) (length f.rx.got) e.rx.read f.rx.read (cond e.rx.ended 1 0)
    (cond f.rx.ended 1 0) (65535 * 2 ^ e.scaling.rs) (65535 * 2 ^ f.scaling.rs)
    v.rx.read v.rx.room w.rx.read (omega (arith, w.rx.room, ring)) k.read k.got
    (ends_grow e.rx.ended f.rx.ended k.ended) (scaled_grows e.scaling.rs f.scaling.rs k.shift))

-- one entry more
edge_push : (params : HostParams) (h : List Entry) (x : Entry) → InRange params → Legal params h
    → MayFollow params h x → right_edge (replay params h) ≤ right_edge (replay params (h ++ x ∷ []))
edge_push params h x fits legal may =
    let e : Endpoint = replay params h in
    let same : replay params (h ++ x ∷ []) ≡ moved e x = replay_push params h x legal in
    let w : Valid (moved e x) =
    subst Valid same (valid_replay params (h ++ x ∷ []) fits (legal_push params h x legal may)) in
    subst (λ (f : Endpoint). right_edge e ≤ right_edge f) (sym same)
    (edge_keeps e (moved e x) (valid_replay params h fits legal) w (entry_moves params h x fits legal may).keeps)

at_most : (a b c : ℕ) → a ≤ b → b ≤ c → a ≤ c
at_most a b c p q = omega arith

edge_after : (params : HostParams) (h xs : List Entry) → InRange params → Legal params h → LegalAfter params h xs
    → right_edge (replay params h) ≤ right_edge (replay params (h ++ xs))
edge_after params h [] fits legal after =
    subst (λ (es : List Entry). right_edge (replay params h) ≤ right_edge (replay params es)) (sym (append-nil h))
    (omega arith)
edge_after params h (x ∷ xs) fits legal after =
    let rest : right_edge (replay params (h ++ x ∷ [])) ≤ right_edge (replay params ((h ++ x ∷ []) ++ xs)) =
    edge_after params (h ++ x ∷ []) xs fits (legal_push params h x legal after.0) after.1 in
    subst (λ (es : List Entry). right_edge (replay params h) ≤ right_edge (replay params es))
    (append_assoc h (x ∷ []) xs)
    (at_most _ _ _ (edge_push params h x fits legal after.0) rest)

-- the edge never moves left
pub edge_stays : (params : HostParams) (h stretch : List Entry) → InRange params → Legal params h
    → Legal params (h ++ stretch) → right_edge (replay params h) ≤ right_edge (replay params (h ++ stretch))
edge_stays params [] stretch fits legal all = absurd legal
edge_stays params (x ∷ xs) stretch fits legal all =
    edge_after params (x ∷ xs) stretch fits legal (legal_parts params x xs stretch all).1

-- ----- what a segment shows
-- A number and the multiple of 2^k below it.
rounded : (n k : ℕ) → (n / 2 ^ k * 2 ^ k ≤ n) × (n < n / 2 ^ k * 2 ^ k + 2 ^ k)
rounded n k =
    let whole : n % 2 ^ k + 2 ^ k * (n / 2 ^ k) ≡ n = mod-add-div n (2 ^ k) in
    let rest : n % 2 ^ k < 2 ^ k = mod-lt n (pow_pos k) in
    parts (n / 2 ^ k) (2 ^ k) (n % 2 ^ k) n whole rest
  where
    parts : (d p r n : ℕ) → r + p * d ≡ n → r < p → (d * p ≤ n) × (n < d * p + p)
    parts d p r n whole rest = (omega (arith, whole, turned), omega (arith, whole, turned, rest))
      where
        turned : p * d ≡ d * p
        turned = grind arith

field_offers : (e : Endpoint) (seg : Seg) → is_syn seg ≡ false → seg.head.window ≡ window_field e → OffersRoom e seg
field_offers e seg plain shows =
    let read : offers e seg ≡ window_field e * 2 ^ e.scaling.rs =
    ap (λ (b : Bool). cond b seg.head.window (seg.head.window * 2 ^ e.scaling.rs)) plain
    ∙ ap (λ (n : ℕ). n * 2 ^ e.scaling.rs) shows in
    let near = rounded (wnd e) e.scaling.rs in
    record { within = omega (arith, read, near.0); whole = λ p. omega (arith, read, near.1) }

some_room : (e : Endpoint) → syn_window_field e ≤ wnd e
some_room e = let one : 0 < 2 ^ e.scaling.rs = pow_pos e.scaling.rs in omega (arith, one)

syn_offers : (e after : Endpoint) (o : Option ℕ) → right_edge after ≡ right_edge e
    → next_place after.rx ≡ next_place e.rx → OffersRoom after (bare (syn_head e o))
syn_offers e after None edge next = record {
  within = omega (arith, edge, next, some_room e);
  whole = λ p. absurd (true≢false p);
}
syn_offers e after (Some first) edge next = record {
  within = omega (arith, edge, next, some_room e);
  whole = λ p. absurd (true≢false p);
}

no_syn : (b : Bool) → has (cond b 24 16) 2 ≡ false
no_syn true = refl
no_syn false = refl

abbrev P : (b e : Endpoint) → Seg → Type 0
P b e seg = is_rst seg ≡ false → OffersRoom e seg

each_offers : Shows P
each_offers = record {
  ack = λ b e r. field_offers e _ refl refl;
  reset = λ b e head rst plain none r. absurd (cc (rst, r));
  syn = λ e r. syn_offers e (record e { tx = past e.tx 1 }) e.peer refl refl;
  payload = λ e is r. field_offers _ _ (no_syn (eqb (data_len e) (waiting e.tx))) refl;
  probe = λ e is r. field_offers _ _ (no_syn (eqb 1 (waiting e.tx))) refl;
  fin = λ e t r. field_offers _ _ refl refl;
}

-- each segment that a legal history sent offers the room of its entry
pub offers_in_order : (params : HostParams) (h : List Entry) → Legal params h → OffersInOrder params h
offers_in_order params h legal =
    legal_induction params (OffersInOrder params)
    (λ x first. (subst (λ r. AllOfferRoom (replay params (x ∷ [])) (segments_in r)) (sym first.reply) tt, tt))
    (λ es x before so_far may. along_push _ [] es x so_far (last es x before may))
    h legal
  where
    last : (es : List Entry) (x : Entry) → Legal params es → MayFollow params es x
        → AllOfferRoom (replay params (es ++ x ∷ [])) (segments_in x.reply)
    last es x before may =
        subst (λ (e : Endpoint). AllOfferRoom e (segments_in x.reply)) (sym (replay_push params es x before))
        (all_as (P (replay params es) (moved (replay params es) x)) (AllOfferRoom (moved (replay params es) x)) tt
        (λ seg segs offered rest. (offered, rest)) (segments_in x.reply)
        (entry_shows P each_offers params es x may))

-- of two segments the later one shows an edge that is further left by what the shift rounds off at most
pub shown_stays : (params : HostParams) (h stretch : List Entry) (first second : Seg) → InRange params → Legal params h
    → Legal params (h ++ stretch) → OffersRoom (replay params h) first
    → OffersRoom (replay params (h ++ stretch)) second → is_syn second ≡ false
    → shown_edge (replay params h) first
    < shown_edge (replay params (h ++ stretch)) second + 2 ^ (replay params (h ++ stretch)).scaling.rs
shown_stays params h stretch first second fits legal all one two plain =
    between _ _ _ _ one.within (edge_stays params h stretch fits legal all) (two.whole plain)
  where
    between : (a b c d : ℕ) → a ≤ b → b ≤ c → c < d → a < d
    between a b c d p q r = omega arith

-- so what it ever showed is within the window ever after
pub shown_is_within : (params : HostParams) (h stretch : List Entry) (seg : Seg) → InRange params → Legal params h
    → Legal params (h ++ stretch) → OffersRoom (replay params h) seg
    → shown_edge (replay params h) seg ≤ right_edge (replay params (h ++ stretch))
shown_is_within params h stretch seg fits legal all one =
    at_most _ _ _ one.within (edge_stays params h stretch fits legal all)
