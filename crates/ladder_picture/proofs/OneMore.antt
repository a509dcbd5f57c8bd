-- The arrows of what passed, with one pass more.
use Rattle.std.proofs.Common.{◌≡◌, ℕ, zero, suc, ◌+◌, ◌<◌, ◌≤◌, ◌==◌, Bool, true, false, not, ◌&&◌, ◌||◌, List}
use Rattle.std.proofs.Common.{[], ◌∷◌, ◌++◌, length}
use Rattle.std.proofs.Common.{get_or, take}
use Rattle.std.proofs.Math.ListN.{set}
use Rattle.std.proofs.lemmas.List.{take_more}
use Rattle.std.proofs.lemmas.List.Concat.{flat_map-append}
use Rattle.std.proofs.Common.{map, flat_map, Option, Some, None, refl, sym, ap, subst, ◌∙◌, arith, append_assoc}
use Rattle.std.proofs.Common.{append-nil}
use Rattle.std.proofs.Common.{if◌then◌else◌, cond}
use Rattle.std.specs.Prelude.{is_some, nat_lt}
use Rattle.std.specs.List.{list_any, take_while}
use Rattle.std.proofs.lemmas.Bool.{and_parts}
use Rattle.std.proofs.lemmas.Bool.Decides.{nat_tests}
use Rattle.std.proofs.lemmas.List.{map-append, length-map}
use Rattle.std.proofs.lemmas.List.Sums.{take_while-cons}
use Rattle.tas_model.specs.declared.entry.FrameId.{FrameId}
use Rattle.ladder_picture.specs.declared.row.Fate.{Fate}
use Rattle.ladder_picture.specs.declared.row.Frame.{Frame}
use Rattle.ladder_picture.specs.declared.row.Framed.{Framed}
use Rattle.ladder_picture.specs.declared.row.Framed.TheVariants as framed
use Rattle.ladder_picture.specs.declared.rungs.Side.{Side}
use Rattle.ladder_picture.specs.declared.rungs.Side.TheVariants.{Left, Right}
use Rattle.ladder_picture.specs.declared.rungs.Rung.{Rung}
use Rattle.ladder_picture.specs.declared.joins.Arrival.{Arrival}
use Rattle.ladder_picture.specs.declared.joins.Arrows.{Arrows}
use Rattle.ladder_picture.specs.declared.joins.FrameKey.{FrameKey}
use Rattle.ladder_picture.specs.declared.joins.SentFrame.{SentFrame}
use Rattle.ladder_picture.specs.declared.joins.CameFrame.{CameFrame}
use Rattle.ladder_picture.specs.Arrows.{Pass, pass, passes, rung_passes, Sent, across, is_side, key_of, equal_key}
use Rattle.ladder_picture.specs.Arrows.{sends, arrival_in, arrival_at}
use Rattle.ladder_picture.specs.Arrows.{arrivals, sent_in, sent_arrows, came_in, came_arrows}
use Rattle.ladder_picture.specs.Joined.{AreOf, is_from, last_by, last_of, add_end, end_at, with_end, place_in}
use Rattle.ladder_picture.specs.Joined.{with_place}
use Rattle.ladder_picture.specs.Joined.{same_places}
use Rattle.ladder_picture.specs.Views.{seen_sent}

-- ----- sides and keys
pub side_exact : (a b : Side) → is_side a b ≡ true → a ≡ b
side_exact Left Left e = refl
side_exact Right Right e = refl
side_exact Left Right e = absurd (cc (e))
side_exact Right Left e = absurd (cc (e))

turned : (a b : Side) → is_side a (across b) ≡ is_side b (across a)
turned Left Left = refl
turned Left Right = refl
turned Right Left = refl
turned Right Right = refl

number_exact : (m n : ℕ) → (m == n) ≡ true → m ≡ n
number_exact m n e = grind (arith, nat_tests, e)

number_flip : (m n : ℕ) → (m == n) ≡ (n == m)
number_flip m n = grind (arith, nat_tests)

pub key_exact : (a b : FrameKey) → equal_key a b ≡ true → a ≡ b
key_exact a b e =
    let one = and_parts (a.host == b.host) (a.flow == b.flow && a.number == b.number) e in
    let two = and_parts (a.flow == b.flow) (a.number == b.number) one.1 in
    same a b (number_exact a.host b.host one.0) (number_exact a.flow b.flow two.0)
    (number_exact a.number b.number two.1)
  where
    same : (a b : FrameKey) → a.host ≡ b.host → a.flow ≡ b.flow → a.number ≡ b.number → a ≡ b
    same a b e1 e2 e3 =
        ap (λ (n : ℕ). record { host = n; flow = a.flow; number = a.number }) e1
        ∙ (ap (λ (n : ℕ). record { host = b.host; flow = n; number = a.number }) e2
        ∙ ap (λ (n : ℕ). record { host = b.host; flow = b.flow; number = n }) e3)

key_flip : (a b : FrameKey) → equal_key a b ≡ equal_key b a
key_flip a b = rw (number_flip a.host b.host, number_flip a.flow b.flow, number_flip a.number b.number) refl

-- ----- arrivals
pub arrivals_cons : (s : Side) (k : FrameKey) (q : Pass) (qs : List Pass)
    → arrivals s k (q ∷ qs) ≡ (if sends s k q then [] else arrival_at s k q ++ arrivals s k qs)
arrivals_cons s k q qs =
    ap (flat_map (arrival_at s k)) (take_while-cons (λ (p : Pass). not (sends s k p)) q qs)
    ∙ by (sends s k q) (take_while (λ (p : Pass). not (sends s k p)) qs)
  where
    by : (b : Bool) (w : List Pass) → flat_map (arrival_at s k) (cond (not b) (q ∷ w) [])
        ≡ (if b then [] else arrival_at s k q ++ flat_map (arrival_at s k) w)
    by true w = refl
    by false w = refl

-- what one pass more brings
abbrev brought : (any sent : Bool) → List Arrival → List Arrival
brought any sent a = if any then [] else if sent then [] else a

more_arrivals : (s : Side) (k : FrameKey) (ps : List Pass) (p : Pass)
    → arrivals s k (ps ++ p ∷ [])
    ≡ arrivals s k ps ++ brought (list_any (sends s k) ps) (sends s k p) (arrival_at s k p)
more_arrivals s k [] p = arrivals_cons s k p [] ∙ by (sends s k p) where
  by : (b : Bool) → (if b then [] else arrival_at s k p ++ []) ≡ (if b then [] else arrival_at s k p)
  by true = refl
  by false = append-nil (arrival_at s k p)
more_arrivals s k (q ∷ qs) p =
    arrivals_cons s k q (qs ++ p ∷ [])
    ∙ (by (sends s k q) (more_arrivals s k qs p)
    ∙ ap (λ (l : List Arrival). l ++ brought (list_any (sends s k) (q ∷ qs)) (sends s k p) (arrival_at s k p))
    (sym (arrivals_cons s k q qs)))
  where
    by : (b : Bool)
        → arrivals s k (qs ++ p ∷ [])
        ≡ arrivals s k qs ++ brought (list_any (sends s k) qs) (sends s k p) (arrival_at s k p)
        → (if b then [] else arrival_at s k q ++ arrivals s k (qs ++ p ∷ []))
        ≡ (if b then [] else arrival_at s k q ++ arrivals s k qs)
        ++ brought (b || list_any (sends s k) qs) (sends s k p) (arrival_at s k p)
    by true e = refl
    by false e = ap (λ (l : List Arrival). arrival_at s k q ++ l) e
        ∙ sym (append_assoc (arrival_at s k q) (arrivals s k qs) _)

-- where it brings nothing
none_brought : (any sent : Bool) → brought any sent [] ≡ []
none_brought true sent = refl
none_brought false true = refl
none_brought false false = refl

same_arrivals : (s : Side) (k : FrameKey) (ps : List Pass) (p : Pass) → arrival_at s k p ≡ []
    → arrivals s k (ps ++ p ∷ []) ≡ arrivals s k ps
same_arrivals s k ps p e =
    more_arrivals s k ps p
    ∙ (ap (λ (l : List Arrival). arrivals s k ps ++ l)
    (ap (brought (list_any (sends s k) ps) (sends s k p)) e ∙ none_brought (list_any (sends s k) ps) (sends s k p))
    ∙ append-nil (arrivals s k ps))

-- ----- arrows of what was sent
-- a pass in which nothing comes
pub sent_more : (ps : List Pass) (p : Pass) → ((s : Side) (k : FrameKey) → arrival_at s k p ≡ [])
    → sent_arrows (ps ++ p ∷ []) ≡ sent_arrows ps ++ sent_in p.side p.y [] p.framed
sent_more [] p none = append-nil (sent_in p.side p.y [] p.framed)
sent_more (q ∷ qs) p none =
    ap (λ (l : List Sent). sent_in q.side q.y (qs ++ p ∷ []) q.framed ++ l) (sent_more qs p none)
    ∙ (ap (λ (l : List Sent). l ++ (sent_arrows qs ++ sent_in p.side p.y [] p.framed)) (by q.framed)
    ∙ sym (append_assoc (sent_in q.side q.y qs q.framed) (sent_arrows qs) (sent_in p.side p.y [] p.framed)))
  where
    by : (f : Framed) → sent_in q.side q.y (qs ++ p ∷ []) f ≡ sent_in q.side q.y qs f
    by (framed.Sent f) = ap (λ (l : List Arrival). record { sender = q.side; y = q.y; frame = f; ends = l } ∷ [])
        (same_arrivals q.side (key_of f.id) qs p (none q.side (key_of f.id)))
    by (framed.Came f) = refl
    by (framed.Met id fate) = refl
    by framed.Nothing = refl

-- ----- the latest ones
some_last : (o : Option ℕ) (b : Bool) → is_some (last_by o b) ≡ (b || is_some o)
some_last (Some n) true = refl
some_last (Some n) false = refl
some_last None true = refl
some_last None false = refl

pub any_last : (s : Side) (k : FrameKey) (ps : List Pass)
    → is_some (last_of (is_from s k) (sent_arrows ps)) ≡ list_any (sends s k) ps
any_last s k [] = refl
any_last s k (q ∷ qs) = by q.framed (any_last s k qs) where
  none : (b c : Bool) → c ≡ (b && false || c)
  none true c = refl
  none false c = refl

  by : (f : Framed) → is_some (last_of (is_from s k) (sent_arrows qs)) ≡ list_any (sends s k) qs
      → is_some (last_of (is_from s k) (sent_arrows (pass q.side q.y f ∷ qs)))
      ≡ list_any (sends s k) (pass q.side q.y f ∷ qs)
  by (framed.Sent f) e =
      some_last (last_of (is_from s k) (sent_arrows qs)) (is_side q.side s && equal_key (key_of f.id) k)
      ∙ ap (λ (b : Bool). is_side q.side s && equal_key (key_of f.id) k || b) e
  by (framed.Came f) e = e ∙ none (is_side q.side s) (list_any (sends s k) qs)
  by (framed.Met id fate) e = e ∙ none (is_side q.side s) (list_any (sends s k) qs)
  by framed.Nothing e = e ∙ none (is_side q.side s) (list_any (sends s k) qs)

last_more : {A : Type 0} (t : A → Bool) (xs : List A) (x : A)
    → last_of t (xs ++ x ∷ []) ≡ (if t x then Some (length xs) else last_of t xs)
last_more t [] x = by (t x) where
  by : (b : Bool) → last_by None b ≡ (if b then Some 0 else None)
  by true = refl
  by false = refl
last_more t (y ∷ ys) x = ap (λ (o : Option ℕ). last_by o (t y)) (last_more t ys x) ∙ by (t x) where
  by : (b : Bool) → last_by (if b then Some (length ys) else last_of t ys) (t y)
      ≡ (if b then Some (length (y ∷ ys)) else last_by (last_of t ys) (t y))
  by true = refl
  by false = refl

ended_last : (s : Side) (k : FrameKey) (n : ℕ) (a : Arrival) (xs : List Sent)
    → last_of (is_from s k) (end_at n a xs) ≡ last_of (is_from s k) xs
ended_last s k n a [] = refl
ended_last s k zero a (x ∷ xs) = refl
ended_last s k (suc n) a (x ∷ xs) = ap (λ (o : Option ℕ). last_by o (is_from s k x)) (ended_last s k n a xs)

same_last : (s : Side) (k : FrameKey) (o : Option ℕ) (a : Arrival) (xs : List Sent)
    → last_of (is_from s k) (with_end o a xs) ≡ last_of (is_from s k) xs
same_last s k None a xs = refl
same_last s k (Some n) a xs = ended_last s k n a xs

-- ----- a frame that comes
-- it comes from a side alone, and is no other frame
abbrev pub Comes : Pass → (sender : Side) → FrameKey → Arrival → Type 0
Comes p sender key a = (s : Side) (k : FrameKey)
    → (sends s k p ≡ false) × (arrival_at s k p ≡ (if is_side s sender && equal_key k key then a ∷ [] else []))

abbrev pub sent_as : (s : Side) (y : ℕ) (f : Frame) → List Arrival → Sent
sent_as s y f ends = record { sender = s; y = y; frame = f; ends = ends }

-- the first arrow gains the end where it is the latest one of the frame
first_ends : (o : Option ℕ) (any b : Bool) (s : Side) (y : ℕ) (f : Frame) (ends now : List Arrival) (a : Arrival)
    → (b ≡ true → is_some o ≡ any) → now ≡ ends ++ brought any false (if b then a ∷ [] else [])
    → sent_as s y f now
    ≡ (if is_some o then sent_as s y f ends else if b then sent_as s y f (ends ++ a ∷ []) else sent_as s y f ends)
first_ends (Some n) true b s y f ends now a same e = ap (sent_as s y f) (e ∙ append-nil ends)
first_ends None true false s y f ends now a same e = ap (sent_as s y f) (e ∙ append-nil ends)
first_ends None true true s y f ends now a same e = absurd (let h = same refl in cc (h))
first_ends (Some n) false true s y f ends now a same e = absurd (let h = same refl in cc (h))
first_ends (Some n) false false s y f ends now a same e = ap (sent_as s y f) (e ∙ append-nil ends)
first_ends None false true s y f ends now a same e = ap (sent_as s y f) e
first_ends None false false s y f ends now a same e = ap (sent_as s y f) (e ∙ append-nil ends)

first_step : (o : Option ℕ) (b : Bool) (x now : Sent) (xs after : List Sent) (a : Arrival)
    → now ≡ (if is_some o then x else if b then add_end a x else x) → after ≡ with_end o a xs
    → now ∷ after ≡ with_end (last_by o b) a (x ∷ xs)
first_step (Some n) b x now xs after a e h = cc (e, h)
first_step None true x now xs after a e h = cc (e, h)
first_step None false x now xs after a e h = cc (e, h)

pub sent_ends : (ps : List Pass) (p : Pass) (sender : Side) (key : FrameKey) (a : Arrival) → Comes p sender key a
    → ((side : Side) (y : ℕ) → sent_in side y [] p.framed ≡ [])
    → sent_arrows (ps ++ p ∷ []) ≡ with_end (last_of (is_from sender key) (sent_arrows ps)) a (sent_arrows ps)
sent_ends [] p sender key a comes none = append-nil (sent_in p.side p.y [] p.framed) ∙ none p.side p.y
sent_ends (q ∷ qs) p sender key a comes none = by q.framed (sent_ends qs p sender key a comes none) where
  now : (f : Frame) → arrivals q.side (key_of f.id) (qs ++ p ∷ [])
      ≡ arrivals q.side (key_of f.id) qs ++ brought (list_any (sends q.side (key_of f.id)) qs) false
      (if is_side q.side sender && equal_key (key_of f.id) key then a ∷ [] else [])
  now f =
      let facts = comes q.side (key_of f.id) in
      more_arrivals q.side (key_of f.id) qs p
      ∙ rw (facts.0, facts.1) refl

  same : (f : Frame) → (is_side q.side sender && equal_key (key_of f.id) key) ≡ true
      → is_some (last_of (is_from sender key) (sent_arrows qs)) ≡ list_any (sends q.side (key_of f.id)) qs
  same f e =
      let parts = and_parts (is_side q.side sender) (equal_key (key_of f.id) key) e in
      let side = side_exact q.side sender parts.0 in
      let is = key_exact (key_of f.id) key parts.1 in
      any_last sender key qs
      ∙ (ap (λ (s : Side). list_any (sends s key) qs) (sym side)
      ∙ ap (λ (k : FrameKey). list_any (sends q.side k) qs) (sym is))

  by : (f : Framed)
      → sent_arrows (qs ++ p ∷ []) ≡ with_end (last_of (is_from sender key) (sent_arrows qs)) a (sent_arrows qs)
      → sent_in q.side q.y (qs ++ p ∷ []) f ++ sent_arrows (qs ++ p ∷ [])
      ≡ with_end (last_of (is_from sender key) (sent_in q.side q.y qs f ++ sent_arrows qs)) a
      (sent_in q.side q.y qs f ++ sent_arrows qs)
  by (framed.Sent f) e =
      first_step (last_of (is_from sender key) (sent_arrows qs))
      (is_side q.side sender && equal_key (key_of f.id) key)
      (sent_as q.side q.y f (arrivals q.side (key_of f.id) qs))
      (sent_as q.side q.y f (arrivals q.side (key_of f.id) (qs ++ p ∷ []))) (sent_arrows qs)
      (sent_arrows (qs ++ p ∷ []))
      a (first_ends (last_of (is_from sender key) (sent_arrows qs)) (list_any (sends q.side (key_of f.id)) qs)
      (is_side q.side sender && equal_key (key_of f.id) key) q.side q.y f (arrivals q.side (key_of f.id) qs)
      (arrivals q.side (key_of f.id) (qs ++ p ∷ [])) a (same f) (now f)) e
  by (framed.Came f) e = e
  by (framed.Met id fate) e = e
  by framed.Nothing e = e

-- ----- arrows of what came
pub came_more : (earlier ps : List Pass) (p : Pass)
    → came_arrows earlier (ps ++ p ∷ []) ≡ came_arrows earlier ps ++ came_in (earlier ++ ps) p.side p.y p.framed
came_more earlier [] p =
    append-nil (came_in earlier p.side p.y p.framed)
    ∙ ap (λ (l : List Pass). came_in l p.side p.y p.framed) (sym (append-nil earlier))
came_more earlier (q ∷ qs) p =
    ap (λ (l : List CameFrame). came_in earlier q.side q.y q.framed ++ l) (came_more (earlier ++ q ∷ []) qs p)
    ∙ (sym (append_assoc (came_in earlier q.side q.y q.framed) (came_arrows (earlier ++ q ∷ []) qs) _)
    ∙ ap (λ (l : List Pass). (came_in earlier q.side q.y q.framed ++ came_arrows (earlier ++ q ∷ []) qs)
    ++ came_in l p.side p.y p.framed) (append_assoc earlier (q ∷ []) qs))

-- ----- what is known
pub no_arrival : (b : Bool) → ◌≡◌ {A = List Arrival} (if b then [] else []) []
no_arrival true = refl
no_arrival false = refl

pub nothing_taken : (a : Arrows) (ps : List Pass) (side : Side) (y : ℕ) → AreOf a ps
    → AreOf a (ps ++ pass side y framed.Nothing ∷ [])
nothing_taken a ps side y are =
    let same = sent_more ps (pass side y framed.Nothing) (λ s k. no_arrival (is_side side (across s))) ∙ append-nil
    (sent_arrows ps) in
    record {
      sent = are.sent ∙ sym same;
      came = are.came ∙ sym (came_more [] ps (pass side y framed.Nothing) ∙ append-nil (came_arrows [] ps));
      places = λ s k. are.places s k ∙ ap (last_of (is_from s k)) (sym same);
    }

pub sent_taken : (a b : Arrows) (ps : List Pass) (side : Side) (y : ℕ) (f : Frame) (x : SentFrame) → AreOf a ps
    → b.sent.items ≡ a.sent.items ++ x ∷ [] → seen_sent x ≡ sent_as side y f [] → b.came.items ≡ a.came.items
    → with_place a b side (key_of f.id) (length a.sent.items) → AreOf b (ps ++ pass side y (framed.Sent f) ∷ [])
sent_taken a b ps side y f x are sent is came place =
    let p = pass side y (framed.Sent f) in
    let more = sent_more ps p (λ s k. no_arrival (is_side side (across s))) in
    let seen : map seen_sent b.sent.items ≡ sent_arrows ps ++ sent_as side y f [] ∷ [] =
    ap (map seen_sent) sent
    ∙ (map-append seen_sent a.sent.items (x ∷ [])
    ∙ (ap (λ (l : List Sent). l ++ seen_sent x ∷ []) are.sent
    ∙ ap (λ (s : Sent). sent_arrows ps ++ s ∷ []) is)) in
    let count : length a.sent.items ≡ length (sent_arrows ps) =
    sym (length-map a.sent.items seen_sent) ∙ ap (λ (l : List Sent). length l) are.sent in
    record {
      sent = seen ∙ sym more;
      came = came ∙ (are.came ∙ sym (came_more [] ps p ∙ append-nil (came_arrows [] ps)));
      places = λ s k.
          place s k
          ∙ (ap (λ (o : Option ℕ). if is_side side s && equal_key (key_of f.id) k then Some (length a.sent.items)
          else o)
          (are.places s k)
          ∙ (ap (λ (n : ℕ). if is_side side s && equal_key (key_of f.id) k then Some n
          else last_of (is_from s k) (sent_arrows ps)) count
          ∙ (sym (last_more (is_from s k) (sent_arrows ps) (sent_as side y f []))
          ∙ ap (last_of (is_from s k)) (sym more))));
    }

came_taken : (a b : Arrows) (ps : List Pass) (p : Pass) (key : FrameKey) (arrival : Arrival) → AreOf a ps
    → Comes p (across p.side) key arrival → ((side : Side) (y : ℕ) → sent_in side y [] p.framed ≡ [])
    → map seen_sent b.sent.items ≡ with_end (place_in a (across p.side) key) arrival (map seen_sent a.sent.items)
    → same_places a b → b.came.items ≡ a.came.items ++ came_in ps p.side p.y p.framed → AreOf b (ps ++ p ∷ [])
came_taken a b ps p key arrival are comes none sent places came =
    let o = last_of (is_from (across p.side) key) (sent_arrows ps) in
    let now : map seen_sent b.sent.items ≡ with_end o arrival (sent_arrows ps) =
    sent
    ∙ (ap (λ (l : List Sent). with_end (place_in a (across p.side) key) arrival l) are.sent
    ∙ ap (λ (o : Option ℕ). with_end o arrival (sent_arrows ps)) (are.places (across p.side) key)) in
    let more = sent_ends ps p (across p.side) key arrival comes none in
    record {
      sent = now ∙ sym more;
      came = came ∙ (ap (λ (l : List CameFrame). l ++ came_in ps p.side p.y p.framed) are.came ∙ sym
          (came_more [] ps p));
      places = λ s k.
          places s k
          ∙ (are.places s k
          ∙ (sym (same_last s k o arrival (sent_arrows ps)) ∙ ap (last_of (is_from s k)) (sym more)));
    }

-- a frame comes to one side, and is one frame
pub comes_by : (side : Side) (y : ℕ) (f : Framed) (key : FrameKey) (a : Arrival)
    → ((k : FrameKey) → arrival_in y k f ≡ (if equal_key key k then a ∷ [] else []))
    → ((s : Side) (k : FrameKey) → sends s k (pass side y f) ≡ false) → Comes (pass side y f) (across side) key a
comes_by side y f key a arrives no_send = λ s k. (no_send s k, both s k) where
  by : (b c : Bool) → (if b then (if c then a ∷ [] else []) else []) ≡ (if b && c then a ∷ [] else [])
  by true c = refl
  by false c = refl

  both : (s : Side) (k : FrameKey) → arrival_at s k (pass side y f)
      ≡ (if is_side s (across side) && equal_key k key then a ∷ [] else [])
  both s k = rw (arrives k, turned side s, key_flip key k) (by (is_side s (across side)) (equal_key k key))

pub never : (b : Bool) → (b && false) ≡ false
never true = refl
never false = refl

abbrev pub arrival_of : (y : ℕ) → Option Fate → FrameId → Arrival
arrival_of y fate id = record { y = y; fate = fate; again = nat_lt 0 id.copy }

pub met_taken : (a b : Arrows) (ps : List Pass) (side : Side) (y : ℕ) (id : FrameId) (fate : Fate) → AreOf a ps
    → map seen_sent b.sent.items
    ≡ with_end (place_in a (across side) (key_of id)) (arrival_of y (Some fate) id) (map seen_sent a.sent.items)
    → same_places a b → b.came.items ≡ a.came.items → AreOf b (ps ++ pass side y (framed.Met id fate) ∷ [])
met_taken a b ps side y id fate are sent places came =
    came_taken a b ps (pass side y (framed.Met id fate)) (key_of id) (arrival_of y (Some fate) id) are
    (comes_by side y (framed.Met id fate) (key_of id) (arrival_of y (Some fate) id) (λ k. refl)
    (λ s k. never (is_side side s)))
    (λ side y. refl) sent places (came ∙ sym (append-nil a.came.items))

pub had_taken : (a b : Arrows) (ps : List Pass) (side : Side) (y : ℕ) (f : Frame) (found : Bool) → AreOf a ps
    → map seen_sent b.sent.items
    ≡ with_end (place_in a (across side) (key_of f.id)) (arrival_of y None f.id) (map seen_sent a.sent.items)
    → same_places a b → found ≡ is_some (place_in a (across side) (key_of f.id))
    → b.came.items
    ≡ a.came.items ++ (if found then [] else record { sender = across side; y = y; frame = f } ∷ [])
    → AreOf b (ps ++ pass side y (framed.Came f) ∷ [])
had_taken a b ps side y f found are sent places is came =
    let known : found ≡ list_any (sends (across side) (key_of f.id)) ps =
    is ∙ (ap (λ (o : Option ℕ). is_some o) (are.places (across side) (key_of f.id)) ∙ any_last (across side)
    (key_of f.id) ps) in
    came_taken a b ps (pass side y (framed.Came f)) (key_of f.id) (arrival_of y None f.id) are
    (comes_by side y (framed.Came f) (key_of f.id) (arrival_of y None f.id) (λ k. refl)
    (λ s k. never (is_side side s)))
    (λ side y. refl) sent places
    (came ∙ ap (λ (b : Bool). a.came.items ++ (if b then [] else record { sender = across side; y = y; frame = f } ∷
    []))
    known)

-- ----- parts of the arrows
-- beside the places nothing counts
pub placed_alike : (a b now : Arrows) (side : Side) (key key' : FrameKey) (n n' : ℕ) → a.left ≡ b.left
    → a.right ≡ b.right → key ≡ key' → n ≡ n' → with_place b now side key n → with_place a now side key' n'
placed_alike a b now side key key' n n' left right same_key same_n place =
    subst (λ (k : FrameKey). with_place a now side k n') same_key
    (subst (with_place a now side key) same_n (λ s k. by s k))
  where
    old : (s : Side) (k : FrameKey) → place_in b s k ≡ place_in a s k
    old Left k = rw left refl
    old Right k = rw right refl

    by : (s : Side) (k : FrameKey)
        → place_in now s k ≡ (if is_side side s && equal_key key k then Some n else place_in a s k)
    by s k = place s k ∙ ap (λ (o : Option ℕ). if is_side side s && equal_key key k then Some n else o) (old s k)

pub same_again : (a b now : Arrows) → b.left ≡ now.left → b.right ≡ now.right → same_places a b → same_places a now
same_again a b now left right same = λ s k. by s k where
  new : (s : Side) (k : FrameKey) → place_in now s k ≡ place_in b s k
  new Left k = rw left refl
  new Right k = rw right refl

  by : (s : Side) (k : FrameKey) → place_in now s k ≡ place_in a s k
  by s k = new s k ∙ same s k

-- one rung more
pub rung_taken : (a : Arrows) (rungs : List Rung) (i : ℕ) (d : Rung) → i < length rungs
    → AreOf a (passes (take i rungs) ++ rung_passes (get_or rungs i d)) → AreOf a (passes (take (i + 1) rungs))
rung_taken a rungs i d below are =
    subst (AreOf a) (sym (ap passes (take_more rungs i d below)
    ∙ (flat_map-append rung_passes (take i rungs) (get_or rungs i d ∷ [])
    ∙ ap (λ (l : List Pass). passes (take i rungs) ++ l) (append-nil (rung_passes (get_or rungs i d)))))) are

-- the end of an arrow where it stands
pub end_set : (items : List SentFrame) (n : ℕ) (y x : SentFrame) (a : Arrival) → n < length items
    → y ≡ get_or items n y → seen_sent x ≡ add_end a (seen_sent y)
    → map seen_sent (set items n x) ≡ end_at n a (map seen_sent items)
end_set [] n y x a h is e = absurd (omega (arith, h))
end_set (z ∷ zs) zero y x a h is e =
    ap (λ (s : Sent). s ∷ map seen_sent zs) (e ∙ ap (λ (z : SentFrame). add_end a (seen_sent z)) is)
end_set (z ∷ zs) (suc n) y x a h is e =
    ap (λ (l : List Sent). seen_sent z ∷ l) (end_set zs n y x a (omega (arith, h)) is e)

pub end_past : (items : List SentFrame) (n : ℕ) (a : Arrival) → length items ≤ n
    → map seen_sent items ≡ end_at n a (map seen_sent items)
end_past [] n a h = refl
end_past (y ∷ ys) zero a h = absurd (omega (arith, h))
end_past (y ∷ ys) (suc n) a h = ap (λ (l : List Sent). seen_sent y ∷ l) (end_past ys n a (omega (arith, h)))

abbrev pub with_ends : SentFrame → List Arrival → Sent
with_ends x l = record { sender = x.sender; y = x.y; frame = x.frame; ends = l }

pub came_one : (y : ℕ) (f : Frame) (now before : List CameFrame) (side sender : Side) → now ≡ before → side ≡ sender
    → now ++ record { sender = side; y = y; frame = f } ∷ []
    ≡ before ++ record { sender = sender; y = y; frame = f } ∷ []
came_one y f now before side sender e h =
    ap (λ (l : List CameFrame). l ++ record { sender = side; y = y; frame = f } ∷ []) e
    ∙ ap (λ (s : Side). before ++ record { sender = s; y = y; frame = f } ∷ []) h
