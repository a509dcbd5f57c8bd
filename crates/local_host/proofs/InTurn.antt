-- Frames that cores take one after the other.
use Rattle.std.proofs.Common.{◌≡◌, ℕ, ◌++◌, List, [], ◌∷◌, set, map, Bool, true, false}
use Rattle.std.proofs.Common.{cond, ◌+◌, ◌<◌, take, length}
use Rattle.std.proofs.Common.{Some, is_some, slice_get, get_or, refl, sym, ap, subst, ◌∙◌, append_assoc}
use Rattle.std.proofs.Common.{Option}
use Rattle.std.specs.Prelude.{IsPermutation}
use Rattle.std.proofs.lemmas.List.{map-append, take_more}
use Rattle.std.proofs.lemmas.List.Elements.{All-append, All-nil, All-cons, All-push}
use Rattle.std.proofs.lemmas.List.Sorted.{IsPermutation-refl, IsPermutation-trans, IsPermutation-cons}
use Rattle.std.proofs.lemmas.List.Sorted.{IsPermutation-middle, IsPermutation-append, IsPermutation-append_comm}
use Rattle.host_rounds.specs.Hosts.{Live}
use Rattle.host_rounds.specs.Deliveries.{Packet, Arrival}
use Rattle.core_rounds.specs.CoreTicks.{Taken, is_frame}
use Rattle.local_host.specs.declared.attempts.Attempt.{Attempt}
use Rattle.local_host.specs.SideWork.{IsSideWork}
use Rattle.local_host.specs.Trying.{AreAnswered}
use Rattle.local_host.proofs.Trying.{none_made}
use Rattle.local_host.specs.declared.arrival.Arrival as code
use Rattle.local_host.specs.Arriving.{arrival_in}
use Rattle.local_host.specs.Lanes.{packet_taken, is_taken, worked_frame}
use Rattle.local_host.specs.Handing.{place_in, by_core, flow_taken, AreDistinct, IsSteered, TookSome, TookFrames}
use Rattle.local_host.proofs.LaneLists.{same_filter, set_same}
use Rattle.local_host.proofs.OwnCores.{steered_last, order_still, even_more}
use Rattle.local_host.proofs.LaneWork.{frame_done, fold_both}
use Rattle.local_host.proofs.CoreTaking.{order_leads, place_below, there}

abbrev taken_in : List Taken → List Arrival
taken_in order = map (λ (x : Taken). x.arrival) order

abbrev IsOf : List Live → Taken → Type 0
IsOf F x = is_some (place_in F x.arrival.packet) ≡ true

pub none_yet : (t : ℕ) (F : List Live) → TookSome t F [] [] [] F
none_yet t F = record {
  even = refl;
  order = [];
  steered = All-nil (IsSteered [] []);
  shared = IsPermutation-refl [];
  known = All-nil (IsOf F);
  made = refl;
}

-- a frame leads to where it led
pub led_still : {t : ℕ} {old now : List Live} {cores : List ℕ} {frames rest : List Arrival} (p : Packet)
    → TookSome t old cores frames rest now → place_in now p ≡ place_in old p
led_still {t} {old} {now} p some =
    subst (λ (F : List Live). place_in F p ≡ place_in old p) some.made (order_leads t some.order old p some.known)

-- one more was taken
pub some_taken : {t : ℕ} {old now : List Live} {cores : List ℕ} {frames rest : List Arrival} (core place : ℕ)
    (x : Arrival) (l : Live) → slice_get now place ≡ Some l → place_in now x.packet ≡ Some place
    → TookSome t old cores frames rest now
    → TookSome t old (cores ++ core ∷ []) (frames ++ x ∷ []) rest
    (set now place (packet_taken core t x.frame x.packet l))
some_taken {t} {old} {now} {cores} {frames} {rest} core place x l here led some = record {
  even = even_more cores frames core x some.even;
  order = some.order ++ y ∷ [];
  steered = All-push (IsSteered (cores ++ core ∷ []) (frames ++ x ∷ [])) some.order y
      (order_still some.order core x some.steered) (steered_last cores frames core x some.even);
  shared = subst (λ (ys : List Arrival). IsPermutation (ys ++ rest) (frames ++ x ∷ []))
      (sym (map-append (λ (z : Taken). z.arrival) some.order (y ∷ [])))
      (subst (λ (ys : List Arrival). IsPermutation ys (frames ++ x ∷ []))
      (sym (append_assoc before (x ∷ []) rest))
      (IsPermutation-trans (before ++ x ∷ rest) (x ∷ (before ++ rest)) (frames ++ x ∷ [])
      (IsPermutation-middle before x rest)
      (IsPermutation-trans (x ∷ (before ++ rest)) (x ∷ frames) (frames ++ x ∷ [])
      (IsPermutation-cons x (before ++ rest) frames some.shared) (IsPermutation-append_comm (x ∷ []) frames))));
  known = All-append (IsOf old) some.order (y ∷ []) some.known
      (All-cons (IsOf old) y [] (ap is_some (sym (led_still x.packet some) ∙ led)) (All-nil (IsOf old)));
  made = fold_both (flow_taken t) old some.order (y ∷ [])
      ∙ (ap (λ (F : List Live). flow_taken t F y) some.made ∙ frame_done core t place x.frame x.packet now l here led);
} where
  y : Taken
  y = by_core core x

  before : List Arrival
  before = taken_in some.order

-- one more is left
pub some_left : {t : ℕ} {old now : List Live} {cores : List ℕ} {frames rest : List Arrival} (core : ℕ) (x : Arrival)
    → TookSome t old cores frames rest now
    → TookSome t old (cores ++ core ∷ []) (frames ++ x ∷ []) (rest ++ x ∷ []) now
some_left {t} {old} {now} {cores} {frames} {rest} core x some = record {
  even = even_more cores frames core x some.even;
  order = some.order;
  steered = order_still some.order core x some.steered;
  shared = subst (λ (ys : List Arrival). IsPermutation ys (frames ++ x ∷ []))
      (append_assoc (taken_in some.order) rest (x ∷ []))
      (IsPermutation-append (taken_in some.order ++ rest) frames (x ∷ []) (x ∷ []) some.shared
      (IsPermutation-refl (x ∷ [])));
  known = some.known;
  made = some.made;
}

-- A core looked at the flow at a place, and it took the frame
pub turn_taken : {t : ℕ} {old now : List Live} {cores : List ℕ} {frames rest : List Arrival} (core place : ℕ)
    (x : Arrival) (d after : Live) (taken : Bool) → place_in now x.packet ≡ Some place
    → taken ≡ is_taken x.packet (get_or now place d) → taken ≡ true
    → after ≡ worked_frame core t x (get_or now place d) → TookSome t old cores frames rest now
    → TookSome t old (cores ++ core ∷ []) (frames ++ x ∷ []) rest (set now place after)
turn_taken {t} {old} {now} {cores} {frames} {rest} core place x d after taken led is took made some =
    let l : Live = get_or now place d in
    let same : after ≡ packet_taken core t x.frame x.packet l =
    made ∙ ap (λ (b : Bool). cond b (packet_taken core t x.frame x.packet l) l) (sym is ∙ took) in
    subst (λ (m : Live). TookSome t old (cores ++ core ∷ []) (frames ++ x ∷ []) rest (set now place m)) (sym same)
    (some_taken core place x l (there now place d (place_below x.packet now place led)) led some)

-- or left the flow as it was.
pub turn_left : (core t place : ℕ) (now : List Live) (x : Arrival) (d after : Live) (taken : Bool)
    → place_in now x.packet ≡ Some place → taken ≡ is_taken x.packet (get_or now place d) → taken ≡ false
    → after ≡ worked_frame core t x (get_or now place d) → set now place after ≡ now
turn_left core t place now x d after taken led is left made =
    let l : Live = get_or now place d in
    let same : after ≡ l =
    made ∙ ap (λ (b : Bool). cond b (packet_taken core t x.frame x.packet l) l) (sym is ∙ left) in
    ap (set now place) same ∙ set_same now place l (there now place d (place_below x.packet now place led))

-- of the frames that came, the next
pub some_more : {t : ℕ} {old now : List Live} {rest : List Arrival} (cores : List ℕ) (xs : List code.Arrival)
    (k : ℕ) (n : ℕ) (d : code.Arrival) → length cores ≡ length xs → k < length xs
    → TookSome t old (take k cores ++ get_or cores k n ∷ [])
    (map arrival_in (take k xs) ++ arrival_in (get_or xs k d) ∷ []) rest now
    → TookSome t old (take (k + 1) cores) (map arrival_in (take (k + 1) xs)) rest now
some_more {t} {old} {now} {rest} cores xs k n d even low is =
    subst (λ (ys : List Arrival). TookSome t old (take (k + 1) cores) ys rest now)
    (sym (ap (map arrival_in) (take_more xs k d low) ∙ map-append arrival_in (take k xs) (get_or xs k d ∷ [])))
    (subst (λ (cs : List ℕ). TookSome t old cs (map arrival_in (take k xs) ++ arrival_in (get_or xs k d) ∷ []) rest now)
    (sym (take_more cores k n (subst (λ (len : ℕ). k < len) (sym even) low))) is)

-- all frames came
pub all_taken : {t : ℕ} {old now : List Live} {cores : List ℕ} {frames rest : List Arrival} → AreDistinct frames
    → TookSome t old cores frames rest now → TookFrames t old cores frames rest now
all_taken {t} {old} {now} {cores} {frames} {rest} distinct some = record {
  order = some.order;
  steered = some.steered;
  shared = λ frame. same_filter (is_frame frame) (taken_in some.order ++ rest) frames some.shared (distinct frame);
  known = some.known;
  made = some.made;
}

-- and so it is with those of a list's slice, where memory was enough
pub turned : (t : ℕ) (old slice now after : List Live) (cores : List ℕ) (frames rest : List Arrival)
    → AreDistinct frames → slice ≡ old → after ≡ now → TookSome t slice cores frames rest now
    → TookFrames t old cores frames rest after
turned t old slice now after cores frames rest distinct before behind some =
    subst (TookFrames t old cores frames rest) (sym behind)
    (subst (λ (F : List Live). TookFrames t F cores frames rest now) before (all_taken distinct some))

-- and no attempt is made
pub side_in_turn : (t : ℕ) (old slice now after : List Live) (cores : List ℕ) (frames rest : List Arrival)
    (given : List (Option Attempt)) → AreDistinct frames → slice ≡ old → after ≡ now
    → TookSome t slice cores frames rest now → AreAnswered given given
    → IsSideWork t old cores frames rest given given after
side_in_turn t old slice now after cores frames rest given distinct before behind some fresh = record {
  middle = after;
  took = turned t old slice now after cores frames rest distinct before behind some;
  same = fresh;
  made = none_made t given after fresh;
}
