-- Flows are found by their four-tuples, while a list of them grows.
use Rattle.std.proofs.Common.{◌≡◌, ap, sym, ◌∙◌, refl, subst, ℕ, ◌+◌, ◌<◌, ◌≤◌, List, [], ◌∷◌, ◌++◌, cond, Bool, true}
use Rattle.std.proofs.Common.{false}
use Rattle.std.proofs.Common.{arith, tests, length, take, true≢false, get_or}
use Rattle.std.specs.Prelude.{◌==◌, ◌&&◌, Option, Some, None}
use Rattle.std.specs.List.{filter, find}
use Rattle.std.specs.Option.{option_or, option_map}
use Rattle.std.proofs.lemmas.List.{take_more, length-append}
use Rattle.std.proofs.lemmas.List.Folds.{find-append}
use Rattle.std.proofs.lemmas.List.Sums.{count_by-le-length, length-filter}
use Rattle.tas_model.specs.declared.entry.FlowId.{FlowId}
use Rattle.tas_model.specs.declared.entry.FourTuple.{FourTuple}
use Rattle.flow_index.specs.Changes.{is_same}
use Rattle.slow_worker.specs.Workers.{has_tuple, id_of, flow_with}
use Rattle.slow_worker.specs.Known.{or_flow, AreFound}
use Rattle.slow_worker.specs.declared.known.KnownFlow.{KnownFlow}

-- ----- equal four-tuples are one
pub both : (a b : Bool) → (a && b) ≡ true → (a ≡ true) × (b ≡ true)
both true b h = (refl, h)
both false b h = absurd (true≢false (sym h))

pub same_number : (a b : ℕ) → (a == b) ≡ true → a ≡ b
same_number a b h = grind (arith, tests, h)

of_numbers : (t u : FourTuple) → t.laddr ≡ u.laddr → t.lport ≡ u.lport → t.raddr ≡ u.raddr → t.rport ≡ u.rport → t ≡ u
of_numbers t u a b c d = λ i. record { laddr = a i; lport = b i; raddr = c i; rport = d i }

same_is : (t u : FourTuple) → is_same t u ≡ true → t ≡ u
same_is t u h =
    let one = both (t.laddr == u.laddr) _ h in
    let two = both (t.lport == u.lport) _ one.1 in
    let three = both (t.raddr == u.raddr) _ two.1 in
    of_numbers t u (same_number t.laddr u.laddr one.0) (same_number t.lport u.lport two.0)
    (same_number t.raddr u.raddr three.0) (same_number t.rport u.rport three.1)

-- ----- the map
or_same : (o x : Option FlowId) (k : FlowId) → o ≡ Some k → o ≡ option_or o x
or_same None x k h = absurd (cc (h))
or_same (Some l) x k h = refl

or_none : (o : Option FlowId) → o ≡ option_or o None
or_none None = refl
or_none (Some k) = refl

or_new : (o x : Option FlowId) → o ≡ None → x ≡ option_or o x
or_new None x h = refl
or_new (Some k) x h = absurd (cc (h))

-- a four-tuple that it has keeps its flow
pub noted : (firsts : FourTuple → Option FlowId) (flow : KnownFlow) (t : FourTuple) (k : FlowId)
    → firsts flow.tuple ≡ Some k → firsts t ≡ or_flow (firsts t) t flow
noted firsts flow t k has = by_tuple (is_same flow.tuple t) refl where
  by_tuple : (b : Bool) → is_same flow.tuple t ≡ b → firsts t ≡ option_or (firsts t) (cond b (Some flow.id) None)
  by_tuple true h = or_same (firsts t) (Some flow.id) k
      (ap firsts (sym (same_is flow.tuple t h)) ∙ has)
  by_tuple false h = or_none (firsts t)

-- and one that it hasn't leads to the flow
pub placed : (firsts : FourTuple → Option FlowId) (flow : KnownFlow) (t : FourTuple) → firsts flow.tuple ≡ None
    → cond (is_same flow.tuple t) (Some flow.id) (firsts t) ≡ or_flow (firsts t) t flow
placed firsts flow t has = by_tuple (is_same flow.tuple t) refl where
  by_tuple : (b : Bool) → is_same flow.tuple t ≡ b
      → cond b (Some flow.id) (firsts t) ≡ option_or (firsts t) (cond b (Some flow.id) None)
  by_tuple true h = or_new (firsts t) (Some flow.id) (ap firsts (sym (same_is flow.tuple t h)) ∙ has)
  by_tuple false h = or_none (firsts t)

-- ----- the list
mapped : (o : Option KnownFlow) (b : Bool) (flow : KnownFlow)
    → option_map id_of (option_or o (cond b (Some flow) None))
    ≡ option_or (option_map id_of o) (cond b (Some flow.id) None)
mapped None true flow = refl
mapped None false flow = refl
mapped (Some f) b flow = refl

pub flow_push : (t : FourTuple) (flows : List KnownFlow) (flow : KnownFlow)
    → flow_with t (flows ++ flow ∷ []) ≡ or_flow (flow_with t flows) t flow
flow_push t flows flow =
    ap (option_map id_of) (find-append (has_tuple t) flows (flow ∷ []))
    ∙ mapped (find (has_tuple t) flows) (has_tuple t flow) flow

pub pushed : (before after : FourTuple → Option FlowId) (flows : List KnownFlow) (flow : KnownFlow)
    → ((t : FourTuple) → before t ≡ flow_with t flows) → ((t : FourTuple) → after t ≡ or_flow (before t) t flow)
    → (t : FourTuple) → after t ≡ flow_with t (flows ++ flow ∷ [])
pushed before after flows flow old new t =
    new t ∙ (ap (λ (o : Option FlowId). or_flow o t flow) (old t) ∙ sym (flow_push t flows flow))

-- gone through, one more
pub more_found : (before after : FourTuple → Option FlowId) (flows : List KnownFlow) (place : ℕ) (flow : KnownFlow)
    → place < length flows → get_or flows place flow ≡ flow
    → ((t : FourTuple) → before t ≡ flow_with t (take place flows))
    → ((t : FourTuple) → after t ≡ or_flow (before t) t flow)
    → (t : FourTuple) → after t ≡ flow_with t (take (place + 1) flows)
more_found before after flows place flow near here old new t =
    pushed before after (take place flows) flow old new t
    ∙ ap (flow_with t) (ap (λ (f : KnownFlow). take place flows ++ f ∷ []) (sym here)
    ∙ sym (take_more flows place flow near))

-- ----- all are kept where as many are
pub all_kept : {A : Type 0} (p : A → Bool) (xs : List A) → length (filter p xs) ≡ length xs → filter p xs ≡ xs
all_kept p [] e = refl
all_kept p (x ∷ xs) e = by_first (p x) refl (all_kept p xs) where
  by_first : (b : Bool) → p x ≡ b → (length (filter p xs) ≡ length xs → filter p xs ≡ xs) → filter p (x ∷ xs) ≡ x ∷ xs
  by_first true h kept =
      let rest : length (filter p xs) ≡ length xs =
      let one = ap (λ (b : Bool). length (cond b (x ∷ filter p xs) (filter p xs))) h in omega (arith, one, e) in
      ap (λ (b : Bool). cond b (x ∷ filter p xs) (filter p xs)) h ∙ ap (λ ys. x ∷ ys) (kept rest)
  by_first false h kept =
      let few = count_by-le-length p xs in
      let is = length-filter p xs in
      let one = ap (λ (b : Bool). length (cond b (x ∷ filter p xs) (filter p xs))) h in
      absurd (omega (arith, few, is, one, e))

fewer : {A : Type 0} (p : A → Bool) (xs : List A) → length (filter p xs) ≤ length xs
fewer p xs = let few = count_by-le-length p xs in let is = length-filter p xs in omega (arith, few, is)

-- ----- what holds of list and map still holds
-- behind one flow more
pub put_flows : (flows new : List KnownFlow) (room capacity capacity' : ℕ) (firsts firsts' : FourTuple → Option FlowId)
    (count count' free free' : ℕ) (flow : KnownFlow) → AreFound flows room capacity firsts count free
    → length flows < room → new ≡ flows ++ flow ∷ [] → capacity' ≡ capacity
    → ((t : FourTuple) → firsts' t ≡ or_flow (firsts t) t flow) → count' ≤ count + 1 → count + free ≤ count' + free'
    → AreFound new room capacity' firsts' count' free'
put_flows flows new room capacity capacity' firsts firsts' count count' free free' flow are less made same noted few
    placed =
    let longer : length new ≡ length flows + 1 = ap length made ∙ length-append flows (flow ∷ []) in
    record {
      first = λ t. pushed firsts firsts' flows flow are.first noted t ∙ ap (flow_with t) (sym made);
      few = omega (arith, longer, few, are.few);
      within = omega (arith, longer, less);
      listed = omega (arith, are.listed, same);
      placed = omega (arith, are.placed, placed);
    }

-- where all flows are kept
pub same_flows : (p : KnownFlow → Bool) (flows left : List KnownFlow) (room capacity capacity' : ℕ)
    (firsts : FourTuple → Option FlowId) (count free : ℕ) → AreFound flows room capacity firsts count free
    → left ≡ filter p flows → length left ≡ length flows → capacity ≤ capacity'
    → AreFound left room capacity' firsts count free
same_flows p flows left room capacity capacity' firsts count free are is many same =
    let all : left ≡ flows = is ∙ all_kept p flows (sym (ap length is) ∙ many) in
    record {
      first = λ t. are.first t ∙ ap (flow_with t) (sym all);
      few = omega (arith, are.few, many);
      within = omega (arith, are.within, many);
      listed = omega (arith, are.listed, same);
      placed = are.placed;
    }

-- where those that are left were noted anew
pub noted_anew : (p : KnownFlow → Bool) (flows left : List KnownFlow) (room capacity capacity' : ℕ)
    (firsts firsts' : FourTuple → Option FlowId) (count count' free free' : ℕ)
    → AreFound flows room capacity firsts count free → left ≡ filter p flows → capacity ≤ capacity'
    → ((t : FourTuple) → firsts' t ≡ flow_with t left) → count' ≤ length left → count + free ≤ count' + free'
    → AreFound left room capacity' firsts' count' free'
noted_anew p flows left room capacity capacity' firsts firsts' count count' free free' are is same noted few placed =
    let less : length left ≤ length flows = subst (λ (l : List KnownFlow). length l ≤ length flows) (sym is)
    (fewer p flows) in
    record {
      first = noted;
      few = few;
      within = omega (arith, are.within, less);
      listed = omega (arith, are.listed, same);
      placed = omega (arith, are.placed, placed);
    }

-- where there is room for one flow more
pub reserved : (flows same : List KnownFlow) (room room' capacity : ℕ) (firsts firsts' : FourTuple → Option FlowId)
    (count count' free free' : ℕ) (c : ℕ) → AreFound flows room c firsts count free → same ≡ flows
    → room' ≡ length flows + 1 → room' ≤ capacity → ((t : FourTuple) → firsts' t ≡ firsts t) → count' ≡ count
    → room' ≤ count' + free' → AreFound same room' capacity firsts' count' free'
reserved flows same room room' capacity firsts firsts' count count' free free' c are is more listed noted many placed =
    let long = ap length is in
    record {
      first = λ t. noted t ∙ (are.first t ∙ ap (flow_with t) (sym is));
      few = omega (arith, are.few, many, long);
      within = omega (arith, more, long);
      listed = listed;
      placed = placed;
    }
