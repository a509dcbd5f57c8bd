-- The slow path's list of flows by their four-tuples after the time of a tick: for the law time_keeps_it.
use Rattle.std.proofs.Common.{◌≡◌, ℕ, zero, suc, ◌+◌, ◌<◌, ◌==◌, ◌&&◌, ◌||◌, cond, Bool, true, false, List, [], ◌∷◌}
use Rattle.std.proofs.Common.{refl, sym, ap, ◌∙◌, subst, arith, inl, inr, length, get_or, slice_get, Some, None, Option}
use Rattle.std.proofs.Common.{true≢false, count_by}
use Rattle.std.specs.Prelude.{◌⊎◌, position}
use Rattle.std.specs.List.{filter, list_any}
use Rattle.std.proofs.lemmas.Bool.Decides.{nat_tests}
use Rattle.std.proofs.lemmas.List.Quantifiers.{position-Some}
use Rattle.tas_model.specs.declared.entry.FlowId.{FlowId}
use Rattle.host_rounds.specs.Lists.{Each}
use Rattle.core_rounds.proofs.Filters.{tally, count_cons}
use Rattle.flow_lock.specs.Orders.{known_of, same_flow}
use Rattle.flow_lock.specs.declared.view.Held.{Held}
use Rattle.app_reaper.specs.Lists.{is_on}
use Rattle.libtas_sockets.proofs.Pins.{place_none}
use Rattle.slow_handshake.specs.Openings.{first_port}
use Rattle.slow_worker.specs.Turns.{pin_at, is_its, is_pinned, still_known}
use Rattle.slow_worker.specs.declared.known.KnownFlow.{KnownFlow}
use Rattle.host_books.specs.Books.{Book}
use Rattle.host_books.proofs.Orders.{same_self}
use Rattle.sound_hosts.specs.Hosts.{id_of, is_indexed, flows_in, known_flow}
use Rattle.sound_hosts.specs.Sound.{IsPlain, IsBelowNext}
use Rattle.sound_hosts.proofs.Leaving.{AreApart, IsNumberedBy, any_names}
use Rattle.sound_hosts.proofs.OpenSockets.{each_at, to_filtered}
use Rattle.sound_hosts.proofs.Standing.{any_at, none_at, every_at}
use Rattle.sound_turns.specs.Passing.{AreSwept, swept_book}
use Rattle.sound_hosts.proofs.Names.{names}

-- ----- the pin of a flow
there : (fs : List FlowId) (k : ℕ) (d : FlowId) → k < length fs → slice_get fs k ≡ Some (get_or fs k d)
there [] k d lt = absurd (omega (arith, lt))
there (f ∷ fs) zero d lt = refl
there (f ∷ fs) (suc k) d lt = there fs k d (omega (arith, lt))

abbrev IsAlike : FlowId → FlowId → Type 0
IsAlike id p = (p.slot == id.slot) ≡ same_flow p id

any_alike : (id : FlowId) (pins : List FlowId) → Each (IsAlike id) pins
    → list_any (λ (p : FlowId). same_flow p id) pins ≡ list_any (is_on id.slot) pins
any_alike id [] each = refl
any_alike id (p ∷ ps) each = λ i. sym each.0 i || any_alike id ps each.1 i

-- where each pin on its slot is its own, the flow is pinned where its pin is there
pub pinned_is : (id : FlowId) (pins : List FlowId) → Each (IsAlike id) pins
    → is_pinned pins id ≡ list_any (λ (p : FlowId). same_flow p id) pins
pinned_is id pins each = by (position (is_on id.slot) pins) refl
  where
    by : (o : Option ℕ) → position (is_on id.slot) pins ≡ o
        → is_its id (pin_at pins (position (is_on id.slot) pins)) ≡ list_any (λ (p : FlowId). same_flow p id) pins
    by None e =
        ap (λ (o : Option ℕ). is_its id (pin_at pins o)) e
        ∙ sym (any_alike id pins each ∙ place_none id.slot pins e)
    by (Some k) e =
        let s = position-Some (is_on id.slot) pins k id e in
        let at : slice_get pins k ≡ Some (get_or pins k id) = there pins k id s.0 in
        let own : same_flow (get_or pins k id) id ≡ true =
        sym (each_at (IsAlike id) pins k (get_or pins k id) each at) ∙ s.1 in
        ap (λ (o : Option ℕ). is_its id (pin_at pins o)) e
        ∙ (ap (is_its id) at
        ∙ (own ∙ sym (any_at (λ (p : FlowId). same_flow p id) pins k (get_or pins k id) at own)))

-- ----- the books that stand
alike_by : (generation : ℕ → ℕ) (id p : FlowId) → id.generation ≡ generation id.slot
    → p.generation ≡ generation p.slot → IsAlike id p
alike_by generation id p x y = by (p.slot == id.slot) refl
  where
    by : (s : Bool) → (p.slot == id.slot) ≡ s → (p.slot == id.slot) ≡ same_flow p id
    by true e =
        let slot : p.slot ≡ id.slot = grind (arith, nat_tests, e) in
        let same : p.generation ≡ id.generation = y ∙ (ap generation slot ∙ sym x) in
        let both : same_flow p id ≡ true = grind (arith, nat_tests, slot, same) in
        e ∙ sym both
    by false e = e ∙ sym (ap (λ t. t && (p.generation == id.generation)) e)

all_alike : (generation : ℕ → ℕ) (id : FlowId) (ps : List FlowId) → id.generation ≡ generation id.slot
    → Each (λ (p : FlowId). p.generation ≡ generation p.slot) ps → Each (IsAlike id) ps
all_alike generation id [] x each = tt
all_alike generation id (p ∷ ps) x each = (alike_by generation id p x each.0, all_alike generation id ps x each.1)

unfiled : (b : Book) → IsPlain b → b.indexed ≡ true → b.filed ≡ false
unfiled b plain is = by b.filed plain
  where
    by : (f : Bool) → (f ≡ true → b.indexed ≡ false) → f ≡ false
    by true p = absurd (true≢false (sym is ∙ p refl))
    by false p = refl

-- the pins of those that the index has bear the generations of their slots
pins_numbered : (generation : ℕ → ℕ) (cs : List Book) → Each IsPlain cs → Each (IsNumberedBy generation) cs
    → Each (λ (p : FlowId). p.generation ≡ generation p.slot) (names is_indexed cs)
pins_numbered generation cs plain numbered =
    to_filtered (λ (p : FlowId). p.generation ≡ generation p.slot) is_indexed cs (so cs plain numbered)
  where
    so : (ds : List Book) → Each IsPlain ds → Each (IsNumberedBy generation) ds
        → Each (λ (d : Book). is_indexed d ≡ true → d.id.generation ≡ generation d.id.slot) ds
    so [] x y = tt
    so (d ∷ ds) x y = (λ e. y.0 (unfiled d x.0 e), so ds x.1 y.1)

pub numbered_swept : (generation : ℕ → ℕ) (bs cs : List Book) → AreSwept bs cs → Each (IsNumberedBy generation) bs
    → Each (IsNumberedBy generation) cs
numbered_swept generation [] cs swept each = subst (Each (IsNumberedBy generation)) (sym swept) tt
numbered_swept generation (b ∷ bs) [] swept each = absurd swept
numbered_swept generation (b ∷ bs) (c ∷ cs) swept each =
    (by swept.0 each.0, numbered_swept generation bs cs swept.1 each.1)
  where
    by : (c ≡ b) ⊎ ((b.filed ≡ false) × (c ≡ swept_book b)) → IsNumberedBy generation b → IsNumberedBy generation c
    by (inl e) n = subst (IsNumberedBy generation) (sym e) n
    by (inr (f, e)) n = subst (IsNumberedBy generation) (sym e) (λ x. n f)

-- ----- of books apart each has its own pin, where the index has it
own_any : (cs : List Book) → AreApart cs → (n : ℕ) (c : Book) → slice_get cs n ≡ Some c
    → list_any (λ (d : Book). is_indexed d && same_flow d.id c.id) cs ≡ c.indexed
own_any [] apart n c at = absurd (cc (at))
own_any (d ∷ ds) apart zero c at =
    subst (λ (x : Book). list_any (λ (y : Book). is_indexed y && same_flow y.id x.id) (d ∷ ds) ≡ x.indexed)
    (same d c at)
    ((λ i. (d.indexed && same_self d.id i) || none_at (λ (y : Book). is_indexed y && same_flow y.id d.id) ds
    (off ds apart.0) i)
    ∙ last d.indexed)
  where
    same : (x y : Book) → ◌≡◌ {A = Option Book} (Some x) (Some y) → x ≡ y
    same x y q = cc (q)

    last : (x : Bool) → ((x && true) || false) ≡ x
    last true = refl
    last false = refl

    off : (ys : List Book) → Each (λ (y : Book). same_flow d.id y.id ≡ false) ys
        → Each (λ (y : Book). (is_indexed y && same_flow y.id d.id) ≡ false) ys
    off [] each = tt
    off (y ∷ ys) each = (
      ap (λ t. y.indexed && t) (mirror y.id d.id ∙ each.0) ∙ and_false y.indexed,
      off ys each.1,
    )
      where
        mirror : (f g : FlowId) → same_flow f g ≡ same_flow g f
        mirror f g = grind (arith, nat_tests)

        and_false : (x : Bool) → (x && false) ≡ false
        and_false true = refl
        and_false false = refl
own_any (d ∷ ds) apart (suc n) c at =
    (λ i. (d.indexed && each_at (λ (y : Book). same_flow d.id y.id ≡ false) ds n c apart.0 at i)
    || own_any ds apart.1 n c at i)
    ∙ first d.indexed
  where
    first : (x : Bool) → ((x && false) || c.indexed) ≡ c.indexed
    first true = refl
    first false = refl

-- ----- the list
module _ (known after : List Held) (same : (f : FlowId) → (known_of f after).tuple ≡ (known_of f known).tuple)
    (pins : List FlowId) where
  abbrev IsPinnedAs : Book → Type 0
  IsPinnedAs b = b.indexed ≡ true → is_pinned pins b.id ≡ list_any (λ (p : FlowId). same_flow p b.id) pins

  abbrev IsKeptAs : Book → Type 0
  IsKeptAs c = list_any (λ (p : FlowId). same_flow p c.id) pins ≡ c.indexed

  abbrev keep : KnownFlow → Bool
  keep f = is_pinned pins f.id

  flows_kept : (bs cs : List Book) → AreSwept bs cs → Each IsPinnedAs bs → Each IsKeptAs cs
      → filter keep (flows_in known bs) ≡ flows_in after cs
  flows_kept [] cs swept x y = ap (λ (l : List Book). flows_in after l) (sym swept)
  flows_kept (b ∷ bs) [] swept x y = absurd swept
  flows_kept (b ∷ bs) (c ∷ cs) swept x y = by b.indexed refl (flows_kept bs cs swept.1 x.1 y.1)
    where
      id : c.id ≡ b.id
      id = of swept.0
        where
          of : (c ≡ b) ⊎ ((b.filed ≡ false) × (c ≡ swept_book b)) → c.id ≡ b.id
          of (inl e) = ap id_of e
          of (inr (f, e)) = ap id_of e

      gone : b.indexed ≡ false → c.indexed ≡ false
      gone e = of swept.0
        where
          of : (c ≡ b) ⊎ ((b.filed ≡ false) × (c ≡ swept_book b)) → c.indexed ≡ false
          of (inl q) = ap is_indexed q ∙ e
          of (inr (f, q)) = ap is_indexed q

      flow : known_flow known b ≡ known_flow after c
      flow = λ i. record { tuple = (sym (same b.id) ∙ ap (λ f. (known_of f after).tuple) (sym id)) i; id = sym id i }

      head : (t : Bool) → filter keep (flows_in known bs) ≡ flows_in after cs
          → cond t (known_flow known b ∷ filter keep (flows_in known bs)) (filter keep (flows_in known bs))
          ≡ cond t (known_flow after c ∷ flows_in after cs) (flows_in after cs)
      head true rest = λ i. flow i ∷ rest i
      head false rest = rest

      by : (i : Bool) → b.indexed ≡ i → filter keep (flows_in known bs) ≡ flows_in after cs
          → filter keep (flows_in known (b ∷ bs)) ≡ flows_in after (c ∷ cs)
      by false e rest =
          ap (λ t. filter keep (cond t (known_flow known b ∷ flows_in known bs) (flows_in known bs))) e
          ∙ (rest ∙ sym (ap (λ t. cond t (known_flow after c ∷ flows_in after cs) (flows_in after cs)) (gone e)))
      by true e rest =
          let test : is_pinned pins b.id ≡ c.indexed =
          x.0 e ∙ (ap (λ f. list_any (λ (p : FlowId). same_flow p f) pins) (sym id) ∙ y.0) in
          ap (λ t. filter keep (cond t (known_flow known b ∷ flows_in known bs) (flows_in known bs))) e
          ∙ (ap (λ t. cond t (known_flow known b ∷ filter keep (flows_in known bs)) (filter keep (flows_in known bs)))
          test
          ∙ head c.indexed rest)

-- the flows that are still known are those of the books
pub still_flows : (generation : ℕ → ℕ) (known after : List Held)
    → ((f : FlowId) → (known_of f after).tuple ≡ (known_of f known).tuple) → (bs cs : List Book) → AreSwept bs cs
    → Each IsPlain bs → Each (IsNumberedBy generation) bs → Each IsPlain cs → AreApart cs
    → still_known (names is_indexed cs) (flows_in known bs) ≡ flows_in after cs
still_flows generation known after same bs cs swept plain numbered plains apart =
    flows_kept known after same (names is_indexed cs) bs cs swept (pinned bs plain numbered)
    (every_at (IsKeptAs known after same (names is_indexed cs)) cs
    (λ n c at. any_names (λ (p : FlowId). same_flow p c.id) is_indexed cs ∙ own_any cs apart n c at))
  where
    pins : Each (λ (p : FlowId). p.generation ≡ generation p.slot) (names is_indexed cs)
    pins = pins_numbered generation cs plains (numbered_swept generation bs cs swept numbered)

    pinned : (ds : List Book) → Each IsPlain ds → Each (IsNumberedBy generation) ds
        → Each (IsPinnedAs known after same (names is_indexed cs)) ds
    pinned [] x y = tt
    pinned (d ∷ ds) x y = (
      λ e. pinned_is d.id (names is_indexed cs)
          (all_alike generation d.id (names is_indexed cs) (y.0 (unfiled d x.0 e)) pins),
      pinned ds x.1 y.1,
    )

-- ----- ports
pub count_swept : (q : FlowId → Bool) (bs cs : List Book) → AreSwept bs cs
    → count_by (λ (b : Book). q b.id) cs ≡ count_by (λ (b : Book). q b.id) bs
count_swept q [] cs swept = ap (λ (l : List Book). count_by (λ (b : Book). q b.id) l) swept
count_swept q (b ∷ bs) [] swept = absurd swept
count_swept q (b ∷ bs) (c ∷ cs) swept =
    let x : count_by (λ (d : Book). q d.id) (c ∷ cs) ≡ tally (q c.id) + count_by (λ (d : Book). q d.id) cs =
    count_cons (λ (d : Book). q d.id) c cs in
    let y : count_by (λ (d : Book). q d.id) (b ∷ bs) ≡ tally (q b.id) + count_by (λ (d : Book). q d.id) bs =
    count_cons (λ (d : Book). q d.id) b bs in
    let z : tally (q c.id) ≡ tally (q b.id) = ap (λ f. tally (q f)) (of swept.0) in
    let r : count_by (λ (d : Book). q d.id) cs ≡ count_by (λ (d : Book). q d.id) bs = count_swept q bs cs swept.1 in
    omega (arith, x, y, z, r)
  where
    of : (c ≡ b) ⊎ ((b.filed ≡ false) × (c ≡ swept_book b)) → c.id ≡ b.id
    of (inl e) = ap id_of e
    of (inr (f, e)) = ap id_of e

-- the ports of the flows are as they were
pub below_swept : (known : List Held) (n : ℕ) (bs cs : List Book) → AreSwept bs cs → Each (IsBelowNext known n) bs
    → Each (IsBelowNext known n) cs
below_swept known n [] cs swept each = subst (Each (IsBelowNext known n)) (sym swept) tt
below_swept known n (b ∷ bs) [] swept each = absurd swept
below_swept known n (b ∷ bs) (c ∷ cs) swept each = (
  subst (λ (f : FlowId). (known_of f known).tuple.lport < first_port + n) (sym (of swept.0)) each.0,
  below_swept known n bs cs swept.1 each.1,
)
  where
    of : (c ≡ b) ⊎ ((b.filed ≡ false) × (c ≡ swept_book b)) → c.id ≡ b.id
    of (inl e) = ap id_of e
    of (inr (f, e)) = ap id_of e
