-- A tick of a replay on a host with cores: the frames of a batch, what cores leave of them, and the whole tick.
use Rattle.std.proofs.Common.{◌≡◌, ℕ, ◌+◌, ◌<◌, ◌++◌, List, [], ◌∷◌, length, get_or, map, drop, take}
use Rattle.std.proofs.Common.{Option, Some, None, refl, sym, ap, subst, ◌∙◌}
use Rattle.std.specs.List.{cons_option}
use Rattle.std.specs.Option.{option_map}
use Rattle.std.proofs.lemmas.List.{drop_more, take_more, map-append}
use Rattle.std.proofs.lemmas.List.Elements.{filter_map-append}
use Rattle.tas_model.specs.declared.entry.Caller.TheVariants.{Slow}
use Rattle.host_rounds.specs.declared.opening.Start.{Start}
use Rattle.host_rounds.specs.Hosts.{Host, Starts, is_known}
use Rattle.host_rounds.specs.Scripts.{Site}
use Rattle.host_rounds.specs.Rounds.{on_host}
use Rattle.host_rounds.specs.Deliveries.{Packet, Damaged, Segment, Arrival, Taking, received, arrived, delivered}
use Rattle.host_rounds.specs.Deliveries.{delivered_packet}
use Rattle.host_rounds.specs.SerialOrder.{slow_phase, emit_phase}
use Rattle.core_rounds.specs.CoreTicks.{IsCoresTick, rest_phase}
use Rattle.tas_model.specs.declared.entry.FrameId.{FrameId}
use Rattle.tas_runs.specs.Records.{Item}
use Rattle.tas_runs.specs.LocalScript.{Shown, capture_scripts, arrival_of, arrivals_in, due_in}
use Rattle.capture_items.specs.declared.item.Item as code
use Rattle.capture_items.specs.Items.{item_in}
use Rattle.local_host.specs.declared.arrival.Arrival as arrivals
use Rattle.local_host.specs.Arriving.{arrival_in}
use Rattle.local_host.proofs.OfCores.{PhaseOf}
use Rattle.local_host.proofs.Recording.{asks, AreAlike}

-- ----- the frames of a batch
mapped_where : (o : Option arrivals.Arrival)
    → map arrival_in (cons_option o []) ≡ cons_option (option_map arrival_in o) []
mapped_where None = refl
mapped_where (Some x) = refl

-- one record more
pub came_more : (xs after : List arrivals.Arrival) (o : Option arrivals.Arrival) (batch : List code.Item) (i : ℕ)
    (d : code.Item) → i < length batch → option_map arrival_in o ≡ arrival_of (item_in (get_or batch i d))
    → after ≡ xs ++ cons_option o [] → map arrival_in xs ≡ arrivals_in (map item_in (take i batch))
    → map arrival_in after ≡ arrivals_in (map item_in (take (i + 1) batch))
came_more xs after o batch i d below is made before =
    let x : code.Item = get_or batch i d in
    ap (map arrival_in) made ∙ (map-append arrival_in xs (cons_option o [])
    ∙ (ap (λ (ys : List Arrival). ys ++ map arrival_in (cons_option o [])) before
    ∙ (ap (λ (ys : List Arrival). arrivals_in (map item_in (take i batch)) ++ ys)
    (mapped_where o ∙ ap (λ (a : Option Arrival). cons_option a []) is)
    ∙ sym (ap (λ (ys : List code.Item). arrivals_in (map item_in ys)) (take_more batch i d below)
    ∙ (ap arrivals_in (map-append item_in (take i batch) (x ∷ []))
    ∙ filter_map-append arrival_of (map item_in (take i batch)) (item_in x ∷ []))))))

-- ----- what cores leave
abbrev pub rests : List Item → (tick : ℕ) → Site (List Shown) → List Arrival → Site (List Shown)
rests items t site xs = on_host (λ (host : Host). rest_phase (capture_scripts items) t host xs) site

packet_alike : (by : Taking) (starts others : Starts) (t : ℕ) (host : Host) (frame : FrameId) (p : Packet)
    → AreAlike starts others
    → delivered_packet by starts t host frame p ≡ delivered_packet by others t host frame p
packet_alike by starts others t host frame (Damaged rule) alike = refl
packet_alike by starts others t host frame (Segment tuple seg) alike =
    ap (λ (s : Start). arrived (is_known host tuple) (by t frame seg) s t host frame tuple seg) (alike tuple _ _)

pub slow_alike : (starts others : Starts) (t : ℕ) (x : Arrival) (site : Site (List Shown)) → AreAlike starts others
    → ◌≡◌ {A = Site (List Shown)} (on_host (λ (host : Host). delivered (received Slow) starts t host x) site)
    (on_host (λ (host : Host). delivered (received Slow) others t host x) site)
slow_alike starts others t x site alike = ap (λ (host : Host). record site { host = host })
    (packet_alike (received Slow) starts others t site.host x.frame x.packet alike)

-- the frames that are left, one less
pub rests_less : (items : List Item) (t : ℕ) (site after end : Site (List Shown)) (xs : List arrivals.Arrival) (i : ℕ)
    (d : arrivals.Arrival) → i < length xs
    → after ≡ on_host (λ (host : Host). delivered (received Slow) ((capture_scripts items).starts) t host
    (arrival_in (get_or xs i d))) site
    → rests items t site (map arrival_in (drop i xs)) ≡ end
    → rests items t after (map arrival_in (drop (i + 1) xs)) ≡ end
rests_less items t site after end xs i d below made left =
    let rest : List Arrival = map arrival_in (drop (i + 1) xs) in
    ap (λ (s : Site (List Shown)). rests items t s rest) made
    ∙ (sym (ap (λ (ys : List arrivals.Arrival). rests items t site (map arrival_in ys)) (drop_more xs i d below))
    ∙ left)

-- ----- a tick
pub played_on_cores : (items : List Item) (cores t : ℕ) (batch : List Item) (site : Site (List Shown)) (slow : Host)
    (frames rest : List Arrival) (middle : Host) (framed asked : Site (List Shown)) (last : Host)
    → slow ≡ slow_phase t site.host → frames ≡ arrivals_in batch → PhaseOf cores t slow frames rest middle
    → framed ≡ rests items t (record site { host = middle }) rest → asked ≡ asks items t framed batch
    → last ≡ emit_phase t asked.host → 0 < cores
    → IsCoresTick (capture_scripts items) cores t (due_in batch) site (record asked { host = last })
played_on_cores items cores t batch site slow frames rest middle framed asked last first came took second third fourth
    some =
    let here : PhaseOf cores t (slow_phase t site.host) (arrivals_in batch) rest middle =
    subst (λ (h : Host). PhaseOf cores t h (arrivals_in batch) rest middle) first
    (subst (λ (xs : List Arrival). PhaseOf cores t slow xs rest middle) came took) in
    record {
      some = some;
      rest = rest;
      middle = middle;
      phase = here.0;
      below = here.1;
      tried = [];
      later = (due_in batch).asks;
      asked = λ n. refl;
      made = sym (ap (λ (h : Host). record asked { host = h }) fourth
          ∙ ap (on_host (emit_phase t)) (third ∙ ap (λ (s : Site (List Shown)). asks items t s batch) second));
    }
