-- The records of a batch: the frames that come of them, and what the script does for each.
use Rattle.std.proofs.Common.{◌≡◌, ℕ, ◌+◌, ◌<◌, List, ◌∷◌, length, get_or, fold, map, drop}
use Rattle.std.proofs.Common.{Option, Some, None, refl, sym, ap, ◌∙◌}
use Rattle.std.specs.List.{cons_option}
use Rattle.std.proofs.lemmas.List.{drop_more}
use Rattle.tas_model.specs.declared.entry.FrameId.{FrameId}
use Rattle.tas_model.specs.declared.entry.FourTuple.{FourTuple}
use Rattle.tas_model.specs.declared.entry.Seg.{Seg}
use Rattle.host_rounds.specs.declared.opening.Start.{Start}
use Rattle.host_rounds.specs.Hosts.{Host, Starts, is_known}
use Rattle.host_rounds.specs.Scripts.{Site}
use Rattle.host_rounds.specs.Rounds.{on_host}
use Rattle.host_rounds.specs.Deliveries.{Packet, Damaged, Segment, Arrival, received_serially, arrived, delivered}
use Rattle.host_rounds.specs.Deliveries.{delivered_packet}
use Rattle.host_rounds.specs.SerialOrder.{slow_phase, frame_phase, ask_phase, emit_phase, serial_tick}
use Rattle.tas_runs.specs.Records as model
use Rattle.tas_runs.specs.Records.{Item, Content}
use Rattle.tas_runs.specs.Starts.{first_start}
use Rattle.tas_runs.specs.LocalScript.{Beginning, Shown, connects, connected_where, served_flow, served_content}
use Rattle.tas_runs.specs.LocalScript.{capture_scripts, arrival_of, arrivals_in, asks_in, due_in}
use Rattle.capture_items.specs.declared.item.Item as code
use Rattle.capture_items.specs.Items.{item_in}
use Rattle.local_host.specs.Script.{served_later, served_whole}
use Rattle.local_host.specs.Arriving.{came_where, came}
use Rattle.std.specs.Prelude.{not, ◌&&◌}

-- ----- frames
frames_of : (starts : Starts) (t : ℕ) (host : Host) (o : Option Arrival) (xs : List Arrival)
    → fold (delivered received_serially starts t) host (cons_option o xs)
    ≡ fold (delivered received_serially starts t) (came_where starts t o host) xs
frames_of starts t host None xs = refl
frames_of starts t host (Some x) xs = refl

-- what comes of these records
abbrev pub frames : List Item → (tick : ℕ) → Site (List Shown) → List Item → Site (List Shown)
frames items t site xs = on_host (λ (host : Host). frame_phase (capture_scripts items) t host (arrivals_in xs)) site

frames_next : (items : List Item) (t : ℕ) (site : Site (List Shown)) (x : Item) (xs : List Item)
    → frames items t site (x ∷ xs) ≡ frames items t (on_host (came (first_start items) t x) site) xs
frames_next items t site x xs =
    ap (λ (host : Host). record site { host = host })
    (frames_of (first_start items) t site.host (arrival_of x) (arrivals_in xs))

-- the records that are left, one less
pub frames_less : (items : List Item) (t : ℕ) (site after end : Site (List Shown)) (xs : List code.Item) (i : ℕ)
    (d : code.Item) → i < length xs
    → after ≡ on_host (came (first_start items) t (item_in (get_or xs i d))) site
    → frames items t site (map item_in (drop i xs)) ≡ end
    → frames items t after (map item_in (drop (i + 1) xs)) ≡ end
frames_less items t site after end xs i d below made left =
    let rest : List Item = map item_in (drop (i + 1) xs) in
    ap (λ (s : Site (List Shown)). frames items t s rest) made
    ∙ (sym (frames_next items t site (item_in (get_or xs i d)) rest)
    ∙ (sym (ap (λ (ys : List code.Item). frames items t site (map item_in ys)) (drop_more xs i d below)) ∙ left))

-- ----- scripts
abbrev pub asks : List Item → (tick : ℕ) → Site (List Shown) → List Item → Site (List Shown)
asks items t site xs = ask_phase (capture_scripts items) t site (asks_in xs)

asks_next : (items : List Item) (t : ℕ) (site : Site (List Shown)) (x : Item) (xs : List Item)
    → asks items t site (x ∷ xs) ≡ asks items t (served_whole (first_start items) t x.content site) xs
unfolding served_whole
asks_next items t site x xs = refl

pub asks_less : (items : List Item) (t : ℕ) (site after end : Site (List Shown)) (xs : List code.Item) (i : ℕ)
    (d : code.Item) → i < length xs
    → after ≡ served_whole (first_start items) t (item_in (get_or xs i d)).content site
    → asks items t site (map item_in (drop i xs)) ≡ end
    → asks items t after (map item_in (drop (i + 1) xs)) ≡ end
asks_less items t site after end xs i d below made left =
    let rest : List Item = map item_in (drop (i + 1) xs) in
    ap (λ (s : Site (List Shown)). asks items t s rest) made
    ∙ (sym (asks_next items t site (item_in (get_or xs i d)) rest)
    ∙ (sym (ap (λ (ys : List code.Item). asks items t site (map item_in ys)) (drop_more xs i d below)) ∙ left))

-- ----- starts that are the same one by one
abbrev pub AreAlike : Starts → Starts → Type 0
AreAlike starts others = (tuple : FourTuple) (k n : ℕ) → starts tuple k n ≡ others tuple k n

packet_alike : (starts others : Starts) (t : ℕ) (host : Host) (frame : FrameId) (p : Packet) → AreAlike starts others
    → delivered_packet received_serially starts t host frame p
    ≡ delivered_packet received_serially others t host frame p
packet_alike starts others t host frame (Damaged rule) alike = refl
packet_alike starts others t host frame (Segment tuple seg) alike =
    ap (λ (s : Start). arrived (is_known host tuple) (received_serially t frame seg) s t host frame tuple seg)
    (alike tuple _ _)

came_by : (starts others : Starts) (t : ℕ) (o : Option Arrival) (host : Host) → AreAlike starts others
    → came_where starts t o host ≡ came_where others t o host
came_by starts others t None host alike = refl
came_by starts others t (Some x) host alike = packet_alike starts others t host x.frame x.packet alike

pub came_alike : (starts others : Starts) (t : ℕ) (x : Item) (site : Site (List Shown)) → AreAlike starts others
    → on_host (came starts t x) site ≡ on_host (came others t x) site
came_alike starts others t x site alike = ap (λ (host : Host). record site { host = host })
    (came_by starts others t (arrival_of x) site.host alike)

-- ----- one record
pub whole_damaged : (starts : Starts) (t rule : ℕ) (site : Site (List Shown))
    → site ≡ served_whole starts t (model.Damaged rule) site
unfolding served_whole
whole_damaged starts t rule site = refl

pub whole_remote : (starts : Starts) (t : ℕ) (tuple : FourTuple) (seg : Seg) (site : Site (List Shown))
    → served_later t (model.Remote tuple seg) tuple site ≡ served_whole starts t (model.Remote tuple seg) site
unfolding served_whole served_later
whole_remote starts t tuple seg site = refl

pub whole_local : (starts : Starts) (t : ℕ) (tuple : FourTuple) (seg : Seg) (site : Site (List Shown))
    → served_later t (model.Local tuple seg) tuple (served_content starts Beginning t (model.Local tuple seg) site)
    ≡ served_whole starts t (model.Local tuple seg) site
unfolding served_whole served_later
whole_local starts t tuple seg site = refl

began_alike : (starts others : Starts) (t : ℕ) (tuple : FourTuple) (seg : Seg) (site : Site (List Shown))
    → AreAlike starts others
    → served_content starts Beginning t (model.Local tuple seg) site
    ≡ served_content others Beginning t (model.Local tuple seg) site
began_alike starts others t tuple seg site alike =
    ap
    (λ (s : Start).
    served_flow Beginning t (model.Local tuple seg) tuple
    (record site { host = connected_where (connects seg && not (is_known site.host tuple)) s t site.host tuple }))
    (alike tuple _ _)

pub served_alike : (starts others : Starts) (t : ℕ) (content : Content) (site : Site (List Shown))
    → AreAlike starts others
    → served_whole starts t content site ≡ served_whole others t content site
served_alike starts others t (model.Damaged rule) site alike = sym (whole_damaged starts t rule site)
    ∙ whole_damaged others t rule site
served_alike starts others t (model.Remote tuple seg) site alike =
    sym (whole_remote starts t tuple seg site) ∙ whole_remote others t tuple seg site
served_alike starts others t (model.Local tuple seg) site alike =
    sym (whole_local starts t tuple seg site)
    ∙ (ap (served_later t (model.Local tuple seg) tuple) (began_alike starts others t tuple seg site alike)
    ∙ whole_local others t tuple seg site)

-- ----- a tick
pub played : (items : List Item) (t : ℕ) (batch : List Item) (site : Site (List Shown)) (slow : Host)
    (framed asked : Site (List Shown)) (last : Host)
    → slow ≡ slow_phase t site.host → framed ≡ frames items t (record site { host = slow }) batch
    → asked ≡ asks items t framed batch
    → last ≡ emit_phase t asked.host
    → ◌≡◌ {A = Site (List Shown)} (record asked { host = last })
    (serial_tick (capture_scripts items) t site (due_in batch))
unfolding serial_tick
played items t batch site slow framed asked last first second third fourth =
    ap (λ (h : Host). record asked { host = h }) fourth
    ∙ ap (on_host (emit_phase t))
    (third
    ∙ ap (λ (s : Site (List Shown)). asks items t s batch)
    (second ∙ ap (λ (h : Host). frames items t (record site { host = h }) batch) first))
