-- Hosts by their addresses.
use Rattle.std.proofs.Common.{◌≡◌, ℕ, ◌+◌, not, nat_lt, Bool, cond, eqb, List, [], ◌∷◌, ◌++◌}
use Rattle.std.proofs.Common.{length, map, position}
use Rattle.std.proofs.Common.{Option, Some, None, unwrap_or, refl, sym, ap, ◌∙◌}
use Rattle.std.proofs.lemmas.List.{length-map}
use Rattle.std.specs.List.{prefix_len}
use Rattle.tas_model.specs.declared.entry.FourTuple.{FourTuple}
use Rattle.tas_model.specs.declared.entry.Head.{Head}
use Rattle.tas_model.specs.Segments.{bare}
use Rattle.host_rounds.specs.declared.log.LogLine.{LogLine}
use Rattle.host_rounds.specs.Hosts.{Live}
use Rattle.host_rounds.specs.Scripts.{Site}
use Rattle.scenario_runs.specs.Applications.{Script}
use Rattle.scenario_runs.specs.Worlds.{World, host_at, no_flow, frames_of_segments, frames_of_entries, frames_of_flows}
use Rattle.scenario_runs.specs.Worlds.{answer_on, frames_of_answer, frames_of_log, frames_of_hosts}
use Rattle.sent_frames.specs.Sending.{addresses_of}

prefix_len-map : {X Y : Type 0} (p : Y → Bool) (f : X → Y) (xs : List X)
    → prefix_len p (map f xs) ≡ prefix_len (λ x. p (f x)) xs
prefix_len-map p f [] = refl
prefix_len-map p f (x ∷ xs) = ap (λ n. cond (p (f x)) (1 + n) 0) (prefix_len-map p f xs)

-- the first that passes the test
abbrev pub place_in : List ℕ → ℕ → ℕ
place_in addresses addr = unwrap_or (position (λ a. eqb a addr) addresses) (length addresses)

abbrev placed : ℕ → ℕ → ℕ
placed n len = unwrap_or (cond (nat_lt n len) (Some n) None) len

-- A host's number is the place of its address.
pub host_is_placed : (world : World) (addr : ℕ) → host_at world addr ≡ place_in (addresses_of world) addr
host_is_placed world addr =
    let address : Site (List Script) → ℕ = λ (site : Site (List Script)). site.host.params.addr in
    let places = prefix_len-map (λ a. not (eqb a addr)) address world in
    sym (ap (λ n. placed n (length (addresses_of world))) places
    ∙ ap (placed (prefix_len (λ (site : Site (List Script)). not (eqb site.host.params.addr addr)) world))
    (length-map world address))

pub same_place : (v w : World) (addr : ℕ) → addresses_of v ≡ addresses_of w → host_at v addr ≡ host_at w addr
same_place v w addr same =
    host_is_placed v addr ∙ (ap (λ all. place_in all addr) same ∙ sym (host_is_placed w addr))

-- ----- frames go by the addresses of a world alone
flows_go_by : (v w : World) (host n : ℕ) (ls : List Live) → addresses_of v ≡ addresses_of w
    → frames_of_flows v host n ls ≡ frames_of_flows w host n ls
flows_go_by v w host n [] same = refl
flows_go_by v w host n (l ∷ ls) same =
    ap (λ to. frames_of_entries host n 0 to l.flow.tuple l.flow.entries ++ frames_of_flows v host (n + 1) ls)
    (same_place v w l.flow.tuple.raddr same)
    ∙ ap (λ fs. frames_of_entries host n 0 (host_at w l.flow.tuple.raddr) l.flow.tuple l.flow.entries ++ fs)
    (flows_go_by v w host (n + 1) ls same)

answer_goes_by : (v w : World) (host n t : ℕ) (a : Option (FourTuple × Head)) → addresses_of v ≡ addresses_of w
    → frames_of_answer v host n t a ≡ frames_of_answer w host n t a
answer_goes_by v w host n t None same = refl
answer_goes_by v w host n t (Some a) same =
    ap (λ to. frames_of_segments host no_flow n t to a.0 (bare a.1 ∷ [])) (same_place v w (a.0).raddr same)

log_goes_by : (v w : World) (host n : ℕ) (ls : List LogLine) → addresses_of v ≡ addresses_of w
    → frames_of_log v host n ls ≡ frames_of_log w host n ls
log_goes_by v w host n [] same = refl
log_goes_by v w host n (l ∷ ls) same =
    let front = answer_goes_by v w host n l.tick (answer_on l.event) same in
    ap (λ fs. fs ++ frames_of_log v host (n + length fs) ls) front
    ∙ ap (λ fs. frames_of_answer w host n l.tick (answer_on l.event) ++ fs)
    (log_goes_by v w host (n + length (frames_of_answer w host n l.tick (answer_on l.event))) ls same)

pub frames_go_by : (v w : World) (h : ℕ) (sites : World) → addresses_of v ≡ addresses_of w
    → frames_of_hosts v h sites ≡ frames_of_hosts w h sites
frames_go_by v w h [] same = refl
frames_go_by v w h (site ∷ sites) same =
    ap (λ fs. (fs ++ frames_of_log v h 0 site.host.log) ++ frames_of_hosts v (h + 1) sites)
    (flows_go_by v w h 0 site.host.flows same)
    ∙ (ap (λ fs. (frames_of_flows w h 0 site.host.flows ++ fs) ++ frames_of_hosts v (h + 1) sites)
    (log_goes_by v w h 0 site.host.log same)
    ∙ ap (λ fs. (frames_of_flows w h 0 site.host.flows ++ frames_of_log w h 0 site.host.log) ++ fs)
    (frames_go_by v w (h + 1) sites same))
