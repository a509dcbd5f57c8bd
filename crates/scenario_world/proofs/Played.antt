-- The hosts of a world play a tick one after the other.
use Rattle.std.proofs.Common.{◌≡◌, ℕ, suc, ◌+◌, ◌<◌, List, [], ◌∷◌, ◌++◌, length, map, get_or, set, take, drop, Some}
use Rattle.std.proofs.Common.{slice_get, refl}
use Rattle.std.proofs.Common.{sym, ap, ◌∙◌, arith, append_assoc}
use Rattle.std.proofs.lemmas.List.{set_at}
use Rattle.std.proofs.lemmas.Option.{slice_get-get_or}
use Rattle.std.proofs.Math.Seq.{get_or-append_seam}
use Rattle.host_rounds.specs.Deliveries.{Arrival}
use Rattle.host_rounds.specs.Scripts.{Site}
use Rattle.host_rounds.specs.SerialOrder.{serial_tick}
use Rattle.scenario_text.specs.declared.scenario.Scenario.{Scenario}
use Rattle.scenario_runs.specs.Applications.{Script}
use Rattle.scenario_runs.specs.Worlds.{World, scripts_of, sent_in, arrivals_at, due_at}
use Rattle.scenario_runs.specs.Runs.{serial_sites}
use Rattle.scenario_world.proofs.Lists.{cut_at, taken_more, taken_len}

-- a host's tick in which these frames come
abbrev pub played_by : Scenario → (tick : ℕ) → Site (List Script) → List Arrival → Site (List Script)
played_by s t site frames =
    serial_tick (scripts_of s site.host.params) t site
    (record { frames = frames; asks = map (λ (x : Script). x.number) site.scripts })

sites_len : (s : Scenario) (whole : World) (t h : ℕ) (sites : World)
    → length (serial_sites s whole t h sites) ≡ length sites
sites_len s whole t h [] = refl
sites_len s whole t h (site ∷ sites) = ap suc (sites_len s whole t (h + 1) sites)

sites_push : (s : Scenario) (whole : World) (t h : ℕ) (sites : World) (site : Site (List Script))
    → serial_sites s whole t h (sites ++ site ∷ [])
    ≡ serial_sites s whole t h sites ++ played_by s t site (arrivals_at s.link (sent_in whole) t (h + length sites))
    ∷ []
sites_push s whole t h [] site =
    let e : h ≡ h + 0 = omega arith in
    ap (λ k. played_by s t site (arrivals_at s.link (sent_in whole) t k) ∷ []) e
sites_push s whole t h (x ∷ xs) site =
    let e : h + 1 + length xs ≡ h + suc (length xs) = omega arith in
    ap (λ ss. serial_tick (scripts_of s x.host.params) t x (due_at s whole t h x.scripts) ∷ ss)
    (sites_push s whole t (h + 1) xs site
    ∙ ap (λ k. serial_sites s whole t (h + 1) xs ++ played_by s t site (arrivals_at s.link (sent_in whole) t k) ∷ []) e)

-- one host more
pub sites_more : (s : Scenario) (whole : World) (t : ℕ) (olds hosts : World) (i : ℕ) (d site next : Site (List Script))
    (frames : List Arrival) → i < length olds → site ≡ get_or hosts i d
    → hosts ≡ serial_sites s whole t 0 (take i olds) ++ drop i olds → next ≡ played_by s t site frames
    → frames ≡ arrivals_at s.link (sent_in whole) t i
    → set hosts i next ≡ serial_sites s whole t 0 (take (i + 1) olds) ++ drop (i + 1) olds
sites_more s whole t olds hosts i d site next frames inside here is played came =
    let front : World = serial_sites s whole t 0 (take i olds) in
    let x : Site (List Script) = get_or olds i d in
    let e : slice_get olds i ≡ Some x = slice_get-get_or olds i d inside in
    let back : World = drop (i + 1) olds in
    let len : length front ≡ i = sites_len s whole t 0 (take i olds) ∙ taken_len olds i x e in
    let place : 0 + length (take i olds) ≡ i = omega (arith, taken_len olds i x e) in
    let cut : hosts ≡ front ++ x ∷ back = is ∙ ap (λ ss. front ++ ss) (cut_at olds i x e) in
    let same : site ≡ x =
    here
    ∙ (ap (λ ss. get_or ss i d) cut
    ∙ (ap (λ k. get_or (front ++ x ∷ back) k d) (sym len) ∙ get_or-append_seam front x back d)) in
    let all : serial_sites s whole t 0 (take (i + 1) olds) ≡ front ++ next ∷ [] =
    ap (serial_sites s whole t 0) (taken_more olds i x e)
    ∙ (sites_push s whole t 0 (take i olds) x
    ∙ ap (λ y. front ++ y ∷ [])
    (ap (λ k. played_by s t x (arrivals_at s.link (sent_in whole) t k)) place
    ∙ sym (played ∙ (ap (played_by s t site) came
    ∙ ap (λ y. played_by s t y (arrivals_at s.link (sent_in whole) t i)) same)))) in
    ap (λ ss. set ss i next) cut
    ∙ (set_at front x back next i len
    ∙ (sym (append_assoc front (next ∷ []) back) ∙ ap (λ ss. ss ++ back) (sym all)))
