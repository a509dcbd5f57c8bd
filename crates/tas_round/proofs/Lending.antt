-- What the hosts of a run sent, as it is lent to be written.
use Rattle.std.proofs.Common.{◌≡◌, ℕ, ◌+◌, ◌≤◌, List, [], ◌∷◌, ◌++◌, length, map, take, slice_get, Some, Result, Ok}
use Rattle.std.proofs.Common.{Err, IfOk, refl, ap, sym, subst, ◌∙◌}
use Rattle.std.proofs.lemmas.List.{map-append, take_all}
use Rattle.flow_state.specs.Flow as records
use Rattle.tas_model.specs.LegalHistory.{Legal}
use Rattle.tas_model.specs.Valid.{InRange}
use Rattle.host_rounds.specs.Logs.{Flow, HostRun}
use Rattle.host_rounds.specs.Lists.{Each}
use Rattle.tas_runs.specs.SentFrames.{ticks_from}
use Rattle.run_texts.specs.declared.frames.Frame.{Frame}
use Rattle.run_texts.specs.declared.frames.HostFrames.{HostFrames}
use Rattle.run_texts.specs.Frames.{history_of, seen_host, all_frames, AreShort, IsInOrder}
use Rattle.run_texts.proofs.Lists.{taken_more}
use Rattle.run_texts.proofs.Unnamed.{unnamed, ticks_unnamed}
use Rattle.local_host.specs.Live.{IsLegal}
use Rattle.tas_round.specs.declared.logs.HostRun as code
use Rattle.tas_round.specs.Runs.{host_in, unnamed_in, AreLegal, AreSentBy}

-- one host more
pub lent_more : (before after : List HostFrames) (hosts : List code.HostRun) (i : ℕ) (x : HostFrames) (h : code.HostRun)
    → slice_get hosts i ≡ Some h → map seen_host before ≡ map unnamed_in (take i hosts) → seen_host x ≡ unnamed_in h
    → after ≡ before ++ x ∷ [] → map seen_host after ≡ map unnamed_in (take (i + 1) hosts)
lent_more before after hosts i x h here first same more =
    ap (map seen_host) more
    ∙ (map-append seen_host before (x ∷ [])
    ∙ (ap (λ (l : List HostRun). l ++ seen_host x ∷ []) first
    ∙ (ap (λ (r : HostRun). map unnamed_in (take i hosts) ++ r ∷ []) same
    ∙ (sym (map-append unnamed_in (take i hosts) (h ∷ []))
    ∙ ap (map unnamed_in) (sym (taken_more hosts i h here))))))

pub lent_whole : (runs : List HostRun) (hosts : List code.HostRun) (n : ℕ) → length hosts ≤ n
    → runs ≡ map unnamed_in (take n hosts) → runs ≡ map unnamed_in hosts
lent_whole runs hosts n e h = h ∙ ap (map unnamed_in) (take_all n hosts e)

each_and : (P : HostRun → Type 0) (hs : List HostRun) (h : HostRun) → Each P hs → P h → Each P (hs ++ h ∷ [])
each_and P [] h all one = (one, tt)
each_and P (x ∷ xs) h all one = (all.0, each_and P xs h all.1 one)

pub legal_more : (before after : List HostFrames) (x : HostFrames) (h : code.HostRun) → after ≡ before ++ x ∷ []
    → Each AreLegal (map seen_host before) → seen_host x ≡ unnamed_in h → Each IsLegal h.flows
    → Each AreLegal (map seen_host after)
legal_more before after x h more all same one =
    let here : AreLegal (seen_host x) = subst AreLegal (sym same) (flows_legal h.flows one) in
    subst (Each AreLegal) (sym (ap (map seen_host) more ∙ map-append seen_host before (x ∷ [])))
    (each_and AreLegal (map seen_host before) (seen_host x) all here)
  where
    flows_legal : (rs : List records.History) → Each IsLegal rs
        → Each (λ (f : Flow). InRange f.params × Legal f.params f.entries) (map history_of rs)
    flows_legal [] all = tt
    flows_legal (r ∷ rs) all = (all.0, flows_legal rs all.1)

-- what is written of hosts doesn't show their names and addresses
pub frames_of : (count : ℕ) (hosts : List code.HostRun) → ticks_from count 0 (map unnamed_in hosts)
    ≡ ticks_from count 0 (map host_in hosts)
frames_of count hosts = ap (ticks_from count 0) (same hosts) ∙ ticks_unnamed count 0 (map host_in hosts)
  where
    same : (hs : List code.HostRun) → map unnamed_in hs ≡ unnamed (map host_in hs)
    same [] = refl
    same (h ∷ hs) = ap (λ (l : List HostRun). unnamed_in h ∷ l) (same hs)

-- what was put in order of the hosts that are lent
pub sent_of : {E : Type 0} (r : Result (List Frame) E) (lent : List HostFrames) (hosts : List code.HostRun)
    → map seen_host lent ≡ map unnamed_in hosts → AreShort (map seen_host lent)
    → IfOk r (IsInOrder (all_frames (map seen_host lent))) → IfOk r (AreSentBy hosts)
sent_of (Ok frames) lent hosts same short
    order = record {
      order = subst (λ (hs : List HostRun). IsInOrder (all_frames hs) frames) same order;
      short = subst
          AreShort same short;
    }
sent_of (Err e) lent hosts same short order = tt
