-- Texts whose last line ends: what stands behind them begins a line.
use Rattle.std.proofs.Common.{◌≡◌, ℕ, Bool, true, false, cond, eqb, List, [], ◌∷◌, ◌++◌, refl, sym, ap, subst, ◌∙◌}
use Rattle.std.proofs.Common.{append_assoc}
use Rattle.std.specs.Prelude.{codes, decimal}
use Rattle.std.specs.List.{concat, flat_map}
use Rattle.link_script.specs.declared.script.Target.{Target}
use Rattle.link_script.specs.declared.script.DropEach.{DropEach}
use Rattle.link_script.specs.declared.script.LinkAct.{LinkAct}
use Rattle.link_script.specs.declared.script.LinkAct.TheVariants as acts
use Rattle.scenario_text.specs.declared.scenario.HostLine.{HostLine}
use Rattle.scenario_text.specs.declared.scenario.AppLine.{AppLine}
use Rattle.scenario_text.specs.declared.scenario.MoveLine.{MoveLine}
use Rattle.scenario_text.specs.declared.scenario.KillLine.{KillLine}
use Rattle.scenario_text.specs.declared.scenario.Scenario.{Scenario}
use Rattle.scenario_text.specs.declared.scenario.Step.{Step}
use Rattle.scenario_text.specs.declared.scenario.Step.TheVariants as steps
use Rattle.scenario_text.specs.Canonical.{line_of, host_text, step_text, app_text, act_line, act_text, each_text}
use Rattle.scenario_text.specs.Canonical.{move_text, kill_text, canonical, address_text, params_words, name_at}
use Rattle.scenario_text.specs.Canonical.{holding_words}
use Rattle.trace_audit.specs.TextLines.{onto, text_lines, mark}

-- ----- all lines are the text
onto_whole : (c : ℕ) (ls : List (List ℕ)) → concat (onto c ls) ≡ c ∷ concat ls
onto_whole c [] = refl
onto_whole c (l ∷ ls) = refl

pub lines_whole : (text : List ℕ) → concat (text_lines text) ≡ text
lines_whole [] = refl
lines_whole (c ∷ cs) = by_first (eqb c 10) (lines_whole cs) where
  by_first : (b : Bool) → concat (text_lines cs) ≡ cs
      → concat (cond b ((c ∷ []) ∷ text_lines cs) (onto c (text_lines cs))) ≡ c ∷ cs
  by_first true e = ap (λ (t : List ℕ). c ∷ t) e
  by_first false e = onto_whole c (text_lines cs) ∙ ap (λ (t : List ℕ). c ∷ t) e

-- ----- texts that end
-- Behind the text a line begins.
pub record Ends (text : List ℕ) : Type 0 where
  pub cuts : (rest : List ℕ) → text_lines (text ++ rest) ≡ text_lines text ++ text_lines rest

none_ends : Ends []
none_ends = record { cuts = λ rest. refl }

both_end : {a b : List ℕ} → Ends a → Ends b → Ends (a ++ b)
both_end {a} {b} one other = record {
  cuts = λ rest. ap text_lines (append_assoc a b rest)
      ∙ (one.cuts (b ++ rest)
      ∙ (ap (λ (ls : List (List ℕ)). text_lines a ++ ls) (other.cuts rest)
      ∙ (sym (append_assoc (text_lines a) (text_lines b) (text_lines rest))
      ∙ ap (λ (ls : List (List ℕ)). ls ++ text_lines rest) (sym (one.cuts b)))));
}

-- a line, and what stands behind it
record HasFirst (w : List ℕ) : Type 0 where
  pub first : List ℕ
  pub later : List (List ℕ)
  pub alone : text_lines (w ++ 10 ∷ []) ≡ first ∷ later
  pub before : (rest : List ℕ) → text_lines ((w ++ 10 ∷ []) ++ rest) ≡ (first ∷ later) ++ text_lines rest

has_first : (w : List ℕ) → HasFirst w
has_first [] = record { first = 10 ∷ []; later = []; alone = refl; before = λ rest. refl }
has_first (c ∷ cs) = by_first (eqb c 10) refl (has_first cs) where
  by_first : (b : Bool) → eqb c 10 ≡ b → HasFirst cs → HasFirst (c ∷ cs)
  by_first true e h = record {
    first = c ∷ [];
    later = h.first ∷ h.later;
    alone = ap (λ (t : Bool). cond t ((c ∷ []) ∷ text_lines (cs ++ 10 ∷ [])) (onto c (text_lines (cs ++ 10 ∷ [])))) e
        ∙ ap (λ (ls : List (List ℕ)). (c ∷ []) ∷ ls) h.alone;
    before = λ rest. ap (λ (t : Bool). cond t ((c ∷ []) ∷ text_lines ((cs ++ 10 ∷ []) ++ rest))
        (onto c (text_lines ((cs ++ 10 ∷ []) ++ rest)))) e
        ∙ ap (λ (ls : List (List ℕ)). (c ∷ []) ∷ ls) (h.before rest);
  }
  by_first false e h = record {
    first = c ∷ h.first;
    later = h.later;
    alone = ap (λ (t : Bool). cond t ((c ∷ []) ∷ text_lines (cs ++ 10 ∷ [])) (onto c (text_lines (cs ++ 10 ∷ [])))) e
        ∙ ap (onto c) h.alone;
    before = λ rest. ap (λ (t : Bool). cond t ((c ∷ []) ∷ text_lines ((cs ++ 10 ∷ []) ++ rest))
        (onto c (text_lines ((cs ++ 10 ∷ []) ++ rest)))) e
        ∙ ap (onto c) (h.before rest);
  }

ended_ends : (w : List ℕ) → Ends (w ++ 10 ∷ [])
ended_ends w =
    let h = has_first w in
    record { cuts = λ rest. h.before rest ∙ ap (λ (ls : List (List ℕ)). ls ++ text_lines rest) (sym h.alone) }

line_ends : (word : List ℕ) (words : List (List ℕ)) → Ends (line_of word words)
line_ends word words =
    subst Ends (append_assoc word (flat_map (λ (w : List ℕ). 32 ∷ w) words) (10 ∷ []))
    (ended_ends (word ++ flat_map (λ (w : List ℕ). 32 ∷ w) words))

all_end : {X : Type 0} (f : X → List ℕ) → ((x : X) → Ends (f x)) → (xs : List X) → Ends (flat_map f xs)
all_end f each [] = none_ends
all_end f each (x ∷ xs) = both_end (each x) (all_end f each xs)

-- ----- the text of a scenario
step_ends : (step : Step) → Ends (step_text step)
step_ends (steps.Listen name port) = line_ends (codes "listen") (name ∷ decimal port ∷ [])
step_ends (steps.Accept name listener) = line_ends (codes "accept") (name ∷ listener ∷ [])
step_ends (steps.Connect name host port) = line_ends (codes "connect") (name ∷ host ∷ decimal port ∷ [])
step_ends (steps.Send name text) = line_ends (codes "send") (name ∷ text ∷ [])
step_ends (steps.Fill name count) = line_ends (codes "fill") (name ∷ decimal count ∷ [])
step_ends (steps.Recv name count) = line_ends (codes "recv") (name ∷ decimal count ∷ [])
step_ends (steps.Drain name) = line_ends (codes "drain") (name ∷ [])
step_ends (steps.Shut name) = line_ends (codes "shut") (name ∷ [])
step_ends (steps.Close name) = line_ends (codes "close") (name ∷ [])
step_ends (steps.Abort name) = line_ends (codes "abort") (name ∷ [])
step_ends (steps.Wait ticks) = line_ends (codes "wait") (decimal ticks ∷ [])

app_ends : (a : AppLine) → Ends (app_text a)
app_ends a = both_end (line_ends (codes "app") (a.host ∷ a.name ∷ [])) (all_end step_text step_ends a.steps)

act_ends : (host flow number : List ℕ) (act : LinkAct) → Ends (act_line host flow number act)
act_ends host flow number acts.Drop = line_ends (codes "drop") (host ∷ flow ∷ number ∷ [])
act_ends host flow number acts.Dup = line_ends (codes "dup") (host ∷ flow ∷ number ∷ [])
act_ends host flow number (acts.Delay ticks) =
    line_ends (codes "delay") (host ∷ flow ∷ number ∷ decimal ticks ∷ [])
act_ends host flow number (acts.Corrupt place) =
    line_ends (codes "corrupt") (host ∷ flow ∷ number ∷ decimal place ∷ [])

pub canonical_ends : (s : Scenario) → Ends (canonical s)
canonical_ends s =
    both_end (both_end (both_end (both_end (both_end (both_end
    (line_ends (codes "limit") (decimal s.limit ∷ []))
    (all_end host_text (λ (h : HostLine). line_ends (codes "host")
    (h.name ∷ address_text h.params.addr ∷ params_words h.params)) s.hosts))
    (all_end app_text app_ends s.apps))
    (all_end (act_text s.hosts) (λ (line : Target × LinkAct). act_ends (name_at s.hosts line.0.host)
    (decimal line.0.flow)
    (decimal line.0.number) line.1) s.link.acts))
    (all_end (each_text s.hosts) (λ (line : DropEach). line_ends (codes "dropeach")
    (name_at s.hosts line.host ∷ decimal line.k ∷ [])) s.link.drops))
    (all_end move_text (λ (m : MoveLine). line_ends (codes "move")
    (m.host ∷ decimal m.group ∷ decimal m.core ∷ codes "at" ∷ decimal m.at ∷ [])) s.moves))
    (all_end kill_text (λ (k : KillLine). line_ends (codes "kill")
    (k.host ∷ k.app ∷ codes "at" ∷ decimal k.at ∷ holding_words k.holding)) s.kills)

-- A text that ends in a line, as one with an LF behind it.
pub text_ends : (text front : List ℕ) → text ≡ front ++ 10 ∷ [] → Ends text
text_ends text front e = subst Ends (sym e) (ended_ends front)

-- Such a text, the mark and another text have the lines of these.
pub marked_lines : (scenario : List ℕ) → Ends scenario → (text : List ℕ)
    → text_lines (scenario ++ mark ++ text) ≡ text_lines scenario ++ mark ∷ text_lines text
marked_lines scenario ends text = ap text_lines (append_assoc scenario mark text) ∙ ends.cuts (mark ++ text)
