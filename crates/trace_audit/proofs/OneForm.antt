-- A text is of its form in one way, and then it is not refused.
use Rattle.std.proofs.Common.{drop, zero}
use Rattle.std.proofs.Common.{◌≡◌, ℕ, suc, ◌+◌, ◌<◌, true, false, List, [], ◌∷◌, ◌++◌, length, take, Result, Ok, Err}
use Rattle.std.proofs.Common.{refl, sym, ◌∙◌, ap, subst, inl, inr, ◌⊎◌}
use Rattle.std.specs.List.{concat}
use Rattle.std.proofs.lemmas.List.{take-append-drop}
use Rattle.report_lines.specs.Lines.{Line}
use Rattle.report_form.specs.Reports.{IsReport, MayBegin}
use Rattle.scenario_text.specs.Reads.{reads}
use Rattle.scenario_text.specs.declared.scenario.HostLine.{HostLine}
use Rattle.scenario_text.specs.declared.scenario.Scenario.{Scenario}
use Rattle.scenario_text.specs.declared.reading.ScenarioFault.{ScenarioFault}
use Rattle.scenario_text.specs.declared.reading.ScenarioFault.TheVariants as faults
use Rattle.trace_audit.specs.TextLines.{text_lines, mark, is_mark, LacksMark, AreHalves}
use Rattle.trace_audit.specs.Forms.{names_of, params_of, addrs_of, AreSaid, BeginReport, AreReport, IsFault}
use Rattle.trace_audit.specs.Forms.{Said, IsForm, IsRefused}
use Rattle.trace_audit.proofs.Lists.{same_head, same_tail}
use Rattle.trace_audit.proofs.Saying.{said_once}
use Rattle.trace_audit.proofs.HostNames.{names_are}

-- ----- halves
mark_is : is_mark mark ≡ true
mark_is = refl

not_mark : (l : List ℕ) → is_mark l ≡ false → l ≡ mark → ⊥
not_mark l no_ e = absurd (cc (ap is_mark e, no_, mark_is))

-- the lines before the first line `==`, and those behind it
same_halves : (a b r q : List (List ℕ)) → LacksMark a → LacksMark b
    → ◌≡◌ {A = List (List ℕ)} (a ++ mark ∷ r) (b ++ mark ∷ q) → (a ≡ b) × (r ≡ q)
same_halves [] [] r q na nb e = (refl, same_tail mark mark r q e)
same_halves [] (y ∷ ys) r q na nb e = absurd (not_mark y nb.0 (sym (same_head mark y r (ys ++ mark ∷ q) e)))
same_halves (x ∷ xs) [] r q na nb e = absurd (not_mark x na.0 (same_head x mark (xs ++ mark ∷ r) q e))
same_halves (x ∷ xs) (y ∷ ys) r q na nb e =
    let rest = same_halves xs ys r q na.1 nb.1 (same_tail x y (xs ++ mark ∷ r) (ys ++ mark ∷ q) e) in
    let here : x ≡ y = same_head x y (xs ++ mark ∷ r) (ys ++ mark ∷ q) e in
    (rw (here, rest.0) refl, rest.1)

one_half : (text : List ℕ) (a b r q : List (List ℕ)) → AreHalves text a r → AreHalves text b q → (a ≡ b) × (r ≡ q)
one_half text a b r q first second =
    same_halves a b r q first.first second.first (sym first.lines ∙ second.lines)

-- a text without such a line has no halves
lacks_none : (a r : List (List ℕ)) → LacksMark (a ++ mark ∷ r) → ⊥
lacks_none [] r lacks = absurd (cc (lacks.0, mark_is))
lacks_none (x ∷ xs) r lacks = lacks_none xs r lacks.1

no_halves : (text : List ℕ) (a r : List (List ℕ)) → LacksMark (text_lines text) → AreHalves text a r → ⊥
no_halves text a r lacks halves = lacks_none a r (subst LacksMark halves.lines lacks)

-- ----- one form
same_scenario : (s t : Scenario) → ◌≡◌ {A = Result Scenario ScenarioFault} (Ok s) (Ok t) → s ≡ t
same_scenario s t e = ap (of_ok s) e where
  of_ok : Scenario → Result Scenario ScenarioFault → Scenario
  of_ok s (Ok u) = u
  of_ok s (Err fault) = s

said_of : (s t : Scenario) (m n : ℕ) (a b : List Line) → s ≡ t → m ≡ n → a ≡ b
    → ◌≡◌ {A = Said} (record { scenario = s; before = m; lines = a }) (record { scenario = t; before = n; lines = b })
said_of s t m n a b first second third = rw (first, second, third) refl

pub one_form : (text : List ℕ) (one other : Said) → IsForm text one → IsForm text other → one ≡ other
one_form text one other first second =
    said_of one.scenario other.scenario one.before other.before one.lines other.lines scenario
    (first.before ∙ (ap (λ (l : List (List ℕ)). length l + 1) halves.0 ∙ sym second.before)) lines where
      halves : (first.scenario ≡ second.scenario) × (first.report ≡ second.report)
      halves = one_half text first.scenario second.scenario first.report second.report first.halves second.halves

      scenario : one.scenario ≡ other.scenario
      scenario = same_scenario one.scenario other.scenario
          (sym first.is ∙ (ap (λ (l : List (List ℕ)). reads (concat l)) halves.0 ∙ second.is))

      lines : one.lines ≡ other.lines
      lines =
          said_once (names_of other.scenario.hosts) (names_are (concat second.scenario) other.scenario second.is)
          second.report one.lines other.lines
          (subst (λ (l : List (List ℕ)). AreSaid (names_of other.scenario.hosts) l one.lines) halves.1
          (subst (λ (s : Scenario). AreSaid (names_of s.hosts) first.report one.lines) scenario first.lines))
          second.lines

-- ----- not refused
not_both : (text : List ℕ) (s : Scenario) (fault : ScenarioFault) → reads text ≡ Ok s → reads text ≡ Err fault → ⊥
not_both text s fault ok err = absurd (cc (ok, err))

-- the first lines of a report begin one
front_said : (names : List (List ℕ)) (texts : List (List ℕ)) (lines : List Line) (n : ℕ) → AreSaid names texts lines
    → AreSaid names (take n texts) (take n lines)
front_said names [] [] zero said = tt
front_said names [] [] (suc n) said = tt
front_said names [] (l ∷ ls) n said = absurd said
front_said names (t ∷ ts) [] n said = absurd said
front_said names (t ∷ ts) (l ∷ ls) zero said = tt
front_said names (t ∷ ts) (l ∷ ls) (suc n) said = (said.0, front_said names ts ls n said.1)

front_begins : (addrs : List ℕ) (lines : List Line) (n : ℕ) → IsReport addrs lines → MayBegin addrs (take n lines)
front_begins addrs lines n report =
    record { rest = drop n lines; whole = subst (IsReport addrs) (sym (take-append-drop n lines)) report }

no_fault : (hosts : List HostLine) (texts : List (List ℕ)) (lines : List Line) (right : ℕ)
    → AreSaid (names_of hosts) texts lines → IsReport (addrs_of (params_of hosts)) lines → IsFault hosts texts right → ⊥
no_fault hosts texts lines right said report fault = by_here fault.here where
  by_here : ((right < length texts) × (BeginReport hosts (take (right + 1) texts) → ⊥))
      ⊎ ((right ≡ length texts) × (AreReport hosts texts → ⊥)) → ⊥
  by_here (inl next) = next.1 (
    take (right + 1) lines,
    front_said (names_of hosts) texts lines (right + 1) said,
    front_begins (addrs_of (params_of hosts)) lines (right + 1) report,
  )
  by_here (inr end) = end.1 (lines, said, report)

pub not_refused : (text : List ℕ) (said : Said) (number : ℕ) → IsForm text said → IsRefused text number → ⊥
not_refused text said number form (inl unmarked) =
    no_halves text form.scenario form.report unmarked.0 form.halves
not_refused text said number form (inr (inl none)) = by_halves none.0 none.1 none.2 none.3 none.4 where
  by_halves : (scenario report : List (List ℕ)) → AreHalves text scenario report → (kind : ℕ)
      → reads (concat scenario) ≡ Err (faults.Refused number kind) → ⊥
  by_halves scenario report halves kind err =
      let same = one_half text form.scenario scenario form.report report form.halves halves in
      not_both (concat scenario) said.scenario (faults.Refused number kind)
      (subst (λ (l : List (List ℕ)). reads (concat l) ≡ Ok said.scenario) same.0 form.is) err
not_refused text said number form (inr (inr none)) = by_halves none.0 none.1 none.2 none.3 none.4 none.5 none.6 where
  by_halves : (scenario report : List (List ℕ)) → AreHalves text scenario report → (s : Scenario)
      → reads (concat scenario) ≡ Ok s → (right : ℕ) → IsFault s.hosts report right → ⊥
  by_halves scenario report halves s reads_ right fault =
      let same = one_half text form.scenario scenario form.report report form.halves halves in
      let one : said.scenario ≡ s = same_scenario said.scenario s
      (sym form.is ∙ (ap (λ (l : List (List ℕ)). reads (concat l)) same.0 ∙ reads_)) in
      no_fault s.hosts report said.lines right
      (subst (λ (t : Scenario). AreSaid (names_of t.hosts) report said.lines) one
      (subst (λ (l : List (List ℕ)). AreSaid (names_of said.scenario.hosts) l said.lines) same.1 form.lines))
      (subst (λ (t : Scenario). IsReport (addrs_of (params_of t.hosts)) said.lines) one form.order) fault
