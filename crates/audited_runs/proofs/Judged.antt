-- A text that is legal is judged so, and not refused.
use Rattle.std.proofs.Common.{◌≡◌, ℕ, List, refl, sym, subst, ◌∙◌, ap}
use Rattle.trace_audit.specs.Forms.{Said, IsRefused, params_of}
use Rattle.trace_audit.specs.Right.{IsFirstWrong}
use Rattle.trace_audit.specs.Verdicts.{IsLegal, IsFound, begins_flow, is_entry}
use Rattle.trace_audit.specs.declared.auditing.Verdict.{Verdict}
use Rattle.trace_audit.specs.declared.auditing.Verdict.TheVariants as verdicts
use Rattle.trace_audit.proofs.OneForm.{one_form, not_refused}
use Rattle.std.proofs.Common.{count_by}

same_verdict : (a b c d : ℕ) → a ≡ c → b ≡ d → verdicts.Legal a b ≡ verdicts.Legal c d
same_verdict a b c d e f = rw (e, f) refl

pub one_verdict : (text : List ℕ) (flows entries : ℕ) → IsLegal text flows entries → (v : Verdict) → IsFound text v
    → v ≡ verdicts.Legal flows entries
one_verdict text flows entries legal (verdicts.Legal f e) found =
    let same : found.said ≡ legal.said = one_form text found.said legal.said found.form legal.form in
    same_verdict f e flows entries
    (found.flow_count ∙ (ap (λ (s : Said). count_by begins_flow s.lines) same ∙ sym legal.flow_count))
    (found.entry_count ∙ (ap (λ (s : Said). count_by is_entry s.lines) same ∙ sym legal.entry_count))
one_verdict text flows entries legal (verdicts.Illegal number) found =
    let same : found.said ≡ legal.said = one_form text found.said legal.said found.form legal.form in
    let wrong : IsFirstWrong (params_of legal.said.scenario.hosts) legal.said.lines found.line =
    subst (λ (s : Said). IsFirstWrong (params_of s.scenario.hosts) s.lines found.line) same found.wrong in
    absurd (wrong.wrong (legal.right found.line))

pub never_refused : (text : List ℕ) (flows entries number : ℕ) → IsLegal text flows entries → IsRefused text number → ⊥
never_refused text flows entries number legal refused = not_refused text legal.said number legal.form refused
