-- From what is found in the input of an audit to how the program ends.
use Rattle.std.proofs.Common.{◌≡◌, ◌⊎◌, inl, inr, ℕ, ◌<◌, List, [], length, Option, Some, Result}
use Rattle.std.proofs.Common.{IfSome, refl, subst, arith}
use Rattle.tas_num.specs.Streams.{Wrote}
use Rattle.tas_num.specs.declared.outside.IoFault.{IoFault}
use Rattle.trace_audit.specs.Verdicts.{IsFound, IsIllegal}
use Rattle.trace_audit.specs.declared.auditing.Verdict.{Verdict}
use Rattle.trace_audit.specs.declared.auditing.Verdict.TheVariants as verdicts
use Rattle.trace_audit.specs.Forms.{IsRefused}
use Rattle.trace_audit.proofs.OneForm.{not_refused}
use Rattle.tas_top.specs.Audits.{ReadsWhole, Unaudited, Audited, End, AllLegal, WritesLegal, legal_line, Why}
use Rattle.tas_top.specs.Audits.{FirstIllegal, Stopped, status_at, EndsSo, IsAuditable}
use Rattle.tas_top.specs.declared.stop.Stop.{Stop}
use Rattle.tas_top.specs.declared.stop.Stop.TheVariants.{Stalled, Words, Line, Record, Read, Write, Memory, TooLong}

-- ----- what came of the line that says that all is legal
pub legal_written : (a : Audited) (v : Verdict) (flows entries : ℕ) (r s : Result (Unit {0}) IoFault)
    → IfSome a.source.left (λ b. IsFound b v) → v ≡ verdicts.Legal flows entries → ReadsWhole a.source a.left
    → Wrote a.sink r a.written (legal_line flows entries) [] → r ≡ s → WritesLegal a s flows entries
legal_written a v flows entries r s found is read wrote same = record {
  legal = subst (λ (w : Verdict). IfSome a.source.left (λ b. IsFound b w)) is found;
  read = read;
  wrote = subst (λ (x : Result (Unit {0}) IoFault). Wrote a.sink x a.written (legal_line flows entries) []) same wrote;
}

-- the first line that is not right
pub illegal_found : (a : Audited) (v : Verdict) (number : ℕ) → IfSome a.source.left (λ b. IsFound b v)
    → v ≡ verdicts.Illegal number → IfSome a.source.left (λ b. IsIllegal b number)
illegal_found a v number found is = subst (λ (w : Verdict). IfSome a.source.left (λ b. IsFound b w)) is found

-- nothing was found, and nothing written
pub unaudited_why : (a : Audited) (stop : Stop) → Unaudited a.source a.left stop → a.written ≡ a.sink → Why a stop
unaudited_why a Memory why same = inl (why, same)
unaudited_why a Write why same = absurd why
unaudited_why a (Line number) why same = (why, same)
unaudited_why a (Record number) why same = (why, same)
unaudited_why a Read why same = (why, same)
unaudited_why a TooLong why same = (why, same)
unaudited_why a Stalled why same = (why, same)
unaudited_why a Words why same = (why, same)

-- ----- a right input
-- what holds of the input that is told
told_so : (left : Option (List ℕ)) (b : List ℕ) (P : List ℕ → Type 0) → left ≡ Some b → IfSome left P → P b
told_so left b P e fact = subst (λ (i : Option (List ℕ)). IfSome i P) e fact

-- a right input ends well
pub ends_well : (a : Audited) (end : End) → EndsSo a end → IsAuditable a
    → (status_at end ≡ 0) ⊎ ((status_at end ≡ 9) ⊎ (status_at end ≡ 6))
ends_well a (AllLegal flows entries) ends w = inl refl
ends_well a (FirstIllegal number) ends w = inr (inl refl)
ends_well a (Stopped Memory) ends w = inr (inr refl)
ends_well a (Stopped (Line number)) ends w =
    absurd (not_refused w.input w.said number w.form
    (told_so a.source.left w.input (λ (b : List ℕ). IsRefused b number) w.tells ends.why.0.refused))
ends_well a (Stopped Read) ends w = absurd (w.read ends.why.0)
ends_well a (Stopped TooLong) ends w =
    let long : 67108864 < length w.input =
    told_so a.source.left w.input (λ (b : List ℕ). 67108864 < length b) w.tells ends.why.0.long in
    absurd (omega (arith, long, w.short))
ends_well a (Stopped Write) ends w = absurd (w.written ends.why.2.wrote.counts.0)
ends_well a (Stopped Stalled) ends w = absurd ends.why.0
ends_well a (Stopped Words) ends w = absurd ends.why.0
ends_well a (Stopped (Record number)) ends w = absurd ends.why.0
