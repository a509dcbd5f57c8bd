-- What is known of a report, at a line that is at fault, and at its end.
use Rattle.std.proofs.Common.{◌≡◌, ℕ, suc, ◌+◌, ◌≤◌, ◌<◌, List, [], ◌∷◌, ◌++◌, length, take, drop, Option, Some, None}
use Rattle.std.proofs.Common.{refl, sym, ◌∙◌, ap, subst, inl, inr, arith}
use Rattle.std.proofs.lemmas.Option.{same_Some}
use Rattle.tas_model.specs.declared.entry.HostParams.{HostParams}
use Rattle.scenario_text.specs.declared.scenario.HostLine.{HostLine}
use Rattle.report_lines.specs.Lines.{Line}
use Rattle.report_lines.specs.Shown.{AreNames}
use Rattle.report_form.specs.declared.place.Place.{Place}
use Rattle.report_form.specs.declared.place.Place.TheVariants as places
use Rattle.report_form.specs.Reports.{IsReport, MayBegin}
use Rattle.report_form.specs.Places.{led}
use Rattle.report_form.proofs.Left.{left_by}
use Rattle.report_form.proofs.Led.{report_leads}
use Rattle.report_form.proofs.Beginnings.{may_begin}
use Rattle.trace_audit.specs.Forms.{names_of, params_of, addrs_of, IsSaid, AreSaid}
use Rattle.trace_audit.specs.Watching.{HasRead, HasTaken, HasReadSome, IsJudgedBy, verdict_of, IsVerdictOn}
use Rattle.trace_audit.specs.Watching.{AreCounted, IsReportVerdict, IsReportFault}
use Rattle.trace_audit.specs.declared.auditing.AuditFault.TheVariants as faults
use Rattle.trace_audit.specs.declared.auditor.Auditor.{Auditor}
use Rattle.trace_audit.specs.declared.watch.Watch.{Watch}
use Rattle.trace_audit.specs.declared.counts.Counts.{Counts}
use Rattle.trace_audit.proofs.Lists.{take_next, below_next, take_rest, all_read}
use Rattle.trace_audit.proofs.Saying.{said_more, LastSaid, last_said, said_once}

next_is : (n : ℕ) → suc n ≡ n + 1
next_is n = omega arith

-- one line more was read
pub read_more : (names : List (List ℕ)) (hosts : List HostParams) (a b : Auditor) (texts : List (List ℕ)) (count : ℕ)
    (text : List ℕ) (rest : List (List ℕ)) → HasReadSome names hosts a texts count → drop count texts ≡ text ∷ rest
    → ((earlier : List Line) → HasRead hosts a earlier → HasTaken names hosts b earlier text)
    → HasReadSome names hosts b texts (count + 1)
read_more names hosts a b texts count text rest some next takes =
    let taken = takes some.lines some.read in
    record {
      lines = some.lines ++ taken.said ∷ [];
      said = subst (λ (ts : List (List ℕ)). AreSaid names ts (some.lines ++ taken.said ∷ []))
          (sym (take_next texts count text rest next)
          ∙ ap (λ (n : ℕ). take n texts) (next_is count))
          (said_more names (take count texts) some.lines text taken.said some.said taken.is);
      read = taken.read;
    }

-- nothing was read
pub none_read : (names : List (List ℕ)) (hosts : List HostParams) (a : Auditor) (texts : List (List ℕ))
    → ((hs : List HostParams) → HasRead hs a []) → HasReadSome names hosts a texts 0
none_read names hosts a texts read = record { lines = []; said = tt; read = read hosts }

-- ----- a line at fault
not_begun : (names : List (List ℕ)) → AreNames names → (addrs : List ℕ) (texts : List (List ℕ)) (text : List ℕ)
    (lines more : List Line) → AreSaid names texts lines
    → ((said : Line) → IsSaid names text said → MayBegin addrs (lines ++ said ∷ []) → ⊥)
    → AreSaid names (texts ++ text ∷ []) more → MayBegin addrs more → ⊥
not_begun names ok addrs texts text lines more all refused said begins =
    let last : LastSaid names texts text more = last_said names texts text more said in
    let same : last.earlier ≡ lines = said_once names ok texts last.earlier lines last.before all in
    refused last.said last.last
    (subst (λ (ls : List Line). MayBegin addrs (ls ++ last.said ∷ [])) same
    (subst (MayBegin addrs) last.all begins))

pub fault_at : (hosts : List HostLine) (a : Auditor) (texts : List (List ℕ)) (count before : ℕ)
    (text : List ℕ) (rest : List (List ℕ)) → AreNames (names_of hosts)
    → HasReadSome (names_of hosts) (params_of hosts) a texts count → drop count texts ≡ text ∷ rest
    → ((earlier : List Line) → HasRead (params_of hosts) a earlier → (said : Line) → IsSaid (names_of hosts) text said
    → MayBegin (addrs_of (params_of hosts)) (earlier ++ said ∷ []) → ⊥)
    → IsReportFault hosts before texts (faults.Refused (before + count + 1))
fault_at hosts a texts count before text rest ok some next refused = (
  count,
  record {
    before = (
      some.lines,
      some.said,
      may_begin (addrs_of (params_of hosts)) some.lines a.place some.read.place,
    );
    here = inl (
      within,
      λ begins. not_begun (names_of hosts) ok (addrs_of (params_of hosts)) (take count texts) text
          some.lines begins.0 some.said (refused some.lines some.read)
          (subst (λ (ts : List (List ℕ)). AreSaid (names_of hosts) ts begins.0)
          (ap (λ (n : ℕ). take n texts) (sym (next_is count)) ∙ take_next texts count text rest next) begins.1)
          begins.2,
    );
  },
  refl,
) where
  within : count < length texts
  within = let h : suc count ≤ length texts = below_next texts count text rest next in omega (arith, h)

-- ----- the end
-- all of them were read
pub fault_end : (hosts : List HostLine) (a : Auditor) (texts : List (List ℕ)) (count before : ℕ)
    → AreNames (names_of hosts) → HasReadSome (names_of hosts) (params_of hosts) a texts count
    → drop count texts ≡ [] → count ≡ length texts → (a.place ≡ places.Ended → ⊥)
    → IsReportFault hosts before texts (faults.Refused (before + count + 1))
fault_end hosts a texts count before ok some none all open_ = (
  count,
  record {
    before = (
      some.lines,
      some.said,
      may_begin (addrs_of (params_of hosts)) some.lines a.place some.read.place,
    );
    here = inr (
      all,
      λ report. open_ (ended report.0 (said_once (names_of hosts) ok texts report.0 some.lines report.1
          (subst (λ (ts : List (List ℕ)). AreSaid (names_of hosts) ts some.lines) (take_rest texts count none)
          some.said))
          report.2),
    );
  },
  refl,
) where
  ended : (lines : List Line) → lines ≡ some.lines → IsReport (addrs_of (params_of hosts)) lines
      → a.place ≡ places.Ended
  ended lines same report =
      let end : led (addrs_of (params_of hosts)) places.Start some.lines ≡ Some places.Ended =
      subst (λ (ls : List Line). led (addrs_of (params_of hosts)) places.Start ls ≡ Some places.Ended) same
      (report_leads (addrs_of (params_of hosts)) lines report) in
      same_Some a.place places.Ended (sym some.read.place ∙ end)

on_lines : (hosts : List HostParams) (before : ℕ) (wrong : Option ℕ) (w : Watch) (c : Counts) (lines : List Line)
    → IsJudgedBy hosts wrong w lines → AreCounted c lines → IsVerdictOn hosts before lines (verdict_of before wrong c)
on_lines hosts before None w c lines judged counted = (judged.0, counted.flows, counted.entries)
on_lines hosts before (Some n) w c lines judged counted = (n, judged, refl)

pub verdict_at : (hosts : List HostLine) (a : Auditor) (texts : List (List ℕ)) (count before : ℕ)
    → HasReadSome (names_of hosts) (params_of hosts) a texts count → drop count texts ≡ [] → a.place ≡ places.Ended
    → IsReportVerdict hosts before texts (verdict_of before a.wrong a.counts)
verdict_at hosts a texts count before some none end = record {
  lines = some.lines;
  said = subst (λ (ts : List (List ℕ)). AreSaid (names_of hosts) ts some.lines) (take_rest texts count none) some.said;
  order = left_by (addrs_of (params_of hosts)) places.Start some.lines
      (some.read.place ∙ ap (λ (p : Place). Some p) end);
  found = on_lines (params_of hosts) before a.wrong a.watch a.counts some.lines some.read.judged some.read.counts;
}

-- ----- the same of hosts whose names and parameters are known
known : (lines : List HostLine) (names : List (List ℕ)) (hosts : List HostParams) (a : Auditor)
    (texts : List (List ℕ)) (count : ℕ) → names_of lines ≡ names → params_of lines ≡ hosts
    → HasReadSome names hosts a texts count → HasReadSome (names_of lines) (params_of lines) a texts count
known lines names hosts a texts count of_names of_params some =
    subst (λ (ns : List (List ℕ)). HasReadSome ns (params_of lines) a texts count) (sym of_names)
    (subst (λ (hs : List HostParams). HasReadSome names hs a texts count) (sym of_params) some)

pub fault_on : (lines : List HostLine) (names : List (List ℕ)) (hosts : List HostParams) (a : Auditor)
    (texts : List (List ℕ)) (count before : ℕ) (text : List ℕ) (rest : List (List ℕ)) → names_of lines ≡ names
    → params_of lines ≡ hosts → AreNames names → HasReadSome names hosts a texts count → drop count texts ≡ text ∷ rest
    → ((earlier : List Line) → HasRead hosts a earlier → (said : Line) → IsSaid names text said
    → MayBegin (addrs_of hosts) (earlier ++ said ∷ []) → ⊥)
    → IsReportFault lines before texts (faults.Refused (before + count + 1))
fault_on lines names hosts a texts count before text rest of_names of_params ok some next refused =
    fault_at lines a texts count before text rest (subst AreNames (sym of_names) ok)
    (known lines names hosts a texts count of_names of_params some) next
    (subst (λ (hs : List HostParams). (earlier : List Line) → HasRead hs a earlier → (said : Line)
    → IsSaid (names_of lines) text said → MayBegin (addrs_of hs) (earlier ++ said ∷ []) → ⊥) (sym of_params)
    (subst (λ (ns : List (List ℕ)). (earlier : List Line) → HasRead hosts a earlier → (said : Line)
    → IsSaid ns text said → MayBegin (addrs_of hosts) (earlier ++ said ∷ []) → ⊥) (sym of_names) refused))

pub end_on : (lines : List HostLine) (names : List (List ℕ)) (hosts : List HostParams) (a : Auditor)
    (texts : List (List ℕ)) (count before : ℕ) → names_of lines ≡ names → params_of lines ≡ hosts → AreNames names
    → HasReadSome names hosts a texts count → drop count texts ≡ [] → count ≤ length texts
    → (a.place ≡ places.Ended → ⊥) → IsReportFault lines before texts (faults.Refused (before + count + 1))
end_on lines names hosts a texts count before of_names of_params ok some none within open_ =
    fault_end lines a texts count before (subst AreNames (sym of_names) ok)
    (known lines names hosts a texts count of_names of_params some) none (all_read texts count none within) open_

pub verdict_on : (lines : List HostLine) (names : List (List ℕ)) (hosts : List HostParams) (a : Auditor)
    (texts : List (List ℕ)) (count before : ℕ) → names_of lines ≡ names → params_of lines ≡ hosts
    → HasReadSome names hosts a texts count → drop count texts ≡ [] → a.place ≡ places.Ended
    → IsReportVerdict lines before texts (verdict_of before a.wrong a.counts)
verdict_on lines names hosts a texts count before of_names of_params some none end =
    verdict_at lines a texts count before (known lines names hosts a texts count of_names of_params some) none end
