-- Callers, reasons, frames and addresses: what is read is what is written.
use Rattle.std.proofs.Common.{◌≡◌, ℕ, ◌+◌, ◌*◌, ◌/◌, ◌%◌, ◌^◌, ◌≤◌, ◌<◌, Bool, true}
use Rattle.std.proofs.Common.{List, ◌++◌, Some, refl, sym}
use Rattle.std.proofs.Common.{◌∙◌, arith, append_assoc}
use Rattle.std.specs.Prelude.{codes, decimal, ⊤}
use Rattle.scenario_text.specs.Words.{is_digit}
use Rattle.tas_model.specs.declared.entry.Caller.{Caller}
use Rattle.tas_model.specs.declared.entry.Caller.TheVariants.{Slow, Core, App}
use Rattle.tas_model.specs.declared.entry.Reason.{Reason}
use Rattle.tas_model.specs.declared.entry.Reason.TheVariants as reasons
use Rattle.tas_runs.specs.Report as report
use Rattle.report_lines.specs.Fronts.{with, or, behind, word, made, after, one_of, u8, u32}
use Rattle.report_lines.specs.Origins.{callers, caller, reasons_of, reason}
use Rattle.report_lines.specs.Origins.{addr_of, addr, socket}
use Rattle.report_lines.specs.Shown.{IsCaller}
use Rattle.report_lines.proofs.Texts.{stops}
use Rattle.report_lines.proofs.Exactness.{Spells, Exact, word_spells, word_again, made_spells, made_again}
use Rattle.report_lines.proofs.Exactness.{made_exact}
use Rattle.report_lines.proofs.Exactness.{after_spells, after_again, after_exact, both_exact, one_of_spells}
use Rattle.report_lines.proofs.Exactness.{one_of_again}
use Rattle.report_lines.proofs.Numbers.{number_exact}
use Rattle.report_lines.proofs.SegTexts.{u32_exact, u16_exact}

-- ----- callers
caller_spells : Spells report.caller_text IsCaller caller
unfolding caller
caller_spells = one_of_spells report.caller_text IsCaller callers (
  word_spells report.caller_text IsCaller (codes "s") Slow refl tt,
  (
    made_spells (λ (k : ℕ). Core k) report.caller_text IsCaller (after_spells (codes "c") u32_exact.spells)
        (λ k fits. (refl, omega (arith, fits))),
    (
      made_spells (λ (k : ℕ). App k) report.caller_text IsCaller (after_spells (codes "p") u32_exact.spells)
          (λ k fits. (refl, omega (arith, fits))),
      tt,
    ),
  ),
)

caller_again : (x : Caller) (rest : List ℕ) → IsCaller x → stops is_digit rest ≡ true
    → caller (report.caller_text x ++ rest) ≡ Some (x, rest)
unfolding caller with behind
caller_again Slow rest fits e =
    one_of_again 0 callers (codes "s" ++ rest) (Slow, rest) refl (word_again (codes "s") Slow rest)
caller_again (Core k) rest fits e =
    one_of_again 1 callers ((codes "c" ++ decimal k) ++ rest) (Core k, rest) refl
    (made_again (λ (n : ℕ). Core n) (after (codes "c") u32) ((codes "c" ++ decimal k) ++ rest) k rest
    (after_again (codes "c") u32 (decimal k) rest k (u32_exact.again k rest (omega (arith, fits)) e)))
caller_again (App k) rest fits e =
    one_of_again 2 callers ((codes "p" ++ decimal k) ++ rest) (App k, rest) refl
    (made_again (λ (n : ℕ). App n) (after (codes "p") u32) ((codes "p" ++ decimal k) ++ rest) k rest
    (after_again (codes "p") u32 (decimal k) rest k (u32_exact.again k rest (omega (arith, fits)) e)))

pub caller_exact : Exact report.caller_text IsCaller (stops is_digit) caller
caller_exact = record { spells = caller_spells; again = caller_again }

-- ----- reasons
abbrev pub Any : {A : Type 0} → A → Type 0
Any x = ⊤

abbrev pub anything : List ℕ → Bool
anything rest = true

reason_spells : Spells report.reason_text Any reason
unfolding reason
reason_spells = one_of_spells report.reason_text Any reasons_of (
  word_spells report.reason_text Any (codes "done") reasons.Done refl tt,
  (
    word_spells report.reason_text Any (codes "reset") reasons.Reset refl tt,
    (
      word_spells report.reason_text Any (codes "refused") reasons.Refused refl tt,
      (
        word_spells report.reason_text Any (codes "timedout") reasons.TimedOut refl tt,
        (word_spells report.reason_text Any (codes "aborted") reasons.Aborted refl tt, tt),
      ),
    ),
  ),
)

reason_again : (x : Reason) (rest : List ℕ) → Any x → anything rest ≡ true
    → reason (report.reason_text x ++ rest) ≡ Some (x, rest)
unfolding reason with behind or
reason_again reasons.Done rest fits e = refl
reason_again reasons.Reset rest fits e = refl
reason_again reasons.Refused rest fits e = refl
reason_again reasons.TimedOut rest fits e = refl
reason_again reasons.Aborted rest fits e = refl

pub reason_exact : Exact report.reason_text Any anything reason
reason_exact = record { spells = reason_spells; again = reason_again }

-- ----- addresses
abbrev four : (a b c d : ℕ) → List ℕ
four a b c d = decimal a ++ ((codes "." ++ decimal b) ++ ((codes "." ++ decimal c) ++ (codes "." ++ decimal d)))

four_grouped : (a b c d : List ℕ) → a ++ ((codes "." ++ b) ++ ((codes "." ++ c) ++ (codes "." ++ d)))
    ≡ a ++ codes "." ++ b ++ codes "." ++ c ++ codes "." ++ d
four_grouped a b c d = simp append_assoc refl

four_of : (n : ℕ) → four (n / 16777216) (n / 65536 % 256) (n / 256 % 256) (n % 256) ≡ report.addr_text n
four_of n = four_grouped (decimal (n / 16777216)) (decimal (n / 65536 % 256)) (decimal (n / 256 % 256))
    (decimal (n % 256))

u8_exact : Exact decimal (λ (n : ℕ). n ≤ 255) (stops is_digit) u8
u8_exact = number_exact 255 (omega arith)

four_same : (p q r s a b c d : ℕ) → p ≡ a → q ≡ b → r ≡ c → s ≡ d → four a b c d ≡ four p q r s
four_same p q r s a b c d ea eb ec ed = rw (ea, eb, ec, ed) refl

addr_keeps : (a b c d : ℕ) → a ≤ 255 → b ≤ 255 → c ≤ 255 → d ≤ 255
    → four a b c d ≡ report.addr_text (((a * 256 + b) * 256 + c) * 256 + d)
addr_keeps a b c d ha hb hc hd =
    let n : ℕ = ((a * 256 + b) * 256 + c) * 256 + d in
    let ea : n / 16777216 ≡ a = omega arith in
    let eb : n / 65536 % 256 ≡ b = omega arith in
    let ec : n / 256 % 256 ≡ c = omega arith in
    let ed : n % 256 ≡ d = omega arith in
    four_same (n / 16777216) (n / 65536 % 256) (n / 256 % 256) (n % 256) a b c d ea eb ec ed ∙ four_of n

pub addr_exact : Exact report.addr_text (λ (n : ℕ). n < 2 ^ 32) (stops is_digit) addr
unfolding addr
addr_exact =
    made_exact addr_of (λ (n : ℕ). (n / 16777216, (n / 65536 % 256, (n / 256 % 256, n % 256)))) report.addr_text
    (λ (n : ℕ). n < 2 ^ 32)
    (both_exact (λ b rest fits e. refl) u8_exact
    (both_exact (λ b rest fits e. refl) (after_exact (codes ".") u8_exact)
    (both_exact (λ b rest fits e. refl) (after_exact (codes ".") u8_exact) (after_exact (codes ".") u8_exact))))
    (λ x fits. (
      addr_keeps x.0 x.1.0 x.1.1.0 x.1.1.1 fits.0 fits.1.0 fits.1.1.0 fits.1.1.1,
      small x.0 x.1.0 x.1.1.0 x.1.1.1 fits.0 fits.1.0 fits.1.1.0 fits.1.1.1,
    ))
    (λ n fits. (whole n fits, sym (four_of n), parts n fits)) where
      small : (a b c d : ℕ) → a ≤ 255 → b ≤ 255 → c ≤ 255 → d ≤ 255 → ((a * 256 + b) * 256 + c) * 256 + d < 2 ^ 32
      small a b c d ha hb hc hd = omega (arith, ha, hb, hc, hd)

      whole : (n : ℕ) → n < 2 ^ 32
          → ((n / 16777216 * 256 + n / 65536 % 256) * 256 + n / 256 % 256) * 256 + n % 256 ≡ n
      whole n h = omega (arith, h)

      parts : (n : ℕ) → n < 2 ^ 32 → (n / 16777216 ≤ 255) × ((n / 65536 % 256 ≤ 255) × ((n / 256 % 256 ≤ 255)
          × (n % 256 ≤ 255)))
      parts n h = (omega (arith, h), (omega arith, (omega arith, omega arith)))

abbrev pub socket_text : ℕ × ℕ → List ℕ
socket_text s = report.addr_text s.0 ++ (codes ":" ++ decimal s.1)

pub socket_same : (s : ℕ × ℕ) → socket_text s ≡ report.port_text s.0 s.1
socket_same s = sym (append_assoc (report.addr_text s.0) (codes ":") (decimal s.1))

pub socket_exact : Exact socket_text (λ (s : ℕ × ℕ). (s.0 < 2 ^ 32) × (s.1 ≤ 65535)) (stops is_digit) socket
unfolding socket
socket_exact = both_exact (λ b rest fits e. refl) addr_exact (after_exact (codes ":") u16_exact)
