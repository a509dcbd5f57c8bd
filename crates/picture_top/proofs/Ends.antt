-- How the program ends.
use Rattle.std.proofs.Common.{◌≡◌, ◌≢◌, ◌⊎◌, inl, inr, ℕ, ◌<◌, List, [], length, Option, Some, Result, IfSome, refl}
use Rattle.std.proofs.Common.{sym, ◌∙◌, subst, arith}
use Rattle.std.proofs.lemmas.Option.{same_Some}
use Rattle.report_lines.specs.Lines as said
use Rattle.report_picture.specs.Forms.{IsForm, IsFault}
use Rattle.tas_num.specs.Streams.{Wrote}
use Rattle.tas_num.specs.declared.outside.IoFault.{IoFault}
use Rattle.picture_top.specs.Words.{Asked, asked_by}
use Rattle.picture_top.specs.Pictures.{Shows, Misses}
use Rattle.picture_top.specs.Stops.{status_of, ReadsWhole, Lacks, Undrawn}
use Rattle.picture_top.specs.Answers.{Call, WritesPicture, Why, IsDrawn, HasStopped}
use Rattle.picture_top.specs.Answers.{HasEnded, IsDrawable}
use Rattle.picture_top.specs.declared.stop.Stop.{Stop}
use Rattle.picture_top.specs.declared.stop.Stop.TheVariants.{Words, Line, Read, Write, Memory, TooLong}

-- what came of writing the picture
pub picture_written : (c : Call) (asked : Asked) (picture out : List ℕ) (r s : Result (Unit {0}) IoFault)
    → asked_by c.words ≡ Some asked → ReadsWhole c.source c.left → IfSome c.source.left (λ b. Shows asked b picture)
    → out ≡ picture → Wrote c.sink r c.written out [] → r ≡ s → WritesPicture c s
picture_written c asked picture out r s words read shown same wrote is = record {
  asked = asked;
  words = words;
  read = read;
  picture = picture;
  shown = shown;
  wrote = subst (λ (x : Result (Unit {0}) IoFault). Wrote c.sink x c.written picture []) is
      (subst (λ (t : List ℕ). Wrote c.sink r c.written t []) same wrote);
}

-- there was none, and nothing was written
pub none_why : (c : Call) (asked : Asked) (stop : Stop) → asked_by c.words ≡ Some asked
    → Undrawn asked c.source c.left stop → c.written ≡ c.sink → Why c stop
none_why c asked Words words why same = absurd why
none_why c asked (Line number) words why same =
    record { asked = asked; words = words; why = why; unwritten = same }
none_why c asked Read words why same = record { asked = asked; words = words; why = why; unwritten = same }
none_why c asked Write words why same = absurd why
none_why c asked Memory words why same = inl (record { asked = asked; words = words; why = why; unwritten = same })
none_why c asked TooLong words why same = record { asked = asked; words = words; why = why; unwritten = same }

-- ----- by the status
not_0 : (stop : Stop) → status_of stop ≢ 0
not_0 Words e = omega (arith, e)
not_0 (Line number) e = omega (arith, e)
not_0 Read e = omega (arith, e)
not_0 Write e = omega (arith, e)
not_0 Memory e = omega (arith, e)
not_0 TooLong e = omega (arith, e)

pub drawn_at_0 : (c : Call) (status : ℕ) → HasEnded c status → status ≡ 0 → IsDrawn c
drawn_at_0 c status (inl drawn) is = drawn.1
drawn_at_0 c status (inr stopped) is = absurd (not_0 stopped.stop (sym stopped.status_is ∙ is))

pub stopped_else : (c : Call) (status : ℕ) → HasEnded c status → status ≢ 0 → HasStopped c status
stopped_else c status (inl drawn) other = absurd (other drawn.0)
stopped_else c status (inr stopped) other = stopped

-- ----- a right input
-- what holds of the input that is told
told_so : (left : Option (List ℕ)) (b : List ℕ) (P : List ℕ → Type 0) → left ≡ Some b → IfSome left P → P b
told_so left b P e fact = subst (λ (i : Option (List ℕ)). IfSome i P) e fact

-- the law that a report has no line at fault
abbrev pub NoFault : Type 0
NoFault = (text : List ℕ) (lines : List said.Line) (number : ℕ) → IsForm text lines → IsFault text number → ⊥

same_asked : (words : List (List ℕ)) (a b : Asked) → asked_by words ≡ Some a → asked_by words ≡ Some b → a ≡ b
same_asked words a b first second = same_Some a b (sym first ∙ second)

-- it is not refused
not_refused : NoFault → (c : Call) (w : IsDrawable c) (asked : Asked) (number : ℕ) → asked_by c.words ≡ Some asked
    → IfSome c.source.left (λ b. Lacks asked b (Line number)) → ⊥
not_refused law c w asked number words refused =
    by_cause (told_so c.source.left w.input (λ (b : List ℕ). Lacks asked b (Line number)) w.tells refused)
  where
    by_cause : IsFault w.input number ⊎ Misses asked w.input number → ⊥
    by_cause (inl fault) = law w.input w.lines number w.form fault
    by_cause (inr misses) =
        w.has number
        (subst (λ (a : Asked). Misses a w.input number) (same_asked c.words asked w.asked words w.words) misses)

by_stop : NoFault → (c : Call) (w : IsDrawable c) (stop : Stop) → Why c stop
    → (status_of stop ≡ 0) ⊎ (status_of stop ≡ 6)
by_stop law c w Words why = absurd (cc (why.words, w.words))
by_stop law c w (Line number) why = absurd (not_refused law c w why.asked number why.words why.why.refused)
by_stop law c w Read why = absurd (w.read why.why)
by_stop law c w Write why = absurd (w.written why.wrote.counts.0)
by_stop law c w Memory why = inr refl
by_stop law c w TooLong why =
    let long : 67108864 < length w.input =
    told_so c.source.left w.input (λ (b : List ℕ). 67108864 < length b) w.tells why.why.long in
    absurd (omega (arith, long, w.short))

-- a right input ends well
pub ends_well : NoFault → (c : Call) (status : ℕ) → HasEnded c status → IsDrawable c → (status ≡ 0) ⊎ (status ≡ 6)
ends_well law c status (inl drawn) w = inl drawn.0
ends_well law c status (inr stopped) w =
    subst (λ (n : ℕ). (n ≡ 0) ⊎ (n ≡ 6)) (sym stopped.status_is) (by_stop law c w stopped.stop stopped.why)
