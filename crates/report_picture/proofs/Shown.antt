-- What lines show, one line more.
use Rattle.std.proofs.Common.{◌≡◌, ℕ, List, [], ◌∷◌, ◌++◌, fold, Option, Some, None, refl, sym, ap, ◌∙◌}
use Rattle.std.proofs.Common.{append_assoc}
use Rattle.std.proofs.lemmas.List.{append-nil}
use Rattle.tas_model.specs.declared.entry.Entry.{Entry}
use Rattle.report_lines.specs.Lines.{Line}
use Rattle.ladder_picture.specs.declared.row.Row.{Row}
use Rattle.report_picture.specs.Known.{nothing, after}
use Rattle.report_picture.specs.Rows.{rows_of}
use Rattle.report_picture.specs.Flows.{nowhere, with_line, along, begun, flows_in, made, entries_in, logged, log_in}
use Rattle.report_picture.specs.Forms.{Said, Plain, Counts}
use Rattle.report_picture.specs.Pictures.{owner, rows_from, known_by, shown_entries, shown_rows, shown_log}
use Rattle.report_picture.specs.Reading.{plain, begun_by, above_by, made_for, rows_for, logged_for, IsShown, AreShown}
use Rattle.report_picture.specs.declared.ends.End.{End}
use Rattle.report_picture.specs.declared.ends.Ends.{Ends}
use Rattle.report_picture.specs.declared.flows.Above.{Above}
use Rattle.report_picture.specs.declared.flows.Flow.{Flow}
use Rattle.report_picture.specs.declared.known.Known.{Known}
use Rattle.report_picture.specs.declared.rows.Owner.{Owner}

-- ----- lists
fold_more : {A B : Type 0} (f : B → A → B) (b : B) (xs ys : List A) → fold f b (xs ++ ys) ≡ fold f (fold f b xs) ys
fold_more f b [] ys = refl
fold_more f b (x ∷ xs) ys = fold_more f (f b x) xs ys

along_more : {A : Type 0} (f : Above → Line → List A) (a : Above) (ls : List Line) (l : Line)
    → along f a (ls ++ l ∷ []) ≡ along f a ls ++ f (fold with_line a ls) l
along_more f a [] l = append-nil (f a l)
along_more {A} f a (m ∷ ms) l =
    ap (λ (xs : List A). f a m ++ xs) (along_more f (with_line a m) ms l)
    ∙ sym (append_assoc (f a m) (along f (with_line a m) ms) (f (fold with_line (with_line a m) ms) l))

rows_more : (o : Owner) (k : Known) (xs ys : List Entry)
    → rows_from o k (xs ++ ys) ≡ rows_from o k xs ++ rows_from o (fold after k xs) ys
rows_more o k [] ys = refl
rows_more o k (x ∷ xs) ys =
    ap (λ (rs : List Row). rows_of o k x ++ rs) (rows_more o (after k x) xs ys)
    ∙ sym (append_assoc (rows_of o k x) (rows_from o (after k x) xs) (rows_from o (fold after (after k x) xs) ys))

-- ----- lines of a report
pub plain_more : (xs ys : List Said) → plain (xs ++ ys) ≡ plain xs ++ plain ys
plain_more [] ys = refl
plain_more (Plain l ∷ xs) ys = ap (λ (ls : List Line). l ∷ ls) (plain_more xs ys)
plain_more (Counts ∷ xs) ys = plain_more xs ys

pub above_more : (ls : List Line) (l : Line)
    → fold with_line nowhere (ls ++ l ∷ []) ≡ with_line (fold with_line nowhere ls) l
above_more ls l = fold_more with_line nowhere ls (l ∷ [])

pub flows_more : (ls : List Line) (l : Line)
    → flows_in (ls ++ l ∷ []) ≡ flows_in ls ++ begun (fold with_line nowhere ls) l
flows_more ls l = along_more begun nowhere ls l

-- ----- an end
entries_more : (f : Option Flow) (ls : List Line) (l : Line)
    → shown_entries f (ls ++ l ∷ []) ≡ shown_entries f ls ++ made_for f (fold with_line nowhere ls) l
entries_more None ls l = refl
entries_more (Some f) ls l = along_more (made f.host f.number) nowhere ls l

log_more : (host : Option ℕ) (ls : List Line) (l : Line)
    → shown_log host (ls ++ l ∷ []) ≡ shown_log host ls ++ logged_for host (fold with_line nowhere ls) l
log_more None ls l = refl
log_more (Some host) ls l = along_more (logged host) nowhere ls l

known_more : (f : Option Flow) (ls : List Line) (l : Line) → known_by (shown_entries f (ls ++ l ∷ []))
    ≡ fold after (known_by (shown_entries f ls)) (made_for f (fold with_line nowhere ls) l)
known_more f ls l =
    ap known_by (entries_more f ls l)
    ∙ fold_more after nothing (shown_entries f ls) (made_for f (fold with_line nowhere ls) l)

shown_rows_more : (f : Option Flow) (ls : List Line) (l : Line) → shown_rows f (ls ++ l ∷ []) ≡ shown_rows f ls
    ++ rows_for f (known_by (shown_entries f ls)) (made_for f (fold with_line nowhere ls) l)
shown_rows_more None ls l = refl
shown_rows_more (Some f) ls l =
    ap (λ (xs : List Entry). rows_from (owner f) nothing xs) (entries_more (Some f) ls l)
    ∙ rows_more (owner f) nothing (shown_entries (Some f) ls) (made_for (Some f) (fold with_line nowhere ls) l)

-- what it has after a line more
pub shown_more : (old new : End) (f : Option Flow) (host : Option ℕ) (a : Above) (ls : List Line) (l : Line)
    → IsShown old f host ls → a ≡ fold with_line nowhere ls
    → new.rows.items ≡ old.rows.items ++ rows_for f old.known (made_for f a l)
    → new.known ≡ fold after old.known (made_for f a l)
    → new.log.items ≡ old.log.items ++ logged_for host a l
    → IsShown new f host (ls ++ l ∷ [])
shown_more old new f host a ls l shown above rows known log = record {
  rows = let more = shown_rows_more f ls l in rw (rows, above, shown.known, shown.rows) (sym more);
  known = let more = known_more f ls l in rw (known, above, shown.known) (sym more);
  log = let more = log_more host ls l in rw (log, above, shown.log) (sym more);
}

-- nothing but counts
pub plain_one : (l : Line) → plain (Plain l ∷ []) ≡ l ∷ []
plain_one l = refl
