-- A line says one thing.
use Rattle.std.proofs.Common.{◌≡◌, ℕ, Bool, true, false, List, refl, sym, ap, ◌∙◌}
use Rattle.std.specs.Prelude.{bytes_eq}
use Rattle.report_lines.specs.Lines.{Line}
use Rattle.report_lines.specs.Shown.{AreNames}
use Rattle.trace_audit.proofs.Saying.{said_one}
use Rattle.report_picture.specs.Hosts.{replay_title}
use Rattle.report_picture.specs.Forms.{Said, Plain, Counts, is_counts, IsOfReplay, IsOf, AreOf}
use Rattle.report_picture.proofs.SaidLines.{IsLater, later_in_replay, same_said}

one_in_replay : (names : List (List ℕ)) → AreNames names → (text : List ℕ) (title counts : Bool) (a b : Said)
    → IsOfReplay title counts names text a → IsOfReplay title counts names text b → a ≡ b
one_in_replay names ok text true counts a b first second = first ∙ sym second
one_in_replay names ok text false true a b first second = first ∙ sym second
one_in_replay names ok text false false a b first second =
    let one : IsLater names text a = later_in_replay names text false false a refl refl first in
    let other : IsLater names text b = later_in_replay names text false false b refl refl second in
    one.shown ∙ (ap (λ (l : Line). Plain l) (said_one names ok text one.said other.said one.is other.is)
    ∙ sym other.shown)

pub one_said : (replay : Bool) (names : List (List ℕ)) → AreNames names → (text : List ℕ) (a b : Said)
    → IsOf replay names text a → IsOf replay names text b → a ≡ b
one_said true names ok text a b first second =
    one_in_replay names ok text (bytes_eq text replay_title) (is_counts text) a b first second
one_said false names ok text Counts b first second = absurd first
one_said false names ok text (Plain l) Counts first second = absurd second
one_said false names ok text (Plain l) (Plain m) first second =
    ap (λ (l : Line). Plain l) (said_one names ok text l m first second)

pub all_said_once : (replay : Bool) (names : List (List ℕ)) → AreNames names → (texts : List (List ℕ))
    (a b : List Said) → AreOf replay names texts a → AreOf replay names texts b → a ≡ b
all_said_once replay names ok texts a b first second =
    same_said replay names (one_said replay names ok) texts a b first second
