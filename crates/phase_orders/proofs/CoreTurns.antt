-- A core's turn in the words of a run: for the law core_turns_have_words.
use Rattle.std.proofs.Common.{◌≡◌, ℕ, Bool, cond, List, [], ◌∷◌, ◌++◌, map, refl, sym, ap, ◌∙◌, subst}
use Rattle.std.proofs.Common.{append_assoc, append-nil, inl, inr}
use Rattle.std.specs.Prelude.{IsPermutation, Option, is_some}
use Rattle.std.proofs.lemmas.List.Sorted.{IsPermutation-refl, IsPermutation-trans, IsPermutation-sym}
use Rattle.std.proofs.lemmas.List.Sorted.{IsPermutation-cons}
use Rattle.std.proofs.lemmas.List.Sorted.{IsPermutation-append_right, IsPermutation-middle, IsPermutation-map}
use Rattle.segment_fields.specs.declared.segment.Refused.{Refused}
use Rattle.segment_fields.specs.Text.{refusal}
use Rattle.host_rounds.specs.Lists.{Each}
use Rattle.host_rounds.proofs.Lists.{map_append, each_append}
use Rattle.flow_lock.specs.declared.view.Deed.{Deed}
use Rattle.core_worker.specs.Turns.{deferred_by, exceptions_by}
use Rattle.core_worker.specs.Workers.{Worker}
use Rattle.core_worker.specs.declared.frames.Frame.{Frame}
use Rattle.core_worker.specs.declared.frames.Handled.{Handled}
use Rattle.core_worker.specs.declared.frames.Handled.TheVariants as handled
use Rattle.core_worker.specs.declared.frames.Passed.TheVariants as passed
use Rattle.core_worker.specs.declared.frames.PassedFrame.{PassedFrame}
use Rattle.host_books.specs.Books.{Book}
use Rattle.host_books.specs.Tries.{Word, IsFrameWord, IsSendWord, IsWord, deed_of}
use Rattle.host_books.specs.Words.{joined}
use Rattle.core_phase.specs.Deeds.{IsSend, IsPutIn, ArePutIn, gathered, lines_by, IsTurnOf}
use Rattle.core_phase.specs.Words.{arrival_of, frame_word, send_word}
use Rattle.core_phase.proofs.Wording.{frame_is, send_is}
use Rattle.lane_orders.specs.Turns.{Did, frame_by}
use Rattle.phase_orders.specs.CoreTurns.{arrivals_of, frame_in, passed_of, is_broken, broken_in, left_by, line_for}
use Rattle.phase_orders.specs.CoreTurns.{lines_of, IsOfCore, IsCoreTurn}

by_same : {X : Type 0} (xs ys : List X) → xs ≡ ys → IsPermutation xs ys
by_same xs ys e = subst (IsPermutation xs) e (IsPermutation-refl xs)

-- ----- frames by their answers
abbrev entered_by : Frame → Handled → List Frame
entered_by f (handled.Entered id) = f ∷ []
entered_by f h = []

abbrev refused_by : Frame → Handled → List Frame
refused_by f (handled.Refused n) = f ∷ []
refused_by f h = []

-- those that were passed on
abbrev passed_in : List Frame → List Handled → List Frame
passed_in fs hs = map frame_in (gathered exceptions_by fs hs ++ gathered deferred_by fs hs)

abbrev IsSplit : List Frame → List Handled → Type 0
IsSplit fs hs =
    IsPermutation fs (gathered entered_by fs hs ++ (gathered refused_by fs hs ++ passed_in fs hs))

-- a frame more among those that were passed on
more_passed : (f : Frame) (fs a b xs ys : List Frame) → IsPermutation fs (a ++ (b ++ xs))
    → IsPermutation (f ∷ xs) ys → IsPermutation (f ∷ fs) (a ++ (b ++ ys))
more_passed f fs a b xs ys is more =
    IsPermutation-trans (f ∷ fs) (f ∷ (a ++ (b ++ xs))) (a ++ (b ++ ys)) (IsPermutation-cons f fs (a ++ (b ++ xs)) is)
    (IsPermutation-trans (f ∷ (a ++ (b ++ xs))) (a ++ (f ∷ (b ++ xs))) (a ++ (b ++ ys))
    (IsPermutation-sym (a ++ (f ∷ (b ++ xs))) (f ∷ (a ++ (b ++ xs))) (IsPermutation-middle a f (b ++ xs)))
    (IsPermutation-append_right a (f ∷ (b ++ xs)) (b ++ ys)
    (IsPermutation-trans (f ∷ (b ++ xs)) (b ++ f ∷ xs) (b ++ ys)
    (IsPermutation-sym (b ++ f ∷ xs) (f ∷ (b ++ xs)) (IsPermutation-middle b f xs))
    (IsPermutation-append_right b (f ∷ xs) ys more))))

module _ (f : Frame) (fs : List Frame) (hs : List Handled) (is : IsSplit fs hs) where
  abbrev e : List Frame
  e = gathered entered_by fs hs

  abbrev r : List Frame
  r = gathered refused_by fs hs

  excepted : (p : PassedFrame) → p.frame ≡ f
      → IsPermutation (f ∷ fs)
      (e ++ (r ++ map frame_in ((p ∷ gathered exceptions_by fs hs) ++ gathered deferred_by fs hs)))
  excepted p same =
      more_passed f fs e r (passed_in fs hs) (p.frame ∷ passed_in fs hs) is
      (by_same (f ∷ passed_in fs hs) (p.frame ∷ passed_in fs hs) (λ i. sym same i ∷ passed_in fs hs))

  put_off : (p : PassedFrame) → p.frame ≡ f
      → IsPermutation (f ∷ fs)
      (e ++ (r ++ map frame_in (gathered exceptions_by fs hs ++ (p ∷ gathered deferred_by fs hs))))
  put_off p same =
      let xs = gathered exceptions_by fs hs in
      let ds = gathered deferred_by fs hs in
      more_passed f fs e r (passed_in fs hs) (map frame_in (xs ++ p ∷ ds)) is
      (IsPermutation-trans (f ∷ passed_in fs hs) (map frame_in (p ∷ (xs ++ ds))) (map frame_in (xs ++ p ∷ ds))
      (by_same (f ∷ passed_in fs hs) (p.frame ∷ passed_in fs hs) (λ i. sym same i ∷ passed_in fs hs))
      (IsPermutation-map frame_in (p ∷ (xs ++ ds)) (xs ++ p ∷ ds)
      (IsPermutation-sym (xs ++ p ∷ ds) (p ∷ (xs ++ ds)) (IsPermutation-middle xs p ds))))

  one_more : (h : Handled) → IsSplit (f ∷ fs) (h ∷ hs)
  one_more (handled.Entered id) = IsPermutation-cons f fs (e ++ (r ++ passed_in fs hs)) is
  one_more (handled.Refused n) =
      IsPermutation-trans (f ∷ fs) (f ∷ (e ++ (r ++ passed_in fs hs))) (e ++ (f ∷ (r ++ passed_in fs hs)))
      (IsPermutation-cons f fs (e ++ (r ++ passed_in fs hs)) is)
      (IsPermutation-sym (e ++ (f ∷ (r ++ passed_in fs hs))) (f ∷ (e ++ (r ++ passed_in fs hs)))
      (IsPermutation-middle e f (r ++ passed_in fs hs)))
  one_more (handled.Passed passed.Absent) = excepted (record { frame = f; passed = passed.Absent }) refl
  one_more (handled.Passed (passed.Stale x)) = excepted (record { frame = f; passed = passed.Stale x }) refl
  one_more (handled.Passed (passed.Fast y)) = excepted (record { frame = f; passed = passed.Fast y }) refl
  one_more (handled.Passed (passed.Busy x)) = put_off (record { frame = f; passed = passed.Busy x }) refl
  one_more (handled.Passed (passed.Moved x y)) = put_off (record { frame = f; passed = passed.Moved x y }) refl

split : (check : Bool) (core t : ℕ) (fs : List Frame) (hs : List Handled) (ds : List Deed)
    → ArePutIn check core t fs hs ds → IsSplit fs hs
split check core t [] [] ds are = IsPermutation-refl []
split check core t [] (h ∷ hs) ds are = absurd are
split check core t (f ∷ fs) [] ds are = absurd are
split check core t (f ∷ fs) (h ∷ hs) ds (a, b, is, one, more) =
    one_more f fs hs (split check core t fs hs b more) h

-- those that were refused are those that break a rule of reading
refused_one : (check : Bool) (core t : ℕ) (f : Frame) (h : Handled) (ds : List Deed) → IsPutIn check core t f h ds
    → (xs : List Frame) → refused_by f h ++ xs ≡ cond (is_broken check f) (f ∷ xs) xs
refused_one check core t f (handled.Entered id) ds (d, is, same, rx) xs =
    ap (λ (o : Option Refused). cond (is_some o) (f ∷ xs) xs) (sym rx.reads)
refused_one check core t f (handled.Refused n) ds p xs =
    ap (λ (o : Option Refused). cond (is_some o) (f ∷ xs) xs) (sym p.1.1)
refused_one check core t f (handled.Passed x) ds p xs =
    ap (λ (o : Option Refused). cond (is_some o) (f ∷ xs) xs) (sym p.1)

refused_are : (check : Bool) (core t : ℕ) (fs : List Frame) (hs : List Handled) (ds : List Deed)
    → ArePutIn check core t fs hs ds → gathered refused_by fs hs ≡ broken_in check fs
refused_are check core t [] [] ds are = refl
refused_are check core t [] (h ∷ hs) ds are = absurd are
refused_are check core t (f ∷ fs) [] ds are = absurd are
refused_are check core t (f ∷ fs) (h ∷ hs) ds (a, b, is, one, more) =
    ap (λ l. refused_by f h ++ l) (refused_are check core t fs hs b more)
    ∙ refused_one check core t f h a one (broken_in check fs)

-- ----- lines
line_by : (check : Bool) (core t : ℕ) (f : Frame) (h : Handled) (ds : List Deed) → IsPutIn check core t f h ds
    → lines_by t f h ≡ lines_of check t (refused_by f h)
line_by check core t f (handled.Entered id) ds p = refl
line_by check core t f (handled.Passed x) ds p = refl
line_by check core t f (handled.Refused n) ds p =
    (λ i. lines_by t f (handled.Refused (p.1.2 i))) ∙ ap (λ o. line_for t f.id o ++ []) (sym p.1.1)

pub lines_joined : (check : Bool) (t : ℕ) (a b : List Frame)
    → lines_of check t (a ++ b) ≡ lines_of check t a ++ lines_of check t b
lines_joined check t [] b = refl
lines_joined check t (f ∷ a) b =
    ap (λ l. line_for t f.id (refusal check f.packet) ++ l) (lines_joined check t a b)
    ∙ sym (append_assoc (line_for t f.id (refusal check f.packet)) (lines_of check t a) (lines_of check t b))

lines_are : (check : Bool) (core t : ℕ) (fs : List Frame) (hs : List Handled) (ds : List Deed)
    → ArePutIn check core t fs hs ds → gathered (lines_by t) fs hs ≡ lines_of check t (gathered refused_by fs hs)
lines_are check core t [] [] ds are = refl
lines_are check core t [] (h ∷ hs) ds are = absurd are
lines_are check core t (f ∷ fs) [] ds are = absurd are
lines_are check core t (f ∷ fs) (h ∷ hs) ds (a, b, is, one, more) =
    (λ i. line_by check core t f h a one i ++ lines_are check core t fs hs b more i)
    ∙ sym (lines_joined check t (refused_by f h) (gathered refused_by fs hs))

joined_both : {B C : Type 0} (k : B → List C) (u w : List B) → joined k (u ++ w) ≡ joined k u ++ joined k w
joined_both k [] w = refl
joined_both k (z ∷ u) w = ap (λ l. k z ++ l) (joined_both k u w) ∙ sym (append_assoc (k z) (joined k u) (joined k w))

-- ----- deeds and their words
module _ (S A : Type 0) (check : Bool) (core t : ℕ) (books : List Book) where
  -- the words of these deeds, which take these frames, and of which each is such a word
  record Words (P : Word S A → Type 0) (ds : List Deed) (fs : List Frame) : Type 0 where
    words : List (Word S A)
    are : map deed_of words ≡ ds
    each : Each P words
    frames : joined frame_by words ≡ arrivals_of check fs
    of_core : Each (IsOfCore core) words

  no_words : (P : Word S A → Type 0) (ds : List Deed) → ds ≡ [] → Words P ds []
  no_words P ds none = record { words = []; are = sym none; each = tt; frames = refl; of_core = tt }

  both : (P : Word S A → Type 0) (ds es : List Deed) (fs gs : List Frame) → Words P ds fs → Words P es gs
      → Words P (ds ++ es) (fs ++ gs)
  both P ds es fs gs x y = record {
    words = x.words ++ y.words;
    are = map_append deed_of x.words y.words ∙ (λ i. x.are i ++ y.are i);
    each = each_append P x.words y.words x.each y.each;
    frames = joined_both frame_by x.words y.words
        ∙ ((λ i. x.frames i ++ y.frames i) ∙ sym (map_append (arrival_of check) fs gs));
    of_core = each_append (IsOfCore core) x.words y.words x.of_core y.of_core;
  }

  -- as words of whatever kind
  as_words : (P : Word S A → Type 0) → ((w : Word S A) → P w → IsWord t books w) → (ds : List Deed) (fs : List Frame)
      → Words P ds fs → Words (IsWord t books) ds fs
  as_words P f ds fs x = record {
    words = x.words;
    are = x.are;
    each = all x.words x.each;
    frames = x.frames;
    of_core = x.of_core;
  }
    where
      all : (ws : List (Word S A)) → Each P ws → Each (IsWord t books) ws
      all [] each = tt
      all (w ∷ ws) each = (f w each.0, all ws each.1)

  one_rx : (f : Frame) (h : Handled) (ds : List Deed) → IsPutIn check core t f h ds
      → Words (IsFrameWord t) ds (entered_by f h)
  one_rx f (handled.Entered id) ds (d, is, same, rx) = record {
    words = frame_word check core f d ∷ [];
    are = sym is;
    each = (frame_is {S = S} {A = A} check core t f d rx, tt);
    frames = refl;
    of_core = ((refl, refl, refl), tt);
  }
  one_rx f (handled.Refused n) ds p = no_words (IsFrameWord t) ds p.0
  one_rx f (handled.Passed x) ds p = no_words (IsFrameWord t) ds p.0

  rxs : (fs : List Frame) (hs : List Handled) (ds : List Deed) → ArePutIn check core t fs hs ds
      → Words (IsFrameWord t) ds (gathered entered_by fs hs)
  rxs [] [] ds are = no_words (IsFrameWord t) ds are
  rxs [] (h ∷ hs) ds are = absurd are
  rxs (f ∷ fs) [] ds are = absurd are
  rxs (f ∷ fs) (h ∷ hs) ds (a, b, is, one, more) =
      subst (λ l. Words (IsFrameWord t) l (entered_by f h ++ gathered entered_by fs hs)) (sym is)
      (both (IsFrameWord t) a b (entered_by f h) (gathered entered_by fs hs) (one_rx f h a one) (rxs fs hs b more))

  -- the words of what was sent
  sends : (ds : List Deed) → Each (IsSend core t) ds → Words (IsSendWord t books) ds []
  sends [] each = no_words (IsSendWord t books) [] refl
  sends (d ∷ ds) each =
      let r = sends ds each.1 in
      record {
        words = send_word books core d ∷ r.words;
        are = λ i. d ∷ r.are i;
        each = (send_is {S = S} {A = A} core t books d each.0, r.each);
        frames = r.frames;
        of_core = ((refl, refl, refl), r.of_core);
      }

-- ----- a turn
pub core_turn : {S A : Type 0} (tick : ℕ) (books : List Book) (v w : Worker) (ds : List Deed) → v.exceptions ≡ []
    → v.deferred ≡ [] → IsTurnOf tick v w ds → (d : Did S A) × IsCoreTurn tick books v w ds d
unfolding both as_words
core_turn {S} {A} tick books v w ds no_exceptions no_deferred turn =
    let check = v.check_sums in
    let fs = v.frames in
    let hs = turn.answers in
    let e = gathered entered_by fs hs in
    let r = gathered refused_by fs hs in
    let taken = rxs S A check v.core tick books fs hs turn.entered turn.put in
    let sent = sends S A check v.core tick books turn.sent turn.sends in
    let x = both S A check v.core tick books (IsWord tick books) turn.entered turn.sent e []
    (as_words S A check v.core tick books (IsFrameWord tick) (λ w f. inl f) turn.entered e taken)
    (as_words S A check v.core tick books (IsSendWord tick books) (λ w s. inr (inl s)) turn.sent [] sent) in
    let broken : r ≡ broken_in check fs = refused_are check v.core tick fs hs turn.entered turn.put in
    let excepted : w.exceptions ≡ gathered exceptions_by fs hs =
    turn.left.1 ∙ ap (λ l. l ++ gathered exceptions_by fs hs) no_exceptions in
    let deferred : w.deferred ≡ gathered deferred_by fs hs =
    turn.left.0 ∙ ap (λ l. l ++ gathered deferred_by fs hs) no_deferred in
    let passed_ : passed_in fs hs ≡ passed_of w = λ i. map frame_in (sym excepted i ++ sym deferred i) in
    let flat : joined frame_by x.words ≡ arrivals_of check e = x.frames ∙ ap (arrivals_of check) (append-nil e) in
    let parts : arrivals_of check (e ++ (r ++ passed_in fs hs)) ≡ joined frame_by x.words ++ left_by v w =
    map_append (arrival_of check) e (r ++ passed_in fs hs)
    ∙ (ap (λ l. arrivals_of check e ++ l) (map_append (arrival_of check) r (passed_in fs hs))
    ∙ (λ i. sym flat i ++ (arrivals_of check (broken i) ++ arrivals_of check (passed_ i)))) in (
      record { words = x.words; frames = arrivals_of check fs; left = left_by v w },
      record {
        deeds = x.are ∙ sym turn.all;
        taken = taken.words;
        sent = sent.words;
        words = refl;
        each_taken = taken.each;
        each_sent = sent.each;
        of_core = x.of_core;
        frames = refl;
        left = refl;
        done = record {
          each = x.each;
          frames = subst (IsPermutation (arrivals_of check fs)) parts
              (IsPermutation-map (arrival_of check) fs (e ++ (r ++ passed_in fs hs))
              (split check v.core tick fs hs turn.entered turn.put));
        };
        lines = turn.left.2
            ∙ ap (λ l. v.log ++ l) (lines_are check v.core tick fs hs turn.entered turn.put
            ∙ ap (lines_of check tick) broken);
      },
    )
