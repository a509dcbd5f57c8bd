-- A tick of turns is one of a host whose flows are shared: for the law ticks_of_turns_are_shared.
use Rattle.std.proofs.Common.{◌≡◌, ℕ, List, [], ◌∷◌, ◌++◌, map, refl, sym, ap, ◌∙◌, subst, inl, inr}
use Rattle.std.specs.Prelude.{IsPermutation}
use Rattle.std.specs.List.{filter}
use Rattle.std.proofs.lemmas.List.Sorted.{IsPermutation-trans, IsPermutation-sym, IsPermutation-append_left}
use Rattle.std.proofs.lemmas.List.Sorted.{IsPermutation-append_right}
use Rattle.host_rounds.specs.Lists.{Each}
use Rattle.host_rounds.specs.Deliveries.{Arrival}
use Rattle.host_rounds.specs.Scripts.{Site, Scripts}
use Rattle.host_rounds.specs.Rounds as rounds
use Rattle.host_rounds.specs.Rounds.{Due}
use Rattle.host_rounds.proofs.Lists.{filter_append}
use Rattle.core_rounds.specs.SharedTicks.{IsSharedTick}
use Rattle.core_rounds.specs.Shares.{frame_in, ask_in, frames_in, asks_in, is_asked_by}
use Rattle.core_rounds.proofs.Filters.{same_filter}
use Rattle.host_books.specs.Books.{Book}
use Rattle.host_books.specs.Words.{joined, joined_below}
use Rattle.host_books.specs.Tries.{Word, IsWord, IsSendWord, told_of}
use Rattle.host_books.specs.Ticks.{deeds_of}
use Rattle.host_books.proofs.Ticks.{tick_of_phases}
use Rattle.lane_orders.specs.Turns.{frame_by, ask_by, words_in, handed_below, left_below, asked_below}
use Rattle.lane_orders.specs.Ticks.{Phase, IsHandOut, AreTried, IsTickOfTurns}
use Rattle.lane_orders.proofs.Handing.{same_as_none, first_of_none, taken_or_left, none_handed, handed_once}

no_more : {X : Type 0} (x : X) (xs : List X) → x ∷ xs ≡ [] → ⊥
no_more x xs e = absurd (cc e)

module _ {S A : Type 0} where
  -- the frames and asks of words are those of the deeds that they are
  frames_same : (ws : List (Word S A)) → joined frame_by ws ≡ frames_in (map told_of ws)
  frames_same [] = refl
  frames_same (w ∷ ws) = ap (λ l. frame_by w ++ l) (frames_same ws)

  asks_same : (ws : List (Word S A)) → joined ask_by ws ≡ asks_in (map told_of ws)
  asks_same [] = refl
  asks_same (w ∷ ws) = ap (λ l. ask_by w ++ l) (asks_same ws)

  -- a word that takes no frame and asks nothing is a segment that is sent
  all_send : (t : ℕ) (books : List Book) (ws : List (Word S A)) → Each (IsWord t books) ws → joined frame_by ws ≡ []
      → joined ask_by ws ≡ [] → Each (IsSendWord t books) ws
  all_send t books [] each frames asks = tt
  all_send t books (w ∷ ws) (inl f, more) frames asks =
      absurd (no_more f.arrival (joined frame_by ws)
      (sym (ap (λ (m : rounds.Deed A). frame_in m.action ++ joined frame_by ws) f.is) ∙ frames))
  all_send t books (w ∷ ws) (inr (inl s), more) frames asks = (
    s,
    all_send t books ws more
        (sym (ap (λ (m : rounds.Deed A). frame_in m.action ++ joined frame_by ws) s.is) ∙ frames)
        (sym (ap (λ (m : rounds.Deed A). ask_in m.action ++ joined ask_by ws) s.is) ∙ asks),
  )
  all_send t books (w ∷ ws) (inr (inr a), more) frames asks =
      absurd (no_more (a.try_.ask) (joined ask_by ws)
      (sym (ap (λ (m : rounds.Deed A). ask_in m.action ++ joined ask_by ws) a.is) ∙ asks))

module _ {S A : Type 0} (scripts : Scripts S A) (t : ℕ) where
  -- what turns took and what they left is what was handed out
  frames_due : (cores : ℕ) (p : Phase scripts t) (frames rest : List Arrival) → IsHandOut frames cores p.turns p.did
      → IsPermutation (left_below p.turns p.did) rest
      → IsPermutation (frames_in (deeds_of p.beside) ++ rest) frames
  frames_due cores p frames rest out left =
      let taken = joined_below frame_by p.turns (words_in p.did) in
      let l = left_below p.turns p.did in
      let done = joined frame_by p.beside.words in
      let handed = handed_below p.turns p.did in
      subst (λ fs. IsPermutation (fs ++ rest) frames) (frames_same p.beside.words)
      (IsPermutation-trans (done ++ rest) (done ++ l) frames
      (IsPermutation-append_right done rest l (IsPermutation-sym l rest left))
      (IsPermutation-trans (done ++ l) (taken ++ l) frames
      (IsPermutation-append_left l done taken (IsPermutation-sym taken done p.of_turns.taken))
      (IsPermutation-trans (taken ++ l) handed frames
      (IsPermutation-sym handed (taken ++ l) (taken_or_left p.did t p.setting.books p.are.done p.turns))
      (handed_once frames cores p.turns p.did out))))

  -- what was asked in turns is asked in the order
  asks_due : (p : Phase scripts t) (asks later : List A) → AreTried scripts asks (asked_below p.turns p.did) later
      → (n : ℕ)
      → filter (is_asked_by scripts n) (asks_in (deeds_of p.beside) ++ later) ≡ filter (is_asked_by scripts n) asks
  asks_due p asks later tried n =
      let test = is_asked_by scripts n in
      let made = joined ask_by p.beside.words in
      let turns = asked_below p.turns p.did in
      ap (λ l. filter test (l ++ later)) (sym (asks_same p.beside.words))
      ∙ (filter_append test made later
      ∙ (ap (λ l. l ++ filter test later)
      (same_filter test made turns (IsPermutation-sym turns made p.of_turns.asked) (tried.one n))
      ∙ (sym (filter_append test turns later) ∙ tried.all n)))

  no_frames : (p : Phase scripts t) → ((q : ℕ) → (p.did q).frames ≡ []) → joined frame_by p.beside.words ≡ []
  no_frames p none =
      let taken = joined_below frame_by p.turns (words_in p.did) in
      let l = left_below p.turns p.did in
      let empty : taken ≡ [] = first_of_none taken l
      (subst (λ h. IsPermutation h (taken ++ l)) (none_handed p.did none p.turns)
      (taken_or_left p.did t p.setting.books p.are.done p.turns)) in
      same_as_none (joined frame_by p.beside.words)
      (subst (λ h. IsPermutation h (joined frame_by p.beside.words)) empty p.of_turns.taken)

  no_asks : (p : Phase scripts t) → asked_below p.turns p.did ≡ [] → joined ask_by p.beside.words ≡ []
  no_asks p silent =
      same_as_none (joined ask_by p.beside.words)
      (subst (λ h. IsPermutation h (joined ask_by p.beside.words)) silent p.of_turns.asked)

  pub tick_of_turns : (cores : ℕ) (due : Due A) (before after : Site S)
      → IsTickOfTurns scripts cores t due before after → IsSharedTick scripts cores t due before after
  tick_of_turns cores due before after k = tick_of_phases scripts t cores due before after (record {
    some = k.some;
    first = k.first.beside;
    workers = k.first.of_turns.workers cores k.workers;
    slow = k.slow;
    rest = k.rest;
    later = k.later;
    distinct = k.distinct;
    frames = frames_due cores k.first due.frames k.rest k.handed k.left;
    asks = asks_due k.first due.asks k.later k.tried;
    second = k.second.beside;
    alone = k.alone;
    sends = all_send t k.second.beside.setting.books k.second.beside.words k.second.beside.each
        (no_frames k.second k.none) (no_asks k.second k.silent);
    senders = k.second.of_turns.workers cores k.senders;
    made = k.made;
  })
