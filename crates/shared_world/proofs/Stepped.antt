-- The steps of a tick, host by host: for the answers for `play_steps` and those that it calls.
use Rattle.std.proofs.Common.{◌≡◌, ◌≤◌, ◌<◌, ℕ, zero, suc, List, [], ◌∷◌, length, set, get_or, Some, slice_get}
use Rattle.std.proofs.Common.{refl, sym, ap, ◌∙◌, subst, arith}
use Rattle.std.specs.Prelude.{Result, Ok, Err, OnOk}
use Rattle.std.specs.List.{AllZip}
use Rattle.host_rounds.specs.Lists.{Each}
use Rattle.link_script.specs.declared.frames.Sent.{Sent}
use Rattle.core_host.specs.Sharing.{IsPlayed, MayAllPlay}
use Rattle.core_host.specs.Sound.{IsStaffSound}
use Rattle.core_host.specs.Views.{Staffed}
use Rattle.scenario_runs.specs.Applications.{Script}
use Rattle.scenario_text.specs.declared.scenario.Scenario.{Scenario}
use Rattle.shared_scripts.specs.Ended.{IsEnded}
use Rattle.shared_scripts.specs.Going.{IsGoneOn, WasBegun}
use Rattle.shared_world.specs.Sites.{ArePlayable}
use Rattle.shared_world.specs.Stepping.{frames_to, HaveBegun, WereBegun, HaveGoneOn, AreMade}

-- What holds where the answer isn't the error, by what else does.
pub ok_map : {T E P Q : Type 0} (r : Result T E) → (P → Q) → OnOk r P → OnOk r Q
ok_map (Ok x) f p = f p
ok_map (Err e) f p = tt

pub at_place : {X : Type 0} (xs : List X) (i : ℕ) (d : X) → i < length xs → slice_get xs i ≡ Some (get_or xs i d)
at_place [] i d near = absurd (omega (arith, near))
at_place (x ∷ xs) zero d near = refl
at_place (x ∷ xs) (suc i) d near = at_place xs i d (omega (arith, near))

-- ----- scripts that go on, one after the other
-- Those before this place went on, and the others are to.
abbrev pub GoneTo : Scenario → (tick k : ℕ) → (scripts next : List (List Script)) → (played kicked : List Staffed)
    → Type 0
GoneTo s t zero xs ys ps ks = (ys ≡ xs) × (ks ≡ ps) × WereBegun s t xs ps
GoneTo s t (suc n) [] ys ps ks = ⊥
GoneTo s t (suc n) (x ∷ xs) [] ps ks = ⊥
GoneTo s t (suc n) (x ∷ xs) (y ∷ ys) [] ks = ⊥
GoneTo s t (suc n) (x ∷ xs) (y ∷ ys) (p ∷ ps) [] = ⊥
GoneTo s t (suc n) (x ∷ xs) (y ∷ ys) (p ∷ ps) (k ∷ ks) = IsGoneOn s t x y p k × GoneTo s t n xs ys ps ks

begun_len : (s : Scenario) (t : ℕ) (xs : List (List Script)) (ps : List Staffed) → WereBegun s t xs ps
    → length xs ≡ length ps
begun_len s t [] [] begun = refl
begun_len s t [] (p ∷ ps) begun = absurd begun
begun_len s t (x ∷ xs) [] begun = absurd begun
begun_len s t (x ∷ xs) (p ∷ ps) begun = ap suc (begun_len s t xs ps begun.1)

-- There is a host for each.
pub gone_len : (s : Scenario) (t n : ℕ) (xs ys : List (List Script)) (ps ks : List Staffed)
    → GoneTo s t n xs ys ps ks → length ys ≡ length ks
gone_len s t zero xs ys ps ks gone = ap length gone.0 ∙ (begun_len s t xs ps gone.2 ∙ sym (ap length gone.1))
gone_len s t (suc n) [] ys ps ks gone = absurd gone
gone_len s t (suc n) (x ∷ xs) [] ps ks gone = absurd gone
gone_len s t (suc n) (x ∷ xs) (y ∷ ys) [] ks gone = absurd gone
gone_len s t (suc n) (x ∷ xs) (y ∷ ys) (p ∷ ps) [] gone = absurd gone
gone_len s t (suc n) (x ∷ xs) (y ∷ ys) (p ∷ ps) (k ∷ ks) gone = ap suc (gone_len s t n xs ys ps ks gone.1)

first_begun : (s : Scenario) (t : ℕ) (xs : List (List Script)) (ps : List Staffed) (x : List Script) (p : Staffed)
    → WereBegun s t xs ps → slice_get xs zero ≡ Some x → slice_get ps zero ≡ Some p → WasBegun s t x p
first_begun s t [] ps x p begun own host = absurd (cc (own))
first_begun s t (y ∷ xs) [] x p begun own host = absurd (cc (host))
first_begun s t (y ∷ xs) (q ∷ ps) x p begun own host =
    let script : y ≡ x = cc (own) in
    let same : q ≡ p = cc (host) in
    subst (λ (z : List Script). WasBegun s t z p) script (subst (λ (r : Staffed). WasBegun s t y r) same begun.0)

-- The ones at this place may go on.
pub next_begun : (s : Scenario) (t n : ℕ) (xs ys : List (List Script)) (ps ks : List Staffed) (y : List Script)
    (k : Staffed) → GoneTo s t n xs ys ps ks → slice_get ys n ≡ Some y → slice_get ks n ≡ Some k → WasBegun s t y k
next_begun s t zero xs ys ps ks y k gone own host =
    first_begun s t xs ps y k gone.2 (subst (λ (zs : List (List Script)). slice_get zs zero ≡ Some y) gone.0 own)
    (subst (λ (qs : List Staffed). slice_get qs zero ≡ Some k) gone.1 host)
next_begun s t (suc n) [] ys ps ks y k gone own host = absurd gone
next_begun s t (suc n) (x ∷ xs) [] ps ks y k gone own host = absurd gone
next_begun s t (suc n) (x ∷ xs) (z ∷ ys) [] ks y k gone own host = absurd gone
next_begun s t (suc n) (x ∷ xs) (z ∷ ys) (p ∷ ps) [] y k gone own host = absurd gone
next_begun s t (suc n) (x ∷ xs) (z ∷ ys) (p ∷ ps) (q ∷ ks) y k gone own host =
    next_begun s t n xs ys ps ks y k gone.1 own host

first_gone : (s : Scenario) (t : ℕ) (xs : List (List Script)) (ps : List Staffed) (x y : List Script) (p k : Staffed)
    → WereBegun s t xs ps → slice_get xs zero ≡ Some x → slice_get ps zero ≡ Some p → IsGoneOn s t x y p k
    → GoneTo s t (suc zero) xs (set xs zero y) ps (set ps zero k)
first_gone s t [] ps x y p k begun own host gone = absurd (cc (own))
first_gone s t (z ∷ xs) [] x y p k begun own host gone = absurd (cc (host))
first_gone s t (z ∷ xs) (q ∷ ps) x y p k begun own host gone =
    let script : x ≡ z = cc (own) in
    let same : p ≡ q = cc (host) in (
      subst (λ (w : List Script). IsGoneOn s t w y q k) script
          (subst (λ (r : Staffed). IsGoneOn s t x y r k) same gone),
      (refl, refl, begun.1),
    )

-- When they did, one more went on.
pub more_gone : (s : Scenario) (t n : ℕ) (xs ys : List (List Script)) (ps ks : List Staffed) (x y : List Script)
    (p k : Staffed) → GoneTo s t n xs ys ps ks → slice_get ys n ≡ Some x → slice_get ks n ≡ Some p
    → IsGoneOn s t x y p k → GoneTo s t (suc n) xs (set ys n y) ps (set ks n k)
more_gone s t zero xs ys ps ks x y p k to own host gone =
    subst (λ (zs : List (List Script)). GoneTo s t (suc zero) xs (set zs zero y) ps (set ks zero k)) (sym to.0)
    (subst (λ (qs : List Staffed). GoneTo s t (suc zero) xs (set xs zero y) ps (set qs zero k)) (sym to.1)
    (first_gone s t xs ps x y p k to.2
    (subst (λ (zs : List (List Script)). slice_get zs zero ≡ Some x) to.0 own)
    (subst (λ (qs : List Staffed). slice_get qs zero ≡ Some p) to.1 host) gone))
more_gone s t (suc n) [] ys ps ks x y p k to own host gone = absurd to
more_gone s t (suc n) (z ∷ xs) [] ps ks x y p k to own host gone = absurd to
more_gone s t (suc n) (z ∷ xs) (w ∷ ys) [] ks x y p k to own host gone = absurd to
more_gone s t (suc n) (z ∷ xs) (w ∷ ys) (q ∷ ps) [] x y p k to own host gone = absurd to
more_gone s t (suc n) (z ∷ xs) (w ∷ ys) (q ∷ ps) (r ∷ ks) x y p k to own host gone =
    (to.0, more_gone s t n xs ys ps ks x y p k to.1 own host gone)

none_left : (s : Scenario) (t : ℕ) (xs : List (List Script)) (ps : List Staffed) → WereBegun s t xs ps
    → length xs ≤ zero → HaveGoneOn s t xs xs ps ps
none_left s t [] [] begun none = tt
none_left s t [] (p ∷ ps) begun none = absurd begun
none_left s t (x ∷ xs) ps begun none = absurd (omega (arith, none))

-- And in the end all did.
pub all_gone : (s : Scenario) (t n : ℕ) (xs ys : List (List Script)) (ps ks : List Staffed) → GoneTo s t n xs ys ps ks
    → length ys ≤ n → HaveGoneOn s t xs ys ps ks
all_gone s t zero xs ys ps ks gone none =
    subst (λ (zs : List (List Script)). HaveGoneOn s t xs zs ps ks) (sym gone.0)
    (subst (λ (qs : List Staffed). HaveGoneOn s t xs xs ps qs) (sym gone.1)
    (none_left s t xs ps gone.2 (subst (λ (zs : List (List Script)). length zs ≤ zero) gone.0 none)))
all_gone s t (suc n) [] ys ps ks gone none = absurd gone
all_gone s t (suc n) (x ∷ xs) [] ps ks gone none = absurd gone
all_gone s t (suc n) (x ∷ xs) (y ∷ ys) [] ks gone none = absurd gone
all_gone s t (suc n) (x ∷ xs) (y ∷ ys) (p ∷ ps) [] gone none = absurd gone
all_gone s t (suc n) (x ∷ xs) (y ∷ ys) (p ∷ ps) (k ∷ ks) gone none =
    (gone.0, all_gone s t n xs ys ps ks gone.1 (omega (arith, none)))

module _ (s : Scenario) (t : ℕ) (came : List Sent) where
  -- ----- hosts that began the tick
  -- They are sound,
  pub begun_sound : (n : ℕ) (xs : List (List Script)) (bs hs : List Staffed) → HaveBegun s t came n xs bs hs
      → Each IsStaffSound hs
  begun_sound n [] [] [] begun = tt
  begun_sound n [] [] (h ∷ hs) begun = absurd begun
  begun_sound n [] (b ∷ bs) hs begun = absurd begun
  begun_sound n (x ∷ xs) [] hs begun = absurd begun
  begun_sound n (x ∷ xs) (b ∷ bs) [] begun = absurd begun
  begun_sound n (x ∷ xs) (b ∷ bs) (h ∷ hs) begun = (begun.0.1.tries.sound, begun_sound (suc n) xs bs hs begun.1)

  -- and their applications may try what they try.
  pub begun_may : (n : ℕ) (xs : List (List Script)) (bs hs : List Staffed) → HaveBegun s t came n xs bs hs
      → Each MayAllPlay hs
  begun_may n [] [] [] begun = tt
  begun_may n [] [] (h ∷ hs) begun = absurd begun
  begun_may n [] (b ∷ bs) hs begun = absurd begun
  begun_may n (x ∷ xs) [] hs begun = absurd begun
  begun_may n (x ∷ xs) (b ∷ bs) [] begun = absurd begun
  begun_may n (x ∷ xs) (b ∷ bs) (h ∷ hs) begun = (begun.0.1.may, begun_may (suc n) xs bs hs begun.1)

  -- When their lanes have played, their scripts may go on.
  pub were_begun : (n : ℕ) (xs : List (List Script)) (bs hs ps : List Staffed) → ArePlayable t bs xs
      → HaveBegun s t came n xs bs hs → AllZip (IsPlayed t) hs ps → WereBegun s t xs ps
  were_begun n [] [] [] [] playable begun played = tt
  were_begun n [] [] [] (p ∷ ps) playable begun played = absurd played
  were_begun n [] [] (h ∷ hs) ps playable begun played = absurd begun
  were_begun n [] (b ∷ bs) hs ps playable begun played = absurd begun
  were_begun n (x ∷ xs) [] hs ps playable begun played = absurd begun
  were_begun n (x ∷ xs) (b ∷ bs) [] ps playable begun played = absurd begun
  were_begun n (x ∷ xs) (b ∷ bs) (h ∷ hs) [] playable begun played = absurd played
  were_begun n (x ∷ xs) (b ∷ bs) (h ∷ hs) (p ∷ ps) playable begun played = (
    record {
      name = begun.0.0;
      frames = frames_to n came;
      before = b;
      playable = playable.0;
      trying = h;
      begun = begun.0.1;
      phase = played.0;
    },
    were_begun (suc n) xs bs hs ps playable.1 begun.1 played.1,
  )

  -- ----- hosts whose scripts went on
  pub gone_sound : (xs ys : List (List Script)) (ps ks : List Staffed) → HaveGoneOn s t xs ys ps ks
      → Each IsStaffSound ks
  gone_sound [] [] [] [] gone = tt
  gone_sound [] [] [] (k ∷ ks) gone = absurd gone
  gone_sound [] [] (p ∷ ps) ks gone = absurd gone
  gone_sound [] (y ∷ ys) ps ks gone = absurd gone
  gone_sound (x ∷ xs) [] ps ks gone = absurd gone
  gone_sound (x ∷ xs) (y ∷ ys) [] ks gone = absurd gone
  gone_sound (x ∷ xs) (y ∷ ys) (p ∷ ps) [] gone = absurd gone
  gone_sound (x ∷ xs) (y ∷ ys) (p ∷ ps) (k ∷ ks) gone = (gone.0.kicks.0.sound, gone_sound xs ys ps ks gone.1)

  pub gone_may : (xs ys : List (List Script)) (ps ks : List Staffed) → HaveGoneOn s t xs ys ps ks
      → Each MayAllPlay ks
  gone_may [] [] [] [] gone = tt
  gone_may [] [] [] (k ∷ ks) gone = absurd gone
  gone_may [] [] (p ∷ ps) ks gone = absurd gone
  gone_may [] (y ∷ ys) ps ks gone = absurd gone
  gone_may (x ∷ xs) [] ps ks gone = absurd gone
  gone_may (x ∷ xs) (y ∷ ys) [] ks gone = absurd gone
  gone_may (x ∷ xs) (y ∷ ys) (p ∷ ps) [] gone = absurd gone
  gone_may (x ∷ xs) (y ∷ ys) (p ∷ ps) (k ∷ ks) gone = (gone.0.may, gone_may xs ys ps ks gone.1)

  -- ----- hosts whose lanes played
  pub played_sound : (hs ps : List Staffed) → AllZip (IsPlayed t) hs ps → Each IsStaffSound ps
  played_sound [] [] played = tt
  played_sound [] (p ∷ ps) played = absurd played
  played_sound (h ∷ hs) [] played = absurd played
  played_sound (h ∷ hs) (p ∷ ps) played = (played.0.sound, played_sound hs ps played.1)

  -- ----- the whole tick
  pub all_made : (n : ℕ) (xs ys : List (List Script)) (bs hs ps ks ms zs : List Staffed)
      → HaveBegun s t came n xs bs hs → AllZip (IsPlayed t) hs ps → HaveGoneOn s t xs ys ps ks
      → AllZip (IsPlayed t) ks ms → AllZip (IsEnded t) ms zs → AreMade s t came n xs ys bs zs
  all_made n [] [] [] [] [] [] [] [] begun first gone second ended = tt
  all_made n [] [] [] [] [] [] [] (z ∷ zs) begun first gone second ended = absurd ended
  all_made n [] [] [] [] [] [] (m ∷ ms) zs begun first gone second ended = absurd second
  all_made n [] [] [] [] [] (k ∷ ks) ms zs begun first gone second ended = absurd gone
  all_made n [] [] [] [] (p ∷ ps) ks ms zs begun first gone second ended = absurd first
  all_made n [] [] [] (h ∷ hs) ps ks ms zs begun first gone second ended = absurd begun
  all_made n [] [] (b ∷ bs) hs ps ks ms zs begun first gone second ended = absurd begun
  all_made n [] (y ∷ ys) bs hs ps ks ms zs begun first gone second ended = absurd gone
  all_made n (x ∷ xs) [] bs hs ps ks ms zs begun first gone second ended = absurd gone
  all_made n (x ∷ xs) (y ∷ ys) [] hs ps ks ms zs begun first gone second ended = absurd begun
  all_made n (x ∷ xs) (y ∷ ys) (b ∷ bs) [] ps ks ms zs begun first gone second ended = absurd begun
  all_made n (x ∷ xs) (y ∷ ys) (b ∷ bs) (h ∷ hs) [] ks ms zs begun first gone second ended = absurd first
  all_made n (x ∷ xs) (y ∷ ys) (b ∷ bs) (h ∷ hs) (p ∷ ps) [] ms zs begun first gone second ended = absurd gone
  all_made n (x ∷ xs) (y ∷ ys) (b ∷ bs) (h ∷ hs) (p ∷ ps) (k ∷ ks) [] zs begun first gone second ended =
      absurd second
  all_made n (x ∷ xs) (y ∷ ys) (b ∷ bs) (h ∷ hs) (p ∷ ps) (k ∷ ks) (m ∷ ms) [] begun first gone second ended =
      absurd ended
  all_made n (x ∷ xs) (y ∷ ys) (b ∷ bs) (h ∷ hs) (p ∷ ps) (k ∷ ks) (m ∷ ms) (z ∷ zs) begun first gone second ended = (
    record {
      name = begun.0.0;
      trying = h;
      begun = begun.0.1;
      played = p;
      first = first.0;
      kicked = k;
      gone = gone.0;
      sent = m;
      second = second.0;
      ended = ended.0;
    },
    all_made (suc n) xs ys bs hs ps ks ms zs begun.1 first.1 gone.1 second.1 ended.1,
  )
