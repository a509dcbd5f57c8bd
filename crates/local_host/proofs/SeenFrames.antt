-- Frames that are seen one by one, each for the first time.
use Rattle.std.proofs.Common.{◌≡◌, ℕ, ◌+◌, ◌<◌, ◌≤◌, ◌++◌, ◌==◌, ◌&&◌, not, Bool, true, false, cond, List, [], ◌∷◌}
use Rattle.std.proofs.Common.{length, get_or, map, take, refl, sym, ap, ◌∙◌, arith, tests, true≢false}
use Rattle.std.proofs.Common.{◌⊎◌, inl, inr}
use Rattle.std.specs.Prelude.{count_by}
use Rattle.std.proofs.lemmas.List.{take_more, map-append}
use Rattle.std.proofs.lemmas.List.Sums.{sum_by_push}
use Rattle.tas_model.specs.declared.entry.FrameId.{FrameId}
use Rattle.host_rounds.specs.Deliveries.{Arrival, same_frame}
use Rattle.core_rounds.specs.CoreTicks.{is_frame}
use Rattle.local_host.specs.declared.arrival.Arrival as code
use Rattle.local_host.specs.declared.distinct.FrameKey.{FrameKey}
use Rattle.local_host.specs.Arriving.{arrival_in}
use Rattle.local_host.specs.Keys.{key_in, same_key}
use Rattle.local_host.proofs.LaneLists.{tally}
use Rattle.local_host.proofs.HandingOut.{either}

-- Whether a frame was seen, by a test of its key, and how often it came.
pub record IsSeenBy (seen : FrameKey → Bool) (frames : List Arrival) (frame : FrameId) : Type 0 where
  pub few : count_by (is_frame frame) frames ≤ 1
  pub new : seen (key_in frame) ≡ false → count_by (is_frame frame) frames ≡ 0

abbrev pub AreSeenBy : (FrameKey → Bool) → List Arrival → Type 0
AreSeenBy seen frames = (frame : FrameId) → IsSeenBy seen frames frame

both : (a b : Bool) → (a && b) ≡ true → (a ≡ true) × (b ≡ true)
both true b h = (refl, h)
both false b h = absurd (true≢false (sym h))

and_true : (a b : Bool) → a ≡ true → b ≡ true → (a && b) ≡ true
and_true true b h g = g
and_true false b h g = h

equal : (n m : ℕ) → (n == m) ≡ true → n ≡ m
equal n m h = grind (arith, tests, h)

itself : (n : ℕ) → (n == n) ≡ true
itself n = grind (arith, tests)

same_fields : (h h' f f' n n' c c' : ℕ) → h ≡ h' → f ≡ f' → n ≡ n' → c ≡ c'
    → ◌≡◌ {A = FrameId} (record { host = h; flow = f; number = n; copy = c })
    (record { host = h'; flow = f'; number = n'; copy = c' })
same_fields h h' f f' n n' c c' a b d e = cc (a, b, d, e)

same_parts : (f g : FrameId) → same_frame f g ≡ true → f ≡ g
same_parts f g same =
    let third = both (f.host == g.host && f.flow == g.flow && f.number == g.number) (f.copy == g.copy) same in
    let second = both (f.host == g.host && f.flow == g.flow) (f.number == g.number) third.0 in
    let first = both (f.host == g.host) (f.flow == g.flow) second.0 in
    same_fields f.host g.host f.flow g.flow f.number g.number f.copy g.copy (equal f.host g.host first.0)
    (equal f.flow g.flow first.1) (equal f.number g.number second.1) (equal f.copy g.copy third.1)

key_itself : (k : FrameKey) → same_key k k ≡ true
key_itself k =
    and_true (k.host == k.host) (k.flow == k.flow && (k.number == k.number && k.copy == k.copy)) (itself k.host)
    (and_true (k.flow == k.flow) (k.number == k.number && k.copy == k.copy) (itself k.flow)
    (and_true (k.number == k.number) (k.copy == k.copy) (itself k.number) (itself k.copy)))

pub not_seen : (b c : Bool) → b ≡ not c → b ≡ true → c ≡ false
not_seen b true is h = sym h ∙ is
not_seen b false is h = refl

second_false : (a b : Bool) → cond a true b ≡ false → b ≡ false
second_false true b h = absurd (true≢false h)
second_false false b h = h

pub seen_more : (before after : FrameKey → Bool) (xs : List code.Arrival) (i : ℕ) (d : code.Arrival) → i < length xs
    → before (key_in (get_or xs i d).frame) ≡ false
    → ((q : FrameKey) → after q ≡ cond (same_key (key_in (get_or xs i d).frame) q) true (before q))
    → AreSeenBy before (map arrival_in (take i xs)) → AreSeenBy after (map arrival_in (take (i + 1) xs))
seen_more before after xs i d low fresh told are = λ frame. by_frame frame (either (same_frame frame x.frame)) where
  x : code.Arrival
  x = get_or xs i d

  frames : List Arrival
  frames = map arrival_in (take i xs)

  grown : map arrival_in (take (i + 1) xs) ≡ frames ++ arrival_in x ∷ []
  grown = ap (map arrival_in) (take_more xs i d low) ∙ map-append arrival_in (take i xs) (x ∷ [])

  counted : (frame : FrameId)
      → count_by (is_frame frame) (map arrival_in (take (i + 1) xs))
      ≡ count_by (is_frame frame) frames + tally (same_frame frame x.frame)
  counted frame = ap (count_by (is_frame frame)) grown
      ∙ sum_by_push (λ (y : Arrival). tally (same_frame frame y.frame)) frames (arrival_in x)

  by_frame : (frame : FrameId) → (same_frame frame x.frame ≡ true) ⊎ (same_frame frame x.frame ≡ false)
      → IsSeenBy after (map arrival_in (take (i + 1) xs)) frame
  by_frame frame (inl same) =
      let is : frame ≡ x.frame = same_parts frame x.frame same in
      let one : tally (same_frame frame x.frame) ≡ 1 = ap tally same in
      let none : count_by (is_frame frame) frames ≡ 0 =
      (are frame).new (ap (λ (f : FrameId). before (key_in f)) is ∙ fresh) in
      let now : after (key_in frame) ≡ true = told (key_in frame)
      ∙ ap (λ (b : Bool). cond b true (before (key_in frame)))
      (ap (λ (f : FrameId). same_key (key_in x.frame) (key_in f)) is ∙ key_itself (key_in x.frame)) in
      record {
        few = omega (arith, counted frame, one, none);
        new = λ unseen. absurd (true≢false (sym now ∙ unseen));
      }
  by_frame frame (inr other) =
      let zero : tally (same_frame frame x.frame) ≡ 0 = ap tally other in
      let few : count_by (is_frame frame) frames ≤ 1 = (are frame).few in
      record {
        few = omega (arith, counted frame, zero, few);
        new = λ unseen.
            let none : count_by (is_frame frame) frames ≡ 0 = (are frame).new
            (second_false (same_key (key_in x.frame) (key_in frame)) (before (key_in frame))
            (sym (told (key_in frame)) ∙ unseen)) in
            omega (arith, counted frame, zero, none);
      }
