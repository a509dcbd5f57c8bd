-- The words of slots that a barrier tells: for the laws of phases, and of flows that are opened for applications.
use Rattle.std.proofs.Common.{◌≡◌, ℕ, zero, suc, ◌+◌, ◌<◌, not, Bool, true, false, List, [], ◌∷◌}
use Rattle.std.proofs.Common.{refl, sym, ap, ◌∙◌, arith, length}
use mathlib.Core.Option as O
use lib.ListN.{get_elem?}
use Rattle.host_rounds.specs.Hosts.{is_held_by}
use Rattle.flow_lock.specs.Orders.{pins_at}
use Rattle.flow_lock.specs.Steps.{mark}
use Rattle.flow_lock.specs.Words.{flag, word_at, mark_of}
use Rattle.flow_lock.specs.declared.view.Mark.{Mark}
use Rattle.flow_lock.specs.declared.view.View.{View}
use Rattle.flow_lock.specs.declared.word.Word.{Word}
use Rattle.host_books.specs.Books.{Book}
use Rattle.sound_hosts.specs.Hosts.{word_of}
use Rattle.sound_hosts.specs.Sound.{IsMarkedAs}
use Rattle.sound_hosts.proofs.Leaving.{IsPinnedBy}
use Rattle.sound_hosts.proofs.OpenSockets.{mark_here}

word_there : (ws : List Word) (i : ℕ) → i < length ws → get_elem? ws i ≡ O.some (word_at ws i)
word_there [] i lt = absurd (omega (arith, lt))
word_there (w ∷ ws) zero lt = refl
word_there (w ∷ ws) (suc i) lt = word_there ws i (omega (arith, lt))

-- ----- words that were learned
-- the words have these pins, the slow path's marks, and none is busy
module _ (v w : View) (ws : List Word) (same : length ws ≡ length v.marks)
    (marks : (i : ℕ) (x : Word) → get_elem? ws i ≡ O.some x → get_elem? v.marks i ≡ O.some (mark_of x))
    (busy : (i : ℕ) (x : Word) → get_elem? ws i ≡ O.some x → flag x.busy ≡ 0) where
  free : (b : Bool) → flag b ≡ 0 → b ≡ false
  free true e = absurd (omega (arith, e))
  free false e = refl

  pub learned : (b : Book) → b.id.slot < length v.marks → IsMarkedAs v.marks b → IsPinnedBy (pins_at ws) b
      → b.filed ≡ false → word_at ws b.id.slot ≡ word_of b
  learned b low marked pinned stands =
      let there : get_elem? ws b.id.slot ≡ O.some (word_at ws b.id.slot) =
      word_there ws b.id.slot (omega (arith, low, same)) in
      let is : mark_of (word_at ws b.id.slot) ≡ mark b.id.generation true (not b.indexed) =
      sym (mark_here v.marks b.id.slot (mark_of (word_at ws b.id.slot)) (marks b.id.slot (word_at ws b.id.slot) there))
      ∙ marked stands in
      let generation : (word_at ws b.id.slot).generation ≡ b.id.generation = ap (λ (m : Mark). m.generation) is in
      let live : (word_at ws b.id.slot).live ≡ true = ap (λ (m : Mark). m.live) is in
      let doomed : (word_at ws b.id.slot).doomed ≡ not b.indexed = ap (λ (m : Mark). m.doomed) is in
      let pins : (word_at ws b.id.slot).pins ≡ 1 + flag (is_held_by b.holder) = pinned stands in
      let idle : (word_at ws b.id.slot).busy ≡ false =
      free (word_at ws b.id.slot).busy (busy b.id.slot (word_at ws b.id.slot) there) in
      λ i. record {
        generation = generation i;
        pins = pins i;
        live = live i;
        doomed = doomed i;
        busy = idle i;
      }
