-- What a step at one word makes of the order and of what is known.
use Rattle.std.proofs.Common.{◌≡◌, ◌≢◌, ℕ, zero, suc, ◌+◌, ◌<◌, List, [], ◌∷◌, length, cond, set, false, true, sym}
use Rattle.std.proofs.Common.{refl, ap, ◌∙◌, subst, ⊎_elim, arith, append-nil, length-set}
use mathlib.Core.Option as O
use mathlib.Core.Option.{some-injective, some-ne-none}
use mathlib.Core.Logic.{dite}
use native.Mathlib.Decide.{ℕ_discrete}
use lib.ListN.{get_elem?}
use Rattle.atomic_table.proofs.Lists.{set_here}
use Rattle.tas_model.specs.declared.entry.FlowId.{FlowId}
use Rattle.flow_lock.specs.Words.{word_at, put_word}
use Rattle.flow_lock.specs.Orders.{total, at_slot, same_flow, pins_at, known_of, played, IsRun}
use Rattle.flow_lock.specs.Steps.{alone_or, known_words, known_base, noted, MayAct}
use Rattle.flow_lock.specs.declared.word.Word.{Word}
use Rattle.flow_lock.specs.declared.view.View.{View}
use Rattle.flow_lock.specs.declared.view.Held.{Held}
use Rattle.flow_lock.specs.declared.view.History.{History}
use Rattle.flow_lock.specs.declared.view.Deed.{Deed}
use Rattle.flow_lock.specs.declared.view.Turn.{Turn}
use Rattle.flow_lock.proofs.Histories.{either_flow, after, after_same, known_after}
use Rattle.flow_lock.proofs.Ordering.{Act, signed}

-- nothing to note
pub noted_none : (l : List Turn) → l ≡ noted [] [] [] l
noted_none [] = refl
noted_none (t ∷ ts) = λ q. record t {
  deeds = sym (append-nil t.deeds) q;
  pinned = sym (append-nil t.pinned) q;
  unpinned = sym (append-nil t.unpinned) q;
} ∷ ts

-- the word that stands there
pub word_here : (ws : List Word) (i : ℕ) (w : Word) → get_elem? ws i ≡ O.some w → word_at ws i ≡ w
word_here [] i w e = absurd (some-ne-none w (sym e))
word_here (x ∷ xs) zero w e = some-injective x w e
word_here (x ∷ xs) (suc i) w e = word_here xs i w e

word_else : (ws : List Word) (i k : ℕ) (w : Word) → k ≢ i → word_at (set ws i w) k ≡ word_at ws k
word_else [] i k w ne = refl
word_else (x ∷ xs) zero zero w ne = absurd (ne refl)
word_else (x ∷ xs) zero (suc k) w ne = refl
word_else (x ∷ xs) (suc i) zero w ne = refl
word_else (x ∷ xs) (suc i) (suc k) w ne = word_else xs i k w (λ e. ne (ap suc e))

-- the pins of a word that changed are those that were won and given up
pub pins_move : (ws : List Word) (i : ℕ) (w w' : Word) (won lost : List FlowId) → get_elem? ws i ≡ O.some w
    → i < length ws
    → w'.pins + total (at_slot i) lost ≡ w.pins + total (at_slot i) won
    → ((k : ℕ) → k ≢ i → (total (at_slot k) lost ≡ 0) × (total (at_slot k) won ≡ 0))
    → (k : ℕ) → pins_at (set ws i w') k + total (at_slot k) lost ≡ pins_at ws k + total (at_slot k) won
pins_move ws i w w' won lost at near here else_ k = dite (ℕ_discrete k i)
    (λ e. let a : pins_at (set ws i w') k ≡ w'.pins = ap (λ n. pins_at (set ws i w') n) e
    ∙ ap (λ (x : Word). x.pins) (word_here (set ws i w') i w' (set_here ws i w' near)) in
    let b : pins_at ws k ≡ w.pins = ap (pins_at ws) e ∙ ap (λ (x : Word). x.pins) (word_here ws i w at) in
    let c : total (at_slot k) lost ≡ total (at_slot i) lost = ap (λ n. total (at_slot n) lost) e in
    let d : total (at_slot k) won ≡ total (at_slot i) won = ap (λ n. total (at_slot n) won) e in omega arith)
    (λ ne. let a : pins_at (set ws i w') k ≡ pins_at ws k = ap (λ (x : Word). x.pins) (word_else ws i k w' ne) in
    let b = else_ k ne in let c = b.0 in let d = b.1 in omega arith)

-- with no turn about, the words that are known change as the words do
pub known_set : (turns : List Turn) (known ws : List Word) (i : ℕ) (w : Word) (F : Word → Word) → turns ≡ []
    → known ≡ ws → get_elem? ws i ≡ O.some w
    → alone_or turns (put_word i (F (word_at known i)) known) known ≡ set ws i (F w)
known_set turns known ws i w F none_ is at = (λ q. alone_or (none_ q) (put_word i (F (word_at (is q) i)) (is q)) (is q))
    ∙ ap (λ (x : Word). set ws i (F x)) (word_here ws i w at)

-- a step at the word i that changes no history
pub word_act : (H : FlowId → History) (ws : List Word) (i : ℕ) (w : Word) (F : Word
    → Word) (v v' : View) (won lost : List FlowId) → get_elem? ws i ≡ O.some w → i < length ws → MayAct v
    → (v'.turns ≡ noted [] won lost v.turns) × (v'.made ≡ v.made) × (v'.baton ≡ v.baton) × (v'.base ≡ v.base)
    × (v'.words ≡ known_words i (F (word_at v.words i)) v)
    → (F w).pins + total (at_slot i) lost ≡ w.pins + total (at_slot i) won
    → ((k : ℕ) → k ≢ i → (total (at_slot k) lost ≡ 0) × (total (at_slot k) won ≡ 0))
    → Act H H ws (set ws i (F w)) v v' [] won lost
word_act H ws i w F v v' won lost at near may same here else_ = record {
  may = may;
  turns = same.0;
  made = same.1;
  baton = same.2;
  base = λ t ts e. (same.3, same.4 ∙ ap (λ l. alone_or l (put_word i (F (word_at v.words i)) v.words) v.words) e);
  run = λ A p all. (tt, all);
  pins = pins_move ws i w (F w) won lost at near here else_;
  known = λ none_ all g. all g ∙ ap (known_of g) (sym same.3);
  words = λ none_ is. same.4 ∙ known_set v.turns v.words ws i w F none_ is at;
  wide = length-set ws i (F w);
}

-- these deeds leave the flow f with the history l, and all others as they are
pub record Leaves (H : FlowId → History) (f : FlowId) (l : History) (ds : List Deed) : Type 0 where
  pub run : (A : List Held) (p : ℕ) → ((g : FlowId) → H g ≡ known_of g A) → IsRun A (signed p ds)
  pub here : (A : List Held) (p : ℕ) → ((g : FlowId) → H g ≡ known_of g A) → known_of f (played A (signed p ds)) ≡ l
  pub else_ : (A : List Held) (p : ℕ) (g : FlowId) → same_flow f g ≡ false
      → known_of g (played A (signed p ds)) ≡ known_of g A

-- a step at the word i after which the flow f has the history l
pub history_act : (H : FlowId → History) (f : FlowId) (l : History) (ws : List Word) (i : ℕ) (w : Word) (F : Word
    → Word) (v v' : View) (ds : List Deed) (won lost : List FlowId)
    → get_elem? ws i ≡ O.some w → i < length ws → MayAct v
    → (v'.turns ≡ noted ds won lost v.turns) × (v'.made ≡ v.made) × (v'.baton ≡ v.baton) × (v'.base ≡ known_base f l v)
    × (v'.words ≡ known_words i (F (word_at v.words i)) v)
    → (F w).pins + total (at_slot i) lost ≡ w.pins + total (at_slot i) won
    → ((k : ℕ) → k ≢ i → (total (at_slot k) lost ≡ 0) × (total (at_slot k) won ≡ 0))
    → Leaves H f l ds → Act H (after H f l) ws (set ws i (F w)) v v' ds won lost
history_act H f l ws i w F v v' ds won lost at near may same here else_ leaves = record {
  may = may;
  turns = same.0;
  made = same.1;
  baton = same.2;
  base = λ t ts e. (
    same.3 ∙ ap (λ z. alone_or z (record { flow = f; history = l } ∷ v.base) v.base) e,
    same.4 ∙ ap (λ z. alone_or z (put_word i (F (word_at v.words i)) v.words) v.words) e,
  );
  run = λ A p all. (
    leaves.run A p all,
    λ g. ⊎_elim
        (λ (t : (same_flow f g ≡ true) × (f ≡ g)). subst (λ x. after H f l x ≡ known_of x (played A (signed p ds))) t.1
        (after_same H f l ∙ sym (leaves.here A p all)))
        (λ ne. ap (λ b. cond b l (H g)) ne ∙ (all g ∙ sym (leaves.else_ A p g ne)))
        (either_flow f g),
  );
  pins = pins_move ws i w (F w) won lost at near here else_;
  known = λ none_ all g. known_after H f l v.base all g
      ∙ ap (known_of g) (sym (same.3 ∙ ap (λ z. alone_or z (record { flow = f; history = l } ∷ v.base) v.base) none_));
  words = λ none_ is. same.4 ∙ known_set v.turns v.words ws i w F none_ is at;
  wide = length-set ws i (F w);
}
