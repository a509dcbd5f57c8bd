-- What was done in all turns is one order of deeds of a run: for the law turns_are_beside.
use Rattle.std.proofs.Common.{ℕ, List, [], ◌∷◌, map, refl}
use Rattle.host_rounds.specs.Scripts.{Scripts}
use Rattle.host_rounds.specs.Lists.{Each}
use Rattle.host_rounds.specs.Cores.{IsWorkerOf}
use Rattle.flow_lock.specs.Orders.{Order}
use Rattle.flow_lock.specs.declared.view.Held.{Held}
use Rattle.host_books.specs.Books.{Setting}
use Rattle.host_books.specs.Ticks.{Beside, AreByWorkers}
use Rattle.host_books.specs.Leavings.{AreLeft}
use Rattle.host_books.specs.Tries.{Word, IsWord, IsTry, ToldAs, LetsPass, deed_of, told_of}
use Rattle.host_books.specs.Words.{merged}
use Rattle.host_books.proofs.Gathering.{all_each, all_deeds, all_pairs, all_moved}
use Rattle.host_books.proofs.Telling.{told}
use Rattle.lane_orders.specs.Turns.{Did, AreTurns, IsOfTurns, frame_by, ask_by, words_in}

-- words by workers are deeds by them
told_by : {S A : Type 0} (cores : ℕ) (ws : List (Word S A)) → Each (λ (w : Word S A). IsWorkerOf cores w.told.by) ws
    → AreByWorkers cores (map told_of ws)
told_by cores [] each = tt
told_by cores (w ∷ ws) each = (each.0, told_by cores ws each.1)

pub beside : {S A : Type 0} (scripts : Scripts S A) (t : ℕ) (s : Setting) (state : S) (known : List Held)
    (order : Order) (turns : ℕ) (did : ℕ → Did S A) → AreTurns scripts t s state known order turns did
    → (b : Beside scripts t) × IsOfTurns scripts t s state known order turns did b
beside {S} {A} scripts t s state known order turns did are =
    let words : List (Word S A) = merged order (words_in did) in
    let each : Each (IsWord t s.books) words =
    all_each (IsWord t s.books) order (words_in did) (λ p. (are.done p).each) in
    let both : (r : ToldAs scripts t s state known order (map told_of words)) × AreLeft words r =
    told scripts t s state known order words are.indexed are.run
    (all_deeds deed_of order (words_in did) are.deeds) each
    (all_each (λ (w : Word S A). Each (IsTry scripts t s state) w.tries) order (words_in did) are.tries)
    (all_pairs deed_of (LetsPass scripts t) order (words_in did) are.deeds are.apart) in (
      record {
        setting = s;
        state = state;
        known = known;
        order = order;
        words = words;
        each = each;
        told = both.0;
      },
      record {
        setting_is = refl;
        state_is = refl;
        known_is = refl;
        order_is = refl;
        words_are = refl;
        leave = both.1;
        taken = all_moved deed_of frame_by turns order (words_in did) are.below are.deeds;
        asked = all_moved deed_of ask_by turns order (words_in did) are.below are.deeds;
        workers = λ cores each. told_by cores words
            (all_each (λ (w : Word S A). IsWorkerOf cores w.told.by) order (words_in did) each);
      },
    )
