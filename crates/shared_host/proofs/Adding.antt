-- One core more: what holds of the cores that were added holds with it too. For `add_core`.
use Rattle.std.proofs.Common.{◌≡◌, ℕ, suc, ◌+◌, List, [], ◌∷◌, ◌++◌, length, Some, slice_get, refl, sym, ap, ◌∙◌}
use Rattle.std.proofs.Common.{subst, arith, map}
use Rattle.atomic_table.specs.Seated.{TableId}
use Rattle.context_queue.specs.Notes.{Place, Sender, Receiver}
use Rattle.flow_index.specs.declared.change.Change.{Change}
use Rattle.flow_lock.specs.Callers.{IsGuest}
use Rattle.flow_lock.specs.Passes.{Seen, right, new_turn}
use Rattle.flow_lock.specs.declared.view.View.{View}
use Rattle.core_worker.specs.Workers.{Common, Worker, new_worker, IsFree, HasQueue, HasSenders}
use Rattle.host_rounds.specs.Lists.{Each}
use Rattle.host_rounds.proofs.Lists.{length_push}
use Rattle.shared_host.specs.Cores.{AreCores, AreNumbered, AreTurned, HasRoom, HasOneSender, IsNew, IsGuestOf}
use Rattle.shared_host.specs.Cores.{TakesFrom}
use Rattle.shared_host.specs.Cores.{first_sender, kicking_on}
use Rattle.slow_worker.specs.Kicking.{Kicking, AreOn, CanKick}
use Rattle.steering.specs.Tables.{Sight}
use Rattle.shared_host.proofs.Lists.{each_map, each_more, still_there, last_there}

-- a pass that was split off is a guest
pub split_guest : (t : TableId) (v : View) (s : Seen) → s.table ≡ t → s.view ≡ right v → IsGuest t s
split_guest t v s table view =
    subst (λ (w : View). IsGuest t (record { table = s.table; view = w })) (sym view)
    ((table, (new_turn v.made, [], refl), refl, refl), refl, refl)

numbered_more : (first : ℕ) (ws : List Worker) (w : Worker) → AreNumbered first ws → w.core ≡ first + length ws
    → AreNumbered first (ws ++ w ∷ [])
numbered_more first [] w numbered is =
    let none : first + 0 ≡ first = omega arith in
    (is ∙ none, tt)
numbered_more first (x ∷ ws) w numbered is =
    let next : first + suc (length ws) ≡ suc first + length ws = omega arith in
    (numbered.0, numbered_more (suc first) ws w numbered.1 (is ∙ next))

turned_more : (first : ℕ) (ws : List Worker) (w : Worker) → AreTurned first ws
    → w.pass.view.turns ≡ new_turn (first + length ws) ∷ [] → AreTurned first (ws ++ w ∷ [])
turned_more first [] w turned is =
    let none : first + 0 ≡ first = omega arith in
    (is ∙ ap (λ (n : ℕ). new_turn n ∷ []) none, tt)
turned_more first (x ∷ ws) w turned is =
    let next : first + suc (length ws) ≡ suc first + length ws = omega arith in
    (turned.0, turned_more (suc first) ws w turned.1 (is ∙ ap (λ (n : ℕ). new_turn n ∷ []) next))

pub one_core : (host : ℕ) (t : TableId) (n : ℕ) (ks more : List Place) (ws grown : List Worker) (q : Place) (w : Worker)
    (pass : Seen) (v : View) (known : List Change) (kicks : Receiver)
    → AreCores host t n ks ws → HasRoom q → w ≡ new_worker host n pass known kicks → known ≡ []
    → (pass.table ≡ t) × (pass.view ≡ right v) → v.made ≡ 1 + n → kicks.line ≡ q.line → kicks.senders ≡ 1
    → more ≡ ks ++ q ∷ [] → grown ≡ ws ++ w ∷ [] → AreCores host t (n + 1) more grown
one_core host t n ks more ws grown q w pass v known kicks are room is none split count of sole is-more is-grown =
    subst (λ (xs : List Place). AreCores host t (n + 1) xs grown) (sym is-more)
    (subst (λ (ys : List Worker). AreCores host t (n + 1) (ks ++ q ∷ []) ys) (sym is-grown) grew)
  where
    made : w ≡ new_worker host n pass [] kicks
    made = is ∙ ap (λ (cs : List Change). new_worker host n pass cs kicks) none

    new : w ≡ new_worker host n w.pass [] w.kicks
    new = subst (λ (x : Worker). x ≡ new_worker host n x.pass [] x.kicks) (sym made) refl

    guest : IsGuest t w.pass
    guest = subst (λ (x : Worker). IsGuest t x.pass) (sym made) (split_guest t v pass split.0 split.1)

    turn : w.pass.view.turns ≡ new_turn (1 + length ws) ∷ []
    turn = ap (λ (x : Worker). x.pass.view.turns) made
        ∙ (ap (λ (x : View). x.turns) split.1
        ∙ ap (λ (m : ℕ). new_turn m ∷ []) (count ∙ ap (λ (m : ℕ). 1 + m) (sym are.workers)))

    line : w.kicks.line ≡ q.line
    line = ap (λ (x : Worker). x.kicks.line) made ∙ of

    core : w.core ≡ n
    core = ap (λ (x : Worker). x.core) new

    at_end : w.core ≡ length ks
    at_end = core ∙ sym are.queues

    numbered : w.core ≡ 0 + length ws
    numbered =
        let none : length ws ≡ 0 + length ws = omega arith in
        core ∙ (sym are.workers ∙ none)

    grew : AreCores host t (n + 1) (ks ++ q ∷ []) (ws ++ w ∷ [])
    grew = record {
      queues = sym (length_push n ks q (sym are.queues));
      workers = sym (length_push n ws w (sym are.workers));
      rooms = each_more HasRoom ks q are.rooms room;
      numbers = numbered_more 0 ws w are.numbers numbered;
      new = each_more (IsNew host) ws w are.new
          (subst (λ (k : ℕ). w ≡ new_worker host k w.pass [] w.kicks) (sym core) new);
      free = each_more (IsGuestOf t) ws w are.free guest;
      turns = turned_more 1 ws w are.turns turn;
      own = each_more (TakesFrom (ks ++ q ∷ [])) ws w
          (each_map (TakesFrom ks) (TakesFrom (ks ++ q ∷ [])) ws
          (λ v own. (own.0, still_there ks q own.0 v.core own.1, own.2)) are.own)
          (q, subst (λ (k : ℕ). slice_get (ks ++ q ∷ []) k ≡ Some q) (sym at_end) (last_there ks q), sym line);
      sole = each_more HasOneSender ws w are.sole (ap (λ (x : Worker). x.kicks.senders) made ∙ sole);
    }

-- none at first
none_yet : (host : ℕ) (t : TableId) → AreCores host t 0 [] []
none_yet host t = record {
  queues = refl;
  workers = refl;
  rooms = tt;
  numbers = tt;
  new = tt;
  free = tt;
  turns = tt;
  own = tt;
  sole = tt;
}

pub no_cores : (host : ℕ) (t : TableId) (ks : List Place) (ws : List Worker) → ks ≡ [] → ws ≡ []
    → AreCores host t 0 ks ws
no_cores host t ks ws no-queue no-worker =
    subst (λ (xs : List Place). AreCores host t 0 xs ws) (sym no-queue)
    (subst (λ (ys : List Worker). AreCores host t 0 [] ys) (sym no-worker) (none_yet host t))

-- ----- what their turns ask
pub each_free : (c d : Common) (ws : List Worker) → d ≡ c → Each (IsGuestOf c.table) ws → Each (IsFree d) ws
each_free c d ws is free =
    subst (λ (x : Common). Each (IsFree x) ws) (sym is) (each_map (IsGuestOf c.table) (IsFree c) ws (λ w f. f) free)

pub each_own : (c d : Common) (ws : List Worker) → d ≡ c → Each (TakesFrom c.kicks) ws → Each (HasQueue d) ws
each_own c d ws is own =
    subst (λ (x : Common). Each (HasQueue x) ws) (sym is)
    (each_map (TakesFrom c.kicks) (HasQueue c) ws (λ w o. o) own)

pub each_silent : (host : ℕ) (d : Common) (ws : List Worker) → Each (IsNew host) ws → Each (HasSenders d) ws
each_silent host d ws new =
    each_map (IsNew host) (HasSenders d) ws (λ w is. subst (λ (x : Worker). HasSenders d x) (sym is) tt) new

-- ----- who posts kicks
-- the queue's first sender was added
pub one_kicker : (ks more : List Place) (ss : List Sender) (q : Place) (s : Sender) → ss ≡ map first_sender ks
    → s ≡ record { line = q.line; number = 0; posts = [] } → more ≡ ks ++ q ∷ []
    → ss ++ s ∷ [] ≡ map first_sender more
one_kicker ks more ss q s are is grown =
    ap (λ l. l ++ s ∷ []) are ∙ (ap (λ x. map first_sender ks ++ x ∷ []) is
    ∙ (mapped ks ∙ sym (ap (map first_sender) grown)))
  where
    mapped : (l : List Place) → map first_sender l ++ first_sender q ∷ [] ≡ map first_sender (l ++ q ∷ [])
    mapped [] = refl
    mapped (p ∷ l) = ap (λ x. first_sender p ∷ x) (mapped l)

-- each posts to its queue
pub all_on : (ks : List Place) → AreOn ks (map first_sender ks)
all_on [] = tt
all_on (q ∷ ks) = (refl, all_on ks)

-- so the slow path's worker may kick
pub can_kick : (c d : Common) (s : Sight) (k : Kicking) (n : ℕ) → d ≡ c → k ≡ kicking_on s c.kicks
    → s.place ≡ c.steering → c.steering.cores ≡ n → length c.kicks ≡ n → CanKick d k
can_kick c d s k n is on place cores many =
    subst (λ (x : Common). CanKick x k) (sym is)
    (subst (CanKick c) (sym on) (record { steer = place; cores = cores ∙ sym many; own = all_on c.kicks }))
