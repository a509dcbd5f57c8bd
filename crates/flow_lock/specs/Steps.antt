-- What each step makes of a view.
use Rattle.std.specs.Prelude.{◌≡◌, ℕ, ◌+◌, ◌-◌, Bool, true, false, not, ◌==◌, cond, ◌⊎◌, List, [], ◌∷◌, ◌++◌, length}
use Rattle.std.specs.Prelude.{drop, slice_set, slice_index_or}
use Rattle.tas_model.specs.declared.entry.Entry.{Entry}
use Rattle.tas_model.specs.declared.entry.FlowId.{FlowId}
use Rattle.flow_lock.specs.Words.{flag, live_word, dead_word, word_at, put_word}
use Rattle.flow_lock.specs.Histories.{longer, unborn}
use Rattle.flow_lock.specs.Orders.{named, once_below}
use Rattle.flow_lock.specs.declared.word.Word.{Word}
use Rattle.flow_lock.specs.declared.view.View.{View}
use Rattle.flow_lock.specs.declared.view.Held.{Held}
use Rattle.flow_lock.specs.declared.view.History.{History}
use Rattle.flow_lock.specs.declared.view.Mark.{Mark}
use Rattle.flow_lock.specs.declared.view.Deed.{Deed}
use Rattle.flow_lock.specs.declared.view.Turn.{Turn}

-- ----- who may act
abbrev pub HasTurn : View → Type 0
HasTurn v = (t : Turn) × (ts : List Turn) × (v.turns ≡ t ∷ ts)

-- the view has the baton, and there is no turn anywhere
abbrev pub IsAlone : View → Type 0
IsAlone v = (v.baton ≡ true) × (v.turns ≡ []) × (v.made ≡ 0)

abbrev pub MayAct : View → Type 0
MayAct v = HasTurn v ⊎ IsAlone v

-- the view has all turns
abbrev pub HasAll : View → Type 0
HasAll v = (p : ℕ) → named p v ≡ once_below p v.made

-- ----- what is written down of a step
-- Done in the first turn: deeds, pins won and pins given up.
abbrev pub noted : List Deed → List FlowId → List FlowId → List Turn → List Turn
noted ds won lost [] = []
noted ds won lost (t ∷ ts) =
    record t { deeds = t.deeds ++ ds; pinned = t.pinned ++ won; unpinned = t.unpinned ++ lost } ∷ ts

-- Done alone: what is known changes, and else it stays.
abbrev pub alone_or : {A : Type 0} → List Turn → A → A → A
alone_or [] changed stays = changed
alone_or (t ∷ ts) changed stays = stays

-- the words that are known, after this one became w
abbrev pub known_words : ℕ → Word → View → List Word
known_words i w v = alone_or v.turns (put_word i w v.words) v.words

-- the histories that are known, after this flow's became h
abbrev pub known_base : FlowId → History → View → List Held
known_base f h v = alone_or v.turns (record { flow = f; history = h } ∷ v.base) v.base

-- these entries, one after the other, behind this history
abbrev pub deeds_of : FlowId → History → List Entry → List Deed
deeds_of f h [] = []
deeds_of f h (x ∷ xs) = record { flow = f; before = h; entry = x } ∷ deeds_of f (longer h (x ∷ [])) xs

-- what was added to the record held
abbrev pub added : FlowId → List Held → History → List Deed
added f [] l = []
added f (h ∷ hs) l = deeds_of f h.history (drop (length h.history.entries) l.entries)

-- ----- looks
-- a counted step on the slot i, which found w
abbrev pub counted : ℕ → Word → View → View
counted i w v = record v { steps = v.steps + 1; before = v.found; found = record { slot = i; word = w } ∷ [] }

-- the view holds a record of the slot
abbrev pub is_held : ℕ → List Held → Bool
is_held i [] = false
is_held i (h ∷ hs) = cond (h.flow.slot == i) true (is_held i hs)

-- a look by who holds the record isn't counted
abbrev pub looked : ℕ → Word → View → View
looked i w v = cond (is_held i v.held) v (counted i w v)

-- ----- pins
abbrev pub pin_more : Word → Word
pin_more w = record w { pins = w.pins + 1 }

abbrev pub pin_less : Word → Word
pin_less w = record w { pins = w.pins - 1 }

abbrev pub pinned : FlowId → View → View
pinned f v = record v {
  pins = f ∷ v.pins;
  moves = v.moves + 1;
  turns = noted [] (f ∷ []) [] v.turns;
  words = known_words f.slot (pin_more (word_at v.words f.slot)) v;
}

abbrev pub without : ℕ → List FlowId → List FlowId
without i [] = []
without i (f ∷ fs) = cond (f.slot == i) (without i fs) (f ∷ without i fs)

abbrev pub unpinned : FlowId → View → View
unpinned f v = record v {
  pins = without f.slot v.pins;
  moves = v.moves + 1;
  turns = noted [] [] (f ∷ []) v.turns;
  words = known_words f.slot (pin_less (word_at v.words f.slot)) v;
}

-- ----- records
abbrev pub taken : FlowId → History → View → View
taken f h v = record v {
  held = record { flow = f; history = h } ∷ [];
  moves = v.moves + 1;
  words = known_words f.slot (record (word_at v.words f.slot) { busy = true }) v;
}

abbrev pub held_length : List Held → ℕ
held_length [] = 0
held_length (h ∷ hs) = length h.history.entries

abbrev pub gave : FlowId → History → View → View
gave f h v = record v {
  held = [];
  moves = v.moves + 1;
  seen = record { flow = f; history = h } ∷ v.seen;
  mine = record { flow = f; from = held_length v.held; upto = length h.entries } ∷ v.mine;
  turns = noted (added f v.held h) [] [] v.turns;
  base = known_base f h v;
  words = known_words f.slot (record (word_at v.words f.slot) { busy = false }) v;
}

-- ----- the slow path's
abbrev pub mark : ℕ → Bool → Bool → Mark
mark g live doomed = record { generation = g; live = live; doomed = doomed }

abbrev pub mark_at : List Mark → ℕ → Mark
mark_at ms i = slice_index_or ms i (mark 0 false false)

-- doomed once more nothing moves
abbrev pub condemned : FlowId → View → View
condemned f v = record v {
  marks = slice_set v.marks f.slot (record (mark_at v.marks f.slot) { doomed = true });
  moves = v.moves + flag (not (mark_at v.marks f.slot).doomed);
  words = known_words f.slot (record (word_at v.words f.slot) { doomed = true }) v;
}

-- the empty value of the slot i is out
abbrev pub emptied : ℕ → View → View
emptied i v = record v { out = i ∷ [] }

abbrev pub opened : FlowId → History → View → View
opened f h v = record v {
  out = [];
  pins = f ∷ v.pins;
  moves = v.moves + 1;
  marks = slice_set v.marks f.slot (mark f.generation true false);
  seen = record { flow = f; history = h } ∷ v.seen;
  mine = record { flow = f; from = 0; upto = length h.entries } ∷ v.mine;
  opened = v.opened + 1;
  turns = noted (deeds_of f (unborn h) h.entries) (f ∷ []) [] v.turns;
  base = known_base f h v;
  words = known_words f.slot (live_word f.generation) v;
}

abbrev pub freed : FlowId → View → View
freed f v = record v {
  out = f.slot ∷ [];
  pins = without f.slot v.pins;
  moves = v.moves + 1;
  marks = slice_set v.marks f.slot (mark f.generation false false);
  turns = noted [] [] (f ∷ []) v.turns;
  words = known_words f.slot (dead_word f.generation) v;
}

abbrev pub restored : View → View
restored v = record v { out = [] }
