-- A store's map, as its hash map's calls change it. A key is looked up by its bytes.
use Rattle.std.proofs.Common.{◌≡◌, ℕ, suc, ◌+◌, Bool, true, false, cond, List, [], ◌∷◌, length, map, Vec, Option}
use Rattle.std.proofs.Common.{Some, None}
use Rattle.std.proofs.Common.{is_some, refl, sym, ap, ◌∙◌, arith}
use Rattle.std.specs.Prelude.{option_map, bytes_eq}
use Rattle.std.specs.Ordering.{nat_cmp}
use Rattle.std.specs.Cmp.Lexicographic.{slice_cmp, nat_list_cmp_total, nat_list_eq_equiv, bytes_decides, texts_ties}
use Rattle.std.specs.FinMap.{find, get, insert, remove, len, contains_key, same_map}
use Rattle.std.specs.FinMap.{nat_cmp-IsAntisymmetric, slice_cmp-IsAntisymmetric}
use Rattle.std.specs.FinMap.{get-from_entries, get-insert, get-remove, len-insert, len-empty}
use Rattle.std.specs.Map.{lookup, keys_of, KeepsOthers}
use Rattle.std.specs.List.{IsDistinct, AllByRecursion}
use Rattle.std.specs.declared.alloc.Global.{Global}
use Rattle.kv_sessions.specs.Stored.{Item, Map}
use Rattle.kv_sessions.specs.Shown.{item_of, map_of}
use Rattle.kv_sessions.specs.declared.store.Held.{Held}

abbrev pub Key : Type 0
Key = Vec ℕ Global

-- a look-up by bytes
abbrev pub is_at : List ℕ → Key → Bool
is_at bytes key = bytes_eq bytes key.items

abbrev pub same_key : Key → Key → Bool
same_key x y = bytes_eq x.items y.items

-- ----- what is found
found_by : (b : Bool) (held : Held) (later : Option Held) (later_item : Option Item)
    → later_item ≡ option_map item_of later
    → cond b (Some (item_of held)) later_item ≡ option_map item_of (cond b (Some held) later)
found_by true held later later_item e = refl
found_by false held later later_item e = e

find_is : (bytes : List ℕ) (es : List (Key × Held))
    → find (slice_cmp nat_cmp) bytes (map (λ (e : Key × Held). (e.0.items, item_of e.1)) es)
    ≡ option_map item_of (lookup (is_at bytes) es)
find_is bytes [] = refl
find_is bytes (e ∷ es) =
    rw (← texts_ties bytes e.0.items)
    (found_by (bytes_eq bytes e.0.items) e.1 (lookup (is_at bytes) es) _ (find_is bytes es))

pub get_is : (es : List (Key × Held)) (bytes : List ℕ)
    → get (map_of es) bytes ≡ option_map item_of (lookup (is_at bytes) es)
get_is es bytes = get-from_entries nat_list_cmp_total _ bytes ∙ find_is bytes es

-- ----- what a change leaves
apart : (bytes other k : List ℕ) → bytes_eq bytes other ≡ false → bytes_eq bytes k ≡ true → bytes_eq other k ≡ false
apart bytes other k n y =
    nat_list_eq_equiv.symm other k ∙ sym (nat_list_eq_equiv.congr bytes k other y) ∙ n

others : (bytes other : List ℕ) (old new : List (Key × Held)) → KeepsOthers same_key (is_at bytes) old new
    → bytes_eq bytes other ≡ false → lookup (is_at other) new ≡ lookup (is_at other) old
unfolding KeepsOthers
others bytes other old new keeps n =
    keeps (is_at other) (λ x y. nat_list_eq_equiv.congr other x.items y.items)
    (λ k. apart bytes other k.items n)

-- after a change of what is at these bytes
looked_up : (bytes : List ℕ) (old new : List (Key × Held)) (w : Option Held)
    → KeepsOthers same_key (is_at bytes) old new → lookup (is_at bytes) new ≡ w
    → (other : List ℕ) → lookup (is_at other) new ≡ cond (bytes_eq other bytes) w (lookup (is_at other) old)
looked_up bytes old new w keeps here other = by_test (bytes_eq other bytes) refl
  where
    by_test : (b : Bool) → bytes_eq other bytes ≡ b
        → lookup (is_at other) new ≡ cond b w (lookup (is_at other) old)
    by_test true e = ap (λ (bs : List ℕ). lookup (is_at bs) new) ((bytes_decides other bytes).0 e) ∙ here
    by_test false e = others bytes other old new keeps (nat_list_eq_equiv.symm bytes other ∙ e)

same : (m n : Map) → ((q : List ℕ) → get m q ≡ get n q) → m ≡ n
same m n = same_map nat_list_cmp_total (slice_cmp-IsAntisymmetric nat_cmp-IsAntisymmetric) m n

changed_by : (b : Bool) (held : Held) (old : Option Held) (was : Option Item) → was ≡ option_map item_of old
    → option_map item_of (cond b (Some held) old) ≡ cond b (Some (item_of held)) was
changed_by true held old was e = refl
changed_by false held old was e = sym e

pub put_is : (bytes : List ℕ) (held : Held) (old new : List (Key × Held))
    → KeepsOthers same_key (is_at bytes) old new → lookup (is_at bytes) new ≡ Some held
    → map_of new ≡ insert (map_of old) bytes (item_of held)
put_is bytes held old new keeps here = same _ _ (λ q.
    get_is new q
    ∙ ap (option_map item_of) (looked_up bytes old new (Some held) keeps here q)
    ∙ changed_by (bytes_eq q bytes) held (lookup (is_at q) old) (get (map_of old) q) (get_is old q)
    ∙ ap (λ (b : Bool). cond b (Some (item_of held)) (get (map_of old) q)) (texts_ties q bytes)
    ∙ sym (get-insert nat_list_cmp_total (map_of old) bytes (item_of held) q))

gone_by : (b : Bool) (old : Option Held) (was : Option Item) → was ≡ option_map item_of old
    → option_map item_of (cond b None old) ≡ cond b None was
gone_by true old was e = refl
gone_by false old was e = sym e

pub removed_is : (bytes : List ℕ) (old new : List (Key × Held))
    → KeepsOthers same_key (is_at bytes) old new → lookup (is_at bytes) new ≡ None
    → map_of new ≡ remove (map_of old) bytes
removed_is bytes old new keeps here = same _ _ (λ q.
    get_is new q
    ∙ ap (option_map item_of) (looked_up bytes old new None keeps here q)
    ∙ gone_by (bytes_eq q bytes) (lookup (is_at q) old) (get (map_of old) q) (get_is old q)
    ∙ ap (λ (b : Bool). cond b None (get (map_of old) q))
    (nat_list_eq_equiv.symm q bytes ∙ texts_ties bytes q ∙ sym (texts_ties bytes q)
    ∙ nat_list_eq_equiv.symm bytes q ∙ texts_ties q bytes)
    ∙ sym (get-remove nat_list_cmp_total (map_of old) bytes q))

-- ----- how many keys
none_there : (k : Key) (es : List (Key × Held)) → AllByRecursion (λ y. same_key k y ≡ false) (keys_of es)
    → lookup (is_at k.items) es ≡ None
none_there k [] h = refl
none_there k (e ∷ es) h = rw (h.0) (none_there k es h.1)

pub len_is : (es : List (Key × Held)) → IsDistinct same_key (keys_of es) → len (map_of es) ≡ length es
unfolding IsDistinct
len_is [] h = len-empty (slice_cmp nat_cmp) Item
len_is (e ∷ es) h =
    let absent : contains_key (map_of es) e.0.items ≡ false =
    ap is_some (get_is es e.0.items ∙ ap (option_map item_of) (none_there e.0 es h.0)) in
    len-insert nat_list_cmp_total (map_of es) e.0.items (item_of e.1)
    ∙ ap (λ (b : Bool). cond b (len (map_of es)) (len (map_of es) + 1)) absent
    ∙ ap (λ (n : ℕ). n + 1) (len_is es h.1) ∙ more (length es) where
      more : (n : ℕ) → n + 1 ≡ suc n
      more n = omega arith
