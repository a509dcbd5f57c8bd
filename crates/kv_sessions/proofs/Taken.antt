-- What the code takes of a line, and which step that is.
use Rattle.std.proofs.Common.{◌≡◌, ℕ, ◌+◌, ◌<◌, ◌≤◌, Bool, true, false, not, cond, eqb, List, [], ◌∷◌, ◌++◌, length}
use Rattle.std.proofs.Common.{take, get_or, Some, None, Ok, Err, OnErr, refl, sym, ap, ◌∙◌, subst, arith}
use Rattle.std.proofs.Common.{add-one, append_assoc, length-append, length-take, nat_lt, nat_le}
use Rattle.std.specs.Prelude.{position, Result}
use Rattle.std.specs.List.{position_or_len}
use Rattle.std.proofs.lemmas.Bool.Decides.{nat_tests}
use Rattle.std.proofs.lemmas.List.Folds.{prefix_len-append}
use Rattle.std.proofs.lemmas.List.Sums.{prefix_len_is, prefix_len_passes, prefix_len_stops, prefix_len-le-length}
use Rattle.std.proofs.lemmas.List.{take-take, get_or-take}
use Rattle.std.proofs.Math.Seq.{take-suc}
use Rattle.kv_sessions.specs.Stored.{Map}
use Rattle.kv_sessions.specs.Lines.{FirstLine, Unended, TooLong, Line, first_line, text_of, is_line_feed}
use Rattle.kv_sessions.specs.Sessions.{Standing, InLine, InBlock, InDropped, Over}
use Rattle.kv_sessions.specs.Steps.{Made, IsLast, ended_line, open_line, line_step, block_step, dropped_step, Leads}
use Rattle.kv_sessions.specs.Steps.{standing_in}
use Rattle.kv_sessions.specs.declared.mode.Mode.{Mode}
use Rattle.kv_sessions.proofs.Lined.{place, no_place, at_none, line_ends, line_open}
use Rattle.kv_sessions.proofs.Standings.{line_leads, block_leads, drop_leads, over_leads}

-- ----- where no byte passes
abbrev fails : (p : ℕ → Bool) → ℕ → Bool
fails p c = not (p c)

both_none : (at n more m : ℕ) → at ≡ n → more ≡ m → cond (eqb at n) (n + more) at ≡ n + m
both_none at n more m e g =
    let t : eqb at n ≡ true = grind (arith, nat_tests, e) in
    rw t (ap (λ (k : ℕ). n + k) g)

pub none_joined : (p : ℕ → Bool) (xs ys : List ℕ) → position p xs ≡ None → position p ys ≡ None
    → position p (xs ++ ys) ≡ None
none_joined p xs ys h g =
    let first : position_or_len p xs ≡ length xs = omega (arith, no_place p xs h, prefix_len-le-length (fails p) xs) in
    let second : position_or_len p ys ≡ length ys = omega (arith, no_place p ys g, prefix_len-le-length (fails p) ys) in
    let all : position_or_len p (xs ++ ys) ≡ length xs + length ys =
    prefix_len-append (fails p) xs ys ∙ both_none _ _ _ _ first second in
    at_none _ _ (omega (arith, all, length-append xs ys))

none_before : (p : ℕ → Bool) (xs : List ℕ) (e : ℕ) → position p xs ≡ Some e → position p (take e xs) ≡ None
none_before p xs e h =
    let here = place p xs e h in
    let size : length (take e xs) ≡ e = omega (arith, length-take e xs, here.0, here.1) in
    let all : position_or_len p (take e xs) ≡ e =
    prefix_len_is (fails p) (take e xs) e 0 (omega (arith, size))
    (λ k below. rw (get_or-take e xs k 0 below) (prefix_len_passes (fails p) xs k 0 (omega (arith, below, here.0))))
    (λ past. absurd (omega (arith, past, size))) in
    at_none _ _ (omega (arith, all, size))

-- ----- where the first line feed stands
turned : (b : Bool) → not b ≡ false → b ≡ true
turned true h = refl
turned false h = absurd (cc (h))

-- it stands at e among the first `room` bytes
pub record EndsAt (bytes : List ℕ) (room e : ℕ) : Type 0 where
  pub within : e < length bytes
  pub inside : e < room
  pub seam : take (e + 1) bytes ≡ take e bytes ++ 10 ∷ []
  pub none : position is_line_feed (take e bytes) ≡ None

ends_at : (bytes : List ℕ) (room e : ℕ) → position is_line_feed (take room bytes) ≡ Some e → EndsAt bytes room e
ends_at bytes room e h =
    let here = place is_line_feed (take room bytes) e h in
    let inside : e < room = omega (arith, here.0, here.1, length-take room bytes) in
    let within : e < length bytes = omega (arith, here.0, here.1, length-take room bytes) in
    let stops : not (is_line_feed (get_or (take room bytes) (position_or_len is_line_feed (take room bytes)) 0))
    ≡ false =
    prefix_len_stops (fails is_line_feed) (take room bytes) 0 here.1 in
    let there : is_line_feed (get_or bytes e 0) ≡ true =
    ap (λ (c : ℕ). is_line_feed c) (sym (get_or-take room bytes e 0 inside))
    ∙ ap (λ (k : ℕ). is_line_feed (get_or (take room bytes) k 0)) (sym here.0)
    ∙ turned _ stops in
    let byte : get_or bytes e 0 ≡ 10 = grind (arith, nat_tests, there) in
    let less : take e (take room bytes) ≡ take e bytes = take-take e room bytes (omega arith) in
    record {
      within = within;
      inside = inside;
      seam = ap (λ (k : ℕ). take k bytes) (add-one e) ∙ take-suc bytes e 0 within
          ∙ ap (λ (c : ℕ). take e bytes ++ c ∷ []) byte;
      none = subst (λ (xs : List ℕ). position is_line_feed xs
          ≡ None) less (none_before is_line_feed (take room bytes) e h);
    }

-- ----- steps of a line
along : (m : Map) (got got' : List ℕ) (f f' : FirstLine) (before after : List ℕ) (store : Map) (mode : Mode)
    → got ≡ got' → f ≡ f' → Made (line_step m got' f') before after store mode
    → Made (line_step m got f) before after store mode
along m got got' f f' before after store mode e g h =
    subst (λ (x : List ℕ). Made (line_step m x f) before after store mode) (sym e)
    (subst (λ (y : FirstLine). Made (line_step m got' y) before after store mode) (sym g) h)

last_by : (b : Bool) (text : List ℕ) → IsLast (cond b (Line text []) TooLong)
last_by true text = refl
last_by false text = tt

open_last_by : (b : Bool) → IsLast (cond b Unended TooLong)
open_last_by true = tt
open_last_by false = tt

leads_on : (line taken : List ℕ) (m : Map) (before after : List ℕ) (store : Map) (mode : Mode)
    → IsLast (first_line (line ++ taken))
    → Made (line_step m (line ++ taken) (first_line (line ++ taken))) before after store mode
    → Leads (InLine line) m before taken (standing_in mode) store after
leads_on line taken m before after store mode last made =
    line_leads line taken m before (standing_in mode) store after last made.replies made.map made.stands

-- no line feed among the bytes that are taken
pub stays_open : (line bytes : List ℕ) (room : ℕ) (got : List ℕ) (m : Map) (before after : List ℕ) (store : Map)
    (mode : Mode)
    → position is_line_feed line ≡ None → position is_line_feed (take room bytes) ≡ None
    → length (line ++ take room bytes) ≤ 514 → got ≡ line ++ take room bytes
    → Made (line_step m got (open_line got)) before after store mode
    → Leads (InLine line) m before (take room bytes) (standing_in mode) store after
stays_open line bytes room got m before after store mode h g size same made =
    let all : List ℕ = line ++ take room bytes in
    let is : first_line all
    ≡ open_line all = line_open all (none_joined is_line_feed line (take room bytes) h g) size in
    leads_on line (take room bytes) m before after store mode
    (subst IsLast (sym is) (open_last_by (nat_lt (length all) 514)))
    (along m all got (first_line all) (open_line got) before after store mode (sym same) (is
    ∙ ap open_line (sym same)) made)

-- the line feed stands at e
pub ends_line : (line bytes : List ℕ) (room e : ℕ) (m : Map) (before after : List ℕ) (store : Map) (mode : Mode)
    → position is_line_feed line ≡ None → position is_line_feed (take room bytes) ≡ Some e → length line + room ≤ 514
    → Made (line_step m ((line ++ take e bytes) ++ 10 ∷ []) (ended_line (line ++ take e bytes))) before after store mode
    → Leads (InLine line) m before (take (e + 1) bytes) (standing_in mode) store after
ends_line line bytes room e m before after store mode h g size made =
    let at = ends_at bytes room e g in
    let front : List ℕ = line ++ take e bytes in
    let all : line ++ take (e + 1) bytes ≡ front ++ 10 ∷ [] =
    ap (λ (xs : List ℕ). line ++ xs) at.seam ∙ sym (append_assoc line (take e bytes) (10 ∷ [])) in
    let short : length front < 514 =
    omega (arith, length-append line (take e bytes), length-take e bytes, at.within, at.inside) in
    let is : first_line (line ++ take (e + 1) bytes) ≡ ended_line front =
    ap first_line all ∙ line_ends front (none_joined is_line_feed line (take e bytes) h at.none) short in
    leads_on line (take (e + 1) bytes) m before after store mode
    (subst IsLast (sym is) (last_by (nat_le (length (text_of front)) 512) (text_of front)))
    (along m (line ++ take (e + 1) bytes) (front ++ 10 ∷ []) _ (ended_line front) before after store mode all is made)

pub on_err : {A E : Type 0} (r : Result A E) (P : Type 0) → P → OnErr r P
on_err (Ok x) P p = tt
on_err (Err e) P p = p

-- ----- steps of a block
pub in_block : (mode : Mode) (key got bytes : List ℕ) (flags len n : ℕ) (m : Map) (before after : List ℕ) (store : Map)
    (later : Mode)
    → standing_in mode ≡ InBlock key flags len got → length (got ++ take n bytes) ≤ len + 2
    → Made (block_step m key flags len (got ++ take n bytes)) before after store later
    → Leads (standing_in mode) m before (take n bytes) (standing_in later) store after
in_block mode key got bytes flags len n m before after store later e h made =
    subst (λ (s : Standing). Leads s m before (take n bytes) (standing_in later) store after) (sym e)
    (block_leads key got (take n bytes) flags len m before
    (standing_in later) store after h made.replies made.map made.stands)

pub in_dropped : (mode : Mode) (bytes : List ℕ) (missing left n : ℕ) (m : Map) (before after : List ℕ) (later : Mode)
    → standing_in mode ≡ InDropped missing → left + length (take n bytes) ≡ missing
    → Made (dropped_step m left) before after m later
    → Leads (standing_in mode) m before (take n bytes) (standing_in later) m after
in_dropped mode bytes missing left n m before after later e h made =
    subst (λ (s : Standing). Leads s m before (take n bytes) (standing_in later) m after) (sym e)
    (drop_leads (take n bytes) missing left m before (standing_in later) m after h made.replies made.map made.stands)

pub in_over : (mode : Mode) (bytes : List ℕ) (m : Map) (before : List ℕ) → standing_in mode ≡ Over
    → Leads (standing_in mode) m before bytes Over m before
in_over mode bytes m before e =
    subst (λ (s : Standing). Leads s m before bytes Over m before) (sym e) (over_leads m before bytes)

-- ----- tests of the code
pub none_of : (b : Bool) (n : ℕ) → b ≡ eqb n 0 → b ≡ true → n ≡ 0
none_of b n e t = let here : eqb n 0 ≡ true = sym e ∙ t in grind (arith, nat_tests, here)

pub none_in : (xs line bytes : List ℕ) → xs ≡ line ++ bytes → position is_line_feed line ≡ None
    → position is_line_feed bytes ≡ None → position is_line_feed xs ≡ None
none_in xs line bytes e h g =
    subst (λ (ys : List ℕ). position is_line_feed ys ≡ None) (sym e) (none_joined is_line_feed line bytes h g)
