-- Texts of lists, an element at a time.
use Rattle.std.proofs.Common.{◌≡◌, codes, decimal, ℕ, ◌+◌, ◌≤◌, [], ◌∷◌, ◌++◌, List, length, take, drop, flat_map}
use Rattle.std.proofs.Common.{slice_get, Some, Result, Ok, IsErr, refl, ap, subst, sym, ◌∙◌, append-nil}
use Rattle.std.proofs.Common.{take-append-drop}
use Rattle.std.proofs.lemmas.List.{take_all, take_more}
use Rattle.std.proofs.lemmas.Option.{slice_get_within, get_or_from_slice_get}
use Rattle.std.proofs.lemmas.List.Concat.{flat_map-append}
use Rattle.tas_num.specs.declared.outside.IoFault.{IoFault}
use Rattle.tas_model.specs.declared.entry.Entry.{Entry}
use Rattle.host_rounds.specs.declared.log.LogLine.{LogLine}
use Rattle.tas_runs.specs.Report.{hex_bytes, entry_text, entries_text, line, event_text, log_text}
use Rattle.tas_num.specs.Streams.{SinkState}
use Rattle.run_texts.specs.Writes.{Writes}
use Rattle.run_texts.proofs.Writing.{wrote_as, wrote_both, stopped_in, hex_bytes-append}

-- an element more
pub taken_more : {X : Type 0} (xs : List X) (i : ℕ) (x : X) → slice_get xs i ≡ Some x → take (i + 1) xs
    ≡ take i xs ++ x ∷ []
taken_more xs i x e = take_more xs i x (slice_get_within xs i x e)
    ∙ ap (λ y. take i xs ++ y ∷ []) (get_or_from_slice_get xs i x x e)

-- the text of an element more
pub text_more : {X : Type 0} (f : X → List ℕ) (xs : List X) (i : ℕ) (x : X) → slice_get xs i ≡ Some x
    → flat_map f (take i xs) ++ f x ≡ flat_map f (take (i + 1) xs)
text_more f xs i x e =
    sym (ap (flat_map f) (taken_more xs i x e)
    ∙ (flat_map-append f (take i xs) (x ∷ []) ∙ ap (λ t. flat_map f (take i xs) ++ t) (append-nil (f x))))

-- and of all that are left
pub text_rest : {X : Type 0} (f : X → List ℕ) (xs : List X) (i : ℕ) → flat_map f (take i xs) ++ flat_map f (drop i xs)
    ≡ flat_map f xs
text_rest f xs i = sym (flat_map-append f (take i xs) (drop i xs)) ∙ ap (flat_map f) (take-append-drop i xs)

pub wrote_more : {v w u : List ℕ} {X : Type 0} (f : X → List ℕ) (xs : List X) (i : ℕ) (x : X) (a b c : SinkState)
    (r : Result (Unit {0}) IoFault) → slice_get xs i ≡ Some x → Writes a v (Ok tt) b w (flat_map f (take i xs))
    → Writes b w r c u (f x) → Writes a v r c u (flat_map f (take (i + 1) xs))
wrote_more f xs i x a b c r e first second =
    wrote_both a b c r (flat_map f (take i xs)) (f x) (flat_map f (take (i + 1) xs)) (text_more f xs i x e) first second

pub stopped_among : {v w u : List ℕ} {X : Type 0} (f : X → List ℕ) (xs : List X) (i : ℕ) (x : X) (a b c : SinkState)
    (r q : Result (Unit {0}) IoFault) (all : List ℕ) → flat_map f xs ≡ all → slice_get xs i ≡ Some x → IsErr r → r ≡ q
    → Writes a v (Ok tt) b w (flat_map f (take i xs)) → Writes b w q c u (f x) → Writes a v r c u all
stopped_among {v} {w} {u} f xs i x a b c r q all whole e h same first second =
    let handed = λ (s : Result (Unit {0}) IoFault). Writes b w s c u (f x) in
    let last : Writes b w r c u (f x) = subst handed (sym same) second in
    let rest = flat_map f (drop (i + 1) xs) in
    let more = wrote_more f xs i x a b c r e first last in
    stopped_in a c r (flat_map f (take (i + 1) xs)) rest all (text_rest f xs (i + 1) ∙ whole) h more

pub wrote_whole : {v w : List ℕ} {X : Type 0} (f : X → List ℕ) (xs : List X) (n : ℕ) (a b : SinkState)
    (r : Result (Unit {0}) IoFault) (all : List ℕ) → flat_map f xs ≡ all → length xs ≤ n
    → Writes a v r b w (flat_map f (take n xs)) → Writes a v r b w all
wrote_whole f xs n a b r all whole e h =
    wrote_as a b r (flat_map f (take n xs)) all (ap (flat_map f) (take_all n xs e) ∙ whole) h

-- ----- what they are the texts of
pub entries_are : (names : List (List ℕ)) (h : List Entry) → flat_map (entry_text names) h ≡ entries_text names h
entries_are names [] = refl
entries_are names (x ∷ xs) = ap (λ t. entry_text names x ++ t) (entries_are names xs)

pub digits_are : {X : Type 0} (g : X → List ℕ) (xs : List X) → flat_map (λ x. hex_bytes (g x)) xs
    ≡ hex_bytes (flat_map g xs)
digits_are g [] = refl
digits_are g (x ∷ xs) = ap (λ t. hex_bytes (g x) ++ t) (digits_are g xs) ∙ sym (hex_bytes-append (g x) (flat_map g xs))

-- ----- the log
abbrev pub log_line : (names : List (List ℕ)) → LogLine → List ℕ
log_line names l = line (decimal l.tick ++ codes " " ++ event_text names l.event)

pub log_is : (names : List (List ℕ)) (log : List LogLine) → flat_map (log_line names) log ≡ log_text names log
log_is names [] = refl
log_is names (l ∷ ls) = ap (λ t. log_line names l ++ t) (log_is names ls)
