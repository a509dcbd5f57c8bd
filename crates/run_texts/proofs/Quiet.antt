-- A history in stretches, and the quiet ticks among them.
use Rattle.std.proofs.Common.{◌≡◌, ℕ, zero, suc, ◌+◌, List, [], ◌∷◌, ◌++◌, flat_map, refl, ap, sym, ◌∙◌, append_assoc}
use Rattle.std.proofs.lemmas.List.Concat.{flat_map-append}
use Rattle.tas_model.specs.declared.entry.Caller.{Caller}
use Rattle.tas_model.specs.declared.entry.Entry.{Entry}
use Rattle.tas_model.specs.declared.entry.FourTuple.{FourTuple}
use Rattle.tas_model.specs.Outputs.{bytes_read, given_bytes}
use Rattle.tas_runs.specs.Report.{entry_text, entries_text}
use Rattle.flow_state.specs.Stretches.{quiet_ticks}
use Rattle.run_texts.specs.Frames.{entry_frames}
use Rattle.run_texts.proofs.Lists.{entries_are}

-- what is made of all stretches is made of all entries
pub joined_by : {A B : Type 0} (f : A → List B) (xss : List (List A))
    → flat_map (flat_map f) xss ≡ flat_map f (flat_map (λ xs. xs) xss)
joined_by f [] = refl
joined_by f (xs ∷ xss) = ap (λ t. flat_map f xs ++ t) (joined_by f xss)
    ∙ sym (flat_map-append f xs (flat_map (λ ys. ys) xss))

pub joined_text : (names : List (List ℕ)) (xss : List (List Entry))
    → flat_map (entries_text names) xss ≡ entries_text names (flat_map (λ xs. xs) xss)
joined_text names xss = each xss ∙ (joined_by (entry_text names) xss ∙ entries_are names (flat_map (λ xs. xs) xss))
  where
    each : (xss : List (List Entry)) → flat_map (entries_text names) xss ≡ flat_map (flat_map (entry_text names)) xss
    each [] = refl
    each (xs ∷ xss) = ap (λ t. entries_text names xs ++ t) (each xss)
        ∙ ap (λ t. t ++ flat_map (flat_map (entry_text names)) xss) (sym (entries_are names xs))

pub joined_bytes : (xss : List (List Entry)) → flat_map bytes_read xss ≡ bytes_read (flat_map (λ xs. xs) xss)
joined_bytes xss = joined_by (λ (x : Entry). given_bytes x.reply) xss

-- ----- quiet ticks give no bytes and send nothing
pub quiet_reads_none : (c : Caller) (n t k : ℕ) → bytes_read (quiet_ticks c n t k) ≡ []
quiet_reads_none c n t zero = refl
quiet_reads_none c n t (suc k) = quiet_reads_none c (n + 1) (t + 1) k

pub quiet_sends_none : (tuple : FourTuple) (c : Caller) (n t k : ℕ)
    → flat_map (entry_frames tuple) (quiet_ticks c n t k) ≡ []
quiet_sends_none tuple c n t zero = refl
quiet_sends_none tuple c n t (suc k) = quiet_sends_none tuple c (n + 1) (t + 1) k

-- the pieces of a line behind a text
pub line_behind : (w t s k p n s' a b c d : List ℕ)
    → (((w ++ t) ++ ((s ++ k) ++ p)) ++ n) ++ (s' ++ (a ++ (b ++ (c ++ d)))) ≡ w
    ++ (((((((((t ++ s) ++ k) ++ p) ++ n) ++ s') ++ a) ++ b) ++ c) ++ d)
line_behind w t s k p n s' a b c d = simp append_assoc refl
