-- Digits in a row, up to a space.
use Rattle.std.proofs.Common.{◌≡◌, ℕ, zero, suc, ◌+◌, ◌<◌, ◌≤◌, Bool, true, false, ◌&&◌, List, [], ◌∷◌, length}
use Rattle.std.proofs.Common.{take, drop}
use Rattle.std.proofs.Common.{Option, Some, None, slice_index, refl, sym, ap, ◌∙◌, arith}
use Rattle.std.specs.Prelude.{position, unwrap_or}
use Rattle.std.specs.List.{list_all, prefix_len}
use Rattle.std.proofs.lemmas.Bool.{eqb-true, and_parts}
use Rattle.std.proofs.lemmas.List.{drop_all, drop_more}
use Rattle.memchr.specs.Find.{IsFirstByte, is_byte}
use Rattle.report_lines.specs.Fronts.{is_hex}

-- A run that ends at the end of the text, or before a byte that fails, is all that passes at the front.
pub run_to : (test : ℕ → Bool) (text : List ℕ) (end : ℕ) → end ≤ length text → list_all test (take end text) ≡ true
    → (end < length text → test (slice_index text end) ≡ false) → prefix_len test text ≡ end
run_to test [] zero h all stop = refl
run_to test [] (suc n) h all stop = absurd (omega (arith, h))
run_to test (c ∷ cs) zero h all stop = let fails : test c ≡ false = stop (omega arith) in rw fails refl
run_to test (c ∷ cs) (suc n) h all stop =
    let parts = and_parts (test c) (list_all test (take n cs)) all in
    let more : prefix_len test cs ≡ n = run_to test cs n (omega (arith, h)) parts.1
    (λ below. stop (omega (arith, below))) in
    rw (parts.0, more) (omega arith)

no_digit : (c : ℕ) → c ≡ 32 → is_hex c ≡ false
no_digit c e = rw e refl

-- where a search for a space ends
pub word_ends : (text : List ℕ) (found : Option ℕ) (n : ℕ) → IsFirstByte (is_byte 32) text found
    → n ≡ unwrap_or found (length text)
    → (n ≤ length text) × (n < length text → is_hex (slice_index text n) ≡ false)
word_ends text None n first is = (omega (arith, is), λ below. absurd (omega (arith, is, below)))
word_ends text (Some k) n first is = (
  omega (arith, is, first.0.high),
  λ below. rw is (no_digit (slice_index text k) (eqb-true (slice_index text k) 32 first.1)),
)

-- one byte more is looked at
and_again : (a b c : Bool) → (a && (b && c)) ≡ ((a && b) && c)
and_again true b c = refl
and_again false b c = refl

pub one_more : (text : List ℕ) (i : ℕ) (all : Bool) → i < length text
    → list_all is_hex text ≡ (all && list_all is_hex (drop i text))
    → list_all is_hex text ≡ ((all && is_hex (slice_index text i)) && list_all is_hex (drop (i + 1) text))
one_more text i all h so_far =
    so_far ∙ (ap (λ (xs : List ℕ). all && list_all is_hex xs) (drop_more text i 0 h)
    ∙ and_again all (is_hex (slice_index text i)) (list_all is_hex (drop (i + 1) text)))

and_true : (a : Bool) → (a && true) ≡ a
and_true true = refl
and_true false = refl

pub all_seen : (text : List ℕ) (i : ℕ) (all : Bool) → length text ≤ i
    → list_all is_hex text ≡ (all && list_all is_hex (drop i text)) → all ≡ list_all is_hex text
all_seen text i all h so_far =
    sym (so_far ∙ (ap (λ (xs : List ℕ). all && list_all is_hex xs) (drop_all i text h) ∙ and_true all))
