-- What single words spell: a number, a value behind a name, an address.
use Rattle.std.proofs.Common.{◌≡◌, ◌≢◌, ℕ, zero, suc, ◌+◌, ◌≤◌, ◌<◌, ◌^◌, ◌&&◌, nat_le, Bool, true, false, cond, List}
use Rattle.std.proofs.Common.{◌++◌, length, take, drop, decimal, Option, Some, None, Result, Ok, Err, MatchOption}
use Rattle.std.proofs.Common.{option_map, bytes_eq, Bor, IfNone, is_some, refl, sym, ap, subst, ◌∙◌, arith}
use Rattle.std.proofs.Math.Seq.{take-append_seam}
use Rattle.std.proofs.lemmas.Bool.{true≢false}
use Rattle.std.proofs.lemmas.Bool.Decides.{nat_tests}
use Rattle.std.proofs.lemmas.List.{take-append-drop}
use Rattle.std.proofs.lemmas.Fmt.{decimal_injective, parse-decimal}
use Rattle.std.proofs.lemmas.Slice.Eq.{bytes_eq-Decides}
use Rattle.std.specs.Net.Grammar.{IsIpv4Text}
use Rattle.std.specs.declared.net.ipv4_addr.Ipv4Addr.{Ipv4Addr}
use Rattle.std.specs.Str.Parse.{ParsesUnsigned}
use Rattle.std.specs.Str.Pattern.{FindsTextPrefix}
use Rattle.program_words.specs.Words.{number_in, behind, Form, Replay, IsForm}

-- ----- equal texts
apart : (xs ys : List ℕ) → bytes_eq xs ys ≡ false → xs ≢ ys
apart xs ys e same = true≢false (sym ((bytes_eq-Decides xs ys).1 same) ∙ e)

-- ----- a number
-- one of those up to `most` has this decimal
pub found : (most n : ℕ) (text : List ℕ) → most < 2 ^ 32 → 1 ≤ n → n ≤ most → text ≡ decimal n → number_in most text
    ≡ Some n
found zero n text small low high e = absurd (omega (arith, low, high))
found (suc m) n text small low high e = by_test (bytes_eq text (decimal (suc m))) refl
    (λ below. found m n text (omega (arith, small)) low below e)
  where
    by_test : (b : Bool) → bytes_eq text (decimal (suc m)) ≡ b → (n ≤ m → number_in m text ≡ Some n)
        → cond b (Some (suc m)) (number_in m text) ≡ Some n
    by_test true q rest =
        let same : suc m ≡ n = decimal_injective (suc m) n (omega (arith, small)) (omega (arith, small, high))
        (sym ((bytes_eq-Decides text (decimal (suc m))).0 q) ∙ e) in
        ap Some same
    by_test false q rest =
        let other : n ≢ suc m = λ (same : n ≡ suc m). apart text (decimal (suc m)) q (e ∙ ap decimal same) in
        rest (omega (arith, high, other))

-- or none has it
pub none_found : (most : ℕ) (text : List ℕ) → ((n : ℕ) → 1 ≤ n → n ≤ most → text ≢ decimal n) → number_in most text
    ≡ None
none_found zero text unlike = refl
none_found (suc m) text unlike = by_test (bytes_eq text (decimal (suc m))) refl
    (none_found m text (λ n low high. unlike n low (omega (arith, high))))
  where
    by_test : (b : Bool) → bytes_eq text (decimal (suc m)) ≡ b → number_in m text ≡ None
        → cond b (Some (suc m)) (number_in m text) ≡ None
    by_test true q rest = absurd
        (unlike (suc m) (omega arith) (omega arith) ((bytes_eq-Decides text (decimal (suc m))).0 q))
    by_test false q rest = rest

-- the number that a text is parsed as passes for it, or it is none of these
abbrev pub passes : (most n : ℕ) → List ℕ → Bool
passes most n text = nat_le 1 n && nat_le n most && bytes_eq text (decimal n)

in_range : (a b c : Bool) → (a && b && c) ≡ true → (a ≡ true) × (b ≡ true) × (c ≡ true)
in_range true true true e = (refl, refl, refl)
in_range true true false e = absurd (true≢false (sym e))
in_range true false c e = absurd (true≢false (sym e))
in_range false b c e = absurd (true≢false (sym e))

pub passes_found : (most n : ℕ) (text : List ℕ) → most < 2 ^ 32 → passes most n text ≡ true
    → Some n ≡ number_in most text
passes_found most n text small e =
    let parts = in_range (nat_le 1 n) (nat_le n most) (bytes_eq text (decimal n)) e in
    let low : 1 ≤ n = grind (arith, nat_tests, parts.0) in
    let high : n ≤ most = grind (arith, nat_tests, parts.1) in
    sym (found most n text small low high ((bytes_eq-Decides text (decimal n)).0 parts.2))

-- a text that is a decimal is parsed
parsed_as : {E : Type 0} (most n : ℕ) (text : List ℕ) (r : Result ℕ E) → most < 2 ^ 32 → n ≤ most → text ≡ decimal n
    → ParsesUnsigned 32 10 text r → r ≡ Ok n
parsed_as most n text r small high e parses = parse-decimal 32 n text r (omega (arith, small, high))
    (omega (arith, small, high)) e parses

pub unparsed : {E : Type 0} (most : ℕ) (text : List ℕ) (r : Result ℕ E) (e : E) → most < 2 ^ 32
    → ParsesUnsigned 32 10 text r → r ≡ Err e → None ≡ number_in most text
unparsed most text r e small parses is = sym
    (none_found most text (λ n low high same. absurd (cc (is, parsed_as most n text r small high same parses))))

both_true : (most n : ℕ) (text : List ℕ) → 1 ≤ n → n ≤ most → text ≡ decimal n → passes most n text ≡ true
both_true most n text low high e =
    let a : nat_le 1 n ≡ true = grind (arith, nat_tests, low) in
    let b : nat_le n most ≡ true = grind (arith, nat_tests, high) in
    rw (a, b, (bytes_eq-Decides text (decimal n)).1 e) refl

pub passes_not : {E : Type 0} (most k : ℕ) (text : List ℕ) (r : Result ℕ E) → most < 2 ^ 32
    → ParsesUnsigned 32 10 text r → r ≡ Ok k → passes most k text ≡ false → None ≡ number_in most text
passes_not {E} most k text r small parses is fails = sym (none_found most text other)
  where
    other : (n : ℕ) → 1 ≤ n → n ≤ most → text ≢ decimal n
    other n low high same =
        let here : n ≡ k = cc (is, parsed_as most n text r small high same parses) in
        true≢false (sym (subst (λ (i : ℕ). passes most i text ≡ true) here (both_true most n text low high same))
        ∙ fails)

-- ----- a value behind a name
pub stripped : (name word : List ℕ) (r : Option (Bor (List ℕ)))
    → MatchOption r (FindsTextPrefix name word None) (λ x. (n : ℕ) × FindsTextPrefix name word (Some n)
    × (x.now ≡ drop n word) × (length x.now + n ≡ length word)) → option_map (λ text. text.now) r ≡ behind name word
stripped name word None lacks = by_test (bytes_eq (take (length name) word) name) refl
  where
    by_test : (b : Bool) → bytes_eq (take (length name) word) name ≡ b
        → None ≡ cond b (Some (drop (length name) word)) None
    by_test false q = refl
    by_test true q =
        let front : take (length name) word ≡ name = (bytes_eq-Decides (take (length name) word) name).0 q in
        absurd (lacks (drop (length name) word) (sym (take-append-drop (length name) word)
        ∙ ap (λ (xs : List ℕ). xs ++ drop (length name) word) front))
stripped name word (Some x) strips =
    let n = strips.0 in
    let len : n ≡ length name = strips.1.0 in
    let front : take (length name) word ≡ name = ap (take (length name)) strips.1.1
    ∙ take-append_seam name (drop n word) in
    let rest : x.now ≡ drop (length name) word = strips.2 ∙ ap (λ (i : ℕ). drop i word) len in
    rw (rest, (bytes_eq-Decides (take (length name) word) name).1 front) refl

-- ----- an address
-- a text that is no address makes no replay
pub no_address : (form : Form) (text : List ℕ) (cores : Option ℕ) (pcap loose : Bool) (address : Option Ipv4Addr)
    → form ≡ Replay text cores pcap loose → is_some address ≡ false
    → IfNone address ((a : Ipv4Addr) → ¬ IsIpv4Text text a) → ¬ IsForm form
no_address form text cores pcap loose None is e none = subst (λ (f : Form). ¬ IsForm f) (sym is)
    (λ (right : IsForm (Replay text cores pcap loose)). none right.0 right.1)
no_address form text cores pcap loose (Some a) is e none = absurd (true≢false e)
