-- Commands that are whole stay so, whatever comes behind them: what a stream is answered goes on from what its
-- beginning was answered.
use Rattle.std.proofs.Common.{◌≡◌, ℕ, zero, suc, ◌<◌, ◌≤◌, Bool, true, false, cond, List, [], ◌∷◌, ◌++◌, length, drop}
use Rattle.std.proofs.Common.{refl, sym, ap, ◌∙◌, arith, nat_lt, append_assoc, length-append, length-drop}
use Rattle.std.proofs.lemmas.Bool.Decides.{nat_tests}
use Rattle.std.proofs.lemmas.List.{take-append-le, drop-append-le}
use Rattle.kv_sessions.specs.Stored.{Map}
use Rattle.kv_sessions.specs.Lines.{FirstLine, Unended, TooLong, Line, first_line, words_of}
use Rattle.kv_sessions.specs.Commands.{Command, command_of, block_len}
use Rattle.kv_sessions.specs.Outcomes.{Outcome, outcome}
use Rattle.kv_sessions.specs.Answers.{Next, Waits, LineTooLong, Whole, with_block, next_by, next_command}
use Rattle.kv_sessions.specs.Answers.{Answers, behind, then_later, by_next, answers_of, answers}
use Rattle.kv_sessions.specs.Answers.{more_by, and_more}
use Rattle.kv_sessions.proofs.Lined.{line_stays, long_stays, line_shortens}

-- ----- the next command
block_by : (b : Bool) (c command : Command) (now later block rest more : List ℕ)
    → cond b Waits (Whole c now later) ≡ Whole command block rest
    → (b ≡ false) × (Whole c now (later ++ more) ≡ Whole command block (rest ++ more))
block_by true c command now later block rest more h = absurd (cc (h))
block_by false c command now later block rest more h = (refl, cc (h))

block_stays : (c command : Command) (got more block rest : List ℕ) → with_block c got ≡ Whole command block rest
    → with_block c (got ++ more) ≡ Whole command block (rest ++ more)
block_stays c command got more block rest h =
    let here = block_by (nat_lt (length got) (block_len c)) c command _ _ block rest more h in
    let enough : block_len c ≤ length got = grind (arith, nat_tests, here.0) in
    let longer : block_len c ≤ length (got ++ more) = omega (arith, length-append got more) in
    let still : nat_lt (length (got ++ more)) (block_len c) ≡ false = grind (arith, nat_tests, longer) in
    rw (still, take-append-le (block_len c) got more enough, drop-append-le (block_len c) got more enough) here.1

block_not_long : (b : Bool) (c : Command) (now later : List ℕ) → cond b Waits (Whole c now later) ≡ LineTooLong → ⊥
block_not_long true c now later h = cc (h)
block_not_long false c now later h = cc (h)

pub whole_stays : (bytes more : List ℕ) (command : Command) (block rest : List ℕ)
    → next_command bytes ≡ Whole command block rest → next_command (bytes ++ more) ≡ Whole command block (rest ++ more)
whole_stays bytes more command block rest h = by_line (first_line bytes) refl h
  where
    by_line : (f : FirstLine) → first_line bytes ≡ f → next_by f ≡ Whole command block rest
        → next_command (bytes ++ more) ≡ Whole command block (rest ++ more)
    by_line Unended e g = absurd (cc (g))
    by_line TooLong e g = absurd (cc (g))
    by_line (Line text behind_line) e g =
        rw (line_stays bytes more text behind_line e)
        (block_stays (command_of (words_of text)) command behind_line more block rest g)

pub too_long_stays : (bytes more : List ℕ) → next_command bytes ≡ LineTooLong
    → next_command (bytes ++ more) ≡ LineTooLong
too_long_stays bytes more h = by_line (first_line bytes) refl h
  where
    by_line : (f : FirstLine) → first_line bytes ≡ f → next_by f ≡ LineTooLong
        → next_command (bytes ++ more) ≡ LineTooLong
    by_line Unended e g = absurd (cc (g))
    by_line TooLong e g = rw (long_stays bytes more e) refl
    by_line (Line text behind_line) e g = absurd (block_not_long _ _ _ _ g)

rest_by : (b : Bool) (c command : Command) (now later block rest : List ℕ)
    → cond b Waits (Whole c now later) ≡ Whole command block rest → later ≡ rest
rest_by true c command now later block rest h = absurd (cc (h))
rest_by false c command now later block rest h = cc (h)

pub whole_shortens : (bytes : List ℕ) (command : Command) (block rest : List ℕ)
    → next_command bytes ≡ Whole command block rest → length rest < length bytes
whole_shortens bytes command block rest h = by_line (first_line bytes) refl h
  where
    by_line : (f : FirstLine) → first_line bytes ≡ f → next_by f ≡ Whole command block rest → length rest < length bytes
    by_line Unended e g = absurd (cc (g))
    by_line TooLong e g = absurd (cc (g))
    by_line (Line text behind_line) e g =
        let c : Command = command_of (words_of text) in
        let same : drop (block_len c) behind_line ≡ rest = rest_by _ c command _ _ block rest g in
        let shorter : length behind_line < length bytes = line_shortens bytes text behind_line e in
        omega (arith, length-drop (block_len c) behind_line, ap length same)

-- ----- one command, and then the others
alike_later : (ends : Bool) (o : Outcome) (f g : Map → Answers) → ((m : Map) → f m ≡ g m)
    → then_later ends o f ≡ then_later ends o g
alike_later true o f g h = refl
alike_later false o f g h = ap (behind o.reply) (h o.map)

alike_next : (f g : List ℕ → Map → Answers) (m : Map) (bytes : List ℕ) (next : Next)
    → ((command : Command) (block rest : List ℕ) → next ≡ Whole command block rest → (later : Map)
    → f rest later ≡ g rest later)
    → by_next f m bytes next ≡ by_next g m bytes next
alike_next f g m bytes Waits h = refl
alike_next f g m bytes LineTooLong h = refl
alike_next f g m bytes (Whole command block rest) h =
    alike_later (outcome m command block).ends (outcome m command block) (f rest) (g rest) (h command block rest refl)

-- more commands than there are bytes are never done
enough : (n k : ℕ) (bytes : List ℕ) (m : Map) → length bytes ≤ n → length bytes ≤ k
    → answers_of n bytes m ≡ answers_of k bytes m
unfolding answers_of
enough zero zero bytes m h i = refl
enough zero (suc k) [] m h i = refl
enough zero (suc k) (c ∷ cs) m h i = absurd (omega (arith, h))
enough (suc n) zero [] m h i = refl
enough (suc n) zero (c ∷ cs) m h i = absurd (omega (arith, i))
enough (suc n) (suc k) bytes m h i =
    alike_next (answers_of n) (answers_of k) m bytes (next_command bytes) (λ command block rest e later.
    let shorter : length rest < length bytes = whole_shortens bytes command block rest e in
    enough n k rest later (omega arith) (omega arith))

abbrev pub later_answers : List ℕ → Map → Answers
later_answers bytes m = answers m bytes

pub one_command : (m : Map) (bytes : List ℕ) → answers m bytes ≡ by_next later_answers m bytes (next_command bytes)
unfolding answers_of
one_command m [] = refl
one_command m (c ∷ cs) =
    alike_next (answers_of (length cs)) later_answers m (c ∷ cs) (next_command (c ∷ cs)) (λ command block rest e later.
    let shorter : length rest < length (c ∷ cs) = whole_shortens (c ∷ cs) command block rest e in
    enough (length cs) (length rest) rest later (omega arith) (omega arith))

-- ----- a stream and what comes behind it
behind_more : (ended : Bool) (reply : List ℕ) (a : Answers) (more : List ℕ)
    → behind reply (more_by ended a more) ≡ more_by ended (behind reply a) more
behind_more true reply a more = refl
behind_more false reply a more =
    let later : Answers = answers a.map (a.left ++ more) in
    ap (λ (rs : List ℕ). record later { replies = rs }) (sym (append_assoc reply a.replies later.replies))

later_more : (ends : Bool) (o : Outcome) (rest more : List ℕ)
    → (answers o.map (rest ++ more) ≡ and_more (answers o.map rest) more)
    → then_later ends o (later_answers (rest ++ more)) ≡ and_more (then_later ends o (later_answers rest)) more
later_more true o rest more h = refl
later_more false o rest more h =
    ap (behind o.reply) h ∙ behind_more (answers o.map rest).ended o.reply (answers o.map rest) more

more_next : (m : Map) (bytes more : List ℕ) (next : Next) → next_command bytes ≡ next
    → ((command : Command) (block rest : List ℕ) → next ≡ Whole command block rest
    → (later : Map) → answers later (rest ++ more) ≡ and_more (answers later rest) more)
    → answers m (bytes ++ more) ≡ and_more (by_next later_answers m bytes next) more
more_next m bytes more Waits e h = refl
more_next m bytes more LineTooLong e h =
    one_command m (bytes ++ more) ∙ ap (by_next later_answers m (bytes ++ more)) (too_long_stays bytes more e)
more_next m bytes more (Whole command block rest) e h =
    one_command m (bytes ++ more)
    ∙ ap (by_next later_answers m (bytes ++ more)) (whole_stays bytes more command block rest e)
    ∙ later_more (outcome m command block).ends (outcome m command block) rest more
    (h command block rest refl (outcome m command block).map)

goes_on_within : (n : ℕ) (m : Map) (bytes more : List ℕ) → length bytes ≤ n
    → answers m (bytes ++ more) ≡ and_more (answers m bytes) more
unfolding answers_of
goes_on_within zero m [] more h = refl
goes_on_within zero m (c ∷ cs) more h = absurd (omega (arith, h))
goes_on_within (suc n) m bytes more h =
    more_next m bytes more (next_command bytes) refl (λ command block rest e later.
    let shorter : length rest < length bytes = whole_shortens bytes command block rest e in
    goes_on_within n later rest more (omega arith))
    ∙ ap (λ (a : Answers). and_more a more) (sym (one_command m bytes))

-- What a stream is answered goes on from what its beginning was answered.
pub goes_on : (m : Map) (bytes more : List ℕ) → answers m (bytes ++ more) ≡ and_more (answers m bytes) more
goes_on m bytes more = goes_on_within (length bytes) m bytes more (omega arith)

-- ----- what is left is no whole command
abbrev pub LeavesNone : Answers → Type 0
LeavesNone a = a.ended ≡ false → next_command a.left ≡ Waits

left_later : (ends : Bool) (o : Outcome) (later : Map → Answers) → LeavesNone (later o.map)
    → LeavesNone (then_later ends o later)
left_later true o later h e = absurd (cc (e))
left_later false o later h e = h e

left_next : (m : Map) (bytes : List ℕ) (next : Next) → next_command bytes ≡ next
    → ((command : Command) (block rest : List ℕ) → next ≡ Whole command block rest → (later : Map)
    → LeavesNone (answers later rest))
    → LeavesNone (by_next later_answers m bytes next)
left_next m bytes Waits e h i = e
left_next m bytes LineTooLong e h i = absurd (cc (i))
left_next m bytes (Whole command block rest) e h i =
    left_later (outcome m command block).ends (outcome m command block) (later_answers rest)
    (h command block rest refl (outcome m command block).map) i

left_within : (n : ℕ) (m : Map) (bytes : List ℕ) → length bytes ≤ n → LeavesNone (answers m bytes)
unfolding answers_of
left_within zero m [] h = λ _. refl
left_within zero m (c ∷ cs) h = absurd (omega (arith, h))
left_within (suc n) m bytes h = rw (one_command m bytes) (left_next m bytes (next_command bytes) refl
    (λ command block rest e later.
    let shorter : length rest < length bytes = whole_shortens bytes command block rest e in
    left_within n later rest (omega arith)))

pub leaves_none : (m : Map) (bytes : List ℕ) → LeavesNone (answers m bytes)
leaves_none m bytes = left_within (length bytes) m bytes (omega arith)
