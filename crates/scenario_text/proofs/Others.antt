-- Lines of another number of words than their form has.
use Rattle.std.proofs.Common.{◌≡◌, ◌≢◌, ◌-◌, ◌≤◌, take, drop, get_or, ap, ℕ, List, [], ◌∷◌, length, map, Bor, refl}
use Rattle.std.proofs.Common.{arith}
use Rattle.std.proofs.lemmas.List.{take_all}
use Rattle.link_script.specs.declared.script.LinkAct.{LinkAct}
use Rattle.scenario_text.specs.Statements.{given_by, by_option, option_of, connect_line, frame_line, delay_line}
use Rattle.scenario_text.specs.Statements.{corrupt_line, move_line, kill_line}
use Rattle.scenario_text.specs.declared.statement.Given.{Given}
use Rattle.scenario_text.specs.declared.statement.Reading.{Reading}
use Rattle.scenario_text.specs.declared.statement.Reading.TheVariants.{Wrong}

abbrev pub texts : List (Bor (List ℕ)) → List (List ℕ)
texts words = map (λ w. w.now) words

pub connect_other : (words : List (Bor (List ℕ))) → length words ≢ 3 → Wrong 4 ≡ connect_line (texts words)
connect_other [] h3 = refl
connect_other (w0 ∷ []) h3 = refl
connect_other (w0 ∷ w1 ∷ []) h3 = refl
connect_other (w0 ∷ w1 ∷ w2 ∷ []) h3 = absurd (h3 refl)
connect_other (w0 ∷ w1 ∷ w2 ∷ w3 ∷ ws) h3 = refl

pub frame_other : (act : LinkAct) (words : List (Bor (List ℕ))) → length words ≢ 3
    → Wrong 4 ≡ frame_line act (texts words)
frame_other act [] h3 = refl
frame_other act (w0 ∷ []) h3 = refl
frame_other act (w0 ∷ w1 ∷ []) h3 = refl
frame_other act (w0 ∷ w1 ∷ w2 ∷ []) h3 = absurd (h3 refl)
frame_other act (w0 ∷ w1 ∷ w2 ∷ w3 ∷ ws) h3 = refl

pub delay_other : (words : List (Bor (List ℕ))) → length words ≢ 4 → Wrong 4 ≡ delay_line (texts words)
delay_other [] h4 = refl
delay_other (w0 ∷ []) h4 = refl
delay_other (w0 ∷ w1 ∷ []) h4 = refl
delay_other (w0 ∷ w1 ∷ w2 ∷ []) h4 = refl
delay_other (w0 ∷ w1 ∷ w2 ∷ w3 ∷ []) h4 = absurd (h4 refl)
delay_other (w0 ∷ w1 ∷ w2 ∷ w3 ∷ w4 ∷ ws) h4 = refl

pub corrupt_other : (words : List (Bor (List ℕ))) → length words ≢ 4 → Wrong 4 ≡ corrupt_line (texts words)
corrupt_other [] h4 = refl
corrupt_other (w0 ∷ []) h4 = refl
corrupt_other (w0 ∷ w1 ∷ []) h4 = refl
corrupt_other (w0 ∷ w1 ∷ w2 ∷ []) h4 = refl
corrupt_other (w0 ∷ w1 ∷ w2 ∷ w3 ∷ []) h4 = absurd (h4 refl)
corrupt_other (w0 ∷ w1 ∷ w2 ∷ w3 ∷ w4 ∷ ws) h4 = refl

pub move_other : (words : List (Bor (List ℕ))) → length words ≢ 5 → Wrong 4 ≡ move_line (texts words)
move_other [] h5 = refl
move_other (w0 ∷ []) h5 = refl
move_other (w0 ∷ w1 ∷ []) h5 = refl
move_other (w0 ∷ w1 ∷ w2 ∷ []) h5 = refl
move_other (w0 ∷ w1 ∷ w2 ∷ w3 ∷ []) h5 = refl
move_other (w0 ∷ w1 ∷ w2 ∷ w3 ∷ w4 ∷ []) h5 = absurd (h5 refl)
move_other (w0 ∷ w1 ∷ w2 ∷ w3 ∷ w4 ∷ w5 ∷ ws) h5 = refl

pub kill_other : (words : List (Bor (List ℕ))) → length words ≢ 4 → length words ≢ 5 → Wrong 4 ≡ kill_line (texts words)
kill_other [] h4 h5 = refl
kill_other (w0 ∷ []) h4 h5 = refl
kill_other (w0 ∷ w1 ∷ []) h4 h5 = refl
kill_other (w0 ∷ w1 ∷ w2 ∷ []) h4 h5 = refl
kill_other (w0 ∷ w1 ∷ w2 ∷ w3 ∷ []) h4 h5 = absurd (h4 refl)
kill_other (w0 ∷ w1 ∷ w2 ∷ w3 ∷ w4 ∷ []) h4 h5 = absurd (h5 refl)
kill_other (w0 ∷ w1 ∷ w2 ∷ w3 ∷ w4 ∷ w5 ∷ ws) h4 h5 = refl

-- two words of a host's options, and those behind them
pub next_option : (given : Given) (words : List (Bor (List ℕ))) (d e : Bor (List ℕ)) → 2 ≤ length words
    → given_by (by_option given (option_of (get_or words 0 d).now) (get_or words 1 e).now)
    (texts (take (length words - 2) (drop 2 words))) ≡ given_by given (texts words)
next_option given [] d e h = absurd (omega arith)
next_option given (w0 ∷ []) d e h = absurd (omega arith)
next_option given (w0 ∷ w1 ∷ ws) d e h =
    let rest : take (length (w0 ∷ w1 ∷ ws) - 2) ws ≡ ws =
    (let n : length (w0 ∷ w1 ∷ ws) - 2 ≡ length ws = omega arith in rw n (take_all (length ws) ws (omega arith))) in
    ap (λ zs. given_by (by_option given (option_of w0.now) w1.now) (texts zs)) rest
