-- A picture is drawn to heights that follow from its rungs.
use Rattle.std.proofs.Common.{◌≡◌, ℕ, Bool, List, ◌++◌, subst, ◌∙◌, ap}
use Rattle.ladder_picture.specs.declared.arrows.Look.{Look}
use Rattle.ladder_picture.specs.declared.rungs.Rung.{Rung}
use Rattle.ladder_picture.specs.Drawing.{End, down, bottom, begin_text, parts_text, close_text, drawing}

abbrev pub Drawn : Look → Bool → (left right : End) → List Rung → (before after : List ℕ)
    → (height foot key : ℕ) → Type 0
Drawn look absolute left right rungs before after height foot key =
    after ≡ before ++ (begin_text height ++ parts_text look left right rungs foot ++ close_text absolute key)

pub at_heights : (look : Look) (absolute : Bool) (left right : End) (rungs : List Rung) (before after : List ℕ)
    (height foot key end : ℕ) → height ≡ down end 64 → foot ≡ down end 20 → key ≡ down end 48 → end ≡ bottom rungs
    → Drawn look absolute left right rungs before after height foot key
    → after ≡ before ++ drawing look absolute left right rungs
at_heights look absolute left right rungs before after height foot key end e1 e2 e3 e4 d =
    let below = λ (more : ℕ). ap (λ (n : ℕ). down n more) e4 in
    let one = subst (λ (n : ℕ). Drawn look absolute left right rungs before after n foot key) (e1 ∙ below 64) d in
    let two = subst (λ (n : ℕ). Drawn look absolute left right rungs before after (down (bottom rungs) 64) n key)
    (e2 ∙ below 20) one in
    subst (λ (n : ℕ). Drawn look absolute left right rungs before after (down (bottom rungs) 64)
    (down (bottom rungs) 20) n) (e3 ∙ below 48) two
