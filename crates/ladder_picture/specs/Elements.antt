-- The elements of a picture, in SVG 1.1: texts and paths, each by its kind.
use Rattle.std.specs.Prelude.{ℕ, List, ◌++◌, codes, decimal}

-- a word and a number
abbrev pub counted : List ℕ → ℕ → List ℕ
counted word n = word ++ decimal n

-- ----- texts (section 10.4)
-- The place is given by x, y and a shift downwards; all in pixels.
abbrev pub text_start : (class x : List ℕ) → (y : ℕ) → (dy : List ℕ) → List ℕ
text_start class x y dy = codes "<text class=\"" ++ class ++ codes "\" x=\"" ++ x ++ counted (codes "\" y=\"") y
    ++ codes "\" dy=\"" ++ dy ++ codes "\">"

abbrev pub text_end : List ℕ
text_end = codes "</text>\n"

abbrev pub text : (class x : List ℕ) → (y : ℕ) → (dy content : List ℕ) → List ℕ
text class x y dy content = text_start class x y dy ++ content ++ text_end

-- ----- paths (section 8.3)
-- From a point on, by commands.
abbrev pub path_start : (class x : List ℕ) → (y : ℕ) → List ℕ
path_start class x y = codes "<path class=\"" ++ class ++ codes "\" d=\"M" ++ x ++ counted (codes " ") y

abbrev pub path_end : List ℕ
path_end = codes "\"/>\n"

abbrev pub path : (class x : List ℕ) → (y : ℕ) → (way : List ℕ) → List ℕ
path class x y way = path_start class x y ++ way ++ path_end
