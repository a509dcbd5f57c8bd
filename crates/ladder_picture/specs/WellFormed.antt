-- Which texts are well-formed documents of XML 1.0, of those without a prolog, comments, instructions and sections of
-- raw characters: one element, with balanced elements in it, attributes of different names, and escaped text in
-- printable ASCII. A text is gone through byte by byte.
use Rattle.std.specs.Prelude.{◌≡◌, ℕ, ◌==◌, Bool, not, ◌&&◌, ◌||◌, List, [], ◌∷◌, codes, bytes_eq, fold, nat_le}
use Rattle.std.specs.Prelude.{if◌then◌else◌}
use Rattle.std.specs.List.{list_any}

-- a letter of a name (section 2.3)
abbrev pub is_letter : (c : ℕ) → Bool
is_letter c = nat_le 97 c && nat_le c 122 || nat_le 65 c && nat_le c 90

-- a character that may stand in a text or in quotes (section 2.2)
abbrev pub is_character : (c : ℕ) → Bool
is_character c = nat_le 32 c && nat_le c 126 || c == 10

-- A tag that begins an element, as far as it stands: the element's name and the names of attributes. Names are kept
-- from their last letter on.
pub record Begun : Type 0 where
  pub name : List ℕ
  pub attributes : List (List ℕ)

-- Where in a text one is.
pub data Spot : Type 0 where
  Before : Spot  -- nothing has come
  Content : Spot  -- between tags, within an element
  Opened : Spot  -- behind `<`
  Name : (name : List ℕ) → Spot  -- in the name of a tag that begins an element
  Tag : Begun → Spot  -- there, behind white space
  Attribute : Begun → (name : List ℕ) → Spot  -- in the name of an attribute
  Equals : Begun → Spot  -- behind its `=`
  Value : Begun → Spot  -- in its quotes
  Quoted : Begun → Spot  -- behind them
  Slash : Spot  -- behind the `/` of an element without content
  Closing : (name : List ℕ) → Spot  -- in the name of a tag that ends an element
  Entity : (name : List ℕ) → Spot  -- behind `&`
  After : Spot  -- the document's element has ended
  Broken : Spot  -- it is not well-formed

-- The names of the elements that one is within, the innermost first, and the spot.
pub record Scan : Type 0 where
  pub within : List (List ℕ)
  pub spot : Spot

abbrev pub at : (within : List (List ℕ)) → Spot → Scan
at w spot = record { within = w; spot = spot }

-- ----- elements
-- an element has begun, and one has ended
abbrev pub inside : (within : List (List ℕ)) → (name : List ℕ) → Scan
inside w name = at (name ∷ w) Content

abbrev pub outside : (within : List (List ℕ)) → Scan
outside [] = at [] After
outside (name ∷ w) = at (name ∷ w) Content

-- the element that ends is the innermost one (section 3.1)
abbrev pub ended : (within : List (List ℕ)) → (name : List ℕ) → Scan
ended [] name = at [] Broken
ended (top ∷ w) name = if bytes_eq name top then outside w else at (top ∷ w) Broken

-- ----- text
-- `<` begins a tag, `&` an entity, and `>` stands for itself nowhere
abbrev pub in_content : (within : List (List ℕ)) → (c : ℕ) → Scan
in_content w c = if c == 60 then at w Opened else if c == 38 then at w (Entity []) else if c == 62 then at w Broken
    else if is_character c then at w Content else at w Broken

-- `amp`, `lt`, `gt` and `quot`, from their last letter on (section 4.6)
abbrev pub is_entity : (name : List ℕ) → Bool
is_entity name = bytes_eq name (codes "pma") || (bytes_eq name (codes "tl")
    || (bytes_eq name (codes "tg") || bytes_eq name (codes "touq")))

abbrev pub in_entity : (within : List (List ℕ)) → (name : List ℕ) → (c : ℕ) → Scan
in_entity w name c = if is_letter c then at w (Entity (c ∷ name))
    else if c == 59 && is_entity name then at w Content else at w Broken

-- ----- tags
abbrev pub begun : (name : List ℕ) → Begun
begun name = record { name = name; attributes = [] }

abbrev pub behind_open : (within : List (List ℕ)) → (c : ℕ) → Scan
behind_open w c = if c == 47 then at w (Closing []) else if is_letter c then at w (Name (c ∷ [])) else at w Broken

abbrev pub in_name : (within : List (List ℕ)) → (name : List ℕ) → (c : ℕ) → Scan
in_name w name c = if is_letter c then at w (Name (c ∷ name)) else if c == 32 then at w (Tag (begun name))
    else if c == 62 then inside w name else if c == 47 then at w Slash else at w Broken

abbrev pub in_closing : (within : List (List ℕ)) → (name : List ℕ) → (c : ℕ) → Scan
in_closing w name c = if is_letter c then at w (Closing (c ∷ name)) else if c == 62 then ended w name else at w Broken

-- ----- attributes
-- no two of a tag have one name (section 3.1)
abbrev pub with_attribute : Begun → (name : List ℕ) → Begun
with_attribute b name = record { name = b.name; attributes = name ∷ b.attributes }

abbrev pub in_attribute : (within : List (List ℕ)) → Begun → (name : List ℕ) → (c : ℕ) → Scan
in_attribute w b name c = if is_letter c then at w (Attribute b (c ∷ name))
    else if c == 61 && not (list_any (bytes_eq name) b.attributes) then at w (Equals (with_attribute b name))
    else at w Broken

-- in quotes neither `<` nor `&` nor `>` stands
abbrev pub in_value : (within : List (List ℕ)) → Begun → (c : ℕ) → Scan
in_value w b c = if c == 34 then at w (Quoted b) else if c == 60 || (c == 38 || c == 62) then at w Broken
    else if is_character c then at w (Value b) else at w Broken

abbrev pub behind_value : (within : List (List ℕ)) → Begun → (c : ℕ) → Scan
behind_value w b c = if c == 32 then at w (Tag b) else if c == 62 then inside w b.name else if c == 47 then at w Slash
    else at w Broken

-- ----- the whole
abbrev pub scanned : (within : List (List ℕ)) → Spot → (c : ℕ) → Scan
scanned w Before c = if c == 60 then at w Opened else at w Broken
scanned w Content c = in_content w c
scanned w Opened c = behind_open w c
scanned w (Name name) c = in_name w name c
scanned w (Tag b) c = if is_letter c then at w (Attribute b (c ∷ [])) else at w Broken
scanned w (Attribute b name) c = in_attribute w b name c
scanned w (Equals b) c = if c == 34 then at w (Value b) else at w Broken
scanned w (Value b) c = in_value w b c
scanned w (Quoted b) c = behind_value w b c
scanned w Slash c = if c == 62 then outside w else at w Broken
scanned w (Closing name) c = in_closing w name c
scanned w (Entity name) c = in_entity w name c
scanned w After c = if c == 10 || c == 32 then at w After else at w Broken
scanned w Broken c = at w Broken

-- one byte more
abbrev pub next : Scan → (c : ℕ) → Scan
next s c = scanned s.within s.spot c

-- The text is a well-formed document: one element that has ended, and white space behind it.
abbrev pub IsWellFormed : (text : List ℕ) → Type 0
IsWellFormed text = fold next (at [] Before) text ≡ at [] After
