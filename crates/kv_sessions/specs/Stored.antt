-- What a store holds: at each key the flags and the data of a set.
use Rattle.std.specs.Prelude.{ℕ, List, refl}
use Rattle.std.specs.Ordering.{nat_cmp}
use Rattle.std.specs.Cmp.Lexicographic.{slice_cmp}
use Rattle.std.specs.Coded.{Coded, code_by, coded×, coded_ℕ, coded_list}
use Rattle.std.specs.FinMap as map

-- what a set stores at its key
pub record Item : Type 0 where
  pub flags : ℕ
  pub bytes : List ℕ

-- a map from keys, which are bytes, to items
abbrev pub Map : Type 0
Map = map.FinMap (slice_cmp nat_cmp) Item

-- how an item and a map are kept as values of a proof
abbrev pub item_code : Coded Item
item_code =
    code_by (ℕ × List ℕ) (coded× coded_ℕ (coded_list coded_ℕ)) (λ i. (i.flags, i.bytes))
    (λ p. record { flags = p.0; bytes = p.1 }) (λ _. refl)

abbrev pub map_code : Coded Map
map_code = map.code (coded_list coded_ℕ) item_code
