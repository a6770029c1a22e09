-- The closing and the joining strip. Assumes nothing: these are definitions.
use Rattle.std.specs.Prelude.{cond, List, ℕ, suc, ◌+◌, ◌-◌, min, leb, length, take, drop}
use Rattle.words.specs.Lists.{both, greatest}
use Rattle.words.specs.Rows.{card, closes, echo}
use Rattle.words.specs.Numbers.{limit}

-- the length of the closing strip: e[n]; 0 where the row is over the limit
unfoldable pub closed : List ℕ → ℕ
closed x = let k = echo (card x) (length x) in cond (leb (length x) limit) k 0

-- the part of a row made of k cards behind its first d: its bytes, and where it begins, d bytes behind p, where the row begins
unfoldable pub part : List ℕ → ℕ × ℕ → ℕ → ℕ → List ℕ × (ℕ × ℕ)
part x p d k = (take k (drop d x), (p.0, d + p.1))

-- the closing strip: the part of the row made of its last e[n] cards
unfoldable pub closing : List ℕ → ℕ × ℕ → List ℕ × (ℕ × ℕ)
closing x p = part x p (length x - closed x) (closed x)

-- the greatest length at which the end of the left row X[1..n] equals the opening of the right row Y[1..m]; it may be the whole of either
unfoldable pub overlap : (ℕ → ℕ) → ℕ → (ℕ → ℕ) → ℕ → ℕ
overlap X n Y m = greatest (closes Y X n) (suc (min n m))

-- the length of the joining strip: the overlap; 0 where a row is over the limit
unfoldable pub joint : List ℕ → List ℕ → ℕ
joint x y = let k = overlap (card x) (length x) (card y) (length y) in cond (both (leb (length x) limit) (leb (length y) limit)) k 0

-- the joining strip: the part of the right row made of its first cards, those that the left row's end equals
unfoldable pub joining : List ℕ → List ℕ → ℕ × ℕ → List ℕ × (ℕ × ℕ)
joining x y p = part y p 0 (joint x y)
