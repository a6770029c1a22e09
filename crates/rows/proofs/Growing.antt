-- Growing what closes a row by one card: the three ways of the walk, the echo of the next place, and the overlap of two rows. Assumes nothing.
use mathlib.Core.Path.{◌≡◌, refl, sym, ap, subst, ◌∙◌}
use mathlib.Core.Bool.{true}
use Prim.Native.Nat.{ℕ, zero, suc, min, ◌≤◌, ◌<◌}
use native.Mathlib.Omega.{arith}
use lib.Dec.{eqb}
use borrow.Author.Tests.{eqb-true, eq-eqb}
use Rattle.words.specs.Rows.{closes, echo}
use Rattle.words.specs.Strips.{overlap}
use Rattle.words.proofs.Lists.{either, same?, both_true, both_out, greatest_low, greatest_passes, greatest_most}
use Rattle.rows.specs.Border.{Closes, Border, grows, grown}
use Rattle.rows.proofs.Borders.{closes_in, closes_out, closes_none, closes_all, closes_trans, closes_of, closes_more, closes_less, closes_card, echo_border, echo_most, closes_echo}

-- what grows, and that nothing that grows is longer
pub grown_parts : (Y : ℕ → ℕ) (b c k : ℕ) → grown Y b c ≡ suc k → Closes Y Y b k × (Y (suc k) ≡ c)
unfolding grown grows
grown_parts Y b c k e =
    let t : grows Y b c (suc k) ≡ true = ap (grows Y b c) (sym e) ∙ greatest_passes (grows Y b c) (suc (suc b)) refl in
    let l = greatest_low (grows Y b c) (suc (suc b)) (omega arith) in
    let (s, u) = both_out (closes Y Y b k) (eqb (Y (suc k)) c) t in
    (closes_out Y Y b k (omega arith) s, eqb-true (Y (suc k)) c u)

pub grown_most : {Y : ℕ → ℕ} {b k : ℕ} (c : ℕ) → Closes Y Y b k → Y (suc k) ≡ c → suc k ≤ grown Y b c
unfolding grown grows
grown_most {Y} {b} {k} c s e = greatest_most (grows Y b c) (suc (suc b)) (suc k) (omega (arith, s.short)) (both_true (closes Y Y b k) (eqb (Y (suc k)) c) (closes_in s) (eq-eqb (Y (suc k)) c e))

pub grown_low : (Y : ℕ → ℕ) (b c : ℕ) → grown Y b c ≤ suc b
unfolding grown
grown_low Y b c = omega (arith, greatest_low (grows Y b c) (suc (suc b)) (omega arith))

-- a number that is 0, or k + 1 at most n wherever it is k + 1, is at most n
upto : (g n : ℕ) → ((k : ℕ) → g ≡ suc k → suc k ≤ n) → g ≤ n
upto zero n f = omega arith
upto (suc k) n f = f k refl

-- the three ways of the walk: the card fits here, nothing is left, or the walk goes on with the echo
pub grown_here : (Y : ℕ → ℕ) (b c : ℕ) → Y (suc b) ≡ c → suc b ≡ grown Y b c
grown_here Y b c e = omega (arith, grown_low Y b c, grown_most c (closes_all Y b) e)

pub grown_end : (Y : ℕ → ℕ) (c : ℕ) → (Y 1 ≡ c → ⊥) → 0 ≡ grown Y 0 c
grown_end Y c d = omega (
  arith,
  upto (grown Y 0 c) 0 (λ k e.
      let (s, q) = grown_parts Y 0 c k e in
      let z : suc k ≡ 1 = omega (arith, s.short) in
      absurd (d (ap Y (sym z) ∙ q))),
)

pub grown_on : (Y : ℕ → ℕ) (b c : ℕ) → (b ≡ 0 → ⊥) → (Y (suc b) ≡ c → ⊥) → grown Y (echo Y b) c ≡ grown Y b c
grown_on Y b c n d = omega (
  arith,
  upto (grown Y b c) (grown Y (echo Y b) c) (λ k e.
      let (s, q) = grown_parts Y b c k e in
      let l : k < b = strict k s q in
      grown_most c (closes_echo s l) q),
  upto (grown Y (echo Y b) c) (grown Y b c) (λ k e.
      let (s, q) = grown_parts Y (echo Y b) c k e in
      grown_most c (closes_trans (echo_border Y b (omega arith)).edge s) q),
)
  where
    strict : (k : ℕ) → Closes Y Y b k → Y (suc k) ≡ c → k < b
    strict k s q = either (same? k b) (λ z. absurd (d (ap Y (ap suc (sym z)) ∙ q))) (λ m. omega (arith, s.short))

-- the echo of the next place
pub echo_next : (X : ℕ → ℕ) (i : ℕ) → 0 < i → echo X (suc i) ≡ grown X (echo X i) (X (suc i))
echo_next X i h = omega (
  arith,
  upto (echo X (suc i)) (grown X (echo X i) (X (suc i))) (λ k e.
      let b = subst (λ (m : ℕ). Border X (suc i) m) e (echo_border X (suc i) (omega arith)) in
      grown_most (X (suc i)) (closes_echo (closes_less b.edge) (omega (arith, b.less))) (closes_card b.edge)),
  upto (grown X (echo X i) (X (suc i))) (echo X (suc i)) (λ k e.
      let (s, q) = grown_parts X (echo X i) (X (suc i)) k e in
      let b = echo_border X i h in
      echo_most (record { less = omega (arith, s.short, b.less); edge = closes_more (closes_trans b.edge s) q })),
)

-- the overlap closes the left row within the right one, and nothing that does is longer
pub overlap_closes : (X : ℕ → ℕ) (n : ℕ) (Y : ℕ → ℕ) (m : ℕ) → Closes Y X n (overlap X n Y m) × (overlap X n Y m ≤ m)
unfolding overlap
overlap_closes X n Y m =
    let l = greatest_low (closes Y X n) (suc (min n m)) (omega arith) in
    (closes_out Y X n (overlap X n Y m) (omega arith) (greatest_passes (closes Y X n) (suc (min n m)) (closes_in (closes_none Y X n))), omega arith)

pub overlap_most : {X Y : ℕ → ℕ} {n k : ℕ} (m : ℕ) → Closes Y X n k → k ≤ m → k ≤ overlap X n Y m
unfolding overlap
overlap_most {X} {Y} {n} {k} m c l = greatest_most (closes Y X n) (suc (min n m)) k (omega (arith, c.short)) (closes_in c)

-- one card more: any b that closes the left row, and that all others shorter than the right row close, will do
overlap_next : (X : ℕ → ℕ) (n : ℕ) (Y : ℕ → ℕ) (m b : ℕ) → Closes Y X n b → b < m → ((k : ℕ) → Closes Y X n k → k < m → Closes Y Y b k)
    → overlap X (suc n) Y m ≡ grown Y b (X (suc n))
overlap_next X n Y m b c l all = omega (
  arith,
  upto (overlap X (suc n) Y m) (grown Y b (X (suc n))) (λ k e.
      let (s, f) = overlap_closes X (suc n) Y m in
      let t = subst (λ (r : ℕ). Closes Y X (suc n) r) e s in
      grown_most (X (suc n)) (all k (closes_less t) (omega arith)) (closes_card t)),
  upto (grown Y b (X (suc n))) (overlap X (suc n) Y m) (λ k e.
      let (s, q) = grown_parts Y b (X (suc n)) k e in
      overlap_most m (closes_more (closes_trans c s) q) (omega (arith, s.short))),
)

-- the walk starts at the overlap, or, where that is the whole right row, at its last echo
pub overlap_on : (X : ℕ → ℕ) (n : ℕ) (Y : ℕ → ℕ) (m : ℕ) → overlap X n Y m < m → overlap X (suc n) Y m ≡ grown Y (overlap X n Y m) (X (suc n))
overlap_on X n Y m l =
    let (c, f) = overlap_closes X n Y m in
    overlap_next X n Y m (overlap X n Y m) c l (λ k s h. closes_of c s (overlap_most m s (omega arith)))

pub overlap_full : (X : ℕ → ℕ) (n : ℕ) (Y : ℕ → ℕ) (m : ℕ) → 0 < m → overlap X n Y m ≡ m → overlap X (suc n) Y m ≡ grown Y (echo Y m) (X (suc n))
overlap_full X n Y m p e =
    let (c, f) = overlap_closes X n Y m in
    let full = subst (λ (k : ℕ). Closes Y X n k) e c in
    let b = echo_border Y m p in
    overlap_next X n Y m (echo Y m) (closes_trans full b.edge) b.less (λ k s h. closes_echo (closes_of full s (omega arith)) h)
