-- Laws of dictionary order, of the least of a set, and of the index at which two lists part. Assumes nothing.
use mathlib.Core.Path.{◌≡◌, refl, sym, ◌∙◌}
use mathlib.Core.Bool.{true, false}
use mathlib.Core.Logic.{◌⊎◌, inl, inr}
use mathlib.Core.List.{List, [], ◌∷◌}
use Prim.Native.Nat.{ℕ, zero, suc, ◌≤◌, ◌<◌}
use native.Mathlib.Omega.{arith}
use lib.Dec.{eqb, ltb}
use lib.ListN.{length, take, get_or}
use borrow.Author.Tests.{eqb-true, eq-eqb, ne_eqb, ltb-true, ltb-false, lt-ltb}
use Rattle.words.specs.Least.{before, Least}
use Rattle.words.proofs.Lists.{which, either, same?, not_both}

pub before_head : (a b : ℕ) (x y : List ℕ) → a < b → before (a ∷ x) (b ∷ y) ≡ true
unfolding before
before_head a b x y h = rw (ne_eqb a b (λ e. omega arith)) (lt-ltb a b h)

pub before_tail : (a b : ℕ) (x y : List ℕ) → a ≡ b → before (a ∷ x) (b ∷ y) ≡ before x y
unfolding before
before_tail a b x y e = rw (eq-eqb a b e)

pub before_out : (a b : ℕ) (x y : List ℕ) → before (a ∷ x) (b ∷ y) ≡ true → (a < b) ⊎ ((a ≡ b) × (before x y ≡ true))
unfolding before
before_out a b x y h = either (which (eqb a b)) (λ t. inr (eqb-true a b t, rw t at h)) (λ f. inl (ltb-true a b (rw f at h)))

-- nothing stands before the empty array
pub before_nil : (x : List ℕ) → before x [] ≡ false
unfolding before
before_nil [] = refl
before_nil (a ∷ x) = refl

pub before_self : (x : List ℕ) → before x x ≡ false
before_self [] = before_nil []
before_self (a ∷ x) = before_tail a a x x refl ∙ before_self x

pub before_trans : (x y z : List ℕ) → before x y ≡ true → before y z ≡ true → before x z ≡ true
unfolding before
before_trans x [] z p q = absurd (not_both p (before_nil x))
before_trans x (b ∷ y) [] p q = absurd (not_both q refl)
before_trans [] (b ∷ y) (c ∷ z) p q = refl
before_trans (a ∷ x) (b ∷ y) (c ∷ z) p q = either (before_out a b x y p)
    (λ l. before_head a c x z (either (before_out b c y z q) (λ m. omega arith) (λ (e, r). omega arith)))
    (λ (d, r). either (before_out b c y z q)
    (λ m. before_head a c x z (omega arith))
    (λ (e, s). before_tail a c x z (d ∙ e) ∙ before_trans x y z r s))

pub before_total : (x y : List ℕ) → before x y ≡ false → before y x ≡ false → x ≡ y
unfolding before
before_total [] [] p q = refl
before_total [] (b ∷ y) p q = absurd (not_both refl p)
before_total (a ∷ x) [] p q = absurd (not_both refl q)
before_total (a ∷ x) (b ∷ y) p q = either (same? a b)
    (λ e. let r = before_total x y (sym (before_tail a b x y e) ∙ p) (sym (before_tail b a y x (sym e)) ∙ q) in cc)
    (λ d. either (which (ltb a b))
    (λ t. absurd (not_both (before_head a b x y (ltb-true a b t)) p))
    (λ f. absurd (not_both (before_head b a y x (omega (arith, ltb-false a b f))) q)))

-- x is not before y where that leads to nothing
pub before_not : (x y : List ℕ) → (before x y ≡ true → ⊥) → before x y ≡ false
before_not x y h = either (which (before x y)) (λ t. absurd (h t)) (λ f. f)

pub before_asym : (x y : List ℕ) → before x y ≡ true → before y x ≡ false
before_asym x y h = before_not y x (λ t. not_both (before_trans x y x h t) (before_self x))

pub least_one : {P : List ℕ → Type 0} {x y : List ℕ} → Least P x → Least P y → x ≡ y
least_one {P} {x} {y} p q = before_total x y (q.none x p.is) (p.none y q.is)

-- the least of a set said in other words
pub least_alike : {P Q : List ℕ → Type 0} {x : List ℕ} → ((z : List ℕ) → P z → Q z) → ((z : List ℕ) → Q z → P z) → Least P x → Least Q x
least_alike {P} {Q} {x} into out p = record { is = into x p.is; none = λ z q. p.none z (out z q) }

-- x and y part at index j, where x has the smaller number
pub record Parts (x y : List ℕ) (j : ℕ) : Type 0 where
  pub within : j < length x
  pub same : take j x ≡ take j y
  pub less : get_or x j 0 < get_or y j 0

-- of two lists of one length one is before the other exactly where they part, and the less there comes first
parts_on : {x y : List ℕ} {j : ℕ} (a b : ℕ) → a ≡ b → Parts x y j → Parts (a ∷ x) (b ∷ y) (suc j)
parts_on a b e p = record { within = omega (arith, p.within); same = cc p.same; less = p.less }

pub before_parts : (x y : List ℕ) → length x ≡ length y → before x y ≡ true → (j : ℕ) × Parts x y j
before_parts x [] l h = absurd (not_both h (before_nil x))
before_parts [] (b ∷ y) l h = absurd (omega arith)
before_parts (a ∷ x) (b ∷ y) l h = either (before_out a b x y h)
    (λ m. (0, record { within = omega arith; same = refl; less = m }))
    (λ (e, r). let (j, p) = before_parts x y (omega arith) r in (suc j, parts_on a b e p))

pub parts_before : (j : ℕ) (x y : List ℕ) → length x ≡ length y → Parts x y j → before x y ≡ true
parts_before j [] y l p = absurd (omega (arith, p.within))
parts_before j (a ∷ x) [] l p = absurd (omega arith)
parts_before zero (a ∷ x) (b ∷ y) l p = before_head a b x y p.less
parts_before (suc j) (a ∷ x) (b ∷ y) l p =
    let h : ◌≡◌ {A = List ℕ} (a ∷ take j x) (b ∷ take j y) = p.same in
    before_tail a b x y (cc) ∙ parts_before j x y (omega arith) (record { within = omega (arith, p.within); same = cc; less = p.less })

-- from index i on, no member of P that is as long as f and goes along with it has a smaller number there; a greater one
pub record Lowest (P : List ℕ → Type 0) (f : List ℕ) (i : ℕ) : Type 0 where
  pub least : (z : List ℕ) → P z → length z ≡ length f → (j : ℕ) → i ≤ j → j < length f → take j z ≡ take j f → get_or f j 0 ≤ get_or z j 0

pub record Highest (P : List ℕ → Type 0) (e : List ℕ) (i : ℕ) : Type 0 where
  pub most : (z : List ℕ) → P z → length z ≡ length e → (j : ℕ) → i ≤ j → j < length e → take j z ≡ take j e → get_or z j 0 ≤ get_or e j 0

-- no member of P is before f where f is lowest from index i on, unless it parts from f sooner
pub lowest_not : {P : List ℕ → Type 0} (f z : List ℕ) (i : ℕ) → Lowest P f i → P z → length z ≡ length f → ((j : ℕ) → j < i → Parts z f j → ⊥) → before z f ≡ false
lowest_not f z i low q l sooner = before_not z f (λ b. let (j, p) = before_parts z f l b in
    either (which (ltb j i))
    (λ t. sooner j (ltb-true j i t) p)
    (λ t. omega (arith, p.less, low.least z q l j (ltb-false j i t) (omega (arith, p.within)) p.same)))

-- the least of a set of lists of one length is the one that is lowest from the start
pub lowest_least : {P : List ℕ → Type 0} (f : List ℕ) → P f → ((z : List ℕ) → P z → length z ≡ length f) → Lowest P f 0 → Least P f
lowest_least f h l low = record { is = h; none = λ z q. lowest_not f z 0 low q (l z q) (λ j b p. omega arith) }
