-- Laws of tests and lists: membership, `any`, `every`, `keep`, `each`, the greatest that passes, falling lists. Assumes nothing.
use mathlib.Core.Path.{◌≡◌, refl, sym, ap, subst, ◌∙◌}
use mathlib.Core.Bool.{Bool, true, false}
use mathlib.Core.Logic.{◌⊎◌, inl, inr, ⊎_elim}
use mathlib.Core.List.{List, [], ◌∷◌}
use Prim.Native.Nat.{ℕ, zero, suc, ◌≤◌, ◌<◌}
use native.Mathlib.Omega.{arith}
use lib.Dec.{eqb}
use lib.ListN.{length}
use borrow.Author.Tests.{eqb-true, eqb-false, eq-eqb}
use Rattle.words.specs.Lists.{both, each, any, every, keep, greatest, falling}

-- a test with its equation, to take apart
pub which : (t : Bool) → (t ≡ true) ⊎ (t ≡ false)
which true = inl refl
which false = inr refl

-- a choice taken apart, the choice first
pub either : {A B C : Type 0} → A ⊎ B → (A → C) → (B → C) → C
either s f g = ⊎_elim f g s

pub same? : (a b : ℕ) → (a ≡ b) ⊎ (a ≡ b → ⊥)
same? a b = either (which (eqb a b)) (λ t. inl (eqb-true a b t)) (λ f. inr (eqb-false a b f))

pub zero_or_more : (k : ℕ) → (k ≡ 0) ⊎ (0 < k)
zero_or_more zero = inl refl
zero_or_more (suc k) = inr (omega arith)

pub not_both : {t : Bool} → t ≡ true → t ≡ false → ⊥
not_both p q = let z : true ≡ false = sym p ∙ q in let n : ◌≡◌ {A = ℕ} 0 1 = cc in omega arith

pub both_true : (a b : Bool) → a ≡ true → b ≡ true → both a b ≡ true
unfolding both
both_true true b p q = q
both_true false b p q = p

pub both_left : (a b : Bool) → a ≡ false → both a b ≡ false
unfolding both
both_left true b p = absurd (not_both refl p)
both_left false b p = refl

pub both_right : (a b : Bool) → b ≡ false → both a b ≡ false
unfolding both
both_right true b p = p
both_right false b p = refl

pub both_out : (a b : Bool) → both a b ≡ true → (a ≡ true) × (b ≡ true)
unfolding both
both_out true b p = (refl, p)
both_out false b p = absurd (not_both p refl)

-- m is a member of the list
pub data In (m : ℕ) : List ℕ → Type 0 where
  here : {l : List ℕ} → In m (m ∷ l)
  there : {x : ℕ} {l : List ℕ} → In m l → In m (x ∷ l)

pub In-nil : {m : ℕ} → In m [] → ⊥
In-nil = elim [ ]

pub In-cons : {m x : ℕ} {l : List ℕ} → In m (x ∷ l) → (m ≡ x) ⊎ In m l
In-cons here = inl refl
In-cons (there i) = inr i

pub In-here : {m x : ℕ} {l : List ℕ} → m ≡ x → In m (x ∷ l)
In-here {m} {x} {l} p = subst (λ (y : ℕ). In m (y ∷ l)) p here

pub In-each : {m : ℕ} {l : List ℕ} (f : ℕ → ℕ) → In m l → In (f m) (each f l)
unfolding each
In-each f here = here
In-each f (there i) = there (In-each f i)

-- a member of `each f l` is f of a member
pub In-each-out : (f : ℕ → ℕ) (l : List ℕ) (x : ℕ) → In x (each f l) → (m : ℕ) × In m l × (f m ≡ x)
unfolding each
In-each-out f [] x i = absurd (In-nil i)
In-each-out f (y ∷ l) x i = either (In-cons i) (λ e. (y, here, sym e)) (λ j. let (m, k, e) = In-each-out f l x j in (m, there k, e))

module _ (p : ℕ → Bool) where
  pub any_in : {m : ℕ} {l : List ℕ} → In m l → p m ≡ true → any p l ≡ true
  unfolding any
  any_in here h = rw h
  any_in (there {x} {l} i) h = either (which (p x)) (λ t. rw t) (λ f. rw f (any_in i h))

  pub any_none : (l : List ℕ) → ((m : ℕ) → In m l → p m ≡ false) → any p l ≡ false
  unfolding any
  any_none [] h = refl
  any_none (x ∷ l) h = rw (h x here) (any_none l (λ m i. h m (there i)))

  pub any_out : (l : List ℕ) → any p l ≡ true → (m : ℕ) × In m l × (p m ≡ true)
  unfolding any
  any_out [] h = absurd (not_both h refl)
  any_out (x ∷ l) h = either (which (p x)) (λ t. (x, here, t)) (λ f. let (m, i, e) = any_out l (rw f at h) in (m, there i, e))

  pub every_in : (l : List ℕ) → ((m : ℕ) → In m l → p m ≡ true) → every p l ≡ true
  unfolding every
  every_in [] h = refl
  every_in (x ∷ l) h = rw (h x here) (every_in l (λ m i. h m (there i)))

  pub every_out : {m : ℕ} {l : List ℕ} → every p l ≡ true → In m l → p m ≡ true
  unfolding every
  every_out h (here {l}) = either (which (p _)) (λ t. t) (λ f. absurd (not_both (rw f at h) refl))
  every_out h (there {x} {l} i) = either (which (p x)) (λ t. every_out (rw t at h) i) (λ f. absurd (not_both (rw f at h) refl))

  pub keep_yes : (x : ℕ) (l : List ℕ) → p x ≡ true → keep p (x ∷ l) ≡ x ∷ keep p l
  unfolding keep
  keep_yes x l h = rw h

  pub keep_no : (x : ℕ) (l : List ℕ) → p x ≡ false → keep p (x ∷ l) ≡ keep p l
  unfolding keep
  keep_no x l h = rw h

  pub keep_in : {m : ℕ} {l : List ℕ} → In m l → p m ≡ true → In m (keep p l)
  keep_in {m} (here {l}) h = subst (λ (k : List ℕ). In m k) (sym (keep_yes m l h)) here
  keep_in {m} (there {x} {l} i) h = either (which (p x))
      (λ t. subst (λ (k : List ℕ). In m k) (sym (keep_yes x l t)) (there (keep_in i h)))
      (λ f. subst (λ (k : List ℕ). In m k) (sym (keep_no x l f)) (keep_in i h))

  keep_out_cons : (x : ℕ) (l : List ℕ) (m : ℕ) → (In m (keep p l) → In m l × (p m ≡ true)) → In m (keep p (x ∷ l)) → In m (x ∷ l) × (p m ≡ true)
  keep_out_cons x l m rest i = either (which (p x))
      (λ t. either (In-cons (rw (keep_yes x l t) at i)) (λ e. (In-here e, ap p e ∙ t)) deeper)
      (λ f. deeper (rw (keep_no x l f) at i))
    where
      deeper : In m (keep p l) → In m (x ∷ l) × (p m ≡ true)
      deeper j = let (k, e) = rest j in (there k, e)

  pub keep_out : (l : List ℕ) (m : ℕ) → In m (keep p l) → In m l × (p m ≡ true)
  unfolding keep
  keep_out [] m i = absurd (In-nil i)
  keep_out (x ∷ l) m i = keep_out_cons x l m (keep_out l m) i

  pub keep_few : (l : List ℕ) → length (keep p l) ≤ length l
  unfolding keep
  keep_few [] = omega arith
  keep_few (x ∷ l) = either (which (p x)) (λ t. rw t (omega (arith, keep_few l))) (λ f. rw f (omega (arith, keep_few l)))

  -- the greatest number below n that passes: it is below n, it passes where 0 does, and none that passes is above it
  pub greatest_low : (n : ℕ) → 0 < n → greatest p n < n
  unfolding greatest
  greatest_low zero h = absurd (omega arith)
  greatest_low (suc zero) h = either (which (p 0)) (λ t. rw t (omega arith)) (λ f. rw f (omega arith))
  greatest_low (suc (suc n)) h = either (which (p (suc n))) (λ t. rw t (omega arith)) (λ f. rw f (omega (arith, greatest_low (suc n) (omega arith))))

  pub greatest_passes : (n : ℕ) → p 0 ≡ true → p (greatest p n) ≡ true
  unfolding greatest
  greatest_passes zero z = z
  greatest_passes (suc n) z = either (which (p n)) (λ t. rw t t) (λ f. rw f (greatest_passes n z))

  pub greatest_most : (n k : ℕ) → k < n → p k ≡ true → k ≤ greatest p n
  unfolding greatest
  greatest_most zero k h t = absurd (omega arith)
  greatest_most (suc n) k h t = either (which (p n))
      (λ u. rw u (omega arith))
      (λ f. rw f (greatest_most n k (either (same? k n) (λ e. absurd (not_both t (ap p e ∙ f))) (λ d. omega arith)) t))

-- the numbers below n, falling
pub falling_in : (n m : ℕ) → m < n → In m (falling n)
unfolding falling
falling_in zero m h = absurd (omega arith)
falling_in (suc n) m h = either (same? m n) (λ e. In-here e) (λ d. there (falling_in n m (omega arith)))

pub falling_out : (n m : ℕ) → In m (falling n) → m < n
unfolding falling
falling_out zero m i = absurd (In-nil i)
falling_out (suc n) m i = either (In-cons i) (λ e. omega arith) (λ j. omega (arith, falling_out n m j))

-- each member is above those behind it
unfoldable pub Falls : List ℕ → Type 0
Falls [] = Unit
Falls (x ∷ l) = ((m : ℕ) → In m l → m < x) × Falls l

pub falling_falls : (n : ℕ) → Falls (falling n)
unfolding Falls falling
falling_falls zero = tt
falling_falls (suc n) = (falling_out n, falling_falls n)

pub keep_falls : (p : ℕ → Bool) (l : List ℕ) → Falls l → Falls (keep p l)
unfolding Falls keep
keep_falls p [] f = tt
keep_falls p (x ∷ l) f = go (which (p x)) (keep_falls p l f.1)
  where
    go : (p x ≡ true) ⊎ (p x ≡ false) → Falls (keep p l) → Falls (keep p (x ∷ l))
    go (inl t) rest = rw (keep_yes p x l t) ((λ m i. f.0 m (keep_out p l m i).0), rest)
    go (inr t) rest = rw (keep_no p x l t) rest

-- two falling lists with the same members are equal
pub falls_same : (l k : List ℕ) → Falls l → Falls k → ((m : ℕ) → In m l → In m k) → ((m : ℕ) → In m k → In m l) → l ≡ k
unfolding Falls
falls_same [] [] f g to from = refl
falls_same [] (y ∷ k) f g to from = absurd (In-nil (from y here))
falls_same (x ∷ l) [] f g to from = absurd (In-nil (to x here))
falls_same (x ∷ l) (y ∷ k) f g to from = cc (top, falls_same l k f.1 g.1 (λ m i. behind m i (In-cons (to m (there i)))) (λ m i. before m i (In-cons (from m (there i)))))
  where
    top : x ≡ y
    top = either (In-cons (to x here)) (λ e. e) (λ i. either (In-cons (from y here)) (λ e. sym e) (λ j. absurd (omega (arith, f.0 y j, g.0 x i))))

    behind : (m : ℕ) → In m l → (m ≡ y) ⊎ In m k → In m k
    behind m i (inl e) = absurd (omega (arith, f.0 m i, top))
    behind m i (inr j) = j

    before : (m : ℕ) → In m k → (m ≡ x) ⊎ In m l → In m l
    before m i (inl e) = absurd (omega (arith, g.0 m i, top))
    before m i (inr j) = j

-- x is in l, or it is not
pub in? : (x : ℕ) (l : List ℕ) → In x l ⊎ (In x l → ⊥)
in? x l = either (which (any (eqb x) l))
    (λ t. let (k, i, e) = any_out (eqb x) l t in inl (subst (λ (y : ℕ). In y l) (sym (eqb-true x k e)) i))
    (λ f. inr (λ i. not_both (any_in (eqb x) i (eq-eqb x x refl)) f))

pub any_same : (p q : ℕ → Bool) (l : List ℕ) → ((m : ℕ) → In m l → p m ≡ q m) → any p l ≡ any q l
unfolding any
any_same p q [] h = refl
any_same p q (x ∷ l) h = rw (h x here, any_same p q l (λ m i. h m (there i)))

pub keep_same : (p q : ℕ → Bool) (l : List ℕ) → ((m : ℕ) → In m l → p m ≡ q m) → keep p l ≡ keep q l
unfolding keep
keep_same p q [] h = refl
keep_same p q (x ∷ l) h = rw (h x here, keep_same p q l (λ m i. h m (there i)))

pub each_same : (X Y : ℕ → ℕ) (l : List ℕ) → ((m : ℕ) → In m l → X m ≡ Y m) → each X l ≡ each Y l
unfolding each
each_same X Y [] h = refl
each_same X Y (x ∷ l) h = rw (h x here, each_same X Y l (λ m i. h m (there i)))

pub each_long : (f : ℕ → ℕ) (l : List ℕ) → length (each f l) ≡ length l
unfolding each
each_long f [] = refl
each_long f (x ∷ l) = ap suc (each_long f l)

-- q is p but for one member, which p keeps and q drops
pub keep_less : (p q : ℕ → Bool) (k : ℕ) (l : List ℕ) → Falls l → In k l → p k ≡ true → q k ≡ false
    → ((m : ℕ) → In m l → (m ≡ k → ⊥) → p m ≡ q m) → length (keep p l) ≡ suc (length (keep q l))
unfolding Falls
keep_less p q k [] f i pk qk h = absurd (In-nil i)
keep_less p q k (x ∷ l) f i pk qk h = go (same? k x) (which (p x)) (λ j. keep_less p q k l f.1 j pk qk (λ m s. h m (there s)))
  where
    go : (k ≡ x) ⊎ (k ≡ x → ⊥) → (p x ≡ true) ⊎ (p x ≡ false) → (In k l → length (keep p l) ≡ suc (length (keep q l)))
        → length (keep p (x ∷ l)) ≡ suc (length (keep q (x ∷ l)))
    go (inl e) t rest = rw (keep_yes p x l (ap p (sym e) ∙ pk), keep_no q x l (ap q (sym e) ∙ qk), keep_same p q l (λ m s. h m (there s) (λ z. omega (arith, f.0 m s))))
    go (inr d) (inl t) rest = rw (keep_yes p x l t, keep_yes q x l (sym (h x here (λ z. d (sym z))) ∙ t)) (ap suc (rest (either (In-cons i) (λ e. absurd (d e)) (λ j. j))))
    go (inr d) (inr t) rest = rw (keep_no p x l t, keep_no q x l (sym (h x here (λ z. d (sym z))) ∙ t)) (rest (either (In-cons i) (λ e. absurd (d e)) (λ j. j)))
