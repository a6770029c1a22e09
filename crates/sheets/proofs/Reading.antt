-- The text is read back in one way: a list of numbers between tabs, a line whose word is known, a sheet. Assumes nothing.
use mathlib.Core.Path.{◌≡◌, refl, sym, ap, ◌∙◌}
use mathlib.Core.List.{List, [], ◌∷◌, ◌++◌, append_assoc, append_cancel_left}
use Prim.Native.Nat.{ℕ, ◌≤◌, ◌<◌}
use native.Mathlib.Omega.{arith}
use lib.ListN.{length}
use Rattle.words.specs.Lists.{each, joined}
use Rattle.words.specs.Rows.{echoes}
use Rattle.words.specs.Sheet.{Line, decimal, fields, line, text, lines, sheet}
use Rattle.words.proofs.Lists.{In, here, there}
use Rattle.words.proofs.Decimal.{decimal_digits, decimal_read}

-- digits end at the first byte that is none
ends : (s t r q : List ℕ) (c d : ℕ) → ((b : ℕ) → In b s → 48 ≤ b) → ((b : ℕ) → In b t → 48 ≤ b) → c < 48 → d < 48 → s ++ (c ∷ r) ≡ t ++ (d ∷ q) → (s ≡ t) × (c ∷ r ≡ d ∷ q)
ends [] [] r q c d u v h k e = (refl, e)
ends [] (b ∷ t) r q c d u v h k e = let z : c ≡ b = cc in absurd (omega (arith, v b here))
ends (a ∷ s) [] r q c d u v h k e = let z : a ≡ d = cc in absurd (omega (arith, u a here))
ends (a ∷ s) (b ∷ t) r q c d u v h k e =
    let z : a ≡ b = cc in
    let w : s ++ (c ∷ r) ≡ t ++ (d ∷ q) = cc in
    let (p, o) = ends s t r q c d (λ x i. u x (there i)) (λ x i. v x (there i)) h k w in
    (cc, o)

-- what fields start with
starts : (l r : List ℕ) → (c : ℕ) × (t : List ℕ) × (c < 48) × (fields l ++ r ≡ c ∷ t)
unfolding fields
starts [] r = (10, r, omega arith, refl)
starts (m ∷ l) r = (9, (decimal m ++ fields l) ++ r, omega arith, refl)

number_then : (m n : ℕ) (l k r q : List ℕ) → (decimal m ++ fields l) ++ r ≡ (decimal n ++ fields k) ++ q → (m ≡ n) × (fields l ++ r ≡ fields k ++ q)
number_then m n l k r q e =
    let (c, t, h, a) = starts l r in
    let (d, u, g, b) = starts k q in
    let z : decimal m ++ (c ∷ t) ≡ decimal n ++ (d ∷ u) =
    ap (λ (x : List ℕ). decimal m ++ x) (sym a) ∙ sym (append_assoc (decimal m) (fields l) r) ∙ e ∙ append_assoc (decimal n) (fields k) q ∙ ap (λ (x : List ℕ). decimal n ++ x) b in
    let (p, o) = ends (decimal m) (decimal n) t u c d (λ x i. (decimal_digits m x i).0) (λ x i. (decimal_digits n x i).0) h g z in
    (decimal_read m n p, a ∙ o ∙ sym b)

-- numbers between tabs, and what stands behind them
pub fields_read : (l k r q : List ℕ) → fields l ++ r ≡ fields k ++ q → (l ≡ k) × (r ≡ q)
unfolding fields
fields_read [] [] r q e = (refl, cc)
fields_read [] (n ∷ k) r q e = let z : ◌≡◌ {A = ℕ} 10 9 = cc in absurd (omega arith)
fields_read (m ∷ l) [] r q e = let z : ◌≡◌ {A = ℕ} 9 10 = cc in absurd (omega arith)
fields_read (m ∷ l) (n ∷ k) r q e =
    let w : (decimal m ++ fields l) ++ r ≡ (decimal n ++ fields k) ++ q = cc in
    let (p, o) = number_then m n l k r q w in
    let (rest, behind) = fields_read l k r q o in (cc, behind)

-- the text, line by line
pub text_nil : text [] ≡ []
unfolding text joined each
text_nil = refl

pub text_cons : (l : Line) (rest : List Line) → text (l ∷ rest) ≡ line l ++ text rest
unfolding text joined each
text_cons l rest = refl

-- a line whose word is known, and what stands behind it
pub line_read : (l k : Line) (r q : List ℕ) → l.word ≡ k.word → line l ++ r ≡ line k ++ q → (l.numbers ≡ k.numbers) × (r ≡ q)
unfolding line
line_read l k r q w e = fields_read l.numbers k.numbers r q (append_cancel_left k.word (fields l.numbers ++ r) (fields k.numbers ++ q) (same l.word w e))
  where
    same : (s : List ℕ) → s ≡ k.word → (s ++ fields l.numbers) ++ r ≡ (k.word ++ fields k.numbers) ++ q → k.word ++ (fields l.numbers ++ r) ≡ k.word ++ (fields k.numbers ++ q)
    same s w e = ap (λ (s : List ℕ). s ++ (fields l.numbers ++ r)) (sym w) ∙ sym (append_assoc s (fields l.numbers) r) ∙ e ∙ append_assoc k.word (fields k.numbers) q

-- lines with the same words and equal texts, whatever stands behind them, have equal numbers, line by line
pub text_read : (l k : List Line) (r q : List ℕ) → each (λ (a : Line). a.word) l ≡ each (λ (a : Line). a.word) k → text l ++ r ≡ text k ++ q
    → (each (λ (a : Line). a.numbers) l ≡ each (λ (a : Line). a.numbers) k) × (r ≡ q)
unfolding each text joined
text_read [] [] r q w e = (refl, e)
text_read [] (b ∷ k) r q w e = let z : ◌≡◌ {A = ℕ} 0 1 = cc in absurd (omega arith)
text_read (a ∷ l) [] r q w e = let z : ◌≡◌ {A = ℕ} 0 1 = cc in absurd (omega arith)
text_read (a ∷ l) (b ∷ k) r q w e =
    let z : a.word ≡ b.word = cc in
    let u : each (λ (a : Line). a.word) l ≡ each (λ (a : Line). a.word) k = cc in
    let (p, o) = line_read a b (text l ++ r) (text k ++ q) z (sym (append_assoc (line a) (text l) r) ∙ e ∙ append_assoc (line b) (text k) q) in
    let (rest, behind) = text_read l k r q u o in (cc, behind)

-- equal sheets, whatever stands behind them, are of rows of one length, over one A, with equal echoes
pub sheet_read : (A B : ℕ) (x y r q : List ℕ) → sheet A x ++ r ≡ sheet B y ++ q → (length x ≡ length y) × (A ≡ B) × (echoes x ≡ echoes y)
unfolding sheet lines each
sheet_read A B x y r q h = let (same, behind) = text_read (lines A x) (lines B y) r q refl h in (cc, cc, cc)
