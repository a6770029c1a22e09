-- Laws of the checks: each number is given exactly when its table says so, and the first check that is not done answers. Assumes nothing.
use mathlib.Core.Path.{◌≡◌, refl, sym, ap, subst, ◌∙◌}
use mathlib.Core.Bool.{Bool, true, false, not}
use mathlib.Core.List.{List, [], ◌∷◌}
use Prim.Native.Nat.{ℕ, zero, suc, ◌+◌, ◌-◌, ◌≤◌, ◌<◌}
use native.Mathlib.Omega.{arith}
use lib.Dec.{ltb, leb, eqb}
use lib.ListN.{length, get_or}
use borrow.Author.Tests.{eq-eqb, ne_eqb, le-leb, lt-leb, lt-ltb, le-ltb, leb-true, eqb-true, ltb-true, ltb-false, not-true, not-false}
use Rattle.words.specs.Lists.{both, first_of, run, places, at}
use Rattle.words.specs.Rows.{card}
use Rattle.words.specs.Outcomes.{kept, given, answered, counted}
use Rattle.words.specs.Numbers.{DONE, LONG, MISMATCH, CARD, DIFFERS, letters, first_letter, letter, over, foreign, outside, differs, differing, named, unless, alphabet, long, matching, cards, refusal, sizes, lent, paired, limit}
use Rattle.words.proofs.Lists.{which, either, same?, not_both, every_in, every_out, both_out, both_true, both_left, both_right}
use Rattle.words.proofs.Rows.{card_index}
use Rattle.words.proofs.Places.{at_index, places_in, places_out, first_places, first_start, first_here, first_more, first_none}

pub unless_good : (t : Bool) (n : ℕ) → t ≡ true → (DONE, 0) ≡ unless t n
unfolding unless
unless_good t n h = rw h

pub unless_not : (t : Bool) (n : ℕ) → t ≡ false → (n, 0) ≡ unless t n
unfolding unless
unless_not t n h = rw h

pub long_over : (most n : ℕ) → most < n → (LONG, 0) ≡ long most n
unfolding long
long_over most n h = unless_not (leb n most) LONG (lt-leb n most h)

pub named_none : (n p : ℕ) → p ≡ 0 → (DONE, 0) ≡ named n p
unfolding named
named_none n p h = rw (eq-eqb p 0 h)

pub named_place : (n p : ℕ) → (p ≡ 0 → ⊥) → (n, p) ≡ named n p
unfolding named
named_place n p h = rw (ne_eqb p 0 h)

-- a check whose number is 0 refuses nothing
pub cleared : (n p : ℕ) (c : ℕ × ℕ) → (n, p) ≡ c → n ≡ DONE → c.0 ≡ DONE
cleared n p c e z = ap (λ (r : ℕ × ℕ). r.0) (sym e) ∙ z

-- the first check that is not done answers; one that is done hands on to those behind it
pub refusal_stop : (c d r : ℕ × ℕ) (l : List (ℕ × ℕ)) → r ≡ c → (r.0 ≡ DONE → ⊥) → r ≡ refusal (c ∷ d ∷ l)
unfolding refusal
refusal_stop c d r l e n = e ∙ rw (ne_eqb c.0 DONE (λ z. n (cleared c.0 c.1 r (sym e) z)))

pub refusal_on : (c d r s : ℕ × ℕ) (l : List (ℕ × ℕ)) → r ≡ c → r.0 ≡ DONE → s ≡ refusal (d ∷ l) → s ≡ refusal (c ∷ d ∷ l)
unfolding refusal
refusal_on c d r s l e z q = q ∙ rw (eq-eqb c.0 DONE (cleared r.0 r.1 c e z))

pub refusal_last : (c d r s : ℕ × ℕ) → r ≡ c → r.0 ≡ DONE → s ≡ d → s ≡ refusal (c ∷ d ∷ [])
unfolding refusal
refusal_last c d r s e z q = refusal_on c d r s [] e z q

-- where none refuses each check is done
pub refusal_clear : (c d : ℕ × ℕ) (l : List (ℕ × ℕ)) → (refusal (c ∷ d ∷ l)).0 ≡ DONE → (c.0 ≡ DONE) × ((refusal (d ∷ l)).0 ≡ DONE)
unfolding refusal
refusal_clear c d l z = either (same? c.0 DONE)
    (λ e. (e, rw (eq-eqb c.0 DONE e) at z))
    (λ n. absurd (n (rw (ne_eqb c.0 DONE n) at z)))

pub long_clear : (most n : ℕ) → (long most n).0 ≡ DONE → n ≤ most
unfolding long unless
long_clear most n z = either (which (leb n most)) (λ t. leb-true n most t) (λ f. absurd (omega (arith, rw f at z)))

pub matching_clear : (n m : ℕ) → (matching n m).0 ≡ DONE → m ≡ n
unfolding matching unless
matching_clear n m z = either (which (eqb m n)) (λ t. eqb-true m n t) (λ f. absurd (omega (arith, rw f at z)))

pub alphabet_clear : (A : ℕ) → (alphabet A).0 ≡ DONE → (0 < A) × (A ≤ letters)
unfolding alphabet unless
alphabet_clear A z = either (which (both (leb 1 A) (leb A letters)))
    (λ t. let (p, q) = both_out (leb 1 A) (leb A letters) t in (leb-true 1 A p, leb-true A letters q))
    (λ f. absurd (omega (arith, rw f at z)))

pub sizes_clear : (A n : ℕ) → (sizes A n).0 ≡ DONE → (0 < A) × (A ≤ letters) × (n ≤ limit)
unfolding refusal
sizes_clear A n z =
    let (p, q) = refusal_clear (alphabet A) (long limit n) [] z in
    let (s, t) = alphabet_clear A p in
    (s, t, long_clear limit n q)

pub lent_clear : (A n m : ℕ) → (lent A n m).0 ≡ DONE → (0 < A) × (A ≤ letters) × (n ≤ limit) × (m ≡ n)
unfolding refusal
lent_clear A n m z =
    let (p, q) = refusal_clear (sizes A n) (matching n m) [] z in
    let (s, t, l) = sizes_clear A n p in
    (s, t, l, matching_clear n m q)

-- a check of a slice that is done is at place 0
pub lent_done : (A n m : ℕ) → (lent A n m).0 ≡ DONE → lent A n m ≡ (DONE, 0)
unfolding matching refusal
lent_done A n m z = let (p, q) = refusal_clear (sizes A n) (matching n m) [] z in
    sym (refusal_last (sizes A n) (matching n m) (sizes A n) (DONE, 0) refl p (unless_good (eqb m n) MISMATCH (eq-eqb m n (matching_clear n m q))))

pub lengths_clear : (A : ℕ) (x g : List ℕ) → (refusal (sizes A (length x) ∷ long limit (length g) ∷ matching (length x) (length g) ∷ [])).0 ≡ DONE
    → (length x ≤ limit) × (length g ≤ limit) × (length g ≡ length x)
unfolding refusal
lengths_clear A x g z =
    let (s, m) = refusal_clear (sizes A (length x)) (long limit (length g)) (matching (length x) (length g) ∷ []) z in
    let (l, e) = refusal_clear (long limit (length g)) (matching (length x) (length g)) [] m in
    ((sizes_clear A (length x) s).2, long_clear limit (length g) l, matching_clear (length x) (length g) e)

pub paired_clear : (A : ℕ) (x g : List ℕ) → (paired A x g).0 ≡ DONE → (length x ≤ limit) × (length g ≤ limit) × (length g ≡ length x)
paired_clear A x g z = lengths_clear A x g
    (refusal_clear (refusal (sizes A (length x) ∷ long limit (length g) ∷ matching (length x) (length g) ∷ [])) (cards A x) (cards A g ∷ []) z).0

pub named_clear : (n p : ℕ) → (n ≡ DONE → ⊥) → (named n p).0 ≡ DONE → p ≡ 0
unfolding named
named_clear n p d z = either (same? p 0) (λ e. e) (λ h. absurd (d (rw (ne_eqb p 0 h) at z)))

pub letter_below : (A c : ℕ) → c < first_letter → false ≡ letter A c
unfolding letter
letter_below A c h = sym (both_left (leb first_letter c) (ltb c (first_letter + A)) (lt-leb first_letter c h))

pub letter_in : (A c : ℕ) → first_letter ≤ c → c - first_letter < A → true ≡ letter A c
unfolding letter
letter_in A c h l = sym (both_true (leb first_letter c) (ltb c (first_letter + A)) (le-leb first_letter c h) (lt-ltb c (first_letter + A) (omega arith)))

pub letter_behind : (A c : ℕ) → first_letter ≤ c → A ≤ c - first_letter → false ≡ letter A c
unfolding letter
letter_behind A c h l = sym (both_right (leb first_letter c) (ltb c (first_letter + A)) (le-ltb c (first_letter + A) (omega arith)))

pub letter_test : (A c k : ℕ) → first_letter ≤ c → k ≡ c - first_letter → ltb k A ≡ letter A c
letter_test A c k h e = either (which (ltb k A))
    (λ t. t ∙ letter_in A c h (omega (arith, ltb-true k A t)))
    (λ f. f ∙ letter_behind A c h (omega (arith, ltb-false k A f)))

-- the walk over the cards of a row
pub outside_start : (A : ℕ) (x : List ℕ) → outside A x ≡ first_of (foreign A x) (run (0 + 1) (length x - 0))
unfolding outside
outside_start A x = first_start (foreign A x) (length x)

module _ (A : ℕ) (x : List ℕ) (i : ℕ) (left : outside A x ≡ first_of (foreign A x) (run (i + 1) (length x - i))) (t : Bool) (one : t ≡ letter A (get_or x i 0)) where
  here : t ≡ letter A (card x (i + 1))
  here = let e : i ≡ i + 1 - 1 = omega arith in one ∙ ap (λ (k : ℕ). letter A (get_or x k 0)) e ∙ ap (letter A) (card_index x (i + 1) (omega arith))

  pub outside_more : t ≡ true → outside A x ≡ first_of (foreign A x) (run (i + 1 + 1) (length x - (i + 1)))
  unfolding foreign
  outside_more p = first_more (foreign A x) (outside A x) i (length x) left (ap not (sym here ∙ p))

  pub cards_here : i < length x → t ≡ false → (CARD, i + 1) ≡ cards A x
  unfolding foreign cards
  cards_here h p = named_place CARD (i + 1) (λ z. omega arith)
      ∙ ap (named CARD) (first_here (foreign A x) (outside A x) i (length x) left h (ap not (sym here ∙ p)))

pub cards_none : (A : ℕ) (x : List ℕ) (i : ℕ) → outside A x ≡ first_of (foreign A x) (run (i + 1) (length x - i)) → length x ≤ i → (DONE, 0) ≡ cards A x
unfolding cards
cards_none A x i left h = named_none CARD (outside A x) (sym (first_none (foreign A x) (outside A x) i (length x) left h))

-- every number but 0 leaves a buffer as it came; with 0 it holds the new contents
pub kept_old : (r : ℕ × ℕ) (new old : List ℕ) → (r.0 ≡ DONE → ⊥) → kept r new old ≡ old
unfolding kept
kept_old r new old d = rw (ne_eqb r.0 DONE d)

pub kept_new : (r : ℕ × ℕ) (new old : List ℕ) → r.0 ≡ DONE → kept r new old ≡ new
unfolding kept
kept_new r new old z = rw (eq-eqb r.0 DONE z)

-- an answer with a buffer
pub answered_old : (n p : ℕ) (R : ℕ × ℕ) (new old : List ℕ) → (n, p) ≡ R → (n ≡ DONE → ⊥) → (n, p, old) ≡ answered R new old
unfolding answered kept
answered_old n p R new old e d = subst (λ (S : ℕ × ℕ). (n, p, old) ≡ answered S new old) e (rw (ne_eqb n DONE d))

pub answered_new : (n p : ℕ) (R : ℕ × ℕ) (new old out : List ℕ) → (n, p) ≡ R → n ≡ DONE → out ≡ new → (n, p, out) ≡ answered R new old
unfolding answered kept
answered_new n p R new old out e z q = subst (λ (S : ℕ × ℕ). (n, p, out) ≡ answered S new old) e (rw (eq-eqb n DONE z) (rw q))

-- an answer with a count: it is 0 beside every number but 0
pub counted_none : (n p : ℕ) (R : ℕ × ℕ) (k : ℕ) → (n, p) ≡ R → (n ≡ DONE → ⊥) → (n, p, 0) ≡ counted R k
unfolding counted given
counted_none n p R k e d = subst (λ (S : ℕ × ℕ). (n, p, 0) ≡ counted S k) e (rw (ne_eqb n DONE d))

pub counted_some : (n p : ℕ) (R : ℕ × ℕ) (k m : ℕ) → (n, p) ≡ R → n ≡ DONE → m ≡ k → (n, p, m) ≡ counted R k
unfolding counted given
counted_some n p R k m e z q = subst (λ (S : ℕ × ℕ). (n, p, m) ≡ counted S k) e (rw (eq-eqb n DONE z) (rw q))

-- the walk over two arrays
pub differing_start : (e f : List ℕ) → differing e f ≡ first_of (differs e f) (run (0 + 1) (length e - 0))
unfolding differing
differing_start e f = first_start (differs e f) (length e)

module _ (e f : List ℕ) (i : ℕ) (left : differing e f ≡ first_of (differs e f) (run (i + 1) (length e - i))) where
  same : (l : List ℕ) → get_or l i 0 ≡ at l (i + 1)
  same l = let e : i ≡ i + 1 - 1 = omega arith in at_index l (i + 1) (get_or l i 0) (omega arith) (ap (λ (k : ℕ). get_or l k 0) e)

  pub differing_none : length e ≤ i → differing e f ≡ 0
  differing_none h = sym (first_none (differs e f) (differing e f) i (length e) left h)

  pub differing_here : i < length e → (get_or e i 0 ≡ get_or f i 0 → ⊥) → i + 1 ≡ differing e f
  unfolding differs
  differing_here h d = first_here (differs e f) (differing e f) i (length e) left h (ap not (ne_eqb (at e (i + 1)) (at f (i + 1)) (λ z. d (same e ∙ z ∙ sym (same f)))))

  pub differing_more : get_or e i 0 ≡ get_or f i 0 → differing e f ≡ first_of (differs e f) (run (i + 1 + 1) (length e - (i + 1)))
  unfolding differs
  differing_more z = first_more (differs e f) (differing e f) i (length e) left (ap not (eq-eqb (at e (i + 1)) (at f (i + 1)) (sym (same e) ∙ z ∙ same f)))

-- 4 is given exactly where a card is outside the alphabet, at its first place
pub over_cards : (A : ℕ) (x : List ℕ) → over A x ≡ true → cards A x ≡ (DONE, 0)
unfolding over cards outside foreign
over_cards A x t = sym (named_none CARD (outside A x) (either (first_places (foreign A x) (length x))
    (λ m. m.place)
    (λ h. absurd (not_both h.passes (ap not (every_out (λ i. letter A (card x i)) t (places_in (length x) (suc h.behind) (omega arith) (omega (arith, h.within)))))))))

pub cards_over : (A : ℕ) (x : List ℕ) → (cards A x).0 ≡ DONE → over A x ≡ true
unfolding over cards outside named foreign
cards_over A x z = either (first_places (foreign A x) (length x))
    (λ m. every_in (λ i. letter A (card x i)) (places (length x)) (λ i j.
    let (p, q) = places_out (length x) i j in
    not-false (letter A (card x i)) (fits i p q m.none)))
    (λ h. absurd (four h.behind h.place))
  where
    fits : (i : ℕ) → 0 < i → i ≤ length x → ((k : ℕ) → 0 ≤ k → k < 0 + length x → foreign A x (suc k) ≡ false) → not (letter A (card x i)) ≡ false
    fits zero p q none = absurd (omega arith)
    fits (suc k) p q none = none k (omega arith) (omega arith)

    four : (k : ℕ) → first_of (foreign A x) (places (length x)) ≡ suc k → ⊥
    four k e = let w : CARD ≡ DONE = rw (ne_eqb (outside A x) 0 (λ y. omega arith)) at z in omega arith

pub cards_first : (A : ℕ) (x : List ℕ) (p : ℕ) → cards A x ≡ (CARD, p) → (p ≤ length x) × (letter A (card x p) ≡ false) × ((i : ℕ) → 0 < i → i < p → letter A (card x i) ≡ true)
unfolding cards outside named foreign
cards_first A x p e = either (first_places (foreign A x) (length x))
    (λ m. let w : DONE ≡ CARD = ap (λ (r : ℕ × ℕ). r.0) (rw (eq-eqb (outside A x) 0 m.place) at e) in absurd (omega arith))
    (λ h.
    let w : outside A x ≡ p = ap (λ (r : ℕ × ℕ). r.1) (rw (ne_eqb (outside A x) 0 (λ y. omega (arith, h.place))) at e) in
    let z : suc h.behind ≡ p = omega (arith, h.place) in (
      omega (arith, h.within),
      ap (λ (i : ℕ). letter A (card x i)) (sym z) ∙ not-true (letter A (card x (suc h.behind))) h.passes,
      λ i q l. good i q (omega arith) h.none,
    ))
  where
    good : {k : ℕ} (i : ℕ) → 0 < i → i ≤ k → ((j : ℕ) → 0 ≤ j → j < k → foreign A x (suc j) ≡ false) → letter A (card x i) ≡ true
    good zero q l none = absurd (omega arith)
    good (suc j) q l none = not-false (letter A (card x (suc j))) (none j (omega arith) l)
