-- The walks and loops in the code's own terms: a lemma for each way out. Assumes nothing.
use mathlib.Core.Path.{◌≡◌, refl, sym, ap, subst, ◌∙◌}
use mathlib.Core.List.{List}
use Prim.Native.Nat.{ℕ, zero, suc, max, ◌+◌, ◌-◌, ◌≤◌, ◌<◌}
use native.Mathlib.Omega.{arith}
use native.Mathlib.Numerals.{add-one}
use lib.ListN.{length, get_or, take, drop, length-drop}
use lib.Seq.{length-take-le}
use borrow.Author.Tests.{eq-eqb, ne_eqb}
use Rattle.words.specs.Lists.{at, placed}
use Rattle.words.specs.Numbers.{limit}
use Rattle.words.specs.Rows.{card, Small, echo, echoes, looks_from, looks_at, looks_to, looks}
use Rattle.words.specs.Strips.{part, overlap}
use Rattle.words.proofs.Lists.{either, same?}
use Rattle.words.proofs.Places.{each_place, each_only, places_length, placed_long, placed_same, placed_other}
use Rattle.words.proofs.Rows.{looks_zero, small_alike, alike_sym}
use Rattle.rows.specs.Border.{Known, grown, Filling, Adding, Overlapping, resumed}
use Rattle.rows.proofs.Borders.{echo_below, echo_one, echo_small}
use Rattle.rows.proofs.Growing.{grown_here, grown_end, grown_on, echo_next, overlap_closes, overlap_on, overlap_full}
use Rattle.rows.proofs.Looking.{looks_hit, looks_on, looks_most}

-- what is known up to i is known up to any b below it
pub known_less : {X : ℕ → ℕ} {e : List ℕ} {i : ℕ} (b : ℕ) → Known X e i → b < i → Known X e b
known_less b k h = record { long = omega (arith, k.long); right = record { same = λ j l. k.right.same j (omega arith) } }

pub known_at : {X : ℕ → ℕ} {e : List ℕ} {b : ℕ} → Known X e b → 0 < b → at e b ≡ echo X b
known_at {X} {e} {b} k h = go b k h
  where
    go : (b : ℕ) → Known X e b → 0 < b → at e b ≡ echo X b
    go zero k h = absurd (omega arith)
    go (suc b) k h = k.right.same b (omega arith)

-- the cards in the code are at b + 1
pub extend_here : (X : ℕ → ℕ) (b c v : ℕ) → v ≡ X (b + 1) → v ≡ c → b + 1 ≡ grown X b c
extend_here X b c v e q = omega (arith, grown_here X b c (ap X (sym (add-one b)) ∙ sym e ∙ q))

pub extend_end : (X : ℕ → ℕ) (b c v : ℕ) → v ≡ X (b + 1) → (v ≡ c → ⊥) → b ≡ 0 → 0 ≡ grown X b c
extend_end X b c v e d z = grown_end X c (λ q. d (e ∙ ap X (ap (λ (m : ℕ). m + 1) z) ∙ q)) ∙ ap (λ (m : ℕ). grown X m c) (sym z)

pub look_end : (X : ℕ → ℕ) (b c : ℕ) → b ≡ 0 → 1 ≡ looks_from X (echo X) c b
look_end X b c z = sym (ap (looks_from X (echo X) c) z ∙ looks_zero X (echo X) c)

pub look_here : (X : ℕ → ℕ) (b c v : ℕ) → v ≡ X (b + 1) → v ≡ c → 1 ≡ looks_from X (echo X) c b
look_here X b c v e q = sym (looks_hit (echo_small X b) X c b (omega arith) (ap X (sym (add-one b)) ∙ sym e ∙ q))

-- the next number of a walk is the echo of b
module _ {X : ℕ → ℕ} {e : List ℕ} {b : ℕ} (known : Known X e b) (y : ℕ) (is : y ≡ at e b) (some : b ≡ 0 → ⊥) where
  next_echo : y ≡ echo X b
  next_echo = is ∙ known_at known (omega arith)

  next_below : y < b
  next_below = omega (arith, next_echo, echo_below X b (omega arith))

  pub next_falls : (t : ℕ) → b ≡ t → y < t
  next_falls t z = omega (arith, next_below)

  pub next_inside : (n : ℕ) → b < n → y < n
  next_inside n h = omega (arith, next_below)

  pub next_known : Known X e y
  next_known = known_less y known next_below

  pub extend_on : (c v r : ℕ) → v ≡ X (b + 1) → (v ≡ c → ⊥) → r ≡ grown X y c → r ≡ grown X b c
  extend_on c v r q d g = g ∙ ap (λ (m : ℕ). grown X m c) next_echo ∙ grown_on X b c some (λ z. d (q ∙ ap X (add-one b) ∙ z))

  pub extend_low : (r : ℕ) → r ≤ y + 1 → r ≤ b + 1
  extend_low r h = omega (arith, next_below)

  pub look_on : (c v r : ℕ) → v ≡ X (b + 1) → (v ≡ c → ⊥) → r ≡ looks_from X (echo X) c y → r + 1 ≡ looks_from X (echo X) c b
  look_on c v r q d g = omega (arith, g, ap (looks_from X (echo X) c) next_echo, go b some (λ z. d (q ∙ ap X (add-one b) ∙ z)))
    where
      go : (b : ℕ) → (b ≡ 0 → ⊥) → (X (suc b) ≡ c → ⊥) → looks_from X (echo X) c b ≡ suc (looks_from X (echo X) c (echo X b))
      go zero n d = absurd (n refl)
      go (suc b) n d = looks_on (echo_small X (suc b)) X c b (omega arith) d

  pub look_low : (r : ℕ) → r ≤ y + 1 → r + 1 ≤ b + 1
  look_low r h = omega (arith, next_below)

-- the echoes of a row, as a list
pub echoes_long : (x : List ℕ) → length (echoes x) ≡ length x
unfolding echoes
echoes_long x = places_length (echo (card x)) (length x)

pub echoes_at : (x : List ℕ) (i : ℕ) → i < length x → at (echoes x) (suc i) ≡ echo (card x) (suc i)
unfolding echoes
echoes_at x i h = each_place (echo (card x)) (length x) i h

pub echoes_known : (x e : List ℕ) → e ≡ echoes x → Known (card x) e (length x)
echoes_known x e q = record {
  long = omega (arith, ap length q, echoes_long x);
  right = record { same = λ i h. ap (λ (l : List ℕ). at l (suc i)) q ∙ echoes_at x i h };
}

pub echoes_small : (x e : List ℕ) → e ≡ echoes x → Small (at e) (length e)
echoes_small x e q = subst (λ (n : ℕ). Small (at e) n) (sym (ap length q ∙ echoes_long x)) (small_alike (alike_sym (echoes_known x e q).right) (echo_small (card x) (length x)))

-- the loop that fills a table
pub fill_start : (x e f : List ℕ) → length e ≡ length x → (length x ≡ 0 → ⊥) → f ≡ placed e 1 0 → Filling x f 0 1
fill_start x e f n d q =
    let l = ap length q ∙ placed_long e 1 0 in
    record {
      below = omega arith;
      within = omega arith;
      whole = omega arith;
      last = echo_one (card x);
      known = record { long = omega arith; right = record { same = λ i h. first i h } };
    }
  where
    first : (i : ℕ) → i < 1 → at f (suc i) ≡ echo (card x) (suc i)
    first i h =
        let z : 1 ≡ suc i = omega arith in
        subst (λ (m : ℕ). at f m ≡ echo (card x) m) z (ap (λ (l : List ℕ). at l 1) q ∙ placed_same e 1 0 (omega arith) (omega arith) ∙ echo_one (card x))

module _ {x e : List ℕ} {b i : ℕ} (filling : Filling x e b i) where
  module _ (c r : ℕ) (at-card : c ≡ card x (i + 1)) (grows : r ≡ grown (card x) b c) where
    fill_next : r ≡ echo (card x) (i + 1)
    fill_next = grows ∙ ap (grown (card x) b) at-card ∙ ap (λ (m : ℕ). grown (card x) m (card x (i + 1))) filling.last
        ∙ rw add-one (sym (echo_next (card x) i (omega (arith, filling.below))))

    pub fill_more : (f : List ℕ) → i < length x → f ≡ placed e (i + 1) r → Filling x f r (i + 1)
    fill_more f h p =
        let l = ap length p ∙ placed_long e (i + 1) r in
        record {
          below = omega (arith, fill_next, echo_below (card x) (i + 1) (omega arith));
          within = omega arith;
          whole = omega (arith, filling.whole);
          last = fill_next;
          known = record { long = omega (arith, filling.whole); right = record { same = λ j m. ap (λ (t : List ℕ). at t (suc j)) p ∙ entry j m } };
        }
      where
        entry : (j : ℕ) → j < i + 1 → at (placed e (i + 1) r) (suc j) ≡ echo (card x) (suc j)
        entry j m = either (same? (suc j) (i + 1))
            (λ w. ap (at (placed e (i + 1) r)) w ∙ placed_same e (i + 1) r (omega arith) (omega (arith, filling.whole)) ∙ fill_next ∙ ap (echo (card x)) (sym w))
            (λ d. placed_other e (i + 1) r (suc j) d ∙ filling.known.right.same j (omega arith))

  pub fill_done : length x ≤ i → e ≡ echoes x
  unfolding echoes
  fill_done h = each_only (echo (card x)) (length x) e filling.whole (λ j l. filling.known.right.same j (omega arith))

pub fill_none : (x e : List ℕ) → length x ≡ 0 → length e ≡ length x → e ≡ echoes x
unfolding echoes
fill_none x e z n = each_only (echo (card x)) (length x) e n (λ j l. absurd (omega arith))

-- the loop that adds up the looks
pub add_start : (x : List ℕ) → Adding x 0 1
unfolding looks_to looks_at
add_start x = record { some = omega arith; within = omega arith; low = omega arith; sum = omega arith }

module _ {x : List ℕ} {k i : ℕ} (adding : Adding x k i) (e : List ℕ) (whole : e ≡ echoes x) (inside : i < length x) where
  pub add_table : i ≤ length e
  add_table = omega (arith, ap length whole, echoes_long x)

  module _ (b : ℕ) (is : b ≡ at e i) where
    add_echo : b ≡ echo (card x) i
    add_echo = is ∙ known_at (known_less i (echoes_known x e whole) inside) adding.some

    pub add_inside : b < length x
    add_inside = omega (arith, add_echo, echo_below (card x) i adding.some)

    pub add_known : Known (card x) e b
    add_known = known_less b (echoes_known x e whole) add_inside

    pub add_more : (c r : ℕ) → c ≡ card x (i + 1) → r ≡ looks_from (card x) (echo (card x)) c b → Adding x (k + r) (i + 1)
    unfolding looks_to looks_at
    add_more c r z g = record { some = omega arith; within = omega arith; low = omega (arith, total, looks_most (card x) (i + 1)); sum = total }
      where
        E : ℕ → ℕ
        E = echo (card x)

        step : (i : ℕ) → 0 < i → looks_to (card x) E (suc i) ≡ looks_to (card x) E i + looks_from (card x) E (card x (suc i)) (E i)
        step zero p = absurd (omega arith)
        step (suc i) p = refl

        total : k + r ≡ looks_to (card x) E (i + 1)
        total = rw add-one (omega (
          arith,
          adding.sum,
          g,
          step i adding.some,
          ap (looks_from (card x) E c) add_echo,
          ap (λ (d : ℕ). looks_from (card x) E d (E i)) (z ∙ ap (card x) (add-one i)),
        ))

pub add_done : {x : List ℕ} {k i : ℕ} → Adding x k i → length x ≤ i → k ≡ looks x
unfolding looks looks_to looks_at
add_done {x} {k} {i} a h = go (length x) a.within h
  where
    go : (n : ℕ) → i ≤ max 1 n → n ≤ i → k ≡ looks_to (card x) (echo (card x)) n
    go zero l h = let z : i ≡ 1 = omega (arith, a.some) in a.sum ∙ ap (looks_to (card x) (echo (card x))) z
    go (suc n) l h = let z : i ≡ suc n = omega arith in a.sum ∙ ap (looks_to (card x) (echo (card x))) z

pub add_low : {x : List ℕ} {k i : ℕ} → Adding x k i → length x ≤ limit → k ≤ 8190
add_low a h = omega (arith, a.low, a.within)

pub last_is : (x e : List ℕ) (r : ℕ) → e ≡ echoes x → 0 < length x → r ≡ at e (length x) → r ≡ echo (card x) (length x)
last_is x e r q p z = z ∙ known_at (echoes_known x e q) p

pub last_fits : (x e : List ℕ) (r : ℕ) → e ≡ echoes x → 0 < length x → r ≡ at e (length x) → r ≤ length x
last_fits x e r q p z = omega (arith, last_is x e r q p z, echo_below (card x) (length x) p)

-- the walk of the overlap resumes
pub resume_full : (e : List ℕ) (b r : ℕ) → b ≡ length e → r ≡ at e b → r ≡ resumed (at e) (length e) b
unfolding resumed
resume_full e b r z q = q ∙ rw (eq-eqb b (length e) z)

pub resume_on : (e : List ℕ) (b : ℕ) → (b ≡ length e → ⊥) → b ≡ resumed (at e) (length e) b
unfolding resumed
resume_on e b d = rw (ne_eqb b (length e) d)

pub join_start : (x y e : List ℕ) → e ≡ echoes y → 0 < length y → Overlapping x y e 0 0
join_start x y e q p = let (c, f) = overlap_closes (card x) 0 (card y) (length y) in record {
  within = omega arith;
  some = p;
  whole = ap length q ∙ echoes_long y;
  table = q;
  fits = omega arith;
  last = omega (arith, c.short);
}

module _ {x y e : List ℕ} {b i : ℕ} (joins : Overlapping x y e b i) (r : ℕ) (goes : r ≡ resumed (at e) (length e) b) where
  resumes : (r < length y) × (overlap (card x) (suc i) (card y) (length y) ≡ grown (card y) r (card x (suc i)))
  unfolding resumed
  resumes = either (same? b (length e))
      (λ z.
      let w : r ≡ echo (card y) (length y) = goes ∙ rw (eq-eqb b (length e) z) (ap (at e) (z ∙ joins.whole) ∙ known_at (echoes_known y e joins.table) joins.some) in (
        omega (arith, echo_below (card y) (length y) joins.some),
        overlap_full (card x) i (card y) (length y) joins.some (sym joins.last ∙ z ∙ joins.whole) ∙ ap (λ (m : ℕ). grown (card y) m (card x (suc i))) (sym w),
      ))
      (λ d.
      let w : r ≡ b = goes ∙ rw (ne_eqb b (length e) d) in
      let l : b < length y = omega (arith, joins.fits, joins.whole) in (
        omega arith,
        overlap_on (card x) i (card y) (length y) (omega (arith, joins.last)) ∙ ap (λ (m : ℕ). grown (card y) m (card x (suc i))) (sym joins.last ∙ sym w),
      ))

  pub join_inside : r < length y
  join_inside = resumes.0

  pub join_known : Known (card y) e r
  join_known = known_less r (echoes_known y e joins.table) join_inside

  pub join_more : (s : ℕ) → i < length x → s ≡ grown (card y) r (get_or x i 0) → Overlapping x y e s (i + 1)
  unfolding card at
  join_more s h g =
      let q : s ≡ overlap (card x) (i + 1) (card y) (length y) = g ∙ sym resumes.1 ∙ rw add-one in
      let (k, f) = overlap_closes (card x) (i + 1) (card y) (length y) in
      record { within = omega arith; some = joins.some; whole = joins.whole; table = joins.table; fits = omega arith; last = q }

pub join_fits : (x y : List ℕ) (r : ℕ) → r ≡ overlap (card x) (length x) (card y) (length y) → r ≤ length y
join_fits x y r q = let (c, f) = overlap_closes (card x) (length x) (card y) (length y) in omega arith

-- a part from d to d + k has k cards
pub part_is : (x : List ℕ) (p : ℕ × ℕ) (d k : ℕ) → (take (d + k - d) (drop d x), (p.0, d + p.1)) ≡ part x p d k
unfolding part
part_is x p d k = let z : d + k - d ≡ k = omega arith in ap (λ (m : ℕ). (take m (drop d x), (p.0, d + p.1))) z

pub part_long : (x : List ℕ) (p : ℕ × ℕ) (d k : ℕ) → d + k ≤ length x → length (part x p d k).0 ≡ k
unfolding part
part_long x p d k h = length-take-le k (drop d x) (omega (arith, length-drop d x))
