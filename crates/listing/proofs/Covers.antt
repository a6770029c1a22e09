-- The least open value above another. Each possible value is open or is hidden behind one that is, its cover; so the least open value above v is the least
-- cover of the possible values above v, and only those whose own echo is not above v need be looked at: one for each letter. Assumes nothing.
use mathlib.Core.Path.{◌≡◌, refl, sym, ap, subst, ◌∙◌}
use mathlib.Core.Bool.{cond}
use Prim.Native.Nat.{ℕ, zero, suc, ◌+◌, ◌-◌, ◌≤◌, ◌<◌}
use native.Mathlib.Omega.{arith}
use native.Mathlib.Numerals.{add-one}
use lib.Dec.{eqb, ltb}
use borrow.Author.Tests.{eq-eqb, ne_eqb, ltb-true, ltb-false}
use Rattle.words.specs.Rows.{Small}
use Rattle.words.specs.Numbers.{DONE}
use Rattle.words.specs.Stand.{possible, weight}
use Rattle.std.specs.Prelude.{min}
use Rattle.words.proofs.Lists.{which, either, same?, In, In-nil, In-cons}
use Rattle.words.proofs.Rows.{down_ind, down_zero, down_suc}
use Rattle.arrays.specs.Steps.{Passes, Sound, peak}
use Rattle.arrays.proofs.Rules.{possible_above, possible_zero, possible_suc, possible_range, small_at, weight_open, weight_done, weighed_more, sound_at, sound_small, sound_part, passes_sound, echo_possible, walk_top, walk_hit, walk_on, peak_most}
use Rattle.arrays.proofs.Reasons.{above}
use Rattle.listing.specs.Values.{cover, Seeks, Lower, LeastValue}
use Rattle.listing.proofs.Values.{value_most, value_above, next_value, gap}

cover_zero : (E : ℕ → ℕ) (p : ℕ) → cover E p 0 ≡ p
unfolding cover
cover_zero E p = down_zero E p _

module _ {E : ℕ → ℕ} {n : ℕ} (sound : Sound E n) where
  small : Small E n
  small = sound_small n sound

  -- the walk's three ways at b + 1
  cover_here : (p b : ℕ) → b < n → p ≡ suc (suc b) → cover E p (suc b) ≡ p
  unfolding cover
  cover_here p b h e = down_suc small p _ b h ∙ rw (eq-eqb (suc (suc b)) p (sym e))

  cover_past : (p b : ℕ) → b < n → (p ≡ suc (suc b) → ⊥)
      → cover E p (suc b) ≡ cond (eqb (E (suc (suc b))) (cover E p (E (suc b)))) (suc (suc b)) (cover E p (E (suc b)))
  unfolding cover
  cover_past p b h d = down_suc small p _ b h ∙ rw (ne_eqb (suc (suc b)) p (λ e. d (sym e)))

  cover_hit : (p b : ℕ) → b < n → (p ≡ suc (suc b) → ⊥) → E (suc (suc b)) ≡ cover E p (E (suc b)) → cover E p (suc b) ≡ suc (suc b)
  cover_hit p b h d e = cover_past p b h d ∙ rw (eq-eqb (E (suc (suc b))) (cover E p (E (suc b))) e)

  cover_on : (p b : ℕ) → b < n → (p ≡ suc (suc b) → ⊥) → (E (suc (suc b)) ≡ cover E p (E (suc b)) → ⊥) → cover E p (suc b) ≡ cover E p (E (suc b))
  cover_on p b h d e = cover_past p b h d ∙ rw (ne_eqb (E (suc (suc b))) (cover E p (E (suc b))) e)

  behind : (p b : ℕ) → b < n → In p (possible E (suc b)) → (p ≡ suc (suc b) → ⊥) → In p (possible E (E (suc b)))
  behind p b h i d = either (In-cons (rw (possible_suc small b h) at i)) (λ e. absurd (d e)) (λ j. j)

  only_one : (p : ℕ) → In p (possible E 0) → p ≡ 1
  only_one p i = either (In-cons (rw (possible_zero E) at i)) (λ e. e) (λ j. absurd (In-nil j))

  -- a cover is open, and not below what it covers
  pub cover_open : (b : ℕ) → b < n → (p : ℕ) → In p (possible E b) → (weight E b (cover E p b) ≡ DONE) × (p ≤ cover E p b)
  cover_open b h = down_ind small (λ b. b < n → (p : ℕ) → In p (possible E b) → (weight E b (cover E p b) ≡ DONE) × (p ≤ cover E p b)) base step b (omega arith) h
    where
      base : 0 < n → (p : ℕ) → In p (possible E 0) → (weight E 0 (cover E p 0) ≡ DONE) × (p ≤ cover E p 0)
      base l p i = rw (cover_zero E p) (walk_top sound 0 p (omega arith) (only_one p i), omega arith)

      step : (b : ℕ) → b < n → (E (suc b) < n → (p : ℕ) → In p (possible E (E (suc b))) → (weight E (E (suc b)) (cover E p (E (suc b))) ≡ DONE) × (p ≤ cover E p (E (suc b))))
          → suc b < n → (p : ℕ) → In p (possible E (suc b)) → (weight E (suc b) (cover E p (suc b)) ≡ DONE) × (p ≤ cover E p (suc b))
      step b l rest k p i = let s = small.below b l in either (same? p (suc (suc b)))
          (λ e. rw (cover_here p b l e) (walk_top sound (suc b) p (omega arith) e, omega arith))
          (λ d. let (w, q) = rest (omega arith) p (behind p b l i d) in either (same? (E (suc (suc b))) (cover E p (E (suc b))))
          (λ e. rw (cover_hit p b l d e) (walk_top sound (suc b) _ (omega arith) refl, (possible_range small (suc b) (omega arith) p i).1))
          (λ f. let r = possible_range small (E (suc b)) (omega arith) _ (weight_done E (E (suc b)) (cover E p (E (suc b))) w).0 in
          rw (cover_on p b l d f) (walk_on sound b _ l (λ z. omega arith) f ∙ w, q)))

  -- what is open covers itself
  pub cover_self : (b : ℕ) → b < n → (m : ℕ) → weight E b m ≡ DONE → cover E m b ≡ m
  cover_self b h = down_ind small (λ b. b < n → (m : ℕ) → weight E b m ≡ DONE → cover E m b ≡ m) (λ l m w. cover_zero E m) step b (omega arith) h
    where
      step : (b : ℕ) → b < n → (E (suc b) < n → (m : ℕ) → weight E (E (suc b)) m ≡ DONE → cover E m (E (suc b)) ≡ m) → suc b < n → (m : ℕ) → weight E (suc b) m ≡ DONE → cover E m (suc b) ≡ m
      step b l rest k m w = either (same? m (suc (suc b)))
          (λ e. cover_here m b l e)
          (λ d. let f : E (suc (suc b)) ≡ m → ⊥ = λ e. omega (arith, w, walk_hit sound (suc b) m k (possible_above E (suc b) m (weight_done E (suc b) m w).0) e) in
          let c = rest (omega (arith, small.below b l)) m (sym (walk_on sound b m l d f) ∙ w) in
          cover_on m b l d (λ z. f (z ∙ c)) ∙ c)

  -- a possible value and its echo have one cover
  pub cover_echo : (b : ℕ) → b < n → (p : ℕ) → In p (possible E b) → 0 < E p → cover E (E p) b ≡ cover E p b
  cover_echo b h = down_ind small (λ b. b < n → (p : ℕ) → In p (possible E b) → 0 < E p → cover E (E p) b ≡ cover E p b) base step b (omega arith) h
    where
      base : 0 < n → (p : ℕ) → In p (possible E 0) → 0 < E p → cover E (E p) 0 ≡ cover E p 0
      base l p i z = absurd (omega (arith, small.below 0 l, ap E (only_one p i)))

      step : (b : ℕ) → b < n → (E (suc b) < n → (p : ℕ) → In p (possible E (E (suc b))) → 0 < E p → cover E (E p) (E (suc b)) ≡ cover E p (E (suc b)))
          → suc b < n → (p : ℕ) → In p (possible E (suc b)) → 0 < E p → cover E (E p) (suc b) ≡ cover E p (suc b)
      step b l rest k p i z = let s = small.below b l in either (same? p (suc (suc b)))
          (λ e. let q : E p ≡ E (suc (suc b)) = ap E e in let t = small.below (suc b) k in
          let (o, j, f) = sound_at sound (suc b) k (omega arith) in
          let c : cover E (E p) (E (suc b)) ≡ E p = rw q (cover_self (E (suc b)) (omega arith) _ (weight_open E (E (suc b)) _ j f)) in
          cover_hit (E p) b l (λ y. omega arith) (sym q ∙ sym c) ∙ sym e ∙ sym (cover_here p b l e))
          (λ d. let j = behind p b l i d in let r = possible_range small (E (suc b)) (omega arith) p j in
          let t = small_at small p r.0 (omega arith) in
          cover_past (E p) b l (λ y. omega arith)
          ∙ ap (λ (t : ℕ). cond (eqb (E (suc (suc b))) t) (suc (suc b)) t) (rest (omega arith) p j z)
          ∙ sym (cover_past p b l d))

-- `cover`
module _ (E : ℕ → ℕ) (b p : ℕ) (sound : Sound E (suc b)) (is : In p (possible E b)) where
  pub walk_here : b + 1 ≡ p → p ≡ cover E p b
  walk_here e = go b sound e
    where
      go : (b : ℕ) → Sound E (suc b) → b + 1 ≡ p → p ≡ cover E p b
      go zero s e = sym (cover_zero E p)
      go (suc b) s e = sym (cover_here s p b (omega arith) (omega arith))

  module _ (past : b + 1 ≡ p → ⊥) where
    pub walk_above : 0 < b
    walk_above = either (same? b 0)
        (λ z. absurd (past (omega (arith, z, only_one sound p (subst (λ (k : ℕ). In p (possible E k)) z is)))))
        (λ d. omega arith)

    module _ (y : ℕ) (e : y ≡ E b) where
      low : y < b
      low = omega (arith, small_at (sound_small (suc b) sound) b walk_above (omega arith))

      pub walk_falls : (t : ℕ) → b ≡ t → y < t
      walk_falls t z = omega (arith, low)

      pub walk_in : (n : ℕ) → b < n → y < n
      walk_in n h = omega (arith, low)

      pub walk_sound : Sound E (suc y)
      walk_sound = sound_part (suc y) (omega (arith, low)) sound

      -- one step, at b = c + 1
      module _ (P : ℕ → Type 0) (by : (c : ℕ) → b ≡ suc c → P (suc c)) where
        one_more : P b
        one_more = go b refl walk_above
          where
            go : (k : ℕ) → b ≡ k → 0 < k → P k
            go zero z l = absurd (omega arith)
            go (suc c) z l = by c z

      pub walk_possible : In p (possible E y)
      walk_possible = rw e (one_more (λ k. In p (possible E (E k))) (λ c z. behind sound p c (omega arith)
          (subst (λ (k : ℕ). In p (possible E k)) z is) (λ q. past (omega arith))))

      module _ (x t : ℕ) (echo : x ≡ E (b + 1)) (reached : t ≡ cover E p y) where
        pub walk_hit_cover : x ≡ t → b + 1 ≡ cover E p b
        walk_hit_cover h = one_more (λ k. k + 1 ≡ cover E p k) (λ c z. (let g : E (suc (suc c)) ≡ cover E p (E (suc c)) = ap E (omega arith) ∙ sym echo ∙ h ∙ reached ∙ ap (cover E p) (e ∙ ap E z) in
            rw add-one (sym (cover_hit sound p c (omega arith) (λ q. past (omega arith)) g))))

        pub walk_on_cover : (x ≡ t → ⊥) → t ≡ cover E p b
        walk_on_cover h = reached ∙ one_more (λ k. cover E p y ≡ cover E p k) (λ c z. (let g : cover E p y ≡ cover E p (E (suc c)) = ap (cover E p) (e ∙ ap E z) in
            g ∙ sym (cover_on sound p c (omega arith) (λ q. past (omega arith)) (λ q. h (echo ∙ ap E (omega arith) ∙ q ∙ sym g ∙ sym reached)))))

-- `least_open`: down the possible values from p
module _ (E : ℕ → ℕ) (i p v : ℕ) (seeks : Seeks E i p v) where
  passes : Passes seeks.sound.over E i
  passes = seeks.sound.passes

  echo_in : E i < i
  echo_in = small_at (sound_small i seeks.sound) i seeks.later (omega arith)

  pub lower_none : (r : ℕ) → r ≡ peak E i → p ≤ v → Lower E i p v r
  unfolding peak
  lower_none r e h = record {
    shows = rw e (go i seeks.later seeks.sound);
    above = omega (arith, seeks.low);
    least = λ q j l g. absurd (omega arith);
  }
    where
      go : (i : ℕ) → 0 < i → Sound E i → weight E (E i) (peak E i) ≡ DONE
      go zero l s = absurd (omega arith)
      go (suc i) l s = walk_top s (E (suc i)) _ (omega (arith, (sound_small (suc i) s).below i (omega arith))) refl

  module _ (more : v < p) where
    there_is : In p (possible E (E i))
    there_is = (above E i p (omega arith) seeks.value).1

    lower_at : p ≤ i
    lower_at = value_most passes p seeks.value

    pub lower_within : (n : ℕ) → i ≤ n → p ≤ n
    lower_within n h = omega (arith, lower_at)

    pub lower_below : (n : ℕ) → i ≤ n → p - 1 ≤ n
    lower_below n h = omega (arith, lower_at)

    module _ (b : ℕ) (is : b ≡ E i) where
      pub lower_in : (n : ℕ) → i ≤ n → b < n
      lower_in n h = omega (arith, echo_in)

      pub lower_sound : Sound E (suc b)
      lower_sound = sound_part (suc b) (omega (arith, echo_in)) seeks.sound

      pub lower_possible : In p (possible E b)
      lower_possible = rw is there_is

    module _ (k : ℕ) (next : k ≡ peak E (p - 1)) where
      pub lower_falls : (t : ℕ) → p ≡ t → k < t
      lower_falls t z = omega (arith, value_above passes p seeks.value (omega arith))

      pub lower_next : Seeks E i k v
      lower_next = record { later = seeks.later; sound = seeks.sound; value = rw next (next_value passes p seeks.value (omega arith)); low = seeks.low }

      -- the possible values up to p are p, and those up to the next
      rest_of : (r : ℕ) → ((q : ℕ) → In q (possible E (E i)) → q ≤ k → v < q → r ≤ cover E q (E i)) → r ≤ cover E p (E i)
          → (q : ℕ) → In q (possible E (E i)) → q ≤ p → v < q → r ≤ cover E q (E i)
      rest_of r below here q j l g = either (same? q p)
          (λ e. rw e here)
          (λ d. below q j (omega (arith, gap passes p q seeks.later lower_at there_is j (omega arith))) g)

      module _ (rest x : ℕ) (lower : Lower E i k v rest) (echo : x ≡ E p) where
        pub lower_far : v < x → Lower E i p v rest
        lower_far h = record {
          shows = lower.shows;
          above = lower.above;
          least = rest_of rest lower.least (rw (← cover_echo seeks.sound (E i) echo_in p there_is (omega arith))
              (lower.least (E p) (echo_possible seeks.sound (E i) echo_in p there_is (omega arith))
              (omega (
                arith,
                gap passes p (E p) seeks.later lower_at there_is (echo_possible seeks.sound (E i) echo_in p there_is (omega arith))
                    (small_at (sound_small i seeks.sound) p (omega arith) lower_at),
              ))
              (omega arith)));
        }

        module _ (b t : ℕ) (is : b ≡ E i) (covers : t ≡ cover E p b) where
          covers_at : t ≡ cover E p (E i)
          covers_at = covers ∙ ap (cover E p) is

          pub lower_this : t < rest → Lower E i p v t
          lower_this h = let (w, l) = cover_open seeks.sound (E i) echo_in p there_is in record {
            shows = rw covers_at w;
            above = omega (arith, covers_at);
            least = rest_of t (λ q j a g. omega (arith, lower.least q j a g)) (omega (arith, covers_at));
          }

          pub lower_kept : rest ≤ t → Lower E i p v rest
          lower_kept h = record { shows = lower.shows; above = lower.above; least = rest_of rest lower.least (omega (arith, covers_at)) }

          pub lower_min : (r : ℕ) → r ≡ min t rest → Lower E i p v r
          lower_min r e = either (which (ltb t rest))
              (λ l. subst (λ (x : ℕ). Lower E i p v x) (omega (arith, ltb-true t rest l)) (lower_this (ltb-true t rest l)))
              (λ l. subst (λ (x : ℕ). Lower E i p v x) (omega (arith, ltb-false t rest l)) (lower_kept (ltb-false t rest l)))

-- all the possible values looked at: the least value from v + 1 on that stands
pub lower_least : (A : ℕ) (E : ℕ → ℕ) (i p v r : ℕ) → Passes A E i → 0 < i → p ≡ peak E i → Lower E i p v r → LeastValue A E i (v + 1) r
lower_least A E zero p v r s l e lower = absurd (omega arith)
lower_least A E (suc i) p v r s l e lower = record {
  from = omega (arith, lower.above);
  stands = weighed_more A E i r (omega (arith, lower.above)) ∙ lower.shows;
  least = λ m g w.
      let d = sym (weighed_more A E i m (omega arith)) ∙ w in
      let b = (sound_small (suc i) (passes_sound s)).below i (omega arith) in
      rw (cover_self (passes_sound s) (E (suc i)) (omega arith) m d) at
      (lower.least m (weight_done E (E (suc i)) m d).0 (omega (arith, peak_most (suc i) m s w)) (omega arith));
}
