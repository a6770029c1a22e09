-- Writing the least row, card by card, in the code's terms. Assumes nothing.
use mathlib.Core.Path.{◌≡◌, refl, sym, ap, ap₂, subst, ◌∙◌}
use mathlib.Core.Bool.{Bool, true, false}
use mathlib.Core.List.{List, [], ◌∷◌, ◌++◌}
use Prim.Native.Nat.{ℕ, zero, suc, ◌+◌, ◌≤◌, ◌<◌}
use native.Mathlib.Omega.{arith}
use native.Mathlib.Numerals.{add-one}
use lib.Dec.{eqb}
use lib.ListN.{length, take, set}
use lib.Seq.{take-suc-set}
use borrow.Author.Tests.{eq-eqb, ne_eqb}
use Rattle.words.specs.Lists.{each, any}
use Rattle.words.specs.Rows.{card, Small, Alike}
use Rattle.words.specs.Numbers.{first_letter}
use Rattle.words.specs.Stand.{possible}
use Rattle.words.specs.Least.{least_not, free_letter, next_card, rebuilt}
use Rattle.words.proofs.Rows.{small_less, alike_at, alike_part, alike_refl, alike_sym}
use Rattle.arrays.specs.Steps.{Passes, Sound, Echoing}
use Rattle.words.proofs.Lists.{either, same?, each_same}
use Rattle.std.specs.Option.{MatchOption, unwrap_or}
use Rattle.std.specs.Prelude.{Option, None, Some}
use Rattle.arrays.proofs.Rules.{small_at, sound_small, passes_sound, passes_part, possible_zero, possible_suc, possible_range, weighed_room}
use Rattle.arrays.proofs.Behind.{behind_in, behind_sound}
use Rattle.arrays.proofs.Cards.{echoing_alike}
use Rattle.arrays.proofs.Growth.{fresh_tried, next_zero, next_more}
use Rattle.arrays.proofs.Alike.{behind_alike}
use Rattle.arrays.proofs.Places.{card_take}
use Rattle.arrays.proofs.Theorem.{rebuilt_echoing}

-- the ways out of `taken`
module _ (E X : ℕ → ℕ) (b c : ℕ) (sound : Sound E (suc b)) where
  pub taken_here : (x : ℕ) → x ≡ X (b + 1) → x ≡ c → true ≡ any (eqb c) (each X (possible E b))
  unfolding any each
  taken_here x w e = sym (go b sound (ap X (sym (add-one b)) ∙ sym w ∙ e))
    where
      go : (b : ℕ) → Sound E (suc b) → X (suc b) ≡ c → any (eqb c) (each X (possible E b)) ≡ true
      go zero s e = rw (possible_zero E, eq-eqb c (X 1) (sym e))
      go (suc b) s e = rw (possible_suc (sound_small (suc (suc b)) s) b (omega arith), eq-eqb c (X (suc (suc b))) (sym e))

  pub taken_end : (x : ℕ) → x ≡ X (b + 1) → (x ≡ c → ⊥) → b ≡ 0 → false ≡ any (eqb c) (each X (possible E b))
  unfolding any each
  taken_end x w d z = rw (z, possible_zero E, ne_eqb c (X 1) (λ e. d (w ∙ ap X (omega arith) ∙ sym e)))

  pub taken_on : (x y : ℕ) (r : Bool) → x ≡ X (b + 1) → y ≡ E b → (x ≡ c → ⊥) → (b ≡ 0 → ⊥) → r ≡ any (eqb c) (each X (possible E y)) → r ≡ any (eqb c) (each X (possible E b))
  unfolding any each
  taken_on x y r w e d z h = h ∙ rw e (sym (go b sound (λ q. d (w ∙ ap X (add-one b) ∙ q)) z))
    where
      go : (b : ℕ) → Sound E (suc b) → (X (suc b) ≡ c → ⊥) → (b ≡ 0 → ⊥) → any (eqb c) (each X (possible E b)) ≡ any (eqb c) (each X (possible E (E b)))
      go zero s d z = absurd (z refl)
      go (suc b) s d z = rw (possible_suc (sound_small (suc (suc b)) s) b (omega arith), ne_eqb c (X (suc (suc b))) (λ e. d (sym e)))

-- `least`: the first letter that `find` finds, or the byte behind the letters
module _ (l : List ℕ) where
  least_some : (f c i : ℕ) → c ≤ i → i < c + f → any (eqb i) l ≡ false → ((k : ℕ) → c ≤ k → k < i → any (eqb k) l ≡ true) → i ≡ least_not f c l
  unfolding least_not
  least_some zero c i a b n y = absurd (omega arith)
  least_some (suc f) c i a b n y = either (same? c i)
      (λ e. rw e (rw n (refl)))
      (λ d. rw (y c (omega arith) (omega arith)) (least_some f (suc c) i (omega arith) (omega arith) n (λ k g h. y k (omega arith) h)))

  least_none : (f c : ℕ) → ((k : ℕ) → c ≤ k → k < c + f → any (eqb k) l ≡ true) → c + f ≡ least_not f c l
  unfolding least_not
  least_none zero c y = omega arith
  least_none (suc f) c y = rw (y c (omega arith) (omega arith)) (omega (arith, least_none f (suc c) (λ k g h. y k (omega arith) (omega arith))))

  pub least_found : (f c r : ℕ) (o : Option ℕ) → MatchOption o ((k : ℕ) → c ≤ k → k < c + f → any (eqb k) l ≡ true)
      (λ i. (c ≤ i) × (i < c + f) × (any (eqb i) l ≡ false) × ((k : ℕ) → c ≤ k → k < i → any (eqb k) l ≡ true)) → r ≡ unwrap_or o (c + f) → r ≡ least_not f c l
  least_found f c r None y e = e ∙ least_none f c y
  least_found f c r (Some i) h e = e ∙ least_some f c i h.0 h.1 h.2 h.3

-- the ways out of `next_card`, where x has the first i cards of the least row
pub next_first : (E X : ℕ → ℕ) (i m : ℕ) → i ≡ 0 → first_letter ≡ next_card E X i m
unfolding next_card
next_first E X i m z = rw z

pub next_again : (E X : ℕ → ℕ) (i k m r : ℕ) → m ≡ k → (i ≡ 0 → ⊥) → (m ≡ 0 → ⊥) → r ≡ X m → r ≡ next_card E X i k
next_again E X zero k m r q d z h = absurd (d refl)
next_again E X (suc i) k m r q d z h = h ∙ ap X q ∙ sym (next_more E X i k (omega arith))

module _ (A : ℕ) (E : ℕ → ℕ) (i : ℕ) (passes : Passes A E (i + 1)) where
  -- the echo of the place before, and of the place itself
  pub before_in : (b n : ℕ) → b ≡ E i → (i ≡ 0 → ⊥) → i < n → b < n
  before_in b n e d h = behind_in A E i b (passes_part i (omega arith) passes) e d n (omega arith)

  pub before_sound : (b : ℕ) → b ≡ E i → (i ≡ 0 → ⊥) → Sound E (suc b)
  before_sound b e d = behind_sound A E i b (passes_part i (omega arith) passes) e d

  pub echo_in : (m n : ℕ) → m ≡ E (i + 1) → i < n → m ≤ n
  echo_in m n e h = omega (arith, small_at (sound_small (i + 1) (passes_sound passes)) (i + 1) (omega arith) (omega arith))

pub next_free : (A : ℕ) (E : ℕ → ℕ) (x : List ℕ) (i k b m r : ℕ) → Passes A E (i + 1) → take i x ≡ rebuilt E i → b ≡ E i → m ≡ E (i + 1) → m ≡ k → (i ≡ 0 → ⊥) → m ≡ 0
    → r ≡ least_not A first_letter (each (card x) (possible E b)) → r ≡ next_card E (card x) i k
next_free A E x zero k b m r p t e w q d z h = absurd (d refl)
next_free A E x (suc i) k b m r p t e w q d z h =
    let small = sound_small (suc i + 1) (passes_sound p) in
    let l = weighed_room A E i (E (suc (suc i))) (p.step (suc i) (omega arith)) (ap E (sym (add-one (suc i))) ∙ sym w ∙ z) in
    let has : Echoing (card x) E (suc i) = echoing_alike
    (alike_sym (subst (λ (y : List ℕ). Alike (card x) (card y) (suc i)) t (card_take x (suc i))))
    (alike_refl E (suc i))
    (rebuilt_echoing (suc i) (omega arith) (passes_part (suc i) (omega arith) p)) in
    h ∙ ap (λ (c : ℕ). least_not A first_letter (each (card x) (possible E c))) e
    ∙ fresh_tried has A (E (suc i)) (small_at small (suc i) (omega arith) (omega arith)) l
    ∙ sym (next_zero E (card x) i k (sym q ∙ z))

-- the loop: one card more
next_alike : {E X Y : ℕ → ℕ} (n m : ℕ) → Small E n → m ≤ n → Alike X Y n → next_card E X n m ≡ next_card E Y n m
unfolding next_card
next_alike zero m s l a = refl
next_alike {E} {X} {Y} (suc n) zero s l a = ap free_letter (each_same X Y (possible E (E (suc n)))
    (λ k i. let q = s.below n (omega arith) in let r = possible_range s (E (suc n)) (omega arith) k i in alike_at a k r.0 (omega arith)))
next_alike (suc n) (suc m) s l a = alike_at a (suc m) (omega arith) l

next_echoes : {E F : ℕ → ℕ} (X : ℕ → ℕ) (n m : ℕ) → Small E n → Alike E F n → next_card E X n m ≡ next_card F X n m
unfolding next_card
next_echoes X zero m s a = refl
next_echoes X (suc n) zero s a = ap (λ (l : List ℕ). free_letter (each X l)) (behind_alike a s (suc n) (omega arith) (omega arith))
next_echoes X (suc n) (suc m) s a = refl

-- the least row is made of the first n echoes alone
pub rebuilt_alike : {E F : ℕ → ℕ} (n : ℕ) → Small E n → Alike E F n → rebuilt E n ≡ rebuilt F n
unfolding rebuilt
rebuilt_alike zero s a = refl
rebuilt_alike {E} {F} (suc n) s a =
    let h = rebuilt_alike n (small_less n (omega arith) s) (alike_part n (omega arith) a) in
    let X = card (rebuilt E n) in
    ap₂ (λ (x : List ℕ) (c : ℕ). x ++ (c ∷ [])) h (
    next_echoes X n (E (suc n)) (small_less n (omega arith) s) (alike_part n (omega arith) a)
    ∙ ap₂ (λ (x : List ℕ) (m : ℕ). next_card F (card x) n m) h (a.same n (omega arith))
    )

pub write_none : (E : ℕ → ℕ) (x : List ℕ) → take 0 x ≡ rebuilt E 0
unfolding rebuilt
write_none E [] = refl
write_none E (a ∷ x) = refl

module _ (A : ℕ) (E : ℕ → ℕ) (n : ℕ) (passes : Passes A E n) where
  pub passed : (x : List ℕ) (i : ℕ) → length x ≡ n → i < length x → Passes A E (i + 1)
  passed x i g h = passes_part (i + 1) (omega arith) passes

  pub write_more : (x : List ℕ) (i c : ℕ) → take i x ≡ rebuilt E i → i < length x → length x ≡ n → c ≡ next_card E (card x) i (E (i + 1)) → take (i + 1) (set x i c) ≡ rebuilt E (i + 1)
  unfolding rebuilt
  write_more x i c t h g q =
      let s = sound_small (i + 1) (passes_sound (passed x i g h)) in
      let l = s.below i (omega arith) in
      let f : E (i + 1) ≡ E (suc i) = ap E (add-one i) in
      let d : c ≡ next_card E (card (rebuilt E i)) i (E (suc i)) = q ∙ ap (next_card E (card x) i) f
      ∙ next_alike i (E (suc i)) (small_less i (omega arith) s) l (card_take x i) ∙ ap (λ (y : List ℕ). next_card E (card y) i (E (suc i))) t in
      rw add-one (take-suc-set x i c (omega arith) ∙ ap₂ (λ (y : List ℕ) (z : ℕ). y ++ (z ∷ [])) t d)
