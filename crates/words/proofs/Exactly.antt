-- The numbers 8, 9 and 10, and the 0 of a guess: each is given exactly when the table says so. Assumes nothing.
use mathlib.Core.Path.{◌≡◌, refl, sym, ap, subst, ◌∙◌}
use mathlib.Core.Bool.{true, false}
use mathlib.Core.Logic.{◌↔◌}
use mathlib.Core.List.{List, [], ◌∷◌}
use Prim.Native.Nat.{ℕ, zero, suc, ◌≤◌, ◌<◌}
use native.Mathlib.Omega.{arith}
use lib.Dec.{ltb, leb, eqb}
use lib.ListN.{length}
use lib.Seq.{ext_get_or}
use borrow.Author.Tests.{eq-eqb, eqb-true, lt-leb, leb-false, ltb-true, ltb-false, not-true, not-false}
use Rattle.words.specs.Lists.{at}
use Rattle.words.specs.Rows.{card, echo, echoes}
use Rattle.words.specs.Numbers.{DONE, ROOM, LAST, DIFFERS, differs, differing, named, unless, refusal, sizes, rowed, paired}
use Rattle.words.specs.Stand.{Stands}
use Rattle.words.specs.Listing.{StandsAfter, Next}
use Rattle.words.specs.Sheet.{sheet}
use Rattle.words.specs.Outcomes.{sheet_outcome, guess_outcome, Steps, refuses, breaks, ends, steps}
use Rattle.words.proofs.Lists.{which, either, same?, not_both}
use Rattle.words.proofs.Places.{first_places, places_length}
use Rattle.words.proofs.Checks.{refusal_stop, refusal_last, refusal_clear, unless_good, unless_not, named_none, named_place, named_clear, paired_clear}
use Rattle.words.proofs.Bounds.{sizes_bounded, rowed_bounded, paired_bounded, verdict_low}

-- p is the first place where e and f differ
pub record Differ (e f : List ℕ) (p : ℕ) : Type 0 where
  pub place : 0 < p
  pub within : p ≤ length e
  pub here : at e p ≡ at f p → ⊥
  pub before : (i : ℕ) → 0 < i → i < p → at e i ≡ at f i

module _ (e f : List ℕ) where
  alike : (i : ℕ) → differs e f i ≡ false → at e i ≡ at f i
  unfolding differs
  alike i h = eqb-true (at e i) (at f i) (not-false (eqb (at e i) (at f i)) h)

  apart : (i : ℕ) → differs e f i ≡ true → at e i ≡ at f i → ⊥
  unfolding differs
  apart i h z = not_both (eq-eqb (at e i) (at f i) z) (not-true (eqb (at e i) (at f i)) h)

  -- they have the same at the places before the first where they differ
  earlier : {k : ℕ} → ((j : ℕ) → 0 ≤ j → j < k → differs e f (suc j) ≡ false) → (i : ℕ) → 0 < i → i ≤ k → at e i ≡ at f i
  earlier none zero p h = absurd (omega arith)
  earlier none (suc j) p h = alike (suc j) (none j (omega arith) h)

  pub differing_first : (p : ℕ) → 0 < p → differing e f ≡ p → Differ e f p
  unfolding differing
  differing_first p pos q = either (first_places (differs e f) (length e))
      (λ m. absurd (omega (arith, m.place)))
      (λ h.
      let z : suc h.behind ≡ p = omega (arith, h.place) in
      record {
        place = pos;
        within = omega (arith, h.within);
        here = subst (λ (i : ℕ). at e i ≡ at f i → ⊥) z (apart (suc h.behind) h.passes);
        before = λ i a b. earlier h.none i a (omega arith);
      })

  pub first_differing : (p : ℕ) → Differ e f p → differing e f ≡ p
  unfolding differing
  first_differing p d = either (first_places (differs e f) (length e))
      (λ m. absurd (d.here (earlier m.none p d.place (omega (arith, d.within)))))
      (λ h. either (which (ltb (suc h.behind) p))
      (λ t. absurd (apart (suc h.behind) h.passes (d.before (suc h.behind) (omega arith) (ltb-true (suc h.behind) p t))))
      (λ t. either (which (ltb p (suc h.behind)))
      (λ u. absurd (d.here (earlier h.none p d.place (omega (arith, ltb-true p (suc h.behind) u)))))
      (λ u. omega (arith, h.place, ltb-false (suc h.behind) p t, ltb-false p (suc h.behind) u))))

  pub differing_same : length e ≡ length f → differing e f ≡ 0 → e ≡ f
  unfolding differing at
  differing_same l q = either (first_places (differs e f) (length e))
      (λ m. ext_get_or 0 e f l (λ j h. alike (suc j) (m.none j (omega arith) (omega arith))))
      (λ h. absurd (omega (arith, h.place)))

  pub same_differing : e ≡ f → differing e f ≡ 0
  unfolding differing
  same_differing q = either (first_places (differs e f) (length e))
      (λ m. m.place)
      (λ h. absurd (apart (suc h.behind) h.passes (ap (λ (l : List ℕ). at l (suc h.behind)) q)))

-- the answer to a guess g at the hidden row x
module _ (A : ℕ) (x g : List ℕ) where
  told : (paired A x g).0 ≡ DONE → guess_outcome A x g ≡ named DIFFERS (differing (echoes x) (echoes g))
  unfolding guess_outcome
  told z = sym (refusal_last (paired A x g) (named DIFFERS (differing (echoes x) (echoes g))) (paired A x g) (named DIFFERS (differing (echoes x) (echoes g))) refl z refl)

  long : (paired A x g).0 ≡ DONE → length (echoes x) ≡ length (echoes g)
  unfolding echoes
  long z = places_length (echo (card x)) (length x) ∙ sym (paired_clear A x g z).2 ∙ sym (places_length (echo (card g)) (length g))

  clear : (guess_outcome A x g).0 ≡ DONE → (paired A x g).0 ≡ DONE
  unfolding guess_outcome
  clear q = (refusal_clear (paired A x g) (named DIFFERS (differing (echoes x) (echoes g))) [] q).0

  refused : ((paired A x g).0 ≡ DONE → ⊥) → paired A x g ≡ guess_outcome A x g
  unfolding guess_outcome
  refused d = refusal_stop (paired A x g) (named DIFFERS (differing (echoes x) (echoes g))) (paired A x g) [] refl d

  -- 0 exactly if no check refuses and the echoes are equal
  pub guess_same : ((guess_outcome A x g).0 ≡ DONE) ↔ (((paired A x g).0 ≡ DONE) × (echoes x ≡ echoes g))
  guess_same = (
    (λ q. let z = clear q in (z, differing_same (echoes x) (echoes g) (long z) (named_clear DIFFERS (differing (echoes x) (echoes g)) (λ n. omega arith) (ap (λ (r : ℕ × ℕ). r.0) (sym (told z)) ∙ q)))),
    (λ h. ap (λ (r : ℕ × ℕ). r.0) (told h.0 ∙ sym (named_none DIFFERS (differing (echoes x) (echoes g)) (same_differing (echoes x) (echoes g) h.1)))),
  )

  -- 10 exactly if no check refuses and the echoes differ, and then at the first place where they do
  pub guess_differs : (p : ℕ) → (guess_outcome A x g ≡ (DIFFERS, p)) ↔ (((paired A x g).0 ≡ DONE) × Differ (echoes x) (echoes g) p)
  guess_differs p = (
    (λ q. either (same? (paired A x g).0 DONE) (λ z. (z, first z (sym (told z) ∙ q))) (λ d. absurd (omega (arith, (paired_bounded A x g).number, ap (λ (r : ℕ × ℕ). r.0) (refused d ∙ q))))),
    (λ h. told h.0 ∙ ap (named DIFFERS) (first_differing (echoes x) (echoes g) p h.1) ∙ sym (named_place DIFFERS p (λ z. omega (arith, h.1.place)))),
  )
    where
      first : (paired A x g).0 ≡ DONE → named DIFFERS (differing (echoes x) (echoes g)) ≡ (DIFFERS, p) → Differ (echoes x) (echoes g) p
      first z q = either (same? (differing (echoes x) (echoes g)) 0)
          (λ n. absurd (omega (arith, ap (λ (r : ℕ × ℕ). r.0) (named_none DIFFERS (differing (echoes x) (echoes g)) n ∙ q))))
          (λ d. let e : differing (echoes x) (echoes g) ≡ p = ap (λ (r : ℕ × ℕ). r.1) (named_place DIFFERS (differing (echoes x) (echoes g)) d ∙ q) in
          differing_first (echoes x) (echoes g) p (omega arith) e)

-- 8 exactly if no check refuses the row and its sheet is longer than the buffer
pub sheet_room : (A : ℕ) (x old : List ℕ) → ((sheet_outcome A x old).0 ≡ ROOM) ↔ (((rowed A x).0 ≡ DONE) × (length old < length (sheet A x)))
unfolding sheet_outcome
sheet_room A x old = (
  (λ q. either (same? (rowed A x).0 DONE)
      (λ z. (z, longer (ap (λ (r : ℕ × ℕ). r.0) (last z) ∙ q)))
      (λ d. absurd (omega (arith, (rowed_bounded A x).number, ap (λ (r : ℕ × ℕ). r.0) (refusal_stop (rowed A x) room (rowed A x) [] refl d))))),
  (λ h. ap (λ (r : ℕ × ℕ). r.0) (sym (last h.0) ∙ sym (unless_not (leb (length (sheet A x)) (length old)) ROOM (lt-leb (length (sheet A x)) (length old) h.1)))),
)
  where
    room : ℕ × ℕ
    room = unless (leb (length (sheet A x)) (length old)) ROOM

    last : (rowed A x).0 ≡ DONE → room ≡ refusal (rowed A x ∷ room ∷ [])
    last z = refusal_last (rowed A x) room (rowed A x) room refl z refl

    longer : room.0 ≡ ROOM → length old < length (sheet A x)
    longer q = either (which (leb (length (sheet A x)) (length old)))
        (λ t. absurd (omega (arith, ap (λ (r : ℕ × ℕ). r.0) (unless_good (leb (length (sheet A x)) (length old)) ROOM t))))
        (λ f. leb-false (length (sheet A x)) (length old) f)

-- 9 exactly if no check refuses, the array stands, and no standing array of its length is greater
pub steps_last : (A : ℕ) (e : List ℕ) (r : ℕ × ℕ) (new : List ℕ) → Steps A e r new
    → (r.0 ≡ LAST) ↔ (((sizes A (length e)).0 ≡ DONE) × Stands A e × ((z : List ℕ) → StandsAfter A e z → ⊥))
unfolding Next
steps_last A e r new (refuses d q k) = (
  (λ h. absurd (omega (arith, (sizes_bounded A (length e)).number, ap (λ (s : ℕ × ℕ). s.0) q))),
  (λ h. absurd (d (ap (λ (s : ℕ × ℕ). s.0) q ∙ h.0))),
)
steps_last A e r new (breaks c n q k) = (
  (λ h. absurd (omega (arith, verdict_low A e, ap (λ (s : ℕ × ℕ). s.0) q))),
  (λ h. absurd (n h.1)),
)
steps_last A e r new (ends c s n q k) = ((λ h. (c, s, n)), (λ h. ap (λ (s : ℕ × ℕ). s.0) q))
steps_last A e r new (steps c s n q) = (
  (λ h. absurd (omega (arith, ap (λ (s : ℕ × ℕ). s.0) q))),
  (λ h. absurd (h.2 new n.is)),
)
