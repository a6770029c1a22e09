-- Between lists and places: a row's cards, letters and echoes, and the verdict, each by place. Assumes nothing.
use mathlib.Core.Path.{◌≡◌, refl, sym, ap, ◌∙◌}
use mathlib.Core.Bool.{true, false}
use mathlib.Core.Logic.{◌⊎◌, inl, inr}
use mathlib.Core.List.{List, [], ◌∷◌, ◌++◌}
use Prim.Native.Nat.{ℕ, zero, suc, ◌+◌, ◌<◌}
use native.Mathlib.Omega.{arith}
use lib.Dec.{ltb, leb}
use lib.ListN.{length, get_or, take}
use lib.Seq.{get_or-append_seam, get_or-take}
use borrow.Author.Tests.{ltb-true, ltb-false, leb-true, eqb-true, eqb-false, not-true, not-false}
use Rattle.words.specs.Lists.{places, at}
use Rattle.words.specs.Rows.{card, echo, echoes, Alike}
use Rattle.words.specs.Numbers.{DONE, first_letter, letter, over}
use Rattle.words.specs.Stand.{weighed, number_at, fails, first_bad, verdict}
use Rattle.words.proofs.Lists.{which, either, same?, both_out, every_in, every_out}
use Rattle.words.proofs.Places.{each_place, each_only, places_length, places_in, places_out, first_places}
use Rattle.words.proofs.Checks.{cleared, letter_in}
use Rattle.arrays.specs.Steps.{Passes, Inside, Bad}
use Rattle.arrays.proofs.Cards.{inside_at}

-- the cards of a row with one card behind it, and of a part of a row
pub card_before : (x : List ℕ) (c : ℕ) → Alike (card x) (card (x ++ (c ∷ []))) (length x)
unfolding card at
card_before x c = record { same = go x }
  where
    go : (x : List ℕ) (i : ℕ) → i < length x → get_or x i 0 ≡ get_or (x ++ (c ∷ [])) i 0
    go [] i h = absurd (omega arith)
    go (a ∷ x) zero h = refl
    go (a ∷ x) (suc i) h = go x i (omega arith)

pub card_last : (x : List ℕ) (c : ℕ) → card (x ++ (c ∷ [])) (suc (length x)) ≡ c
unfolding card at
card_last x c = get_or-append_seam x c [] 0

pub card_take : (x : List ℕ) (i : ℕ) → Alike (card x) (card (take i x)) i
unfolding card at
card_take x i = record { same = λ k h. sym (get_or-take i x k 0 h) }

-- a row over A
pub over_inside : (A : ℕ) (x : List ℕ) → over A x ≡ true → Inside A (card x) (length x)
unfolding over letter
over_inside A x o = record {
  letter = λ i h.
      let (l, u) = both_out (leb first_letter (card x (suc i))) (ltb (card x (suc i)) (first_letter + A)) (every_out (λ k. letter A (card x k)) o (places_in (length x) (suc i) (omega arith) h)) in
      (leb-true _ _ l, ltb-true _ _ u);
}

pub inside_over : (A : ℕ) (x : List ℕ) → Inside A (card x) (length x) → over A x ≡ true
unfolding over
inside_over A x inside = every_in (λ k. letter A (card x k)) (places (length x))
    (λ m j. let (p, l) = places_out (length x) m j in let (q, r) = inside_at inside m p l in sym (letter_in A (card x m) q (omega arith)))

-- the echoes of a row
pub echoes_alike : (x e : List ℕ) → echoes x ≡ e → (length x ≡ length e) × Alike (echo (card x)) (at e) (length e)
unfolding echoes
echoes_alike x e h =
    let l : length x ≡ length e = sym (places_length (echo (card x)) (length x)) ∙ ap length h in
    (l, record { same = λ i g. sym (each_place (echo (card x)) (length x) i (omega arith)) ∙ ap (λ (k : List ℕ). at k (suc i)) h })

pub alike_echoes : (x e : List ℕ) → length x ≡ length e → Alike (echo (card x)) (at e) (length e) → echoes x ≡ e
unfolding echoes
alike_echoes x e l a = sym (each_only (echo (card x)) (length x) e (sym l) (λ i h. sym (a.same i (omega arith))))

-- the verdict: every place passes, or it names the first that does not
fails_not : (A : ℕ) (E : ℕ → ℕ) (i : ℕ) → fails A E (suc i) ≡ false → weighed A E i (E (suc i)) ≡ DONE
unfolding fails number_at
fails_not A E i f = eqb-true _ _ (not-false _ f)

fails_out : (A : ℕ) (E : ℕ → ℕ) (i : ℕ) → fails A E (suc i) ≡ true → weighed A E i (E (suc i)) ≡ DONE → ⊥
unfolding fails number_at
fails_out A E i t = eqb-false _ _ (not-true _ t)

pub judged : (A : ℕ) (e : List ℕ) → ((verdict A e ≡ (DONE, 0)) × Passes A (at e) (length e)) ⊎ Bad A e
unfolding verdict first_bad number_at
judged A e = either (first_places (fails A (at e)) (length e))
    (λ m. inl (rw m.place, record { step = λ i h. fails_not A (at e) i (m.none i (omega arith) (omega arith)) }))
    (λ m. inr (record {
      behind = m.behind;
      within = omega (arith, m.within);
      passes = record { step = λ i h. fails_not A (at e) i (m.none i (omega arith) h) };
      bad = fails_out A (at e) m.behind m.passes;
      says = rw m.place;
    }))

pub verdict_passes : (A : ℕ) (e : List ℕ) → (verdict A e).0 ≡ DONE → Passes A (at e) (length e)
verdict_passes A e v = either (judged A e) (λ p. p.1) (λ b. absurd (b.bad (sym (ap (λ (t : ℕ × ℕ). t.0) b.says) ∙ v)))

pub passes_verdict : (A : ℕ) (e : List ℕ) → Passes A (at e) (length e) → verdict A e ≡ (DONE, 0)
passes_verdict A e p = either (judged A e) (λ q. q.0) (λ b. absurd (b.bad (p.step b.behind b.within)))

pub verdict_bad : (A : ℕ) (e : List ℕ) (i : ℕ) → Passes A (at e) i → i < length e → (weighed A (at e) i (at e (suc i)) ≡ DONE → ⊥)
    → verdict A e ≡ (weighed A (at e) i (at e (suc i)), suc i)
verdict_bad A e i p h d = either (judged A e)
    (λ q. absurd (d (q.1.step i h)))
    (λ b. either (same? b.behind i)
    (λ z. b.says ∙ ap (λ (k : ℕ). (weighed A (at e) k (at e (suc k)), suc k)) z)
    (λ n. either (which (ltb i b.behind))
    (λ t. absurd (d (b.passes.step i (ltb-true i b.behind t))))
    (λ f. absurd (b.bad (p.step b.behind (omega (arith, ltb-false i b.behind f)))))))

pub verdict_done : (A : ℕ) (e : List ℕ) (w p : ℕ) → (w, p) ≡ verdict A e → w ≡ DONE → verdict A e ≡ (DONE, 0)
verdict_done A e w p v z = passes_verdict A e (verdict_passes A e (cleared w p (verdict A e) v z))
